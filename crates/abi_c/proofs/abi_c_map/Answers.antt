use Rattle.std.proofs.Common.{refl, sym, ◌∙◌}
use Rattle.abi_text.proofs.OneOutput.{one_output}
use Rattle.abi_text.proofs.SomeOutput.{some_output}
use Rattle.abi_map.specs.Map.{ReportsMap, called_text, map_text}
use Rattle.abi_c.proofs.abi_c_map.Goals as goal

pub returns-clause-some : goal.returns-clause-some
returns-clause-some c all = some_output ReportsMap (λ dl tree p law laying. (map_text called_text dl p, refl)) all

pub returns-clause-one : goal.returns-clause-one
returns-clause-one c all a b h k = one_output ReportsMap (λ dl tree p x y law laying this that. this ∙ sym that) all a b h k
