use Rattle.std.proofs.Common.{refl, sym, ◌∙◌}
use Rattle.abi_text.proofs.OneOutput.{one_output}
use Rattle.abi_text.proofs.SomeOutput.{some_output}
use Rattle.abi_map.specs.Map.{ReportsMap, called_text, map_text}
use Rattle.abi_map.proofs.PaddingLemmas.{padding_named}
use Rattle.abi_map.proofs.RunLemmas.{runs_follow}
use Rattle.abi_map.proofs.run.run_map.Goals as goal

pub returns-clause-some : goal.returns-clause-some
returns-clause-some g c all = some_output ReportsMap (λ dl tree p law laying. (map_text called_text dl p, refl)) all

pub returns-clause-one : goal.returns-clause-one
returns-clause-one g c all a b h k = one_output ReportsMap (λ dl tree p x y law laying this that. this ∙ sym that) all a b h k

pub returns-clause-runs : goal.returns-clause-runs
returns-clause-runs g c = runs_follow

pub returns-clause-padding : goal.returns-clause-padding
returns-clause-padding g c = padding_named
