use Rattle.std.proofs.Common.{refl, sym, ◌∙◌}
use Rattle.abi_text.specs.Printing.{type_text}
use Rattle.abi_text.specs.Report.{ReportsLayout}
use Rattle.abi_text.proofs.OneOutput.{one_output}
use Rattle.abi_text.proofs.SomeOutput.{some_output}
use Rattle.abi_c.proofs.abi_c_layout.Goals as goal

pub returns-clause-one : goal.returns-clause-one
returns-clause-one c all a b h k = one_output ReportsLayout (λ dl t p x y law laying this that. this ∙ sym that) all a b h k

pub returns-clause-some : goal.returns-clause-some
returns-clause-some c all = some_output ReportsLayout (λ dl t p law laying. (type_text p, refl)) all
