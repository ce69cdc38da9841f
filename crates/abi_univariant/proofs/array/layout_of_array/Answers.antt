use Rattle.std.proofs.Common.{rules, arith, refl, inl, inr}
use Rattle.abi_univariant.proofs.Views.Lawful.{array_lawful}
use Rattle.abi_univariant.proofs.array.layout_of_array.Goals as goal
use Rattle.abi_univariant.proofs.array.layout_of_array.Goals.{then-count-eq0, else-count-eq0}

pub returns-clause-lawful : goal.returns-clause-lawful
returns-clause-lawful g c =
    array_lawful _ c.args.element.now _ c.new.result c.is_some.result c.unwrap_or-count.result c.requires.element
    (search rules) (search rules) refl
    (elim c.if-count-eq0.branch [
      | then-count-eq0 w ↦ inl w.result-is
      | else-count-eq0 w ↦ inr (w.result-is, omega arith)
    ])
    refl refl
