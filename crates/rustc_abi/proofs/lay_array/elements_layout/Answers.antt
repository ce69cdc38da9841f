use Rattle.std.proofs.Common.{sym, subst}
use Rattle.abi_scalar.specs.Lawful.{IsLawfulLayout}
use Rattle.rustc_abi.proofs.lay_array.elements_layout.Goals as goal

pub layout_of_array_like-answer-requires-clause-element : goal.layout_of_array_like-answer-requires-clause-element
layout_of_array_like-answer-requires-clause-element c =
    rw c.new.ensures (subst (IsLawfulLayout c.args.dl.now) (sym c.layout.ensures) c.requires.lawful)
