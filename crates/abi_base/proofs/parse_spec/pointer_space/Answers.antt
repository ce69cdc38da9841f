use Rattle.std.proofs.Common.{refl, codes}
use Rattle.abi_base.specs.DataLayoutSpec.{pointer_space, space_in}
use Rattle.abi_base.proofs.Specs.{same_reading}
use Rattle.abi_base.proofs.parse_spec.pointer_space.Goals as goal

pub returns-then-is_empty : goal.returns-then-is_empty
unfolding pointer_space
returns-then-is_empty c =
    rw (← c.if-is_empty.ensures) refl

pub returns-else-is_empty : goal.returns-else-is_empty
unfolding pointer_space
returns-else-is_empty c =
    same_reading (pointer_space c.args.text.now) (space_in c.args.text.now (codes "p-")) c.space.result (rw (← c.if-is_empty.ensures) refl) c.space.ensures
