use Rattle.std.proofs.Common.{refl}
use Rattle.abi_base.specs.DataLayoutSpec.{space_in}
use Rattle.abi_base.proofs.parse_spec.space.Goals as goal

pub returns-in-Ok : goal.returns-in-Ok
unfolding space_in
returns-in-Ok c =
    rw (← c.in-Ok.ensures) refl

pub returns-in-Err : goal.returns-in-Err
unfolding space_in
returns-in-Err c =
    rw (← c.in-Err.ensures) refl
