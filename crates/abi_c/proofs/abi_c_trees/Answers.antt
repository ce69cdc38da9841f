use Rattle.std.proofs.Common.{[], ◌∷◌, inl, inr, refl, subst}
use Rattle.abi_c.specs.Flat.{reply_of}
use Rattle.abi_c.specs.Lent.{Lent}
use Rattle.abi_c.proofs.abi_c_trees.Goals as goal

pub returns-in-Ok : goal.returns-in-Ok
returns-in-Ok c = (
  reply_of c.in-Ok.answer,
  inl c.in-Ok.ensures,
  refl,
  subst (λ ns. Lent c.args.types.now c.lend.new.output ns c.lend.new.needed) c.as_slice.ensures.value c.lend.ensures,
)

pub returns-in-Err : goal.returns-in-Err
returns-in-Err c = (record { status = 1; numbers = 0 ∷ [] }, inr refl, refl, c.lend-in-Err.ensures)
