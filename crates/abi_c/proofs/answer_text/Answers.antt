use Rattle.std.proofs.Common.{refl, subst, inl, inr}
use Rattle.abi_text.specs.Output.{answered_by, out_of_memory}
use Rattle.abi_c.specs.Lent.{Lent}
use Rattle.abi_c.proofs.answer_text.Goals as goal

pub returns-in-Ok : goal.returns-in-Ok
returns-in-Ok g c = (
  answered_by c.in-Ok.answer,
  inl c.in-Ok.ensures,
  refl,
  subst (λ t. Lent c.args.output.now c.lend.new.output t c.lend.new.needed) c.as_bytes.ensures.value c.lend.ensures,
)

pub returns-in-Err : goal.returns-in-Err
returns-in-Err g c = (out_of_memory, inr refl, refl, c.lend-in-Err.ensures)
