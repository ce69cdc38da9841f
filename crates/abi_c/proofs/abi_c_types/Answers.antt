use Rattle.std.proofs.Common.{arith, inl, inr, refl, subst}
use Rattle.std.specs.Prelude.{string_bytes}
use Rattle.abi_c.specs.Lent.{Lent}
use Rattle.abi_c.specs.Source.{memory_document}
use Rattle.abi_c.proofs.abi_c_types.Goals as goal

pub returns-in-Ok : goal.returns-in-Ok
returns-in-Ok c = (
  string_bytes c.in-Ok.answer.text,
  inl c.in-Ok.ensures,
  c.status.ensures.most,
  subst (λ t. Lent c.args.output.now c.lend.new.output t c.lend.new.needed) c.as_bytes.ensures.value c.lend.ensures,
)

pub returns-in-Err : goal.returns-in-Err
returns-in-Err c = (memory_document, inr (refl, refl), omega arith, c.lend-in-Err.ensures)
