use Rattle.std.proofs.Common.{inl, inr, refl, subst}
use Rattle.abi_base.specs.declared.endian.Endian.{Endian}
use Rattle.abi_tree.specs.Holding.{Holds}
use Rattle.abi_tree.specs.Laid.{placed_of}
use Rattle.abi_tree.specs.Value.{value_of}
use Rattle.abi_c.proofs.Replies.{reply_none}
use Rattle.abi_c.proofs.values.bytes_of_value.Goals as goal

pub returns-in-Ok : goal.returns-in-Ok
returns-in-Ok c = λ dl t kept. inl (
  refl,
  record {
    holds = subst (λ (o : Endian). Holds o (placed_of c.args.laid.now) c.in-Ok.bytes.items (value_of c.args.value.now)) kept.order c.in-Ok.ensures.holds;
    uncovered = c.in-Ok.ensures.zero;
    value = λ locals. c.in-Ok.ensures.value dl t (kept.keeps locals);
  },
)

pub returns-in-Err-NotAValue : goal.returns-in-Err-NotAValue
returns-in-Err-NotAValue c = λ dl t kept. inr (
  reply_none c.new.result.items _ c.new.ensures.items refl,
  (λ locals is. c.in-Err-NotAValue.ensures.not_a_value c.in-Err-NotAValue.field-0-is dl t (kept.keeps locals) is),
)
