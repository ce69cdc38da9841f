use Rattle.std.proofs.Common.{inl, inr, refl, subst, sym}
use Rattle.std.proofs.lemmas.Result.{IfOk-weaker}
use Rattle.abi_base.specs.declared.endian.Endian.{Endian}
use Rattle.abi_tree.specs.Holding.{Holds}
use Rattle.abi_tree.specs.Laid.{placed_of}
use Rattle.abi_tree.specs.Value.{value_of}
use Rattle.abi_c.proofs.Replies.{reply_none}
use Rattle.abi_c.proofs.values.numbers_of_bytes.Goals as goal

pub returns-in-Some : goal.returns-in-Some
returns-in-Some c =
    let finds = rw c.in-Some.is at c.in_ok-value.ensures.finds in
    let value = rw c.in-Some.is at c.in_ok-value.ensures.value in
    let one = rw c.in-Some.is at c.in_ok-value.ensures.one in
    IfOk-weaker c.value_numbers.result _ _
    (λ a is dl t kept. inl (
      value_of c.in-Some.value,
      record {
        holds = subst (λ (o : Endian). Holds o (placed_of c.args.laid.now) c.args.bytes.now (value_of c.in-Some.value)) kept.order finds;
        value = λ locals. value dl t (kept.keeps locals);
        only = λ locals u held. one dl t (kept.keeps locals) u (subst (λ (o : Endian). Holds o (placed_of c.args.laid.now) c.args.bytes.now u) (sym kept.order) held);
      },
      is,
    ))
    c.value_numbers.ensures

pub returns-in-None : goal.returns-in-None
returns-in-None c = λ dl t kept.
    let none = rw c.in-None.is at c.in_ok-value.ensures.finds in
    inr (
      (λ v held. none v (subst (λ (o : Endian). Holds o (placed_of c.args.laid.now) c.args.bytes.now v) (sym kept.order) held)),
      reply_none c.new.result.items _ c.new.ensures.items refl,
    )
