use Rattle.std.proofs.Common.{ap, subst, sym, ◌∙◌}
use Rattle.abi_scalar.specs.Layout.{Layout}
use Rattle.abi_bytes.specs.GoesInto.{stored_of}
use Rattle.abi_bytes.specs.Answers.{SaysFromZeros}
use Rattle.abi_bytes.proofs.AnswerLemmas.{some_of, zeros_found}
use Rattle.abi_bytes.proofs.answers.is_from_zeros.Goals as goal

pub returns-in-Some : goal.returns-in-Some
returns-in-Some c =
    let a = stored_of c.args.laid.now in
    subst (SaysFromZeros a) (sym c.zeros_from.ensures)
    (zeros_found a _ _ _ c.in_ok-zeros.zeros c.in-Some.place c.bytes-size.result c.in_ok-inclusion.inclusion (c.bytes-size.ensures ∙ ap (λ (l : Layout). l.size) c.layout.ensures)
    (some_of c.in_ok-place.field-0 c.in-Some.place _ c.in-Some.is c.in_ok-place.ensures.formula) c.in_ok-zeros.ensures c.in_ok-inclusion.ensures.inclusion)
