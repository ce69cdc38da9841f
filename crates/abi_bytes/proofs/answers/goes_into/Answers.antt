use Rattle.std.proofs.Common.{ap, subst, sym, ◌∙◌}
use Rattle.abi_scalar.specs.Layout.{Layout}
use Rattle.abi_bytes.specs.GoesInto.{stored_of}
use Rattle.abi_bytes.specs.Answers.{SaysGoes}
use Rattle.abi_bytes.proofs.AnswerLemmas.{goes_found, some_of}
use Rattle.abi_bytes.proofs.answers.goes_into.Goals as goal

pub returns-in-Some-2 : goal.returns-in-Some-2
returns-in-Some-2 c =
    let a = stored_of c.args.a.now in
    let b = stored_of c.args.b.now in
    subst (SaysGoes a b) (sym c.goes_of.ensures)
    (goes_found a b _ _ _ c.in-Some.one c.in-Some-2.other c.bytes-size.result c.bytes.result c.in_ok-inclusion.inclusion
    (c.bytes-size.ensures ∙ ap (λ (l : Layout). l.size) c.layout.ensures) (c.bytes.ensures ∙ ap (λ (l : Layout). l.size) c.layout-2.ensures) c.if-size-bytes.false
    (some_of c.in_ok-one.field-0 c.in-Some.one _ c.in-Some.is c.in_ok-one.ensures.formula)
    (some_of c.in_ok-other.field-0 c.in-Some-2.other _ c.in-Some-2.is c.in_ok-other.ensures.formula)
    c.in_ok-inclusion.ensures.inclusion)
