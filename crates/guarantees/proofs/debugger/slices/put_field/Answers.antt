-- What was read is the only value that is held, and the changed one was written.
use Rattle.std.proofs.Common.{◌≡◌, Err, Ok, Result, subst, sym, ◌∙◌}
use Rattle.std.specs.Prelude.{IfErr}
use Rattle.std.specs.Result.{IsErrAnd}
use Rattle.abi_tree.specs.declared.value.error.ValueError.{ValueError}
use Rattle.abi_tree.specs.Holding.{Holds}
use Rattle.abi_tree.specs.Laid.{endian_of, placed_of}
use Rattle.abi_tree.specs.Value.{Values, list, value_of}
use Rattle.abi_tree.specs.Values.{IsValueOf}
use Rattle.guarantees.specs.Field.{with_value}
use Rattle.guarantees.proofs.Held.{inj-list, only_read}
use Rattle.guarantees.proofs.debugger.slices.put_field.Goals as goal

-- what holds of the error that was handed on
err_so : {A E : Type 0} (r : Result A E) (Q P : E → Type 0) → IsErrAnd r Q → ((e : E) → Q e → P e) → IfErr r P
err_so (Ok a) Q P h f = tt
err_so (Err e) Q P h f = f e h

pub returns-in_default-clause-none : goal.returns-in_default-clause-none
returns-in_default-clause-none c = λ is vs h.
    let none = rw c.in_default.is at c.in_ok-held.ensures.finds in
    absurd (none (list vs) h)

pub returns-in_err-write_value-in-Some-list_with-clause-not_a_value : goal.returns-in_err-write_value-in-Some-list_with-clause-not_a_value
returns-in_err-write_value-in-Some-list_with-clause-not_a_value c =
    err_so c.from_residual-in_err-write_value-in-Some-list_with.result _ _ c.from_residual-in_err-write_value-in-Some-list_with.ensures.1
    (λ e from is vs h dl tree keeps value.
    let one = rw c.in-Some.is at c.in_ok-held.ensures.one in
    let changed = c.in-Some-list_with.ensures in
    let same : vs ≡ changed.0 = inj-list vs changed.0 (only_read c.args.laid.now c.args.bytes.now c.in-Some.held c.requires.laid one (list vs) h ∙ changed.1) in
    let tag_distinguishes : c.in_err-write_value-in-Some-list_with.field-0.0 ≡ ValueError.NotAValue = cc in
    c.in_err-write_value-in-Some-list_with.ensures.not_a_value tag_distinguishes dl tree keeps
    (subst (IsValueOf dl tree (placed_of c.args.laid.now)) (sym changed.2)
    (subst (λ (us : Values). IsValueOf dl tree (placed_of c.args.laid.now) (list (with_value us c.args.index (value_of c.args.value)))) same value)))

pub returns-in_ok-write_value-in-Some-list_with-clause-put : goal.returns-in_ok-write_value-in-Some-list_with-clause-put
returns-in_ok-write_value-in-Some-list_with-clause-put c = λ vs h.
    let one = rw c.in-Some.is at c.in_ok-held.ensures.one in
    let changed = c.in-Some-list_with.ensures in
    let same : vs ≡ changed.0 = inj-list vs changed.0 (only_read c.args.laid.now c.args.bytes.now c.in-Some.held c.requires.laid one (list vs) h ∙ changed.1) in
    subst (λ (us : Values). Holds (endian_of c.args.laid.now) (placed_of c.args.laid.now) c.in_ok-write_value-in-Some-list_with.field-0.items (list (with_value us c.args.index (value_of c.args.value)))) (sym same)
    (subst (Holds (endian_of c.args.laid.now) (placed_of c.args.laid.now) c.in_ok-write_value-in-Some-list_with.field-0.items) changed.2 c.in_ok-write_value-in-Some-list_with.ensures.holds)

pub returns-in-None-clause-none : goal.returns-in-None-clause-none
returns-in-None-clause-none c = λ is vs h.
    let one = rw c.in-Some.is at c.in_ok-held.ensures.one in
    c.in-None.ensures vs (sym (only_read c.args.laid.now c.args.bytes.now c.in-Some.held c.requires.laid one (list vs) h))
