-- What was read is the only value that is held.
use Rattle.std.proofs.Common.{◌≡◌, rules, subst, sym, ◌∙◌}
use Rattle.std.specs.Prelude.{slice_get}
use Rattle.abi_tree.specs.Holding.{Holds}
use Rattle.abi_tree.specs.Laid.{endian_of, placed_of}
use Rattle.abi_tree.specs.Value.{value_of, values_of, variant}
use Rattle.guarantees.proofs.Held.{inj-variant, only_read, part_answer}
use Rattle.guarantees.proofs.debugger.parts.field_of_variant.Goals as goal

pub returns-in_default-clause-field : goal.returns-in_default-clause-field
returns-in_default-clause-field c = λ vs h.
    let none = rw c.in_default.is at c.in_ok-value.ensures.finds in
    absurd (none (variant c.args.wanted vs) h)

pub returns-in-Some-fields_of-clause-field : goal.returns-in-Some-fields_of-clause-field
returns-in-Some-fields_of-clause-field c = λ vs h.
    let one = rw c.in-Some.is at c.in_ok-value.ensures.one in
    let taken : c.item_at.result ≡ slice_get c.in-Some-fields_of.fields.items c.args.index = search rules in
    part_answer (Holds (endian_of c.args.laid.now) (placed_of c.args.laid.now) c.args.bytes.now) (value_of c.in-Some.value) c.in-Some-fields_of.fields.items c.args.index c.item_at.result
    (only_read c.args.laid.now c.args.bytes.now c.in-Some.value c.requires.laid one) taken (variant c.args.wanted vs) vs
    (λ e. (inj-variant c.args.wanted c.args.wanted vs (values_of c.in-Some-fields_of.fields.items) (e ∙ c.in-Some-fields_of.ensures)).1) h

pub returns-in-Some-fields_of-clause-none : goal.returns-in-Some-fields_of-clause-none
returns-in-Some-fields_of-clause-none c = λ none.
    let held = rw c.in-Some.is at c.in_ok-value.ensures.finds in
    absurd (none (values_of c.in-Some-fields_of.fields.items) (subst (Holds (endian_of c.args.laid.now) (placed_of c.args.laid.now) c.args.bytes.now) c.in-Some-fields_of.ensures held))

pub returns-in-None-clause-field : goal.returns-in-None-clause-field
returns-in-None-clause-field c = λ vs h.
    let one = rw c.in-Some.is at c.in_ok-value.ensures.one in
    absurd (c.in-None.ensures vs (sym (only_read c.args.laid.now c.args.bytes.now c.in-Some.value c.requires.laid one (variant c.args.wanted vs) h)))
