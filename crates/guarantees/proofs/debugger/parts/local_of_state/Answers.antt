-- What was read is the only value that is held.
use Rattle.std.proofs.Common.{◌≡◌, rules, subst, sym, ◌∙◌}
use Rattle.std.specs.Prelude.{slice_get}
use Rattle.abi_tree.specs.Holding.{Holds}
use Rattle.abi_tree.specs.Laid.{endian_of, placed_of}
use Rattle.abi_tree.specs.Value.{value_of, values_of, state}
use Rattle.guarantees.proofs.Held.{inj-state, only_read, part_answer}
use Rattle.guarantees.proofs.debugger.parts.local_of_state.Goals as goal

pub returns-in_default-clause-local : goal.returns-in_default-clause-local
returns-in_default-clause-local c = λ ps vs h.
    let none = rw c.in_default.is at c.in_ok-value.ensures.finds in
    absurd (none (state c.args.wanted ps vs) h)

pub returns-in-Some-locals_of-clause-local : goal.returns-in-Some-locals_of-clause-local
returns-in-Some-locals_of-clause-local c = λ ps vs h.
    let one = rw c.in-Some.is at c.in_ok-value.ensures.one in
    let taken : c.item_at.result ≡ slice_get c.in-Some-locals_of.locals.items c.args.index = search rules in
    part_answer (Holds (endian_of c.args.laid.now) (placed_of c.args.laid.now) c.args.bytes.now) (value_of c.in-Some.value) c.in-Some-locals_of.locals.items c.args.index c.item_at.result
    (only_read c.args.laid.now c.args.bytes.now c.in-Some.value c.requires.laid one) taken (state c.args.wanted ps vs) vs
    (λ e. (inj-state c.args.wanted c.args.wanted ps vs c.in-Some-locals_of.ensures.0 (values_of c.in-Some-locals_of.locals.items) (e ∙ c.in-Some-locals_of.ensures.1)).1) h

pub returns-in-Some-locals_of-clause-none : goal.returns-in-Some-locals_of-clause-none
returns-in-Some-locals_of-clause-none c = λ none.
    let held = rw c.in-Some.is at c.in_ok-value.ensures.finds in
    absurd (none c.in-Some-locals_of.ensures.0 (values_of c.in-Some-locals_of.locals.items) (subst (Holds (endian_of c.args.laid.now) (placed_of c.args.laid.now) c.args.bytes.now) c.in-Some-locals_of.ensures.1 held))

pub returns-in-None-clause-local : goal.returns-in-None-clause-local
returns-in-None-clause-local c = λ ps vs h.
    let one = rw c.in-Some.is at c.in_ok-value.ensures.one in
    absurd (c.in-None.ensures ps vs (sym (only_read c.args.laid.now c.args.bytes.now c.in-Some.value c.requires.laid one (state c.args.wanted ps vs) h)))
