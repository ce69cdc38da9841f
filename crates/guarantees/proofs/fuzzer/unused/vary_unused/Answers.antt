-- The value doesn't cover what its variant leaves unused, which the sets tell.
use Rattle.std.proofs.Common.{◌≡◌, ◌∙◌, ap, false, subst, sym, true}
use Rattle.std.specs.Prelude.{IfOk, Some, if◌then◌else◌, slice_set}
use Rattle.abi_types.specs.Ty.Runs.{AreUnused}
use Rattle.abi_types.specs.Ty.Typed.{layout_in}
use Rattle.abi_tree.specs.Covering.{is_covered}
use Rattle.abi_tree.specs.Holding.{Holds}
use Rattle.abi_tree.specs.Laid.{endian_of, placed_of}
use Rattle.abi_tree.specs.Value.{value_of}
use Rattle.guarantees.specs.Field.{IsValueFound}
use Rattle.guarantees.specs.Spared.{is_spared}
use Rattle.guarantees.proofs.Held.{only_read}
use Rattle.guarantees.proofs.Spared.{changed_so, read_again, same_found, some_found, told_spared, uncovered}
use Rattle.guarantees.proofs.fuzzer.unused.vary_unused.Goals as goal
use Rattle.guarantees.proofs.fuzzer.unused.vary_unused.Goals.{Joined-value-2}

held : (c : Joined-value-2) → Holds (endian_of c.args.laid.now) (placed_of c.args.laid.now) c.args.bytes.now (value_of c.in-Some.value)
held c = rw c.in-Some.is at c.in_ok-value.ensures.finds

spared : (c : Joined-value-2) → is_spared (placed_of c.args.laid.now) (value_of c.in-Some.value) c.args.place ≡ true
spared c =
    let same = ap layout_in (sym c.root-root.ensures.typed) ∙ c.root-root.ensures.valid.layout ∙ c.root-root.ensures.layout in
    let tag_distinguishes = subst (λ t. AreUnused t c.in_ok-sets.sets) c.root-root.ensures.typed c.in_ok-sets.ensures in
    sym (told_spared c.args.laid.now c.requires.laid c.args.bytes.now c.in_ok-sets.sets same tag_distinguishes (value_of c.in-Some.value) (held c) c.args.place)
    ∙ sym c.is_unused.ensures ∙ c.if-is_unused.true

free : (c : Joined-value-2) → is_covered (placed_of c.args.laid.now) (value_of c.in-Some.value) c.args.place ≡ false
free c = uncovered c.args.laid.now c.requires.laid c.args.bytes.now (value_of c.in-Some.value) (held c) c.args.place (spared c)

again : (c : Joined-value-2) → IfOk c.vary.result (λ found. IsValueFound found (Some (value_of c.in-Some.value)))
again c =
    read_again c.args.laid.now c.args.bytes.now c.args.place c.args.byte c.vary.result (value_of c.in-Some.value) (held c) (free c)
    c.vary.ensures.reads

pub returns-then-is_unused-clause-reads : goal.returns-then-is_unused-clause-reads
returns-then-is_unused-clause-reads c =
    same_found c.args.laid.now c.args.bytes.now c.args.place c.args.byte c.vary.result (value_of c.in-Some.value) (held c) (again c)

pub returns-then-is_unused-clause-holds : goal.returns-then-is_unused-clause-holds
returns-then-is_unused-clause-holds c = λ v h.
    let one = rw c.in-Some.is at c.in_ok-value.ensures.one in
    let same : v ≡ value_of c.in-Some.value = only_read c.args.laid.now c.args.bytes.now c.in-Some.value c.requires.laid one v h in
    c.vary.ensures.holds v h (subst (λ w. is_covered (placed_of c.args.laid.now) w c.args.place ≡ false) (sym same) (free c))

pub returns-then-is_unused-clause-changed : goal.returns-then-is_unused-clause-changed
returns-then-is_unused-clause-changed c =
    changed_so c.args.laid.now c.args.bytes.now c.args.place c.args.byte c.vary.result (value_of c.in-Some.value) c.vary.new.bytes
    c.vary.ensures.changed (spared c) (again c)

pub returns-then-is_unused-clause-no_value : goal.returns-then-is_unused-clause-no_value
returns-then-is_unused-clause-no_value c =
    some_found c.args.laid.now c.args.bytes.now c.args.place c.args.byte c.vary.result (value_of c.in-Some.value) _ (again c)

pub returns-else-is_unused-clause-changed : goal.returns-else-is_unused-clause-changed
returns-else-is_unused-clause-changed c =
    let held = rw c.in-Some.is at c.in_ok-value.ensures.finds in
    let same = ap layout_in (sym c.root-root.ensures.typed) ∙ c.root-root.ensures.valid.layout ∙ c.root-root.ensures.layout in
    let tag_distinguishes = subst (λ t. AreUnused t c.in_ok-sets.sets) c.root-root.ensures.typed c.in_ok-sets.ensures in
    let used : is_spared (placed_of c.args.laid.now) (value_of c.in-Some.value) c.args.place ≡ false
    = sym (told_spared c.args.laid.now c.requires.laid c.args.bytes.now c.in_ok-sets.sets same tag_distinguishes (value_of c.in-Some.value) held c.args.place)
    ∙ sym c.is_unused.ensures ∙ c.if-is_unused.false in
    sym (ap (λ t. if t then slice_set c.args.bytes.now c.args.place c.args.byte else c.args.bytes.now) used)
