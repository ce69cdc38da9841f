use Rattle.std.proofs.Common.{◌≡◌, ◌<◌, ℕ, List, [], ap, arith, get_or, length, subst, ◌∙◌}
use Rattle.std.specs.Prelude.{◌||◌}
use Rattle.std.proofs.lemmas.List.{get_or_default, length-map}
use Rattle.abi_index.specs.RangeSet.{is_in_ranges}
use Rattle.abi_index.specs.Runs.{Adds, moved_to}
use Rattle.abi_tree.specs.Needed.{sets_at}
use Rattle.abi_tree.proofs.Places.MadeLemmas.{parts_all, parts_next}
use Rattle.abi_tree.proofs.runs_of.put_parts.Goals as goal

pub set_at-requires : goal.set_at-requires
set_at-requires c = (c.requires.made c.loop-i.i 0 (omega (arith, c.min-i-end.ensures, c.loop-i-test.true))).0

pub add_set-requires : goal.add_set-requires
add_set-requires c =
    let lt : c.loop-i.i < length c.args.offsets.now = omega (arith, c.min-i-end.ensures, c.loop-i-test.true) in
    let below : c.loop-i.i < length c.args.children.now = omega (arith, c.min-i-end.ensures, c.loop-i-test.true) in
    let offset = c.bytes.ensures ∙ c.index-offsets-i.is ∙ get_or_default c.args.offsets.now c.loop-i.i c.index-offsets-i.result 0 lt in
    rw c.set_at.ensures (λ k d inside. omega (arith, c.requires.fits c.loop-i.i lt below k d inside, offset))

pub loop-i-preserved : goal.loop-i-preserved
loop-i-preserved c =
    let os : List ℕ = c.args.offsets.now in
    let cs : List ℕ = c.args.children.now in
    let i : ℕ = c.loop-i.i in
    let lt : i < length os = omega (arith, c.min-i-end.ensures, c.loop-i-test.true) in
    let below : i < length cs = omega (arith, c.min-i-end.ensures, c.loop-i-test.true) in
    let offset : c.bytes.result ≡ get_or os i 0 = c.bytes.ensures ∙ c.index-offsets-i.is ∙ get_or_default os i c.index-offsets-i.result 0 lt in
    parts_next c.args.runs.now c.loop-i.runs c.add_set.new.self os c.args.done.now cs i lt below c.loop-i.invariant
    (subst (λ o. Adds c.loop-i.runs c.add_set.new.self (moved_to o (is_in_ranges (get_or c.args.done.now (get_or cs i 0) [])))) offset
    (subst (λ s. Adds c.loop-i.runs c.add_set.new.self (moved_to c.bytes.result (is_in_ranges s))) c.set_at.ensures c.in_ok-add_set.ensures.bytes))

pub returns : goal.returns
returns c = λ k.
    let ss : List (List (ℕ × ℕ)) = sets_at c.args.done.now c.args.children.now in
    c.loop-i.invariant k ∙ ap (λ b. is_in_ranges c.args.runs.now k || b)
    (parts_all c.args.offsets.now ss c.loop-i.i k
    (omega (arith, c.min-i-end.ensures, c.loop-i.auto.i-end, c.loop-i-test.false, length-map c.args.children.now (λ p. get_or c.args.done.now p []))))
