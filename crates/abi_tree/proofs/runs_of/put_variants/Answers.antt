use Rattle.std.proofs.Common.{subst, arith}
use Rattle.std.proofs.lemmas.List.{get_or-map, length-map}
use Rattle.abi_index.specs.RangeSet.{is_in_ranges}
use Rattle.abi_index.specs.Runs.{Adds, moved_to}
use Rattle.abi_tree.specs.Needed.{IsSet}
use Rattle.abi_tree.proofs.Places.MadeLemmas.{maximal_fits, variant_next}
use Rattle.abi_tree.proofs.runs_of.put_variants.Goals as goal

pub set_at-requires : goal.set_at-requires
set_at-requires c =
    let vs = c.args.variants.now in
    let i = c.loop-variant.variant-index in
    let made = c.requires.made i 0 (omega (arith, c.loop-variant-test.true, length-map vs (λ v. v.1))) in
    (subst (IsSet c.args.done.now) (get_or-map (λ v. v.1) vs i (0, 0) 0 c.loop-variant-test.true) made).0

pub add_set-requires : goal.add_set-requires
add_set-requires c =
    let vs = c.args.variants.now in
    let i = c.loop-variant.variant-index in
    let made = c.requires.made i 0 (omega (arith, c.loop-variant-test.true, length-map vs (λ v. v.1))) in
    rw c.set_at.ensures (maximal_fits 0 _ (subst (IsSet c.args.done.now) (get_or-map (λ v. v.1) vs i (0, 0) 0 c.loop-variant-test.true) made).1)

pub loop-variant-preserved : goal.loop-variant-preserved
loop-variant-preserved c =
    variant_next c.args.runs.now c.loop-variant.runs c.add_set.new.self c.args.done.now c.args.variants.now c.loop-variant.variant-index (0, 0) c.loop-variant-test.true c.loop-variant.invariant
    (subst (λ s. Adds c.loop-variant.runs c.add_set.new.self (moved_to 0 (is_in_ranges s))) c.set_at.ensures c.in_ok-add_set.ensures.bytes)
