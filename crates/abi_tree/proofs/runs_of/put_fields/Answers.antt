use Rattle.std.proofs.Common.{subst}
use Rattle.abi_index.specs.RangeSet.{is_in_ranges}
use Rattle.abi_index.specs.Runs.{Adds, moved_to}
use Rattle.abi_tree.proofs.Places.MadeLemmas.{maximal_fits, stacked_next}
use Rattle.abi_tree.proofs.runs_of.put_fields.Goals as goal

pub set_at-requires : goal.set_at-requires
set_at-requires c = (c.requires.made c.loop-child.child-index 0 c.loop-child-test.true).0

pub add_set-requires : goal.add_set-requires
add_set-requires c = rw c.set_at.ensures (maximal_fits 0 _ (c.requires.made c.loop-child.child-index 0 c.loop-child-test.true).1)

pub loop-child-preserved : goal.loop-child-preserved
loop-child-preserved c =
    stacked_next c.args.runs.now c.loop-child.runs c.add_set.new.self c.args.done.now c.args.children.now c.loop-child.child-index 0 c.loop-child-test.true c.loop-child.invariant
    (subst (λ s. Adds c.loop-child.runs c.add_set.new.self (moved_to 0 (is_in_ranges s))) c.set_at.ensures c.in_ok-add_set.ensures.bytes)
