use Rattle.std.proofs.Common.{◌≡◌, ℕ, ◌≤◌, ◌||◌, take, drop}
use Rattle.abi_index.specs.RangeSet.{is_in_ranges, EndBy}
use Rattle.abi_index.proofs.UncutLemmas.{is_uncut}
use Rattle.abi_index.proofs.uncut.add_uncut.Given as goal

abbrev pub invariant-loop-next : goal.invariant-loop-next
invariant-loop-next l = record {
  ascend : l.start ≤ l.to;
  passed : EndBy l.start (take l.next l.cuts);
  bytes : (k : ℕ) → (is_uncut k l.start l.to (drop l.next l.cuts) || is_in_ranges l.made k) ≡ (is_uncut k l.fn.from l.to l.cuts || is_in_ranges l.fn.made k);
}
