-- The locals so far are in.
use Rattle.std.proofs.Common.{◌≡◌, ℕ, ◌==◌, ◌&&◌, ◌||◌, get_or, length, map, not, take}
use Rattle.abi_index.specs.AscendingList.{has_number}
use Rattle.abi_index.specs.BitSet.{domain_size, is_member}
use Rattle.abi_calc.proofs.coroutine.promotion.insert_later.Given as goal

abbrev pub invariant-loop-local : goal.invariant-loop-local
invariant-loop-local g l = record {
  size : domain_size l.several ≡ length l.holders;
  members : (k : ℕ) → is_member l.several k
      ≡ (is_member l.fn.several k || (has_number (map g.LocalIdx.Idx.number (take l.local-index l.state)) k && not (get_or l.holders k 0 == l.place)));
}
