-- The set is that of the states so far.
use Rattle.std.proofs.Common.{◌≡◌, ℕ, ◌<◌, length, map, nat_lt, take}
use Rattle.abi_index.specs.BitSet.{domain_size, is_member}
use Rattle.abi_calc.specs.Coroutine.Promotion.{holder_count}
use Rattle.abi_calc.proofs.coroutine.promotion.held_by_several.Given as goal

abbrev pub invariant-loop-place : goal.invariant-loop-place
invariant-loop-place g l = record {
  size : domain_size l.several ≡ length l.holders;
  members : (k : ℕ) → k < length l.holders → is_member l.several k ≡ nat_lt 1 (holder_count (take l.place (map (map g.LocalIdx.Idx.number) l.states)) k);
}
