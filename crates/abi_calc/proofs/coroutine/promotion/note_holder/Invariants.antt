-- The locals so far are noted.
use Rattle.std.proofs.Common.{◌≡◌, ℕ, ◌<◌, get_or, length, map, take}
use Rattle.std.specs.Prelude.{if◌then◌else◌}
use Rattle.abi_index.specs.AscendingList.{has_number}
use Rattle.abi_calc.proofs.coroutine.promotion.note_holder.Given as goal

abbrev pub invariant-loop-local : goal.invariant-loop-local
invariant-loop-local g l =
    (k : ℕ) → k < length l.fn.holders
    → get_or l.holders k 0 ≡ (if has_number (map g.LocalIdx.Idx.number (take l.local-index l.state)) k then l.place else get_or l.fn.holders k 0)
