-- Runs of bytes that are collected, each a pair of its first byte and of how many bytes it has: in any order, and they may meet.
use Rattle.std.specs.Prelude.{◌≡◌, ℕ, ◌+◌, ◌-◌, ◌/◌, ◌%◌, ◌^◌, ◌<◌, ◌&&◌, ◌||◌, Bool, All, List, ◌++◌, nat_le, nat_lt}
use Rattle.abi_index.specs.RangeSet.{is_in_ranges}

-- each run ends where 64 bits can tell it
abbrev pub HaveEnds : List (ℕ × ℕ) → Type 0
HaveEnds runs = All (λ run. run.0 + run.1 < 2 ^ 64) runs

-- what is covered where that which covers lies at an offset
abbrev pub moved_to : (offset : ℕ) → (covers : ℕ → Bool) → (k : ℕ) → Bool
moved_to offset covers k = nat_le offset k && covers (k - offset)

-- what is covered by one of so many parts, each so many bytes after the one before; a part reaches no further than to the next
abbrev pub repeated : (stride count : ℕ) → (covers : ℕ → Bool) → (k : ℕ) → Bool
repeated stride count covers k = nat_lt (k / stride) count && covers (k % stride)

-- the new runs cover what the old ones do, and these bytes too
abbrev pub Adds : (old new : List (ℕ × ℕ)) → (covers : ℕ → Bool) → Type 0
Adds old new covers = (k : ℕ) → is_in_ranges new k ≡ (is_in_ranges old k || covers k)

-- the old runs are still there, in their order, and what is new stands behind them
abbrev pub Extends : (old new : List (ℕ × ℕ)) → Type 0
Extends old new = (more : List (ℕ × ℕ)) × (new ≡ old ++ more)
