-- Sets of bytes that are collected, and their bytes one by one.
use Rattle.std.specs.Prelude.{◌≡◌, ℕ, ◌<◌, ◌||◌, Bool, List}
use Rattle.std.specs.List.{flat_map, range_with_len}
use Rattle.abi_index.specs.RangeSet.{is_in_ranges}

-- below the size the new runs cover what the old ones do, and these bytes too
abbrev pub AddsBelow : (size : ℕ) → (old new : List (ℕ × ℕ)) → (covers : ℕ → Bool) → Type 0
AddsBelow size old new covers = (k : ℕ) → k < size → is_in_ranges new k ≡ (is_in_ranges old k || covers k)

-- the bytes of runs, one by one
abbrev pub numbers : List (ℕ × ℕ) → List ℕ
numbers runs = flat_map (λ run. range_with_len run.0 run.1) runs
