-- Sets of byte numbers, kept as runs of bytes: each a pair of its first byte and of how many bytes it has.
use Rattle.std.specs.Prelude.{◌≡◌, ℕ, ◌+◌, ◌<◌, ◌≤◌, ◌^◌, ◌&&◌, Bool, false, nat_lt, nat_le, List, [], ◌∷◌}
use Rattle.std.specs.List.{list_any}

-- whether a byte is in a run
abbrev pub is_in_run : ℕ → ℕ × ℕ → Bool
is_in_run k run = nat_le run.0 k && nat_lt k (run.0 + run.1)

-- whether a byte is in one of the runs
abbrev pub is_in_ranges : List (ℕ × ℕ) → ℕ → Bool
is_in_ranges runs k = list_any (is_in_run k) runs

-- no byte from this one on is in one of the runs
abbrev pub EndBy : ℕ → List (ℕ × ℕ) → Type 0
EndBy end runs = (k : ℕ) → end ≤ k → is_in_ranges runs k ≡ false

-- the runs ascend from a byte on, none is empty, no two meet, and all end below 2 to the 64
abbrev pub AreMaximalRuns : ℕ → List (ℕ × ℕ) → Type 0
AreMaximalRuns low [] = Unit {0}
AreMaximalRuns low (run ∷ runs) = (low ≤ run.0) × (0 < run.1) × (run.0 + run.1 < 2 ^ 64) × AreMaximalRuns (run.0 + run.1 + 1) runs
