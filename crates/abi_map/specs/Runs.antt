-- What the runs of a map keep.
use Rattle.std.specs.Prelude.{◌≡◌, ℕ, ◌<◌, ◌≤◌, ◌↔◌, List, [], ◌∷◌, get_or, true}
use Rattle.abi_tree.specs.Placed.{Placed, size_of}
use Rattle.abi_tree.specs.Runs.{is_padding_of}
use Rattle.abi_map.specs.Map.{names_at}
use Rattle.abi_tree.specs.Parts.{Part, all_parts}
use Rattle.abi_map.specs.Starts.{is_start, starts_of}

-- From a byte on up to the size there is one run behind another: each begins where the one before ends, has a byte, and has the same
-- names at each of its bytes; and at the beginning of each but the first some part changes, so that none can be longer. So each of
-- these bytes is in one run, and in no other.
abbrev pub AreRuns : List Part → (size from : ℕ) → (starts : List ℕ) → Type 0
AreRuns parts size from [] = from ≡ size
AreRuns parts size from (start ∷ starts) =
    (start ≡ from) × (is_start parts start ≡ true) × (start < get_or starts 0 size)
    × ((k : ℕ) → start ≤ k → k < get_or starts 0 size → names_at parts k ≡ names_at parts start) × AreRuns parts size (get_or starts 0 size) starts

-- whatever the parts are, their runs have each byte below the size once
abbrev pub RunsFollow : Type 0
RunsFollow = (parts : List Part) (size : ℕ) → AreRuns parts size 0 (starts_of parts size)

-- the bytes without a name are a type's padding
abbrev pub PaddingHasNoName : Type 0
PaddingHasNoName = (placed : Placed) (k : ℕ) → k < size_of placed → (names_at (all_parts placed) k ≡ []) ↔ (is_padding_of placed k ≡ true)
