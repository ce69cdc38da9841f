-- Bytes that the present variant leaves unused, changed.
use Rattle.std.specs.Prelude.{ℕ, Bool, List, [], false, get_or, slice_set, if◌then◌else◌}
use Rattle.abi_index.specs.RangeSet.{is_in_ranges}
use Rattle.abi_tree.specs.Placed.{Placed}
use Rattle.abi_tree.specs.Unused.{is_left_unused}
use Rattle.abi_tree.specs.Value.{Value, state, variant}

-- byte k is one that the value's variant or state leaves unused
abbrev pub is_spared : Placed → Value → (k : ℕ) → Bool
is_spared placed (variant i vs) k = is_left_unused placed i k
is_spared placed (state i ps vs) k = is_left_unused placed i k
is_spared placed _ k = false

-- the bytes with this one at the place, where the value's variant or state leaves that unused
abbrev pub with_spared : Placed → Value → List ℕ → (place byte : ℕ) → List ℕ
with_spared placed v b place byte = if is_spared placed v place then slice_set b place byte else b

-- byte k is in the set of the value's variant or state
abbrev pub is_in_set_of : (sets : List (List (ℕ × ℕ))) → Value → (k : ℕ) → Bool
is_in_set_of sets (variant i vs) k = is_in_ranges (get_or sets i []) k
is_in_set_of sets (state i ps vs) k = is_in_ranges (get_or sets i []) k
is_in_set_of sets _ k = false
