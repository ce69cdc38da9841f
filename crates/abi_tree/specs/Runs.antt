-- The maximal runs of places that a test picks: padding, and what a variant leaves unused.
use Rattle.std.specs.Prelude.{ℕ, zero, suc, ◌+◌, ◌-◌, ◌&&◌, ◌||◌, Bool, false, not, nat_le, nat_lt, List, [], ◌∷◌, Option, Some, None, if◌then◌else◌}
use Rattle.abi_tree.specs.Placed.{Placed, tagged, states, parts_of_tagged_variant, size_of}
use Rattle.abi_tree.specs.Places.{is_data_place, is_place_of_part}

-- the maximal runs of the places that the test picks, of the n places from k on, each as its first byte and how many bytes it has;
-- `open_at` is where a run began that may go on
abbrev pub runs_from : (ℕ → Bool) → (open_at : Option ℕ) → (k n : ℕ) → List (ℕ × ℕ)
runs_from p None k zero = []
runs_from p (Some start) k zero = (start, k - start) ∷ []
runs_from p None k (suc n) = runs_from p (if p k then Some k else None) (k + 1) n
runs_from p (Some start) k (suc n) = if p k then runs_from p (Some start) (k + 1) n else ((start, k - start) ∷ runs_from p None (k + 1) n)

-- byte k is padding: one below the size, and no data place
abbrev pub is_padding_of : Placed → (k : ℕ) → Bool
is_padding_of placed k = nat_lt k (size_of placed) && not (is_data_place placed k)

-- the maximal runs of a type's padding, ascending, each as its first byte and how many bytes it has
abbrev pub padding_of : Placed → List (ℕ × ℕ)
padding_of placed = runs_from (λ k. not (is_data_place placed k)) None 0 (size_of placed)

-- byte k is a data place of the tag, or of a prefix field, which every variant or state has; a type without a tag has none
abbrev pub is_place_of_each : Placed → (k : ℕ) → Bool
is_place_of_each (tagged layout mark offset tag encoding tagged_variants) k = nat_le offset k && is_data_place tag (k - offset)
is_place_of_each (states layout prefix offset tag tagged_variants) k = is_place_of_part prefix k || (nat_le offset k && is_data_place tag (k - offset))
is_place_of_each placed k = false

-- byte k is a data place of the tag, or of the variant or state with this index, or of a prefix field, which every state has; or,
-- of a type without a tag, a data place
abbrev pub is_place_of_variant : Placed → (index k : ℕ) → Bool
is_place_of_variant (tagged layout mark offset tag encoding tagged_variants) i k =
    (nat_le offset k && is_data_place tag (k - offset)) || is_place_of_part (parts_of_tagged_variant tagged_variants i) k
is_place_of_variant (states layout prefix offset tag tagged_variants) i k =
    is_place_of_part prefix k || ((nat_le offset k && is_data_place tag (k - offset)) || is_place_of_part (parts_of_tagged_variant tagged_variants i) k)
is_place_of_variant placed i k = is_data_place placed k

-- the maximal runs, ascending, of the bytes that some variant or state of the type covers and the one with this index doesn't, each
-- as its first byte and how many bytes it has
abbrev pub unused_of : Placed → (index : ℕ) → List (ℕ × ℕ)
unused_of placed i = runs_from (λ k. is_data_place placed k && not (is_place_of_variant placed i k)) None 0 (size_of placed)
