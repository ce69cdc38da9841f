-- Where a state's locals lie in the whole: promoted ones where the first list has them, the others where the state's own list does.
use Rattle.std.specs.Prelude.{◌≡◌, ℕ, ◌==◌, ◌-◌, not, ◌<◌, All, Bool, IsPermutation, List, [], ◌∷◌, ◌++◌, None, Option, drop, filter, flat_map, length, map, nat_lt, slice_index, slice_index_or, if◌then◌else◌}
use Rattle.std.specs.Option.{option_to_list}
use Rattle.abi_scalar.specs.declared.layout_data.LayoutData.{LayoutData}
use Rattle.abi_scalar.specs.declared.variants.VariantLayout.{VariantLayout}
use Rattle.abi_scalar.specs.Shape.{IsListed, listed_offsets, listed_order}
use Rattle.abi_scalar.specs.Variant.{variant_of}
use Rattle.abi_index.specs.BitSet.{domain_size, is_member, members_of}
use Rattle.abi_univariant.specs.Placement.{source_order}

-- the places at which a list has a number
abbrev pub places_with : (numbers : List ℕ) → (number : ℕ) → List ℕ
places_with numbers number = filter (λ k. slice_index numbers k == number) (source_order (length numbers))

-- how many promoted locals are below one: its place among them
abbrev pub rank_of : (promoted : List Bool) → (local : ℕ) → ℕ
rank_of promoted local = length (filter (is_member promoted) (source_order local))

-- the offsets of a state's locals, as it lists them: those of promoted ones, by rank, and one after another those of the others
abbrev pub state_offsets : (promoted : List Bool) → (shared own : List ℕ) → (state : List ℕ) → List ℕ
state_offsets promoted shared own [] = []
state_offsets promoted shared own (local ∷ state) =
    if is_member promoted local then slice_index shared (rank_of promoted local) ∷ state_offsets promoted shared own state
    else slice_index own 0 ∷ state_offsets promoted shared (drop 1 own) state

-- the places at which a state lists a local that isn't promoted
abbrev pub own_places : (promoted : List Bool) → (state : List ℕ) → List ℕ
own_places promoted state = filter (λ k. not (is_member promoted (slice_index state k))) (source_order (length state))

-- the places of a state's locals as they follow one another in memory: those of the promoted ones as their ranks do, then those
-- of the others as in their own list
abbrev pub state_order : (promoted : List Bool) → (ranks own : List ℕ) → (state : List ℕ) → List ℕ
state_order promoted ranks own state =
    flat_map (λ rank. places_with state (slice_index (members_of promoted) rank)) ranks ++ map (slice_index (own_places promoted state)) own

-- the places that are held, as these ranks follow one another, and then those that these indices name
abbrev pub joined_places : (held : List (Option ℕ)) → (ranks : List ℕ) → (places own : List ℕ) → List ℕ
joined_places held ranks places own = flat_map (λ rank. option_to_list (slice_index_or held rank None)) ranks ++ map (slice_index places) own

-- The layout of a list of so many fields, one by one: it has an offset for each, and in memory order each once. `number` gives a
-- field's place in the source.
pub record HasFields {F V : Type 0} (number : F → ℕ) (count : ℕ) (layout : LayoutData F V) : Type 0 where
  pub listed : IsListed layout.fields
  pub offsets : length (listed_offsets layout.fields) ≡ count
  pub order : IsPermutation (source_order count) (map number (listed_order layout.fields))

-- Where the promoted locals lie: how many of them are below each local, an offset for each of them, and each one's rank in
-- memory order.
pub record ArePlaced (promoted : List Bool) (below offsets ranks : List ℕ) : Type 0 where
  pub below_each : below ≡ map (rank_of promoted) (source_order (domain_size promoted))
  pub offset_each : length offsets ≡ length (members_of promoted)
  pub rank_each : length ranks ≡ length (members_of promoted)
  pub within : All (λ rank. rank < length (members_of promoted)) ranks

-- the ranks of the promoted locals as they follow one another in memory: `before` fields stand before them in the first list
abbrev pub ranks_of : {F : Type 0} → (number : F → ℕ) → (before : ℕ) → (order : List F) → List ℕ
ranks_of number before order = map (λ i. number i - before) (filter (λ i. not (nat_lt (number i) before)) order)

-- a state in the whole: its own list with the promoted locals that it holds, which lie at these offsets, by rank, and follow one
-- another in memory as these ranks do
abbrev pub stitched : {F : Type 0} → (at : ℕ → F) → (number : F → ℕ) → (promoted : List Bool) → (shared ranks : List ℕ) → (state : List ℕ) → (own : VariantLayout F) → VariantLayout F
stitched at number promoted shared ranks state own = record own {
  field_offsets = state_offsets promoted shared own.field_offsets state;
  fields_in_memory_order = map at (state_order promoted ranks (map number own.fields_in_memory_order) state);
}

-- a state in the whole, whose promoted locals lie where the first list has them: `before` fields stand before them there
abbrev pub state_layout : {F V : Type 0} → (at : ℕ → F) → (number : F → ℕ) → (before : ℕ) → (promoted : List Bool) → (first : LayoutData F V) → (state : List ℕ) → (list : LayoutData F V) → VariantLayout F
state_layout at number before promoted first state list =
    stitched at number promoted (drop before (listed_offsets first.fields)) (ranks_of number before (listed_order first.fields)) state (variant_of list)

-- each state in the whole
abbrev pub state_layouts : {F V : Type 0} → (at : ℕ → F) → (number : F → ℕ) → (before : ℕ) → (promoted : List Bool) → (first : LayoutData F V) → (states : List (List ℕ)) → (lists : List (LayoutData F V)) → List (VariantLayout F)
state_layouts at number before promoted first (state ∷ states) (list ∷ lists) =
    state_layout at number before promoted first state list ∷ state_layouts at number before promoted first states lists
state_layouts at number before promoted first _ _ = []
