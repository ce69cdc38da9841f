-- The niche of a list of parts.
use Rattle.std.specs.Prelude.{◌≡◌, ℕ, ◌+◌, ◌-◌, ◌^◌, ◌<◌, ◌≤◌, ◌⊎◌, ◌&&◌, All, Bool, false, List, ◌∷◌, max, nat_lt, Option, Some, None, IfSome, length, if◌then◌else◌}
use Rattle.abi_base.specs.declared.data_layout.TargetDataLayout.{TargetDataLayout}
use Rattle.abi_scalar.specs.declared.niche.Niche.{Niche}
use Rattle.abi_scalar.specs.declared.layout_data.LayoutData.{LayoutData}
use Rattle.abi_scalar.specs.Count.{AreSoMany}
use Rattle.abi_scalar.specs.Niche.{niche_size}
use Rattle.abi_scalar.specs.Pair.{larger_niche}
use Rattle.abi_scalar.specs.Range.{IsFree}
use Rattle.abi_univariant.specs.declared.list_niche.GreatestNiche.{GreatestNiche}
use Rattle.abi_univariant.specs.declared.list_niche.NicheSoFar.{NicheSoFar}
use Rattle.abi_univariant.specs.declared.list_niche.PlacedField.{PlacedField}
use Rattle.abi_univariant.specs.declared.order.NicheBias.{NicheBias}
use Rattle.abi_univariant.specs.declared.order.NicheBias.TheVariants.{Start, End}
use Rattle.abi_univariant.specs.declared.part.Part.{Part}
use Rattle.abi_univariant.specs.declared.fields_repr.FieldsRepr.{FieldsRepr}
use Rattle.abi_univariant.specs.ListView.{part_at}
use Rattle.abi_univariant.specs.Placement.{in_order, offsets_from, start_of}

-- a part's niche, counted from the start of the whole
abbrev pub niche_of_part : (offset : ℕ) → Option Niche → Option Niche
niche_of_part offset None = None
niche_of_part offset (Some own) = Some (record own { offset = offset + own.offset })

-- the part at this index lies at this offset
abbrev pub placed_field : (index offset : ℕ) → Option PlacedField
placed_field index offset = Some (record { index = index; offset = offset })

-- its niche, counted from the start of the whole
abbrev pub niche_of_placed : List Part → Option PlacedField → Option Niche
niche_of_placed parts None = None
niche_of_placed parts (Some field) = niche_of_part field.offset (part_at parts field.index).largest_niche

-- it is one of the parts, and its niche begins at a number of 64 bits
abbrev pub IsPlacedField : List Part → Option PlacedField → Type 0
IsPlacedField parts field =
    IfSome field (λ f. (f.index < length parts) × IfSome (part_at parts f.index).largest_niche (λ own. f.offset + own.offset < 2 ^ 64))

-- the niches of the parts that were found to have the greatest so far
abbrev pub niche_found : List Part → NicheSoFar → GreatestNiche
niche_found parts so_far = record {
  first = niche_of_placed parts so_far.first;
  last = niche_of_placed parts so_far.last;
  free = so_far.free;
}

-- the niche with more free numbers; of equals a bias to the start keeps the earlier, one to the end the later
abbrev pub greater_niche : NicheBias → TargetDataLayout → (earlier later : Option Niche) → Option Niche
greater_niche Start dl earlier later = larger_niche dl earlier later
greater_niche End dl earlier later = larger_niche dl later earlier

-- the greatest niche of parts that lie at these offsets, in memory order: the first of equals, or the last
abbrev pub greatest_niche : NicheBias → TargetDataLayout → (offsets : List ℕ) → List Part → Option Niche
greatest_niche bias dl (o ∷ offsets) (p ∷ parts) =
    greater_niche bias dl (niche_of_part o p.largest_niche) (greatest_niche bias dl offsets parts)
greatest_niche bias dl _ _ = None

-- the niche that counts for a bias: the first of equals, or the last
abbrev pub biased_niche : NicheBias → (first last : Option Niche) → Option Niche
biased_niche Start first last = first
biased_niche End first last = last

-- the list's niche in an order
abbrev pub niche_in : TargetDataLayout → FieldsRepr → NicheBias → List Part → (order : List ℕ) → Option Niche
niche_in dl repr bias parts order =
    greatest_niche bias dl (offsets_from repr.pack (start_of repr.pack repr.kind) (in_order parts order)) (in_order parts order)

-- the space before a niche or after it, whichever is more, in a list of so many bytes: none where it touches an edge
abbrev pub space_beside : TargetDataLayout → (size : ℕ) → Option Niche → Option ℕ
space_beside dl size None = None
space_beside dl size (Some niche) =
    let after : ℕ = size - (niche.offset + niche_size dl niche) in
    if nat_lt 0 niche.offset && nat_lt 0 after then Some (max niche.offset after) else None

-- the niche begins after so many bytes
abbrev pub begins_after : ℕ → Option Niche → Bool
begins_after space None = false
begins_after space (Some niche) = nat_lt space niche.offset

-- the niche is a part's own, counted from the start of the whole
abbrev pub IsNicheAt : (offset : ℕ) → (own : Option Niche) → Niche → Type 0
IsNicheAt offset None niche = ⊥
IsNicheAt offset (Some own) niche = (niche.offset ≡ offset + own.offset) × (niche.value ≡ own.value) × (niche.valid_range ≡ own.valid_range)

-- the niche is that of one of these parts, at the part's offset plus its own
abbrev pub IsNicheOfPart : {F V : Type 0} → (offsets : List ℕ) → List (LayoutData F V) → Niche → Type 0
IsNicheOfPart (o ∷ offsets) (f ∷ fields) niche = IsNicheAt o f.largest_niche niche ⊎ IsNicheOfPart offsets fields niche
IsNicheOfPart _ _ niche = ⊥

-- so many numbers of the niche's width are free
abbrev pub HasFree : TargetDataLayout → Niche → (count : ℕ) → Type 0
HasFree dl niche count = AreSoMany (IsFree (niche_size dl niche) niche.valid_range) count

-- a niche has no more free numbers than another
abbrev pub HasNoMoreFree : TargetDataLayout → (niche other : Niche) → Type 0
HasNoMoreFree dl niche other = (few many : ℕ) × HasFree dl niche few × HasFree dl other many × (few ≤ many)

-- no part's niche has more free numbers than this one, which is missing only where no part has a niche
abbrev pub HasLargestNiche : {F V : Type 0} → TargetDataLayout → Option Niche → List (LayoutData F V) → Type 0
HasLargestNiche dl None fields = All (λ f. f.largest_niche ≡ None) fields
HasLargestNiche dl (Some niche) fields = All (λ f. IfSome f.largest_niche (λ own. HasNoMoreFree dl own niche)) fields
