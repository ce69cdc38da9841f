-- The order that is named for a list: by groups, then by niches, then source order.
use Rattle.std.specs.Prelude.{◌≡◌, ℕ, ◌-◌, ◌^◌, ◌==◌, Option, None, Some, List, [], ◌∷◌, ◌++◌, Bool, true, false, if◌then◌else◌, MatchBool, length, min, max, map, fold, take, slice_index_or, IsPermutation}
use Rattle.std.specs.Int.{w64, trailing_zeros}
use Rattle.std.specs.List.Sorted.{IsSortedByKey, IsStableByKey}
use Rattle.std.specs.Option.{option_map_or}
use Rattle.std.specs.declared.cmp.Ordering.{Ordering}
use Rattle.std.specs.Ordering.{ordering_then, nat_cmp}
use Rattle.abi_univariant.specs.declared.part.Part.{Part}
use Rattle.abi_univariant.specs.declared.fields_repr.FieldsRepr.{FieldsRepr}
use Rattle.abi_base.specs.declared.struct_kind.StructKind.{StructKind}
use Rattle.abi_base.specs.declared.struct_kind.StructKind.TheVariants.{AlwaysSized, MaybeUnsized, Prefixed}
use Rattle.abi_univariant.specs.declared.order.NicheBias.{NicheBias}
use Rattle.abi_univariant.specs.declared.order.NicheBias.TheVariants.{Start, End}
use Rattle.abi_univariant.specs.declared.order.SortKey.{SortKey}
use Rattle.abi_univariant.specs.declared.order.SortRule.{SortRule}
use Rattle.abi_univariant.specs.Placement.{source_order}

-- a size that is a multiple of a greater power of two counts as aligned to that
abbrev pub size_as_align : Part → ℕ
size_as_align field = trailing_zeros w64 (max (2 ^ field.align) field.size)

-- a field's group under a bias to a side
abbrev pub biased_group : NicheBias → SortRule → Part → ℕ
biased_group Start rule field = min rule.greatest_align (size_as_align field)
biased_group End rule field = if field.free == rule.greatest_niche then field.align else size_as_align field

-- the fields of one group share an alignment, at least their own
abbrev pub group_by_pack : Option ℕ → SortRule → Part → ℕ
group_by_pack (Some pack) rule field = min field.align pack
group_by_pack None rule field = if rule.greatest_niche == 0 then size_as_align field else biased_group rule.bias rule field

-- the group by which a field is sorted
abbrev pub group_of : SortRule → Part → ℕ
group_of rule field = group_by_pack rule.pack rule field

-- the niche's distance from the front
abbrev pub niche_from_front : Part → ℕ
niche_from_front field = option_map_or (λ niche. niche.offset) field.largest_niche 0

-- a rank that falls as the niche's distance from the end grows
abbrev pub niche_to_end : Part → ℕ
niche_to_end field = 2 ^ 64 - 1 - field.after

-- groups descend; a niche goes to the side of the bias
abbrev pub descending_key : NicheBias → SortRule → Part → SortKey
descending_key Start rule field = record { group = 64 - group_of rule field; niche = 2 ^ 128 - 1 - field.free; distance = niche_from_front field }
descending_key End rule field = record { group = 64 - group_of rule field; niche = field.free; distance = niche_to_end field }

-- after a prefix groups ascend
abbrev pub key_by_prefix : Bool → SortRule → Part → SortKey
key_by_prefix true rule field = record { group = group_of rule field; niche = field.free; distance = 0 }
key_by_prefix false rule field = descending_key rule.bias rule field

-- the key by which a field is sorted
abbrev pub sort_key : SortRule → Part → SortKey
sort_key rule field = key_by_prefix rule.is_prefixed rule field

-- the key at an index
abbrev pub key_at : List SortKey → ℕ → SortKey
key_at keys i = slice_index_or keys i (record { group = 0; niche = 0; distance = 0 })

-- by group, then by niche, then by its distance
abbrev pub compare_keys : SortKey → SortKey → Ordering
compare_keys a b = ordering_then (nat_cmp a.group b.group) (ordering_then (nat_cmp a.niche b.niche) (nat_cmp a.distance b.distance))

-- the indices of the keys, least key first, and in source order where keys are equal
pub record IsSortedOrder (keys : List SortKey) (order : List ℕ) : Type 0 where
  pub permutes : IsPermutation (source_order (length keys)) order
  pub sorted : IsSortedByKey (key_at keys) compare_keys order
  pub stable : IsStableByKey (key_at keys) compare_keys (source_order (length keys)) order

-- the fields that may move: all but a last one that may lose its size
abbrev pub movable_front : {A : Type 0} → StructKind → List A → List A
movable_front AlwaysSized fields = fields
movable_front MaybeUnsized fields = take (length fields - 1) fields
movable_front (Prefixed size align) fields = fields

-- the index that stays at the end
abbrev pub tail : StructKind → List Part → List ℕ
tail AlwaysSized fields = []
tail MaybeUnsized fields = (length fields - 1) ∷ []
tail (Prefixed size align) fields = []

-- the list follows a prefix
abbrev pub is_prefixed : StructKind → Bool
is_prefixed AlwaysSized = false
is_prefixed MaybeUnsized = false
is_prefixed (Prefixed size align) = true

-- what the order of these fields goes by
abbrev pub rule_of : FieldsRepr → NicheBias → List Part → SortRule
rule_of repr bias fields = record {
  pack = repr.pack;
  is_prefixed = is_prefixed repr.kind;
  bias = bias;
  greatest_align = fold (λ greatest field. max greatest field.align) 0 fields;
  greatest_niche = fold (λ greatest field. max greatest (field.free)) 0 fields;
}

-- the movable fields sorted, then the tail
abbrev pub IsSortedBefore : FieldsRepr → NicheBias → List Part → List ℕ → Type 0
IsSortedBefore repr bias fields order =
    (front : List ℕ) × IsSortedOrder (map (sort_key (rule_of repr bias (movable_front repr.kind fields))) (movable_front repr.kind fields)) front × (order ≡ front ++ tail repr.kind fields)

-- the order that is named for a bias: source order, or sorted where fields may move
abbrev pub IsNamedOrder : FieldsRepr → NicheBias → List Part → List ℕ → Type 0
IsNamedOrder repr bias fields order = MatchBool repr.reorderable (IsSortedBefore repr bias fields order) (order ≡ source_order (length fields))
