-- Where the fields of a list lie in an order, which orders there are, and how large the list is.
use Rattle.std.specs.Prelude.{◌≡◌, ℕ, ◌+◌, ◌-◌, ◌^◌, ◌<◌, ◌≤◌, Option, None, Some, List, [], ◌∷◌, true, not, MatchBool, min, max, map, fold, sum_by, slice_index, slice_index_or, is_some, unwrap_or, IsPermutation, if◌then◌else◌}
use Rattle.std.specs.Int.{next_multiple_of}
use Rattle.std.specs.List.{range_with_len}
use Rattle.abi_base.specs.declared.data_layout.TargetDataLayout.{TargetDataLayout}
use Rattle.abi_base.specs.declared.struct_kind.StructKind.{StructKind}
use Rattle.abi_base.specs.declared.struct_kind.StructKind.TheVariants.{AlwaysSized, MaybeUnsized, Prefixed}
use Rattle.abi_scalar.specs.declared.backend_repr.BackendRepr.TheVariants.{Memory}
use Rattle.abi_scalar.specs.declared.repr.ReprOptions.{ReprOptions}
use Rattle.abi_scalar.specs.Repr.{has_fixed_order}
use Rattle.abi_univariant.specs.declared.fields_repr.FieldsRepr.{FieldsRepr}
use Rattle.abi_univariant.specs.declared.part.Part.{Part}
use Rattle.abi_univariant.specs.Part.{max_align}

-- an alignment, cut to the pack's
abbrev pub cut : Option ℕ → ℕ → ℕ
cut None align = align
cut (Some pack) align = min align pack

-- where a field lies that may begin at `from`
abbrev pub place_of : Option ℕ → ℕ → Part → ℕ
place_of pack from field = next_multiple_of from (2 ^ cut pack field.align)

-- where each of the fields lies, one after the other
abbrev pub offsets_from : Option ℕ → ℕ → List Part → List ℕ
offsets_from pack from [] = []
offsets_from pack from (f ∷ fs) = place_of pack from f ∷ offsets_from pack (place_of pack from f + f.size) fs

-- where the last of them ends
abbrev pub end_from : Option ℕ → ℕ → List Part → ℕ
end_from pack from [] = from
end_from pack from (f ∷ fs) = end_from pack (place_of pack from f + f.size) fs

-- what comes before the fields, with its alignment
abbrev pub start_of : Option ℕ → StructKind → ℕ
start_of pack AlwaysSized = 0
start_of pack MaybeUnsized = 0
start_of pack (Prefixed size align) = next_multiple_of size (2 ^ cut pack align)

-- the alignment of what comes before the fields
abbrev pub prefix_align : Option ℕ → StructKind → ℕ
prefix_align pack AlwaysSized = 0
prefix_align pack MaybeUnsized = 0
prefix_align pack (Prefixed size align) = cut pack align

-- the list's alignment: its own, the prefix's and those of its fields
abbrev pub align_of : FieldsRepr → List Part → ℕ
align_of repr fields = fold (λ greatest field. max greatest (cut repr.pack field.align)) (max repr.align (prefix_align repr.pack repr.kind)) fields

-- the indices of a list of count fields, in source order
abbrev pub source_order : ℕ → List ℕ
source_order count = range_with_len 0 count

-- what an index past the end names
abbrev pub no_part : Part
no_part = record { size = 0; align = 0; unadjusted_align = 0; view = Memory true; largest_niche = None; free = 0; after = 0 }

-- the fields that an order names, as they lie in memory
abbrev pub in_order : List Part → List ℕ → List Part
in_order fields order = map (λ i. slice_index_or fields i no_part) order

-- the size that the list has in an order
abbrev pub size_in : FieldsRepr → List Part → List ℕ → ℕ
size_in repr fields order = next_multiple_of (end_from repr.pack (start_of repr.pack repr.kind) (in_order fields order)) (2 ^ align_of repr fields)

-- a list whose last field may lose its size keeps it last
abbrev pub KeepsTail : StructKind → ℕ → List ℕ → Type 0
KeepsTail AlwaysSized count order = Unit {0}
KeepsTail MaybeUnsized count order = slice_index order (count - 1) ≡ count - 1
KeepsTail (Prefixed size align) count order = Unit {0}

-- the orders that count fields may have: each order that keeps the tail, or source order alone
abbrev pub IsAllowed : FieldsRepr → ℕ → List ℕ → Type 0
IsAllowed repr count order = MatchBool repr.reorderable (IsPermutation (source_order count) order × KeepsTail repr.kind count order) (order ≡ source_order count)

-- a list that may not lose its size
abbrev pub IsSized : StructKind → Type 0
IsSized AlwaysSized = Unit {0}
IsSized MaybeUnsized = ⊥
IsSized (Prefixed size align) = Unit {0}

-- what every order needs: the start and the sizes, rounded up once
abbrev pub sum_rounded : FieldsRepr → List Part → ℕ
sum_rounded repr fields = next_multiple_of (start_of repr.pack repr.kind + sum_by (λ field. field.size) fields) (2 ^ align_of repr fields)

-- a maybe-unsized list of count fields has a last one
abbrev pub IsNonEmptyIfUnsized : StructKind → ℕ → Type 0
IsNonEmptyIfUnsized AlwaysSized count = Unit {0}
IsNonEmptyIfUnsized MaybeUnsized count = 0 < count
IsNonEmptyIfUnsized (Prefixed size align) count = Unit {0}

-- a prefix is smaller than the bound, and its alignment has its limit
abbrev pub IsWellFormedPrefix : StructKind → ℕ → Type 0
IsWellFormedPrefix AlwaysSized bound = Unit {0}
IsWellFormedPrefix MaybeUnsized bound = Unit {0}
IsWellFormedPrefix (Prefixed size align) bound = (size < bound) × (align ≤ max_align)

-- What a list of count fields asks.
pub record IsWellFormedRepr (repr : FieldsRepr) (count bound : ℕ) : Type 0 where
  pub aligned : repr.align ≤ max_align
  pub kind : IsNonEmptyIfUnsized repr.kind count
  pub starts : IsWellFormedPrefix repr.kind bound

-- the alignment that a list begins with: that of aggregates, or of a byte where its fields are packed
abbrev pub own_align : TargetDataLayout → ReprOptions → ℕ
own_align dl repr = if is_some repr.pack then dl.i8_align else dl.aggregate_align

-- what a `repr` asks of a list of this kind: `repr(align)` raises its alignment
abbrev pub fields_repr : TargetDataLayout → ReprOptions → StructKind → FieldsRepr
fields_repr dl repr kind = record {
  kind = kind;
  pack = repr.pack;
  align = max (own_align dl repr) (unwrap_or repr.align 0);
  reorderable = not (has_fixed_order repr);
}

-- the same before `repr(align)` raises the alignment
abbrev pub unraised_repr : TargetDataLayout → ReprOptions → StructKind → FieldsRepr
unraised_repr dl repr kind = record {
  kind = kind;
  pack = repr.pack;
  align = own_align dl repr;
  reorderable = not (has_fixed_order repr);
}
