-- Structs whose order is handed in: what their repr asks then, and where their fields lie.
use Rattle.std.proofs.Common.{◌≡◌, ◌<◌, ℕ, Bool, true, false, List, Some, None, length, map, refl, sym, ap, ap₂, ◌∙◌, subst, Ok, Err, inl, inr}
use Rattle.std.specs.Prelude.{◌⊎◌, All, ◌==◌, ◌||◌, ◌&&◌, not, is_some, if◌then◌else◌}
use Rattle.std.proofs.lemmas.List.{length-map}
use Rattle.std.proofs.lemmas.Nat.{and_or_apart, and_or_self}
use Rattle.abi_base.specs.declared.data_layout.TargetDataLayout.{TargetDataLayout}
use Rattle.abi_base.specs.declared.struct_kind.StructKind.{StructKind}
use Rattle.abi_scalar.specs.declared.repr.ReprOptions.{ReprOptions}
use Rattle.abi_scalar.specs.Repr.{has_fixed_order, may_randomize}
use Rattle.abi_scalar.specs.Shape.{listed_offsets}
use Rattle.abi_univariant.specs.declared.order.NicheBias.TheVariants.{Start}
use Rattle.abi_univariant.specs.Least.{IsOrderOf, IsPlacedBy}
use Rattle.abi_univariant.specs.List.{HasLawfulAligns}
use Rattle.abi_univariant.specs.Part.{part_of, parts_of}
use Rattle.abi_base.specs.declared.struct_kind.StructKind.TheVariants.{AlwaysSized, MaybeUnsized}
use Rattle.abi_univariant.specs.Placement.{IsAllowed, IsNonEmptyIfUnsized, fields_repr}
use Rattle.abi_scalar.specs.declared.error.LayoutCalculatorError.TheVariants as calculator
use Rattle.abi_univariant.proofs.Sorted.Least.{allowed_permutes}
use Rattle.abi_univariant.specs.Run.{IsInOrder}
use Rattle.abi_univariant.proofs.Sorted.Sorting.{within_order}
use Rattle.rustc_abi.specs.declared.error.LayError.TheVariants.{BadAlign, BadIndex, BadOrder}
use Rattle.abi_tree.specs.Placed.{Placed, layout_of}
use Rattle.abi_scalar.specs.Layout.{Layout}
use Rattle.rustc_abi.specs.Laying.{IsListedInOrder, fields_fault, has_bad_align, ordered_fault, with_randomize_flag}

-- ---- the repr

-- the flag is none of those that fix the order
same_order : (repr : ReprOptions) → has_fixed_order (with_randomize_flag repr) ≡ has_fixed_order repr
same_order repr = ap (λ fixing. not (fixing == 0) || is_some repr.int) (and_or_apart 75 repr.flags.0 16 refl)

-- so the order is free
pub free_order : (repr : ReprOptions) → has_fixed_order repr ≡ false → may_randomize (with_randomize_flag repr) ≡ true
free_order repr free = ap₂ (λ fixed flag. not fixed && (flag == 16)) (same_order repr ∙ free) (and_or_self 16 repr.flags.0)

pub reorderable : (dl : TargetDataLayout) (repr : ReprOptions) (kind : StructKind) → has_fixed_order repr ≡ false → (fields_repr dl (with_randomize_flag repr) kind).reorderable ≡ true
reorderable dl repr kind free = ap not (same_order repr ∙ free)

pub randomized_aligns : (repr : ReprOptions) → HasLawfulAligns repr → HasLawfulAligns (with_randomize_flag repr)
randomized_aligns repr lawful = record { align = lawful.align; pack = lawful.pack }

no_fault : (many bad fixed : Bool) → (if many then Some BadIndex else (if bad then Some BadAlign else (if fixed then Some BadOrder else None))) ≡ None
    → ((if many then Some BadIndex else (if bad then Some BadAlign else None)) ≡ None) × (fixed ≡ false)
no_fault true bad fixed e = absurd (cc)
no_fault false true fixed e = absurd (cc)
no_fault false false true e = absurd (cc)
no_fault false false false e = (refl, refl)

-- without an own fault there is none of a struct's, and the order isn't fixed
pub ordered_faultless : (repr : ReprOptions) (ps : List Placed) → ordered_fault repr ps ≡ None → (fields_fault repr ps ≡ None) × (has_fixed_order repr ≡ false)
ordered_faultless repr ps none = no_fault _ (has_bad_align repr) (has_fixed_order repr) none

-- ---- the list

-- a list of this kind has a field, or is always sized
pub some_listed : (kind : StructKind) (count : ℕ) → (kind ≡ AlwaysSized) ⊎ ((kind ≡ MaybeUnsized) × (0 < count)) → IsNonEmptyIfUnsized kind count
some_listed kind count (inl e) = subst (λ k. IsNonEmptyIfUnsized k count) (sym e) tt
some_listed kind count (inr (e, some)) = subst (λ k. IsNonEmptyIfUnsized k count) (sym e) some

-- an order names no field that isn't there
pub unknown_field : (dl : TargetDataLayout) (repr : ReprOptions) (kind : StructKind) (order : List ℕ) (count : ℕ) (layouts : List Layout) → length layouts ≡ count →
    (All (λ i. i < count) order → ⊥) → IsListedInOrder dl repr kind order layouts (Err BadOrder)
unknown_field dl repr kind order count layouts many unknown = (
  calculator.BadOrder,
  inl (
    (λ allowed. unknown (subst (λ n. All (λ i. i < n) order) many
        (within_order (length layouts) order (allowed_permutes (fields_repr dl repr kind) (length layouts) order allowed)))),
    refl,
  ),
  refl,
)

module _ (dl : TargetDataLayout) (repr : ReprOptions) (kind : StructKind) (order : List ℕ) (ps : List Placed) where
  many : length (parts_of dl (map layout_of ps)) ≡ length (map layout_of ps)
  many = length-map (map layout_of ps) (λ l. part_of dl l)

  pub allowed_parts : IsOrderOf dl repr kind (length (map layout_of ps)) order → IsAllowed (fields_repr dl repr kind) (length (parts_of dl (map layout_of ps))) order
  allowed_parts allowed = subst (λ n. IsAllowed (fields_repr dl repr kind) n order) (sym many) allowed

  module _ (layout : Layout) (listed : IsListedInOrder dl repr kind order (map layout_of ps) (Ok layout)) where
    pub in_this_order : IsInOrder dl (fields_repr dl repr kind) (parts_of dl (map layout_of ps)) order listed.0 layout.size layout.align.abi layout.largest_niche
    in_this_order = record { bias = Start; allowed = allowed_parts listed.1.named.0; placed = listed.1.named.1 }

    own : listed_offsets layout.fields ≡ listed.0
    own = ap listed_offsets listed.1.shape

    -- each field has an offset
    pub ordered_count : length (listed_offsets layout.fields) ≡ length ps
    ordered_count = ap length own ∙ listed.1.named.1.count ∙ many ∙ length-map ps layout_of

    -- the fields lie in the order
    pub ordered_placed : IsPlacedBy dl repr kind (map layout_of ps) order (listed_offsets layout.fields) layout.size layout.align.abi
    ordered_placed =
        let placed = listed.1.named.1 in
        subst (λ os. IsPlacedBy dl repr kind (map layout_of ps) order os layout.size layout.align.abi) (sym own)
        (record { allowed = listed.1.named.0; count = placed.count ∙ many; places = placed.places; extent = placed.extent; alignment = placed.alignment })
