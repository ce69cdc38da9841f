-- Departures: small types whose layout isn't what the chapter promises, where a rule lacks its premise. Each theorem is of every
-- layout that the type has.
use Rattle.std.proofs.Common.{◌≡◌, ℕ, ◌^◌, ◌≤◌, Bool, true, false, List, [], ◌∷◌, None, Some, ◌++◌, get_or, length, map, refl, sym, ap, ap₂, ◌∙◌, subst, arith, lit≤, inl, inr, ⊎_elim, Ok}
use Rattle.std.specs.Prelude.{◌⊎◌, ◌+◌, All, IsPermutation, max, sum_by, ℤ, pos}
use Rattle.std.proofs.Math.Pow.{pow_mono}
use Rattle.std.specs.Int.Count.{count_trailing_zeros}
use Rattle.std.specs.List.Sorted.{IsSortedByKey}
use Rattle.std.proofs.lemmas.List.Elements.{All-cons, All-contains, All-head, All-nil}
use Rattle.std.proofs.lemmas.List.Sorted.{All-permutation, length_permutation, sum_by-IsPermutation}
use Rattle.abi_base.specs.declared.data_layout.TargetDataLayout.{TargetDataLayout}
use Rattle.abi_base.specs.declared.struct_kind.StructKind.TheVariants.{AlwaysSized}
use Rattle.abi_base.specs.DataLayout.{default_data_layout}
use Rattle.abi_base.specs.declared.integer.Integer.{Integer}
use Rattle.abi_base.specs.declared.integer.Integer.TheVariants.{I8, I16, I32, I64}
use Rattle.abi_base.specs.declared.primitive.Primitive.TheVariants.{Int, Pointer}
use Rattle.abi_base.specs.Integer.{integer_align, integer_size}
use Rattle.abi_scalar.specs.declared.repr.ReprOptions.{ReprOptions}
use Rattle.abi_scalar.specs.declared.scalar.Scalar.{Scalar}
use Rattle.abi_scalar.specs.declared.scalar.Scalar.TheVariants.{Initialized}
use Rattle.abi_scalar.specs.Range.{full_range}
use Rattle.abi_scalar.specs.Shape.{listed_offsets}
use Rattle.abi_scalar.specs.Simple.{never_layout, unit_layout}
use Rattle.abi_univariant.specs.declared.fields_repr.FieldsRepr.{FieldsRepr}
use Rattle.abi_univariant.specs.declared.order.NicheBias.TheVariants.{Start}
use Rattle.abi_univariant.specs.declared.order.SortKey.{SortKey}
use Rattle.abi_univariant.specs.declared.part.Part.{Part}
use Rattle.abi_univariant.specs.Array.{elements_layout}
use Rattle.abi_univariant.specs.Fields.{greatest}
use Rattle.abi_univariant.specs.Order.{IsSortedBefore, compare_keys, key_at, rule_of, sort_key}
use Rattle.abi_univariant.specs.Part.{parts_of as parts_asked}
use Rattle.abi_univariant.specs.Placement.{fields_repr}
use Rattle.abi_univariant.specs.Run.{IsPlacedIn, IsRun}
use Rattle.abi_calc.specs.Coroutine.Lists.{default_repr}
use Rattle.abi_calc.specs.Enums.Discriminants.{IsAskedWith}
use Rattle.abi_calc.specs.Enums.Tagged.{layout_with_view, lists_size}
use Rattle.abi_tree.specs.declared.mark.Mark.TheVariants.{Never, Unit}
use Rattle.abi_tree.specs.Mark.{mark_of}
use Rattle.abi_tree.specs.Nodes.{parts_at, parts_at_0}
use Rattle.abi_tree.specs.Placed.{Placed, TaggedVariants, nothing_tagged, tagged_variant, no_parts, part, layout_of, parts_in, elements, fields, never as nowhere}
use Rattle.abi_scalar.specs.Layout.{Layout}
use Rattle.abi_tree.specs.Tree.{Tree, Trees, no_trees, more_trees, Variants, no_variants, more_variants, struct, union, enum, array, never, unit, scalar as number_type}
use Rattle.rustc_abi.specs.Enums.{IsEnumed, tagged_variants_at, counted, discriminants_of, tag_integer}
use Rattle.rustc_abi.specs.Laying.{AreLaying, IsLaying, IsLaidList, IsUnited, VariantsLaying, elements_answer, enum_fault, fields_fault, kind_of, one_scalar, placed_enum, placed_fields, placed_together}
use Rattle.rustc_abi.specs.ScalarFault.{scalar_fault}
use Rattle.guarantees.specs.Reference.Words.{Extent, HasTaggedVariantForEach, align_in_bytes, extent_of, extents_of, most_aligned}
use Rattle.rustc_abi.specs.Lists.{offsets_of}
use Rattle.guarantees.specs.Reference.CStruct.{IsCStruct, c_struct}
use Rattle.guarantees.specs.Reference.CUnion.{IsCUnion}
use Rattle.guarantees.specs.Reference.FieldEnums.{IsCEnum, IsCTag, payload, variant_fields, with_fields}
use Rattle.guarantees.specs.Reference.Modifiers.{unaligned}
use Rattle.guarantees.specs.Reference.Transparent.{IsAsLargeAs, IsTransparent, others, unit_extent}
use Rattle.guarantees.proofs.ReferenceLemmas.AlignEnums.{around_is}
use Rattle.guarantees.proofs.ReferenceLemmas.Answers.{faultless, inj-Ok, laid_by}
use Rattle.guarantees.proofs.ReferenceLemmas.Over.{list_count, struct_laid}
use Rattle.guarantees.proofs.ReferenceLemmas.CStructs.{listed_in_c, struct_has}
use Rattle.guarantees.proofs.ReferenceLemmas.EnumLists.{IsTaggedBehind, seen_from, tagged_by}
use Rattle.guarantees.proofs.ReferenceLemmas.Lists.{extents_for, extents_of-parts_at, pow_max}
use Rattle.guarantees.proofs.ReferenceLemmas.Wide.{halved, halved_align, plain_align, wide, wide_has}

abbrev c : ReprOptions
c = record default_repr { flags = record { 0 = 1 } }

-- ---- `a:64`: aggregates that are aligned to eight bytes

abbrev aligned_aggregates : TargetDataLayout
aligned_aggregates = record default_data_layout { aggregate_align = 3 }

abbrev empty : Tree
empty = struct c true None no_trees

-- a `repr(C)` struct without fields is aligned to eight bytes, and not to one
empty_is_raised : (ps : List Placed) (layout : Layout) → AreLaying aligned_aggregates no_trees (Ok ps)
    → IsLaidList aligned_aggregates c (kind_of true ps) (map layout_of ps) (Ok layout)
    → IsCStruct empty (placed_fields c ps layout) → ⊥
empty_is_raised [] layout are h lies =
    let l = listed_in_c aligned_aggregates c true [] layout refl h in
    let high : 2 ^ layout.align.abi ≡ 8 = l.align in
    let low : 2 ^ layout.align.abi ≡ 1 = ap (λ (e : Extent). e.align) (lies (refl, refl, refl)).extent
    ∙ ap most_aligned (extents_of-parts_at (listed_offsets layout.fields) [] l.count) in
    absurd (omega (arith, high, low))
empty_is_raised (p ∷ ps) layout are h lies = absurd (cc are)

pub c_struct_departs : (p : Placed) → IsLaying aligned_aggregates empty (Ok p) → IsCStruct empty p → ⊥
c_struct_departs p h =
    struct_has aligned_aggregates c true no_trees (λ q. IsCStruct empty q → ⊥)
    (λ ps layout are listed. empty_is_raised ps layout are listed) p h

-- a `repr(C)` union of unit likewise
abbrev units : Trees
units = more_trees unit no_trees

abbrev unit_there : Placed
unit_there = fields (unit_layout 0 aligned_aggregates true) Unit no_parts

units_are : (ps : List Placed) → AreLaying aligned_aggregates units (Ok ps) → ps ≡ unit_there ∷ []
units_are ps (inl f) = absurd (cc f.2)
units_are ps (inr (p, here, inl f)) = absurd (cc f.2)
units_are ps (inr (p, here, inr (none, later, is))) = cc

pub c_union_departs : (p : Placed) → IsLaying aligned_aggregates (union c units) (Ok p) → IsCUnion (union c units) p → ⊥
c_union_departs p (inl f) = absurd (cc f.2)
c_union_departs p (inr (ps, there, answer)) = λ lies.
    let found = laid_by (fields_fault c ps) (IsUnited aligned_aggregates c (map layout_of ps)) (placed_together c ps) p answer in
    let own : IsCUnion (union c units) (placed_together c ps found.0) = subst (IsCUnion (union c units)) (sym found.2) lies in
    let exponent : found.0.align.abi ≡ 3 =
    ap (λ (l : Layout). l.align.abi) found.1.2 ∙ ap (λ (qs : List Placed). max 3 (greatest (map (λ (f : Layout). f.align.abi) (map (λ l. l) (map layout_of qs))))) (units_are ps there) in
    let low : 2 ^ found.0.align.abi ≡ 1 = ap (λ (e : Extent). e.align) (own (refl, refl, refl)).extent
    ∙ ap (λ (qs : List Placed). most_aligned (extents_of (parts_at_0 qs))) (units_are ps there) in
    absurd (let bad : 8 ≡ 1 = ap (λ n. 2 ^ n) (sym exponent) ∙ low in omega (arith, bad))

-- a transparent struct over nothing is aligned to eight bytes too, and not as unit
abbrev transparent : ReprOptions
transparent = record default_repr { flags = record { 0 = 4 } }

abbrev around_nothing : Tree
around_nothing = struct transparent true None no_trees

nothing_there : (ps : List Placed) → AreLaying aligned_aggregates no_trees (Ok ps) → ps ≡ []
nothing_there [] are = refl
nothing_there (p ∷ ps) are = absurd (cc are)

nothing_counts : (os : List ℕ) (ps : List Placed) → ps ≡ [] → length os ≡ length ps → others (parts_at os ps) ≡ []
nothing_counts [] [] none e = refl
nothing_counts (o ∷ os) [] none e = absurd (omega (arith, e))
nothing_counts os (p ∷ ps) none e = absurd (cc none)

pub transparent_departs : (p : Placed) → IsLaying aligned_aggregates around_nothing (Ok p) → IsTransparent around_nothing p → ⊥
transparent_departs p h lies =
    let s = struct_laid aligned_aggregates transparent true None no_trees p h in
    let whole : Placed = placed_fields transparent s.fields s.layout in
    let own : IsTransparent around_nothing whole = subst (IsTransparent around_nothing) (sym s.is) lies in
    let none : others (parts_at (listed_offsets s.layout.fields) s.fields) ≡ [] =
    nothing_counts (listed_offsets s.layout.fields) s.fields (nothing_there s.fields s.are) s.count in
    let unit_like : extent_of whole ≡ unit_extent = subst (λ list. IsAsLargeAs list whole) none (own (refl, refl, refl)).0 in
    let low : align_in_bytes p ≡ 1 = ap align_in_bytes (sym s.is) ∙ ap (λ (e : Extent). e.align) unit_like in
    let high : align_in_bytes p ≡ max 8 (most_aligned (extents_for None s.fields)) = s.align in
    absurd (omega (arith, low, high))

-- and a `repr(C)` enum without fields, whose tag has no alignment above four bytes
abbrev lone : Variants
lone = more_variants 0 no_trees no_variants

lone_is : (dl : TargetDataLayout) (variants : List (List Placed)) → VariantsLaying dl lone (Ok variants) → variants ≡ [] ∷ []
lone_is dl variants (inl f) = absurd (cc f.2)
lone_is dl variants (inr (ps, here, inl f)) = absurd (cc f.2)
lone_is dl variants (inr (ps, here, inr (others, last, e))) = cc

-- the lone variant behind a tag
lone_tagged : (dl : TargetDataLayout) (variants : List (List Placed)) (layout : Layout) → variants ≡ [] ∷ [] → IsEnumed dl c (0 ∷ []) variants (Ok layout)
    → IsTaggedBehind dl c (0 ∷ []) ([] ∷ []) layout
lone_tagged dl variants layout are h =
    tagged_by dl c (0 ∷ []) ([] ∷ []) layout refl (subst (λ vs. IsEnumed dl c (0 ∷ []) vs (Ok layout)) are h)

-- such an enum with some layout, by its tag
abbrev IsTaggedLone : TargetDataLayout → Type 0
IsTaggedLone dl = (layout : Layout) × IsTaggedBehind dl c (0 ∷ []) ([] ∷ []) layout

abbrev lone_layout : (dl : TargetDataLayout) → IsTaggedLone dl → Layout
lone_layout dl b =
    layout_with_view 0 dl c (integer_size b.1.asked) (Initialized (Int b.1.asked b.1.signed) b.1.range) (integer_size b.1.asked) b.1.lists b.1.view

-- its variants beside the tag
abbrev lone_tagged_variants : (dl : TargetDataLayout) → IsTaggedLone dl → TaggedVariants
lone_tagged_variants dl b =
    tagged_variants_at (lone_layout dl b) (mark_of true c) 0 (map (seen_from (integer_size b.1.asked) b.1.view (lists_size dl b.1.lists)) b.1.lists) (0 ∷ []) ([] ∷ [])

-- what such an enum has, whatever its tag
lone_has : (dl : TargetDataLayout) (P : Placed → Type 0)
    → ((b : IsTaggedLone dl) → P (placed_enum dl c (0 ∷ []) ([] ∷ []) (lone_layout dl b)))
    → (p : Placed) → IsLaying dl (enum c lone) (Ok p) → P p
lone_has dl P each p (inl f) = absurd (cc f.2)
lone_has dl P each p (inr (variants, there, answer)) =
    let found = laid_by (enum_fault dl c (0 ∷ []) variants) (IsEnumed dl c (0 ∷ []) variants) (placed_enum dl c (0 ∷ []) variants) p answer in
    let are : variants ≡ [] ∷ [] = lone_is dl variants there in
    let b = lone_tagged dl variants found.0 are found.1 in
    subst P (ap (placed_enum dl c (0 ∷ []) ([] ∷ [])) (sym b.is) ∙ ap (λ vs. placed_enum dl c (0 ∷ []) vs found.0) (sym are) ∙ found.2)
    (each (found.0, b))

fieldless : (tagged_variants : TaggedVariants) → HasTaggedVariantForEach lone tagged_variants → with_fields (variant_fields tagged_variants) ≡ []
fieldless nothing_tagged h = absurd h
fieldless (tagged_variant number layout mark no_parts nothing_tagged) h = refl
fieldless (tagged_variant number layout mark no_parts (tagged_variant m l k parts tagged_variants)) h = absurd h.2
fieldless (tagged_variant number layout mark (part offset placed parts) tagged_variants) h = absurd h.1

four_at_most : (i : Integer) → 2 ^ integer_align aligned_aggregates i ≤ 4
four_at_most I8 = lit≤ tt
four_at_most _ = lit≤ tt

pub c_enum_departs : (p : Placed) → IsLaying aligned_aggregates (enum c lone) (Ok p) → IsCEnum aligned_aggregates (enum c lone) p → ⊥
c_enum_departs p h = lone_has aligned_aggregates (λ q. IsCEnum aligned_aggregates (enum c lone) q → ⊥)
    (λ b lies.
    let own = lies (refl, refl, refl) in
    let fields : List (List Extent) = variant_fields (lone_tagged_variants aligned_aggregates b) in
    let none : with_fields fields ≡ [] = fieldless (lone_tagged_variants aligned_aggregates b) own.0.each in
    let payload_align : (payload fields).align ≡ 1 = ap (λ ess. most_aligned (map c_struct ess)) none in
    let tag : ℕ = 2 ^ integer_align aligned_aggregates b.1.asked in
    let small : tag ≤ 4 = four_at_most b.1.asked in
    let most : ℕ = greatest (map (λ (f : Layout). f.align.abi) b.1.lists) in
    let high : 2 ^ max 3 most ≡ max 8 (2 ^ most) = pow_max 3 most in
    let same : 2 ^ max 3 most ≡ max tag (max (payload fields).align 1) = ap (λ (e : Extent). e.align) own.1 in
    absurd (omega arith)) p h

-- ---- `align(16)` on an enum of which all variants are absent

abbrev raised : ReprOptions
raised = record default_repr { align = Some 4 }

-- the struct has the same modifier; `repr(C)` leaves no order to choose, and a single field has one anyway
abbrev around : ReprOptions
around = record c { align = Some 4 }

abbrev absent : ReprOptions → Tree
absent repr = enum repr (more_variants 0 (more_trees never no_trees) no_variants)

abbrev void : Placed
void = nowhere (never_layout default_data_layout) Never

variants_are : (variants : List (List Placed)) → VariantsLaying default_data_layout (more_variants 0 (more_trees never no_trees) no_variants) (Ok variants)
    → variants ≡ (void ∷ []) ∷ []
variants_are variants (inl f) = absurd (cc f.2)
variants_are variants (inr (ps, inl f, rest)) = absurd (cc f.2)
variants_are variants (inr (ps, inr (q, here, inl f), rest)) = absurd (cc f.2)
variants_are variants (inr (ps, inr (q, here, inr (none, later, is)), inl f)) = absurd (cc f.2)
variants_are variants (inr (ps, inr (q, here, inr (none, later, is)), inr (others, last, e))) = cc

unraised_by : (variants : List (List Placed)) (layout : Layout) → variants ≡ (void ∷ []) ∷ []
    → IsEnumed default_data_layout raised (0 ∷ []) variants (Ok layout)
    → align_in_bytes (placed_enum default_data_layout raised (0 ∷ []) variants layout) ≡ 1
unraised_by variants layout are h =
    let there : IsEnumed default_data_layout raised (0 ∷ []) ((void ∷ []) ∷ []) (Ok layout) =
    subst (λ vs. IsEnumed default_data_layout raised (0 ∷ []) vs (Ok layout)) are h in
    let same : layout ≡ never_layout default_data_layout = cc there in
    ap₂ (λ vs l. align_in_bytes (placed_enum default_data_layout raised (0 ∷ []) vs l)) are same

pub absent_is_unraised : (p : Placed) → IsLaying default_data_layout (absent raised) (Ok p) → align_in_bytes p ≡ 1
absent_is_unraised p (inl f) = absurd (cc f.2)
absent_is_unraised p (inr (variants, there, answer)) =
    let numbers = discriminants_of (more_variants 0 (more_trees never no_trees) no_variants) in
    let found = laid_by (enum_fault default_data_layout raised numbers variants) (IsEnumed default_data_layout raised numbers variants)
    (placed_enum default_data_layout raised numbers variants) p answer in
    ap align_in_bytes (sym found.2) ∙ unraised_by variants found.0 (variants_are variants there) found.1

around_is_raised : (ps : List Placed) (layout : Layout) → IsLaidList default_data_layout around (kind_of true ps) (map layout_of ps) (Ok layout)
    → 16 ≤ align_in_bytes (placed_fields around ps layout)
around_is_raised ps layout h =
    let l = listed_in_c default_data_layout around true ps layout refl h in omega (arith, l.align)

-- the rule promises that both are aligned alike
pub enum_align_departs : (p wrapped : Placed) → IsLaying default_data_layout (absent raised) (Ok p)
    → IsLaying default_data_layout (struct around true None (more_trees (absent (unaligned raised)) no_trees)) (Ok wrapped)
    → align_in_bytes p ≡ align_in_bytes wrapped → ⊥
enum_align_departs p wrapped own outer same =
    let low : align_in_bytes p ≡ 1 = absent_is_unraised p own in
    let high : 16 ≤ align_in_bytes wrapped =
    struct_has default_data_layout around true (more_trees (absent (unaligned raised)) no_trees) (λ q. 16 ≤ align_in_bytes q)
    (λ ps layout are listed. around_is_raised ps layout listed) wrapped outer in
    absurd (omega arith)

-- ---- `align(2)` on an enum whose discriminants ask for a tag of four bytes

-- the rule promises that both are aligned alike
pub wide_departs : (p wrapped : Placed) → IsLaying default_data_layout (enum halved wide) (Ok p)
    → IsLaying default_data_layout (struct halved true None (more_trees (enum (unaligned halved) wide) no_trees)) (Ok wrapped)
    → align_in_bytes p ≡ align_in_bytes wrapped → ⊥
wide_departs p wrapped own outer same =
    let high = wide_has halved (λ a. 2 ≤ a) halved_align p own in
    let inner = around_is default_data_layout halved (enum (unaligned halved) wide) 1 wrapped refl refl outer in
    let low = wide_has default_repr (λ a. a ≡ 0) plain_align inner.0 inner.1 in
    let one : align_in_bytes inner.0 ≡ 1 = low.2 ∙ ap (λ a. 2 ^ a) low.1 in
    let around : align_in_bytes wrapped ≡ max 2 (max (align_in_bytes inner.0) 1) = inner.2 in
    let up : 2 ^ 2 ≤ 2 ^ high.0 = pow_mono {i = 2} {j = high.0} high.1 in
    absurd (omega (arith, up, high.2, around, one, same))

-- ---- C enums where an index is narrower than the least C enum

-- pointers and indices of 16 bits, and C enums of four bytes, as a data layout has them that says nothing of enums
abbrev narrow : TargetDataLayout
narrow = record default_data_layout {
  default_address_space_pointer_spec = record { pointer_size = 2; pointer_align = 1; pointer_offset = 2; is_fat = false };
}

-- the discriminant is 0, so that the least integer of an index is asked for
zero_asked : (least : ℤ) (greatest : ℕ) → IsAskedWith narrow c (counted c (0 ∷ []) ([] ∷ [])) least greatest
    → tag_integer narrow c least greatest ≡ (I16, false)
zero_asked least greatest asked =
    let P : ℤ → Type 0 = λ z. z ≡ pos 0 in
    let all : All P (pos 0 ∷ pos 0 ∷ []) = All-cons P (pos 0) (pos 0 ∷ []) refl (All-cons P (pos 0) [] refl (All-nil P)) in
    let low : least ≡ pos 0 = All-contains P (pos 0 ∷ pos 0 ∷ []) least all asked.0.0 in
    let high : pos greatest ≡ pos 0 = All-contains P (pos 0 ∷ pos 0 ∷ []) (pos greatest) all asked.1.0 in
    let most : greatest ≡ 0 = cc in
    ap₂ (λ (z : ℤ) n. tag_integer narrow c z n) low most

-- the tag has two bytes, and the least C enum four
pub c_tag_departs : (p : Placed) → IsLaying narrow (enum c lone) (Ok p) → IsCTag narrow (enum c lone) p → ⊥
c_tag_departs p h = lone_has narrow (λ q. IsCTag narrow (enum c lone) q → ⊥)
    (λ b lies.
    let tag = lies (refl, refl, refl) in
    let asked : (b.1.asked, b.1.signed) ≡ (I16, false) = b.1.for.3 ∙ zero_asked b.1.for.0 b.1.for.1 b.1.for.2 in
    let two : integer_size b.1.asked ≡ 2 = ap (λ (x : Integer × Bool). integer_size x.0) asked in
    let own : integer_size b.1.asked ≡ integer_size tag.0 = ap (λ (e : Extent). e.size) tag.3.1 in
    let enough : 4 ≤ integer_size tag.0 = tag.2.enough in
    absurd (omega arith)) p h

-- ---- thin pointers under LLVM's defaults: `p:64:64` beside `i64:32`

abbrev pointer : Scalar
pointer = Initialized (Pointer (record { 0 = 0 })) (full_range 8)

-- `usize` is an integer of 64 bits
abbrev usize : Scalar
usize = Initialized (Int I64 false) (full_range 8)

-- a pointer is aligned to eight bytes, and `usize` to four
pub thin_departs : (p q : Placed) → IsLaying default_data_layout (number_type pointer) (Ok p) → IsLaying default_data_layout (number_type usize) (Ok q)
    → extent_of p ≡ extent_of q → ⊥
thin_departs p q there other same =
    let first : p ≡ one_scalar default_data_layout pointer = faultless (one_scalar default_data_layout pointer) p (scalar_fault default_data_layout pointer) there in
    let second : q ≡ one_scalar default_data_layout usize = faultless (one_scalar default_data_layout usize) q (scalar_fault default_data_layout usize) other in
    absurd (let is : 8 ≡ 4 = ap align_in_bytes (sym first) ∙ ap (λ (e : Extent). e.align) same ∙ ap align_in_bytes second in omega (arith, is))

-- ---- `packed(16)` on a struct of `u32` and four `u16` in free order, which is aligned to four bytes

abbrev word_type : Tree
word_type = number_type (Initialized (Int I32 false) (full_range 4))

abbrev short_type : Tree
short_type = number_type (Initialized (Int I16 false) (full_range 2))

abbrev mixed : Trees
mixed = more_trees word_type (more_trees (array 4 short_type) no_trees)

abbrev word : Placed
word = one_scalar default_data_layout (Initialized (Int I32 false) (full_range 4))

abbrev short : Placed
short = one_scalar default_data_layout (Initialized (Int I16 false) (full_range 2))

abbrev shorts : Placed
shorts = elements (elements_layout 0 true 4 (layout_of short)) 4 short

abbrev packed_to_16 : ReprOptions
packed_to_16 = record default_repr { pack = Some 4 }

shorts_are : (p : Placed) → IsLaying default_data_layout (array 4 short_type) (Ok p) → p ≡ shorts
shorts_are p (inl f) = absurd (cc f.2)
shorts_are p (inr (q, here, e)) =
    let one : q ≡ short = inj-Ok q short here in
    inj-Ok p shorts (subst (λ x. Ok p ≡ elements_answer default_data_layout 4 x) one e)

mixed_are : (ps : List Placed) → AreLaying default_data_layout mixed (Ok ps) → ps ≡ word ∷ shorts ∷ []
mixed_are ps (inl f) = absurd (cc f.2)
mixed_are ps (inr (p, here, inl f)) = absurd (cc f.2)
mixed_are ps (inr (p, here, inr (rest, inl f, is))) = absurd (cc f.2)
mixed_are ps (inr (p, here, inr (rest, inr (q, there, inl f), is))) = absurd (cc f.2)
mixed_are ps (inr (p, here, inr (rest, inr (q, there, inr (none, last, that)), is))) =
    let first : p ≡ word = inj-Ok p word here in
    let second : q ≡ shorts = shorts_are q there in
    cc

-- two indices have two orders
two_orders : (order : List ℕ) → IsPermutation (0 ∷ 1 ∷ []) order → (order ≡ 0 ∷ 1 ∷ []) ⊎ (order ≡ 1 ∷ 0 ∷ [])
two_orders order permuted = by order (length_permutation (0 ∷ 1 ∷ []) order permuted)
    (All-permutation (λ i. (i ≡ 0) ⊎ (i ≡ 1)) (0 ∷ 1 ∷ []) order permuted
    (All-cons (λ (i : ℕ). (i ≡ 0) ⊎ (i ≡ 1)) 0 (1 ∷ []) (inl refl) (All-cons (λ (i : ℕ). (i ≡ 0) ⊎ (i ≡ 1)) 1 [] (inr refl) (All-nil (λ (i : ℕ). (i ≡ 0) ⊎ (i ≡ 1))))))
    (sum_by-IsPermutation (λ i. i) (0 ∷ 1 ∷ []) order permuted)
  where
    of_two : (x y : ℕ) → (x ≡ 0) ⊎ (x ≡ 1) → 0 + x + y ≡ 1 → (x ∷ y ∷ [] ≡ 0 ∷ 1 ∷ []) ⊎ (x ∷ y ∷ [] ≡ 1 ∷ 0 ∷ [])
    of_two x y (inl a) e = inl (ap₂ (λ (m n : ℕ). m ∷ n ∷ []) a (omega arith))
    of_two x y (inr a) e = inr (ap₂ (λ (m n : ℕ). m ∷ n ∷ []) a (omega arith))

    by : (order : List ℕ) → length order ≡ 2 → All (λ i. (i ≡ 0) ⊎ (i ≡ 1)) order → sum_by (λ i. i) order ≡ 1 → (order ≡ 0 ∷ 1 ∷ []) ⊎ (order ≡ 1 ∷ 0 ∷ [])
    by (x ∷ y ∷ []) long all e = of_two x y (All-head (λ i. (i ≡ 0) ⊎ (i ≡ 1)) x (y ∷ []) all) e
    by _ long all e = absurd (omega arith)

abbrev asked : List Part
asked = parts_asked default_data_layout (layout_of word ∷ layout_of shorts ∷ [])

-- in free order the array lies first, since its size counts as an alignment
abbrev free_list : FieldsRepr
free_list = fields_repr default_data_layout default_repr AlwaysSized

free_sorted : (order : List ℕ) → IsSortedBefore free_list Start asked order → order ≡ 1 ∷ 0 ∷ []
unfolding count_trailing_zeros
free_sorted order (front, s, is) =
    let keys : List SortKey = map (sort_key (rule_of free_list Start asked)) asked in
    ⊎_elim
    (λ (e : front ≡ 0 ∷ 1 ∷ []). let sorted = subst (λ o. IsSortedByKey (key_at keys) compare_keys o) e s.sorted in
    absurd (let no : true ≡ false = sorted 0 0 (lit≤ tt) (lit≤ tt) in cc))
    (λ (e : front ≡ 1 ∷ 0 ∷ []). is ∙ ap (λ f. f ++ []) e)
    (two_orders front s.permutes)

-- where it is packed the word does, which is aligned to more
abbrev packed_list : FieldsRepr
packed_list = fields_repr default_data_layout packed_to_16 AlwaysSized

packed_sorted : (order : List ℕ) → IsSortedBefore packed_list Start asked order → order ≡ 0 ∷ 1 ∷ []
packed_sorted order (front, s, is) =
    let keys : List SortKey = map (sort_key (rule_of packed_list Start asked)) asked in
    ⊎_elim
    (λ (e : front ≡ 0 ∷ 1 ∷ []). is ∙ ap (λ f. f ++ []) e)
    (λ (e : front ≡ 1 ∷ 0 ∷ []). let sorted = subst (λ o. IsSortedByKey (key_at keys) compare_keys o) e s.sorted in
    absurd (let no : true ≡ false = sorted 0 0 (lit≤ tt) (lit≤ tt) in cc))
    (two_orders front s.permutes)

free_offset : (layout : Layout) → IsLaidList default_data_layout default_repr AlwaysSized (layout_of word ∷ layout_of shorts ∷ []) (Ok layout)
    → get_or (listed_offsets layout.fields) 0 0 ≡ 8
free_offset layout (order, offsets, h) =
    let named = h.named in
    let first : named.0 ≡ 1 ∷ 0 ∷ [] = free_sorted named.0 named.1 in
    let run = subst (λ f. IsRun default_data_layout free_list asked f order offsets layout.size layout.align.abi layout.largest_niche) first named.3 in
    let placed = subst (λ o. IsPlacedIn default_data_layout free_list Start asked o offsets layout.size layout.align.abi layout.largest_niche) run.0 run.1 in
    ap (λ os. get_or os 0 0) (ap listed_offsets h.shape) ∙ ap (λ xs. get_or xs 1 0) placed.places

packed_offset : (layout : Layout) → IsLaidList default_data_layout packed_to_16 AlwaysSized (layout_of word ∷ layout_of shorts ∷ []) (Ok layout)
    → get_or (listed_offsets layout.fields) 0 0 ≡ 0
packed_offset layout (order, offsets, h) =
    let named = h.named in
    let first : named.0 ≡ 0 ∷ 1 ∷ [] = packed_sorted named.0 named.1 in
    let run = subst (λ f. IsRun default_data_layout packed_list asked f order offsets layout.size layout.align.abi layout.largest_niche) first named.3 in
    let placed = subst (λ o. IsPlacedIn default_data_layout packed_list Start asked o offsets layout.size layout.align.abi layout.largest_niche) run.0 run.1 in
    ap (λ os. get_or os 0 0) (ap listed_offsets h.shape) ∙ ap (λ xs. get_or xs 0 0) placed.places

-- where the first field of the struct lies
abbrev first_offset : Placed → ℕ
first_offset p = get_or (offsets_of (parts_in p)) 0 0

first_of : (repr : ReprOptions) (n : ℕ) (layout : Layout) (os : List ℕ) → listed_offsets layout.fields ≡ os → length os ≡ 2 → get_or os 0 0 ≡ n
    → first_offset (placed_fields repr (word ∷ shorts ∷ []) layout) ≡ n
first_of repr n layout [] is long at = absurd (omega arith)
first_of repr n layout (o ∷ os) is long at =
    ap (λ ns. get_or (offsets_of (parts_at ns (word ∷ shorts ∷ []))) 0 0) is ∙ at

struct_first : (repr : ReprOptions) (n : ℕ)
    → ((layout : Layout) → IsLaidList default_data_layout repr AlwaysSized (layout_of word ∷ layout_of shorts ∷ []) (Ok layout) → get_or (listed_offsets layout.fields) 0 0 ≡ n)
    → (p : Placed) → IsLaying default_data_layout (struct repr true None mixed) (Ok p) → first_offset p ≡ n
struct_first repr n at p h =
    struct_has default_data_layout repr true mixed (λ q. first_offset q ≡ n)
    (λ ps layout are listed.
    let is : ps ≡ word ∷ shorts ∷ [] = mixed_are ps are in
    let own = subst (λ qs. IsLaidList default_data_layout repr (kind_of true qs) (map layout_of qs) (Ok layout)) is listed in
    let count : length (listed_offsets layout.fields) ≡ 2 = list_count default_data_layout repr true (word ∷ shorts ∷ []) layout own in
    ap (λ qs. first_offset (placed_fields repr qs layout)) is
    ∙ first_of repr n layout (listed_offsets layout.fields) refl count (at layout own)) p h

-- the word lies at 8, and packed at 0
pub packed_departs : (p q : Placed) → IsLaying default_data_layout (struct default_repr true None mixed) (Ok p)
    → IsLaying default_data_layout (struct packed_to_16 true None mixed) (Ok q) → offsets_of (parts_in p) ≡ offsets_of (parts_in q) → ⊥
packed_departs p q free packed same =
    absurd (let is : 8 ≡ 0 = sym (struct_first default_repr 8 free_offset p free) ∙ ap (λ os. get_or os 0 0) same ∙ struct_first packed_to_16 0 packed_offset q packed in omega (arith, is))
