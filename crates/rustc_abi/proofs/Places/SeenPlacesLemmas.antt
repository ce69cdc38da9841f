-- What handles call a data place is one of the type that is laid out.
use Rattle.std.proofs.Common.{◌≡◌, ℕ, zero, suc, ◌+◌, ◌-◌, ◌/◌, ◌%◌, ◌<◌, ◌≤◌, List, [], ◌∷◌, ◌++◌, Bool, Ok, true, false, length, map, get_or, arith, refl, sym, ap, ◌∙◌, subst, All}
use Rattle.std.specs.Prelude.{◌&&◌, ◌||◌, nat_le, nat_lt, not}
use Rattle.std.specs.List.{list_any, range_with_len}
use Rattle.std.specs.Cmp.Derive.{both_true}
use Rattle.std.proofs.lemmas.Bool.{le-leb, le-ltb, lt-ltb, or_left}
use Rattle.std.proofs.lemmas.List.{length-map, map-id}
use Rattle.std.proofs.lemmas.List.Elements.{All-cons, All-head, All-nil, All-tail, All-weaker}
use Rattle.std.proofs.lemmas.List.Folds.{list_any-append}
use Rattle.std.proofs.lemmas.List.FromFn.{map-range_with_len_more}
use Rattle.std.proofs.lemmas.Nat.{mod_below}
use Rattle.std.proofs.Math.Bool.{or-false}
use Rattle.abi_base.specs.declared.data_layout.TargetDataLayout.{TargetDataLayout}
use Rattle.abi_base.specs.DataLayout.{IsLawfulDataLayout}
use Rattle.abi_scalar.specs.declared.backend_repr.BackendRepr.{BackendRepr}
use Rattle.abi_scalar.specs.declared.backend_repr.BackendRepr.TheVariants.{Scalar as OneScalar}
use Rattle.abi_scalar.specs.declared.fields_shape.FieldsShape.{FieldsShape}
use Rattle.abi_scalar.specs.declared.fields_shape.FieldsShape.TheVariants.{Primitive, Union as AtStart, Array, Arbitrary}
use Rattle.abi_scalar.specs.declared.scalar.Scalar.{Scalar}
use Rattle.abi_scalar.specs.declared.variants.TagEncoding.{TagEncoding}
use Rattle.abi_scalar.specs.declared.variants.VariantLayout.{VariantLayout}
use Rattle.abi_scalar.specs.declared.variants.Variants.{Variants}
use Rattle.abi_scalar.specs.declared.variants.Variants.TheVariants.{Empty, Single, Multiple}
use Rattle.abi_scalar.specs.Lawful.{IsLawfulLayout, IsLawfulView}
use Rattle.abi_scalar.specs.Scalar.{scalar_size}
use Rattle.abi_scalar.specs.Shape.{IsListed, field_count, field_offset}
use Rattle.abi_scalar.specs.Simple.{never_layout}
use Rattle.abi_scalar.specs.Variant.{variants_of}
use Rattle.abi_scalar.proofs.ReadableLemmas.{lawful_readable}
use Rattle.abi_univariant.specs.Array.{elements_layout}
use Rattle.abi_types.specs.Ty.Typed.{Typed, typed, no_type, field_in, layout_in, variant_in}
use Rattle.abi_types.specs.Ty.Places.{covers_element, fields_cover, is_padding, is_place, is_shared_place, is_unused, variants_cover}
use Rattle.abi_tree.specs.declared.laid.Laid.{Laid}
use Rattle.abi_tree.specs.declared.mark.Mark.{Mark}
use Rattle.abi_tree.specs.declared.mark.Mark.TheVariants.{Plain}
use Rattle.abi_tree.specs.Tree.{Tree}
use Rattle.abi_tree.specs.Placed.{Placed, TaggedVariants, layout_of, scalar, pair, never, elements, vector, fields, union, single, tagged, states, parts_of_tagged_variant, size_of}
use Rattle.abi_scalar.specs.Layout.{Layout}
use Rattle.abi_tree.specs.Places.{is_data_place, is_place_of_tagged_variant, is_place_of_part}
use Rattle.rustc_abi.specs.Inside.{EndInside, VariantsInside}
use Rattle.abi_tree.specs.Laid.{placed_of, typed_of}
use Rattle.rustc_abi.specs.Laying.{IsLaying, one_scalar}
use Rattle.abi_tree.specs.Nodes.{parts_at, parts_at_0}
use Rattle.rustc_abi.specs.Enums.{tagged_variants_at}
use Rattle.abi_tree.specs.Runs.{is_padding_of, is_place_of_variant}
use Rattle.abi_index.specs.RangeSet.{AreMaximalRuns, is_in_ranges}
use Rattle.abi_tree.proofs.Places.MaximalLemmas.{padding_listed, padding_told}
use Rattle.abi_types.specs.Ty.Runs.{IsVariantIndex}
use Rattle.abi_tree.specs.Seen.{HasOffset, IsListOf, Sees, SeesTaggedVariants, SeesParts, SeesTypes, last_field}
use Rattle.rustc_abi.proofs.Places.CoveredLemmas.{HasOneWhole, IsCovered, IsNoScalar, covered_parts, memory_none}
use Rattle.rustc_abi.proofs.Trees.KindsLemmas.{AreBeside, AreFields, IsKept, IsTagWhole, laid_kept}
use Rattle.rustc_abi.proofs.Places.LawsLemmas.{lengths_in}
use Rattle.abi_tree.proofs.Meaning.SeenLemmas.{count_at, seen_at}

-- handles of the type tell its data places
abbrev pub TellsPlaces : Placed → Type 0
TellsPlaces p = (t : Typed) → Sees t p → (k : ℕ) → is_place t k ≡ is_data_place p k

-- and of each of its variants those that the others use beside it
abbrev pub ListsUnused : Placed → Type 0
ListsUnused p = (t : Typed) → Sees t p → (i k : ℕ) → IsVariantIndex (layout_of p).variants i → is_unused t i k ≡ (is_data_place p k && not (is_place_of_variant p i k))

-- What handles tell of a type's data places.
pub record IsTold (p : Placed) : Type 0 where
  pub covered : IsCovered p
  pub places : TellsPlaces p
  pub unused : ListsUnused p

-- ---- tests

or_assoc : (a b c : Bool) → ((a || b) || c) ≡ (a || (b || c))
or_assoc true b c = refl
or_assoc false b c = refl

and_not : (a : Bool) → false ≡ (a && not a)
and_not true = refl
and_not false = refl

any_more : (p : ℕ → Bool) (n : ℕ) → list_any p (range_with_len 0 (n + 1)) ≡ (list_any p (range_with_len 0 n) || p n)
any_more p n =
    ap (list_any p) (sym (map-id (range_with_len 0 (n + 1))) ∙ map-range_with_len_more (λ k. k) 0 n n (omega arith) ∙ ap (λ xs. xs ++ n ∷ []) (map-id (range_with_len 0 n)))
    ∙ list_any-append p (range_with_len 0 n) (n ∷ []) ∙ ap (λ b. list_any p (range_with_len 0 n) || b) (or-false (p n))

-- what lies at the start
from_start : (p : ℕ → Bool) (k : ℕ) → (nat_le 0 k && p (k - 0)) ≡ p k
from_start p k =
    let same : k - 0 ≡ k = omega arith in
    ap (λ b. b && p (k - 0)) (le-leb 0 k (omega arith)) ∙ ap p same

-- ---- what fields cover, and what variants cover

place_by : (t : Typed) (k : ℕ) → is_place t k ≡ (is_shared_place t k || variants_cover (layout_in t).variants (λ v. is_place (variant_in t v)) k)
place_by (typed l m f v) k = refl
place_by no_type k = sym (ap (λ b. b || false) (le-ltb k 0 (omega arith)))

alone_cover : (vs : Variants ℕ ℕ) (own : ℕ → ℕ → Bool) (k : ℕ) → variants_of vs ≡ [] → variants_cover vs own k ≡ false
alone_cover Empty own k e = refl
alone_cover (Single i) own k e = refl
alone_cover (Multiple tag encoding at layouts) own k e = ap (λ (ls : List (VariantLayout ℕ)). list_any (λ v. own v k) (range_with_len 0 (length ls))) e

place_alone : (t : Typed) (k : ℕ) → variants_of (layout_in t).variants ≡ [] → is_place t k ≡ is_shared_place t k
place_alone t k e =
    place_by t k ∙ ap (λ b. is_shared_place t k || b) (alone_cover (layout_in t).variants (λ v. is_place (variant_in t v)) k e) ∙ or-false (is_shared_place t k)

-- what fields of this shape cover
shared_as : (t : Typed) (k : ℕ) (shape : FieldsShape ℕ) → (layout_in t).fields ≡ shape → is_shared_place t k ≡ fields_cover (layout_in t).size shape (field_in t) (λ i. is_place (field_in t i)) k
shared_as t k shape e = ap (λ s. fields_cover (layout_in t).size s (field_in t) (λ i. is_place (field_in t i)) k) e

-- the field covers the byte at its offset
abbrev covers_at : Typed → (k index : ℕ) → Bool
covers_at t k i = nat_le (field_offset (layout_in t).fields i) k && is_place (field_in t i) (k - field_offset (layout_in t).fields i)

shared_by : (t : Typed) (k : ℕ) (shape : FieldsShape ℕ) → (layout_in t).fields ≡ shape → IsListed shape → is_shared_place t k ≡ list_any (covers_at t k) (range_with_len 0 (field_count shape))
shared_by t k Primitive e listed = absurd listed
shared_by t k (AtStart count) e listed = absurd listed
shared_by t k (Array stride count) e listed = absurd listed
shared_by t k (Arbitrary offsets order) e listed =
    shared_as t k (Arbitrary offsets order) e
    ∙ sym (ap (λ (s : FieldsShape ℕ). list_any (λ i. nat_le (field_offset s i) k && is_place (field_in t i) (k - field_offset s i)) (range_with_len 0 (length offsets))) e)

-- ---- fields that are seen

covers_seen : (t : Typed) (k i offset : ℕ) (p : Placed) → TellsPlaces p → HasOffset t i offset → Sees (field_in t i) p → covers_at t k i ≡ (nat_le offset k && is_data_place p (k - offset))
covers_seen t k i offset p is_state_tag at seen =
    ap (λ o. nat_le o k && is_place (field_in t i) (k - o)) at ∙ ap (λ b. nat_le offset k && b) (is_state_tag (field_in t i) seen (k - offset))

parts_cover : (t : Typed) (k i : ℕ) (offsets : List ℕ) (ps : List Placed) → length ps ≤ length offsets → All TellsPlaces ps → SeesParts t i (parts_at offsets ps) →
    list_any (covers_at t k) (range_with_len i (length ps)) ≡ is_place_of_part (parts_at offsets ps) k
parts_cover t k i [] [] e tell seen = refl
parts_cover t k i (o ∷ offsets) [] e tell seen = refl
parts_cover t k i [] (p ∷ ps) e tell seen = absurd (omega arith)
parts_cover t k i (o ∷ offsets) (p ∷ ps) e tell seen =
    let next : suc i ≡ i + 1 = omega arith in
    let here = covers_seen t k i o p (All-head TellsPlaces p ps tell) seen.0 seen.1 in
    let later = parts_cover t k (i + 1) offsets ps (omega arith) (All-tail TellsPlaces p ps tell) (subst (λ j. SeesParts t j (parts_at offsets ps)) next seen.2) in
    ap (λ b. b || list_any (covers_at t k) (range_with_len (i + 1) (length ps))) here ∙ ap (λ b. (nat_le o k && is_data_place p (k - o)) || b) later

types_cover : (t : Typed) (k i : ℕ) (ps : List Placed) → All TellsPlaces ps → SeesTypes t i (parts_at_0 ps) →
    list_any (λ j. is_place (field_in t j) k) (range_with_len i (length ps)) ≡ is_place_of_part (parts_at_0 ps) k
types_cover t k i [] tell seen = refl
types_cover t k i (p ∷ ps) tell seen =
    let next : suc i ≡ i + 1 = omega arith in
    let here : is_place (field_in t i) k ≡ (nat_le 0 k && is_data_place p (k - 0)) = All-head TellsPlaces p ps tell (field_in t i) seen.0 k ∙ sym (from_start (is_data_place p) k) in
    let later = types_cover t k (i + 1) ps (All-tail TellsPlaces p ps tell) (subst (λ j. SeesTypes t j (parts_at_0 ps)) next seen.1) in
    ap (λ b. b || list_any (λ j. is_place (field_in t j) k) (range_with_len (i + 1) (length ps))) here ∙ ap (λ b. (nat_le 0 k && is_data_place p (k - 0)) || b) later

-- a type whose fields are all of the parts, listed one by one
list_places : (t : Typed) (offsets : List ℕ) (ps : List Placed) → length offsets ≡ length ps → All TellsPlaces ps → IsListOf (parts_at offsets ps) t → SeesParts t 0 (parts_at offsets ps) →
    (k : ℕ) → is_place t k ≡ is_place_of_part (parts_at offsets ps) k
list_places t offsets ps e tell list seen k =
    let count : field_count (layout_in t).fields ≡ length ps = list.1 ∙ count_at offsets ps e ∙ e in
    place_alone t k list.2 ∙ shared_by t k (layout_in t).fields refl list.0 ∙ ap (λ n. list_any (covers_at t k) (range_with_len 0 n)) count
    ∙ parts_cover t k 0 offsets ps (omega (arith, e)) tell seen

list_of : (t : Typed) (layout : Layout) (offsets : List ℕ) (ps : List Placed) → AreFields layout offsets ps → layout_in t ≡ layout → IsListOf (parts_at offsets ps) t
list_of t layout offsets ps all same =
    let shape : (layout_in t).fields ≡ Arbitrary offsets all.order = ap (λ (l : Layout). l.fields) same ∙ all.shape in (
      subst IsListed (sym shape) tt,
      ap field_count shape ∙ sym (count_at offsets ps all.count),
      ap (λ (l : Layout). variants_of l.variants) same ∙ all.alone,
    )

-- ---- variants that are seen

variant_places : (t : Typed) (size : ℕ) (offsets : List ℕ) (ps : List Placed) → EndInside size offsets (map size_of ps) → All TellsPlaces ps → IsListOf (parts_at offsets ps) t →
    SeesParts t 0 (parts_at offsets ps) → (k : ℕ) → is_place t k ≡ is_place_of_part (parts_at offsets ps) k
variant_places t size offsets ps inside tell list seen k = list_places t offsets ps (lengths_in size offsets (map size_of ps) inside ∙ length-map ps size_of) tell list seen k

tagged_variants_cover : (whole : Layout) (mark : Mark) (t : Typed) (k i size : ℕ) (numbers : List ℕ) (layouts : List (VariantLayout ℕ)) (variants : List (List Placed)) → length numbers ≡ length variants → VariantsInside size layouts variants →
    All (All TellsPlaces) variants → SeesTaggedVariants t i (tagged_variants_at whole mark i layouts numbers variants) →
    list_any (λ v. is_place (variant_in t v) k) (range_with_len i (length layouts)) ≡ is_place_of_tagged_variant (tagged_variants_at whole mark i layouts numbers variants) k
tagged_variants_cover whole mark t k i size numbers [] variants long inside tell seen = refl
tagged_variants_cover whole mark t k i size numbers (l ∷ layouts) [] long inside tell seen = absurd inside
tagged_variants_cover whole mark t k i size [] (l ∷ layouts) (ps ∷ variants) long inside tell seen = absurd (omega arith)
tagged_variants_cover whole mark t k i size (n ∷ numbers) (l ∷ layouts) (ps ∷ variants) long inside tell seen =
    let next : suc i ≡ i + 1 = omega arith in
    let here = variant_places (variant_in t i) l.size l.field_offsets ps inside.1 (All-head (All TellsPlaces) ps variants tell) seen.1 seen.2 k in
    let later =
    tagged_variants_cover whole mark t k (i + 1) size numbers layouts variants (omega arith) inside.2 (All-tail (All TellsPlaces) ps variants tell) (subst (λ j. SeesTaggedVariants t j (tagged_variants_at whole mark (i + 1) layouts numbers variants)) next seen.3) in
    ap (λ b. b || list_any (λ v. is_place (variant_in t v) k) (range_with_len (i + 1) (length layouts))) here ∙ ap (λ b. is_place_of_part (parts_at l.field_offsets ps) k || b) later

tagged_variant_cover : (whole : Layout) (mark : Mark) (t : Typed) (k i size : ℕ) (numbers : List ℕ) (layouts : List (VariantLayout ℕ)) (variants : List (List Placed)) → length numbers ≡ length variants → VariantsInside size layouts variants →
    All (All TellsPlaces) variants → SeesTaggedVariants t i (tagged_variants_at whole mark i layouts numbers variants) → (j : ℕ) → j < length layouts →
    is_place (variant_in t (i + j)) k ≡ is_place_of_part (parts_of_tagged_variant (tagged_variants_at whole mark i layouts numbers variants) j) k
tagged_variant_cover whole mark t k i size numbers [] variants long inside tell seen j lt = absurd (omega arith)
tagged_variant_cover whole mark t k i size numbers (l ∷ layouts) [] long inside tell seen j lt = absurd inside
tagged_variant_cover whole mark t k i size [] (l ∷ layouts) (ps ∷ variants) long inside tell seen j lt = absurd (omega arith)
tagged_variant_cover whole mark t k i size (n ∷ numbers) (l ∷ layouts) (ps ∷ variants) long inside tell seen zero lt =
    let same : i + 0 ≡ i = omega arith in
    ap (λ v. is_place (variant_in t v) k) same ∙ variant_places (variant_in t i) l.size l.field_offsets ps inside.1 (All-head (All TellsPlaces) ps variants tell) seen.1 seen.2 k
tagged_variant_cover whole mark t k i size (n ∷ numbers) (l ∷ layouts) (ps ∷ variants) long inside tell seen (suc j) lt =
    let next : suc i ≡ i + 1 = omega arith in
    let same : i + suc j ≡ i + 1 + j = omega arith in
    ap (λ v. is_place (variant_in t v) k) same
    ∙ tagged_variant_cover whole mark t k (i + 1) size numbers layouts variants (omega arith) inside.2 (All-tail (All TellsPlaces) ps variants tell) (subst (λ j. SeesTaggedVariants t j (tagged_variants_at whole mark (i + 1) layouts numbers variants)) next seen.3) j (omega arith)

-- ---- what a tag says

-- no tag distinguishes variants
alone_unused : (t : Typed) (i k : ℕ) (vs : Variants ℕ ℕ) (place : Bool) → (layout_in t).variants ≡ vs → variants_of vs ≡ [] → IsVariantIndex vs i → is_unused t i k ≡ (place && not place)
alone_unused t i k Empty place e none lt = rw e (and_not place)
alone_unused t i k (Single index) place e none lt = rw e (and_not place)
alone_unused t i k (Multiple tag encoding field layouts) place e none lt = absurd (omega (arith, lt, ap (λ (ls : List (VariantLayout ℕ)). length ls) none))

several_unused : (t : Typed) (i k : ℕ) (tag : Scalar) (encoding : TagEncoding ℕ) (field : ℕ) (layouts : List (VariantLayout ℕ)) → (layout_in t).variants ≡ Multiple tag encoding field layouts →
    is_unused t i k ≡ (is_place t k && not (is_shared_place t k || is_place (variant_in t i) k))
several_unused t i k tag encoding field layouts e = rw e refl

-- ---- each kind of type

scalar_places : (dl : TargetDataLayout) (s : Scalar) → TellsPlaces (one_scalar dl s)
scalar_places dl s t seen k =
    place_alone t k (ap (λ (l : Layout). variants_of l.variants) seen.0) ∙ shared_as t k Primitive (ap (λ (l : Layout). l.fields) seen.0) ∙ ap (λ (l : Layout). nat_lt k l.size) seen.0

module _ (layout : Layout) (kind : Mark) (offsets : List ℕ) (pres : List Placed) (tag : Placed) (mark : Scalar) (numbers : List ℕ) (layouts : List (VariantLayout ℕ)) (variants : List (List Placed))
    (beside : AreBeside layout offsets pres mark numbers layouts variants) (is_state_tag : TellsPlaces tag) (own : All TellsPlaces pres) (each : All (All TellsPlaces) variants)
    (t : Typed) (same : layout_in t ≡ layout) (front : SeesParts t 0 (parts_at offsets pres)) (offset : ℕ) (at : HasOffset t (length pres) offset) (seen : Sees (field_in t (length pres)) tag)
    (held : SeesTaggedVariants t 0 (tagged_variants_at layout kind 0 layouts numbers variants)) where
  shape : (layout_in t).fields ≡ Arbitrary offsets beside.order
  shape = ap (λ (l : Layout). l.fields) same ∙ beside.shape

  tag_distinguishes : (layout_in t).variants ≡ Multiple mark beside.encoding beside.field layouts
  tag_distinguishes = ap (λ (l : Layout). l.variants) same ∙ beside.tag_distinguishes

  beside_shared : (k : ℕ) → is_shared_place t k ≡ (is_place_of_part (parts_at offsets pres) k || (nat_le offset k && is_data_place tag (k - offset)))
  beside_shared k =
      shared_by t k (Arbitrary offsets beside.order) shape tt ∙ ap (λ n. list_any (covers_at t k) (range_with_len 0 n)) beside.count ∙ any_more (covers_at t k) (length pres)
      ∙ ap (λ b. b || covers_at t k (length pres)) (parts_cover t k 0 offsets pres (omega (arith, beside.count)) own front)
      ∙ ap (λ b. is_place_of_part (parts_at offsets pres) k || b) (covers_seen t k (length pres) offset tag is_state_tag at seen)

  beside_places : (k : ℕ) → is_place t k ≡ (is_place_of_part (parts_at offsets pres) k || ((nat_le offset k && is_data_place tag (k - offset)) || is_place_of_tagged_variant (tagged_variants_at layout kind 0 layouts numbers variants) k))
  beside_places k =
      place_by t k ∙ ap (λ b. b || variants_cover (layout_in t).variants (λ v. is_place (variant_in t v)) k) (beside_shared k)
      ∙ ap (λ b. (is_place_of_part (parts_at offsets pres) k || (nat_le offset k && is_data_place tag (k - offset))) || b)
      (ap (λ (vs : Variants ℕ ℕ). variants_cover vs (λ v. is_place (variant_in t v)) k) tag_distinguishes ∙ tagged_variants_cover layout kind t k 0 layout.size numbers layouts variants beside.number_variants beside.inside each held)
      ∙ or_assoc (is_place_of_part (parts_at offsets pres) k) (nat_le offset k && is_data_place tag (k - offset)) (is_place_of_tagged_variant (tagged_variants_at layout kind 0 layouts numbers variants) k)

  beside_unused : (i k : ℕ) → IsVariantIndex layout.variants i →
      is_unused t i k
      ≡ ((is_place_of_part (parts_at offsets pres) k || ((nat_le offset k && is_data_place tag (k - offset)) || is_place_of_tagged_variant (tagged_variants_at layout kind 0 layouts numbers variants) k))
      && not (is_place_of_part (parts_at offsets pres) k || ((nat_le offset k && is_data_place tag (k - offset)) || is_place_of_part (parts_of_tagged_variant (tagged_variants_at layout kind 0 layouts numbers variants) i) k)))
  beside_unused i k index =
      let lt : i < length layouts = subst (λ vs. IsVariantIndex vs i) beside.tag_distinguishes index in
      let first : 0 + i ≡ i = omega arith in
      let tagged_variant = ap (λ v. is_place (variant_in t v) k) (sym first) ∙ tagged_variant_cover layout kind t k 0 layout.size numbers layouts variants beside.number_variants beside.inside each held i lt in
      several_unused t i k mark beside.encoding beside.field layouts tag_distinguishes
      ∙ ap (λ b. b && not (is_shared_place t k || is_place (variant_in t i) k)) (beside_places k)
      ∙ ap (λ b. (is_place_of_part (parts_at offsets pres) k || ((nat_le offset k && is_data_place tag (k - offset)) || is_place_of_tagged_variant (tagged_variants_at layout kind 0 layouts numbers variants) k)) && not b)
      (ap (λ b. b || is_place (variant_in t i) k) (beside_shared k)
      ∙ ap (λ b. (is_place_of_part (parts_at offsets pres) k || (nat_le offset k && is_data_place tag (k - offset))) || b) tagged_variant
      ∙ or_assoc (is_place_of_part (parts_at offsets pres) k) (nat_le offset k && is_data_place tag (k - offset)) (is_place_of_part (parts_of_tagged_variant (tagged_variants_at layout kind 0 layouts numbers variants) i) k))

-- an element
element_by : (view : BackendRepr) (t : Typed) (q : Placed) (j : ℕ) → (layout_in t).backend_repr ≡ view → layout_in t ≡ layout_of q → IsTold q → Sees t q → ((s : Scalar) → view ≡ OneScalar s → j < size_of q) →
    covers_element (layout_in t) (is_place t) j ≡ is_data_place q j
element_by (OneScalar s) t q j e same tag_distinguishes seen below =
    let lt : j < size_of q = below s refl in
    rw e (ap (λ (l : Layout). nat_lt j l.size) same ∙ lt-ltb j (size_of q) lt ∙ sym (tag_distinguishes.covered s (ap (λ (l : Layout). l.backend_repr) (sym same) ∙ e) j lt))
element_by _ t q j e same tag_distinguishes seen below = rw e (tag_distinguishes.places t seen j)

-- the layout that handles see
seen_layout : (t : Typed) (p : Placed) → Sees t p → layout_in t ≡ layout_of p
seen_layout t (scalar layout s) seen = seen.0
seen_layout t (pair layout parts) seen = seen.0.0
seen_layout t (never layout mark) seen = seen.0
seen_layout t (elements layout count element) seen = seen.0.0
seen_layout t (vector layout lanes) seen = seen.0.0
seen_layout t (fields layout mark parts) seen = seen.0.0
seen_layout t (union layout mark parts) seen = seen.0.0
seen_layout t (single layout mark index parts) seen = seen.0.0
seen_layout t (tagged layout mark offset tag encoding tagged_variants) seen = seen.0.0
seen_layout t (states layout prefix offset tag tagged_variants) seen = seen.0.0

module _ (dl : TargetDataLayout) (law : IsLawfulDataLayout dl) where
  element_places : (t : Typed) (q : Placed) (k : ℕ) → IsLawfulLayout dl (layout_of q) → IsTold q → Sees t q → covers_element (layout_in t) (is_place t) (k % size_of q) ≡ is_data_place q (k % size_of q)
  element_places t q k lawful tag_distinguishes seen =
      let same = seen_layout t q seen in
      element_by (layout_in t).backend_repr t q (k % size_of q) refl same tag_distinguishes seen
      (λ s e.
      let view : (layout_of q).backend_repr ≡ OneScalar s = ap (λ (l : Layout). l.backend_repr) (sym same) ∙ e in
      let own = subst (IsLawfulView dl (size_of q)) view lawful.view in
      mod_below k (size_of q) (omega (arith, own.1, (lawful_readable dl s own.0).some)))

  all_covered : (ps : List Placed) → All IsTold ps → All IsCovered ps
  all_covered ps tag_distinguishes = All-weaker IsTold IsCovered (λ p one. one.covered) ps tag_distinguishes

  all_tell : (ps : List Placed) → All IsTold ps → All TellsPlaces ps
  all_tell ps tag_distinguishes = All-weaker IsTold TellsPlaces (λ p one. one.places) ps tag_distinguishes

  each_tell : (variants : List (List Placed)) → All (All IsTold) variants → All (All TellsPlaces) variants
  each_tell variants tag_distinguishes = All-weaker (All IsTold) (All TellsPlaces) all_tell variants tag_distinguishes

  -- where no tag distinguishes variants
  unused_alone : (layout : Layout) (t : Typed) (i k : ℕ) (place : Bool) → layout_in t ≡ layout → variants_of layout.variants ≡ [] → IsVariantIndex layout.variants i → is_unused t i k ≡ (place && not place)
  unused_alone layout t i k place same none index = alone_unused t i k layout.variants place (ap (λ (l : Layout). l.variants) same) none index

  told_scalar : (s : Scalar) → IsTold (one_scalar dl s)
  told_scalar s = record {
    covered = λ t e k lt. lt-ltb k (scalar_size dl s) lt;
    places = scalar_places dl s;
    unused = λ t seen i k index. unused_alone (layout_of (one_scalar dl s)) t i k (is_data_place (one_scalar dl s) k) seen.0 refl index;
  }

  told_never : (mark : Mark) → IsTold (never (never_layout dl) mark)
  told_never mark = record {
    covered = λ s e. absurd (memory_none true s e);
    places = λ t seen k.
        place_alone t k (ap (λ (l : Layout). variants_of l.variants) seen.0) ∙ shared_as t k Primitive (ap (λ (l : Layout). l.fields) seen.0) ∙ ap (λ (l : Layout). nat_lt k l.size) seen.0;
    unused = λ t seen i k index. unused_alone (never_layout dl) t i k (is_data_place (never (never_layout dl) mark) k) seen.0 refl index;
  }

  told_elements : (count : ℕ) (q : Placed) → IsLawfulLayout dl (layout_of q) → IsTold q → IsTold (elements (elements_layout 0 true count (layout_of q)) count q)
  told_elements count q lawful own =
      let layout : Layout = elements_layout 0 true count (layout_of q) in
      record {
        covered = λ s e. absurd (memory_none true s e);
        places = λ t seen k.
            place_alone t k (ap (λ (l : Layout). variants_of l.variants) seen.0.0) ∙ shared_as t k (Array (size_of q) count) (ap (λ (l : Layout). l.fields) seen.0.0)
            ∙ ap (λ b. nat_lt (k / size_of q) count && b) (element_places (field_in t 0) q k lawful own (seen.1 0));
        unused = λ t seen i k index. unused_alone layout t i k (is_data_place (elements layout count q) k) seen.0.0 refl index;
      }

  -- one part, at the start
  at_start : (q : Placed) (k : ℕ) → is_place_of_part (parts_at (0 ∷ []) (q ∷ [])) k ≡ is_data_place q k
  at_start q k = or-false (nat_le 0 k && is_data_place q (k - 0)) ∙ from_start (is_data_place q) k

  told_vector : (layout : Layout) (q : Placed) → AreFields layout (0 ∷ []) (q ∷ []) → IsTold q → IsTold (vector layout q)
  told_vector layout q all own = record {
    covered = λ s e k lt. sym (at_start q k) ∙ covered_parts layout (0 ∷ []) (q ∷ []) refl all.one (All-cons IsCovered q [] own.covered (All-nil IsCovered)) s e k lt;
    places = λ t seen k.
        let offset : HasOffset t 0 0 = ap (λ (l : Layout). field_offset l.fields 0) seen.0.0 ∙ ap (λ (s : FieldsShape ℕ). field_offset s 0) all.shape in
        list_places t (0 ∷ []) (q ∷ []) refl (All-cons TellsPlaces q [] own.places (All-nil TellsPlaces)) (list_of t layout (0 ∷ []) (q ∷ []) all seen.0.0) (offset, seen.1, tt) k ∙ at_start q k;
    unused = λ t seen i k index. unused_alone layout t i k (is_data_place q k) seen.0.0 all.alone index;
  }

  told_pair : (layout : Layout) (offsets : List ℕ) (ps : List Placed) → AreFields layout offsets ps → All IsTold ps → IsTold (pair layout (parts_at offsets ps))
  told_pair layout offsets ps all own = record {
    covered = covered_parts layout offsets ps all.count all.one (all_covered ps own);
    places = λ t seen. list_places t offsets ps all.count (all_tell ps own) (list_of t layout offsets ps all seen.0.0) seen.1;
    unused = λ t seen i k index. unused_alone layout t i k (is_place_of_part (parts_at offsets ps) k) seen.0.0 all.alone index;
  }

  told_fields : (layout : Layout) (mark : Mark) (offsets : List ℕ) (ps : List Placed) → AreFields layout offsets ps → All IsTold ps → IsTold (fields layout mark (parts_at offsets ps))
  told_fields layout mark offsets ps all own = record {
    covered = covered_parts layout offsets ps all.count all.one (all_covered ps own);
    places = λ t seen. list_places t offsets ps all.count (all_tell ps own) (list_of t layout offsets ps all seen.0.0) seen.1;
    unused = λ t seen i k index. unused_alone layout t i k (is_place_of_part (parts_at offsets ps) k) seen.0.0 all.alone index;
  }

  told_single : (layout : Layout) (mark : Mark) (index : ℕ) (offsets : List ℕ) (ps : List Placed) → AreFields layout offsets ps → All IsTold ps → IsTold (single layout mark index (parts_at offsets ps))
  told_single layout mark left offsets ps all own = record {
    covered = covered_parts layout offsets ps all.count all.one (all_covered ps own);
    places = λ t seen. list_places t offsets ps all.count (all_tell ps own) (list_of t layout offsets ps all seen.0.0) seen.1;
    unused = λ t seen i k index. unused_alone layout t i k (is_place_of_part (parts_at offsets ps) k) seen.0.0 all.alone index;
  }

  told_union : (layout : Layout) (mark : Mark) (ps : List Placed) → layout.fields ≡ AtStart (length ps) → variants_of layout.variants ≡ [] → HasOneWhole layout (map (λ p. 0) ps) ps → All IsTold ps →
      IsTold (union layout mark (parts_at_0 ps))
  told_union layout mark ps shape alone one own = record {
    covered = covered_parts layout (map (λ p. 0) ps) ps (length-map {B = ℕ} ps (λ p. 0)) one (all_covered ps own);
    places = λ t seen k.
        place_alone t k (ap (λ (l : Layout). variants_of l.variants) seen.0.0 ∙ alone) ∙ shared_as t k (AtStart (length ps)) (ap (λ (l : Layout). l.fields) seen.0.0 ∙ shape)
        ∙ types_cover t k 0 ps (all_tell ps own) seen.1;
    unused = λ t seen i k index. unused_alone layout t i k (is_place_of_part (parts_at_0 ps) k) seen.0.0 alone index;
  }

  told_tagged : (layout : Layout) (mark : Mark) (offset : ℕ) (tag : Scalar) (encoding : TagEncoding ℕ) (numbers : List ℕ) (layouts : List (VariantLayout ℕ)) (variants : List (List Placed)) →
      AreBeside layout (offset ∷ []) [] tag numbers layouts variants → IsTagWhole dl layout offset tag → All (All IsTold) variants →
      IsTold (tagged layout mark offset (one_scalar dl tag) encoding (tagged_variants_at layout mark 0 layouts numbers variants))
  told_tagged layout mark offset tag encoding numbers layouts variants beside whole own =
      let tagged_variants : TaggedVariants = tagged_variants_at layout mark 0 layouts numbers variants in
      record {
        covered = λ s e k lt.
            let view = whole s e in
            or_left (nat_le offset k && is_data_place (one_scalar dl tag) (k - offset)) (is_place_of_tagged_variant tagged_variants k)
            (both_true (le-leb offset k (omega (arith, view.0))) (lt-ltb (k - offset) (scalar_size dl tag) (omega (arith, lt, view.0, view.1))));
        places = λ t seen.
            beside_places layout mark (offset ∷ []) [] (one_scalar dl tag) tag numbers layouts variants beside (scalar_places dl tag) (All-nil TellsPlaces) (each_tell variants own) t seen.0.0 tt offset seen.1 seen.2 seen.3;
        unused = λ t seen.
            beside_unused layout mark (offset ∷ []) [] (one_scalar dl tag) tag numbers layouts variants beside (scalar_places dl tag) (All-nil TellsPlaces) (each_tell variants own) t seen.0.0 tt offset seen.1 seen.2 seen.3;
      }

  told_states : (layout : Layout) (offsets : List ℕ) (pres : List Placed) (tag : Scalar) (numbers : List ℕ) (layouts : List (VariantLayout ℕ)) (variants : List (List Placed)) →
      AreBeside layout offsets pres tag numbers layouts variants → IsNoScalar layout.backend_repr → All IsTold pres → All (All IsTold) variants →
      IsTold (states layout (parts_at offsets pres) (get_or offsets (length pres) 0) (one_scalar dl tag) (tagged_variants_at layout Plain 0 layouts numbers variants))
  told_states layout offsets pres tag numbers layouts variants beside none front own =
      let offset : ℕ = get_or offsets (length pres) 0 in
      let last : last_field layout ≡ length pres = let count : field_count layout.fields ≡ length offsets = ap field_count beside.shape in omega (arith, count, beside.count) in
      record {
        covered = λ s e. absurd (none s e);
        places = λ t seen.
            beside_places layout Plain offsets pres (one_scalar dl tag) tag numbers layouts variants beside (scalar_places dl tag) (all_tell pres front) (each_tell variants own) t seen.0.0 seen.1 offset
            (subst (λ n. HasOffset t n offset) last seen.2) (subst (λ n. Sees (field_in t n) (one_scalar dl tag)) last seen.3) seen.4;
        unused = λ t seen.
            beside_unused layout Plain offsets pres (one_scalar dl tag) tag numbers layouts variants beside (scalar_places dl tag) (all_tell pres front) (each_tell variants own) t seen.0.0 seen.1 offset
            (subst (λ n. HasOffset t n offset) last seen.2) (subst (λ n. Sees (field_in t n) (one_scalar dl tag)) last seen.3) seen.4;
      }

  told_kept : IsKept dl IsTold
  told_kept = record {
    of_scalar = told_scalar;
    of_never = told_never;
    of_elements = told_elements;
    of_vector = told_vector;
    of_pair = told_pair;
    of_fields = told_fields;
    of_single = told_single;
    of_union = told_union;
    of_tagged = told_tagged;
    of_states = told_states;
  }

  -- handles of each type that is laid out tell its data places
  pub laid_told : (t : Tree) (p : Placed) → IsLaying dl t (Ok p) → IsTold p
  laid_told t p h = laid_kept dl law IsTold told_kept t p h

-- and those of the whole
pub seen_root : (laid : Laid) → Sees (typed_of laid) (placed_of laid)
seen_root laid = seen_at laid.nodes laid.earlier laid.laws (length laid.nodes - 1) (omega (arith, laid.some))

-- What `Laid::padding` answers of a type that is laid out is what `variant_independent_padding_ranges` answers of its root: by what the
-- two promise, by the clause `places` of `lay_out`, and by what `Laid::root` says of its layout.
pub padding_of_root : (laid : Laid) (own roots : List (ℕ × ℕ)) → ((k : ℕ) → is_place (typed_of laid) k ≡ is_data_place (placed_of laid) k) → layout_in (typed_of laid) ≡ layout_of (placed_of laid) →
    AreMaximalRuns 0 own → ((k : ℕ) → is_in_ranges own k ≡ is_padding_of (placed_of laid) k) → AreMaximalRuns 0 roots → ((k : ℕ) → is_in_ranges roots k ≡ is_padding (typed_of laid) k) → own ≡ roots
padding_of_root laid own roots places layout maximal mine others theirs =
    padding_listed (placed_of laid) own maximal mine
    ∙ sym (padding_listed (placed_of laid) roots others (λ k. theirs k ∙ padding_told (typed_of laid) (placed_of laid) (ap (λ l. l.size) layout) places k))
