-- What the layout of an enum that a niche distinguishes keeps of its variants' values.
use Rattle.std.proofs.Common.{All, ◌≡◌, ◌≢◌, ℕ, zero, suc, ◌+◌, ◌<◌, ◌≤◌, List, [], ◌∷◌, map, length, Option, Some, None, Bool, true, false, arith, refl, sym, ap, subst, ◌∙◌, inl, inr}
use Rattle.std.specs.Prelude.{slice_get, IfSome, get_or, ◌==◌, ◌&&◌}
use Rattle.std.specs.List.{list_all}
use Rattle.std.specs.Cmp.Derive.{both_true}
use Rattle.std.proofs.lemmas.Bool.{le-leb, eqb-true, lt-ltb}
use Rattle.std.proofs.lemmas.List.{length-map}
use Rattle.std.proofs.lemmas.List.Elements.{All-head, All-tail}
use Rattle.abi_base.specs.Primitive.{primitive_size}
use Rattle.abi_base.specs.declared.data_layout.TargetDataLayout.{TargetDataLayout}
use Rattle.abi_scalar.specs.declared.repr.ReprOptions.{ReprOptions}
use Rattle.abi_scalar.specs.declared.scalar.Scalar.{Scalar}
use Rattle.abi_scalar.specs.declared.scalar.Scalar.TheVariants.{Initialized, Union}
use Rattle.abi_scalar.specs.declared.variants.VariantLayout.{VariantLayout}
use Rattle.abi_scalar.specs.declared.variants.TagEncoding.TheVariants.{Niche as InNiche}
use Rattle.abi_scalar.specs.declared.niche.Niche.{Niche}
use Rattle.abi_scalar.specs.Niche.{niche_size}
use Rattle.abi_scalar.specs.Lawful.{IsLawfulNiche, IsLawfulLayout}
use Rattle.abi_scalar.specs.Range.{IsIn, full_range}
use Rattle.abi_scalar.specs.Scalar.{scalar_size, range_of, IsNumberOf}
use Rattle.abi_scalar.specs.Shape.{listed_offsets}
use Rattle.abi_univariant.specs.ListNiche.{IsNicheAt, IsNicheOfPart}
use Rattle.abi_univariant.specs.Apart.{AreApart}
use Rattle.abi_calc.specs.Enums.EnumStrategy.{variant_at, has_no_value, takes_no_room}
use Rattle.abi_calc.specs.Enums.Beside.{IsToldByNiche}
use Rattle.rustc_abi.specs.Enums.{layouts_of, tagged_variants_at, discriminants_of}
use Rattle.abi_tree.specs.Mark.{mark_of}
use Rattle.abi_tree.specs.declared.mark.Mark.{Mark}
use Rattle.abi_tree.specs.Placed.{parts_of_tagged_variant, Placed, layout_of, is_flagged, size_of, TaggedVariants, tagged}
use Rattle.abi_scalar.specs.Layout.{Layout}
use Rattle.abi_tree.specs.Tree.{Variants, enum}
use Rattle.rustc_abi.specs.Adding.{VariantsFit}
use Rattle.abi_tree.specs.Fits.{Fits}
use Rattle.rustc_abi.specs.Laying.{one_scalar, placed_enum, placed_variants}
use Rattle.abi_tree.specs.Room.{has_room}
use Rattle.abi_tree.specs.Values.{LocalsOfVariants}
use Rattle.abi_tree.specs.Value.{Value}
use Rattle.abi_tree.specs.Holding.{Holds}
use Rattle.abi_tree.specs.Bytes.{number_of, bytes_at}
use Rattle.abi_tree.specs.Faithful.{IsFaithful}
use Rattle.abi_tree.specs.Untagged.{UntaggedNamed}
use Rattle.rustc_abi.proofs.Enums.TaggedVariantsLemmas.{EachApart, flagged_as, apart_beside, tagged_variants_room, tagged_variants_beside, flag_tagged_variants, tagged_variants_flag, tagged_variants_common, tagged_variants_untagged}
use Rattle.rustc_abi.proofs.Values.FieldsLemmas.{IsPartNiche, part_of_list}
use Rattle.rustc_abi.proofs.Enums.InNicheLemmas.{IsThere, AreSpanned, TaggedVariantsBeside, in_niche_number, names_itself, in_niche_exists, in_niche_only, in_niche_unique, in_niche_padding}
use Rattle.rustc_abi.proofs.Enums.EnumLemmas.{in_below, numbers_long, some_niche}
use Rattle.rustc_abi.proofs.Trees.LayLemmas.{VariantsFit-lawful}
use Rattle.abi_tree.proofs.Places.RoomLemmas.{within_room}
use Rattle.rustc_abi.proofs.Enums.TagViewLemmas.{tag_niche_true, tag_niche_inside, tag_view_niche}

-- a tagged variant has the fields of its variant at the offsets of its layout: a niche of these is the tagged variant's
pub tagged_variant_niche_of : (whole : Layout) (mark : Mark) (first : ℕ) (size : ℕ) (layouts : List (VariantLayout ℕ)) (numbers : List ℕ) (variants : List (List Placed)) (i : ℕ) (variant : VariantLayout ℕ) (n : Niche) → EachApart size variants layouts →
    length numbers ≡ length variants → slice_get layouts i ≡ Some variant → IsNicheOfPart variant.field_offsets (variant_at (layouts_of variants) i) n →
    IsPartNiche (parts_of_tagged_variant (tagged_variants_at whole mark first layouts numbers variants) i) n
tagged_variant_niche_of whole mark first size [] numbers variants i variant n apart long there has = absurd (cc)
tagged_variant_niche_of whole mark first size (l ∷ layouts) numbers [] i variant n apart long there has = absurd apart
tagged_variant_niche_of whole mark first size (l ∷ layouts) [] (ps ∷ variants) i variant n apart long there has = absurd (omega (arith, long))
tagged_variant_niche_of whole mark first size (l ∷ layouts) (k ∷ numbers) (ps ∷ variants) zero variant n apart long there has =
    let same : variant ≡ l = cc in
    part_of_list l.field_offsets ps n (subst (λ v. IsNicheOfPart v.field_offsets (map layout_of ps) n) same has)
tagged_variant_niche_of whole mark first size (l ∷ layouts) (k ∷ numbers) (ps ∷ variants) (suc i) variant n apart long there has =
    tagged_variant_niche_of whole mark (first + 1) size layouts numbers variants i variant n apart.1 (omega (arith, long)) there has

-- a tagged variant is flagged where its variant has a field without values; there are as many as there are variants
pub tagged_variant_flagged : (whole : Layout) (mark : Mark) (first : ℕ) (size : ℕ) (layouts : List (VariantLayout ℕ)) (numbers : List ℕ) (variants : List (List Placed)) (i : ℕ) → EachApart size variants layouts → length numbers ≡ length variants →
    IsThere (tagged_variants_at whole mark first layouts numbers variants) i → (i < length variants) × (is_flagged (parts_of_tagged_variant (tagged_variants_at whole mark first layouts numbers variants) i) ≡ has_no_value (variant_at (layouts_of variants) i))
tagged_variant_flagged whole mark first size [] numbers variants i apart long there = absurd there
tagged_variant_flagged whole mark first size (l ∷ layouts) numbers [] i apart long there = absurd apart
tagged_variant_flagged whole mark first size (l ∷ layouts) [] (ps ∷ variants) i apart long there = absurd there
tagged_variant_flagged whole mark first size (l ∷ layouts) (k ∷ numbers) (ps ∷ variants) zero apart long there = (omega arith, flagged_as size l.field_offsets ps apart.0)
tagged_variant_flagged whole mark first size (l ∷ layouts) (k ∷ numbers) (ps ∷ variants) (suc i) apart long there =
    let rest = tagged_variant_flagged whole mark (first + 1) size layouts numbers variants i apart.1 (omega (arith, long)) there in (omega (arith, rest.0), rest.1)

-- the niche of a field lies inside the whole
niche_of_fields : (dl : TargetDataLayout) (size : ℕ) (offsets : List ℕ) (ps : List Placed) (n : Niche) → IsNicheOfPart offsets (map layout_of ps) n → AreApart size offsets (map size_of ps) →
    All (λ p. IsLawfulLayout dl (layout_of p)) ps → n.offset + niche_size dl n ≤ size
niche_of_fields dl size [] ps n has apart lawful = absurd has
niche_of_fields dl size (o ∷ offsets) [] n has apart lawful = absurd has
niche_of_fields dl size (o ∷ offsets) (p ∷ ps) n (inl here) apart lawful =
    niche_of_field (layout_of p).largest_niche refl here
  where
    niche_of_field : (own : Option Niche) → (layout_of p).largest_niche ≡ own → IsNicheAt o own n → n.offset + niche_size dl n ≤ size
    niche_of_field None e is = absurd is
    niche_of_field (Some own) e is =
        let law : IsLawfulNiche dl (size_of p) own = subst (λ q. IfSome q (IsLawfulNiche dl (size_of p))) e (All-head (λ p. IsLawfulLayout dl (layout_of p)) p ps lawful).niche in
        omega (arith, is.0, ap (primitive_size dl) is.1, law.inside, apart.0)
niche_of_fields dl size (o ∷ offsets) (p ∷ ps) n (inr later) apart lawful = niche_of_fields dl size offsets ps n later apart.2 (All-tail (λ p. IsLawfulLayout dl (layout_of p)) p ps lawful)

pub niche_of_tagged_variant : (dl : TargetDataLayout) (size : ℕ) (layouts : List (VariantLayout ℕ)) (variants : List (List Placed)) (i : ℕ) (variant : VariantLayout ℕ) (n : Niche) →
    EachApart size variants layouts → All (All (λ p. IsLawfulLayout dl (layout_of p))) variants → slice_get layouts i ≡ Some variant → IsNicheOfPart variant.field_offsets (variant_at (layouts_of variants) i) n →
    n.offset + niche_size dl n ≤ size
niche_of_tagged_variant dl size [] variants i variant n apart lawful there has = absurd (cc)
niche_of_tagged_variant dl size (l ∷ layouts) [] i variant n apart lawful there has = absurd apart
niche_of_tagged_variant dl size (l ∷ layouts) (ps ∷ variants) zero variant n apart lawful there has =
    let same : variant ≡ l = cc in
    niche_of_fields dl size l.field_offsets ps n (subst (λ v. IsNicheOfPart v.field_offsets (map layout_of ps) n) same has) apart.0 (All-head (All (λ p. IsLawfulLayout dl (layout_of p))) ps variants lawful)
niche_of_tagged_variant dl size (l ∷ layouts) (ps ∷ variants) (suc i) variant n apart lawful there has =
    niche_of_tagged_variant dl size layouts variants i variant n apart.1 (All-tail (All (λ p. IsLawfulLayout dl (layout_of p))) ps variants lawful) there has

unequal : (a b : ℕ) (same : Bool) → (a == b) ≡ same → a ≢ b → same ≡ false
unequal a b true e other = absurd (other (eqb-true a b e))
unequal a b false e other = refl

-- a number of the scalar's range is one of the scalar's
number_of_range : (dl : TargetDataLayout) (s : Scalar) (k : ℕ) → IsIn (scalar_size dl s) (range_of dl s) k → IsNumberOf (scalar_size dl s) s k
number_of_range dl (Initialized value range) k h = h
number_of_range dl (Union value) k h = in_below (primitive_size dl value) (full_range (primitive_size dl value)) k h

module _ (dl : TargetDataLayout) (repr : ReprOptions) (all : Variants) (variants : List (List Placed)) (layout : Layout)
    (fits : VariantsFit dl all variants) (lawful : IsLawfulLayout dl layout) (flag : layout.uninhabited ≡ list_all has_no_value (layouts_of variants))
    (tag_distinguishes : IsToldByNiche dl (λ v. v) (layouts_of variants) layout) where
  abbrev w : ℕ
  w = niche_size dl tag_distinguishes.niche

  abbrev tagged_variants : TaggedVariants
  tagged_variants = tagged_variants_at layout (mark_of true repr) 0 tag_distinguishes.layouts (discriminants_of all) variants

  abbrev tag : Placed
  tag = one_scalar dl tag_distinguishes.tag

  abbrev placed : Placed
  placed = tagged layout (mark_of true repr) tag_distinguishes.niche.offset tag (InNiche tag_distinguishes.untagged (record { start = tag_distinguishes.span.start; last = tag_distinguishes.span.last }) tag_distinguishes.start) tagged_variants

  -- the enum is put together so
  pub placed_by_niche : placed_enum dl repr (discriminants_of all) variants layout ≡ placed
  placed_by_niche =
      ap (placed_variants dl repr (discriminants_of all) variants layout) tag_distinguishes.tag_distinguishes
      ∙ ap (λ o. tagged layout (mark_of true repr) o tag (InNiche tag_distinguishes.untagged tag_distinguishes.span tag_distinguishes.start) tagged_variants) (ap (λ fields. get_or (listed_offsets fields) 0 0) tag_distinguishes.place)

  wide : size_of tag ≡ w
  wide = ap (primitive_size dl) tag_distinguishes.numbers.value

  each : EachApart layout.size variants tag_distinguishes.layouts
  each = apart_beside layout.size tag_distinguishes.niche.offset (scalar_size dl tag_distinguishes.tag) tag_distinguishes.untagged 0 variants tag_distinguishes.layouts tag_distinguishes.apart

  long : length (discriminants_of all) ≡ length variants
  long = numbers_long dl all variants fits

  inside : tag_distinguishes.niche.offset + w ≤ layout.size
  inside = niche_of_tagged_variant dl layout.size tag_distinguishes.layouts variants tag_distinguishes.untagged tag_distinguishes.variant tag_distinguishes.niche each (VariantsFit-lawful dl all variants fits) tag_distinguishes.own tag_distinguishes.niche_of

  room : has_room placed ≡ true
  room = both_true (both_true (le-leb (tag_distinguishes.niche.offset + size_of tag) layout.size (omega (arith, wide, inside))) refl) (tagged_variants_room dl layout (mark_of true repr) 0 layout.size all variants tag_distinguishes.layouts (discriminants_of all) each fits)

  spanned : AreSpanned tag_distinguishes.untagged tag_distinguishes.span.start tag_distinguishes.span.last tagged_variants
  spanned i there other clear =
      let at = tagged_variant_flagged layout (mark_of true repr) 0 layout.size tag_distinguishes.layouts (discriminants_of all) variants i each long there in
      let short : i < length (layouts_of variants) = omega (arith, at.0, length-map variants (map layout_of)) in
      let none : has_no_value (variant_at (layouts_of variants) i) ≡ false = sym at.1 ∙ clear in
      tag_distinguishes.numbers.span i short (unequal i tag_distinguishes.untagged (i == tag_distinguishes.untagged) refl other) (ap (λ b. b && list_all takes_no_room (variant_at (layouts_of variants) i)) none)

  own : IsPartNiche (parts_of_tagged_variant tagged_variants tag_distinguishes.untagged) tag_distinguishes.niche
  own = tagged_variant_niche_of layout (mark_of true repr) 0 layout.size tag_distinguishes.layouts (discriminants_of all) variants tag_distinguishes.untagged tag_distinguishes.variant tag_distinguishes.niche each long tag_distinguishes.own tag_distinguishes.niche_of

  module _ (locals : LocalsOfVariants dl all) where
    fit : TaggedVariantsBeside dl layout.size tag_distinguishes.niche.offset w tag_distinguishes.untagged 0 all tagged_variants
    fit = subst (λ k. TaggedVariantsBeside dl layout.size tag_distinguishes.niche.offset k tag_distinguishes.untagged 0 all tagged_variants) wide
        (tagged_variants_beside dl layout (mark_of true repr) 0 layout.size tag_distinguishes.niche.offset (scalar_size dl tag_distinguishes.tag) tag_distinguishes.untagged 0 all variants tag_distinguishes.layouts tag_distinguishes.apart fits locals)

    number_there : (b : List ℕ) (v : Value) → Holds dl.endian placed b v → IsNumberOf (scalar_size dl tag_distinguishes.tag) tag_distinguishes.tag (number_of dl.endian (bytes_at b tag_distinguishes.niche.offset (scalar_size dl tag_distinguishes.tag)))
    number_there b v h =
        let in_new : IsIn w (range_of dl tag_distinguishes.tag) (number_of dl.endian (bytes_at b tag_distinguishes.niche.offset w)) =
        in_niche_number dl repr layout tag_distinguishes.niche tag tag_distinguishes.untagged tag_distinguishes.span.start tag_distinguishes.span.last tag_distinguishes.start all tagged_variants wide fit (range_of dl tag_distinguishes.tag) own tag_distinguishes.numbers.handed b v h in
        number_of_range dl tag_distinguishes.tag _ (subst (λ k. IsIn k (range_of dl tag_distinguishes.tag) (number_of dl.endian (bytes_at b tag_distinguishes.niche.offset k))) (sym wide) in_new)

    faithful : IsFaithful dl (enum repr all) placed
    faithful = record {
      exists = in_niche_exists dl repr layout tag_distinguishes.niche tag tag_distinguishes.untagged tag_distinguishes.span.start tag_distinguishes.span.last tag_distinguishes.start all tagged_variants wide fit (range_of dl tag_distinguishes.tag) own tag_distinguishes.numbers.handed inside spanned;
      only = in_niche_only dl repr layout tag_distinguishes.niche tag tag_distinguishes.untagged tag_distinguishes.span.start tag_distinguishes.span.last tag_distinguishes.start all tagged_variants wide fit;
      unique = in_niche_unique dl repr layout tag_distinguishes.niche tag tag_distinguishes.untagged tag_distinguishes.span.start tag_distinguishes.span.last tag_distinguishes.start all tagged_variants wide fit tag_distinguishes.numbers.differ;
      niche = some_niche layout.largest_niche _ (λ n e b v h. tag_niche_true dl tag_distinguishes.tag tag_distinguishes.niche.offset b (number_there b v h) n (sym tag_distinguishes.left ∙ e));
      inside = some_niche layout.largest_niche _ (λ n e. tag_niche_inside dl tag_distinguishes.tag tag_distinguishes.niche.offset n layout.size (omega (arith, wide, inside)) (sym tag_distinguishes.left ∙ e));
      padding = in_niche_padding dl repr layout tag_distinguishes.niche tag tag_distinguishes.untagged tag_distinguishes.span.start tag_distinguishes.span.last tag_distinguishes.start all tagged_variants wide fit (λ j below. lt-ltb j (size_of tag) below);
      view = λ b v h. tag_view_niche dl tag_distinguishes.tag tag_distinguishes.niche.offset b (number_there b v h) layout.backend_repr tag_distinguishes.view;
      flag = flag_tagged_variants dl repr all layout tag_distinguishes.niche.offset tag (InNiche tag_distinguishes.untagged (record { start = tag_distinguishes.span.start; last = tag_distinguishes.span.last }) tag_distinguishes.start) tagged_variants
          (list_all has_no_value (layouts_of variants)) flag (tagged_variants_flag dl layout (mark_of true repr) 0 layout.size all variants tag_distinguishes.layouts each fits locals);
    }

    -- its untagged variant names itself, and so do those in its fields
    untagged_named : UntaggedNamed dl.endian placed
    untagged_named = (
      names_itself dl repr layout tag_distinguishes.niche tag tag_distinguishes.untagged tag_distinguishes.span.start tag_distinguishes.span.last tag_distinguishes.start all tagged_variants wide fit (range_of dl tag_distinguishes.tag) own tag_distinguishes.numbers.handed,
      tagged_variants_untagged dl layout (mark_of true repr) 0 all variants tag_distinguishes.layouts (discriminants_of all) fits locals,
    )

  -- an enum that a niche distinguishes keeps its values
  pub Fits-by-niche : Fits dl (enum repr all) (placed_enum dl repr (discriminants_of all) variants layout)
  Fits-by-niche = subst (Fits dl (enum repr all)) (sym placed_by_niche) (record {
    faithful = λ locals. faithful locals;
    lawful = lawful;
    room = room;
    within = λ k place. within_room placed k room place;
    common = λ locals. (tt, tagged_variants_common dl layout (mark_of true repr) 0 all variants tag_distinguishes.layouts (discriminants_of all) fits locals);
    untagged = untagged_named;
  })
