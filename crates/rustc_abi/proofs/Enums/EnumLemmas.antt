-- What an enum's layout keeps of its variants' values, however these are distinguished.
use Rattle.std.proofs.Common.{◌≡◌, ◌≢◌, ℕ, zero, suc, ◌+◌, ◌<◌, ◌≤◌, ◌*◌, List, [], ◌∷◌, map, length, Option, Some, None, true, arith, refl, sym, ap, subst, ◌∙◌, inl, inr, All}
use Rattle.std.specs.Prelude.{IfSome, get_or, ◌%◌}
use Rattle.std.specs.List.{list_all, AllPairs}
use Rattle.std.specs.Cmp.Derive.{both_true}
use Rattle.std.proofs.lemmas.Bool.{le-leb}
use Rattle.std.proofs.lemmas.Nat.{mod_below, pow_pos}
use Rattle.abi_base.specs.declared.data_layout.TargetDataLayout.{TargetDataLayout}
use Rattle.abi_base.specs.Primitive.{primitive_size}
use Rattle.abi_base.specs.declared.primitive.Primitive.{Primitive}
use Rattle.abi_scalar.specs.declared.backend_repr.BackendRepr.{BackendRepr}
use Rattle.abi_scalar.specs.declared.backend_repr.BackendRepr.TheVariants.{Scalar as OneScalar, ScalarPair, SimdScalableVector, SimdVector, Memory}
use Rattle.abi_scalar.specs.declared.niche.Niche.{Niche}
use Rattle.abi_scalar.specs.declared.repr.ReprOptions.{ReprOptions}
use Rattle.abi_scalar.specs.declared.scalar.Scalar.TheVariants.{Initialized, Union}
use Rattle.abi_scalar.specs.declared.variants.TagEncoding.TheVariants.{Direct}
use Rattle.abi_scalar.specs.declared.variants.VariantLayout.{VariantLayout}
use Rattle.abi_scalar.specs.declared.wrapping_range.WrappingRange.{WrappingRange}
use Rattle.abi_scalar.specs.Lawful.{IsLawfulLayout, IsLawfulView}
use Rattle.abi_scalar.specs.Range.{IsIn, numbers_of}
use Rattle.abi_scalar.specs.Scalar.{scalar_size, IsNumberOf}
use Rattle.abi_calc.specs.Enums.Beside.{IsToldByTag}
use Rattle.abi_calc.specs.Enums.Filled.{EachHasNumberAt, HasNumberAt, IsFilled, IsNumber}
use Rattle.abi_calc.specs.Enums.EnumStrategy.{has_no_value, variant_at}
use Rattle.abi_calc.specs.Enums.Payload.{BeginsWithTag, IsWide}
use Rattle.abi_scalar.specs.Shape.{listed_offsets}
use Rattle.abi_calc.specs.Enums.Places.{AreApartBehind}
use Rattle.abi_calc.specs.Enums.Discriminants.{inhabited_of}
use Rattle.abi_tree.specs.Tree.{enum, Trees, no_trees, more_trees, Variants, no_variants, more_variants}
use Rattle.abi_tree.specs.Bytes.{bytes_at, number_of}
use Rattle.abi_tree.specs.Value.{Value, number, two, list, variant, state, bytes, Values, no_values, more_values}
use Rattle.abi_tree.specs.declared.mark.Mark.{Mark}
use Rattle.abi_tree.specs.Mark.{mark_of}
use Rattle.abi_tree.specs.Placed.{Placed, TaggedVariants, layout_of, size_of, tagged}
use Rattle.abi_scalar.specs.Layout.{Layout}
use Rattle.abi_tree.specs.Room.{has_room}
use Rattle.abi_tree.specs.Holding.{Holds, HoldParts, HoldTaggedVariant}
use Rattle.abi_tree.specs.Faithful.{IsFaithful, IsTrueOf, IsScalarTrue}
use Rattle.abi_tree.specs.Fits.{Fits}
use Rattle.abi_tree.specs.Nodes.{parts_at}
use Rattle.rustc_abi.specs.Enums.{tagged_variants_at, discriminants_of, layouts_of, numbered_from}
use Rattle.rustc_abi.specs.Laying.{one_scalar, placed_enum, placed_variants}
use Rattle.rustc_abi.specs.Adding.{EachFits, VariantsFit}
use Rattle.abi_tree.specs.Values.{LocalsOfVariants}
use Rattle.rustc_abi.proofs.Values.ViewLemmas.{true_in}
use Rattle.rustc_abi.proofs.Values.PartsLemmas.{FitTogether}
use Rattle.rustc_abi.proofs.Enums.TaggedLemmas.{TaggedVariantsFit, open_numbers, have_numbers, numbers_differ, HaveNumbers, NumbersDiffer, tagged_number, tagged_exists, tagged_only, tagged_unique, tagged_padding}
use Rattle.rustc_abi.proofs.Enums.TaggedVariantsLemmas.{apart_behind, tagged_variants_room, open_as, flag_tagged_variants, tagged_variants_flag, tagged_variants_fit, tagged_variants_common, tagged_variants_untagged}
use Rattle.abi_tree.proofs.Places.RoomLemmas.{within_room}
use Rattle.rustc_abi.proofs.Enums.TagViewLemmas.{in_full, tag_true, tag_niche_true, tag_niche_inside}

-- ---- the second scalar of a view that begins with a tag

-- a number in a range is one of its width
pub in_below : (w : ℕ) (range : WrappingRange) (n : ℕ) → IsIn w range n → n < numbers_of w
in_below w range n h = subst (λ k. k < numbers_of w) (sym h.1) (mod_below (range.start + h.0) (numbers_of w) (pow_pos (8 * w)))

module _ (dl : TargetDataLayout) (w o : ℕ) (b : List ℕ) where
  -- a part at the offset that is such a scalar holds a number of w bytes
  number_in : (view : BackendRepr) (n : ℕ) → IsNumber dl w view → IsLawfulView dl n view → IsTrueOf dl view (bytes_at b o n) → number_of dl.endian (bytes_at b o w) < numbers_of w
  number_in (OneScalar (Initialized value range)) n is law true_there =
      let at : o + 0 ≡ o = omega arith in
      let here : IsIn (primitive_size dl value) range (number_of dl.endian (bytes_at b (o + 0) (primitive_size dl value))) =
      true_in dl (Initialized value range) o 0 n b (omega (arith, law.1)) true_there in
      subst (λ k. number_of dl.endian (bytes_at b o k) < numbers_of k) is
      (subst (λ k. number_of dl.endian (bytes_at b k (primitive_size dl value)) < numbers_of (primitive_size dl value)) at (in_below (primitive_size dl value) range _ here))
  number_in (OneScalar (Union value)) n is law true_there = absurd is
  number_in (ScalarPair s t offset) n is law true_there = absurd is
  number_in (SimdScalableVector element count vectors) n is law true_there = absurd is
  number_in (SimdVector element count) n is law true_there = absurd is
  number_in (Memory sized) n is law true_there = absurd is

  -- so do fields of which one is such a part
  number_of_fields : (size : ℕ) (ts : Trees) (offsets : List ℕ) (ps : List Placed) → HasNumberAt dl w o offsets (map layout_of ps) → FitTogether dl size ts (parts_at offsets ps) → EachFits dl ts ps →
      (vs : Values) → HoldParts dl.endian (parts_at offsets ps) b vs → number_of dl.endian (bytes_at b o w) < numbers_of w
  number_of_fields size ts [] ps has fit fits vs h = absurd has
  number_of_fields size ts (p ∷ offsets) [] has fit fits vs h = absurd has
  number_of_fields size no_trees (p ∷ offsets) (q ∷ ps) has fit fits vs h = absurd fits
  number_of_fields size (more_trees t ts) (p ∷ offsets) (q ∷ ps) has fit fits no_values h = absurd h
  number_of_fields size (more_trees t ts) (p ∷ offsets) (q ∷ ps) (inl (at, is)) fit fits (more_values v vs) h =
      number_in (layout_of q).backend_repr (size_of q) is (Fits.lawful fits.0).view
      (subst (λ k. IsTrueOf dl (layout_of q).backend_repr (bytes_at b k (size_of q))) at (IsFaithful.view fit.2 _ v h.0.1))
  number_of_fields size (more_trees t ts) (p ∷ offsets) (q ∷ ps) (inr later) fit fits (more_values v vs) h =
      number_of_fields size ts offsets ps later fit.3 fits.1 vs h.1

  -- and so does each variant
  number_of_tagged_variant : (whole : Layout) (mark : Mark) (first : ℕ) (size w0 : ℕ) (all : Variants) (layouts : List (VariantLayout ℕ)) (variants : List (List Placed)) → EachHasNumberAt dl w o layouts (layouts_of variants) →
      TaggedVariantsFit dl size 0 w0 all (tagged_variants_at whole mark first layouts (discriminants_of all) variants) → VariantsFit dl all variants → (i : ℕ) (vs : Values) →
      HoldTaggedVariant dl.endian (tagged_variants_at whole mark first layouts (discriminants_of all) variants) i b vs → number_of dl.endian (bytes_at b o w) < numbers_of w
  number_of_tagged_variant whole mark first size w0 all [] variants has fit fits i vs h = absurd h
  number_of_tagged_variant whole mark first size w0 no_variants (l ∷ layouts) variants has fit fits i vs h = absurd h
  number_of_tagged_variant whole mark first size w0 (more_variants d ts others) (l ∷ layouts) [] has fit fits i vs h = absurd h
  number_of_tagged_variant whole mark first size w0 (more_variants d ts others) (l ∷ layouts) (ps ∷ variants) has fit fits zero vs h =
      number_of_fields size ts l.field_offsets ps has.0 fit.1 fits.0 vs h
  number_of_tagged_variant whole mark first size w0 (more_variants d ts others) (l ∷ layouts) (ps ∷ variants) has fit fits (suc i) vs h =
      number_of_tagged_variant whole mark (first + 1) size w0 others layouts variants has.1 fit.3 fits.1 i vs h

-- what holds of each niche that there may be holds of the one there is
pub some_niche : (o : Option Niche) (P : Niche → Type 0) → ((n : Niche) → o ≡ Some n → P n) → IfSome o P
some_niche None P h = tt
some_niche (Some n) P h = h n refl

-- there is a discriminant for each variant
pub numbers_long : (dl : TargetDataLayout) (all : Variants) (variants : List (List Placed)) → VariantsFit dl all variants → length (discriminants_of all) ≡ length variants
numbers_long dl no_variants [] h = refl
numbers_long dl no_variants (ps ∷ variants) h = absurd h
numbers_long dl (more_variants d ts others) [] h = absurd h
numbers_long dl (more_variants d ts others) (ps ∷ variants) h = ap suc (numbers_long dl others variants h.1)

-- ---- distinguished by a tag

module _ (dl : TargetDataLayout) (repr : ReprOptions) (all : Variants) (variants : List (List Placed)) (layout : Layout) (some : 0 < length variants)
    (fits : VariantsFit dl all variants) (lawful : IsLawfulLayout dl layout) (flag : layout.uninhabited ≡ list_all has_no_value (layouts_of variants)) where
  module _ (tag_distinguishes : IsToldByTag dl (λ v. v) (layouts_of variants) (numbered_from 0 (discriminants_of all)) layout) where
    abbrev w : ℕ
    w = scalar_size dl tag_distinguishes.tag

    abbrev tagged_variants : TaggedVariants
    tagged_variants = tagged_variants_at layout (mark_of true repr) 0 tag_distinguishes.layouts (discriminants_of all) variants

    abbrev placed : Placed
    placed = tagged layout (mark_of true repr) 0 (one_scalar dl tag_distinguishes.tag) Direct tagged_variants

    -- the enum is put together so
    pub placed_by_tag : placed_enum dl repr (discriminants_of all) variants layout ≡ placed
    placed_by_tag =
        ap (placed_variants dl repr (discriminants_of all) variants layout) tag_distinguishes.tag_distinguishes
        ∙ ap (λ o. tagged layout (mark_of true repr) o (one_scalar dl tag_distinguishes.tag) Direct tagged_variants) (ap (λ fields. get_or (listed_offsets fields) 0 0) tag_distinguishes.place)

    tag_inside : (variants : List (List Placed)) (layouts : List (VariantLayout ℕ)) → 0 < length variants → AreApartBehind layout.size w (layouts_of variants) layouts → 0 + w ≤ layout.size
    tag_inside [] layouts some apart = absurd (omega (arith, some))
    tag_inside (ps ∷ variants) [] some apart = absurd apart
    tag_inside (ps ∷ variants) (l ∷ layouts) some apart = apart.0.0

    tag_room : 0 + w ≤ layout.size
    tag_room = tag_inside variants tag_distinguishes.layouts some tag_distinguishes.apart

    room : has_room placed ≡ true
    room = both_true (both_true (le-leb (0 + w) layout.size tag_room) refl) (tagged_variants_room dl layout (mark_of true repr) 0 layout.size all variants tag_distinguishes.layouts (discriminants_of all) (apart_behind layout.size w variants tag_distinguishes.layouts tag_distinguishes.apart) fits)

    listed : open_numbers tagged_variants ≡ inhabited_of (λ v. v) (layouts_of variants) (numbered_from 0 (discriminants_of all))
    listed =
        open_as layout (mark_of true repr) 0 (layouts_of variants) layout.size 0 variants tag_distinguishes.layouts (discriminants_of all) (apart_behind layout.size w variants tag_distinguishes.layouts tag_distinguishes.apart) (numbers_long dl all variants fits)
        (λ j. let at : 0 + j ≡ j = omega arith in ap (variant_at (layouts_of variants)) at)

    have : HaveNumbers w tag_distinguishes.tag tagged_variants
    have = have_numbers w tag_distinguishes.tag tagged_variants (subst (All (λ n. IsNumberOf w tag_distinguishes.tag (n % numbers_of w))) (sym listed) tag_distinguishes.numbers)

    differ : NumbersDiffer w tagged_variants
    differ = numbers_differ w tagged_variants (subst (AllPairs (λ n m. n % numbers_of w ≢ m % numbers_of w)) (sym listed) tag_distinguishes.differ)

    module _ (locals : LocalsOfVariants dl all) where
      fit : TaggedVariantsFit dl layout.size 0 w all tagged_variants
      fit = tagged_variants_fit dl layout (mark_of true repr) 0 layout.size w all variants tag_distinguishes.layouts tag_distinguishes.apart fits locals

      number_there : (b : List ℕ) (v : Value) → Holds dl.endian placed b v → IsNumberOf w tag_distinguishes.tag (number_of dl.endian (bytes_at b 0 w))
      number_there b v h = tagged_number dl repr layout 0 tag_distinguishes.tag all tagged_variants fit have b v h

      -- the second scalar of a view is true
      second_true : (value : Primitive) (range : WrappingRange) (o : ℕ) → IsWide dl (Initialized value range) → EachHasNumberAt dl (primitive_size dl value) o tag_distinguishes.layouts (layouts_of variants) →
          (b : List ℕ) (v : Value) → Holds dl.endian placed b v → IsScalarTrue dl o (Initialized value range) b
      second_true value range o wide has b (variant i vs) h =
          let k : ℕ = primitive_size dl value in
          subst (λ r. IsIn k r (number_of dl.endian (bytes_at b o k))) (sym wide)
          (in_full k (number_of dl.endian (bytes_at b o k)) (number_of_tagged_variant dl k o b layout (mark_of true repr) 0 layout.size w all tag_distinguishes.layouts variants has fit fits i vs h.3))
      second_true value range o wide has b (number n) h = absurd h
      second_true value range o wide has b (two n m) h = absurd h
      second_true value range o wide has b (list vs) h = absurd h
      second_true value range o wide has b (state i ps vs) h = absurd h
      second_true value range o wide has b (bytes content) h = absurd h

      view_by : (view : BackendRepr) → BeginsWithTag dl tag_distinguishes.tag view → IsFilled dl view tag_distinguishes.layouts (layouts_of variants) → (b : List ℕ) (v : Value) → Holds dl.endian placed b v → IsTrueOf dl view b
      view_by (OneScalar s) begins has b v h = subst (λ t. IsScalarTrue dl 0 t b) (sym begins) (tag_true dl tag_distinguishes.tag 0 b (number_there b v h))
      view_by (ScalarPair s (Initialized value range) o) begins has b v h =
          (subst (λ t. IsScalarTrue dl 0 t b) (sym begins.0) (tag_true dl tag_distinguishes.tag 0 b (number_there b v h)), second_true value range o begins.1 has b v h)
      view_by (ScalarPair s (Union value) o) begins has b v h = (subst (λ t. IsScalarTrue dl 0 t b) (sym begins.0) (tag_true dl tag_distinguishes.tag 0 b (number_there b v h)), tt)
      view_by (Memory sized) begins has b v h = tt
      view_by (SimdScalableVector element count vectors) begins has b v h = tt
      view_by (SimdVector element count) begins has b v h = tt

      faithful : IsFaithful dl (enum repr all) placed
      faithful = record {
        exists = tagged_exists dl repr layout 0 tag_distinguishes.tag all tagged_variants fit tag_room;
        only = tagged_only dl repr layout 0 tag_distinguishes.tag all tagged_variants fit;
        unique = tagged_unique dl repr layout 0 tag_distinguishes.tag all tagged_variants fit differ;
        niche = some_niche layout.largest_niche _ (λ n e b v h. tag_niche_true dl tag_distinguishes.tag 0 b (number_there b v h) n (sym tag_distinguishes.niche ∙ e));
        inside = some_niche layout.largest_niche _ (λ n e. tag_niche_inside dl tag_distinguishes.tag 0 n layout.size tag_room (sym tag_distinguishes.niche ∙ e));
        padding = tagged_padding dl repr layout 0 tag_distinguishes.tag all tagged_variants fit;
        view = view_by layout.backend_repr tag_distinguishes.view tag_distinguishes.filled;
        flag = flag_tagged_variants dl repr all layout 0 (one_scalar dl tag_distinguishes.tag) Direct tagged_variants (list_all has_no_value (layouts_of variants)) flag
            (tagged_variants_flag dl layout (mark_of true repr) 0 layout.size all variants tag_distinguishes.layouts (apart_behind layout.size w variants tag_distinguishes.layouts tag_distinguishes.apart) fits locals);
      }

    -- an enum that a tag distinguishes keeps its values
    pub Fits-by-tag : Fits dl (enum repr all) (placed_enum dl repr (discriminants_of all) variants layout)
    Fits-by-tag = subst (Fits dl (enum repr all)) (sym placed_by_tag) (record {
      faithful = λ locals. faithful locals;
      lawful = lawful;
      room = room;
      within = λ k place. within_room placed k room place;
      common = λ locals. (tt, tagged_variants_common dl layout (mark_of true repr) 0 all variants tag_distinguishes.layouts (discriminants_of all) fits locals);
      untagged = λ locals. (tt, tagged_variants_untagged dl layout (mark_of true repr) 0 all variants tag_distinguishes.layouts (discriminants_of all) fits locals);
    })
