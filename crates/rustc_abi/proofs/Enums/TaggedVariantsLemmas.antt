-- The tagged variants of an enum: fields that the calculator lays apart fit together, beside the tag and inside the whole.
use Rattle.std.proofs.Common.{◌≡◌, ℕ, zero, suc, ◌+◌, List, [], ◌∷◌, map, length, Bool, true, false, arith, refl, sym, ap, subst, ◌∙◌}
use Rattle.std.specs.Prelude.{◌&&◌, ◌||◌, ◌==◌, not, MatchBool, cond, filter, if◌then◌else◌, ⊤}
use Rattle.std.specs.List.{list_all}
use Rattle.std.specs.Cmp.Derive.{both_true}
use Rattle.abi_base.specs.declared.data_layout.TargetDataLayout.{TargetDataLayout}
use Rattle.abi_scalar.specs.declared.repr.ReprOptions.{ReprOptions}
use Rattle.abi_scalar.specs.declared.variants.TagEncoding.{TagEncoding}
use Rattle.abi_scalar.specs.declared.variants.VariantLayout.{VariantLayout}
use Rattle.abi_scalar.specs.Variant.{variant_layout}
use Rattle.abi_univariant.specs.Apart.{AreApart, IsBeside}
use Rattle.abi_calc.specs.Enums.Beside.{AreApartBeside}
use Rattle.abi_calc.specs.Enums.Discriminants.{inhabited_of}
use Rattle.abi_calc.specs.Enums.EnumStrategy.{has_no_value, variant_at}
use Rattle.abi_calc.specs.Enums.Places.{AreApartBehind}
use Rattle.abi_tree.specs.Tree.{enum, Trees, no_trees, Variants, no_variants, more_variants}
use Rattle.abi_tree.specs.declared.mark.Mark.{Mark}
use Rattle.abi_tree.specs.Mark.{mark_of}
use Rattle.abi_tree.specs.Placed.{Placed, layout_of, size_of, TaggedVariants, tagged_variant, tagged, parts_of_tagged_variant, is_flagged}
use Rattle.abi_scalar.specs.Layout.{Layout}
use Rattle.abi_tree.specs.Room.{tagged_variants_have_room}
use Rattle.abi_tree.specs.Value.{Value, number, two, list, variant, state, bytes, Values}
use Rattle.abi_tree.specs.Values.{IsValueOf, AreValuesOfVariant, LocalsOfVariants, VectorsOfVariants}
use Rattle.abi_tree.specs.Faithful.{IsFlagTrue}
use Rattle.abi_tree.specs.Unions.{IsCommon, InUnionsOfTaggedVariants}
use Rattle.abi_tree.specs.Untagged.{UntaggedNamedOfTaggedVariants}
use Rattle.abi_tree.specs.Nodes.{parts_at}
use Rattle.rustc_abi.specs.Enums.{tagged_variants_at, discriminants_of, layouts_of, numbered_from}
use Rattle.rustc_abi.specs.Adding.{VariantsFit}
use Rattle.rustc_abi.proofs.Values.FieldsLemmas.{beside_parts, common_each, room_of, together, untagged_each}
use Rattle.rustc_abi.proofs.Values.FlagLemmas.{HaveSome, each_flag, flags_true}
use Rattle.rustc_abi.proofs.Enums.InNicheLemmas.{TaggedVariantsBeside}
use Rattle.rustc_abi.proofs.Trees.ListLemmas.{map_sizes}
use Rattle.rustc_abi.proofs.Values.PartsLemmas.{LieBeside}
use Rattle.rustc_abi.proofs.Enums.TaggedLemmas.{TaggedVariantsFit, open_numbers}

-- sizes of layouts are those of the types
apart_sizes : (whole : ℕ) (offsets : List ℕ) (ps : List Placed) → AreApart whole offsets (map (λ l. l.size) (map layout_of ps)) → AreApart whole offsets (map size_of ps)
apart_sizes whole offsets ps h = subst (AreApart whole offsets) (sym (map_sizes layout_of ps)) h

beside_sizes : (o n : ℕ) (offsets : List ℕ) (ps : List Placed) → IsBeside o n offsets (map (λ l. l.size) (map layout_of ps)) → IsBeside o n offsets (map size_of ps)
beside_sizes o n offsets ps h = subst (IsBeside o n offsets) (sym (map_sizes layout_of ps)) h

-- fields of one variant, apart, and beside the niche unless it is the untagged one
beside_by : (same : Bool) (size place w : ℕ) (ts : Trees) (offsets : List ℕ) (ps : List Placed) →
    MatchBool same (AreApart size offsets (map (λ l. l.size) (map layout_of ps))) (AreApart size (place ∷ offsets) (w ∷ map (λ l. l.size) (map layout_of ps))) →
    AreApart size offsets (map size_of ps) × (same ≡ false → LieBeside place w (parts_at offsets ps))
beside_by true size place w ts offsets ps h = (apart_sizes size offsets ps h, λ e. absurd (cc))
beside_by false size place w ts offsets ps h =
    (apart_sizes size offsets ps h.2, λ e. beside_parts place w offsets ps (beside_sizes place w offsets ps h.1))

-- each variant's fields lie apart inside the size
abbrev pub EachApart : (size : ℕ) → List (List Placed) → List (VariantLayout ℕ) → Type 0
EachApart size [] [] = ⊤
EachApart size (ps ∷ variants) (l ∷ layouts) = AreApart size l.field_offsets (map size_of ps) × EachApart size variants layouts
EachApart size _ _ = ⊥

pub apart_behind : (size w : ℕ) (variants : List (List Placed)) (layouts : List (VariantLayout ℕ)) → AreApartBehind size w (layouts_of variants) layouts → EachApart size variants layouts
apart_behind size w [] [] apart = tt
apart_behind size w [] (l ∷ layouts) apart = absurd apart
apart_behind size w (ps ∷ variants) [] apart = absurd apart
apart_behind size w (ps ∷ variants) (l ∷ layouts) apart = (apart_sizes size l.field_offsets ps apart.0.2, apart_behind size w variants layouts apart.1)

pub apart_beside : (size place w untagged from : ℕ) (variants : List (List Placed)) (layouts : List (VariantLayout ℕ)) →
    AreApartBeside size place w untagged from (layouts_of variants) layouts → EachApart size variants layouts
apart_beside size place w untagged from [] [] apart = tt
apart_beside size place w untagged from [] (l ∷ layouts) apart = absurd apart
apart_beside size place w untagged from (ps ∷ variants) [] apart = absurd apart
apart_beside size place w untagged from (ps ∷ variants) (l ∷ layouts) apart =
    ((beside_by (from == untagged) size place w no_trees l.field_offsets ps apart.0).0, apart_beside size place w untagged (from + 1) variants layouts apart.1)

-- parts are flagged where some field has no values
pub flagged_as : (size : ℕ) (offsets : List ℕ) (ps : List Placed) → AreApart size offsets (map size_of ps) → is_flagged (parts_at offsets ps) ≡ has_no_value (map layout_of ps)
flagged_as size [] [] apart = refl
flagged_as size (o ∷ offsets) [] apart = absurd apart
flagged_as size [] (p ∷ ps) apart = absurd apart
flagged_as size (o ∷ offsets) (p ∷ ps) apart = ap (λ b. (layout_of p).uninhabited || b) (flagged_as size offsets ps apart.2)

module _ (dl : TargetDataLayout) where
  -- fields that lie apart behind a tag of w bytes
  pub tagged_variants_fit : (whole : Layout) (mark : Mark) (first : ℕ) (size w : ℕ) (all : Variants) (variants : List (List Placed)) (layouts : List (VariantLayout ℕ)) → AreApartBehind size w (layouts_of variants) layouts →
      VariantsFit dl all variants → LocalsOfVariants dl all → TaggedVariantsFit dl size 0 w all (tagged_variants_at whole mark first layouts (discriminants_of all) variants)
  tagged_variants_fit whole mark first size w no_variants [] [] apart fits locals = tt
  tagged_variants_fit whole mark first size w no_variants [] (l ∷ layouts) apart fits locals = absurd apart
  tagged_variants_fit whole mark first size w no_variants (ps ∷ variants) layouts apart fits locals = absurd fits
  tagged_variants_fit whole mark first size w (more_variants d ts others) [] layouts apart fits locals = absurd fits
  tagged_variants_fit whole mark first size w (more_variants d ts others) (ps ∷ variants) [] apart fits locals = absurd apart
  tagged_variants_fit whole mark first size w (more_variants d ts others) (ps ∷ variants) (l ∷ layouts) apart fits locals = (
    refl,
    together dl size ts l.field_offsets ps (apart_sizes size l.field_offsets ps apart.0.2) fits.0 locals.0,
    beside_parts 0 w l.field_offsets ps (beside_sizes 0 w l.field_offsets ps apart.0.1),
    tagged_variants_fit whole mark (first + 1) size w others variants layouts apart.1 fits.1 locals.1,
  )

  -- fields that lie apart beside a niche
  pub tagged_variants_beside : (whole : Layout) (mark : Mark) (first : ℕ) (size place w untagged from : ℕ) (all : Variants) (variants : List (List Placed)) (layouts : List (VariantLayout ℕ)) →
      AreApartBeside size place w untagged from (layouts_of variants) layouts → VariantsFit dl all variants → LocalsOfVariants dl all →
      TaggedVariantsBeside dl size place w untagged from all (tagged_variants_at whole mark first layouts (discriminants_of all) variants)
  tagged_variants_beside whole mark first size place w untagged from no_variants [] [] apart fits locals = tt
  tagged_variants_beside whole mark first size place w untagged from no_variants [] (l ∷ layouts) apart fits locals = absurd apart
  tagged_variants_beside whole mark first size place w untagged from no_variants (ps ∷ variants) layouts apart fits locals = absurd fits
  tagged_variants_beside whole mark first size place w untagged from (more_variants d ts others) [] layouts apart fits locals = absurd fits
  tagged_variants_beside whole mark first size place w untagged from (more_variants d ts others) (ps ∷ variants) [] apart fits locals = absurd apart
  tagged_variants_beside whole mark first size place w untagged from (more_variants d ts others) (ps ∷ variants) (l ∷ layouts) apart fits locals =
      let here = beside_by (from == untagged) size place w ts l.field_offsets ps apart.0 in (
        refl,
        together dl size ts l.field_offsets ps here.0 fits.0 locals.0,
        here.1,
        tagged_variants_beside whole mark (first + 1) size place w untagged (from + 1) others variants layouts apart.1 fits.1 locals.1,
      )

  -- each part of each variant ends inside the size
  pub tagged_variants_room : (whole : Layout) (mark : Mark) (first : ℕ) (size : ℕ) (all : Variants) (variants : List (List Placed)) (layouts : List (VariantLayout ℕ)) (numbers : List ℕ) → EachApart size variants layouts → VariantsFit dl all variants →
      tagged_variants_have_room size (tagged_variants_at whole mark first layouts numbers variants) ≡ true
  tagged_variants_room whole mark first size all [] [] numbers apart fits = refl
  tagged_variants_room whole mark first size all [] (l ∷ layouts) numbers apart fits = absurd apart
  tagged_variants_room whole mark first size all (ps ∷ variants) [] numbers apart fits = absurd apart
  tagged_variants_room whole mark first size no_variants (ps ∷ variants) (l ∷ layouts) numbers apart fits = absurd fits
  tagged_variants_room whole mark first size (more_variants d ts others) (ps ∷ variants) (l ∷ layouts) [] apart fits = refl
  tagged_variants_room whole mark first size (more_variants d ts others) (ps ∷ variants) (l ∷ layouts) (n ∷ numbers) apart fits =
      both_true (room_of dl size ts l.field_offsets ps apart.0 fits.0) (tagged_variants_room whole mark (first + 1) size others variants layouts numbers apart.1 fits.1)

  -- what each type keeps in its unions
  pub tagged_variants_common : (whole : Layout) (mark : Mark) (first : ℕ) (all : Variants) (variants : List (List Placed)) (layouts : List (VariantLayout ℕ)) (numbers : List ℕ) → VariantsFit dl all variants → LocalsOfVariants dl all →
      InUnionsOfTaggedVariants (IsCommon dl.endian) (tagged_variants_at whole mark first layouts numbers variants)
  tagged_variants_common whole mark first all variants [] numbers fits locals = tt
  tagged_variants_common whole mark first all variants (l ∷ layouts) [] fits locals = tt
  tagged_variants_common whole mark first all [] (l ∷ layouts) (n ∷ numbers) fits locals = tt
  tagged_variants_common whole mark first no_variants (ps ∷ variants) (l ∷ layouts) (n ∷ numbers) fits locals = absurd fits
  tagged_variants_common whole mark first (more_variants d ts others) (ps ∷ variants) (l ∷ layouts) (n ∷ numbers) fits locals =
      (common_each dl ts l.field_offsets ps fits.0 locals.0, tagged_variants_common whole mark (first + 1) others variants layouts numbers fits.1 locals.1)

  -- the untagged variants in each type name themselves
  pub tagged_variants_untagged : (whole : Layout) (mark : Mark) (first : ℕ) (all : Variants) (variants : List (List Placed)) (layouts : List (VariantLayout ℕ)) (numbers : List ℕ) → VariantsFit dl all variants → LocalsOfVariants dl all →
      UntaggedNamedOfTaggedVariants dl.endian (tagged_variants_at whole mark first layouts numbers variants)
  tagged_variants_untagged whole mark first all variants [] numbers fits locals = tt
  tagged_variants_untagged whole mark first all variants (l ∷ layouts) [] fits locals = tt
  tagged_variants_untagged whole mark first all [] (l ∷ layouts) (n ∷ numbers) fits locals = tt
  tagged_variants_untagged whole mark first no_variants (ps ∷ variants) (l ∷ layouts) (n ∷ numbers) fits locals = absurd fits
  tagged_variants_untagged whole mark first (more_variants d ts others) (ps ∷ variants) (l ∷ layouts) (n ∷ numbers) fits locals =
      (untagged_each dl ts l.field_offsets ps fits.0 locals.0, tagged_variants_untagged whole mark (first + 1) others variants layouts numbers fits.1 locals.1)

-- ---- the numbers of the variants that may have values

-- a number that is listed unless the flag is set
pick : (flag : Bool) (item : ℕ × ℕ) (xs : List ℕ) (rest : List (ℕ × ℕ)) → xs ≡ map (λ i. i.1) rest → (if flag then xs else item.1 ∷ xs) ≡ map (λ i. i.1) (cond (not flag) (item ∷ rest) rest)
pick true item xs rest same = same
pick false item xs rest same = ap (λ ns. item.1 ∷ ns) same

-- they are those of the tagged variants that aren't flagged
pub open_as : (whole : Layout) (mark : Mark) (first : ℕ) (all : List (List Layout)) (size from : ℕ) (variants : List (List Placed)) (layouts : List (VariantLayout ℕ)) (numbers : List ℕ) → EachApart size variants layouts →
    length numbers ≡ length variants → ((j : ℕ) → variant_at all (from + j) ≡ variant_at (layouts_of variants) j) →
    open_numbers (tagged_variants_at whole mark first layouts numbers variants) ≡ inhabited_of (λ v. v) all (numbered_from from numbers)
open_as whole mark first all size from [] [] [] apart long same = refl
open_as whole mark first all size from [] [] (n ∷ numbers) apart long same = absurd (omega (arith, long))
open_as whole mark first all size from [] (l ∷ layouts) numbers apart long same = absurd apart
open_as whole mark first all size from (ps ∷ variants) [] numbers apart long same = absurd apart
open_as whole mark first all size from (ps ∷ variants) (l ∷ layouts) [] apart long same = absurd (omega (arith, long))
open_as whole mark first all size from (ps ∷ variants) (l ∷ layouts) (n ∷ numbers) apart long same =
    let at : from + 0 ≡ from = omega arith in
    let here : variant_at all from ≡ map layout_of ps = ap (variant_at all) (sym at) ∙ same 0 in
    let rest : open_numbers (tagged_variants_at whole mark (first + 1) layouts numbers variants) ≡ inhabited_of (λ v. v) all (numbered_from (from + 1) numbers) =
    open_as whole mark (first + 1) all size (from + 1) variants layouts numbers apart.1 (omega (arith, long))
    (λ j. let next : from + 1 + j ≡ from + suc j = omega arith in ap (variant_at all) next ∙ same (suc j)) in
    ap (λ b. if b then open_numbers (tagged_variants_at whole mark (first + 1) layouts numbers variants) else n ∷ open_numbers (tagged_variants_at whole mark (first + 1) layouts numbers variants)) (flagged_as size l.field_offsets ps apart.0)
    ∙ pick (has_no_value (map layout_of ps)) (from, n) (open_numbers (tagged_variants_at whole mark (first + 1) layouts numbers variants)) (filter (λ item. not (has_no_value (variant_at all item.0))) (numbered_from (from + 1) numbers)) rest
    ∙ ap (λ fields. map (λ (item : ℕ × ℕ). item.1) (cond (not (has_no_value fields)) ((from, n) ∷ filter (λ item. not (has_no_value (variant_at all item.0))) (numbered_from (from + 1) numbers))
    (filter (λ item. not (has_no_value (variant_at all item.0))) (numbered_from (from + 1) numbers)))) (sym here)

-- ---- whether the enum has values

module _ (dl : TargetDataLayout) where
  -- some variant has values, where its vectors' elements do, or none has, as the flag says
  abbrev pub SomeTaggedVariant : Variants → TaggedVariants → Bool → Type 0
  SomeTaggedVariant all tagged_variants flag =
      MatchBool flag ((i : ℕ) (vs : Values) → AreValuesOfVariant dl all i (parts_of_tagged_variant tagged_variants i) vs → ⊥)
      (VectorsOfVariants dl all → (i : ℕ) × (vs : Values) × AreValuesOfVariant dl all i (parts_of_tagged_variant tagged_variants i) vs)

  tagged_variant_more : (own : Layout) (mark : Mark) (d n : ℕ) (ts : Trees) (others : Variants) (offsets : List ℕ) (ps : List Placed) (tagged_variants : TaggedVariants) (a b : Bool) → HaveSome dl ts offsets ps a → SomeTaggedVariant others tagged_variants b →
      SomeTaggedVariant (more_variants d ts others) (tagged_variant n own mark (parts_at offsets ps) tagged_variants) (a && b)
  tagged_variant_more own mark d n ts others offsets ps tagged_variants true true h k = none
    where
      none : (i : ℕ) (vs : Values) → AreValuesOfVariant dl (more_variants d ts others) i (parts_of_tagged_variant (tagged_variant n own mark (parts_at offsets ps) tagged_variants) i) vs → ⊥
      none zero vs is = h vs is
      none (suc i) vs is = k i vs is
  tagged_variant_more own mark d n ts others offsets ps tagged_variants true false h k = λ c. let some = k c.1 in (suc some.0, some.1, some.2)
  tagged_variant_more own mark d n ts others offsets ps tagged_variants false b h k = λ c. let some = h c.0 in (0, some.0, some.1)

  pub tagged_variants_flag : (whole : Layout) (mark : Mark) (first : ℕ) (size : ℕ) (all : Variants) (variants : List (List Placed)) (layouts : List (VariantLayout ℕ)) → EachApart size variants layouts → VariantsFit dl all variants → LocalsOfVariants dl all →
      SomeTaggedVariant all (tagged_variants_at whole mark first layouts (discriminants_of all) variants) (list_all has_no_value (layouts_of variants))
  tagged_variants_flag whole mark first size no_variants [] [] apart fits locals = λ i vs h. h
  tagged_variants_flag whole mark first size all [] (l ∷ layouts) apart fits locals = absurd apart
  tagged_variants_flag whole mark first size all (ps ∷ variants) [] apart fits locals = absurd apart
  tagged_variants_flag whole mark first size no_variants (ps ∷ variants) (l ∷ layouts) apart fits locals = absurd fits
  tagged_variants_flag whole mark first size (more_variants d ts others) [] [] apart fits locals = absurd fits
  tagged_variants_flag whole mark first size (more_variants d ts others) (ps ∷ variants) (l ∷ layouts) apart fits locals =
      tagged_variant_more (variant_layout whole first l) mark d d ts others l.field_offsets ps (tagged_variants_at whole mark (first + 1) layouts (discriminants_of others) variants) (has_no_value (map layout_of ps)) (list_all has_no_value (layouts_of variants))
      (each_flag dl size ts l.field_offsets ps apart.0 fits.0 (flags_true dl ts ps fits.0 locals.0)) (tagged_variants_flag whole mark (first + 1) size others variants layouts apart.1 fits.1 locals.1)

  module _ (repr : ReprOptions) (all : Variants) (layout : Layout) (offset : ℕ) (tag : Placed) (encoding : TagEncoding ℕ) (tagged_variants : TaggedVariants) where
    of_enum : (flag : Bool) → SomeTaggedVariant all tagged_variants flag →
        MatchBool flag ((v : Value) → IsValueOf dl (enum repr all) (tagged layout (mark_of true repr) offset tag encoding tagged_variants) v → ⊥)
        (VectorsOfVariants dl all → (v : Value) × IsValueOf dl (enum repr all) (tagged layout (mark_of true repr) offset tag encoding tagged_variants) v)
    of_enum true h = none
      where
        none : (v : Value) → IsValueOf dl (enum repr all) (tagged layout (mark_of true repr) offset tag encoding tagged_variants) v → ⊥
        none (variant i vs) k = h i vs k
        none (number n) k = k
        none (two n m) k = k
        none (list vs) k = k
        none (state i xs vs) k = k
        none (bytes content) k = k
    of_enum false h = λ c. let some = h c in (variant some.0 some.1, some.2)

    -- an enum beside a tag has no value where no variant has one
    pub flag_tagged_variants : (flag : Bool) → layout.uninhabited ≡ flag → SomeTaggedVariant all tagged_variants flag → IsFlagTrue dl (enum repr all) (tagged layout (mark_of true repr) offset tag encoding tagged_variants)
    flag_tagged_variants flag e h = rw e (of_enum flag h)
