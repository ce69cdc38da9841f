-- Each data place of a laid-out type is covered by a value of the tree, where each type in the tree has values.
use Rattle.std.proofs.Common.{◌≡◌, ℕ, zero, suc, ◌+◌, ◌*◌, ◌%◌, ◌<◌, ◌≤◌, All, Bool, true, false, Option, Some, None, Ok, List, [], ◌∷◌, length, get_or, map, replicate, inl, inr, arith, refl, Err, sym, ap, ◌∙◌, subst}
use Rattle.std.specs.Prelude.{◌==◌, Result, if◌then◌else◌, nat_lt, ⊤}
use Rattle.std.proofs.lemmas.List.{length-map, length-replicate}
use Rattle.std.proofs.lemmas.List.Elements.{All-cons, All-head, All-nil, All-tail}
use Rattle.std.proofs.Math.Nat.{mod-eq_of_lt}
use Rattle.std.proofs.lemmas.Bool.{eqb-true, true≢false}
use Rattle.std.proofs.lemmas.Nat.{pow_pos}
use Rattle.abi_base.specs.declared.data_layout.TargetDataLayout.{TargetDataLayout}
use Rattle.abi_base.specs.DataLayout.{IsLawfulDataLayout, size_bound}
use Rattle.abi_scalar.specs.declared.repr.ReprOptions.{ReprOptions}
use Rattle.abi_scalar.specs.declared.scalar.Scalar.{Scalar}
use Rattle.abi_scalar.specs.declared.scalar.Scalar.TheVariants.{Initialized, Union}
use Rattle.abi_scalar.specs.declared.variants.TagEncoding.{TagEncoding}
use Rattle.abi_scalar.specs.declared.variants.TagEncoding.TheVariants.{Direct, Niche}
use Rattle.abi_scalar.specs.declared.variants.VariantLayout.{VariantLayout}
use Rattle.abi_scalar.specs.declared.variants.Variants.{Variants as LayoutVariants}
use Rattle.abi_scalar.specs.declared.variants.Variants.TheVariants.{Empty, Multiple, Single}
use Rattle.abi_scalar.specs.Pair.{pair_layout, pair_size, second_offset}
use Rattle.abi_base.specs.Primitive.{primitive_size}
use Rattle.abi_scalar.specs.Range.{numbers_of}
use Rattle.abi_scalar.specs.Scalar.{IsLawfulScalar, IsNumberOf, scalar_size}
use Rattle.abi_scalar.specs.Shape.{listed_offsets}
use Rattle.abi_scalar.specs.Simple.{never_layout, scalar_layout, unit_layout}
use Rattle.abi_scalar.specs.Variant.{variants_of as layouts_in}
use Rattle.abi_univariant.specs.Array.{elements_layout}
use Rattle.abi_univariant.specs.Placement.{source_order}
use Rattle.abi_univariant.specs.Simd.{simd_answer}
use Rattle.abi_calc.specs.declared.enums.strategy.EnumStrategy.{EnumStrategy}
use Rattle.abi_calc.specs.declared.enums.strategy.EnumStrategy.TheVariants.{NoValue, OneList, Several}
use Rattle.abi_calc.specs.Enums.EnumStrategy.{strategy_of, variant_at}
use Rattle.abi_calc.specs.Coroutine.Layout.{IsStateTag}
use Rattle.abi_calc.proofs.EnumLemmas.Deep.{HasOwnNumber, enum_span}
use Rattle.abi_calc.proofs.EnumLemmas.EnumExtent.{several_some}
use Rattle.abi_tree.specs.declared.mark.Mark.{Mark}
use Rattle.abi_tree.specs.declared.mark.Mark.TheVariants.{Never, Plain, Unit}
use Rattle.abi_tree.specs.Mark.{mark_of}
use Rattle.abi_tree.specs.Bytes.{AreBytes, count_picked}
use Rattle.abi_tree.specs.Tree.{Tree, scalar, pair, never, unit, array, vector, struct, union, enum, coroutine, Trees, no_trees, more_trees, Variants, no_variants, more_variants}
use Rattle.abi_tree.specs.Placed.{Placed, layout_of, size_of, elements, fields, no_parts, never as placed_never, vector as placed_vector, Parts, part, TaggedVariants, nothing_tagged, tagged_variant, parts_of_tagged_variant}
use Rattle.abi_scalar.specs.Layout.{Layout}
use Rattle.abi_tree.specs.Places.{is_data_place, is_place_of_part}
use Rattle.abi_tree.specs.Value.{Value, value_count, Each}
use Rattle.abi_tree.specs.Values.{AreValuesOf, AreValuesOfVariant, EachAt, HaveValues, IsValueAt, IsValueOf, LocalsHaveValues, LocalsOfEach, LocalsOfVariants}
use Rattle.abi_tree.specs.Nodes.{parts_at, parts_at_0, placed_in, state_tag_offset, tag_offset}
use Rattle.abi_tree.specs.Deciding.{tagged_variant_for, tagged_variant_values, covering_value, covering_values, each_value, first_tagged, first_with, place_in, some_number}
use Rattle.abi_tree.proofs.Deciding.CoverableLemmas.{TaggedVariantsCover, Covers, PartsCover, covers_elements, covers_fields, covers_pair, covers_scalar, covers_single, covers_states, covers_tagged, covers_union, covers_vector}
use Rattle.rustc_abi.specs.Count.{tagged_variant_count}
use Rattle.rustc_abi.specs.Coroutines.{IsStated}
use Rattle.rustc_abi.specs.Enums.{IsEnumed, IsTagIntegerAnswer, tagged_variants_at, discriminants_of, layouts_of, numbered_from}
use Rattle.rustc_abi.specs.Error.{named}
use Rattle.rustc_abi.specs.Everywhere.{HaveLocals}
use Rattle.rustc_abi.specs.Inhabited.{AreInhabited, EachInhabited, IsInhabited, VariantsInhabited}
use Rattle.rustc_abi.specs.Laying.{AreLaying, IsLaying, IsLaidList, IsListedInOrder, IsUnited, VariantsLaying, coroutine_fault, enum_fault, fields_fault, kind_of, lanes_of, one_scalar, ordered_fault, pair_answer, placed_coroutine, placed_enum, placed_fields, placed_together, placed_variants, with_randomize_flag, scalar_answer, two_scalars, unless}
use Rattle.rustc_abi.specs.Least.{fields_of}
use Rattle.rustc_abi.specs.ScalarFault.{scalar_fault}
use Rattle.rustc_abi.specs.declared.error.LayError.{LayError}
use Rattle.rustc_abi.specs.declared.error.LayError.TheVariants.{SizeOverflow}
use Rattle.rustc_abi.proofs.Enums.TaggedVariantsLemmas.{EachApart}
use Rattle.rustc_abi.proofs.Faults.CoroutineFaultLemmas.{some_state, states_within}
use Rattle.rustc_abi.proofs.Faults.FaultLemmas.{faultless}
use Rattle.rustc_abi.proofs.Sizes.EnumSizeLemmas.{Answers, IsShaped, apart_long, by_tagged_variants, enumed_shaped}
use Rattle.rustc_abi.proofs.Sizes.LeastLemmas.{listed_count}
use Rattle.rustc_abi.proofs.Sizes.SizeLemmas.{elements_there}
use Rattle.rustc_abi.proofs.Trees.EverywhereLemmas.{coroutine_has}
use Rattle.rustc_abi.proofs.Trees.LaidLemmas.{IsWhole, aligns_of, all_whole, coroutine_laid, each_lawful, each_of, fitted, laid_by, no_fault, numbers_for, placed_back, stated_offsets, tags_of, variants_whole, whole_lawful}
use Rattle.rustc_abi.proofs.Trees.OneAnswer.{one_answer}
use Rattle.rustc_abi.proofs.Trees.OrderLemmas.{ordered_count}

-- A laid-out type whose chosen values are the tree's, and cover the places for which they are chosen; each local in it has a value.
pub record IsCoverable (dl : TargetDataLayout) (t : Tree) (p : Placed) : Type 0 where
  pub value : (place : Option ℕ) → IsValueOf dl t p (covering_value p place)
  pub covers : Covers p
  pub locals : LocalsHaveValues dl t

abbrev AreCoverable : TargetDataLayout → Trees → List Placed → Type 0
AreCoverable dl no_trees [] = ⊤
AreCoverable dl (more_trees t ts) (p ∷ ps) = IsCoverable dl t p × AreCoverable dl ts ps
AreCoverable dl _ _ = ⊥

abbrev VariantsCoverable : TargetDataLayout → Variants → List (List Placed) → Type 0
VariantsCoverable dl no_variants [] = ⊤
VariantsCoverable dl (more_variants d ts others) (ps ∷ variants) = AreCoverable dl ts ps × VariantsCoverable dl others variants
VariantsCoverable dl _ _ = ⊥

module _ (dl : TargetDataLayout) where
  -- ---- fields

  fields_values : (ts : Trees) (os : List ℕ) (ps : List Placed) (place : Option ℕ) → length ps ≤ length os → AreCoverable dl ts ps →
      AreValuesOf dl ts (parts_at os ps) (covering_values (parts_at os ps) place)
  fields_values no_trees [] [] place enough h = tt
  fields_values no_trees (o ∷ os) [] place enough h = tt
  fields_values no_trees os (p ∷ ps) place enough h = absurd h
  fields_values (more_trees t ts) os [] place enough h = absurd h
  fields_values (more_trees t ts) [] (p ∷ ps) place enough h = absurd (omega (arith, enough))
  fields_values (more_trees t ts) (o ∷ os) (p ∷ ps) place enough h = (h.0.value (place_in place o (size_of p)), fields_values ts os ps place (omega (arith, enough)) h.1)

  fields_cover : (ts : Trees) (os : List ℕ) (ps : List Placed) → AreCoverable dl ts ps → PartsCover (parts_at os ps)
  fields_cover ts [] ps h = tt
  fields_cover ts (o ∷ os) [] h = tt
  fields_cover no_trees (o ∷ os) (p ∷ ps) h = absurd h
  fields_cover (more_trees t ts) (o ∷ os) (p ∷ ps) h = (h.0.covers, fields_cover ts os ps h.1)

  each_local : (ts : Trees) (ps : List Placed) → AreCoverable dl ts ps → LocalsOfEach dl ts
  each_local no_trees ps h = tt
  each_local (more_trees t ts) [] h = absurd h
  each_local (more_trees t ts) (p ∷ ps) h = (h.0.locals, each_local ts ps h.1)

  have_values : (ts : Trees) (ps : List Placed) → AreCoverable dl ts ps → HaveValues dl ts
  have_values no_trees ps h = tt
  have_values (more_trees t ts) [] h = absurd h
  have_values (more_trees t ts) (p ∷ ps) h = ((p, covering_value p None, h.0.value None), have_values ts ps h.1)

  variant_locals : (all : Variants) (variants : List (List Placed)) → VariantsCoverable dl all variants → LocalsOfVariants dl all
  variant_locals no_variants variants h = tt
  variant_locals (more_variants d ts others) [] h = absurd h
  variant_locals (more_variants d ts others) (ps ∷ variants) h = (each_local ts ps h.0, variant_locals others variants h.1)

  -- ---- elements

  each_count : (p : Placed) (offset count : ℕ) (place : Option ℕ) → value_count (each_value (covering_value p) (size_of p) offset count place) ≡ count
  each_count p offset zero place = refl
  each_count p offset (suc count) place = let rest = each_count p (offset + size_of p) count place in omega (arith, rest)

  each_is : (P : Value → Type 0) (p : Placed) (offset count : ℕ) (place : Option ℕ) → ((at : Option ℕ) → P (covering_value p at)) → Each P (each_value (covering_value p) (size_of p) offset count place)
  each_is P p offset zero place all = tt
  each_is P p offset (suc count) place all = (all (place_in place offset (size_of p)), each_is P p (offset + size_of p) count place all)

  -- ---- scalars

  number_there : (s : Scalar) → IsLawfulScalar dl s → IsNumberOf (scalar_size dl s) s (some_number s)
  number_there (Initialized value range) h =
      let first : range.start + 0 ≡ range.start = omega arith in
      let same : range.start ≡ (range.start + 0) % numbers_of (primitive_size dl value) =
      sym (ap (λ n. n % numbers_of (primitive_size dl value)) first ∙ mod-eq_of_lt h.within.0) in
      (0, same, λ k lt. absurd (omega (arith, lt)))
  number_there (Union value) h = pow_pos (8 * primitive_size dl value)

  -- ---- variants

  variant_values : (all : Variants) (variants : List (List Placed)) (i : ℕ) (os : List ℕ) (place : Option ℕ) → i < length variants → length os ≡ length (variant_at variants i) → VariantsCoverable dl all variants →
      AreValuesOfVariant dl all i (parts_at os (variant_at variants i)) (covering_values (parts_at os (variant_at variants i)) place)
  variant_values no_variants [] i os place lt long h = absurd (omega (arith, lt))
  variant_values no_variants (ps ∷ variants) i os place lt long h = absurd h
  variant_values (more_variants d ts others) [] i os place lt long h = absurd h
  variant_values (more_variants d ts others) (ps ∷ variants) zero os place lt long h = fields_values ts os ps place (omega (arith, long)) h.0
  variant_values (more_variants d ts others) (ps ∷ variants) (suc i) os place lt long h = variant_values others variants i os place (omega (arith, lt)) long h.1

  variant_cover : (all : Variants) (variants : List (List Placed)) (i : ℕ) (os : List ℕ) → i < length variants → VariantsCoverable dl all variants → PartsCover (parts_at os (variant_at variants i))
  variant_cover no_variants [] i os lt h = absurd (omega (arith, lt))
  variant_cover no_variants (ps ∷ variants) i os lt h = absurd h
  variant_cover (more_variants d ts others) [] i os lt h = absurd h
  variant_cover (more_variants d ts others) (ps ∷ variants) zero os lt h = fields_cover ts os ps h.0
  variant_cover (more_variants d ts others) (ps ∷ variants) (suc i) os lt h = variant_cover others variants i os (omega (arith, lt)) h.1

  module _ (whole : Layout) (mark : Mark) (size : ℕ) where
    tagged_variants_values : (all : Variants) (variants : List (List Placed)) (layouts : List (VariantLayout ℕ)) (from : ℕ) (numbers : List ℕ) (i : ℕ) (place : Option ℕ) → EachApart size variants layouts →
        length numbers ≡ length variants → i < length variants → VariantsCoverable dl all variants →
        AreValuesOfVariant dl all i (parts_of_tagged_variant (tagged_variants_at whole mark from layouts numbers variants) i) (tagged_variant_values (tagged_variants_at whole mark from layouts numbers variants) i place)
    tagged_variants_values all [] layouts from numbers i place apart long lt h = absurd (omega (arith, lt))
    tagged_variants_values all (ps ∷ variants) [] from numbers i place apart long lt h = absurd apart
    tagged_variants_values all (ps ∷ variants) (l ∷ layouts) from [] i place apart long lt h = absurd (omega (arith, long))
    tagged_variants_values no_variants (ps ∷ variants) (l ∷ layouts) from (n ∷ numbers) i place apart long lt h = absurd h
    tagged_variants_values (more_variants d ts others) (ps ∷ variants) (l ∷ layouts) from (n ∷ numbers) zero place apart long lt h =
        let count : length l.field_offsets ≡ length ps = apart_long size l.field_offsets (map size_of ps) apart.0 ∙ length-map ps size_of in
        fields_values ts l.field_offsets ps place (omega (arith, count)) h.0
    tagged_variants_values (more_variants d ts others) (ps ∷ variants) (l ∷ layouts) from (n ∷ numbers) (suc i) place apart long lt h =
        tagged_variants_values others variants layouts (from + 1) numbers i place apart.1 (omega (arith, long)) (omega (arith, lt)) h.1

    tagged_variants_cover : (all : Variants) (variants : List (List Placed)) (layouts : List (VariantLayout ℕ)) (from : ℕ) (numbers : List ℕ) → VariantsCoverable dl all variants →
        TaggedVariantsCover (tagged_variants_at whole mark from layouts numbers variants)
    tagged_variants_cover all variants [] from numbers h = tt
    tagged_variants_cover all variants (l ∷ layouts) from [] h = tt
    tagged_variants_cover all [] (l ∷ layouts) from (n ∷ numbers) h = tt
    tagged_variants_cover no_variants (ps ∷ variants) (l ∷ layouts) from (n ∷ numbers) h = absurd h
    tagged_variants_cover (more_variants d ts others) (ps ∷ variants) (l ∷ layouts) from (n ∷ numbers) h = (fields_cover ts l.field_offsets ps h.0, tagged_variants_cover others variants layouts (from + 1) numbers h.1)

    tagged_variants_count : (variants : List (List Placed)) (layouts : List (VariantLayout ℕ)) (from : ℕ) (numbers : List ℕ) → EachApart size variants layouts → length numbers ≡ length variants →
        tagged_variant_count (tagged_variants_at whole mark from layouts numbers variants) ≡ length variants
    tagged_variants_count [] [] from numbers apart long = refl
    tagged_variants_count [] (l ∷ layouts) from numbers apart long = absurd apart
    tagged_variants_count (ps ∷ variants) [] from numbers apart long = absurd apart
    tagged_variants_count (ps ∷ variants) (l ∷ layouts) from [] apart long = absurd (omega (arith, long))
    tagged_variants_count (ps ∷ variants) (l ∷ layouts) from (n ∷ numbers) apart long = let rest = tagged_variants_count variants layouts (from + 1) numbers apart.1 (omega (arith, long)) in omega (arith, rest)

-- the tagged variant that is chosen is one of those that are there
with_below : (tagged_variants : TaggedVariants) (k from otherwise bound : ℕ) → otherwise < bound → from + tagged_variant_count tagged_variants ≤ bound → first_with tagged_variants k from otherwise < bound
with_below nothing_tagged k from otherwise bound other fits = other
with_below (tagged_variant code layout mark parts tagged_variants) k from otherwise bound other fits = either (is_place_of_part parts k) (omega (arith, fits)) (with_below tagged_variants k (from + 1) otherwise bound other (omega (arith, fits)))
  where
    either : (b : Bool) → from < bound → first_with tagged_variants k (from + 1) otherwise < bound → (if b then from else first_with tagged_variants k (from + 1) otherwise) < bound
    either true here later = here
    either false here later = later

tagged_variant_below : (encoding : TagEncoding ℕ) (tagged_variants : TaggedVariants) (place : Option ℕ) (count : ℕ) → first_tagged encoding < count → tagged_variant_count tagged_variants ≡ count → tagged_variant_for encoding tagged_variants place < count
tagged_variant_below encoding tagged_variants None count tag_distinguishes same = tag_distinguishes
tagged_variant_below encoding tagged_variants (Some k) count tag_distinguishes same = with_below tagged_variants k 0 (first_tagged encoding) count tag_distinguishes (omega (arith, same))

-- the first variant that is told is one of two or more, or has a number of its own directly
told_below : (encoding : TagEncoding ℕ) (count : ℕ) (tag : Scalar) (field : ℕ) (layouts : List (VariantLayout ℕ)) → 0 < count → HasOwnNumber count (Multiple tag encoding field layouts) → first_tagged encoding < count
told_below Direct count tag field layouts some own = some
told_below (Niche untagged span start) count tag field layouts some own = by (untagged == 0) refl
  where
    by : (b : Bool) → (untagged == 0) ≡ b → (if b then 1 else 0) < count
    by true e = let zero_is : untagged ≡ 0 = eqb-true untagged 0 e in omega (arith, own.0, λ (same : span.start ≡ 0). own.1 (same ∙ sym zero_is))
    by false e = some

module _ (dl : TargetDataLayout) (law : IsLawfulDataLayout dl) where
  -- ---- enums

  module _ (repr : ReprOptions) (all : Variants) (variants : List (List Placed)) (none : enum_fault dl repr (discriminants_of all) variants ≡ None)
      (there : VariantsLaying dl all (Ok variants)) where
    long : length (discriminants_of all) ≡ length variants
    long = numbers_for dl law all variants there

    whole : All (All (IsWhole dl)) variants
    whole = variants_whole dl law all variants there

    -- what says that there is a value
    abbrev Facts : Layout → LayoutVariants ℕ ℕ → Type 0
    Facts l Empty = l.uninhabited ≡ true
    Facts l (Single i) = ⊤
    Facts l (Multiple tag encoding field layouts) = (0 < length variants) × HasOwnNumber (length variants) (Multiple tag encoding field layouts)

    facts_by : (strategy : EnumStrategy) → strategy_of true repr (layouts_of variants) ≡ strategy → (l : Layout)
        → Answers dl law repr (discriminants_of all) variants none long whole strategy (Ok l) → Facts l l.variants
    facts_by NoValue way l h = let same : never_layout dl ≡ l = cc in subst (λ (m : Layout). Facts m m.variants) same refl
    facts_by (OneList i) way l h = subst (λ (m : Layout). Facts m m.variants) (sym h.2) tt
    facts_by Several way l h =
        let some = several_some layout_of repr variants true way in
        by_tagged_variants dl law repr (discriminants_of all) variants none long whole (λ vs. HasOwnNumber (length variants) vs → Facts l vs) l way h (λ tag encoding field layouts apart own. (some, own))
        (enum_span layout_of dl law repr (IsTagIntegerAnswer dl repr) variants (numbered_from 0 (discriminants_of all))
        (aligns_of dl law repr (discriminants_of all) variants none long) (each_lawful dl variants whole) some
        (each_of dl law repr (discriminants_of all) variants none long) (tags_of dl law repr (discriminants_of all) variants none long) l h)

    enum_as : (l : Layout) (vs : LayoutVariants ℕ ℕ) → IsShaped dl repr (discriminants_of all) variants l vs → Facts l vs → l.uninhabited ≡ false → VariantsCoverable dl all variants →
        IsCoverable dl (enum repr all) (placed_variants dl repr (discriminants_of all) variants l vs)
    enum_as l Empty shaped facts flag own = absurd (true≢false (sym facts ∙ flag))
    enum_as l (Single i) shaped facts flag own = record {
      value = λ place. variant_values dl all variants i (listed_offsets l.fields) place shaped.0 shaped.1 own;
      covers = covers_single l (mark_of true repr) i (parts_at (listed_offsets l.fields) (variant_at variants i)) (variant_cover dl all variants i (listed_offsets l.fields) shaped.0 own);
      locals = variant_locals dl all variants own;
    }
    enum_as l (Multiple tag encoding field layouts) shaped facts flag own =
        let mark : Mark = mark_of true repr in
        let tagged_variants : TaggedVariants = tagged_variants_at l mark 0 layouts (discriminants_of all) variants in
        let tag_distinguishes = told_below encoding (length variants) tag field layouts facts.0 facts.1 in
        record {
          value = λ place.
              tagged_variants_values dl l mark l.size all variants layouts 0 (discriminants_of all) (tagged_variant_for encoding tagged_variants place) place shaped.0 long
              (tagged_variant_below encoding tagged_variants place (length variants) tag_distinguishes (tagged_variants_count dl l mark l.size variants layouts 0 (discriminants_of all) shaped.0 long)) own;
          covers = covers_tagged l mark (tag_offset l) (one_scalar dl tag) encoding tagged_variants (tagged_variants_cover dl l mark l.size all variants layouts 0 (discriminants_of all) own);
          locals = variant_locals dl all variants own;
        }

    enum_coverable : (l : Layout) → IsEnumed dl repr (discriminants_of all) variants (Ok l) → l.uninhabited ≡ false → VariantsCoverable dl all variants →
        IsCoverable dl (enum repr all) (placed_enum dl repr (discriminants_of all) variants l)
    enum_coverable l h flag own =
        enum_as l l.variants (enumed_shaped dl law repr (discriminants_of all) variants none long whole l h) (facts_by (strategy_of true repr (layouts_of variants)) refl l h) flag own

  -- ---- coroutines

  module _ (ts : Trees) (ps : List Placed) (own : AreCoverable dl ts ps) where
    local_at : (us : Trees) (qs : List Placed) (k : ℕ) → AreCoverable dl us qs → k < length qs → ((place : Option ℕ) → IsValueAt dl us k (placed_in qs k) (covering_value (placed_in qs k) place)) × Covers (placed_in qs k)
    local_at us [] k h lt = absurd (omega (arith, lt))
    local_at no_trees (q ∷ qs) k h lt = absurd h
    local_at (more_trees t us) (q ∷ qs) zero h lt = (h.0.value, h.0.covers)
    local_at (more_trees t us) (q ∷ qs) (suc k) h lt = local_at us qs k h.1 (omega (arith, lt))

    state_values : (ks : List ℕ) (parts : Parts) (place : Option ℕ) → All (λ k. k < length ps) ks → fields_of parts ≡ map (placed_in ps) ks → EachAt (IsValueAt dl ts) ks parts (covering_values parts place)
    state_values [] no_parts place known same = tt
    state_values [] (part o p parts) place known same = absurd (cc)
    state_values (k ∷ ks) no_parts place known same = absurd (cc)
    state_values (k ∷ ks) (part o p parts) place known same =
        let first : placed_in ps k ≡ p = cc in
        let rest : fields_of parts ≡ map (placed_in ps) ks = cc in
        let at : Option ℕ = place_in place o (size_of p) in (
          subst (λ q. IsValueAt dl ts k q (covering_value q at)) first ((local_at ts ps k own (All-head (λ k. k < length ps) k ks known)).0 at),
          state_values ks parts place (All-tail (λ k. k < length ps) k ks known) rest,
        )

    state_cover : (ks : List ℕ) (parts : Parts) → All (λ k. k < length ps) ks → fields_of parts ≡ map (placed_in ps) ks → PartsCover parts
    state_cover ks no_parts known same = tt
    state_cover [] (part o p parts) known same = absurd (cc)
    state_cover (k ∷ ks) (part o p parts) known same =
        let first : placed_in ps k ≡ p = cc in
        let rest : fields_of parts ≡ map (placed_in ps) ks = cc in
        (subst Covers first (local_at ts ps k own (All-head (λ k. k < length ps) k ks known)).1, state_cover ks parts (All-tail (λ k. k < length ps) k ks known) rest)

    states_values : (states : List (List ℕ)) (tagged_variants : TaggedVariants) (i : ℕ) (place : Option ℕ) → All (All (λ k. k < length ps)) states → HaveLocals ps states tagged_variants → i < length states →
        EachAt (IsValueAt dl ts) (get_or states i []) (parts_of_tagged_variant tagged_variants i) (tagged_variant_values tagged_variants i place)
    states_values [] tagged_variants i place known held lt = absurd (omega (arith, lt))
    states_values (s ∷ states) nothing_tagged i place known held lt = absurd held
    states_values (s ∷ states) (tagged_variant code layout mark parts tagged_variants) zero place known held lt = state_values s parts place (All-head (All (λ k. k < length ps)) s states known) held.0
    states_values (s ∷ states) (tagged_variant code layout mark parts tagged_variants) (suc i) place known held lt =
        states_values states tagged_variants i place (All-tail (All (λ k. k < length ps)) s states known) held.1 (omega (arith, lt))

    states_cover : (states : List (List ℕ)) (tagged_variants : TaggedVariants) → All (All (λ k. k < length ps)) states → HaveLocals ps states tagged_variants → TaggedVariantsCover tagged_variants
    states_cover states nothing_tagged known held = tt
    states_cover [] (tagged_variant code layout mark parts tagged_variants) known held = absurd held
    states_cover (s ∷ states) (tagged_variant code layout mark parts tagged_variants) known held =
        (state_cover s parts (All-head (All (λ k. k < length ps)) s states known) held.0, states_cover states tagged_variants (All-tail (All (λ k. k < length ps)) s states known) held.1)

    states_count : (states : List (List ℕ)) (tagged_variants : TaggedVariants) → HaveLocals ps states tagged_variants → tagged_variant_count tagged_variants ≡ length states
    states_count [] nothing_tagged held = refl
    states_count [] (tagged_variant code layout mark parts tagged_variants) held = absurd held
    states_count (s ∷ states) nothing_tagged held = absurd held
    states_count (s ∷ states) (tagged_variant code layout mark parts tagged_variants) held = let rest = states_count states tagged_variants held.1 in omega (arith, rest)

  -- ---- each kind

  -- what is laid out unflagged isn't flagged
  clear : (t : Tree) (p : Placed) → IsLaying dl t (Ok p) → IsInhabited dl t → (layout_of p).uninhabited ≡ false
  clear t p h some = let same : some.0 ≡ p = back (one_answer dl t (Ok some.0) (Ok p) some.1 h) in ap (λ q. (layout_of q).uninhabited) (sym same) ∙ some.2
    where
      back : {a b : Placed} → ◌≡◌ {A = Result Placed LayError} (Ok a) (Ok b) → a ≡ b
      back e = cc

  scalar_coverable : (s : Scalar) (p : Placed) → Ok p ≡ scalar_answer dl s → IsCoverable dl (scalar s) p
  scalar_coverable s p e =
      let one = no_fault dl law (scalar_fault dl s) (Ok (one_scalar dl s)) p e in
      let same : one_scalar dl s ≡ p = cc in
      subst (IsCoverable dl (scalar s)) same
      (record { value = λ place. number_there dl s (faultless dl s one.0); covers = covers_scalar (scalar_layout 0 dl s) s; locals = tt })

  pair_coverable : (a b : Scalar) (p : Placed) → Ok p ≡ pair_answer dl a b → IsCoverable dl (pair a b) p
  pair_coverable a b p e =
      let one = no_fault dl law (scalar_fault dl a) (unless (scalar_fault dl b) (if nat_lt (pair_size dl a b) (size_bound dl) then Ok (two_scalars dl a b) else Err SizeOverflow)) p e in
      let two = no_fault dl law (scalar_fault dl b) (if nat_lt (pair_size dl a b) (size_bound dl) then Ok (two_scalars dl a b) else Err SizeOverflow) p one.1 in
      let fits = fitted dl law (nat_lt (pair_size dl a b) (size_bound dl)) (two_scalars dl a b) p SizeOverflow two.1 in
      subst (IsCoverable dl (pair a b)) (sym fits.1)
      (record {
        value = λ place. (number_there dl a (faultless dl a one.0), number_there dl b (faultless dl b two.0));
        covers = covers_pair (pair_layout 0 0 1 dl a b) 0 (second_offset dl a b) (scalar_layout 0 dl a) (scalar_layout 0 dl b) a b;
        locals = tt;
      })

  elements_coverable : (t : Tree) (layout : Layout) (count : ℕ) (q : Placed) → IsCoverable dl t q → IsCoverable dl (array count t) (elements layout count q)
  elements_coverable t layout count q own = record {
    value = λ place. (each_count dl q 0 count place, each_is dl (IsValueOf dl t q) q 0 count place own.value);
    covers = covers_elements layout count q own.covers;
    locals = own.locals;
  }

  vector_coverable : (t : Tree) (layout : Layout) (lanes : ℕ) (packed : Bool) (q : Placed) → IsCoverable dl t q → IsCoverable dl (vector lanes packed t) (placed_vector layout (lanes_of lanes q))
  vector_coverable t layout lanes packed q own = record {
    value = λ place. (each_count dl q 0 lanes place, each_is dl (IsValueOf dl t q) q 0 lanes place own.value);
    covers = covers_vector layout (elements_layout 0 true lanes (layout_of q)) lanes q (covers_elements (elements_layout 0 true lanes (layout_of q)) lanes q own.covers);
    locals = own.locals;
  }

  fields_coverable : (repr : ReprOptions) (always_sized : Bool) (order : Option (List ℕ)) (ts : Trees) (ps : List Placed) (layout : Layout) → length (listed_offsets layout.fields) ≡ length ps → AreCoverable dl ts ps →
      IsCoverable dl (struct repr always_sized order ts) (placed_fields repr ps layout)
  fields_coverable repr always_sized order ts ps layout count own = record {
    value = λ place. fields_values dl ts (listed_offsets layout.fields) ps place (omega (arith, count)) own;
    covers = covers_fields layout (mark_of false repr) (parts_at (listed_offsets layout.fields) ps) (fields_cover dl ts (listed_offsets layout.fields) ps own);
    locals = each_local dl ts ps own;
  }

  zero_bytes : (n : ℕ) → AreBytes (replicate n 0)
  zero_bytes zero = All-nil (λ b. b < 256)
  zero_bytes (suc n) = All-cons (λ b. b < 256) 0 (replicate n 0) (omega arith) (zero_bytes n)

  union_coverable : (repr : ReprOptions) (ts : Trees) (ps : List Placed) (layout : Layout) → AreCoverable dl ts ps → IsCoverable dl (union repr ts) (placed_together repr ps layout)
  union_coverable repr ts ps layout own =
      let count : ℕ = count_picked (is_data_place (placed_together repr ps layout)) 0 layout.size in
      record {
        value = λ place. (zero_bytes count, length-replicate count 0);
        covers = covers_union layout (mark_of false repr) (parts_at_0 ps);
        locals = each_local dl ts ps own;
      }

  coroutine_coverable : (prefix locals : Trees) (states : List (List ℕ)) (conflicts : List (ℕ × ℕ)) (pres ps : List Placed) → coroutine_fault (length pres) (length ps) states conflicts ≡ None →
      All (IsWhole dl) pres → All (IsWhole dl) ps → (tag : Scalar) → IsStateTag (length states) tag → (layout : Layout) → IsStated dl pres tag (one_scalar dl tag) ps states conflicts (Ok layout) →
      AreCoverable dl prefix pres → AreCoverable dl locals ps → IsCoverable dl (coroutine prefix locals states conflicts) (placed_coroutine dl pres tag ps states layout)
  coroutine_coverable prefix locals states conflicts pres ps none first others tag is_state_tag layout stated own_prefix own_locals =
      let before = whole_lawful dl pres first in
      let there = whole_lawful dl ps others in
      let count = stated_offsets dl law pres ps states conflicts before there none tag is_state_tag layout stated in
      let held = coroutine_has dl law pres ps states conflicts before there tag is_state_tag layout stated in
      let known = states_within (length pres) (length ps) states conflicts none in
      let tagged_variants : TaggedVariants = tagged_variants_at layout Plain 0 (layouts_in layout.variants) (source_order (length states)) (map (map (placed_in ps)) states) in
      let os : List ℕ = listed_offsets layout.fields in
      let below : (place : Option ℕ) → tagged_variant_for Direct tagged_variants place < length states =
      λ place. tagged_variant_below Direct tagged_variants place (length states) (some_state (length pres) (length ps) states conflicts none) (states_count locals ps own_locals states tagged_variants held) in
      record {
        value = λ place. (
          fields_values dl prefix os pres place (omega (arith, count)) own_prefix,
          below place,
          states_values locals ps own_locals states tagged_variants (tagged_variant_for Direct tagged_variants place) place known held (below place),
        );
        covers = covers_states layout (parts_at os pres) (state_tag_offset layout (length pres)) (one_scalar dl tag) tagged_variants (fields_cover dl prefix os pres own_prefix) (states_cover locals ps own_locals states tagged_variants known held);
        locals = (each_local dl prefix pres own_prefix, each_local dl locals ps own_locals, have_values dl locals ps own_locals);
      }

  -- ---- each type

  mutual
    pub coverable : (t : Tree) (p : Placed) → IsLaying dl t (Ok p) → EachInhabited dl t → IsCoverable dl t p
    coverable (scalar s) p h some = scalar_coverable s p h
    coverable (pair a b) p h some = pair_coverable a b p h
    coverable never p h some =
        let same : placed_never (never_layout dl) Never ≡ p = cc in
        absurd (true≢false (ap (λ q. (layout_of q).uninhabited) same ∙ clear never p h some))
    coverable unit p h some =
        let same : fields (unit_layout 0 dl true) Unit no_parts ≡ p = cc in
        subst (IsCoverable dl unit) same (record { value = λ place. tt; covers = covers_fields (unit_layout 0 dl true) Unit no_parts tt; locals = tt })
    coverable (array count element) p (inl f) some = absurd (cc f.2)
    coverable (array count element) p (inr (q, there, e)) some =
        subst (IsCoverable dl (array count element)) (elements_there (nat_lt (size_of q * count) (size_bound dl)) count (elements_layout 0 true count (layout_of q)) q p e)
        (elements_coverable element (elements_layout 0 true count (layout_of q)) count q (coverable element q there some.0))
    coverable (vector lanes packed element) p (inl f) some = absurd (cc f.2)
    coverable (vector lanes packed element) p (inr (q, there, e)) some =
        let found = placed_back dl law (λ layout. placed_vector layout (lanes_of lanes q)) (named (simd_answer {H = Layout} (λ l. l) 0 0 dl (layout_of q) lanes packed)) p e in
        subst (IsCoverable dl (vector lanes packed element)) found.2 (vector_coverable element found.0 lanes packed q (coverable element q there some.0))
    coverable (struct repr always_sized order all) p (inl f) some = absurd (cc f.2)
    coverable (struct repr always_sized None all) p (inr (ps, there, answer)) some =
        let found = laid_by (fields_fault repr ps) (IsLaidList dl repr (kind_of always_sized ps) (map layout_of ps)) (placed_fields repr ps) p answer in
        let count = listed_count dl repr always_sized ps (all_whole dl law all ps there) found.0 found.1 in
        subst (IsCoverable dl (struct repr always_sized None all)) found.2 (fields_coverable repr always_sized None all ps found.0 count (are_coverable all ps there some.0))
    coverable (struct repr always_sized (Some order) all) p (inr (ps, there, answer)) some =
        let kind = kind_of always_sized ps in
        let found = laid_by (ordered_fault repr ps) (IsListedInOrder dl (with_randomize_flag repr) kind order (map layout_of ps)) (placed_fields repr ps) p answer in
        let count = ordered_count dl (with_randomize_flag repr) kind order ps found.0 found.1 in
        subst (IsCoverable dl (struct repr always_sized (Some order) all)) found.2 (fields_coverable repr always_sized (Some order) all ps found.0 count (are_coverable all ps there some.0))
    coverable (union repr all) p (inl f) some = absurd (cc f.2)
    coverable (union repr all) p (inr (ps, there, answer)) some =
        let found = laid_by (fields_fault repr ps) (IsUnited dl repr (map layout_of ps)) (placed_together repr ps) p answer in
        subst (IsCoverable dl (union repr all)) found.2 (union_coverable repr all ps found.0 (are_coverable all ps there some.0))
    coverable (enum repr all) p (inl f) some = absurd (cc f.2)
    coverable (enum repr all) p (inr (variants, there, answer)) some =
        let found = laid_by (enum_fault dl repr (discriminants_of all) variants) (IsEnumed dl repr (discriminants_of all) variants) (placed_enum dl repr (discriminants_of all) variants) p answer in
        let flag : (layout_of (placed_enum dl repr (discriminants_of all) variants found.0)).uninhabited ≡ false = ap (λ q. (layout_of q).uninhabited) found.2 ∙ clear (enum repr all) p (inr (variants, there, answer)) some.1 in
        subst (IsCoverable dl (enum repr all)) found.2
        (enum_coverable repr all variants found.3 there found.0 found.1 (as_flagged found.0 found.0.variants flag) (variants_coverable all variants there some.0))
      where
        as_flagged : (l : Layout) (vs : LayoutVariants ℕ ℕ) → (layout_of (placed_variants dl repr (discriminants_of all) variants l vs)).uninhabited ≡ false → l.uninhabited ≡ false
        as_flagged l Empty e = e
        as_flagged l (Single i) e = e
        as_flagged l (Multiple tag encoding field layouts) e = e
    coverable (coroutine prefix locals states conflicts) p (inl f) some = absurd (cc f.2)
    coverable (coroutine prefix locals states conflicts) p (inr (pres, before, inl f)) some = absurd (cc f.2)
    coverable (coroutine prefix locals states conflicts) p (inr (pres, before, inr (ps, there, answer))) some =
        let found = coroutine_laid dl law pres ps states conflicts (coroutine_fault (length pres) (length ps) states conflicts) p answer in
        subst (IsCoverable dl (coroutine prefix locals states conflicts)) found.4
        (coroutine_coverable prefix locals states conflicts pres ps found.5 (all_whole dl law prefix pres before) (all_whole dl law locals ps there) found.0 found.1 found.2 found.3
        (are_coverable prefix pres before some.0) (are_coverable locals ps there some.1))

    are_coverable : (ts : Trees) (ps : List Placed) → AreLaying dl ts (Ok ps) → AreInhabited dl ts → AreCoverable dl ts ps
    are_coverable no_trees ps h some = let none : [] ≡ ps = cc in subst (AreCoverable dl no_trees) none tt
    are_coverable (more_trees t ts) ps (inl f) some = absurd (cc f.2)
    are_coverable (more_trees t ts) ps (inr (p, here, inl f)) some = absurd (cc f.2)
    are_coverable (more_trees t ts) ps (inr (p, here, inr (rest, later, e))) some =
        let same : p ∷ rest ≡ ps = cc in
        subst (AreCoverable dl (more_trees t ts)) same (coverable t p here some.0, are_coverable ts rest later some.1)

    variants_coverable : (all : Variants) (variants : List (List Placed)) → VariantsLaying dl all (Ok variants) → VariantsInhabited dl all → VariantsCoverable dl all variants
    variants_coverable no_variants variants h some = let none : [] ≡ variants = cc in subst (VariantsCoverable dl no_variants) none tt
    variants_coverable (more_variants d ts others) variants (inl f) some = absurd (cc f.2)
    variants_coverable (more_variants d ts others) variants (inr (ps, here, inl f)) some = absurd (cc f.2)
    variants_coverable (more_variants d ts others) variants (inr (ps, here, inr (rest, later, e))) some =
        let same : ps ∷ rest ≡ variants = cc in
        subst (VariantsCoverable dl (more_variants d ts others)) same (are_coverable ts ps here some.0, variants_coverable others rest later some.1)
