-- Where each type in a tree has a value, none of them is laid out flagged as having none.
use Rattle.std.proofs.Common.{◌≡◌, ℕ, ◌*◌, ◌<◌, All, Bool, true, false, Some, None, Ok, Err, List, [], ◌∷◌, length, map, inl, inr, arith, refl, sym, ap, ◌∙◌, subst}
use Rattle.std.specs.Prelude.{◌==◌, ◌&&◌, ◌||◌, not, if◌then◌else◌, nat_lt}
use Rattle.std.specs.List.{list_all}
use Rattle.std.proofs.lemmas.List.{length-map}
use Rattle.std.proofs.lemmas.List.Elements.{All-cons, All-head, All-nil, All-tail}
use Rattle.std.proofs.lemmas.Bool.{true≢false}
use Rattle.abi_base.specs.declared.data_layout.TargetDataLayout.{TargetDataLayout}
use Rattle.abi_base.specs.declared.niche_optimizations.NicheOptimizations.TheVariants.{Enabled}
use Rattle.abi_base.specs.DataLayout.{IsLawfulDataLayout, size_bound}
use Rattle.abi_scalar.specs.declared.repr.ReprOptions.{ReprOptions}
use Rattle.abi_scalar.specs.declared.scalar.Scalar.{Scalar}
use Rattle.abi_scalar.specs.Pair.{pair_size}
use Rattle.abi_scalar.specs.Simple.{unit_layout}
use Rattle.abi_univariant.specs.Array.{elements_layout}
use Rattle.abi_univariant.specs.Simd.{simd_answer}
use Rattle.abi_calc.specs.declared.enums.strategy.EnumStrategy.{EnumStrategy}
use Rattle.abi_calc.specs.declared.enums.strategy.EnumStrategy.TheVariants.{NoValue, OneList, Several}
use Rattle.abi_calc.specs.Enums.Answer.{IsTypeAnswer}
use Rattle.abi_calc.specs.Enums.EnumStrategy.{has_no_value, strategy_of, variant_at}
use Rattle.abi_calc.proofs.EnumLemmas.Deep.{enum_flag}
use Rattle.abi_tree.specs.declared.mark.Mark.TheVariants.{Unit}
use Rattle.abi_tree.specs.Tree.{Tree, scalar, pair, never, unit, array, vector, struct, union, enum, coroutine, Trees, no_trees, more_trees, Variants, no_variants, more_variants}
use Rattle.abi_tree.specs.Placed.{Placed, layout_of, size_of, fields, no_parts, vector as placed_vector}
use Rattle.abi_scalar.specs.Layout.{Layout}
use Rattle.abi_tree.specs.Value.{Value, number, two, list, variant, state, bytes}
use Rattle.abi_tree.specs.Values.{HasValue, IsValueOf}
use Rattle.rustc_abi.specs.Enums.{IsEnumed, IsTagIntegerAnswer, discriminants_of, layouts_of, numbered_from}
use Rattle.rustc_abi.specs.Error.{named}
use Rattle.rustc_abi.specs.Inhabited.{AreInhabited, EachHasValue, EachInhabited, HaveValuesEach, VariantsHaveValues, VariantsInhabited}
use Rattle.rustc_abi.specs.Laying.{AreLaying, IsLaying, IsLaidList, IsListedInOrder, IsUnited, VariantsLaying, coroutine_fault, enum_fault, fields_fault, kind_of, lanes_of, one_scalar, ordered_fault, pair_answer, placed_enum, placed_fields, placed_together, with_randomize_flag, scalar_answer, two_scalars, unless}
use Rattle.rustc_abi.specs.ScalarFault.{scalar_fault}
use Rattle.rustc_abi.specs.declared.error.LayError.TheVariants.{SizeOverflow}
use Rattle.rustc_abi.proofs.Coroutines.AddedCoroutineLemmas.{coroutine_flag}
use Rattle.rustc_abi.proofs.Coroutines.StateFlagLemmas.{IsFlaggedBy, has_flag}
use Rattle.rustc_abi.proofs.Enums.PresentLemmas.{all_absent}
use Rattle.rustc_abi.proofs.Sizes.EnumSizeLemmas.{fact_at}
use Rattle.rustc_abi.proofs.Sizes.SizeLemmas.{elements_there}
use Rattle.rustc_abi.proofs.Trees.LaidLemmas.{IsWhole, aligns_of, all_whole, coroutine_laid, each_lawful, each_of, fitted, laid_by, layout_of-variants, no_fault, numbers_for, placed_back, tags_of, variants_whole, whole_lawful}
use Rattle.rustc_abi.proofs.Unions.CalcLemmas.{united_layout, vector_made}

-- it isn't flagged
abbrev IsClear : Placed → Type 0
IsClear p = (layout_of p).uninhabited ≡ false

none_of : (ps : List Placed) → All IsClear ps → has_flag (map layout_of ps) ≡ false
none_of [] h = refl
none_of (p ∷ ps) h = ap (λ b. b || has_flag (map layout_of ps)) (All-head IsClear p ps h) ∙ none_of ps (All-tail IsClear p ps h)

-- some variant has no flagged field
some_clear : (variants : List (List Placed)) → 0 < length variants → All (All IsClear) variants → list_all (λ fields. has_no_value fields) (map (map layout_of) variants) ≡ false
some_clear [] some h = absurd (omega (arith, some))
some_clear (ps ∷ variants) some h =
    ap (λ b. b && list_all (λ fields. has_no_value fields) (map (map layout_of) variants)) (none_of ps (All-head (All IsClear) ps variants h))

-- a coroutine isn't flagged where no prefix field and no local is
coroutine_clear : (pres ps : List Layout) (flag : Bool) → IsFlaggedBy pres ps flag → has_flag pres ≡ false → has_flag ps ≡ false → flag ≡ false
coroutine_clear pres ps flag h first others = h.is ∙ ap (λ b. b || h.other) first ∙ by h.other refl
  where
    by : (b : Bool) → h.other ≡ b → h.other ≡ false
    by true e = absurd (true≢false (sym (h.of_local e) ∙ others))
    by false e = e

module _ (dl : TargetDataLayout) (law : IsLawfulDataLayout dl) where
  no_never : (p : Placed) (v : Value) → IsValueOf dl never p v → ⊥
  no_never p (number n) h = h
  no_never p (two n m) h = h
  no_never p (list vs) h = h
  no_never p (variant i vs) h = h
  no_never p (state i ps vs) h = h
  no_never p (bytes content) h = h

  -- an enum with a value has a variant
  some_variant : (repr : ReprOptions) (all : Variants) → HasValue dl (enum repr all) → 0 < length (discriminants_of all)
  some_variant repr (more_variants d ts others) h = omega arith
  some_variant repr no_variants h = absurd (none h.1 h.2)
    where
      none : (v : Value) → IsValueOf dl (enum repr no_variants) h.0 v → ⊥
      none (number n) k = k
      none (two n m) k = k
      none (list vs) k = k
      none (variant i vs) k = k
      none (state i ps vs) k = k
      none (bytes content) k = k

  -- ---- each kind

  scalar_clear : (s : Scalar) (p : Placed) → Ok p ≡ scalar_answer dl s → IsClear p
  scalar_clear s p e =
      let one = no_fault dl law (scalar_fault dl s) (Ok (one_scalar dl s)) p e in
      let same : one_scalar dl s ≡ p = cc in
      subst IsClear same refl

  pair_clear : (a b : Scalar) (p : Placed) → Ok p ≡ pair_answer dl a b → IsClear p
  pair_clear a b p e =
      let one = no_fault dl law (scalar_fault dl a) (unless (scalar_fault dl b) (if nat_lt (pair_size dl a b) (size_bound dl) then Ok (two_scalars dl a b) else Err SizeOverflow)) p e in
      let two = no_fault dl law (scalar_fault dl b) (if nat_lt (pair_size dl a b) (size_bound dl) then Ok (two_scalars dl a b) else Err SizeOverflow) p one.1 in
      let fits = fitted dl law (nat_lt (pair_size dl a b) (size_bound dl)) (two_scalars dl a b) p SizeOverflow two.1 in
      subst IsClear (sym fits.1) refl

  module _ (repr : ReprOptions) (numbers : List ℕ) (variants : List (List Placed)) (none : enum_fault dl repr numbers variants ≡ None)
      (long : length numbers ≡ length variants) (whole : All (All (IsWhole dl)) variants) (some : 0 < length variants) (own : All (All IsClear) variants) where
    abbrev Answers : EnumStrategy → Layout → Type 0
    Answers strategy l =
        IsTypeAnswer layout_of (λ i. i) (λ i. i) (λ i. i) (λ i. i) dl repr variants true true Enabled (IsTagIntegerAnswer dl repr) (λ items. items ≡ numbered_from 0 numbers) strategy (Ok l)

    clear_by : (strategy : EnumStrategy) → strategy_of true repr (layouts_of variants) ≡ strategy → (l : Layout) → Answers strategy l → l.uninhabited ≡ false
    clear_by NoValue way l h =
        let first = all_absent repr (layouts_of variants) way 0 (omega (arith, some, length-map variants (map layout_of))) in
        absurd (true≢false (sym first ∙ first_clear variants some own))
      where
        first_clear : (vs : List (List Placed)) → 0 < length vs → All (All IsClear) vs → has_no_value (variant_at (layouts_of vs) 0) ≡ false
        first_clear [] some h = absurd (omega (arith, some))
        first_clear (ps ∷ vs) some h = none_of ps (All-head (All IsClear) ps vs h)
    clear_by (OneList i) way l h =
        ap (λ (m : Layout). m.uninhabited) h.2 ∙ h.1.2.uninhabited ∙ none_of (variant_at variants i) (fact_at (All IsClear) (All-nil IsClear) variants i own)
    clear_by Several way l h =
        enum_flag layout_of dl law repr (IsTagIntegerAnswer dl repr) variants (numbered_from 0 numbers) (aligns_of dl law repr numbers variants none long) (each_lawful dl variants whole) some
        (each_of dl law repr numbers variants none long) (tags_of dl law repr numbers variants none long) l h
        ∙ some_clear variants some own

    enum_clear : (l : Layout) → IsEnumed dl repr numbers variants (Ok l) → IsClear (placed_enum dl repr numbers variants l)
    enum_clear l h = ap (λ (m : Layout). m.uninhabited) (layout_of-variants dl repr numbers variants l l.variants) ∙ clear_by (strategy_of true repr (layouts_of variants)) refl l h

  -- ---- each type

  mutual
    pub each_inhabited : (t : Tree) (p : Placed) → IsLaying dl t (Ok p) → EachHasValue dl t → EachInhabited dl t × IsClear p
    each_inhabited (scalar s) p h have = let clear = scalar_clear s p h in ((p, h, clear), clear)
    each_inhabited (pair a b) p h have = let clear = pair_clear a b p h in ((p, h, clear), clear)
    each_inhabited never p h have = absurd (no_never have.0 have.1 have.2)
    each_inhabited unit p h have =
        let same : fields (unit_layout 0 dl true) Unit no_parts ≡ p = cc in
        let clear : IsClear p = subst IsClear same refl in
        ((p, h, clear), clear)
    each_inhabited (array count element) p (inl f) have = absurd (cc f.2)
    each_inhabited (array count element) p (inr (q, there, e)) have =
        let own = each_inhabited element q there have.0 in
        let same = elements_there (nat_lt (size_of q * count) (size_bound dl)) count (elements_layout 0 true count (layout_of q)) q p e in
        let clear : IsClear p = subst IsClear same (ap (λ b. b && not (count == 0)) own.1) in
        ((own.0, (p, inr (q, there, e), clear)), clear)
    each_inhabited (vector lanes packed element) p (inl f) have = absurd (cc f.2)
    each_inhabited (vector lanes packed element) p (inr (q, there, e)) have =
        let own = each_inhabited element q there have.0 in
        let found = placed_back dl law (λ layout. placed_vector layout (lanes_of lanes q)) (named (simd_answer {H = Layout} (λ l. l) 0 0 dl (layout_of q) lanes packed)) p e in
        let made = vector_made dl (layout_of q) lanes packed found.0 found.1 in
        let clear : IsClear p = subst IsClear found.2 made.inhabited in
        ((own.0, (p, inr (q, there, e), clear)), clear)
    each_inhabited (struct repr always_sized order all) p (inl f) have = absurd (cc f.2)
    each_inhabited (struct repr always_sized None all) p (inr (ps, there, answer)) have =
        let own = are_inhabited all ps there have.0 in
        let found = laid_by (fields_fault repr ps) (IsLaidList dl repr (kind_of always_sized ps) (map layout_of ps)) (placed_fields repr ps) p answer in
        let clear : IsClear p = subst IsClear found.2 (found.1.2.uninhabited ∙ none_of ps own.1) in
        ((own.0, (p, inr (ps, there, answer), clear)), clear)
    each_inhabited (struct repr always_sized (Some order) all) p (inr (ps, there, answer)) have =
        let own = are_inhabited all ps there have.0 in
        let kind = kind_of always_sized ps in
        let found = laid_by (ordered_fault repr ps) (IsListedInOrder dl (with_randomize_flag repr) kind order (map layout_of ps)) (placed_fields repr ps) p answer in
        let clear : IsClear p = subst IsClear found.2 (found.1.1.uninhabited ∙ none_of ps own.1) in
        ((own.0, (p, inr (ps, there, answer), clear)), clear)
    each_inhabited (union repr all) p (inl f) have = absurd (cc f.2)
    each_inhabited (union repr all) p (inr (ps, there, answer)) have =
        let own = are_inhabited all ps there have.0 in
        let found = laid_by (fields_fault repr ps) (IsUnited dl repr (map layout_of ps)) (placed_together repr ps) p answer in
        let made = united_layout dl repr (map layout_of ps) found.0 found.1 in
        let clear : IsClear p = subst IsClear found.2 (ap (λ (l : Layout). l.uninhabited) made.1) in
        ((own.0, (p, inr (ps, there, answer), clear)), clear)
    each_inhabited (enum repr all) p (inl f) have = absurd (cc f.2)
    each_inhabited (enum repr all) p (inr (variants, there, answer)) have =
        let own = variants_inhabited all variants there have.0 in
        let found = laid_by (enum_fault dl repr (discriminants_of all) variants) (IsEnumed dl repr (discriminants_of all) variants) (placed_enum dl repr (discriminants_of all) variants) p answer in
        let long = numbers_for dl law all variants there in
        let some : 0 < length variants = omega (arith, long, some_variant repr all have.1) in
        let clear : IsClear p = subst IsClear found.2 (enum_clear repr (discriminants_of all) variants found.3 long (variants_whole dl law all variants there) some own.1 found.0 found.1) in
        ((own.0, (p, inr (variants, there, answer), clear)), clear)
    each_inhabited (coroutine prefix locals states conflicts) p (inl f) have = absurd (cc f.2)
    each_inhabited (coroutine prefix locals states conflicts) p (inr (pres, before, inl f)) have = absurd (cc f.2)
    each_inhabited (coroutine prefix locals states conflicts) p (inr (pres, before, inr (ps, there, answer))) have =
        let first = are_inhabited prefix pres before have.0 in
        let others = are_inhabited locals ps there have.1 in
        let found = coroutine_laid dl law pres ps states conflicts (coroutine_fault (length pres) (length ps) states conflicts) p answer in
        let flag = coroutine_flag dl law pres ps states conflicts found.0 found.5 found.1 (whole_lawful dl pres (all_whole dl law prefix pres before)) (whole_lawful dl ps (all_whole dl law locals ps there)) found.2 found.3 in
        let clear : IsClear p = subst IsClear found.4 (coroutine_clear (map layout_of pres) (map layout_of ps) found.2.uninhabited flag (none_of pres first.1) (none_of ps others.1)) in
        ((first.0, others.0, (p, inr (pres, before, inr (ps, there, answer)), clear)), clear)

    are_inhabited : (ts : Trees) (ps : List Placed) → AreLaying dl ts (Ok ps) → HaveValuesEach dl ts → AreInhabited dl ts × All IsClear ps
    are_inhabited no_trees ps h have = let none : [] ≡ ps = cc in (tt, subst (All IsClear) none (All-nil IsClear))
    are_inhabited (more_trees t ts) ps (inl f) have = absurd (cc f.2)
    are_inhabited (more_trees t ts) ps (inr (p, here, inl f)) have = absurd (cc f.2)
    are_inhabited (more_trees t ts) ps (inr (p, here, inr (rest, later, e))) have =
        let same : p ∷ rest ≡ ps = cc in
        let own = each_inhabited t p here have.0 in
        let more = are_inhabited ts rest later have.1 in
        ((own.0, more.0), subst (All IsClear) same (All-cons IsClear p rest own.1 more.1))

    variants_inhabited : (all : Variants) (variants : List (List Placed)) → VariantsLaying dl all (Ok variants) → VariantsHaveValues dl all → VariantsInhabited dl all × All (All IsClear) variants
    variants_inhabited no_variants variants h have = let none : [] ≡ variants = cc in (tt, subst (All (All IsClear)) none (All-nil (All IsClear)))
    variants_inhabited (more_variants d ts others) variants (inl f) have = absurd (cc f.2)
    variants_inhabited (more_variants d ts others) variants (inr (ps, here, inl f)) have = absurd (cc f.2)
    variants_inhabited (more_variants d ts others) variants (inr (ps, here, inr (rest, later, e))) have =
        let same : ps ∷ rest ≡ variants = cc in
        let own = are_inhabited ts ps here have.0 in
        let more = variants_inhabited others rest later have.1 in
        ((own.0, more.0), subst (All (All IsClear)) same (All-cons (All IsClear) ps rest own.1 more.1))
