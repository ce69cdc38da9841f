-- What the layout of an enum with one variant, or with none, keeps of its variants' values.
use Rattle.std.proofs.Common.{◌≡◌, ◌≢◌, ℕ, zero, suc, ◌<◌, List, [], ◌∷◌, map, length, Option, Some, None, Bool, true, false, arith, refl, sym, subst, ◌∙◌}
use Rattle.std.specs.Prelude.{MatchBool, ◌||◌, ◌==◌, IfSome}
use Rattle.std.proofs.lemmas.Bool.{eqb-true, eqb-false, ltb-true}
use Rattle.abi_base.specs.declared.data_layout.TargetDataLayout.{TargetDataLayout}
use Rattle.abi_scalar.specs.declared.niche.Niche.{Niche}
use Rattle.abi_scalar.specs.declared.repr.ReprOptions.{ReprOptions}
use Rattle.abi_scalar.specs.Range.{IsIn}
use Rattle.abi_scalar.specs.Niche.{niche_size}
use Rattle.abi_scalar.specs.Lawful.{IsLawfulLayout}
use Rattle.abi_scalar.specs.Simple.{never_layout}
use Rattle.abi_calc.specs.Enums.EnumStrategy.{variant_at, has_no_value}
use Rattle.abi_tree.specs.Tree.{Trees, Tree, Variants, struct, enum, no_trees, more_trees, no_variants, more_variants}
use Rattle.abi_tree.specs.Values.{LocalsOfVariants, LocalsOfEach, VectorsOfVariants, VectorsOfEach, VectorsHaveValues, AreValuesOfVariant, AreValuesOf, IsValueOf}
use Rattle.abi_tree.specs.Mark.{mark_of}
use Rattle.abi_tree.specs.Placed.{Parts, no_parts, Placed, layout_of, first_part, more_parts, size_of, single, fields, never}
use Rattle.abi_scalar.specs.Layout.{Layout}
use Rattle.abi_tree.specs.Value.{Values, Value, number, two, list, variant, state, bytes, no_values, more_values}
use Rattle.rustc_abi.specs.Adding.{VariantsFit, EachFits}
use Rattle.rustc_abi.specs.Enums.{layouts_of}
use Rattle.abi_tree.specs.Faithful.{IsFlagTrue, IsFaithful, IsNicheTrue, AgreeOn, IsTrueOf}
use Rattle.abi_tree.specs.Fits.{Fits}
use Rattle.abi_tree.specs.Bytes.{AreBytes, number_of, bytes_at}
use Rattle.abi_tree.specs.Holding.{Holds}
use Rattle.rustc_abi.proofs.Values.AnywhereLemmas.{value_anywhere}

-- the fields of the variant with this index
abbrev pub fields_at : Variants → (index : ℕ) → Trees
fields_at no_variants i = no_trees
fields_at (more_variants d ts others) zero = ts
fields_at (more_variants d ts others) (suc i) = fields_at others i

module _ (dl : TargetDataLayout) where
  -- the locals of each variant's fields have values
  pub locals_at : (all : Variants) (i : ℕ) → LocalsOfVariants dl all → LocalsOfEach dl (fields_at all i)
  locals_at no_variants i locals = tt
  locals_at (more_variants d ts others) zero locals = locals.0
  locals_at (more_variants d ts others) (suc i) locals = locals_at others i locals.1

  pub vectors_at : (all : Variants) (i : ℕ) → VectorsOfVariants dl all → VectorsOfEach dl (fields_at all i)
  vectors_at no_variants i vectors = tt
  vectors_at (more_variants d ts others) zero vectors = vectors.0
  vectors_at (more_variants d ts others) (suc i) vectors = vectors_at others i vectors.1

  -- a variant that is there has its fields' values
  pub values_at : (all : Variants) (i : ℕ) (parts : Parts) (vs : Values) → AreValuesOfVariant dl all i parts vs → AreValuesOf dl (fields_at all i) parts vs
  values_at no_variants i parts vs h = absurd h
  values_at (more_variants d ts others) zero parts vs h = h
  values_at (more_variants d ts others) (suc i) parts vs h = values_at others i parts vs h

  pub values_from : (all : Variants) (variants : List (List Placed)) (i : ℕ) → i < length variants → VariantsFit dl all variants → (parts : Parts) (vs : Values) →
      AreValuesOf dl (fields_at all i) parts vs → AreValuesOfVariant dl all i parts vs
  values_from no_variants [] i short fits parts vs h = absurd (omega (arith, short))
  values_from no_variants (ps ∷ variants) i short fits parts vs h = absurd fits
  values_from (more_variants d ts others) [] i short fits parts vs h = absurd fits
  values_from (more_variants d ts others) (ps ∷ variants) zero short fits parts vs h = h
  values_from (more_variants d ts others) (ps ∷ variants) (suc i) short fits parts vs h = values_from others variants i (omega (arith, short)) fits.1 parts vs h

  -- the variant's fields fit
  pub fits_at : (all : Variants) (variants : List (List Placed)) (i : ℕ) → VariantsFit dl all variants → EachFits dl (fields_at all i) (variant_at variants i)
  fits_at no_variants [] i fits = tt
  fits_at no_variants (ps ∷ variants) i fits = absurd fits
  fits_at (more_variants d ts others) [] i fits = absurd fits
  fits_at (more_variants d ts others) (ps ∷ variants) zero fits = fits.0
  fits_at (more_variants d ts others) (ps ∷ variants) (suc i) fits = fits_at others variants i fits.1

  -- a type that is flagged has no value, however it is laid out
  none_anywhere : (t : Tree) (p q : Placed) (flag : Bool) → (layout_of p).uninhabited ≡ flag → flag ≡ true → IsFlagTrue dl t p → (v : Value) → IsValueOf dl t q v → ⊥
  none_anywhere t p q true e set h v is =
      let none : (v : Value) → IsValueOf dl t p v → ⊥ =
      subst (λ b. MatchBool b ((v : Value) → IsValueOf dl t p v → ⊥) (VectorsHaveValues dl t → (v : Value) × IsValueOf dl t p v)) e h in
      let found = value_anywhere dl t q p v is in none found.0 found.1
  none_anywhere t p q false e set h v is = absurd (cc)

  -- where one of two flags is set, one of both consequences holds
  neither : (first rest : Bool) → (first || rest) ≡ true → (first ≡ true → ⊥) → (rest ≡ true → ⊥) → ⊥
  neither true rest e a b = a refl
  neither false rest e a b = b e

  -- so have fields of which one is flagged
  none_of_fields : (ts : Trees) (ps : List Placed) → EachFits dl ts ps → LocalsOfEach dl ts → has_no_value (map layout_of ps) ≡ true → (parts : Parts) (vs : Values) → AreValuesOf dl ts parts vs → ⊥
  none_of_fields no_trees [] fits locals none parts vs h = cc
  none_of_fields no_trees (p ∷ ps) fits locals none parts vs h = fits
  none_of_fields (more_trees t ts) [] fits locals none parts vs h = fits
  none_of_fields (more_trees t ts) (p ∷ ps) fits locals none parts no_values h = h
  none_of_fields (more_trees t ts) (p ∷ ps) fits locals none parts (more_values v vs) h =
      neither (layout_of p).uninhabited (has_no_value (map layout_of ps)) none
      (λ set. none_anywhere t p (first_part parts) (layout_of p).uninhabited refl set (IsFaithful.flag (Fits.faithful fits.0 locals.0)) v h.0)
      (λ some. none_of_fields ts ps fits.1 locals.1 some (more_parts parts) vs h.1)

  -- so has a variant with such fields
  pub none_of_variant : (all : Variants) (variants : List (List Placed)) (i : ℕ) → VariantsFit dl all variants → LocalsOfVariants dl all → has_no_value (variant_at (layouts_of variants) i) ≡ true →
      (parts : Parts) (vs : Values) → AreValuesOfVariant dl all i parts vs → ⊥
  none_of_variant no_variants variants i fits locals none parts vs h = h
  none_of_variant (more_variants d ts others) [] i fits locals none parts vs h = fits
  none_of_variant (more_variants d ts others) (ps ∷ variants) zero fits locals none parts vs h = none_of_fields ts ps fits.0 locals.0 none parts vs h
  none_of_variant (more_variants d ts others) (ps ∷ variants) (suc i) fits locals none parts vs h = none_of_variant others variants i fits.1 locals.1 none parts vs h

  -- a variant with values is one of those that are laid out
  within_variants : (all : Variants) (variants : List (List Placed)) (i : ℕ) → VariantsFit dl all variants → (parts : Parts) (vs : Values) → AreValuesOfVariant dl all i parts vs → i < length variants
  within_variants no_variants variants i fits parts vs h = absurd h
  within_variants (more_variants d ts others) [] i fits parts vs h = absurd fits
  within_variants (more_variants d ts others) (ps ∷ variants) zero fits parts vs h = omega arith
  within_variants (more_variants d ts others) (ps ∷ variants) (suc i) fits parts vs h = omega (arith, within_variants others variants i fits.1 parts vs h)

  -- each variant but this one has a field without values
  abbrev pub OthersAbsent : List (List Placed) → (index : ℕ) → Type 0
  OthersAbsent variants index = (i : ℕ) → i < length variants → i ≢ index → has_no_value (variant_at (layouts_of variants) i) ≡ true

  module _ (repr : ReprOptions) (all : Variants) (variants : List (List Placed)) (index : ℕ) (layout : Layout) (parts : Parts) (fits : VariantsFit dl all variants)
      (short : index < length variants) (absent : OthersAbsent variants index) where
    abbrev whole : Placed
    whole = single layout (mark_of true repr) index parts

    module _ (locals : LocalsOfVariants dl all) (one : IsFaithful dl (struct repr true None (fields_at all index)) (fields layout (mark_of false repr) parts)) where
      -- a value is one of the variant that is left
      left : (i : ℕ) (vs : Values) → AreValuesOfVariant dl all i parts vs → i ≡ index
      left i vs h = by_test (i == index) refl
        where
          by_test : (same : Bool) → (i == index) ≡ same → i ≡ index
          by_test true e = eqb-true i index e
          by_test false e = absurd (none_of_variant all variants i fits locals (absent i (within_variants all variants i fits parts vs h) (eqb-false i index e)) parts vs h)

      of_index : (i : ℕ) (vs : Values) → AreValuesOfVariant dl all i parts vs → AreValuesOf dl (fields_at all index) parts vs
      of_index i vs h = values_at all index parts vs (subst (λ k. AreValuesOfVariant dl all k parts vs) (left i vs h) h)

      single_exists : (v : Value) → IsValueOf dl (enum repr all) whole v → (b : List ℕ) × AreBytes b × Holds dl.endian whole b v
      single_exists (variant i vs) h = let found = one.exists (list vs) (of_index i vs h) in (found.0, found.1, (found.2.0, left i vs h, found.2.1))
      single_exists (number n) h = absurd h
      single_exists (two n m) h = absurd h
      single_exists (list vs) h = absurd h
      single_exists (state i ps vs) h = absurd h
      single_exists (bytes content) h = absurd h

      -- bytes that hold a value hold its fields as a struct's
      as_struct : (b : List ℕ) (i : ℕ) (vs : Values) → Holds dl.endian whole b (variant i vs) → Holds dl.endian (fields layout (mark_of false repr) parts) b (list vs)
      as_struct b i vs h = (h.0, h.2)

      single_only : (b : List ℕ) (v : Value) → AreBytes b → Holds dl.endian whole b v → IsValueOf dl (enum repr all) whole v
      single_only b (variant i vs) are h =
          let held : AreValuesOf dl (fields_at all index) parts vs = one.only b (list vs) are (as_struct b i vs h) in
          subst (λ k. AreValuesOfVariant dl all k parts vs) (sym h.1) (values_from all variants index short fits parts vs held)
      single_only b (number n) are h = absurd h
      single_only b (two n m) are h = absurd h
      single_only b (list vs) are h = absurd h
      single_only b (state i ps vs) are h = absurd h
      single_only b (bytes content) are h = absurd h

      same_fields : (vs ws : Values) → list vs ≡ list ws → vs ≡ ws
      same_fields vs ws e = cc

      single_unique : (b : List ℕ) (v w : Value) → Holds dl.endian whole b v → Holds dl.endian whole b w → v ≡ w
      single_unique b (variant i vs) (variant j ws) h k =
          let fields_same : vs ≡ ws = same_fields vs ws (one.unique b (list vs) (list ws) (as_struct b i vs h) (as_struct b j ws k)) in
          let index_same : i ≡ j = h.1 ∙ sym k.1 in
          cc
      single_unique b (variant i vs) _ h k = absurd k
      single_unique b (number n) w h k = absurd h
      single_unique b (two n m) w h k = absurd h
      single_unique b (list vs) w h k = absurd h
      single_unique b (state i ps vs) w h k = absurd h
      single_unique b (bytes content) w h k = absurd h

      single_niche : IsNicheTrue dl whole
      single_niche = more_niche layout.largest_niche one.niche
        where
          more_niche : (o : Option Niche) → IfSome o (λ n. (b : List ℕ) (v : Value) → Holds dl.endian (fields layout (mark_of false repr) parts) b v → IsIn (niche_size dl n) n.valid_range (number_of dl.endian (bytes_at b n.offset (niche_size dl n))))
              → IfSome o (λ n. (b : List ℕ) (v : Value) → Holds dl.endian whole b v → IsIn (niche_size dl n) n.valid_range (number_of dl.endian (bytes_at b n.offset (niche_size dl n))))
          more_niche None h = tt
          more_niche (Some n) h = by_value
            where
              by_value : (b : List ℕ) (v : Value) → Holds dl.endian whole b v → IsIn (niche_size dl n) n.valid_range (number_of dl.endian (bytes_at b n.offset (niche_size dl n)))
              by_value b (variant i vs) k = h b (list vs) (as_struct b i vs k)
              by_value b (number m) k = absurd k
              by_value b (two m l) k = absurd k
              by_value b (list vs) k = absurd k
              by_value b (state i ps vs) k = absurd k
              by_value b (bytes content) k = absurd k

      single_padding : (xs ys : List ℕ) (v : Value) → length xs ≡ size_of whole → length ys ≡ size_of whole → AgreeOn whole xs ys → Holds dl.endian whole xs v → Holds dl.endian whole ys v
      single_padding xs ys (variant i vs) ex ey agree h =
          let held : Holds dl.endian (fields layout (mark_of false repr) parts) ys (list vs) = one.padding xs ys (list vs) ex ey agree (as_struct xs i vs h) in
          (held.0, h.1, held.1)
      single_padding xs ys (number n) ex ey agree h = absurd h
      single_padding xs ys (two n m) ex ey agree h = absurd h
      single_padding xs ys (list vs) ex ey agree h = absurd h
      single_padding xs ys (state i ps vs) ex ey agree h = absurd h
      single_padding xs ys (bytes content) ex ey agree h = absurd h

      single_view : (b : List ℕ) (v : Value) → Holds dl.endian whole b v → IsTrueOf dl layout.backend_repr b
      single_view b (variant i vs) h = one.view b (list vs) (as_struct b i vs h)
      single_view b (number n) h = absurd h
      single_view b (two n m) h = absurd h
      single_view b (list vs) h = absurd h
      single_view b (state i ps vs) h = absurd h
      single_view b (bytes content) h = absurd h

      single_flag : IsFlagTrue dl (enum repr all) whole
      single_flag = by_flag layout.uninhabited one.flag
        where
          by_flag : (flag : Bool) → MatchBool flag ((v : Value) → IsValueOf dl (struct repr true None (fields_at all index)) (fields layout (mark_of false repr) parts) v → ⊥)
              (VectorsOfEach dl (fields_at all index) → (v : Value) × IsValueOf dl (struct repr true None (fields_at all index)) (fields layout (mark_of false repr) parts) v)
              → MatchBool flag ((v : Value) → IsValueOf dl (enum repr all) whole v → ⊥) (VectorsOfVariants dl all → (v : Value) × IsValueOf dl (enum repr all) whole v)
          by_flag true h = none
            where
              none : (v : Value) → IsValueOf dl (enum repr all) whole v → ⊥
              none (variant i vs) k = h (list vs) (of_index i vs k)
              none (number n) k = k
              none (two n m) k = k
              none (list vs) k = k
              none (state i ps vs) k = k
              none (bytes content) k = k
          by_flag false h = λ vectors. from_value (h (vectors_at all index vectors)).0 (h (vectors_at all index vectors)).1
            where
              from_value : (v : Value) → IsValueOf dl (struct repr true None (fields_at all index)) (fields layout (mark_of false repr) parts) v → (v : Value) × IsValueOf dl (enum repr all) whole v
              from_value (list vs) k = (variant index vs, values_from all variants index short fits parts vs k)
              from_value (number n) k = absurd k
              from_value (two n m) k = absurd k
              from_value (variant i vs) k = absurd k
              from_value (state i ps vs) k = absurd k
              from_value (bytes content) k = absurd k

      single_faithful : IsFaithful dl (enum repr all) whole
      single_faithful = record {
        exists = single_exists;
        only = single_only;
        unique = single_unique;
        niche = single_niche;
        inside = one.inside;
        padding = single_padding;
        view = single_view;
        flag = single_flag;
      }

    -- an enum with one variant left is laid out as that variant's fields are
    pub Fits-single : Fits dl (struct repr true None (fields_at all index)) (fields layout (mark_of false repr) parts) → Fits dl (enum repr all) whole
    Fits-single one = record {
      faithful = λ locals. single_faithful locals (one.faithful (locals_at all index locals));
      lawful = one.lawful;
      room = one.room;
      within = one.within;
      common = λ locals. one.common (locals_at all index locals);
      untagged = λ locals. one.untagged (locals_at all index locals);
    }

  -- an enum without a variant that may have values has none
  module _ (repr : ReprOptions) (all : Variants) (variants : List (List Placed)) (fits : VariantsFit dl all variants)
      (absent : (i : ℕ) → i < length variants → has_no_value (variant_at (layouts_of variants) i) ≡ true) where
    abbrev no_value : Placed
    no_value = never (never_layout dl) (mark_of true repr)

    none_left : LocalsOfVariants dl all → (v : Value) → IsValueOf dl (enum repr all) no_value v → ⊥
    none_left locals (variant i vs) h = none_of_variant all variants i fits locals (absent i (within_variants all variants i fits no_parts vs h)) no_parts vs h
    none_left locals (number n) h = h
    none_left locals (two n m) h = h
    none_left locals (list vs) h = h
    none_left locals (state i ps vs) h = h
    none_left locals (bytes content) h = h

    pub Fits-no-variant : IsLawfulLayout {F = ℕ} {V = ℕ} dl (never_layout dl) → Fits dl (enum repr all) no_value
    Fits-no-variant lawful = record {
      faithful = λ locals. record {
        exists = λ v h. absurd (none_left locals v h);
        only = λ b v are h. absurd h;
        unique = λ b v w h k. absurd h;
        niche = tt;
        inside = tt;
        padding = λ xs ys v ex ey agree h. absurd h;
        view = λ b v h. tt;
        flag = none_left locals;
      };
      lawful = lawful;
      room = refl;
      within = λ k place. ltb-true k 0 place;
      common = λ locals. tt;
      untagged = λ locals. tt;
    }
