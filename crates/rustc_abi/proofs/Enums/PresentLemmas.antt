-- Which variants have no value, where an enum has at most one that is present.
use Rattle.std.proofs.Common.{◌≡◌, ◌≢◌, ℕ, ◌<◌, ◌⊎◌, List, [], ◌∷◌, length, Bool, true, false, arith, refl, ap, subst, ◌∙◌, inl, inr, ⊎_elim, All}
use Rattle.std.specs.Prelude.{◌||◌, not, cond, filter, get_or}
use Rattle.std.proofs.lemmas.Bool.{and_parts}
use Rattle.std.proofs.lemmas.List.Elements.{All-nil, All-cons, All-weaker}
use Rattle.std.proofs.lemmas.List.FromFn.{get_or-range_with_len, length-range_with_len}
use Rattle.abi_scalar.specs.declared.repr.ReprOptions.{ReprOptions}
use Rattle.abi_univariant.specs.Placement.{source_order}
use Rattle.abi_calc.specs.declared.enums.strategy.EnumStrategy.TheVariants.{NoValue, OneList}
use Rattle.abi_calc.specs.Enums.EnumStrategy.{has_no_value, is_absent, is_free, is_present, strategy_among, strategy_of, present_of, variant_at}
use Rattle.abi_scalar.specs.Layout.{Layout}

-- where none is kept, each fails the test
none_step : (test : ℕ → Bool) (x : ℕ) (xs : List ℕ) (b : Bool) → test x ≡ b → cond b (x ∷ filter test xs) (filter test xs) ≡ [] →
    (filter test xs ≡ [] → All (λ j. test j ≡ false) xs) → All (λ j. test j ≡ false) (x ∷ xs)
none_step test x xs true is none rest = absurd (cc)
none_step test x xs false is none rest = All-cons (λ j. test j ≡ false) x xs is (rest none)

none_kept : (test : ℕ → Bool) (xs : List ℕ) → filter test xs ≡ [] → All (λ j. test j ≡ false) xs
none_kept test [] e = All-nil (λ j. test j ≡ false)
none_kept test (x ∷ xs) e = none_step test x xs (test x) refl e (none_kept test xs)

-- where one is kept, each other fails it
abbrev IsOneOr : (test : ℕ → Bool) → (i j : ℕ) → Type 0
IsOneOr test i j = (j ≡ i) ⊎ (test j ≡ false)

one_step : (test : ℕ → Bool) (x : ℕ) (xs : List ℕ) (i : ℕ) (b : Bool) → test x ≡ b → cond b (x ∷ filter test xs) (filter test xs) ≡ i ∷ [] →
    (filter test xs ≡ i ∷ [] → All (IsOneOr test i) xs) → All (IsOneOr test i) (x ∷ xs)
one_step test x xs i true is one rest =
    let first : x ≡ i = cc in
    let none : filter test xs ≡ [] = cc in
    All-cons (IsOneOr test i) x xs (inl first) (All-weaker (λ j. test j ≡ false) (IsOneOr test i) (λ j fails. inr fails) xs (none_kept test xs none))
one_step test x xs i false is one rest = All-cons (IsOneOr test i) x xs (inr is) (rest one)

one_kept : (test : ℕ → Bool) (xs : List ℕ) (i : ℕ) → filter test xs ≡ i ∷ [] → All (IsOneOr test i) xs
one_kept test [] i e = All-nil (IsOneOr test i)
one_kept test (x ∷ xs) i e = one_step test x xs i (test x) refl e (one_kept test xs i)

-- what holds of each place below n
at_place : (P : ℕ → Type 0) (n j : ℕ) → j < n → All P (source_order n) → P j
at_place P n j short all =
    let long : length (source_order n) ≡ n = length-range_with_len 0 n in
    let at : get_or (source_order n) j j ≡ j = get_or-range_with_len 0 n j j short ∙ omega arith in
    subst P at (all j j (omega (arith, short, long)))

-- a variant that isn't present has a field without values
not_present : (free absent : Bool) → (not free || not absent) ≡ false → absent ≡ true
not_present true true e = refl
not_present true false e = absurd (cc)
not_present false absent e = absurd (cc)

absent_of : (repr : ReprOptions) (fields : List Layout) → is_present repr fields ≡ false → has_no_value fields ≡ true
absent_of repr fields e = (and_parts (has_no_value fields) _ (not_present (is_free repr) (is_absent fields) e)).0

none_present : (free : Bool) (present : List ℕ) → strategy_among free present ≡ NoValue → present ≡ []
none_present free [] e = refl
none_present true (i ∷ []) e = absurd (cc)
none_present false (i ∷ []) e = absurd (cc)
none_present true (i ∷ j ∷ more) e = absurd (cc)
none_present false (i ∷ j ∷ more) e = absurd (cc)

one_present : (free : Bool) (present : List ℕ) (i : ℕ) → strategy_among free present ≡ OneList i → present ≡ i ∷ []
one_present free [] i e = absurd (cc)
one_present true (j ∷ []) i e = let same : j ≡ i = cc in ap (λ k. k ∷ []) same
one_present false (j ∷ []) i e = absurd (cc)
one_present true (j ∷ k ∷ more) i e = absurd (cc)
one_present false (j ∷ k ∷ more) i e = absurd (cc)

module _ (repr : ReprOptions) (layouts : List (List Layout)) where
  -- each variant of an enum without a present one has a field without values
  pub all_absent : strategy_of true repr layouts ≡ NoValue → (j : ℕ) → j < length layouts → has_no_value (variant_at layouts j) ≡ true
  all_absent strategy j short =
      absent_of repr (variant_at layouts j)
      (at_place (λ k. is_present repr (variant_at layouts k) ≡ false) (length layouts) j short
      (none_kept (λ k. is_present repr (variant_at layouts k)) (source_order (length layouts)) (none_present (is_free repr) (present_of repr layouts) strategy)))

  -- so has each but the one that is left
  pub others_absent : (i : ℕ) → strategy_of true repr layouts ≡ OneList i → (j : ℕ) → j < length layouts → j ≢ i → has_no_value (variant_at layouts j) ≡ true
  others_absent i strategy j short other =
      ⊎_elim (λ same. absurd (other same)) (λ fails. absent_of repr (variant_at layouts j) fails)
      (at_place (IsOneOr (λ k. is_present repr (variant_at layouts k)) i) (length layouts) j short
      (one_kept (λ k. is_present repr (variant_at layouts k)) (source_order (length layouts)) i (one_present (is_free repr) (present_of repr layouts) i strategy)))
