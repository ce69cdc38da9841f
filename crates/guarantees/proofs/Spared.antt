-- What the present variant leaves unused: the value doesn't cover it, and handles tell it.
use Rattle.std.proofs.Common.{◌≡◌, ◌∙◌, ⊎_elim, ℕ, ◌<◌, ◌≤◌, Bool, List, [], true, false, ap, arith, get_or, length, refl, subst, sym}
use Rattle.std.specs.declared.alloc.AllocError.{AllocError}
use Rattle.std.specs.Prelude.{◌&&◌, Err, IfOk, IfSome, None, Ok, Option, Result, Some, if◌then◌else◌, not, slice_set}
use Rattle.std.proofs.lemmas.List.{get_or_past}
use Rattle.std.proofs.lemmas.Bool.{cases_Bool, cases_lt, true≢false}
use Rattle.abi_index.specs.RangeSet.{is_in_ranges}
use Rattle.abi_scalar.specs.declared.variants.Variants.{Variants}
use Rattle.abi_scalar.specs.declared.variants.Variants.TheVariants.{Empty, Single, Multiple}
use Rattle.abi_scalar.specs.Layout.{Layout}
use Rattle.abi_types.specs.Ty.Runs.{AreUnused, IsVariantIndex, IsVariantOfSeveral, variant_count}
use Rattle.abi_types.specs.Ty.Typed.{layout_in}
use Rattle.abi_tree.specs.declared.laid.Laid.{Laid}
use Rattle.abi_tree.specs.Covering.{is_covered}
use Rattle.abi_tree.specs.Holding.{Holds}
use Rattle.abi_tree.specs.Laid.{endian_of, placed_of, typed_of}
use Rattle.abi_tree.specs.OfTree.{IsOfTree}
use Rattle.abi_tree.specs.Placed.{layout_of}
use Rattle.abi_tree.specs.Places.{is_data_place}
use Rattle.abi_tree.specs.Runs.{is_place_of_variant}
use Rattle.abi_tree.specs.Unused.{IsOfVariant, is_left_unused}
use Rattle.abi_tree.specs.declared.value.Value.{Value as Kept}
use Rattle.abi_tree.specs.Reading.{Finds}
use Rattle.abi_tree.specs.Value.{Value, state, value_of, variant}
use Rattle.guarantees.specs.Field.{IsValueFound}
use Rattle.guarantees.specs.Spared.{is_in_set_of, is_spared, with_spared}

-- ---- indices of variants

-- one of several is below their count
several_below : (vs : Variants ℕ ℕ) (i : ℕ) → IsVariantOfSeveral vs i → i < variant_count vs
several_below (Multiple tag encoding at layouts) i h = h
several_below Empty i h = absurd h
several_below (Single j) i h = absurd h

below_indexed : (vs : Variants ℕ ℕ) (i : ℕ) → i < variant_count vs → IsVariantIndex vs i
below_indexed (Multiple tag encoding at layouts) i lt = lt
below_indexed Empty i lt = tt
below_indexed (Single j) i lt = tt

-- a list has nothing behind its end
past_end : (sets : List (List (ℕ × ℕ))) (i k : ℕ) → length sets ≤ i → is_in_ranges (get_or sets i []) k ≡ false
past_end sets i k past = ap (λ set. is_in_ranges set k) (get_or_past sets i [] past)

not_both : (place own : Bool) → (place && not own) ≡ true → own ≡ false
not_both true false e = refl
not_both true true e = absurd (true≢false (sym e))
not_both false own e = absurd (true≢false (sym e))

-- ---- the value that is held

module _ (laid : Laid) (of_tree : IsOfTree laid) (b : List ℕ) where
  -- what its variant leaves unused it doesn't cover
  left_uncovered : (v : Value) → Holds (endian_of laid) (placed_of laid) b v → (i : ℕ) → IsOfVariant v i → (k : ℕ)
      → is_left_unused (placed_of laid) i k ≡ true → is_covered (placed_of laid) v k ≡ false
  left_uncovered v held i is k left =
      ⊎_elim
      (λ covers.
      let own = of_tree.keeps.own_places.own b v (subst (λ o. Holds o (placed_of laid) b v) of_tree.keeps.order held) i is k covers in
      let none = not_both (is_data_place (placed_of laid) k) (is_place_of_variant (placed_of laid) i k) left in
      absurd (true≢false (sym own ∙ none)))
      (λ e. e)
      (cases_Bool (is_covered (placed_of laid) v k))

  pub uncovered : (v : Value) → Holds (endian_of laid) (placed_of laid) b v → (k : ℕ)
      → is_spared (placed_of laid) v k ≡ true → is_covered (placed_of laid) v k ≡ false
  uncovered (variant i vs) held k spared = left_uncovered (variant i vs) held i refl k spared
  uncovered (state i ps vs) held k spared = left_uncovered (state i ps vs) held i refl k spared
  uncovered _ held k spared = absurd (true≢false (sym spared))

  module _ (sets : List (List (ℕ × ℕ))) (same : layout_in (typed_of laid) ≡ layout_of (placed_of laid))
      (tag_distinguishes : AreUnused (typed_of laid) sets) where
    abbrev count : ℕ
    count = variant_count (layout_of (placed_of laid)).variants

    counted : length sets ≡ count
    counted = tag_distinguishes.0 ∙ ap (λ (l : Layout). variant_count l.variants) same

    -- its variant's set has what that leaves unused
    set_of : (v : Value) → Holds (endian_of laid) (placed_of laid) b v → (i : ℕ) → IsOfVariant v i → (k : ℕ)
        → is_in_ranges (get_or sets i []) k ≡ is_left_unused (placed_of laid) i k
    set_of v held i is k =
        ⊎_elim
        (λ (below : i < count).
        let inside : i < variant_count (layout_in (typed_of laid)).variants = omega (arith, below, counted, tag_distinguishes.0) in
        tag_distinguishes.1 i k inside ∙ of_tree.keeps.unused i k (below_indexed (layout_of (placed_of laid)).variants i below))
        (λ (past : count ≤ i).
        let none = past_end sets i k (omega (arith, past, counted)) in
        ⊎_elim
        (λ left.
        let several = of_tree.keeps.own_places.several b v (subst (λ o. Holds o (placed_of laid) b v) of_tree.keeps.order held) i is k left in
        let below : i < count = several_below (layout_of (placed_of laid)).variants i several in
        absurd (omega (arith, below, past)))
        (λ free. none ∙ sym free)
        (cases_Bool (is_left_unused (placed_of laid) i k)))
        (cases_lt i count)

    pub told_spared : (v : Value) → Holds (endian_of laid) (placed_of laid) b v → (k : ℕ)
        → is_in_set_of sets v k ≡ is_spared (placed_of laid) v k
    told_spared (variant i vs) held k = set_of (variant i vs) held i refl k
    told_spared (state i ps vs) held k = set_of (state i ps vs) held i refl k
    told_spared _ held k = refl

-- ---- what is read after a byte that it spares was changed

module _ (laid : Laid) (b : List ℕ) (place byte : ℕ) where
  -- the value that was read before is read again
  pub read_again : (read : Result (Option Kept) AllocError) (v : Value) → Holds (endian_of laid) (placed_of laid) b v
      → is_covered (placed_of laid) v place ≡ false
      → IfOk read (λ found. (w : Value) → Holds (endian_of laid) (placed_of laid) b w → is_covered (placed_of laid) w place ≡ false
      → IsValueFound found (Some w)) → IfOk read (λ found. IsValueFound found (Some v))
  read_again (Ok found) v held free each = each v held free
  read_again (Err e) v held free each = tt

  pub same_found : (read : Result (Option Kept) AllocError) (v : Value) → Holds (endian_of laid) (placed_of laid) b v
      → IfOk read (λ found. IsValueFound found (Some v)) → IfOk read (Finds (Holds (endian_of laid) (placed_of laid) b))
  same_found (Ok None) v held found = absurd (cc)
  same_found (Ok (Some k)) v held found =
      let same : v ≡ value_of k = cc in
      subst (λ w. Holds (endian_of laid) (placed_of laid) b w) same held
  same_found (Err e) v held found = tt

  pub changed_so : (read : Result (Option Kept) AllocError) (v : Value) (new : List ℕ) → new ≡ slice_set b place byte
      → is_spared (placed_of laid) v place ≡ true → IfOk read (λ found. IsValueFound found (Some v))
      → IfOk read (λ found. IfSome found (λ k. new ≡ with_spared (placed_of laid) (value_of k) b place byte))
  changed_so (Ok None) v new is spared found = tt
  changed_so (Ok (Some k)) v new is spared found =
      let same : v ≡ value_of k = cc in
      let own : is_spared (placed_of laid) (value_of k) place ≡ true
      = subst (λ w. is_spared (placed_of laid) w place ≡ true) same spared in
      is ∙ sym (ap (λ t. if t then slice_set b place byte else b) own)
  changed_so (Err e) v new is spared found = tt

  pub some_found : (read : Result (Option Kept) AllocError) (v : Value) (P : Type 0)
      → IfOk read (λ found. IsValueFound found (Some v)) → IfOk read (λ found. found ≡ None → P)
  some_found (Ok None) v P found = absurd (cc)
  some_found (Ok (Some k)) v P found = λ e. absurd (cc)
  some_found (Err e) v P found = tt
