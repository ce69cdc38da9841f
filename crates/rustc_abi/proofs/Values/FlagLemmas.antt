-- A type without values is flagged, and no other.
use Rattle.std.proofs.Common.{◌≡◌, ◌≢◌, ℕ, zero, suc, Option, List, [], ◌∷◌, map, Bool, true, false, arith, refl, sym}
use Rattle.std.specs.Prelude.{◌==◌, ◌&&◌, ◌||◌, not, MatchBool}
use Rattle.std.specs.List.{list_any}
use Rattle.std.proofs.lemmas.Bool.{eqb-true, eqb-false}
use Rattle.abi_base.specs.declared.data_layout.TargetDataLayout.{TargetDataLayout}
use Rattle.abi_scalar.specs.declared.repr.ReprOptions.{ReprOptions}
use Rattle.abi_univariant.specs.Apart.{AreApart}
use Rattle.abi_tree.specs.Tree.{Tree, array, struct, Trees, no_trees, more_trees}
use Rattle.abi_tree.specs.Value.{Value, list, Values, no_values, more_values, value_count, Each}
use Rattle.abi_tree.specs.Mark.{mark_of}
use Rattle.abi_tree.specs.Placed.{Placed, layout_of, size_of, elements, fields}
use Rattle.abi_scalar.specs.Layout.{Layout}
use Rattle.abi_tree.specs.Values.{IsValueOf, AreValuesOf, LocalsOfEach, VectorsHaveValues, VectorsOfEach}
use Rattle.abi_tree.specs.Faithful.{IsFlagTrue}
use Rattle.abi_tree.specs.Nodes.{parts_at}
use Rattle.rustc_abi.specs.Adding.{EachFits}

-- so many values, all alike
pub alike : (P : Value → Type 0) (v : Value) → P v → (count : ℕ) → (vs : Values) × (value_count vs ≡ count) × Each P vs
alike P v h zero = (no_values, refl, tt)
alike P v h (suc n) = let rest = alike P v h n in (more_values v rest.0, omega (arith, rest.1), (h, rest.2))

-- there are so many values with the fact, where the premise holds, or none, as the flag says
abbrev AreSome : (C : Type 0) → (P : Value → Type 0) → (count : ℕ) → Bool → Type 0
AreSome C P count flag = MatchBool flag ((vs : Values) → value_count vs ≡ count → Each P vs → ⊥) (C → (vs : Values) × (value_count vs ≡ count) × Each P vs)

some_elements : (C : Type 0) (P : Value → Type 0) (flag : Bool) → MatchBool flag ((v : Value) → P v → ⊥) (C → (v : Value) × P v) → (count : ℕ) (none : Bool) →
    (none ≡ true → count ≡ 0) → (none ≡ false → count ≢ 0) → AreSome C P count (flag && not none)
some_elements C P true h count true is isnt = λ _. let zero : count ≡ 0 = is refl in (no_values, sym zero, tt)
some_elements C P true h count false is isnt = λ vs many each. no_first vs many each
  where
    no_first : (vs : Values) → value_count vs ≡ count → Each P vs → ⊥
    no_first no_values many each = isnt refl (sym many)
    no_first (more_values v vs) many each = h v each.0
some_elements C P false h count none is isnt = λ c. alike P (h c).0 (h c).1 count

module _ (dl : TargetDataLayout) (t : Tree) (element : Placed) (count : ℕ) (layout : Layout) where
  of_array : (flag : Bool) → AreSome (VectorsHaveValues dl t) (IsValueOf dl t element) count flag →
      MatchBool flag ((v : Value) → IsValueOf dl (array count t) (elements layout count element) v → ⊥)
      (VectorsHaveValues dl t → (v : Value) × IsValueOf dl (array count t) (elements layout count element) v)
  of_array true h = none_of
    where
      none_of : (v : Value) → IsValueOf dl (array count t) (elements layout count element) v → ⊥
      none_of (list vs) k = h vs k.0 k.1
      none_of _ k = k
  of_array false h = λ c. let some = h c in (list some.0, (some.1, some.2))

  -- an array has no value where it has elements, and they have none
  pub flag-elements : layout.uninhabited ≡ ((layout_of element).uninhabited && not (count == 0)) → IsFlagTrue dl t element → IsFlagTrue dl (array count t) (elements layout count element)
  flag-elements e h =
      rw e (of_array ((layout_of element).uninhabited && not (count == 0))
      (some_elements (VectorsHaveValues dl t) (IsValueOf dl t element) (layout_of element).uninhabited h count (count == 0) (λ is. eqb-true count 0 is) (λ isnt. eqb-false count 0 isnt)))

-- each type's flag is true
abbrev AreFlagsTrue : TargetDataLayout → Trees → List Placed → Type 0
AreFlagsTrue dl no_trees ps = Unit {0}
AreFlagsTrue dl (more_trees t ts) [] = Unit {0}
AreFlagsTrue dl (more_trees t ts) (p ∷ ps) = IsFlagTrue dl t p × AreFlagsTrue dl ts ps

-- each laid-out type's is
pub flags_true : (dl : TargetDataLayout) (ts : Trees) (ps : List Placed) → EachFits dl ts ps → LocalsOfEach dl ts → AreFlagsTrue dl ts ps
flags_true dl no_trees ps fits locals = tt
flags_true dl (more_trees t ts) [] fits locals = tt
flags_true dl (more_trees t ts) (p ∷ ps) fits locals = ((fits.0.faithful locals.0).flag, flags_true dl ts ps fits.1 locals.1)

module _ (dl : TargetDataLayout) where
  -- the types have values, where their vectors' elements do, or they have none, as the flag says
  abbrev pub HaveSome : Trees → (offsets : List ℕ) → List Placed → Bool → Type 0
  HaveSome ts offsets ps flag =
      MatchBool flag ((vs : Values) → AreValuesOf dl ts (parts_at offsets ps) vs → ⊥) (VectorsOfEach dl ts → (vs : Values) × AreValuesOf dl ts (parts_at offsets ps) vs)

  module _ (t : Tree) (ts : Trees) (o : ℕ) (offsets : List ℕ) (p : Placed) (ps : List Placed) where
    abbrev All : Type 0
    All = (vs : Values) → AreValuesOf dl (more_trees t ts) (parts_at (o ∷ offsets) (p ∷ ps)) vs → ⊥

    none_first : ((v : Value) → IsValueOf dl t p v → ⊥) → All
    none_first h no_values k = k
    none_first h (more_values v vs) k = h v k.0

    none_later : ((vs : Values) → AreValuesOf dl ts (parts_at offsets ps) vs → ⊥) → All
    none_later h no_values k = k
    none_later h (more_values v vs) k = h vs k.1

    some_more : (a b : Bool) → MatchBool a ((v : Value) → IsValueOf dl t p v → ⊥) (VectorsHaveValues dl t → (v : Value) × IsValueOf dl t p v) → HaveSome ts offsets ps b →
        HaveSome (more_trees t ts) (o ∷ offsets) (p ∷ ps) (a || b)
    some_more true b h k = none_first h
    some_more false true h k = none_later k
    some_more false false h k = λ c. let v = h c.0 in let vs = k c.1 in (more_values v.0 vs.0, (v.1, vs.1))

  -- they are as the flags of the types say
  pub each_flag : (size : ℕ) (ts : Trees) (offsets : List ℕ) (ps : List Placed) → AreApart size offsets (map size_of ps) → EachFits dl ts ps → AreFlagsTrue dl ts ps →
      HaveSome ts offsets ps (list_any (λ f. f.uninhabited) (map layout_of ps))
  each_flag size no_trees [] [] apart fits flags = λ _. (no_values, tt)
  each_flag size no_trees (o ∷ offsets) [] apart fits flags = absurd apart
  each_flag size no_trees offsets (p ∷ ps) apart fits flags = absurd fits
  each_flag size (more_trees t ts) offsets [] apart fits flags = absurd fits
  each_flag size (more_trees t ts) [] (p ∷ ps) apart fits flags = absurd apart
  each_flag size (more_trees t ts) (o ∷ offsets) (p ∷ ps) apart fits flags =
      some_more t ts o offsets p ps (layout_of p).uninhabited (list_any (λ f. f.uninhabited) (map layout_of ps)) flags.0 (each_flag size ts offsets ps apart.2 fits.1 flags.1)

  module _ (repr : ReprOptions) (always_sized : Bool) (order : Option (List ℕ)) (ts : Trees) (layout : Layout) (offsets : List ℕ) (ps : List Placed) where
    of_struct : (flag : Bool) → HaveSome ts offsets ps flag →
        MatchBool flag ((v : Value) → IsValueOf dl (struct repr always_sized order ts) (fields layout (mark_of false repr) (parts_at offsets ps)) v → ⊥)
        (VectorsOfEach dl ts → (v : Value) × IsValueOf dl (struct repr always_sized order ts) (fields layout (mark_of false repr) (parts_at offsets ps)) v)
    of_struct true h = none_of
      where
        none_of : (v : Value) → IsValueOf dl (struct repr always_sized order ts) (fields layout (mark_of false repr) (parts_at offsets ps)) v → ⊥
        none_of (list vs) k = h vs k
        none_of _ k = k
    of_struct false h = λ c. let some = h c in (list some.0, some.1)

    -- a struct has no value where some field has none
    pub flag-fields : layout.uninhabited ≡ list_any (λ f. f.uninhabited) (map layout_of ps) → AreApart layout.size offsets (map size_of ps) → EachFits dl ts ps →
        LocalsOfEach dl ts → IsFlagTrue dl (struct repr always_sized order ts) (fields layout (mark_of false repr) (parts_at offsets ps))
    flag-fields e apart fits locals =
        rw e (of_struct (list_any (λ f. f.uninhabited) (map layout_of ps)) (each_flag layout.size ts offsets ps apart fits (flags_true dl ts ps fits locals)))
