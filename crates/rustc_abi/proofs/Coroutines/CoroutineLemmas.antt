-- What a coroutine's layout keeps of the values of its prefix fields and its locals.
use Rattle.std.proofs.Common.{◌≡◌, ℕ, zero, suc, ◌+◌, ◌≤◌, ◌<◌, List, [], ◌∷◌, ◌++◌, map, length, get_or, take, None, All, arith, refl, sym, ap, ◌∙◌, subst}
use Rattle.std.specs.Prelude.{Bool, true, false, ◌||◌, MatchBool}
use Rattle.std.specs.List.{list_any}
use Rattle.std.specs.Cmp.Derive.{both_true}
use Rattle.std.proofs.lemmas.Bool.{le-leb}
use Rattle.std.proofs.lemmas.List.{length-take-le}
use Rattle.std.proofs.lemmas.List.Elements.{All-head, All-tail}
use Rattle.std.proofs.lemmas.List.FromFn.{get_or-range_with_len, length-range_with_len}
use Rattle.abi_base.specs.declared.data_layout.TargetDataLayout.{TargetDataLayout}
use Rattle.abi_scalar.specs.declared.backend_repr.BackendRepr.TheVariants.{Memory}
use Rattle.abi_scalar.specs.declared.scalar.Scalar.{Scalar}
use Rattle.abi_scalar.specs.declared.variants.VariantLayout.{VariantLayout}
use Rattle.abi_scalar.specs.Lawful.{IsLawfulLayout}
use Rattle.abi_scalar.specs.Range.{numbers_of}
use Rattle.abi_scalar.specs.Scalar.{scalar_size, IsNumberOf}
use Rattle.abi_univariant.specs.Apart.{AreApart}
use Rattle.abi_univariant.specs.Placement.{source_order}
use Rattle.abi_tree.specs.Tree.{Tree, coroutine, Trees, no_trees, more_trees}
use Rattle.abi_tree.specs.Value.{Value, number, two, list, variant, state, bytes, Values, no_values, more_values}
use Rattle.abi_tree.specs.declared.mark.Mark.TheVariants.{Plain}
use Rattle.abi_tree.specs.Placed.{Placed, Parts, part, first_part, more_parts, TaggedVariants, layout_of, size_of, states, parts_of_tagged_variant}
use Rattle.abi_scalar.specs.Layout.{Layout}
use Rattle.abi_tree.specs.Values.{EachAt, IsValueOf, IsValueAt, HasValue, HaveValues, LocalsHaveValues, LocalsOfEach, VectorsHaveValues}
use Rattle.abi_tree.specs.Room.{has_room}
use Rattle.abi_tree.specs.Faithful.{IsFaithful, IsFlagTrue}
use Rattle.abi_tree.specs.Fits.{Fits}
use Rattle.abi_tree.specs.Nodes.{parts_at}
use Rattle.rustc_abi.specs.Enums.{tagged_variants_at}
use Rattle.rustc_abi.specs.Laying.{one_scalar}
use Rattle.rustc_abi.specs.Adding.{EachFits}
use Rattle.rustc_abi.proofs.Values.PartsLemmas.{LieBeside}
use Rattle.rustc_abi.proofs.Values.FieldsLemmas.{common_each, room_of, together, untagged_each}
use Rattle.rustc_abi.proofs.Values.FlagLemmas.{HaveSome, each_flag, flags_true}
use Rattle.rustc_abi.proofs.Values.AnywhereLemmas.{value_anywhere}
use Rattle.rustc_abi.proofs.Enums.TaggedLemmas.{unflagged}
use Rattle.abi_tree.proofs.Places.RoomLemmas.{within_room}
use Rattle.rustc_abi.proofs.Enums.EnumLemmas.{some_niche}
use Rattle.rustc_abi.proofs.Coroutines.StateTaggedVariantsLemmas.{StatesFit, few_states, tree_at, value_at}
use Rattle.rustc_abi.proofs.Coroutines.StatesLemmas.{states_exists, states_only, states_padding, states_unique}
use Rattle.rustc_abi.proofs.Coroutines.StateFlagLemmas.{IsFlaggedBy}
use Rattle.rustc_abi.proofs.Coroutines.StatePlacesLemmas.{EachStateApart, picked_types, shared_apart, state_tagged_variants, state_tagged_variants_at, state_tagged_variants_common, state_tagged_variants_fit, state_tagged_variants_room, state_tagged_variants_untagged}

-- ---- the flag

module _ (dl : TargetDataLayout) where
  -- types with values aren't flagged
  none_is_flagged : (ts : Trees) (ps : List Placed) → EachFits dl ts ps → LocalsOfEach dl ts → HaveValues dl ts → list_any (λ f. f.uninhabited) (map layout_of ps) ≡ false
  none_is_flagged no_trees [] fits locals values = refl
  none_is_flagged no_trees (p ∷ ps) fits locals values = absurd fits
  none_is_flagged (more_trees t ts) [] fits locals values = absurd fits
  none_is_flagged (more_trees t ts) (p ∷ ps) fits locals values =
      let own : HasValue dl t = values.0 in
      let here = value_anywhere dl t own.0 p own.1 own.2 in
      let flag : IsFlagTrue dl t p = IsFaithful.flag (Fits.faithful fits.0 locals.0) in
      ap (λ b. b || list_any (λ (f : Layout). f.uninhabited) (map layout_of ps)) (unflagged dl t p (layout_of p).uninhabited flag here.0 here.1)
      ∙ none_is_flagged ts ps fits.1 locals.1 values.1

  value_there : (ts : Trees) (ps : List Placed) (k : ℕ) → EachFits dl ts ps → HaveValues dl ts → k < length ps → HasValue dl (tree_at ts k)
  value_there no_trees [] k fits values below = absurd (omega (arith, below))
  value_there no_trees (p ∷ ps) k fits values below = absurd fits
  value_there (more_trees t ts) [] k fits values below = absurd fits
  value_there (more_trees t ts) (p ∷ ps) zero fits values below = values.0
  value_there (more_trees t ts) (p ∷ ps) (suc k) fits values below = value_there ts ps k fits.1 values.1 (omega (arith, below))

  -- the locals with these indices have values, wherever they lie
  state_values : (ts : Trees) (ps : List Placed) → EachFits dl ts ps → HaveValues dl ts → (ks : List ℕ) → All (λ k. k < length ps) ks → (parts : Parts) → (vs : Values) × EachAt (IsValueAt dl ts) ks parts vs
  state_values ts ps fits values [] known parts = (no_values, tt)
  state_values ts ps fits values (k ∷ ks) known parts =
      let own : HasValue dl (tree_at ts k) = value_there ts ps k fits values (All-head (λ i. i < length ps) k ks known) in
      let here = value_anywhere dl (tree_at ts k) own.0 (first_part parts) own.1 own.2 in
      let rest = state_values ts ps fits values ks (All-tail (λ i. i < length ps) k ks known) (more_parts parts) in
      (more_values here.0 rest.0, (value_at dl ts k (first_part parts) here.0 here.1, rest.1))

  -- so have those of the first state
  first_values : (ts : Trees) (ps : List Placed) → EachFits dl ts ps → HaveValues dl ts → (all : List (List ℕ)) → All (All (λ k. k < length ps)) all → 0 < length all → (parts : Parts) →
      (vs : Values) × EachAt (IsValueAt dl ts) (get_or all 0 []) parts vs
  first_values ts ps fits values [] known some parts = absurd (omega (arith, some))
  first_values ts ps fits values (ks ∷ all) known some parts = state_values ts ps fits values ks (All-head (All (λ k. k < length ps)) ks all known) parts

-- a second flag that isn't set says nothing
only_first : (first other rest : Bool) → (other ≡ true → rest ≡ true) → rest ≡ false → (first || other) ≡ first
only_first first true rest implied clear = absurd (cc (implied refl))
only_first true false rest implied clear = refl
only_first false false rest implied clear = refl

module _ (dl : TargetDataLayout) (prefix_trees locals : Trees) (all : List (List ℕ)) (conflicts : List (ℕ × ℕ)) (layout : Layout) (starts : List ℕ) (pres : List Placed)
    (offset : ℕ) (tag : Placed) (tagged_variants : TaggedVariants) where
  abbrev tree : Tree
  tree = coroutine prefix_trees locals all conflicts

  abbrev placed : Placed
  placed = states layout (parts_at starts pres) offset tag tagged_variants

  of_coroutine : (flag : Bool) → 0 < length all → ((vs : Values) × EachAt (IsValueAt dl locals) (get_or all 0 []) (parts_of_tagged_variant tagged_variants 0) vs) → HaveSome dl prefix_trees starts pres flag →
      MatchBool flag ((v : Value) → IsValueOf dl tree placed v → ⊥) (VectorsHaveValues dl tree → (v : Value) × IsValueOf dl tree placed v)
  of_coroutine true some own h = none
    where
      none : (v : Value) → IsValueOf dl tree placed v → ⊥
      none (state i ps vs) k = h ps k.0
      none (number n) k = k
      none (two n m) k = k
      none (list vs) k = k
      none (variant i vs) k = k
      none (bytes content) k = k
  of_coroutine false some own h = λ c. let prefix = h c.0 in (state 0 prefix.0 own.0, (prefix.1, some, own.1))

  -- a coroutine has no value where some prefix field has none
  pub flag_states : layout.uninhabited ≡ list_any (λ f. f.uninhabited) (map layout_of pres) → 0 < length all → AreApart layout.size starts (map size_of pres) → EachFits dl prefix_trees pres →
      LocalsOfEach dl prefix_trees → ((vs : Values) × EachAt (IsValueAt dl locals) (get_or all 0 []) (parts_of_tagged_variant tagged_variants 0) vs) → IsFlagTrue dl tree placed
  flag_states e some apart fits own_locals own =
      rw e (of_coroutine (list_any (λ f. f.uninhabited) (map layout_of pres)) some own (each_flag dl layout.size prefix_trees starts pres apart fits (flags_true dl prefix_trees pres fits own_locals)))

-- ---- the whole

-- the last of the offsets behind the others
split_last : (offsets : List ℕ) (n : ℕ) → length offsets ≡ n + 1 → take n offsets ++ get_or offsets n 0 ∷ [] ≡ offsets
split_last [] n long = absurd (omega (arith, long))
split_last (x ∷ []) zero long = refl
split_last (x ∷ y ∷ offsets) zero long = absurd (omega (arith, long))
split_last (x ∷ offsets) (suc n) long = ap (λ rest. x ∷ rest) (split_last offsets n (omega (arith, long)))

-- parts take as many offsets as there are types
parts_of_few : (offsets : List ℕ) (ps : List Placed) → parts_at (take (length ps) offsets) ps ≡ parts_at offsets ps
parts_of_few [] [] = refl
parts_of_few (o ∷ offsets) [] = refl
parts_of_few [] (p ∷ ps) = refl
parts_of_few (o ∷ offsets) (p ∷ ps) = ap (part o p) (parts_of_few offsets ps)

-- The calculator's answer to prefix fields, a tag and locals, as it lays them out: the shared fields, of which the tag is the last,
-- lie at the offsets, and each state's locals at those of its layout.
pub record IsStatesLayout (dl : TargetDataLayout) (pres ps : List Placed) (all : List (List ℕ)) (layout : Layout) (offsets : List ℕ) (tag : Scalar) (layouts : List (VariantLayout ℕ)) : Type 0 where
  pub some : 0 < length all
  pub known : All (All (λ k. k < length ps)) all
  pub long : length offsets ≡ length pres + 1
  pub apart : EachStateApart layout.size offsets (map size_of pres ++ scalar_size dl tag ∷ []) ps all layouts
  pub numbers : All (IsNumberOf (scalar_size dl tag) tag) (source_order (length all))
  pub lawful : IsLawfulLayout dl layout
  pub view : layout.backend_repr ≡ Memory true
  pub niche : layout.largest_niche ≡ None
  pub flag : IsFlaggedBy (map layout_of pres) (map layout_of ps) layout.uninhabited

module _ (dl : TargetDataLayout) (prefix_trees locals : Trees) (pres ps : List Placed) (all : List (List ℕ)) (conflicts : List (ℕ × ℕ)) (layout : Layout) (offsets : List ℕ) (tag : Scalar)
    (layouts : List (VariantLayout ℕ)) (laid : IsStatesLayout dl pres ps all layout offsets tag layouts) (prefix_fits : EachFits dl prefix_trees pres) (locals_fit : EachFits dl locals ps) where
  abbrev starts : List ℕ
  starts = take (length pres) offsets

  abbrev offset : ℕ
  offset = get_or offsets (length pres) 0

  abbrev w : ℕ
  w = scalar_size dl tag

  abbrev tagged_variants : TaggedVariants
  tagged_variants = state_tagged_variants layout layouts ps 0 all

  abbrev whole_tree : Tree
  whole_tree = coroutine prefix_trees locals all conflicts

  abbrev whole : Placed
  whole = states layout (parts_at starts pres) offset (one_scalar dl tag) tagged_variants

  same_count : length starts ≡ length pres
  same_count = length-take-le (length pres) offsets (omega (arith, laid.long))

  apart : EachStateApart layout.size (starts ++ offset ∷ []) (map size_of pres ++ w ∷ []) ps all layouts
  apart = subst (λ os. EachStateApart layout.size os (map size_of pres ++ w ∷ []) ps all layouts) (sym (split_last offsets (length pres) laid.long)) laid.apart

  shared : AreApart layout.size starts (map size_of pres) × LieBeside offset w (parts_at starts pres) × (offset + w ≤ layout.size)
  shared = shared_apart dl layout layout.size offset w starts pres same_count locals ps locals_fit all layouts laid.some apart

  room : has_room whole ≡ true
  room =
      both_true (room_of dl layout.size prefix_trees starts pres shared.0 prefix_fits)
      (both_true (both_true (le-leb (offset + w) layout.size shared.2) refl) (state_tagged_variants_room dl layout layout.size offset w starts pres same_count locals ps locals_fit 0 all layouts apart laid.known))

  number_of_state : (i : ℕ) → i < length all → IsNumberOf w tag i
  number_of_state i below =
      let n : ℕ = length all in
      let long : length (source_order n) ≡ n = length-range_with_len 0 n in
      let at : get_or (source_order n) i i ≡ i = get_or-range_with_len 0 n i i below ∙ omega arith in
      subst (IsNumberOf w tag) at (laid.numbers i i (omega (arith, below, long)))

  few : length all ≤ numbers_of w
  few = few_states w tag all number_of_state

  module _ (have : LocalsHaveValues dl whole_tree) where
    fit : StatesFit dl layout.size offset w prefix_trees (parts_at starts pres) locals all tagged_variants
    fit = record {
      first = together dl layout.size prefix_trees starts pres shared.0 prefix_fits have.0;
      beside = shared.1;
      each = state_tagged_variants_fit dl layout layout.size offset w starts pres same_count locals ps locals_fit 0 all layouts apart laid.known have.1;
    }

    flag : layout.uninhabited ≡ list_any (λ f. f.uninhabited) (map layout_of pres)
    flag =
        laid.flag.is ∙ only_first (list_any (λ f. f.uninhabited) (map layout_of pres)) laid.flag.other (list_any (λ f. f.uninhabited) (map layout_of ps)) laid.flag.of_local
        (none_is_flagged dl locals ps locals_fit have.1 have.2)

    faithful : IsFaithful dl whole_tree whole
    faithful = record {
      exists = states_exists dl layout prefix_trees (parts_at starts pres) offset tag locals all conflicts tagged_variants fit shared.2 few;
      only = states_only dl layout prefix_trees (parts_at starts pres) offset tag locals all conflicts tagged_variants fit;
      unique = states_unique dl layout prefix_trees (parts_at starts pres) offset tag locals all conflicts tagged_variants fit few;
      niche = some_niche layout.largest_niche _ (λ n e. absurd (cc (laid.niche, e)));
      inside = some_niche layout.largest_niche _ (λ n e. absurd (cc (laid.niche, e)));
      padding = states_padding dl layout prefix_trees (parts_at starts pres) offset tag locals all conflicts tagged_variants fit;
      view = λ b v h. rw laid.view tt;
      flag = flag_states dl prefix_trees locals all conflicts layout starts pres offset (one_scalar dl tag) tagged_variants flag laid.some shared.0 prefix_fits have.0
          (first_values dl locals ps locals_fit have.2 all laid.known laid.some (parts_of_tagged_variant tagged_variants 0));
    }

  fits_whole : Fits dl whole_tree whole
  fits_whole = record {
    faithful = λ have. faithful have;
    lawful = laid.lawful;
    room = room;
    within = λ k place. within_room whole k room place;
    common = λ have. (
      common_each dl prefix_trees starts pres prefix_fits have.0,
      tt,
      state_tagged_variants_common dl layout layout.size offset w starts pres same_count locals ps locals_fit 0 all layouts laid.known have.1,
    );
    untagged = λ have. (
      untagged_each dl prefix_trees starts pres prefix_fits have.0,
      state_tagged_variants_untagged dl layout layout.size offset w starts pres same_count locals ps locals_fit 0 all layouts laid.known have.1,
    );
  }

  -- a coroutine that a tag distinguishes keeps its values
  pub Fits-states : Fits dl whole_tree (states layout (parts_at offsets pres) offset (one_scalar dl tag) (tagged_variants_at layout Plain 0 layouts (source_order (length all)) (map (picked_types ps) all)))
  Fits-states =
      subst (λ tagged_variants. Fits dl whole_tree (states layout (parts_at offsets pres) offset (one_scalar dl tag) tagged_variants)) (sym (state_tagged_variants_at layout layouts ps 0 all))
      (subst (λ prefix. Fits dl whole_tree (states layout prefix offset (one_scalar dl tag) tagged_variants)) (parts_of_few offsets pres) fits_whole)
