-- The states of a coroutine beside a tag: their locals by their indices, their numbers, and the bytes that hold their values.
use Rattle.std.proofs.Common.{◌≡◌, ℕ, zero, suc, ◌+◌, ◌%◌, ◌≤◌, ◌<◌, List, [], ◌∷◌, length, get_or, arith, sym, ap, ◌∙◌, subst}
use Rattle.std.specs.Prelude.{true, ◌||◌, ⊤}
use Rattle.std.proofs.Math.Bool.{or-true}
use Rattle.std.proofs.Math.Nat.{mod-eq_of_lt}
use Rattle.abi_base.specs.declared.data_layout.TargetDataLayout.{TargetDataLayout}
use Rattle.abi_scalar.specs.declared.scalar.Scalar.{Scalar}
use Rattle.abi_scalar.specs.declared.scalar.Scalar.TheVariants.{Initialized, Union}
use Rattle.abi_scalar.specs.Range.{numbers_of}
use Rattle.abi_scalar.specs.Scalar.{IsNumberOf}
use Rattle.abi_tree.specs.Tree.{Tree, never, Trees, no_trees, more_trees}
use Rattle.abi_tree.specs.Bytes.{AreBytes, bytes_at, number_of}
use Rattle.abi_tree.specs.Value.{Value, Values, no_values, more_values}
use Rattle.abi_tree.specs.Placed.{Placed, Parts, no_parts, part, TaggedVariants, nothing_tagged, tagged_variant, size_of, parts_of_tagged_variant}
use Rattle.abi_tree.specs.Places.{is_place_of_part, is_place_of_tagged_variant}
use Rattle.abi_tree.specs.Tag.{NamesDirectly}
use Rattle.abi_tree.specs.Values.{EachAt, IsValueOf, AreValuesOf, IsValueAt}
use Rattle.abi_tree.specs.Holding.{Holds, HoldParts, HoldTaggedVariant, tag_at}
use Rattle.abi_tree.specs.Faithful.{IsFaithful}
use Rattle.abi_tree.proofs.Bytes.BytesLemmas.{put, length-put, bytes_at-put, AreBytes-put, spelled_in, length-spelled_in, number_of-spelled_in, AreBytes-spelled_in}
use Rattle.abi_tree.proofs.Bytes.HoldLemmas.{length-Holds}
use Rattle.rustc_abi.proofs.Values.PartsLemmas.{LieBeside, FitTogether, HoldParts-beside, exist, only, unique, padding}
use Rattle.rustc_abi.proofs.Enums.TaggedLemmas.{HaveNumbers, IsNoNumber, NumbersDiffer, none_flagged}
use Rattle.rustc_abi.proofs.Enums.EnumLemmas.{in_below}

-- ---- the locals of a state

-- the type with this index; where there is none, one without values
abbrev pub tree_at : Trees → (index : ℕ) → Tree
tree_at no_trees k = never
tree_at (more_trees t ts) zero = t
tree_at (more_trees t ts) (suc k) = tree_at ts k

-- the types with these indices
abbrev pub picked_trees : Trees → (indices : List ℕ) → Trees
picked_trees ts [] = no_trees
picked_trees ts (k ∷ ks) = more_trees (tree_at ts k) (picked_trees ts ks)

module _ (dl : TargetDataLayout) where
  -- a value at an index is one of the type with that index
  value_of : (ts : Trees) (k : ℕ) (placed : Placed) (v : Value) → IsValueAt dl ts k placed v → IsValueOf dl (tree_at ts k) placed v
  value_of no_trees k placed v h = h
  value_of (more_trees t ts) zero placed v h = h
  value_of (more_trees t ts) (suc k) placed v h = value_of ts k placed v h

  pub value_at : (ts : Trees) (k : ℕ) (placed : Placed) (v : Value) → IsValueOf dl (tree_at ts k) placed v → IsValueAt dl ts k placed v
  value_at no_trees k placed v h = h
  value_at (more_trees t ts) zero placed v h = h
  value_at (more_trees t ts) (suc k) placed v h = value_at ts k placed v h

  -- values at indices are those of the types with these indices
  pub values_picked : (ts : Trees) (ks : List ℕ) (parts : Parts) (vs : Values) → EachAt (IsValueAt dl ts) ks parts vs → AreValuesOf dl (picked_trees ts ks) parts vs
  values_picked ts [] parts no_values h = tt
  values_picked ts [] parts (more_values v vs) h = absurd h
  values_picked ts (k ∷ ks) parts no_values h = absurd h
  values_picked ts (k ∷ ks) parts (more_values v vs) h = (value_of ts k _ v h.0, values_picked ts ks _ vs h.1)

  pub values_each : (ts : Trees) (ks : List ℕ) (parts : Parts) (vs : Values) → AreValuesOf dl (picked_trees ts ks) parts vs → EachAt (IsValueAt dl ts) ks parts vs
  values_each ts [] parts no_values h = tt
  values_each ts [] parts (more_values v vs) h = absurd h
  values_each ts (k ∷ ks) parts no_values h = absurd h
  values_each ts (k ∷ ks) parts (more_values v vs) h = (value_at ts k _ v h.0, values_each ts ks _ vs h.1)

-- ---- what fits

-- each part shares no byte with each of the others
abbrev pub AreBeside : (parts others : Parts) → Type 0
AreBeside no_parts others = ⊤
AreBeside (part o placed parts) others = LieBeside o (size_of placed) others × AreBeside parts others

-- each tagged variant has its state's index as number, counted from the first one's on, and its state's locals, which fit together, beside a
-- tag of w bytes at the offset and beside the prefix fields
abbrev pub StateTaggedVariantsFit : TargetDataLayout → (size offset w : ℕ) → (prefix : Parts) → (locals : Trees) → (from : ℕ) → List (List ℕ) → TaggedVariants → Type 0
StateTaggedVariantsFit dl size offset w prefix locals from [] nothing_tagged = ⊤
StateTaggedVariantsFit dl size offset w prefix locals from (ks ∷ more) (tagged_variant n layout mark parts tagged_variants) =
    (n ≡ from) × FitTogether dl size (picked_trees locals ks) parts × LieBeside offset w parts × AreBeside prefix parts
    × StateTaggedVariantsFit dl size offset w prefix locals (from + 1) more tagged_variants
StateTaggedVariantsFit dl size offset w prefix locals from _ _ = ⊥

-- The prefix fields fit together beside a tag of w bytes at the offset, and so do the locals of each state beside both.
pub record StatesFit (dl : TargetDataLayout) (size offset w : ℕ) (prefix_trees : Trees) (prefix : Parts) (locals : Trees) (all : List (List ℕ)) (tagged_variants : TaggedVariants) : Type 0 where
  pub first : FitTogether dl size prefix_trees prefix
  pub beside : LieBeside offset w prefix
  pub each : StateTaggedVariantsFit dl size offset w prefix locals 0 all tagged_variants

-- ---- the numbers of the states

-- a scalar's number is one of its width
pub number_within : (w : ℕ) (tag : Scalar) (n : ℕ) → IsNumberOf w tag n → n < numbers_of w
number_within w (Initialized value range) n h = in_below w range n h
number_within w (Union value) n h = h

module _ (dl : TargetDataLayout) (size offset w : ℕ) (prefix : Parts) (locals : Trees) (tag : Scalar) where
  -- the tagged variants have numbers of the tag where the states' indices are such
  pub states_numbers : (from : ℕ) (all : List (List ℕ)) (tagged_variants : TaggedVariants) → StateTaggedVariantsFit dl size offset w prefix locals from all tagged_variants →
      ((i : ℕ) → i < length all → IsNumberOf w tag (from + i)) → HaveNumbers w tag tagged_variants
  states_numbers from [] nothing_tagged fit numbers = tt
  states_numbers from [] (tagged_variant n layout mark parts tagged_variants) fit numbers = absurd fit
  states_numbers from (ks ∷ all) nothing_tagged fit numbers = absurd fit
  states_numbers from (ks ∷ all) (tagged_variant n layout mark parts tagged_variants) fit numbers =
      let at : from + 0 ≡ n = omega (arith, fit.0) in
      let own : IsNumberOf w tag n = subst (IsNumberOf w tag) at (numbers 0 (omega arith)) in (
        λ clear. subst (IsNumberOf w tag) (sym (mod-eq_of_lt (number_within w tag n own))) own,
        states_numbers (from + 1) all tagged_variants fit.4
            (λ i below. let next : from + suc i ≡ from + 1 + i = omega arith in subst (IsNumberOf w tag) next (numbers (suc i) (omega (arith, below)))),
      )

  -- an earlier number is no tagged variant's
  earlier : (k from : ℕ) (all : List (List ℕ)) (tagged_variants : TaggedVariants) → StateTaggedVariantsFit dl size offset w prefix locals from all tagged_variants → from + length all ≤ numbers_of w → k < from → IsNoNumber w k tagged_variants
  earlier k from [] nothing_tagged fit few before = tt
  earlier k from [] (tagged_variant n layout mark parts tagged_variants) fit few before = absurd fit
  earlier k from (ks ∷ all) nothing_tagged fit few before = absurd fit
  earlier k from (ks ∷ all) (tagged_variant n layout mark parts tagged_variants) fit few before =
      let own : n < numbers_of w = omega (arith, few, fit.0) in
      let cut : n % numbers_of w ≡ n = mod-eq_of_lt own in
      (λ clear same. omega (arith, same, cut, fit.0, before), earlier k (from + 1) all tagged_variants fit.4 (omega (arith, few)) (omega (arith, before)))

  -- no two states have one number
  pub states_differ : (from : ℕ) (all : List (List ℕ)) (tagged_variants : TaggedVariants) → StateTaggedVariantsFit dl size offset w prefix locals from all tagged_variants → from + length all ≤ numbers_of w → NumbersDiffer w tagged_variants
  states_differ from [] nothing_tagged fit few = tt
  states_differ from [] (tagged_variant n layout mark parts tagged_variants) fit few = absurd fit
  states_differ from (ks ∷ all) nothing_tagged fit few = absurd fit
  states_differ from (ks ∷ all) (tagged_variant n layout mark parts tagged_variants) fit few =
      let own : n < numbers_of w = omega (arith, few, fit.0) in
      let cut : n % numbers_of w ≡ n = mod-eq_of_lt own in (
        λ clear. earlier (n % numbers_of w) (from + 1) all tagged_variants fit.4 (omega (arith, few)) (omega (arith, cut, fit.0)),
        states_differ (from + 1) all tagged_variants fit.4 (omega (arith, few)),
      )

-- there are no more states than numbers of the tag's width
pub few_states : (w : ℕ) (tag : Scalar) (all : List (List ℕ)) → ((i : ℕ) → i < length all → IsNumberOf w tag i) → length all ≤ numbers_of w
few_states w tag [] numbers = omega arith
few_states w tag (ks ∷ all) numbers = omega (arith, number_within w tag (length all) (numbers (length all) (omega arith)))

-- ---- each state's tagged variant

module _ (dl : TargetDataLayout) (size offset w : ℕ) (prefix : Parts) (locals : Trees) where
  -- a tagged variant holds only its state's values
  pub state_only : (from : ℕ) (all : List (List ℕ)) (tagged_variants : TaggedVariants) → StateTaggedVariantsFit dl size offset w prefix locals from all tagged_variants → (i : ℕ) (b : List ℕ) (vs : Values) → AreBytes b →
      HoldTaggedVariant dl.endian tagged_variants i b vs → (i < length all) × EachAt (IsValueAt dl locals) (get_or all i []) (parts_of_tagged_variant tagged_variants i) vs
  state_only from [] nothing_tagged fit i b vs are h = absurd h
  state_only from [] (tagged_variant n layout mark parts tagged_variants) fit i b vs are h = absurd fit
  state_only from (ks ∷ all) nothing_tagged fit i b vs are h = absurd fit
  state_only from (ks ∷ all) (tagged_variant n layout mark parts tagged_variants) fit zero b vs are h =
      (omega arith, values_each dl locals ks parts vs (only dl size (picked_trees locals ks) parts fit.1 b vs are h))
  state_only from (ks ∷ all) (tagged_variant n layout mark parts tagged_variants) fit (suc i) b vs are h =
      let rest = state_only (from + 1) all tagged_variants fit.4 i b vs are h in
      (omega (arith, rest.0), rest.1)

  -- no bytes hold two lists of values of one tagged variant
  pub state_unique : (from : ℕ) (all : List (List ℕ)) (tagged_variants : TaggedVariants) → StateTaggedVariantsFit dl size offset w prefix locals from all tagged_variants → (i : ℕ) (b : List ℕ) (vs ws : Values) →
      HoldTaggedVariant dl.endian tagged_variants i b vs → HoldTaggedVariant dl.endian tagged_variants i b ws → vs ≡ ws
  state_unique from [] nothing_tagged fit i b vs ws h g = absurd h
  state_unique from [] (tagged_variant n layout mark parts tagged_variants) fit i b vs ws h g = absurd fit
  state_unique from (ks ∷ all) nothing_tagged fit i b vs ws h g = absurd fit
  state_unique from (ks ∷ all) (tagged_variant n layout mark parts tagged_variants) fit zero b vs ws h g = unique dl size (picked_trees locals ks) parts fit.1 b vs ws h g
  state_unique from (ks ∷ all) (tagged_variant n layout mark parts tagged_variants) fit (suc i) b vs ws h g = state_unique (from + 1) all tagged_variants fit.4 i b vs ws h g

  -- bytes that agree on the tagged variants' data places hold the same values of a tagged variant
  pub state_padding : (from : ℕ) (all : List (List ℕ)) (tagged_variants : TaggedVariants) → StateTaggedVariantsFit dl size offset w prefix locals from all tagged_variants → (xs ys : List ℕ) → length xs ≡ length ys →
      ((k : ℕ) → is_place_of_tagged_variant tagged_variants k ≡ true → get_or xs k 0 ≡ get_or ys k 0) → (i : ℕ) (vs : Values) →
      HoldTaggedVariant dl.endian tagged_variants i xs vs → HoldTaggedVariant dl.endian tagged_variants i ys vs
  state_padding from [] nothing_tagged fit xs ys same agree i vs h = absurd h
  state_padding from [] (tagged_variant n layout mark parts tagged_variants) fit xs ys same agree i vs h = absurd fit
  state_padding from (ks ∷ all) nothing_tagged fit xs ys same agree i vs h = absurd fit
  state_padding from (ks ∷ all) (tagged_variant n layout mark parts tagged_variants) fit xs ys same agree zero vs h =
      padding dl size (picked_trees locals ks) parts fit.1 xs ys vs same (λ k place. agree k (ap (λ x. x || is_place_of_tagged_variant tagged_variants k) place)) h
  state_padding from (ks ∷ all) (tagged_variant n layout mark parts tagged_variants) fit xs ys same agree (suc i) vs h =
      state_padding (from + 1) all tagged_variants fit.4 xs ys same
      (λ k place. agree k (ap (λ x. is_place_of_part parts k || x) place ∙ or-true (is_place_of_part parts k))) i vs h

-- Bytes in which parts hold their values.
record Filled (dl : TargetDataLayout) (size : ℕ) (parts others : Parts) (vs ws : Values) : Type 0 where
  content : List ℕ
  long : length content ≡ size
  are : AreBytes content
  held : HoldParts dl.endian parts content vs
  kept : HoldParts dl.endian others content ws

-- values of parts are put into bytes beside what these hold in other parts
fill : (dl : TargetDataLayout) (size : ℕ) (ts : Trees) (parts : Parts) → FitTogether dl size ts parts → (vs : Values) → AreValuesOf dl ts parts vs →
    (us : Trees) (others : Parts) → AreBeside parts others → (ws : Values) → (b : List ℕ) → length b ≡ size → AreBytes b → HoldParts dl.endian others b ws →
    Filled dl size parts others vs ws
fill dl size no_trees no_parts fit no_values h us others beside ws b long are held = record { content = b; long = long; are = are; held = tt; kept = held }
fill dl size no_trees no_parts fit (more_values v vs) h us others beside ws b long are held = absurd h
fill dl size no_trees (part o placed parts) fit vs h us others beside ws b long are held = absurd fit
fill dl size (more_trees t ts) no_parts fit vs h us others beside ws b long are held = absurd fit
fill dl size (more_trees t ts) (part o placed parts) fit no_values h us others beside ws b long are held = absurd h
fill dl size (more_trees t ts) (part o placed parts) fit (more_values v vs) h us others beside ws b long are held =
    let first = IsFaithful.exists fit.2 v h.0 in
    let own : List ℕ = first.0 in
    let wide : length own ≡ size_of placed = length-Holds dl.endian placed own v first.2 in
    let rest = fill dl size ts parts fit.3 vs h.1 us others beside.1 ws b long are held in
    let fits : o + length own ≤ length rest.content = omega (arith, fit.0, rest.long, wide) in
    let whole = length-put rest.content own o fits in
    let here : bytes_at (put rest.content o own) o (size_of placed) ≡ own =
    ap (bytes_at (put rest.content o own) o) (sym wide) ∙ bytes_at-put rest.content own o fits in
    record {
      content = put rest.content o own;
      long = whole ∙ rest.long;
      are = AreBytes-put rest.content own o rest.are first.1;
      held = (
        (omega (arith, whole, fits, wide), subst (λ x. Holds dl.endian placed x v) (sym here) first.2),
        HoldParts-beside dl ts parts o rest.content own (subst (λ n. LieBeside o n parts) (sym wide) fit.1) fits vs rest.held,
      );
      kept = HoldParts-beside dl us others o rest.content own (subst (λ n. LieBeside o n others) (sym wide) beside.0) fits ws rest.kept;
    }

-- Bytes with the values of the prefix fields and of a state, and with the state's number at the tag's place.
pub record InState (dl : TargetDataLayout) (size offset w : ℕ) (prefix : Parts) (tagged_variants : TaggedVariants) (i : ℕ) (ps vs : Values) : Type 0 where
  pub content : List ℕ
  pub long : length content ≡ size
  pub are : AreBytes content
  pub held : HoldParts dl.endian prefix content ps
  pub named : NamesDirectly w tagged_variants (tag_at dl.endian content offset w) i
  pub own : HoldTaggedVariant dl.endian tagged_variants i content vs

module _ (dl : TargetDataLayout) (size offset w : ℕ) (prefix_trees : Trees) (prefix : Parts) (locals : Trees)
    (inside : offset + w ≤ size) (first : FitTogether dl size prefix_trees prefix) (beside : LieBeside offset w prefix) where
  -- each such values have such bytes
  pub in_state : (from : ℕ) (all : List (List ℕ)) (tagged_variants : TaggedVariants) → StateTaggedVariantsFit dl size offset w prefix locals from all tagged_variants → from + length all ≤ numbers_of w → (ps : Values) →
      AreValuesOf dl prefix_trees prefix ps → (i : ℕ) (vs : Values) → i < length all → EachAt (IsValueAt dl locals) (get_or all i []) (parts_of_tagged_variant tagged_variants i) vs →
      InState dl size offset w prefix tagged_variants i ps vs
  in_state from [] nothing_tagged fit few ps has i vs below h = absurd (omega (arith, below))
  in_state from [] (tagged_variant n layout mark parts tagged_variants) fit few ps has i vs below h = absurd fit
  in_state from (ks ∷ all) nothing_tagged fit few ps has i vs below h = absurd fit
  in_state from (ks ∷ all) (tagged_variant n layout mark parts tagged_variants) fit few ps has zero vs below h =
      let values : AreValuesOf dl (picked_trees locals ks) parts vs = values_picked dl locals ks parts vs h in
      let start = exist dl size (picked_trees locals ks) parts fit.1 vs values in
      let full : Filled dl size prefix parts ps vs = fill dl size prefix_trees prefix first ps has (picked_trees locals ks) parts fit.3 vs start.0 start.1 start.2 start.3 in
      let tag : List ℕ = spelled_in dl.endian w n in
      let wide : length tag ≡ w = length-spelled_in dl.endian w n in
      let fits : offset + length tag ≤ length full.content = omega (arith, inside, full.long, wide) in
      let few_here : n < numbers_of w = omega (arith, few, fit.0) in
      let here : bytes_at (put full.content offset tag) offset w ≡ tag = ap (bytes_at (put full.content offset tag) offset) (sym wide) ∙ bytes_at-put full.content tag offset fits in
      let tag_distinguishes : tag_at dl.endian (put full.content offset tag) offset w ≡ n = ap (number_of dl.endian) here ∙ number_of-spelled_in dl.endian w n few_here in
      record {
        content = put full.content offset tag;
        long = length-put full.content tag offset fits ∙ full.long;
        are = AreBytes-put full.content tag offset full.are (AreBytes-spelled_in dl.endian w n);
        held = HoldParts-beside dl prefix_trees prefix offset full.content tag (subst (λ k. LieBeside offset k prefix) (sym wide) beside) fits ps full.held;
        named = (none_flagged dl size (picked_trees locals ks) parts fit.1 vs values, mod-eq_of_lt few_here ∙ sym tag_distinguishes);
        own = HoldParts-beside dl (picked_trees locals ks) parts offset full.content tag (subst (λ k. LieBeside offset k parts) (sym wide) fit.2) fits vs full.kept;
      }
  in_state from (ks ∷ all) (tagged_variant n layout mark parts tagged_variants) fit few ps has (suc i) vs below h =
      let rest : InState dl size offset w prefix tagged_variants i ps vs = in_state (from + 1) all tagged_variants fit.4 (omega (arith, few)) ps has i vs (omega (arith, below)) h in
      record { content = rest.content; long = rest.long; are = rest.are; held = rest.held; named = rest.named; own = rest.own }
