-- A coroutine distinguished by a tag keeps its values: its prefix fields', its state and that state's locals'.
use Rattle.std.proofs.Common.{◌≡◌, ℕ, ◌+◌, ◌-◌, ◌≤◌, ◌<◌, List, length, arith, sym, ap, ◌∙◌, subst}
use Rattle.std.specs.Prelude.{Bool, true, ◌&&◌, ◌||◌, nat_le, nat_lt}
use Rattle.std.specs.Cmp.Derive.{both_true}
use Rattle.std.proofs.lemmas.Bool.{le-leb, lt-ltb}
use Rattle.std.proofs.Math.Bool.{or-true}
use Rattle.abi_base.specs.declared.data_layout.TargetDataLayout.{TargetDataLayout}
use Rattle.abi_scalar.specs.declared.scalar.Scalar.{Scalar}
use Rattle.abi_scalar.specs.Range.{numbers_of}
use Rattle.abi_scalar.specs.Scalar.{scalar_size, IsNumberOf}
use Rattle.abi_tree.specs.Tree.{Tree, coroutine, Trees}
use Rattle.abi_tree.specs.Bytes.{AreBytes}
use Rattle.abi_tree.specs.Value.{Value, number, two, list, variant, state, bytes}
use Rattle.abi_tree.specs.Placed.{Placed, Parts, TaggedVariants, size_of, states}
use Rattle.abi_scalar.specs.Layout.{Layout}
use Rattle.abi_tree.specs.Places.{is_data_place, is_place_of_part, is_place_of_tagged_variant}
use Rattle.abi_tree.specs.Tag.{NamesDirectly}
use Rattle.abi_tree.specs.Values.{IsValueOf}
use Rattle.abi_tree.specs.Holding.{Holds, HoldTaggedVariant, tag_at}
use Rattle.abi_tree.specs.Faithful.{AgreeOn}
use Rattle.rustc_abi.specs.Laying.{one_scalar}
use Rattle.rustc_abi.proofs.Values.PartsLemmas.{only, unique, padding}
use Rattle.rustc_abi.proofs.Enums.TaggedLemmas.{names_number, names_one, tag_kept}
use Rattle.rustc_abi.proofs.Coroutines.StateTaggedVariantsLemmas.{StatesFit, InState, states_numbers, states_differ, state_only, state_unique, state_padding, in_state}

module _ (dl : TargetDataLayout) (layout : Layout) (prefix_trees : Trees) (prefix : Parts) (offset : ℕ) (tag : Scalar) (locals : Trees) (all : List (List ℕ))
    (conflicts : List (ℕ × ℕ)) (tagged_variants : TaggedVariants) (fit : StatesFit dl layout.size offset (scalar_size dl tag) prefix_trees prefix locals all tagged_variants) where
  abbrev tree : Tree
  tree = coroutine prefix_trees locals all conflicts

  abbrev w : ℕ
  w = scalar_size dl tag

  abbrev placed : Placed
  placed = states layout prefix offset (one_scalar dl tag) tagged_variants

  -- no bytes hold two values, where the tag's width has a number for each state
  pub states_unique : length all ≤ numbers_of (scalar_size dl tag) → (b : List ℕ) (v u : Value) → Holds dl.endian placed b v → Holds dl.endian placed b u → v ≡ u
  states_unique few b (state i ps vs) (state j qs ws) h g =
      let differ = states_differ dl layout.size offset w prefix locals tag 0 all tagged_variants fit.each (omega (arith, few)) in
      let same : i ≡ j = names_one w (tag_at dl.endian b offset w) tagged_variants differ i j h.3 g.3 in
      let here : HoldTaggedVariant dl.endian tagged_variants i b ws = subst (λ k. HoldTaggedVariant dl.endian tagged_variants k b ws) (sym same) g.4 in
      let shared : ps ≡ qs = unique dl layout.size prefix_trees prefix fit.first b ps qs h.1 g.1 in
      let own : vs ≡ ws = state_unique dl layout.size offset w prefix locals 0 all tagged_variants fit.each i b vs ws h.4 here in
      cc
  states_unique few b (state i ps vs) _ h g = absurd g
  states_unique few b (number n) u h g = absurd h
  states_unique few b (two n m) u h g = absurd h
  states_unique few b (list vs) u h g = absurd h
  states_unique few b (variant i vs) u h g = absurd h
  states_unique few b (bytes content) u h g = absurd h

  -- bytes hold only values
  pub states_only : (b : List ℕ) (v : Value) → AreBytes b → Holds dl.endian placed b v → IsValueOf dl tree placed v
  states_only b (state i ps vs) are h =
      let own = state_only dl layout.size offset w prefix locals 0 all tagged_variants fit.each i b vs are h.4 in
      (only dl layout.size prefix_trees prefix fit.first b ps are h.1, own.0, own.1)
  states_only b (number n) are h = absurd h
  states_only b (two n m) are h = absurd h
  states_only b (list vs) are h = absurd h
  states_only b (variant i vs) are h = absurd h
  states_only b (bytes content) are h = absurd h

  -- where bytes hold a value, the number at the tag's place is one of the tag's
  pub states_number : ((i : ℕ) → i < length all → IsNumberOf (scalar_size dl tag) tag i) → (b : List ℕ) (v : Value) → Holds dl.endian placed b v →
      IsNumberOf (scalar_size dl tag) tag (tag_at dl.endian b offset (scalar_size dl tag))
  states_number numbers b (state i ps vs) h =
      names_number w tag (tag_at dl.endian b offset w) tagged_variants (states_numbers dl layout.size offset w prefix locals tag 0 all tagged_variants fit.each (λ k below. let at : k ≡ 0 + k = omega arith in subst (IsNumberOf w tag) at (numbers k below))) i h.3
  states_number numbers b (number n) h = absurd h
  states_number numbers b (two n m) h = absurd h
  states_number numbers b (list vs) h = absurd h
  states_number numbers b (variant i vs) h = absurd h
  states_number numbers b (bytes content) h = absurd h

  abbrev is_place_of_tag : ℕ → Bool
  is_place_of_tag k = nat_le offset k && nat_lt (k - offset) w

  -- each data place of a prefix field is one of the whole
  place_of_prefix : (k : ℕ) → is_place_of_part prefix k ≡ true → is_data_place placed k ≡ true
  place_of_prefix k place = ap (λ x. x || (is_place_of_tag k || is_place_of_tagged_variant tagged_variants k)) place

  -- so is byte j of the tag
  place_of_tag : (j : ℕ) → j < w → is_data_place placed (offset + j) ≡ true
  place_of_tag j below =
      let at : offset + j - offset ≡ j = omega arith in
      let own : is_place_of_tag (offset + j) ≡ true = both_true (le-leb offset (offset + j) (omega arith)) (ap (λ k. nat_lt k w) at ∙ lt-ltb j w below) in
      ap (λ x. is_place_of_part prefix (offset + j) || (x || is_place_of_tagged_variant tagged_variants (offset + j))) own ∙ or-true (is_place_of_part prefix (offset + j))

  -- and each data place of a tagged variant
  place_of_tagged_variant : (k : ℕ) → is_place_of_tagged_variant tagged_variants k ≡ true → is_data_place placed k ≡ true
  place_of_tagged_variant k place =
      ap (λ x. is_place_of_part prefix k || (is_place_of_tag k || x)) place ∙ ap (λ x. is_place_of_part prefix k || x) (or-true (is_place_of_tag k))
      ∙ or-true (is_place_of_part prefix k)

  -- bytes that agree on the data places hold the same values
  pub states_padding : (xs ys : List ℕ) (v : Value) → length xs ≡ size_of placed → length ys ≡ size_of placed → AgreeOn placed xs ys → Holds dl.endian placed xs v → Holds dl.endian placed ys v
  states_padding xs ys (state i ps vs) ex ey agree h =
      let same : length xs ≡ length ys = ex ∙ sym ey in (
        ey,
        padding dl layout.size prefix_trees prefix fit.first xs ys ps same (λ k place. agree k (place_of_prefix k place)) h.1,
        omega (arith, same, h.2),
        subst (λ k. NamesDirectly w tagged_variants k i) (tag_kept dl tag placed offset place_of_tag xs ys same h.2 agree) h.3,
        state_padding dl layout.size offset w prefix locals 0 all tagged_variants fit.each xs ys same (λ k place. agree k (place_of_tagged_variant k place)) i vs h.4,
      )
  states_padding xs ys (number n) ex ey agree h = absurd h
  states_padding xs ys (two n m) ex ey agree h = absurd h
  states_padding xs ys (list vs) ex ey agree h = absurd h
  states_padding xs ys (variant i vs) ex ey agree h = absurd h
  states_padding xs ys (bytes content) ex ey agree h = absurd h

  -- every value has bytes that hold it
  pub states_exists : offset + scalar_size dl tag ≤ layout.size → length all ≤ numbers_of (scalar_size dl tag) → (v : Value) → IsValueOf dl tree placed v →
      (b : List ℕ) × AreBytes b × Holds dl.endian placed b v
  states_exists inside few (state i ps vs) h =
      let found : InState dl layout.size offset w prefix tagged_variants i ps vs =
      in_state dl layout.size offset w prefix_trees prefix locals inside fit.first fit.beside 0 all tagged_variants fit.each (omega (arith, few)) ps h.0 i vs h.1 h.2 in
      let fits : offset + w ≤ length found.content = omega (arith, found.long, inside) in
      (found.content, found.are, (found.long, found.held, fits, found.named, found.own))
  states_exists inside few (number n) h = absurd h
  states_exists inside few (two n m) h = absurd h
  states_exists inside few (list vs) h = absurd h
  states_exists inside few (variant i vs) h = absurd h
  states_exists inside few (bytes content) h = absurd h
