-- The values of a type that is laid out keep to its data places, and those of a variant or state to the places of that one.
use Rattle.std.proofs.Common.{◌≡◌, ℕ, zero, suc, ◌+◌, ◌-◌, ◌*◌, ◌/◌, ◌%◌, ◌<◌, ◌≤◌, Bool, true, false, List, [], ◌∷◌, Ok}
use Rattle.std.proofs.Common.{All, ap, arith, get_or, length, refl, subst, sym, ◌∙◌, ⊎_elim}
use Rattle.std.specs.Cmp.Derive.{both_true}
use Rattle.std.specs.Prelude.{◌&&◌, ◌||◌, nat_le, nat_lt, not}
use Rattle.std.proofs.lemmas.Bool.{and_parts, leb-true, lt-ltb, ltb-true, or_cases, or_left, or_right, true≢false}
use Rattle.std.proofs.lemmas.List.Elements.{All-head, All-tail, All-weaker}
use Rattle.std.proofs.lemmas.Nat.{div-mul-add, mod-mul-add}
use Rattle.abi_base.specs.declared.data_layout.TargetDataLayout.{TargetDataLayout}
use Rattle.abi_base.specs.declared.endian.Endian.{Endian}
use Rattle.abi_base.specs.DataLayout.{IsLawfulDataLayout}
use Rattle.abi_scalar.specs.declared.scalar.Scalar.{Scalar}
use Rattle.abi_scalar.specs.declared.variants.TagEncoding.{TagEncoding}
use Rattle.abi_scalar.specs.declared.variants.VariantLayout.{VariantLayout}
use Rattle.abi_scalar.specs.Layout.{Layout}
use Rattle.abi_scalar.specs.Simple.{never_layout}
use Rattle.abi_univariant.specs.Array.{elements_layout}
use Rattle.abi_tree.specs.declared.mark.Mark.{Mark}
use Rattle.abi_tree.specs.declared.mark.Mark.TheVariants.{Plain}
use Rattle.abi_tree.specs.Bytes.{bytes_at}
use Rattle.abi_tree.specs.Covering.{are_covered, each_covered, is_tagged_variant_covered, is_byte_at, is_covered, is_tagged}
use Rattle.abi_tree.specs.Holding.{HoldTaggedVariant, HoldEach, HoldParts, Holds}
use Rattle.abi_tree.specs.Nodes.{parts_at, parts_at_0}
use Rattle.abi_tree.specs.Placed.{TaggedVariants, Placed, tagged_variant, elements, fields, layout_of, never, nothing_tagged, pair, parts_of_tagged_variant}
use Rattle.abi_tree.specs.Placed.{single, size_of, states, tagged, union, vector}
use Rattle.abi_tree.specs.Places.{is_data_place, is_place_of_tagged_variant, is_place_of_part}
use Rattle.abi_tree.specs.Runs.{is_place_of_variant}
use Rattle.abi_tree.specs.Tree.{Tree}
use Rattle.abi_tree.specs.Unused.{IsOfVariant, KeepsToPlaces, is_left_unused}
use Rattle.abi_types.specs.Ty.Runs.{IsVariantOfSeveral}
use Rattle.abi_scalar.specs.declared.variants.Variants.TheVariants.{Multiple}
use Rattle.abi_tree.specs.Value.{Value, Values, bytes, list, more_values, no_values, number, state, two, value_count, variant}
use Rattle.rustc_abi.specs.Enums.{tagged_variants_at}
use Rattle.rustc_abi.specs.Laying.{IsLaying, one_scalar}
use Rattle.rustc_abi.proofs.Trees.KindsLemmas.{AreFields, IsKept, laid_kept}

module _ (order : Endian) where
  -- what bytes hold covers data places alone
  abbrev InPlaces : Placed → Type 0
  InPlaces p = (b : List ℕ) (v : Value) → Holds order p b v → (k : ℕ) → is_covered p v k ≡ true → is_data_place p k ≡ true

  abbrev Keeps : Placed → Type 0
  Keeps p = KeepsToPlaces order p

  keep : (ps : List Placed) → All Keeps ps → All InPlaces ps
  keep ps own = All-weaker Keeps InPlaces (λ p one. one.places) ps own

  each_keeps : (variants : List (List Placed)) → All (All Keeps) variants → All (All InPlaces) variants
  each_keeps variants own = All-weaker (All Keeps) (All InPlaces) keep variants own

  -- a place at an offset
  at_place : (p : Placed) → InPlaces p → (b : List ℕ) (v : Value) → Holds order p b v → (o n k : ℕ)
      → (is_byte_at o n k && is_covered p v (k - o)) ≡ true → (nat_le o k && is_data_place p (k - o)) ≡ true
  at_place p own b v held o n k c =
      let both = and_parts (is_byte_at o n k) (is_covered p v (k - o)) c in
      let from = and_parts (nat_le o k) (nat_lt (k - o) n) both.0 in
      both_true from.0 (own b v held (k - o) both.1)

  -- of parts
  in_parts : (offsets : List ℕ) (ps : List Placed) → All InPlaces ps → (b : List ℕ) (vs : Values)
      → HoldParts order (parts_at offsets ps) b vs → (k : ℕ) → are_covered (parts_at offsets ps) vs k ≡ true
      → is_place_of_part (parts_at offsets ps) k ≡ true
  in_parts [] ps own b vs held k c = absurd (true≢false (sym c))
  in_parts (o ∷ offsets) [] own b vs held k c = absurd (true≢false (sym c))
  in_parts (o ∷ offsets) (p ∷ ps) own b no_values held k c = absurd held
  in_parts (o ∷ offsets) (p ∷ ps) own b (more_values v vs) held k c =
      let first = nat_le o k && is_data_place p (k - o) in
      let rest = is_place_of_part (parts_at offsets ps) k in
      ⊎_elim
      (λ here. or_left first rest
      (at_place p (All-head InPlaces p ps own) (bytes_at b o (size_of p)) v held.0.1 o (size_of p) k here))
      (λ later. or_right first rest (in_parts offsets ps (All-tail InPlaces p ps own) b vs held.1 k later))
      (or_cases (is_byte_at o (size_of p) k && is_covered p v (k - o)) (are_covered (parts_at offsets ps) vs k) c)

  -- of elements, from one on
  in_elements : (p : Placed) → InPlaces p → (b : List ℕ) (vs : Values) (i o : ℕ) → o ≡ i * size_of p
      → HoldEach (Holds order p) (size_of p) o b vs → (k : ℕ)
      → each_covered (is_covered p) (size_of p) o vs k ≡ true
      → (nat_lt (k / size_of p) (i + value_count vs) && is_data_place p (k % size_of p)) ≡ true
  in_elements p own b no_values i o at held k c = absurd (true≢false (sym c))
  in_elements p own b (more_values v vs) i o at held k c =
      let n : ℕ = size_of p in
      ⊎_elim
      (λ here.
      let both = and_parts (is_byte_at o n k) (is_covered p v (k - o)) here in
      let from = and_parts (nat_le o k) (nat_lt (k - o) n) both.0 in
      let start : o ≤ k = leb-true o k from.0 in
      let inside : k - o < n = ltb-true (k - o) n from.1 in
      let split : i * n + (k - o) ≡ k = omega (arith, at, start) in
      let which : k / n ≡ i = ap (λ j. j / n) (sym split) ∙ div-mul-add i n (k - o) inside in
      let where_in : k % n ≡ k - o = ap (λ j. j % n) (sym split) ∙ mod-mul-add i n (k - o) inside in
      both_true (lt-ltb (k / n) (i + (value_count vs + 1)) (omega (arith, which)))
      (ap (is_data_place p) where_in ∙ own (bytes_at b o n) v held.0.1 (k - o) both.1))
      (λ later.
      let count : i + 1 + value_count vs ≡ i + (value_count vs + 1) = omega arith in
      subst (λ m. (nat_lt (k / n) m && is_data_place p (k % n)) ≡ true) count
      (in_elements p own b vs (i + 1) (o + n) (omega (arith, at)) held.1 k later))
      (or_cases (is_byte_at o n k && is_covered p v (k - o)) (each_covered (is_covered p) n (o + n) vs k) c)

  -- of the variant or state with this index
  in_tagged_variant : (whole : Layout) (mark : Mark) (from : ℕ) (numbers : List ℕ) (layouts : List (VariantLayout ℕ))
      (variants : List (List Placed)) → All (All InPlaces) variants → (b : List ℕ) (i : ℕ) (vs : Values)
      → HoldTaggedVariant order (tagged_variants_at whole mark from layouts numbers variants) i b vs → (k : ℕ)
      → is_tagged_variant_covered (tagged_variants_at whole mark from layouts numbers variants) i vs k ≡ true
      → is_place_of_part (parts_of_tagged_variant (tagged_variants_at whole mark from layouts numbers variants) i) k ≡ true
  in_tagged_variant whole mark from numbers [] variants own b i vs held k c = absurd held
  in_tagged_variant whole mark from [] (l ∷ layouts) variants own b i vs held k c = absurd held
  in_tagged_variant whole mark from (n ∷ numbers) (l ∷ layouts) [] own b i vs held k c = absurd held
  in_tagged_variant whole mark from (n ∷ numbers) (l ∷ layouts) (ps ∷ variants) own b zero vs held k c =
      in_parts l.field_offsets ps (All-head (All InPlaces) ps variants own) b vs held k c
  in_tagged_variant whole mark from (n ∷ numbers) (l ∷ layouts) (ps ∷ variants) own b (suc i) vs held k c =
      in_tagged_variant whole mark (from + 1) numbers layouts variants (All-tail (All InPlaces) ps variants own) b i vs held k c

  -- a place of one tagged variant is one of the tagged variants
  of_tagged_variants : (tagged_variants : TaggedVariants) (i k : ℕ) → is_place_of_part (parts_of_tagged_variant tagged_variants i) k ≡ true → is_place_of_tagged_variant tagged_variants k ≡ true
  of_tagged_variants nothing_tagged i k place = absurd (true≢false (sym place))
  of_tagged_variants (tagged_variant code layout mark parts tagged_variants) zero k place =
      or_left (is_place_of_part parts k) (is_place_of_tagged_variant tagged_variants k) place
  of_tagged_variants (tagged_variant code layout mark parts tagged_variants) (suc i) k place =
      or_right (is_place_of_part parts k) (is_place_of_tagged_variant tagged_variants k) (of_tagged_variants tagged_variants i k place)

  -- a byte of the tag
  in_tag : (dl : TargetDataLayout) (tag : Scalar) (o k : ℕ) → is_byte_at o (size_of (one_scalar dl tag)) k ≡ true
      → (nat_le o k && is_data_place (one_scalar dl tag) (k - o)) ≡ true
  in_tag dl tag o k c = c

  -- the held tagged variant is one of these
  held_tagged_variant : (whole : Layout) (mark : Mark) (from : ℕ) (numbers : List ℕ) (layouts : List (VariantLayout ℕ))
      (variants : List (List Placed)) (b : List ℕ) (i : ℕ) (vs : Values)
      → HoldTaggedVariant order (tagged_variants_at whole mark from layouts numbers variants) i b vs → i < length layouts
  held_tagged_variant whole mark from numbers [] variants b i vs held = absurd held
  held_tagged_variant whole mark from [] (l ∷ layouts) variants b i vs held = absurd held
  held_tagged_variant whole mark from (n ∷ numbers) (l ∷ layouts) [] b i vs held = absurd held
  held_tagged_variant whole mark from (n ∷ numbers) (l ∷ layouts) (ps ∷ variants) b zero vs held = omega arith
  held_tagged_variant whole mark from (n ∷ numbers) (l ∷ layouts) (ps ∷ variants) b (suc i) vs held =
      let later : i < length layouts = held_tagged_variant whole mark (from + 1) numbers layouts variants b i vs held in
      omega (arith, later)

  -- where no tag distinguishes variants, none leaves a byte unused
  none_left : (place : Bool) → (place && not place) ≡ true → ⊥
  none_left true e = absurd (true≢false (sym e))
  none_left false e = absurd (true≢false (sym e))

  -- a type without a tag that keeps to its places
  keeps_alone : (p : Placed) → ((i k : ℕ) → is_place_of_variant p i k ≡ is_data_place p k) → InPlaces p → Keeps p
  keeps_alone p same by = record {
    places = by;
    own = λ b v held i is k c. same i k ∙ by b v held k c;
    several = λ b v held i is k left.
        absurd (none_left (is_data_place p k) (sym (ap (λ own. is_data_place p k && not own) (same i k)) ∙ left));
  }

  module _ (dl : TargetDataLayout) (law : IsLawfulDataLayout dl) where
    keeps_scalar : (s : Scalar) → Keeps (one_scalar dl s)
    keeps_scalar s = keeps_alone (one_scalar dl s) (λ i k. refl) (λ b v held. by v)
      where
        by : (v : Value) (k : ℕ) → is_covered (one_scalar dl s) v k ≡ true → is_data_place (one_scalar dl s) k ≡ true
        by (number n) k c = c
        by (two n m) k c = absurd (true≢false (sym c))
        by (list vs) k c = absurd (true≢false (sym c))
        by (variant i vs) k c = absurd (true≢false (sym c))
        by (state i ps vs) k c = absurd (true≢false (sym c))
        by (bytes content) k c = absurd (true≢false (sym c))

    keeps_never : (mark : Mark) → Keeps (never (never_layout dl) mark)
    keeps_never mark =
        keeps_alone (never (never_layout dl) mark) (λ i k. refl) (λ b v held k c. absurd (true≢false (sym c)))

    keeps_elements : (count : ℕ) (q : Placed) → Keeps q → Keeps (elements (elements_layout 0 true count (layout_of q)) count q)
    keeps_elements count q kept = keeps_alone (elements (elements_layout 0 true count (layout_of q)) count q) (λ i k. refl) by
      where
        layout : Layout
        layout = elements_layout 0 true count (layout_of q)

        by : InPlaces (elements (elements_layout 0 true count (layout_of q)) count q)
        by b (list vs) held k c =
            let count_is : 0 + value_count vs ≡ count = omega (arith, held.1) in
            subst (λ m. (nat_lt (k / size_of q) m && is_data_place q (k % size_of q)) ≡ true) count_is
            (in_elements q kept.places b vs 0 0 (omega arith) held.2 k c)
        by b (number n) held k c = absurd (true≢false (sym c))
        by b (two n m) held k c = absurd (true≢false (sym c))
        by b (variant i vs) held k c = absurd (true≢false (sym c))
        by b (state i ps vs) held k c = absurd (true≢false (sym c))
        by b (bytes content) held k c = absurd (true≢false (sym c))

    keeps_vector : (layout : Layout) (q : Placed) → AreFields layout (0 ∷ []) (q ∷ []) → Keeps q → Keeps (vector layout q)
    keeps_vector layout q all kept = keeps_alone (vector layout q) (λ i k. refl) by
      where
        by : InPlaces (vector layout q)
        by b (list vs) held k c =
            kept.places (bytes_at b 0 (size_of q)) (list vs) held.1.1 k
            (and_parts (is_byte_at 0 (size_of q) k) (is_covered q (list vs) k) c).1
        by b (number n) held k c = absurd held
        by b (two n m) held k c = absurd held
        by b (variant i vs) held k c = absurd held
        by b (state i ps vs) held k c = absurd held
        by b (bytes content) held k c = absurd held

    keeps_pair : (layout : Layout) (offsets : List ℕ) (ps : List Placed) → AreFields layout offsets ps → All Keeps ps
        → Keeps (pair layout (parts_at offsets ps))
    keeps_pair layout offsets ps all kept = keeps_alone (pair layout (parts_at offsets ps)) (λ i k. refl) by
      where
        by : InPlaces (pair layout (parts_at offsets ps))
        by b (two n m) held k c =
            in_parts offsets ps (keep ps kept) b (more_values (number n) (more_values (number m) no_values)) held.1 k c
        by b (number n) held k c = absurd held
        by b (list vs) held k c = absurd held
        by b (variant i vs) held k c = absurd held
        by b (state i ps vs) held k c = absurd held
        by b (bytes content) held k c = absurd held

    keeps_fields : (layout : Layout) (mark : Mark) (offsets : List ℕ) (ps : List Placed) → AreFields layout offsets ps
        → All Keeps ps → Keeps (fields layout mark (parts_at offsets ps))
    keeps_fields layout mark offsets ps all kept = keeps_alone (fields layout mark (parts_at offsets ps)) (λ i k. refl) by
      where
        by : InPlaces (fields layout mark (parts_at offsets ps))
        by b (list vs) held k c = in_parts offsets ps (keep ps kept) b vs held.1 k c
        by b (number n) held k c = absurd held
        by b (two n m) held k c = absurd held
        by b (variant i vs) held k c = absurd held
        by b (state i ps vs) held k c = absurd held
        by b (bytes content) held k c = absurd held

    keeps_single : (layout : Layout) (mark : Mark) (index : ℕ) (offsets : List ℕ) (ps : List Placed)
        → AreFields layout offsets ps → All Keeps ps → Keeps (single layout mark index (parts_at offsets ps))
    keeps_single layout mark index offsets ps all kept = keeps_alone (single layout mark index (parts_at offsets ps)) (λ i k. refl) by
      where
        by : InPlaces (single layout mark index (parts_at offsets ps))
        by b (variant i vs) held k c = in_parts offsets ps (keep ps kept) b vs held.2 k c
        by b (number n) held k c = absurd held
        by b (two n m) held k c = absurd held
        by b (list vs) held k c = absurd held
        by b (state i ps vs) held k c = absurd held
        by b (bytes content) held k c = absurd held

    keeps_union : (layout : Layout) (mark : Mark) (ps : List Placed) → All Keeps ps → Keeps (union layout mark (parts_at_0 ps))
    keeps_union layout mark ps kept = keeps_alone (union layout mark (parts_at_0 ps)) (λ i k. refl) by
      where
        by : InPlaces (union layout mark (parts_at_0 ps))
        by b (bytes content) held k c = c
        by b (number n) held k c = absurd held
        by b (two n m) held k c = absurd held
        by b (list vs) held k c = absurd held
        by b (variant i vs) held k c = absurd held
        by b (state i ps vs) held k c = absurd held

    -- variants and states behind prefix fields and a tag
    module _ (whole : Layout) (mark : Mark) (numbers : List ℕ) (layouts : List (VariantLayout ℕ))
        (variants : List (List Placed)) (kept : All (All Keeps) variants) (tag : Scalar) (o : ℕ)
        (encoding : TagEncoding ℕ) (field : ℕ) (tag_distinguishes : whole.variants ≡ Multiple tag encoding field layouts) where
      abbrev tagged_variants : TaggedVariants
      tagged_variants = tagged_variants_at whole mark 0 layouts numbers variants

      abbrev of_tag : ℕ → Bool
      of_tag k = nat_le o k && is_data_place (one_scalar dl tag) (k - o)

      -- bytes of the tag, where they are covered, and of the tagged variant
      in_tagged_variant_or_tag : (named : Bool) (b : List ℕ) (i : ℕ) (vs : Values) → HoldTaggedVariant order tagged_variants i b vs → (k : ℕ)
          → ((named && is_byte_at o (size_of (one_scalar dl tag)) k) || is_tagged_variant_covered tagged_variants i vs k) ≡ true
          → (of_tag k || is_place_of_part (parts_of_tagged_variant tagged_variants i) k) ≡ true
      in_tagged_variant_or_tag named b i vs held k c =
          let rest = is_place_of_part (parts_of_tagged_variant tagged_variants i) k in
          ⊎_elim
          (λ here. or_left (of_tag k) rest
          (in_tag dl tag o k (and_parts named (is_byte_at o (size_of (one_scalar dl tag)) k) here).1))
          (λ later. or_right (of_tag k) rest
          (in_tagged_variant whole mark 0 numbers layouts variants (each_keeps variants kept) b i vs held k later))
          (or_cases (named && is_byte_at o (size_of (one_scalar dl tag)) k) (is_tagged_variant_covered tagged_variants i vs k) c)

      -- the tagged variant is one of several
      of_several : (b : List ℕ) (i : ℕ) (vs : Values) → HoldTaggedVariant order tagged_variants i b vs → IsVariantOfSeveral whole.variants i
      of_several b i vs held =
          subst (λ all. IsVariantOfSeveral all i) (sym tag_distinguishes) (held_tagged_variant whole mark 0 numbers layouts variants b i vs held)

      -- which are places of the whole
      in_whole : (i k : ℕ) → (of_tag k || is_place_of_part (parts_of_tagged_variant tagged_variants i) k) ≡ true
          → (of_tag k || is_place_of_tagged_variant tagged_variants k) ≡ true
      in_whole i k place =
          ⊎_elim (λ here. or_left (of_tag k) (is_place_of_tagged_variant tagged_variants k) here)
          (λ later. or_right (of_tag k) (is_place_of_tagged_variant tagged_variants k) (of_tagged_variants tagged_variants i k later))
          (or_cases (of_tag k) (is_place_of_part (parts_of_tagged_variant tagged_variants i) k) place)

      keeps_tagged : (way : TagEncoding ℕ) → Keeps (tagged whole mark o (one_scalar dl tag) way tagged_variants)
      keeps_tagged way = record { places = by; own = own_by; several = several_by }
        where
          own_by : (b : List ℕ) (v : Value) → Holds order (tagged whole mark o (one_scalar dl tag) way tagged_variants) b v
              → (i : ℕ) → IsOfVariant v i → (k : ℕ)
              → is_covered (tagged whole mark o (one_scalar dl tag) way tagged_variants) v k ≡ true
              → (of_tag k || is_place_of_part (parts_of_tagged_variant tagged_variants i) k) ≡ true
          own_by b (variant j vs) held i is k c =
              subst (λ n. (of_tag k || is_place_of_part (parts_of_tagged_variant tagged_variants n) k) ≡ true) is
              (in_tagged_variant_or_tag (is_tagged way j) b j vs held.3 k c)
          own_by b (number n) held i is k c = absurd held
          own_by b (two n m) held i is k c = absurd held
          own_by b (list vs) held i is k c = absurd held
          own_by b (state j ps vs) held i is k c = absurd held
          own_by b (bytes content) held i is k c = absurd held

          several_by : (b : List ℕ) (v : Value) → Holds order (tagged whole mark o (one_scalar dl tag) way tagged_variants) b v
              → (i : ℕ) → IsOfVariant v i → (k : ℕ)
              → is_left_unused (tagged whole mark o (one_scalar dl tag) way tagged_variants) i k ≡ true
              → IsVariantOfSeveral whole.variants i
          several_by b (variant j vs) held i is k left =
              subst (IsVariantOfSeveral whole.variants) is (of_several b j vs held.3)
          several_by b (number n) held i is k left = absurd held
          several_by b (two n m) held i is k left = absurd held
          several_by b (list vs) held i is k left = absurd held
          several_by b (state j ps vs) held i is k left = absurd held
          several_by b (bytes content) held i is k left = absurd held

          by : InPlaces (tagged whole mark o (one_scalar dl tag) way tagged_variants)
          by b (variant i vs) held k c = in_whole i k (in_tagged_variant_or_tag (is_tagged way i) b i vs held.3 k c)
          by b (number n) held k c = absurd held
          by b (two n m) held k c = absurd held
          by b (list vs) held k c = absurd held
          by b (state i ps vs) held k c = absurd held
          by b (bytes content) held k c = absurd held

      keeps_states : (offsets : List ℕ) (pres : List Placed) → All Keeps pres
          → Keeps (states whole (parts_at offsets pres) o (one_scalar dl tag) tagged_variants)
      keeps_states offsets pres before = record { places = by; own = own_by; several = several_by }
        where
          own_of : (b : List ℕ) (i : ℕ) (ps vs : Values) → HoldParts order (parts_at offsets pres) b ps → HoldTaggedVariant order tagged_variants i b vs
              → (k : ℕ) → is_covered (states whole (parts_at offsets pres) o (one_scalar dl tag) tagged_variants) (state i ps vs) k ≡ true
              → (is_place_of_part (parts_at offsets pres) k || (of_tag k || is_place_of_part (parts_of_tagged_variant tagged_variants i) k)) ≡ true
          own_of b i ps vs first held k c =
              let start = is_place_of_part (parts_at offsets pres) k in
              let rest = of_tag k || is_place_of_part (parts_of_tagged_variant tagged_variants i) k in
              ⊎_elim
              (λ here. or_left start rest (in_parts offsets pres (keep pres before) b ps first k here))
              (λ later. or_right start rest (in_tagged_variant_or_tag true b i vs held k later))
              (or_cases (are_covered (parts_at offsets pres) ps k)
              (is_byte_at o (size_of (one_scalar dl tag)) k || is_tagged_variant_covered tagged_variants i vs k) c)

          own_by : (b : List ℕ) (v : Value) → Holds order (states whole (parts_at offsets pres) o (one_scalar dl tag) tagged_variants) b v
              → (i : ℕ) → IsOfVariant v i → (k : ℕ)
              → is_covered (states whole (parts_at offsets pres) o (one_scalar dl tag) tagged_variants) v k ≡ true
              → (is_place_of_part (parts_at offsets pres) k || (of_tag k || is_place_of_part (parts_of_tagged_variant tagged_variants i) k)) ≡ true
          own_by b (state j ps vs) held i is k c =
              subst (λ n. (is_place_of_part (parts_at offsets pres) k || (of_tag k || is_place_of_part (parts_of_tagged_variant tagged_variants n) k)) ≡ true) is
              (own_of b j ps vs held.1 held.4 k c)
          own_by b (number n) held i is k c = absurd held
          own_by b (two n m) held i is k c = absurd held
          own_by b (list vs) held i is k c = absurd held
          own_by b (variant j vs) held i is k c = absurd held
          own_by b (bytes content) held i is k c = absurd held

          several_by : (b : List ℕ) (v : Value) → Holds order (states whole (parts_at offsets pres) o (one_scalar dl tag) tagged_variants) b v
              → (i : ℕ) → IsOfVariant v i → (k : ℕ)
              → is_left_unused (states whole (parts_at offsets pres) o (one_scalar dl tag) tagged_variants) i k ≡ true
              → IsVariantOfSeveral whole.variants i
          several_by b (state j ps vs) held i is k left =
              subst (IsVariantOfSeveral whole.variants) is (of_several b j vs held.4)
          several_by b (number n) held i is k left = absurd held
          several_by b (two n m) held i is k left = absurd held
          several_by b (list vs) held i is k left = absurd held
          several_by b (variant j vs) held i is k left = absurd held
          several_by b (bytes content) held i is k left = absurd held

          by : InPlaces (states whole (parts_at offsets pres) o (one_scalar dl tag) tagged_variants)
          by b (state i ps vs) held k c =
              let start = is_place_of_part (parts_at offsets pres) k in
              let rest = of_tag k || is_place_of_tagged_variant tagged_variants k in
              ⊎_elim (λ here. or_left start rest here) (λ later. or_right start rest (in_whole i k later))
              (or_cases start (of_tag k || is_place_of_part (parts_of_tagged_variant tagged_variants i) k) (own_of b i ps vs held.1 held.4 k c))
          by b (number n) held k c = absurd held
          by b (two n m) held k c = absurd held
          by b (list vs) held k c = absurd held
          by b (variant i vs) held k c = absurd held
          by b (bytes content) held k c = absurd held

    kept : IsKept dl Keeps
    kept = record {
      of_scalar = keeps_scalar;
      of_never = keeps_never;
      of_elements = λ count q lawful own. keeps_elements count q own;
      of_vector = keeps_vector;
      of_pair = keeps_pair;
      of_fields = keeps_fields;
      of_single = keeps_single;
      of_union = λ layout mark ps shape alone one own. keeps_union layout mark ps own;
      of_tagged = λ layout mark offset tag encoding numbers layouts variants beside seen own.
          keeps_tagged layout mark numbers layouts variants own tag offset beside.encoding beside.field beside.tag_distinguishes encoding;
      of_states = λ layout offsets pres tag numbers layouts variants beside none front own.
          keeps_states layout Plain numbers layouts variants own tag (get_or offsets (length pres) 0) beside.encoding beside.field
          beside.tag_distinguishes offsets pres front;
    }

    -- the values of each type that is laid out keep to its places
    pub laid_own_places : (t : Tree) (p : Placed) → IsLaying dl t (Ok p) → KeepsToPlaces order p
    laid_own_places t p h = laid_kept dl law Keeps kept t p h
