-- Bytes that hold one value agree wherever the value covers one.
use Rattle.std.proofs.Common.{◌≡◌, ℕ, zero, suc, ◌+◌, ◌-◌, ◌*◌, ◌/◌, ◌%◌, ◌^◌, ◌<◌, ◌≤◌, ⊎_elim, inl, inr, List, length, drop, get_or, arith, sym, ap, ap₂, ◌∙◌, subst}
use Rattle.std.specs.Prelude.{Bool, true, ◌==◌, ◌&&◌, ◌||◌, not, nat_le, nat_lt}
use Rattle.std.proofs.lemmas.Bool.{and_parts, or_cases, leb-true, ltb-true, eq-eqb, true≢false}
use Rattle.std.proofs.lemmas.List.{get_or-drop, get_or-take}
use Rattle.abi_base.specs.declared.endian.Endian.{Endian}
use Rattle.abi_base.specs.declared.endian.Endian.TheVariants.{Little, Big}
use Rattle.abi_scalar.specs.declared.variants.TagEncoding.{TagEncoding}
use Rattle.abi_scalar.specs.declared.variants.TagEncoding.TheVariants.{Direct, Niche}
use Rattle.abi_tree.specs.Bytes.{AreBytes, bytes_at, number_of}
use Rattle.abi_tree.specs.Value.{Value, number, two, list, variant, state, bytes, Values, no_values, more_values}
use Rattle.abi_tree.specs.Placed.{Placed, scalar, pair, elements, vector, fields, union, single, tagged, states, Parts, no_parts, part, TaggedVariants, nothing_tagged, tagged_variant, size_of}
use Rattle.abi_tree.specs.Places.{is_data_place}
use Rattle.abi_tree.specs.Tag.{Names, NamesDirectly}
use Rattle.abi_tree.specs.Holding.{IsAt, HoldEach, Holds, HoldParts, HoldTaggedVariant, tag_at}
use Rattle.abi_tree.specs.Covering.{is_tagged, is_byte_at, each_covered, is_covered, are_covered, is_tagged_variant_covered}
use Rattle.abi_tree.specs.Deciding.{CoveredBytesDecide}
use Rattle.abi_tree.proofs.Bytes.BytesLemmas.{AreBytes-bytes_at}
use Rattle.abi_tree.proofs.Bytes.HoldLemmas.{length-bytes_at}
use Rattle.abi_tree.proofs.Bytes.NumberLemmas.{little-byte, big-byte}
use Rattle.abi_tree.proofs.Bytes.PickedLemmas.{picked-agree}

-- both lists have the same byte wherever the test takes one
abbrev Agree : (ℕ → Bool) → (b w : List ℕ) → Type 0
Agree p b w = (k : ℕ) → p k ≡ true → get_or b k 0 ≡ get_or w k 0

-- lists of bytes in P agree wherever the test takes one
abbrev AgreeIn : (ℕ → Bool) → (List ℕ → Type 0) → Type 0
AgreeIn p P = (b w : List ℕ) → AreBytes b → AreBytes w → P b → P w → Agree p b w

-- one number is made of the same bytes
pub same_number : (order : Endian) (b w : List ℕ) → AreBytes b → AreBytes w → length b ≡ length w → number_of order b ≡ number_of order w → (k : ℕ) → k < length b → get_or b k 0 ≡ get_or w k 0
same_number Little b w bb bw long e k lt = sym (little-byte b k bb lt) ∙ ap (λ n. n / 2 ^ (8 * k) % 256) e ∙ little-byte w k bw (omega (arith, long, lt))
same_number Big b w bb bw long e k lt =
    sym (big-byte b k bb lt) ∙ ap₂ (λ n m. n / 2 ^ (8 * (m - 1 - k)) % 256) e long ∙ big-byte w k bw (omega (arith, long, lt))

-- a byte of a slice is the whole's
slice_byte : (b : List ℕ) (offset n k : ℕ) → offset ≤ k → k - offset < n → get_or (bytes_at b offset n) (k - offset) 0 ≡ get_or b k 0
slice_byte b offset n k from lt =
    let back : offset + (k - offset) ≡ k = omega arith in
    get_or-take n (drop offset b) (k - offset) 0 lt ∙ get_or-drop offset b (k - offset) 0 ∙ ap (λ j. get_or b j 0) back

-- lists whose slices agree
agree_at : (offset n : ℕ) (p : ℕ → Bool) (b w : List ℕ) → Agree p (bytes_at b offset n) (bytes_at w offset n) → Agree (λ k. is_byte_at offset n k && p (k - offset)) b w
agree_at offset n p b w same k place =
    let parts = and_parts (is_byte_at offset n k) (p (k - offset)) place in
    let ends = and_parts (nat_le offset k) (nat_lt (k - offset) n) parts.0 in
    let from : offset ≤ k = leb-true offset k ends.0 in
    let lt : k - offset < n = ltb-true (k - offset) n ends.1 in
    sym (slice_byte b offset n k from lt) ∙ same (k - offset) parts.1 ∙ slice_byte w offset n k from lt

-- so it is where each list has a slice in P
agree_part : (offset n : ℕ) (p : ℕ → Bool) (P : List ℕ → Type 0) → AgreeIn p P → AgreeIn (λ k. is_byte_at offset n k && p (k - offset)) (IsAt offset n P)
agree_part offset n p P same b w bb bw h g =
    agree_at offset n p b w (same (bytes_at b offset n) (bytes_at w offset n) (AreBytes-bytes_at b offset n bb) (AreBytes-bytes_at w offset n bw) h.1 g.1)

-- tests that take no more than either of two
agree_or : (p q : ℕ → Bool) (b w : List ℕ) → Agree p b w → Agree q b w → Agree (λ k. p k || q k) b w
agree_or p q b w one other k place = ⊎_elim (λ e. one k e) (λ e. other k e) (or_cases (p k) (q k) place)

agree_each : (P : List ℕ → Value → Type 0) (covered : Value → ℕ → Bool) (n : ℕ) → ((v : Value) → AgreeIn (covered v) (λ b. P b v)) →
    (offset : ℕ) (vs : Values) → AgreeIn (each_covered covered n offset vs) (λ b. HoldEach P n offset b vs)
agree_each P covered n same offset no_values b w bb bw h g = λ k place. absurd (true≢false (sym place))
agree_each P covered n same offset (more_values v vs) b w bb bw h g =
    agree_or (λ k. is_byte_at offset n k && covered v (k - offset)) (each_covered covered n (offset + n) vs) b w
    (agree_part offset n (covered v) (λ slice. P slice v) (same v) b w bb bw h.0 g.0) (agree_each P covered n same (offset + n) vs b w bb bw h.1 g.1)

-- numbers that name one tagged variant directly are equal
one_direct : (width : ℕ) (tagged_variants : TaggedVariants) (t s i : ℕ) → NamesDirectly width tagged_variants t i → NamesDirectly width tagged_variants s i → t ≡ s
one_direct width nothing_tagged t s i h g = absurd h
one_direct width (tagged_variant code layout mark parts tagged_variants) t s zero h g = sym h.1 ∙ g.1
one_direct width (tagged_variant code layout mark parts tagged_variants) t s (suc i) h g = one_direct width tagged_variants t s i h g

untold : (i untagged : ℕ) → i ≡ untagged → not (i == untagged) ≡ true → ⊥
untold i untagged e tag_layout = true≢false (sym tag_layout ∙ ap not (eq-eqb i untagged e))

-- numbers that name a tagged variant which has one of its own are equal
one_number : (encoding : TagEncoding ℕ) (width : ℕ) (tagged_variants : TaggedVariants) (t s i : ℕ) → is_tagged encoding i ≡ true → Names encoding width tagged_variants t i → Names encoding width tagged_variants s i → t ≡ s
one_number Direct width tagged_variants t s i tag_layout h g = one_direct width tagged_variants t s i h g
one_number (Niche untagged span start) width tagged_variants t s i tag_layout (inl h) (inl g) = h.1 ∙ sym g.1
one_number (Niche untagged span start) width tagged_variants t s i tag_layout (inr h) g = absurd (untold i untagged h.0 tag_layout)
one_number (Niche untagged span start) width tagged_variants t s i tag_layout (inl h) (inr g) = absurd (untold i untagged g.0 tag_layout)

module _ (order : Endian) where
  -- tags of one number
  agree_tag : (offset n : ℕ) (b w : List ℕ) → AreBytes b → AreBytes w → offset + n ≤ length b → offset + n ≤ length w → tag_at order b offset n ≡ tag_at order w offset n → Agree (is_byte_at offset n) b w
  agree_tag offset n b w bb bw inb inw e k place =
      let ends = and_parts (nat_le offset k) (nat_lt (k - offset) n) place in
      let from : offset ≤ k = leb-true offset k ends.0 in
      let lt : k - offset < n = ltb-true (k - offset) n ends.1 in
      let longb : length (bytes_at b offset n) ≡ n = omega (arith, length-bytes_at b offset n) in
      let longw : length (bytes_at w offset n) ≡ n = omega (arith, length-bytes_at w offset n) in
      sym (slice_byte b offset n k from lt)
      ∙ same_number order (bytes_at b offset n) (bytes_at w offset n) (AreBytes-bytes_at b offset n bb) (AreBytes-bytes_at w offset n bw) (longb ∙ sym longw) e (k - offset) (omega (arith, longb, lt))
      ∙ slice_byte w offset n k from lt

  mutual
    -- byte lists that hold one value agree at each byte that it covers
    pub agree : (placed : Placed) (v : Value) → AgreeIn (is_covered placed v) (λ b. Holds order placed b v)
    agree (scalar layout s) (number n) b w bb bw h g = λ k place.
        same_number order b w bb bw (h.0 ∙ sym g.0) (sym h.1 ∙ g.1) k (omega (arith, h.0, ltb-true k layout.size place))
    agree (pair layout parts) (two n m) b w bb bw h g = agree_parts parts (more_values (number n) (more_values (number m) no_values)) b w bb bw h.1 g.1
    agree (elements layout count element) (list vs) b w bb bw h g =
        agree_each (Holds order element) (is_covered element) (size_of element) (λ v. agree element v) 0 vs b w bb bw h.2 g.2
    agree (vector layout lanes) (list vs) b w bb bw h g = λ k place.
        let e : k - 0 ≡ k = omega arith in
        agree_part 0 (size_of lanes) (is_covered lanes (list vs)) (λ slice. Holds order lanes slice (list vs)) (agree lanes (list vs)) b w bb bw h.1 g.1 k
        (subst (λ j. (is_byte_at 0 (size_of lanes) k && is_covered lanes (list vs) j) ≡ true) (sym e) place)
    agree (fields layout mark parts) (list vs) b w bb bw h g = agree_parts parts vs b w bb bw h.1 g.1
    agree (union layout mark parts) (bytes content) b w bb bw h g = λ k place.
        let start : 0 + k ≡ k = omega arith in
        picked-agree (is_data_place (union layout mark parts)) 0 b w (h.0 ∙ sym g.0) (sym h.1 ∙ g.1) k (subst (λ j. is_data_place (union layout mark parts) j ≡ true) (sym start) place)
    agree (single layout mark index parts) (variant i vs) b w bb bw h g = agree_parts parts vs b w bb bw h.2 g.2
    agree (tagged layout mark offset tag encoding tagged_variants) (variant i vs) b w bb bw h g =
        agree_or (λ k. is_tagged encoding i && is_byte_at offset (size_of tag) k) (is_tagged_variant_covered tagged_variants i vs) b w
        (λ k place.
        let parts = and_parts (is_tagged encoding i) (is_byte_at offset (size_of tag) k) place in
        agree_tag offset (size_of tag) b w bb bw h.1 g.1 (one_number encoding (size_of tag) tagged_variants _ _ i parts.0 h.2 g.2) k parts.1)
        (agree_tagged_variant tagged_variants i vs b w bb bw h.3 g.3)
    agree (states layout prefix offset tag tagged_variants) (state i ps vs) b w bb bw h g =
        agree_or (are_covered prefix ps) (λ k. is_byte_at offset (size_of tag) k || is_tagged_variant_covered tagged_variants i vs k) b w (agree_parts prefix ps b w bb bw h.1 g.1)
        (agree_or (is_byte_at offset (size_of tag)) (is_tagged_variant_covered tagged_variants i vs) b w
        (agree_tag offset (size_of tag) b w bb bw h.2 g.2 (one_direct (size_of tag) tagged_variants _ _ i h.3 g.3)) (agree_tagged_variant tagged_variants i vs b w bb bw h.4 g.4))
    agree _ _ b w bb bw h g = absurd h

    -- so it is with parts
    agree_parts : (parts : Parts) (vs : Values) → AgreeIn (are_covered parts vs) (λ b. HoldParts order parts b vs)
    agree_parts no_parts vs b w bb bw h g = λ k place. absurd (true≢false (sym place))
    agree_parts (part offset placed parts) no_values b w bb bw h g = absurd h
    agree_parts (part offset placed parts) (more_values v vs) b w bb bw h g =
        agree_or (λ k. is_byte_at offset (size_of placed) k && is_covered placed v (k - offset)) (are_covered parts vs) b w
        (agree_part offset (size_of placed) (is_covered placed v) (λ slice. Holds order placed slice v) (agree placed v) b w bb bw h.0 g.0)
        (agree_parts parts vs b w bb bw h.1 g.1)

    -- and with the parts of a tagged variant
    agree_tagged_variant : (tagged_variants : TaggedVariants) (i : ℕ) (vs : Values) → AgreeIn (is_tagged_variant_covered tagged_variants i vs) (λ b. HoldTaggedVariant order tagged_variants i b vs)
    agree_tagged_variant nothing_tagged i vs b w bb bw h g = absurd h
    agree_tagged_variant (tagged_variant code layout mark parts tagged_variants) zero vs b w bb bw h g = agree_parts parts vs b w bb bw h g
    agree_tagged_variant (tagged_variant code layout mark parts tagged_variants) (suc i) vs b w bb bw h g = agree_tagged_variant tagged_variants i vs b w bb bw h g

  -- so another byte there means another value, or none
  pub covered_decides : (placed : Placed) → CoveredBytesDecide order placed
  covered_decides placed v k covered b w bb bw holds other again = other (agree placed v b w bb bw holds again k covered)
