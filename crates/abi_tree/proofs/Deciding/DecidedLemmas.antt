-- The bytes that a value covers decide that it is held.
use Rattle.std.proofs.Common.{◌≡◌, ℕ, zero, suc, ◌+◌, ◌-◌, ⊎_elim, inl, inr, List, length, drop, get_or, arith, refl, sym, ap, ◌∙◌, subst}
use Rattle.std.specs.Prelude.{Bool, true, ◌==◌, ◌&&◌, ◌||◌}
use Rattle.std.specs.Cmp.Derive.{both_true}
use Rattle.std.proofs.lemmas.Bool.{and_parts, cases_lt, eqb-true, false_from_ne_true, le-leb, lt-ltb, not_from_false, or_left, or_right}
use Rattle.std.proofs.lemmas.List.{get_or-drop, get_or-take, get_or_past}
use Rattle.abi_base.specs.declared.endian.Endian.{Endian}
use Rattle.abi_scalar.specs.declared.variants.TagEncoding.{TagEncoding}
use Rattle.abi_scalar.specs.declared.variants.TagEncoding.TheVariants.{Direct, Niche}
use Rattle.abi_tree.specs.Bytes.{bytes_at, number_of}
use Rattle.abi_tree.specs.Value.{Value, number, two, list, variant, state, bytes, Values, no_values, more_values}
use Rattle.abi_tree.specs.Placed.{Placed, scalar, pair, elements, vector, fields, union, single, tagged, states, Parts, no_parts, part, TaggedVariants, nothing_tagged, tagged_variant, size_of}
use Rattle.abi_tree.specs.Places.{is_data_place}
use Rattle.abi_tree.specs.Tag.{Names, NamesDirectly, NamesByNiche}
use Rattle.abi_tree.specs.Holding.{IsAt, HoldEach, Holds, HoldParts, HoldTaggedVariant, tag_at}
use Rattle.abi_tree.specs.Untagged.{NamesItself, UntaggedNamed, UntaggedNamedOf, UntaggedNamedOfTaggedVariants}
use Rattle.abi_tree.specs.Covering.{is_tagged, is_byte_at, each_covered, is_covered, are_covered, is_tagged_variant_covered}
use Rattle.abi_tree.proofs.Bytes.BytesLemmas.{same_bytes}
use Rattle.abi_tree.proofs.Bytes.HoldLemmas.{length-bytes_at}
use Rattle.abi_tree.proofs.Bytes.PickedLemmas.{picked-same}

-- the lists have the same byte at each place that the test takes
abbrev SameWhere : (ℕ → Bool) → (b w : List ℕ) → Type 0
SameWhere p b w = (k : ℕ) → p k ≡ true → get_or w k 0 ≡ get_or b k 0

-- where one list is in P, so is each of its length that has the same byte at each place that the test takes
abbrev Decide : (ℕ → Bool) → (List ℕ → Type 0) → Type 0
Decide p P = (b w : List ℕ) → length w ≡ length b → P b → SameWhere p b w → P w

module _ (b w : List ℕ) (offset n : ℕ) (long : length w ≡ length b) where
  slices_long : length (bytes_at w offset n) ≡ length (bytes_at b offset n)
  slices_long = omega (arith, length-bytes_at w offset n, length-bytes_at b offset n)

  -- slices are the same where the wholes are
  slices_same : (p : ℕ → Bool) → SameWhere (λ k. is_byte_at offset n k && p (k - offset)) b w → SameWhere p (bytes_at b offset n) (bytes_at w offset n)
  slices_same p same j place =
      ⊎_elim
      (λ lt.
      let at : offset + j - offset ≡ j = omega arith in
      let here = both_true (both_true (le-leb offset (offset + j) (omega arith)) (lt-ltb (offset + j - offset) n (omega arith))) (ap p at ∙ place) in
      get_or-take n (drop offset w) j 0 lt ∙ get_or-drop offset w j 0 ∙ same (offset + j) here
      ∙ sym (get_or-take n (drop offset b) j 0 lt ∙ get_or-drop offset b j 0))
      (λ le.
      get_or_past (bytes_at w offset n) j 0 (omega (arith, length-bytes_at w offset n))
      ∙ sym (get_or_past (bytes_at b offset n) j 0 (omega (arith, length-bytes_at b offset n))))
      (cases_lt j n)

  -- a slice of which each byte is the same
  one_slice : SameWhere (is_byte_at offset n) b w → bytes_at b offset n ≡ bytes_at w offset n
  one_slice same =
      same_bytes (bytes_at b offset n) (bytes_at w offset n) (length (bytes_at b offset n)) refl slices_long
      (λ k lt. sym (slices_same (λ j. true) (λ j place. same j (and_parts (is_byte_at offset n j) true place).0) k refl))

  -- what is decided of a slice is decided of the part there
  decide_at : (p : ℕ → Bool) (P : List ℕ → Type 0) → Decide p P → IsAt offset n P b → SameWhere (λ k. is_byte_at offset n k && p (k - offset)) b w → IsAt offset n P w
  decide_at p P decide h same =
      (omega (arith, long, h.0), decide (bytes_at b offset n) (bytes_at w offset n) slices_long h.1 (slices_same p same))

-- each of the values
decide_each : (P : List ℕ → Value → Type 0) (covered : Value → ℕ → Bool) (n : ℕ) → ((v : Value) → Decide (covered v) (λ b. P b v)) →
    (offset : ℕ) (vs : Values) → Decide (each_covered covered n offset vs) (λ b. HoldEach P n offset b vs)
decide_each P covered n decide offset no_values b w long h same = tt
decide_each P covered n decide offset (more_values v vs) b w long h same = (
  decide_at b w offset n long (covered v) (λ slice. P slice v) (decide v) h.0 (λ k place. same k (or_left _ (each_covered covered n (offset + n) vs k) place)),
  decide_each P covered n decide (offset + n) vs b w long h.1 (λ k place. same k (or_right (is_byte_at offset n k && covered v (k - offset)) _ place)),
)

module _ (order : Endian) where
  -- a number names a tagged variant as before where the bytes of one that it says are the same: one that it doesn't tell names itself
  still_named : (encoding : TagEncoding ℕ) (offset : ℕ) (tag : Placed) (tagged_variants : TaggedVariants) (i : ℕ) (vs : Values) (b w : List ℕ) → NamesItself order offset tag encoding tagged_variants →
      (is_tagged encoding i ≡ true → bytes_at b offset (size_of tag) ≡ bytes_at w offset (size_of tag)) → HoldTaggedVariant order tagged_variants i w vs →
      Names encoding (size_of tag) tagged_variants (tag_at order b offset (size_of tag)) i → Names encoding (size_of tag) tagged_variants (tag_at order w offset (size_of tag)) i
  still_named Direct offset tag tagged_variants i vs b w itself same held h = subst (λ x. NamesDirectly (size_of tag) tagged_variants (number_of order x) i) (same refl) h
  still_named (Niche untagged span start) offset tag tagged_variants i vs b w itself same held (inl h) =
      let tag_layout = not_from_false (i == untagged) (false_from_ne_true (i == untagged) (λ e. h.0.2 (eqb-true i untagged e))) in
      subst (λ x. NamesByNiche (size_of tag) untagged span.start span.last start (number_of order x) i) (same tag_layout) (inl h)
  still_named (Niche untagged span start) offset tag tagged_variants i vs b w itself same held (inr h) =
      subst (NamesByNiche (size_of tag) untagged span.start span.last start (tag_at order w offset (size_of tag))) (sym h.0)
      (itself w vs (subst (λ j. HoldTaggedVariant order tagged_variants j w vs) h.0 held))

  mutual
    -- byte lists of one length that agree at each byte that the value covers: where one holds the value, so does the other
    pub decides : (placed : Placed) → UntaggedNamed order placed → (v : Value) (b w : List ℕ) → length w ≡ length b → Holds order placed b v →
        ((k : ℕ) → is_covered placed v k ≡ true → get_or w k 0 ≡ get_or b k 0) → Holds order placed w v
    decides (scalar layout s) named (number n) b w long h same =
        subst (λ x. Holds order (scalar layout s) x (number n)) (same_bytes b w layout.size h.0 (long ∙ h.0) (λ k lt. sym (same k (lt-ltb k layout.size lt)))) h
    decides (pair layout parts) named (two n m) b w long h same =
        (long ∙ h.0, decides_parts parts named (more_values (number n) (more_values (number m) no_values)) b w long h.1 same)
    decides (elements layout count element) named (list vs) b w long h same =
        (long ∙ h.0, h.1, decide_each (Holds order element) (is_covered element) (size_of element) (λ v. decides element named v) 0 vs b w long h.2 same)
    decides (vector layout lanes) named (list vs) b w long h same = (
      long ∙ h.0,
      decide_at b w 0 (size_of lanes) long (is_covered lanes (list vs)) (λ slice. Holds order lanes slice (list vs)) (decides lanes named (list vs)) h.1
          (λ k place. let e : k - 0 ≡ k = omega arith in same k (subst (λ j. (is_byte_at 0 (size_of lanes) k && is_covered lanes (list vs) j) ≡ true) e place)),
    )
    decides (fields layout mark parts) named (list vs) b w long h same = (long ∙ h.0, decides_parts parts named vs b w long h.1 same)
    decides (union layout mark parts) named (bytes content) b w long h same =
        let p : ℕ → Bool = is_data_place (union layout mark parts) in
        (long ∙ h.0, h.1 ∙ sym (picked-same p 0 w b long (λ k place. let e : 0 + k ≡ k = omega arith in same k (subst (λ j. p j ≡ true) e place))))
    decides (single layout mark index parts) named (variant i vs) b w long h same = (long ∙ h.0, h.1, decides_parts parts named vs b w long h.2 same)
    decides (tagged layout mark offset tag encoding tagged_variants) named (variant i vs) b w long h same =
        let n : ℕ = size_of tag in
        let held : HoldTaggedVariant order tagged_variants i w vs = decides_tagged_variant tagged_variants named.1 i vs b w long h.3 (λ k place. same k (or_right (is_tagged encoding i && is_byte_at offset n k) _ place)) in (
          long ∙ h.0,
          omega (arith, long, h.1),
          still_named encoding offset tag tagged_variants i vs b w named.0
              (λ tag_layout. one_slice b w offset n long (λ k place. same k (or_left _ (is_tagged_variant_covered tagged_variants i vs k) (both_true tag_layout place)))) held h.2,
          held,
        )
    decides (states layout prefix offset tag tagged_variants) named (state i ps vs) b w long h same =
        let n : ℕ = size_of tag in
        let number_same : bytes_at b offset n ≡ bytes_at w offset n =
        one_slice b w offset n long (λ k place. same k (or_right (are_covered prefix ps k) _ (or_left _ (is_tagged_variant_covered tagged_variants i vs k) place))) in (
          long ∙ h.0,
          decides_parts prefix named.0 ps b w long h.1 (λ k place. same k (or_left _ (is_byte_at offset n k || is_tagged_variant_covered tagged_variants i vs k) place)),
          omega (arith, long, h.2),
          subst (λ x. NamesDirectly n tagged_variants (number_of order x) i) number_same h.3,
          decides_tagged_variant tagged_variants named.1 i vs b w long h.4 (λ k place. same k (or_right (are_covered prefix ps k) _ (or_right (is_byte_at offset n k) _ place))),
        )
    decides _ named _ b w long h same = absurd h

    -- so it is with parts
    decides_parts : (parts : Parts) → UntaggedNamedOf order parts → (vs : Values) (b w : List ℕ) → length w ≡ length b → HoldParts order parts b vs →
        ((k : ℕ) → are_covered parts vs k ≡ true → get_or w k 0 ≡ get_or b k 0) → HoldParts order parts w vs
    decides_parts no_parts named no_values b w long h same = tt
    decides_parts no_parts named (more_values v vs) b w long h same = absurd h
    decides_parts (part offset placed parts) named no_values b w long h same = absurd h
    decides_parts (part offset placed parts) named (more_values v vs) b w long h same =
        let n : ℕ = size_of placed in (
          decide_at b w offset n long (is_covered placed v) (λ slice. Holds order placed slice v) (decides placed named.0 v) h.0
              (λ k place. same k (or_left _ (are_covered parts vs k) place)),
          decides_parts parts named.1 vs b w long h.1 (λ k place. same k (or_right (is_byte_at offset n k && is_covered placed v (k - offset)) _ place)),
        )

    -- and with the parts of a tagged variant
    decides_tagged_variant : (tagged_variants : TaggedVariants) → UntaggedNamedOfTaggedVariants order tagged_variants → (i : ℕ) (vs : Values) (b w : List ℕ) → length w ≡ length b → HoldTaggedVariant order tagged_variants i b vs →
        ((k : ℕ) → is_tagged_variant_covered tagged_variants i vs k ≡ true → get_or w k 0 ≡ get_or b k 0) → HoldTaggedVariant order tagged_variants i w vs
    decides_tagged_variant nothing_tagged named i vs b w long h same = absurd h
    decides_tagged_variant (tagged_variant code layout mark parts tagged_variants) named zero vs b w long h same = decides_parts parts named.0 vs b w long h same
    decides_tagged_variant (tagged_variant code layout mark parts tagged_variants) named (suc i) vs b w long h same = decides_tagged_variant tagged_variants named.1 i vs b w long h same
