-- An enum of one variant with a field that lies in the field's niche, with 0 for the other: what is promised of it.
use Rattle.std.proofs.Common.{◌≡◌, ℕ, zero, suc, ◌+◌, ◌-◌, ◌*◌, ◌^◌, ◌%◌, ◌<◌, ◌≤◌, List, length, refl, sym, ap, ap₂, ◌∙◌, subst, arith, inl, inr}
use Rattle.std.specs.Prelude.{◌↔◌, replicate, reverse}
use Rattle.std.proofs.lemmas.List.{ext_get_or, get_or-replicate, get_or-reverse, length-replicate, length-reverse, take_all}
use Rattle.std.proofs.lemmas.Nat.{pow_pos}
use Rattle.std.proofs.Math.Nat.{mod-eq_of_lt}
use Rattle.abi_base.specs.declared.data_layout.TargetDataLayout.{TargetDataLayout}
use Rattle.abi_base.specs.declared.endian.Endian.{Endian}
use Rattle.abi_base.specs.declared.endian.Endian.TheVariants.{Little, Big}
use Rattle.abi_scalar.specs.declared.scalar.Scalar.{Scalar}
use Rattle.abi_scalar.specs.declared.variants.TagEncoding.TheVariants.{Niche}
use Rattle.abi_scalar.specs.Range.{numbers_of}
use Rattle.abi_scalar.specs.Scalar.{IsNumberOf}
use Rattle.abi_tree.specs.declared.mark.Mark.{Mark}
use Rattle.abi_tree.specs.Bytes.{bytes_at, little, number_of}
use Rattle.abi_tree.specs.Holding.{HoldTaggedVariant, HoldParts, Holds}
use Rattle.abi_tree.specs.Placed.{Placed, TaggedVariants, no_parts, part, layout_of, size_of, scalar as one_number, pair as two_numbers, elements, vector as lanes_of, fields, union as together, single, tagged, states as in_states}
use Rattle.abi_scalar.specs.Layout.{Layout}
use Rattle.abi_tree.specs.Tag.{NamesByNiche}
use Rattle.abi_tree.specs.Value.{Value, Values, no_values, more_values, number, two, list, variant, state, bytes}
use Rattle.guarantees.specs.Reference.Words.{Extent, extent_of}
use Rattle.guarantees.specs.Reference.Option.{IsAsLarge, IsNoneZero, IsOneNumber, IsSomeAlike, LeavesOutZero}

-- ---- what each value's bytes have, and bytes of zeros

held_length : (order : Endian) (p : Placed) (b : List ℕ) (v : Value) → Holds order p b v → length b ≡ size_of p
held_length order (one_number layout s) b (number n) h = h.0
held_length order (two_numbers layout parts) b (two m n) h = h.0
held_length order (elements layout count element) b (list vs) h = h.0
held_length order (lanes_of layout lanes) b (list vs) h = h.0
held_length order (fields layout mark parts) b (list vs) h = h.0
held_length order (together layout mark parts) b (bytes content) h = h.0
held_length order (single layout mark index parts) b (variant i vs) h = h.0
held_length order (tagged layout mark offset tag encoding tagged_variants) b (variant i vs) h = h.0
held_length order (in_states layout prefix offset tag tagged_variants) b (state i ps vs) h = h.0
held_length order p b v h = absurd h

-- the bytes from the first to the last are all
pub all_bytes : (b : List ℕ) (n : ℕ) → length b ≡ n → bytes_at b 0 n ≡ b
all_bytes b n long = take_all n b (omega (arith, long))

abbrev zeros : ℕ → List ℕ
zeros n = replicate n 0

zero_little : (n : ℕ) → little (zeros n) ≡ 0
zero_little zero = refl
zero_little (suc n) = let rest = zero_little n in omega (arith, rest)

zero_reversed : (n : ℕ) → reverse (zeros n) ≡ zeros n
zero_reversed n =
    let long : length (reverse (zeros n)) ≡ length (zeros n) = length-reverse (zeros n) in
    let own : length (zeros n) ≡ n = length-replicate n 0 in
    ext_get_or 0 (reverse (zeros n)) (zeros n) long
    (λ i lt. get_or-reverse (zeros n) i 0 (omega (arith, lt, long))
    ∙ get_or-replicate n (length (zeros n) - 1 - i) 0 0 (omega (arith, lt, long, own))
    ∙ sym (get_or-replicate n i 0 0 (omega (arith, lt, long, own))))

zero_number : (order : Endian) (n : ℕ) → number_of order (zeros n) ≡ 0
zero_number Little n = zero_little n
zero_number Big n = ap little (zero_reversed n) ∙ zero_little n

-- ---- the enum, as it was laid out

-- An enum of two variants beside a tag that fills it, whose number `start` names the one without fields.
pub record IsInNiche (dl : TargetDataLayout) (none some : ℕ) (inner whole : Placed) : Type 0 where
  pub layout : Layout
  pub mark : Mark
  pub offset : ℕ
  pub tag : Placed
  pub start : ℕ
  pub tagged_variants : TaggedVariants
  pub is : whole ≡ tagged layout mark offset tag (Niche some (record { start = none; last = none }) start) tagged_variants
  pub at : offset ≡ 0
  pub first : start ≡ 0
  pub wide : size_of tag ≡ size_of inner
  pub size : layout.size ≡ size_of inner
  pub align : layout.align.abi ≡ (layout_of inner).align.abi
  pub two : none ≡ some → ⊥
  pub empty : (b : List ℕ) → HoldTaggedVariant dl.endian tagged_variants none b no_values
  pub full : (b : List ℕ) (vs : Values) → HoldTaggedVariant dl.endian tagged_variants some b vs ↔ HoldParts dl.endian (part 0 inner no_parts) b vs

-- what is promised of it
module _ (dl : TargetDataLayout) (none some : ℕ) (inner whole : Placed) (h : IsInNiche dl none some inner whole) where
  pub as_large : IsAsLarge none some inner whole
  as_large =
      ap extent_of h.is
      ∙ ap₂ (λ (n a : ℕ). let e : Extent = record { size = n; align = 2 ^ a } in e) h.size h.align

  -- the number of the tag, where these bytes are all
  tag_number : (b : List ℕ) → length b ≡ size_of inner → number_of dl.endian (bytes_at b h.offset (size_of h.tag)) ≡ number_of dl.endian b
  tag_number b long =
      ap₂ (λ o n. number_of dl.endian (bytes_at b o n)) h.at h.wide ∙ ap (number_of dl.endian) (all_bytes b (size_of inner) long)

  tag_inside : (b : List ℕ) → length b ≡ size_of inner → h.offset + size_of h.tag ≤ length b
  tag_inside b long = omega (arith, long, h.at, h.wide)

  -- the number that names the variant without fields
  none_number : (width : ℕ) → (h.start + (none - none)) % numbers_of width ≡ 0
  none_number width =
      let sum : h.start + (none - none) ≡ 0 = omega (arith, h.first) in
      ap (λ n. n % numbers_of width) sum ∙ mod-eq_of_lt (pow_pos (8 * width))

  pub none_zero : IsNoneZero dl none some inner whole
  none_zero =
      let b : List ℕ = zeros (size_of whole) in
      let long : length b ≡ size_of inner = length-replicate (size_of whole) 0 ∙ ap size_of h.is ∙ h.size in
      let named : NamesByNiche (size_of h.tag) some none none h.start (number_of dl.endian (bytes_at b h.offset (size_of h.tag))) none =
      inl ((omega arith, omega arith, h.two), tag_number b long ∙ zero_number dl.endian (size_of whole) ∙ sym (none_number (size_of h.tag))) in
      subst (λ p. Holds dl.endian p b (variant none no_values)) (sym h.is)
      (long ∙ sym h.size, tag_inside b long, named, h.empty b)

  pub some_alike : (s : Scalar) → IsOneNumber dl s inner → LeavesOutZero (size_of inner) s → IsSomeAlike dl none some inner whole
  some_alike s one only = λ b v. (
    λ held.
        let long : length b ≡ size_of inner = held_length dl.endian inner b v held in
        let value : IsNumberOf (size_of inner) s (number_of dl.endian b) = one.held b v held in
        let named : NamesByNiche (size_of h.tag) some none none h.start (number_of dl.endian (bytes_at b h.offset (size_of h.tag))) some =
        inr (
          refl,
          λ other spanned is.
              let zero_there : number_of dl.endian b ≡ 0 =
              sym (tag_number b long) ∙ is ∙ ap (λ i. (h.start + (i - none)) % numbers_of (size_of h.tag)) (omega (arith, spanned.0, spanned.1)) ∙ none_number (size_of h.tag) in
              let positive : 0 < 0 = (only 0 (pow_pos (8 * size_of inner))).0 (subst (IsNumberOf (size_of inner) s) zero_there value) in
              omega (arith, positive),
        ) in
        subst (λ p. Holds dl.endian p b (variant some (more_values v no_values))) (sym h.is) (
          long ∙ sym h.size,
          tag_inside b long,
          named,
          (h.full b (more_values v no_values)).1 ((omega (arith, long), subst (λ c. Holds dl.endian inner c v) (sym (all_bytes b (size_of inner) long)) held), tt),
        ),
    λ held.
        let own = subst (λ p. Holds dl.endian p b (variant some (more_values v no_values))) h.is held in
        let long : length b ≡ size_of inner = own.0 ∙ h.size in
        let inside = (h.full b (more_values v no_values)).0 own.3 in
        subst (λ c. Holds dl.endian inner c v) (all_bytes b (size_of inner) long) inside.0.1,
  )
