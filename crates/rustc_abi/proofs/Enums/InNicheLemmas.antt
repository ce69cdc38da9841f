-- An enum distinguished by a niche of its untagged variant keeps its values.
use Rattle.std.proofs.Common.{◌≡◌, ◌≢◌, ℕ, zero, suc, ◌+◌, ◌-◌, ◌*◌, ◌/◌, ◌%◌, ◌≤◌, ◌<◌, inl, inr, List, length, get_or, arith, refl, sym, ap, ◌∙◌, subst}
use Rattle.std.specs.Prelude.{Bool, true, false, ◌==◌, ◌&&◌, ◌||◌, nat_le, ⊤}
use Rattle.std.specs.Cmp.Derive.{both_true}
use Rattle.std.proofs.lemmas.Bool.{cases_lt, le-leb, eqb-true, eqb-false}
use Rattle.std.proofs.lemmas.Nat.{mod_below, pow_pos}
use Rattle.std.proofs.Math.Bool.{or-true}
use Rattle.std.proofs.Math.Nat.{mul-le-mul_left}
use Rattle.abi_base.specs.declared.data_layout.TargetDataLayout.{TargetDataLayout}
use Rattle.abi_scalar.specs.declared.niche.Niche.{Niche}
use Rattle.abi_scalar.specs.declared.repr.ReprOptions.{ReprOptions}
use Rattle.abi_scalar.specs.declared.variants.TagEncoding.TheVariants.{Niche as InNiche}
use Rattle.abi_scalar.specs.declared.wrapping_range.WrappingRange.{WrappingRange}
use Rattle.abi_scalar.specs.Range.{numbers_of, IsIn}
use Rattle.abi_scalar.specs.Niche.{niche_size}
use Rattle.abi_scalar.specs.Reserve.{HandsOut}
use Rattle.abi_tree.specs.Tree.{Tree, enum, Variants, no_variants, more_variants}
use Rattle.abi_tree.specs.Bytes.{AreBytes, bytes_at, number_of}
use Rattle.abi_tree.specs.Value.{Value, variant, Values}
use Rattle.abi_tree.specs.Mark.{mark_of}
use Rattle.abi_tree.specs.Placed.{Placed, TaggedVariants, nothing_tagged, tagged_variant, size_of, tagged, parts_of_tagged_variant, is_flagged}
use Rattle.abi_scalar.specs.Layout.{Layout}
use Rattle.abi_tree.specs.Places.{is_data_place, is_place_of_part, is_place_of_tagged_variant}
use Rattle.abi_tree.specs.Tag.{NamesByNiche, niche_number}
use Rattle.abi_tree.specs.Values.{IsValueOf, AreValuesOfVariant}
use Rattle.abi_tree.specs.Holding.{Holds, HoldTaggedVariant, tag_at}
use Rattle.abi_tree.specs.Faithful.{AgreeOn}
use Rattle.abi_tree.specs.Untagged.{NamesItself}
use Rattle.abi_tree.proofs.Bytes.BytesLemmas.{put, length-put, bytes_at-put, AreBytes-put, same_bytes, spelled_in, length-spelled_in, number_of-spelled_in, AreBytes-spelled_in}
use Rattle.abi_tree.proofs.Bytes.HoldLemmas.{length-bytes_at, AgreeOn-bytes_at}
use Rattle.rustc_abi.proofs.Values.PartsLemmas.{LieBeside, FitTogether, HoldParts-beside, exist, only, unique, padding}
use Rattle.rustc_abi.proofs.Values.FieldsLemmas.{IsPartNiche, part_niche}
use Rattle.rustc_abi.proofs.Enums.TaggedLemmas.{none_flagged}

-- each tagged variant, counted up from an index, has its variant's number and fields, which fit together; those of each but the untagged one lie
-- beside a niche of w bytes at the offset
abbrev pub TaggedVariantsBeside : TargetDataLayout → (size offset w untagged from : ℕ) → Variants → TaggedVariants → Type 0
TaggedVariantsBeside dl size offset w untagged from no_variants nothing_tagged = ⊤
TaggedVariantsBeside dl size offset w untagged from (more_variants d ts others) (tagged_variant n layout mark parts tagged_variants) =
    (n ≡ d) × FitTogether dl size ts parts × ((from == untagged) ≡ false → LieBeside offset w parts)
    × TaggedVariantsBeside dl size offset w untagged (from + 1) others tagged_variants
TaggedVariantsBeside dl size offset w untagged from _ _ = ⊥

-- there is a tagged variant with this index
abbrev pub IsThere : TaggedVariants → (index : ℕ) → Type 0
IsThere nothing_tagged i = ⊥
IsThere (tagged_variant n layout mark parts tagged_variants) zero = ⊤
IsThere (tagged_variant n layout mark parts tagged_variants) (suc i) = IsThere tagged_variants i

-- each tagged variant that isn't flagged is the untagged one or lies in the span
abbrev pub AreSpanned : (untagged first last : ℕ) → TaggedVariants → Type 0
AreSpanned untagged first last tagged_variants =
    (i : ℕ) → IsThere tagged_variants i → i ≢ untagged → is_flagged (parts_of_tagged_variant tagged_variants i) ≡ false → (first ≤ i) × (i ≤ last)

-- fewer steps than there are numbers, and others, lead from one number to different ones
steps_once : (all start a b : ℕ) → a < all → b < all → (start + a) % all ≡ (start + b) % all → a ≡ b
steps_once all start a b below_a below_b same =
    let q : ℕ = (start + a) / all in
    let r : ℕ = (start + b) / all in
    elim (cases_lt q r) [
      | inl less ↦
          let more : all * (q + 1) ≤ all * r = mul-le-mul_left all (omega (arith, less)) in
          absurd (omega (arith, same, more, below_a, below_b))
      | inr le ↦ elim (cases_lt r q) [
        | inl less ↦
            let more : all * (r + 1) ≤ all * q = mul-le-mul_left all (omega (arith, less)) in
            absurd (omega (arith, same, more, below_a, below_b))
        | inr ge ↦
            let equal : q ≡ r = omega (arith, le, ge) in
            let times : all * q ≡ all * r = ap (λ x. all * x) equal in
            omega (arith, same, times, below_a, below_b)
      ]
    ]

-- a number names one variant, where the span has no more variants than there are numbers
niche_names_one : (w untagged first last start k : ℕ) → last - first + 1 ≤ numbers_of w → (i j : ℕ) →
    NamesByNiche w untagged first last start k i → NamesByNiche w untagged first last start k j → i ≡ j
niche_names_one w untagged first last start k few i j h g =
    elim h [
      | inl a ↦ elim g [
        | inl b ↦
            let same : i - first ≡ j - first =
            steps_once (numbers_of w) start (i - first) (j - first) (omega (arith, few, a.0.0, a.0.1)) (omega (arith, few, b.0.0, b.0.1)) (sym a.1 ∙ b.1) in
            omega (arith, same, a.0.0, b.0.0)
        | inr b ↦ absurd (b.1 i a.0 a.1)
      ]
      | inr a ↦ elim g [ inl b ↦ absurd (a.1 j b.0 b.1) | inr b ↦ a.0 ∙ sym b.0 ]
    ]

module _ (dl : TargetDataLayout) (size offset w untagged : ℕ) where
  -- a tagged variant holds only its variant's values
  tagged_variant_only : (from : ℕ) (all : Variants) (tagged_variants : TaggedVariants) → TaggedVariantsBeside dl size offset w untagged from all tagged_variants → (i : ℕ) (b : List ℕ) (vs : Values) → AreBytes b →
      HoldTaggedVariant dl.endian tagged_variants i b vs → AreValuesOfVariant dl all i (parts_of_tagged_variant tagged_variants i) vs
  tagged_variant_only from no_variants nothing_tagged fit i b vs are h = h
  tagged_variant_only from no_variants (tagged_variant n layout mark parts tagged_variants) fit i b vs are h = absurd fit
  tagged_variant_only from (more_variants d ts others) nothing_tagged fit i b vs are h = absurd fit
  tagged_variant_only from (more_variants d ts others) (tagged_variant n layout mark parts tagged_variants) fit zero b vs are h = only dl size ts parts fit.1 b vs are h
  tagged_variant_only from (more_variants d ts others) (tagged_variant n layout mark parts tagged_variants) fit (suc i) b vs are h = tagged_variant_only (from + 1) others tagged_variants fit.3 i b vs are h

  -- no bytes hold two lists of values of one tagged variant
  tagged_variant_unique : (from : ℕ) (all : Variants) (tagged_variants : TaggedVariants) → TaggedVariantsBeside dl size offset w untagged from all tagged_variants → (i : ℕ) (b : List ℕ) (vs ws : Values) →
      HoldTaggedVariant dl.endian tagged_variants i b vs → HoldTaggedVariant dl.endian tagged_variants i b ws → vs ≡ ws
  tagged_variant_unique from no_variants nothing_tagged fit i b vs ws h g = absurd h
  tagged_variant_unique from no_variants (tagged_variant n layout mark parts tagged_variants) fit i b vs ws h g = absurd fit
  tagged_variant_unique from (more_variants d ts others) nothing_tagged fit i b vs ws h g = absurd fit
  tagged_variant_unique from (more_variants d ts others) (tagged_variant n layout mark parts tagged_variants) fit zero b vs ws h g = unique dl size ts parts fit.1 b vs ws h g
  tagged_variant_unique from (more_variants d ts others) (tagged_variant n layout mark parts tagged_variants) fit (suc i) b vs ws h g = tagged_variant_unique (from + 1) others tagged_variants fit.3 i b vs ws h g

  -- bytes that agree on the tagged variants' data places hold the same values of a tagged variant
  tagged_variant_padding : (from : ℕ) (all : Variants) (tagged_variants : TaggedVariants) → TaggedVariantsBeside dl size offset w untagged from all tagged_variants → (xs ys : List ℕ) → length xs ≡ length ys →
      ((k : ℕ) → is_place_of_tagged_variant tagged_variants k ≡ true → get_or xs k 0 ≡ get_or ys k 0) → (i : ℕ) (vs : Values) →
      HoldTaggedVariant dl.endian tagged_variants i xs vs → HoldTaggedVariant dl.endian tagged_variants i ys vs
  tagged_variant_padding from no_variants nothing_tagged fit xs ys same agree i vs h = h
  tagged_variant_padding from no_variants (tagged_variant n layout mark parts tagged_variants) fit xs ys same agree i vs h = absurd fit
  tagged_variant_padding from (more_variants d ts others) nothing_tagged fit xs ys same agree i vs h = absurd fit
  tagged_variant_padding from (more_variants d ts others) (tagged_variant n layout mark parts tagged_variants) fit xs ys same agree zero vs h =
      padding dl size ts parts fit.1 xs ys vs same (λ k place. agree k (ap (λ x. x || is_place_of_tagged_variant tagged_variants k) place)) h
  tagged_variant_padding from (more_variants d ts others) (tagged_variant n layout mark parts tagged_variants) fit xs ys same agree (suc i) vs h =
      tagged_variant_padding (from + 1) others tagged_variants fit.3 xs ys same
      (λ k place. agree k (ap (λ x. is_place_of_part parts k || x) place ∙ or-true (is_place_of_part parts k))) i vs h

  -- where bytes hold values of a tagged variant, a niche of its parts is true
  tagged_variant_niche : (from : ℕ) (all : Variants) (tagged_variants : TaggedVariants) → TaggedVariantsBeside dl size offset w untagged from all tagged_variants → (n : Niche) (i : ℕ) → IsPartNiche (parts_of_tagged_variant tagged_variants i) n →
      (b : List ℕ) (vs : Values) → HoldTaggedVariant dl.endian tagged_variants i b vs → IsIn (niche_size dl n) n.valid_range (tag_at dl.endian b n.offset (niche_size dl n))
  tagged_variant_niche from no_variants nothing_tagged fit n i has b vs h = absurd h
  tagged_variant_niche from no_variants (tagged_variant m layout mark parts tagged_variants) fit n i has b vs h = absurd fit
  tagged_variant_niche from (more_variants d ts others) nothing_tagged fit n i has b vs h = absurd fit
  tagged_variant_niche from (more_variants d ts others) (tagged_variant m layout mark parts tagged_variants) fit n zero has b vs h = part_niche dl size ts parts fit.1 n has b vs h
  tagged_variant_niche from (more_variants d ts others) (tagged_variant m layout mark parts tagged_variants) fit n (suc i) has b vs h = tagged_variant_niche (from + 1) others tagged_variants fit.3 n i has b vs h

  -- a variant with values has a tagged variant, which isn't flagged
  tagged_variant_open : (from : ℕ) (all : Variants) (tagged_variants : TaggedVariants) → TaggedVariantsBeside dl size offset w untagged from all tagged_variants → (i : ℕ) (vs : Values) →
      AreValuesOfVariant dl all i (parts_of_tagged_variant tagged_variants i) vs → IsThere tagged_variants i × (is_flagged (parts_of_tagged_variant tagged_variants i) ≡ false)
  tagged_variant_open from no_variants nothing_tagged fit i vs h = absurd h
  tagged_variant_open from no_variants (tagged_variant n layout mark parts tagged_variants) fit i vs h = absurd fit
  tagged_variant_open from (more_variants d ts others) nothing_tagged fit i vs h = absurd fit
  tagged_variant_open from (more_variants d ts others) (tagged_variant n layout mark parts tagged_variants) fit zero vs h = (tt, none_flagged dl size ts parts fit.1 vs h)
  tagged_variant_open from (more_variants d ts others) (tagged_variant n layout mark parts tagged_variants) fit (suc i) vs h = tagged_variant_open (from + 1) others tagged_variants fit.3 i vs h

  -- the values of a variant have bytes that hold them
  tagged_variant_exists : (from : ℕ) (all : Variants) (tagged_variants : TaggedVariants) → TaggedVariantsBeside dl size offset w untagged from all tagged_variants → (i : ℕ) (vs : Values) →
      AreValuesOfVariant dl all i (parts_of_tagged_variant tagged_variants i) vs → (b : List ℕ) × (length b ≡ size) × AreBytes b × HoldTaggedVariant dl.endian tagged_variants i b vs
  tagged_variant_exists from no_variants nothing_tagged fit i vs h = absurd h
  tagged_variant_exists from no_variants (tagged_variant n layout mark parts tagged_variants) fit i vs h = absurd fit
  tagged_variant_exists from (more_variants d ts others) nothing_tagged fit i vs h = absurd fit
  tagged_variant_exists from (more_variants d ts others) (tagged_variant n layout mark parts tagged_variants) fit zero vs h = exist dl size ts parts fit.1 vs h
  tagged_variant_exists from (more_variants d ts others) (tagged_variant n layout mark parts tagged_variants) fit (suc i) vs h = tagged_variant_exists (from + 1) others tagged_variants fit.3 i vs h

  -- those of a variant other than the untagged one have such bytes with any number at the niche's place
  tagged_variant_exists_with : offset + w ≤ size → (m : ℕ) → m < numbers_of w → (from : ℕ) (all : Variants) (tagged_variants : TaggedVariants) → TaggedVariantsBeside dl size offset w untagged from all tagged_variants →
      (i : ℕ) → (from + i == untagged) ≡ false → (vs : Values) → AreValuesOfVariant dl all i (parts_of_tagged_variant tagged_variants i) vs →
      (b : List ℕ) × (length b ≡ size) × AreBytes b × (tag_at dl.endian b offset w ≡ m) × HoldTaggedVariant dl.endian tagged_variants i b vs
  tagged_variant_exists_with inside m below from no_variants nothing_tagged fit i other vs h = absurd h
  tagged_variant_exists_with inside m below from no_variants (tagged_variant n layout mark parts tagged_variants) fit i other vs h = absurd fit
  tagged_variant_exists_with inside m below from (more_variants d ts others) nothing_tagged fit i other vs h = absurd fit
  tagged_variant_exists_with inside m below from (more_variants d ts others) (tagged_variant n layout mark parts tagged_variants) fit zero other vs h =
      let at : from + 0 ≡ from = omega arith in
      let beside : LieBeside offset w parts = fit.2 (subst (λ k. (k == untagged) ≡ false) at other) in
      let own : List ℕ = spelled_in dl.endian w m in
      let long : length own ≡ w = length-spelled_in dl.endian w m in
      let rest = exist dl size ts parts fit.1 vs h in
      let fits : offset + length own ≤ length rest.0 = omega (arith, inside, rest.1, long) in
      let here : bytes_at (put rest.0 offset own) offset w ≡ own = ap (bytes_at (put rest.0 offset own) offset) (sym long) ∙ bytes_at-put rest.0 own offset fits in (
        put rest.0 offset own,
        length-put rest.0 own offset fits ∙ rest.1,
        AreBytes-put rest.0 own offset rest.2 (AreBytes-spelled_in dl.endian w m),
        ap (number_of dl.endian) here ∙ number_of-spelled_in dl.endian w m below,
        HoldParts-beside dl ts parts offset rest.0 own (subst (λ k. LieBeside offset k parts) (sym long) beside) fits vs rest.3,
      )
  tagged_variant_exists_with inside m below from (more_variants d ts others) (tagged_variant n layout mark parts tagged_variants) fit (suc i) other vs h =
      let at : from + suc i ≡ from + 1 + i = omega arith in
      tagged_variant_exists_with inside m below (from + 1) others tagged_variants fit.3 i (subst (λ k. (k == untagged) ≡ false) at other) vs h

module _ (dl : TargetDataLayout) (repr : ReprOptions) (layout : Layout) (n : Niche) (tag : Placed) (untagged first last start : ℕ) (all : Variants) (tagged_variants : TaggedVariants)
    (wide : size_of tag ≡ niche_size dl n) (fit : TaggedVariantsBeside dl layout.size n.offset (niche_size dl n) untagged 0 all tagged_variants) where
  abbrev tree : Tree
  tree = enum repr all

  abbrev placed : Placed
  placed = tagged layout (mark_of true repr) n.offset tag (InNiche untagged (record { start = first; last = last }) start) tagged_variants

  -- the tag's width is the niche's
  named : (b : List ℕ) (i : ℕ) → NamesByNiche (size_of tag) untagged first last start (tag_at dl.endian b n.offset (size_of tag)) i →
      NamesByNiche (niche_size dl n) untagged first last start (tag_at dl.endian b n.offset (niche_size dl n)) i
  named b i h = subst (λ k. NamesByNiche k untagged first last start (tag_at dl.endian b n.offset k) i) wide h

  named_back : (b : List ℕ) (i : ℕ) → NamesByNiche (niche_size dl n) untagged first last start (tag_at dl.endian b n.offset (niche_size dl n)) i →
      NamesByNiche (size_of tag) untagged first last start (tag_at dl.endian b n.offset (size_of tag)) i
  named_back b i h = subst (λ k. NamesByNiche k untagged first last start (tag_at dl.endian b n.offset k) i) (sym wide) h

  -- no bytes hold two values, where the span has no more variants than there are numbers
  pub in_niche_unique : last - first + 1 ≤ numbers_of (niche_size dl n) → (b : List ℕ) (v w : Value) → Holds dl.endian placed b v → Holds dl.endian placed b w → v ≡ w
  in_niche_unique few b (variant i vs) (variant j ws) h g =
      let same : i ≡ j =
      niche_names_one (niche_size dl n) untagged first last start (tag_at dl.endian b n.offset (niche_size dl n)) few i j (named b i h.2) (named b j g.2) in
      let here : HoldTaggedVariant dl.endian tagged_variants i b ws = subst (λ k. HoldTaggedVariant dl.endian tagged_variants k b ws) (sym same) g.3 in
      let fields : vs ≡ ws = tagged_variant_unique dl layout.size n.offset (niche_size dl n) untagged 0 all tagged_variants fit i b vs ws h.3 here in
      cc
  in_niche_unique few b (variant i vs) _ h g = absurd g
  in_niche_unique few b _ w h g = absurd h

  -- bytes hold only values
  pub in_niche_only : (b : List ℕ) (v : Value) → AreBytes b → Holds dl.endian placed b v → IsValueOf dl tree placed v
  in_niche_only b (variant i vs) are h = tagged_variant_only dl layout.size n.offset (niche_size dl n) untagged 0 all tagged_variants fit i b vs are h.3
  in_niche_only b _ are h = absurd h

  -- a data place of the tag is one of the enum
  place_of_tag : (j : ℕ) → is_data_place tag j ≡ true → is_data_place placed (n.offset + j) ≡ true
  place_of_tag j place =
      let at : n.offset + j - n.offset ≡ j = omega arith in
      ap (λ x. x || is_place_of_tagged_variant tagged_variants (n.offset + j))
      (both_true (le-leb n.offset (n.offset + j) (omega arith)) (ap (is_data_place tag) at ∙ place))

  -- so is each data place of a tagged variant
  place_of_tagged_variant : (k : ℕ) → is_place_of_tagged_variant tagged_variants k ≡ true → is_data_place placed k ≡ true
  place_of_tagged_variant k place =
      ap (λ x. (nat_le n.offset k && is_data_place tag (k - n.offset)) || x) place ∙ or-true (nat_le n.offset k && is_data_place tag (k - n.offset))

  -- bytes that agree on the data places hold the same number in the niche, where each byte of the tag is a data place
  same_number : ((j : ℕ) → j < size_of tag → is_data_place tag j ≡ true) → (xs ys : List ℕ) → length xs ≡ length ys → n.offset + size_of tag ≤ length xs →
      AgreeOn placed xs ys → tag_at dl.endian xs n.offset (size_of tag) ≡ tag_at dl.endian ys n.offset (size_of tag)
  same_number filled xs ys same fits agree =
      let w : ℕ = size_of tag in
      let long_xs : length (bytes_at xs n.offset w) ≡ w = omega (arith, length-bytes_at xs n.offset w, fits) in
      let long_ys : length (bytes_at ys n.offset w) ≡ w = omega (arith, length-bytes_at ys n.offset w, fits, same) in
      ap (number_of dl.endian)
      (same_bytes (bytes_at xs n.offset w) (bytes_at ys n.offset w) w long_xs long_ys
      (λ k below. AgreeOn-bytes_at tag xs ys n.offset w same (λ j place. agree (n.offset + j) (place_of_tag j place)) k (filled k below)))

  -- bytes that agree on the data places hold the same values, where each byte of the tag is a data place
  pub in_niche_padding : ((j : ℕ) → j < size_of tag → is_data_place tag j ≡ true) → (xs ys : List ℕ) (v : Value) → length xs ≡ size_of placed → length ys ≡ size_of placed →
      AgreeOn placed xs ys → Holds dl.endian placed xs v → Holds dl.endian placed ys v
  in_niche_padding filled xs ys (variant i vs) ex ey agree h =
      let same : length xs ≡ length ys = ex ∙ sym ey in (
        ey,
        omega (arith, same, h.1),
        subst (λ k. NamesByNiche (size_of tag) untagged first last start k i) (same_number filled xs ys same h.1 agree) h.2,
        tagged_variant_padding dl layout.size n.offset (niche_size dl n) untagged 0 all tagged_variants fit xs ys same (λ k place. agree k (place_of_tagged_variant k place)) i vs h.3,
      )
  in_niche_padding filled xs ys _ ex ey agree h = absurd h

  module _ (new : WrappingRange) (own : IsPartNiche (parts_of_tagged_variant tagged_variants untagged) n)
      (handed : HandsOut (niche_size dl n) n.valid_range new start (last - first + 1)) where
    -- where bytes hold a value, the number in the niche is one of the new range
    pub in_niche_number : (b : List ℕ) (v : Value) → Holds dl.endian placed b v → IsIn (niche_size dl n) new (tag_at dl.endian b n.offset (niche_size dl n))
    in_niche_number b (variant i vs) h =
        let k : ℕ = tag_at dl.endian b n.offset (niche_size dl n) in
        elim (named b i h.2) [
          | inl a ↦ (handed.members k).1 (inr (i - first, omega (arith, a.0.0, a.0.1), a.1))
          | inr a ↦
              let here : HoldTaggedVariant dl.endian tagged_variants untagged b vs = subst (λ j. HoldTaggedVariant dl.endian tagged_variants j b vs) a.0 h.3 in
              (handed.members k).1 (inl (tagged_variant_niche dl layout.size n.offset (niche_size dl n) untagged 0 all tagged_variants fit n untagged own b vs here))
        ]
    in_niche_number b _ h = absurd h

    -- where bytes hold fields of the untagged variant, the number in the niche is one of the old range, and names no other variant
    pub names_itself : NamesItself dl.endian n.offset tag (InNiche untagged (record { start = first; last = last }) start) tagged_variants
    names_itself b vs h =
        let old : IsIn (niche_size dl n) n.valid_range (tag_at dl.endian b n.offset (niche_size dl n)) =
        tagged_variant_niche dl layout.size n.offset (niche_size dl n) untagged 0 all tagged_variants fit n untagged own b vs h in
        named_back b untagged
        (inr (refl, λ other span e. (handed.were_free (other - first) (omega (arith, span.0, span.1))).1 (subst (IsIn (niche_size dl n) n.valid_range) e old)))

    -- a value of a variant has bytes that hold it, whether it is the untagged one or not
    variant_exists : n.offset + niche_size dl n ≤ layout.size → AreSpanned untagged first last tagged_variants → (i : ℕ) (vs : Values) → AreValuesOfVariant dl all i (parts_of_tagged_variant tagged_variants i) vs →
        (same : Bool) → (i == untagged) ≡ same → (b : List ℕ) × AreBytes b × Holds dl.endian placed b (variant i vs)
    variant_exists inside spanned i vs h true same =
        let is : i ≡ untagged = eqb-true i untagged same in
        let found = tagged_variant_exists dl layout.size n.offset (niche_size dl n) untagged 0 all tagged_variants fit i vs h in
        let b : List ℕ = found.0 in
        let here : HoldTaggedVariant dl.endian tagged_variants untagged b vs = subst (λ j. HoldTaggedVariant dl.endian tagged_variants j b vs) is found.3 in
        let names : NamesByNiche (size_of tag) untagged first last start (tag_at dl.endian b n.offset (size_of tag)) i =
        subst (NamesByNiche (size_of tag) untagged first last start (tag_at dl.endian b n.offset (size_of tag))) (sym is) (names_itself b vs here) in
        let fits : n.offset + size_of tag ≤ length b = omega (arith, wide, inside, found.1) in
        (b, found.2, (found.1, fits, names, found.3))
    variant_exists inside spanned i vs h false same =
        let isnt : i ≢ untagged = eqb-false i untagged same in
        let at : i ≡ 0 + i = omega arith in
        let other : (0 + i == untagged) ≡ false = subst (λ k. (k == untagged) ≡ false) at same in
        let has = tagged_variant_open dl layout.size n.offset (niche_size dl n) untagged 0 all tagged_variants fit i vs h in
        let span = spanned i has.0 isnt has.1 in
        let m : ℕ = niche_number (niche_size dl n) first start i in
        let below : m < numbers_of (niche_size dl n) = mod_below (start + (i - first)) (numbers_of (niche_size dl n)) (pow_pos (8 * niche_size dl n)) in
        let found = tagged_variant_exists_with dl layout.size n.offset (niche_size dl n) untagged inside m below 0 all tagged_variants fit i other vs h in
        let b : List ℕ = found.0 in
        let fits : n.offset + size_of tag ≤ length b = omega (arith, wide, inside, found.1) in
        (b, found.2, (found.1, fits, named_back b i (inl ((span.0, span.1, isnt), found.3)), found.4))

    -- every value has bytes that hold it
    pub in_niche_exists : n.offset + niche_size dl n ≤ layout.size → AreSpanned untagged first last tagged_variants → (v : Value) → IsValueOf dl tree placed v →
        (b : List ℕ) × AreBytes b × Holds dl.endian placed b v
    in_niche_exists inside spanned (variant i vs) h = variant_exists inside spanned i vs h (i == untagged) refl
    in_niche_exists inside spanned _ h = absurd h
