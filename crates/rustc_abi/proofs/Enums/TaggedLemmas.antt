-- An enum distinguished by a tag keeps its values.
use Rattle.std.proofs.Common.{◌≡◌, ◌≢◌, ℕ, zero, suc, ◌+◌, ◌-◌, ◌*◌, ◌%◌, ◌≤◌, ◌<◌, List, [], ◌∷◌, length, get_or, arith, refl, sym, ap, ◌∙◌, subst}
use Rattle.std.specs.Prelude.{Bool, true, false, ◌&&◌, ◌||◌, nat_le, nat_lt, All, MatchBool, if◌then◌else◌, ⊤}
use Rattle.std.specs.List.{AllPairs}
use Rattle.std.specs.Cmp.Derive.{both_true}
use Rattle.std.proofs.lemmas.Bool.{le-leb, lt-ltb, ltb-true}
use Rattle.std.proofs.lemmas.List.Elements.{All-head, All-tail}
use Rattle.std.proofs.lemmas.Nat.{mod_below, pow_pos}
use Rattle.std.proofs.Math.Bool.{or-true}
use Rattle.abi_base.specs.declared.data_layout.TargetDataLayout.{TargetDataLayout}
use Rattle.abi_scalar.specs.declared.scalar.Scalar.{Scalar}
use Rattle.abi_scalar.specs.declared.repr.ReprOptions.{ReprOptions}
use Rattle.abi_scalar.specs.declared.variants.TagEncoding.TheVariants.{Direct}
use Rattle.abi_scalar.specs.Range.{numbers_of}
use Rattle.abi_scalar.specs.Scalar.{scalar_size, IsNumberOf}
use Rattle.abi_tree.specs.Tree.{Tree, enum, Trees, no_trees, more_trees, Variants, no_variants, more_variants}
use Rattle.abi_tree.specs.Bytes.{AreBytes, bytes_at, number_of}
use Rattle.abi_tree.specs.Value.{Value, variant, Values, no_values, more_values}
use Rattle.abi_tree.specs.Mark.{mark_of}
use Rattle.abi_tree.specs.Placed.{Placed, Parts, no_parts, part, TaggedVariants, nothing_tagged, tagged_variant, layout_of, size_of, tagged, parts_of_tagged_variant, is_flagged}
use Rattle.abi_scalar.specs.Layout.{Layout}
use Rattle.abi_tree.specs.Places.{is_data_place, is_place_of_part, is_place_of_tagged_variant}
use Rattle.abi_tree.specs.Tag.{NamesDirectly}
use Rattle.abi_tree.specs.Values.{IsValueOf, AreValuesOf, AreValuesOfVariant, VectorsHaveValues}
use Rattle.abi_tree.specs.Holding.{Holds, HoldTaggedVariant, tag_at}
use Rattle.abi_tree.specs.Faithful.{AgreeOn, IsFaithful}
use Rattle.rustc_abi.specs.Laying.{one_scalar}
use Rattle.abi_tree.proofs.Bytes.BytesLemmas.{put, length-put, bytes_at-put, AreBytes-put, same_bytes, spelled_in, length-spelled_in, number_of-spelled_in, AreBytes-spelled_in}
use Rattle.abi_tree.proofs.Bytes.HoldLemmas.{length-bytes_at, AgreeOn-bytes_at}
use Rattle.rustc_abi.proofs.Values.PartsLemmas.{LieBeside, FitTogether, HoldParts-beside, exist, only, unique, padding}

-- each tagged variant has its variant's number and fields, which fit together, beside a tag of w bytes at the offset
abbrev pub TaggedVariantsFit : TargetDataLayout → (size offset w : ℕ) → Variants → TaggedVariants → Type 0
TaggedVariantsFit dl size offset w no_variants nothing_tagged = ⊤
TaggedVariantsFit dl size offset w (more_variants d ts others) (tagged_variant n layout mark parts tagged_variants) =
    (n ≡ d) × FitTogether dl size ts parts × LieBeside offset w parts × TaggedVariantsFit dl size offset w others tagged_variants
TaggedVariantsFit dl size offset w _ _ = ⊥

-- the number of each tagged variant that isn't flagged, cut to w bytes, is one of the tag's
abbrev pub HaveNumbers : (w : ℕ) → Scalar → TaggedVariants → Type 0
HaveNumbers w tag nothing_tagged = ⊤
HaveNumbers w tag (tagged_variant n layout mark parts tagged_variants) = (is_flagged parts ≡ false → IsNumberOf w tag (n % numbers_of w)) × HaveNumbers w tag tagged_variants

-- k isn't the number of a tagged variant, cut to w bytes, unless that is flagged
abbrev pub IsNoNumber : (w k : ℕ) → TaggedVariants → Type 0
IsNoNumber w k nothing_tagged = ⊤
IsNoNumber w k (tagged_variant n layout mark parts tagged_variants) = (is_flagged parts ≡ false → k ≢ n % numbers_of w) × IsNoNumber w k tagged_variants

-- the numbers of two tagged variants that aren't flagged differ, cut to w bytes
abbrev pub NumbersDiffer : (w : ℕ) → TaggedVariants → Type 0
NumbersDiffer w nothing_tagged = ⊤
NumbersDiffer w (tagged_variant n layout mark parts tagged_variants) = (is_flagged parts ≡ false → IsNoNumber w (n % numbers_of w) tagged_variants) × NumbersDiffer w tagged_variants

-- the numbers of the tagged variants that aren't flagged
abbrev pub open_numbers : TaggedVariants → List ℕ
open_numbers nothing_tagged = []
open_numbers (tagged_variant n layout mark parts tagged_variants) = if is_flagged parts then open_numbers tagged_variants else n ∷ open_numbers tagged_variants

-- what holds of the numbers that are listed holds of the first, where it is listed, and of the others
split : (flag : Bool) (n : ℕ) (xs : List ℕ) (P : ℕ → Type 0) → All P (if flag then xs else n ∷ xs) → ((flag ≡ false → P n) × All P xs)
split true n xs P h = (λ e. absurd (cc), h)
split false n xs P h = (λ e. All-head P n xs h, All-tail P n xs h)

-- the tagged variants have numbers of the tag where the listed numbers are such
pub have_numbers : (w : ℕ) (tag : Scalar) (tagged_variants : TaggedVariants) → All (λ n. IsNumberOf w tag (n % numbers_of w)) (open_numbers tagged_variants) → HaveNumbers w tag tagged_variants
have_numbers w tag nothing_tagged h = tt
have_numbers w tag (tagged_variant n layout mark parts tagged_variants) h =
    let both = split (is_flagged parts) n (open_numbers tagged_variants) (λ m. IsNumberOf w tag (m % numbers_of w)) h in
    (both.0, have_numbers w tag tagged_variants both.1)

-- a number that is none of those listed is no tagged variant's
no_number : (w k : ℕ) (tagged_variants : TaggedVariants) → All (λ n. k ≢ n % numbers_of w) (open_numbers tagged_variants) → IsNoNumber w k tagged_variants
no_number w k nothing_tagged h = tt
no_number w k (tagged_variant n layout mark parts tagged_variants) h =
    let both = split (is_flagged parts) n (open_numbers tagged_variants) (λ m. k ≢ m % numbers_of w) h in
    (both.0, no_number w k tagged_variants both.1)

-- what holds of each two listed numbers holds of the first, where it is listed, with each other, and of each two others
split_pairs : (flag : Bool) (n : ℕ) (xs : List ℕ) (R : ℕ → ℕ → Type 0) → AllPairs R (if flag then xs else n ∷ xs) →
    ((flag ≡ false → All (R n) xs) × AllPairs R xs)
split_pairs true n xs R h = (λ e. absurd (cc), h)
split_pairs false n xs R h = (
  λ e k d short. h 0 (suc k) d (omega arith) (omega (arith, short)),
  λ a b d before short. h (suc a) (suc b) d (omega (arith, before)) (omega (arith, short)),
)

-- the tagged variants' numbers differ where the listed ones do
pub numbers_differ : (w : ℕ) (tagged_variants : TaggedVariants) → AllPairs (λ n m. n % numbers_of w ≢ m % numbers_of w) (open_numbers tagged_variants) → NumbersDiffer w tagged_variants
numbers_differ w nothing_tagged h = tt
numbers_differ w (tagged_variant n layout mark parts tagged_variants) h =
    let both = split_pairs (is_flagged parts) n (open_numbers tagged_variants) (λ a b. a % numbers_of w ≢ b % numbers_of w) h in
    (λ clear. no_number w (n % numbers_of w) tagged_variants (both.0 clear), numbers_differ w tagged_variants both.1)

-- a number that no tagged variant has names none
names_none : (w k : ℕ) (tagged_variants : TaggedVariants) → IsNoNumber w k tagged_variants → (i : ℕ) → NamesDirectly w tagged_variants k i → ⊥
names_none w k nothing_tagged none i h = h
names_none w k (tagged_variant n layout mark parts tagged_variants) none zero h = none.0 h.0 (sym h.1)
names_none w k (tagged_variant n layout mark parts tagged_variants) none (suc i) h = names_none w k tagged_variants none.1 i h

-- a number names one tagged variant
pub names_one : (w k : ℕ) (tagged_variants : TaggedVariants) → NumbersDiffer w tagged_variants → (i j : ℕ) → NamesDirectly w tagged_variants k i → NamesDirectly w tagged_variants k j → i ≡ j
names_one w k nothing_tagged differ i j h g = absurd h
names_one w k (tagged_variant n layout mark parts tagged_variants) differ zero zero h g = refl
names_one w k (tagged_variant n layout mark parts tagged_variants) differ zero (suc j) h g =
    absurd (names_none w k tagged_variants (subst (λ m. IsNoNumber w m tagged_variants) h.1 (differ.0 h.0)) j g)
names_one w k (tagged_variant n layout mark parts tagged_variants) differ (suc i) zero h g =
    absurd (names_none w k tagged_variants (subst (λ m. IsNoNumber w m tagged_variants) g.1 (differ.0 g.0)) i h)
names_one w k (tagged_variant n layout mark parts tagged_variants) differ (suc i) (suc j) h g = ap suc (names_one w k tagged_variants differ.1 i j h g)

-- a number that names a tagged variant is one of the tag's
pub names_number : (w : ℕ) (tag : Scalar) (k : ℕ) (tagged_variants : TaggedVariants) → HaveNumbers w tag tagged_variants → (i : ℕ) → NamesDirectly w tagged_variants k i → IsNumberOf w tag k
names_number w tag k nothing_tagged numbers i h = absurd h
names_number w tag k (tagged_variant n layout mark parts tagged_variants) numbers zero h = subst (IsNumberOf w tag) h.1 (numbers.0 h.0)
names_number w tag k (tagged_variant n layout mark parts tagged_variants) numbers (suc i) h = names_number w tag k tagged_variants numbers.1 i h

-- a type with a value isn't flagged
pub unflagged : (dl : TargetDataLayout) (t : Tree) (placed : Placed) (flag : Bool) →
    MatchBool flag ((v : Value) → IsValueOf dl t placed v → ⊥) (VectorsHaveValues dl t → (v : Value) × IsValueOf dl t placed v) →
    (v : Value) → IsValueOf dl t placed v → flag ≡ false
unflagged dl t placed true h v k = absurd (h v k)
unflagged dl t placed false h v k = refl

-- parts with values aren't flagged
pub none_flagged : (dl : TargetDataLayout) (size : ℕ) (ts : Trees) (parts : Parts) → FitTogether dl size ts parts → (vs : Values) → AreValuesOf dl ts parts vs →
    is_flagged parts ≡ false
none_flagged dl size no_trees no_parts fit vs h = refl
none_flagged dl size no_trees (part o placed parts) fit vs h = absurd fit
none_flagged dl size (more_trees t ts) no_parts fit vs h = absurd fit
none_flagged dl size (more_trees t ts) (part o placed parts) fit no_values h = absurd h
none_flagged dl size (more_trees t ts) (part o placed parts) fit (more_values v vs) h =
    ap (λ x. x || is_flagged parts) (unflagged dl t placed (layout_of placed).uninhabited (IsFaithful.flag fit.2) v h.0)
    ∙ none_flagged dl size ts parts fit.3 vs h.1

module _ (dl : TargetDataLayout) (size offset w : ℕ) where
  -- a tagged variant holds only its variant's values
  tagged_variant_only : (all : Variants) (tagged_variants : TaggedVariants) → TaggedVariantsFit dl size offset w all tagged_variants → (i : ℕ) (b : List ℕ) (vs : Values) → AreBytes b →
      HoldTaggedVariant dl.endian tagged_variants i b vs → AreValuesOfVariant dl all i (parts_of_tagged_variant tagged_variants i) vs
  tagged_variant_only no_variants nothing_tagged fit i b vs are h = h
  tagged_variant_only no_variants (tagged_variant n layout mark parts tagged_variants) fit i b vs are h = absurd fit
  tagged_variant_only (more_variants d ts others) nothing_tagged fit i b vs are h = absurd fit
  tagged_variant_only (more_variants d ts others) (tagged_variant n layout mark parts tagged_variants) fit zero b vs are h = only dl size ts parts fit.1 b vs are h
  tagged_variant_only (more_variants d ts others) (tagged_variant n layout mark parts tagged_variants) fit (suc i) b vs are h = tagged_variant_only others tagged_variants fit.3 i b vs are h

  -- no bytes hold two lists of values of one tagged variant
  tagged_variant_unique : (all : Variants) (tagged_variants : TaggedVariants) → TaggedVariantsFit dl size offset w all tagged_variants → (i : ℕ) (b : List ℕ) (vs ws : Values) →
      HoldTaggedVariant dl.endian tagged_variants i b vs → HoldTaggedVariant dl.endian tagged_variants i b ws → vs ≡ ws
  tagged_variant_unique no_variants nothing_tagged fit i b vs ws h g = absurd h
  tagged_variant_unique no_variants (tagged_variant n layout mark parts tagged_variants) fit i b vs ws h g = absurd fit
  tagged_variant_unique (more_variants d ts others) nothing_tagged fit i b vs ws h g = absurd fit
  tagged_variant_unique (more_variants d ts others) (tagged_variant n layout mark parts tagged_variants) fit zero b vs ws h g = unique dl size ts parts fit.1 b vs ws h g
  tagged_variant_unique (more_variants d ts others) (tagged_variant n layout mark parts tagged_variants) fit (suc i) b vs ws h g = tagged_variant_unique others tagged_variants fit.3 i b vs ws h g

  -- bytes that agree on the tagged variants' data places hold the same values of a tagged variant
  tagged_variant_padding : (all : Variants) (tagged_variants : TaggedVariants) → TaggedVariantsFit dl size offset w all tagged_variants → (xs ys : List ℕ) → length xs ≡ length ys →
      ((k : ℕ) → is_place_of_tagged_variant tagged_variants k ≡ true → get_or xs k 0 ≡ get_or ys k 0) → (i : ℕ) (vs : Values) →
      HoldTaggedVariant dl.endian tagged_variants i xs vs → HoldTaggedVariant dl.endian tagged_variants i ys vs
  tagged_variant_padding no_variants nothing_tagged fit xs ys same agree i vs h = h
  tagged_variant_padding no_variants (tagged_variant n layout mark parts tagged_variants) fit xs ys same agree i vs h = absurd fit
  tagged_variant_padding (more_variants d ts others) nothing_tagged fit xs ys same agree i vs h = absurd fit
  tagged_variant_padding (more_variants d ts others) (tagged_variant n layout mark parts tagged_variants) fit xs ys same agree zero vs h =
      padding dl size ts parts fit.1 xs ys vs same (λ k place. agree k (ap (λ x. x || is_place_of_tagged_variant tagged_variants k) place)) h
  tagged_variant_padding (more_variants d ts others) (tagged_variant n layout mark parts tagged_variants) fit xs ys same agree (suc i) vs h =
      tagged_variant_padding others tagged_variants fit.3 xs ys same
      (λ k place. agree k (ap (λ x. is_place_of_part parts k || x) place ∙ or-true (is_place_of_part parts k))) i vs h

-- the values of a variant have bytes that hold them beside a tag with the tagged variant's number
tagged_variant_exists : (dl : TargetDataLayout) (size offset w : ℕ) → offset + w ≤ size → (all : Variants) (tagged_variants : TaggedVariants) → TaggedVariantsFit dl size offset w all tagged_variants →
    (i : ℕ) (vs : Values) → AreValuesOfVariant dl all i (parts_of_tagged_variant tagged_variants i) vs →
    (b : List ℕ) × (length b ≡ size) × AreBytes b × NamesDirectly w tagged_variants (tag_at dl.endian b offset w) i × HoldTaggedVariant dl.endian tagged_variants i b vs
tagged_variant_exists dl size offset w inside no_variants nothing_tagged fit i vs h = absurd h
tagged_variant_exists dl size offset w inside no_variants (tagged_variant n layout mark parts tagged_variants) fit i vs h = absurd fit
tagged_variant_exists dl size offset w inside (more_variants d ts others) nothing_tagged fit i vs h = absurd fit
tagged_variant_exists dl size offset w inside (more_variants d ts others) (tagged_variant n layout mark parts tagged_variants) fit zero vs h =
    let m : ℕ = n % numbers_of w in
    let own : List ℕ = spelled_in dl.endian w m in
    let long : length own ≡ w = length-spelled_in dl.endian w m in
    let rest = exist dl size ts parts fit.1 vs h in
    let fits : offset + length own ≤ length rest.0 = omega (arith, inside, rest.1, long) in
    let here : bytes_at (put rest.0 offset own) offset w ≡ own = ap (bytes_at (put rest.0 offset own) offset) (sym long) ∙ bytes_at-put rest.0 own offset fits in
    let held : tag_at dl.endian (put rest.0 offset own) offset w ≡ m =
    ap (number_of dl.endian) here ∙ number_of-spelled_in dl.endian w m (mod_below n (numbers_of w) (pow_pos (8 * w))) in (
      put rest.0 offset own,
      length-put rest.0 own offset fits ∙ rest.1,
      AreBytes-put rest.0 own offset rest.2 (AreBytes-spelled_in dl.endian w m),
      (none_flagged dl size ts parts fit.1 vs h, sym held),
      HoldParts-beside dl ts parts offset rest.0 own (subst (λ k. LieBeside offset k parts) (sym long) fit.2) fits vs rest.3,
    )
tagged_variant_exists dl size offset w inside (more_variants d ts others) (tagged_variant n layout mark parts tagged_variants) fit (suc i) vs h =
    tagged_variant_exists dl size offset w inside others tagged_variants fit.3 i vs h

-- bytes that agree on the data places of a type hold the same tag, where its bytes are some of these
pub tag_kept : (dl : TargetDataLayout) (tag : Scalar) (p : Placed) (offset : ℕ) → ((j : ℕ) → j < scalar_size dl tag → is_data_place p (offset + j) ≡ true) → (xs ys : List ℕ) →
    length xs ≡ length ys → offset + scalar_size dl tag ≤ length xs → AgreeOn p xs ys → tag_at dl.endian xs offset (scalar_size dl tag) ≡ tag_at dl.endian ys offset (scalar_size dl tag)
tag_kept dl tag p offset places xs ys same fits agree =
    let w : ℕ = scalar_size dl tag in
    let long_xs : length (bytes_at xs offset w) ≡ w = omega (arith, length-bytes_at xs offset w, fits) in
    let long_ys : length (bytes_at ys offset w) ≡ w = omega (arith, length-bytes_at ys offset w, fits, same) in
    ap (number_of dl.endian)
    (same_bytes (bytes_at xs offset w) (bytes_at ys offset w) w long_xs long_ys
    (λ k below. AgreeOn-bytes_at (one_scalar dl tag) xs ys offset w same
    (λ j place. agree (offset + j) (places j (ltb-true j w place))) k (lt-ltb k w below)))

module _ (dl : TargetDataLayout) (repr : ReprOptions) (layout : Layout) (offset : ℕ) (tag : Scalar) (all : Variants) (tagged_variants : TaggedVariants)
    (fit : TaggedVariantsFit dl layout.size offset (scalar_size dl tag) all tagged_variants) where
  abbrev tree : Tree
  tree = enum repr all

  abbrev placed : Placed
  placed = tagged layout (mark_of true repr) offset (one_scalar dl tag) Direct tagged_variants

  -- no bytes hold two values, where the variants' numbers differ
  pub tagged_unique : NumbersDiffer (scalar_size dl tag) tagged_variants → (b : List ℕ) (v w : Value) → Holds dl.endian placed b v → Holds dl.endian placed b w → v ≡ w
  tagged_unique differ b (variant i vs) (variant j ws) h g =
      let same : i ≡ j = names_one (scalar_size dl tag) (tag_at dl.endian b offset (scalar_size dl tag)) tagged_variants differ i j h.2 g.2 in
      let here : HoldTaggedVariant dl.endian tagged_variants i b ws = subst (λ k. HoldTaggedVariant dl.endian tagged_variants k b ws) (sym same) g.3 in
      let fields : vs ≡ ws = tagged_variant_unique dl layout.size offset (scalar_size dl tag) all tagged_variants fit i b vs ws h.3 here in
      cc
  tagged_unique differ b (variant i vs) _ h g = absurd g
  tagged_unique differ b _ w h g = absurd h

  -- bytes hold only values
  pub tagged_only : (b : List ℕ) (v : Value) → AreBytes b → Holds dl.endian placed b v → IsValueOf dl tree placed v
  tagged_only b (variant i vs) are h = tagged_variant_only dl layout.size offset (scalar_size dl tag) all tagged_variants fit i b vs are h.3
  tagged_only b _ are h = absurd h

  -- where bytes hold a value, the number at the tag's place is one of the tag's
  pub tagged_number : HaveNumbers (scalar_size dl tag) tag tagged_variants → (b : List ℕ) (v : Value) → Holds dl.endian placed b v →
      IsNumberOf (scalar_size dl tag) tag (tag_at dl.endian b offset (scalar_size dl tag))
  tagged_number numbers b (variant i vs) h = names_number (scalar_size dl tag) tag (tag_at dl.endian b offset (scalar_size dl tag)) tagged_variants numbers i h.2
  tagged_number numbers b _ h = absurd h

  -- byte j of the tag is a data place
  place_of_tag : (j : ℕ) → j < scalar_size dl tag → is_data_place placed (offset + j) ≡ true
  place_of_tag j below =
      let at : offset + j - offset ≡ j = omega arith in
      ap (λ x. x || is_place_of_tagged_variant tagged_variants (offset + j))
      (both_true (le-leb offset (offset + j) (omega arith)) (ap (λ k. nat_lt k (scalar_size dl tag)) at ∙ lt-ltb j (scalar_size dl tag) below))

  -- so is each data place of a tagged variant
  place_of_tagged_variant : (k : ℕ) → is_place_of_tagged_variant tagged_variants k ≡ true → is_data_place placed k ≡ true
  place_of_tagged_variant k place =
      ap (λ x. (nat_le offset k && nat_lt (k - offset) (scalar_size dl tag)) || x) place ∙ or-true (nat_le offset k && nat_lt (k - offset) (scalar_size dl tag))

  -- bytes that agree on the data places hold the same values
  pub tagged_padding : (xs ys : List ℕ) (v : Value) → length xs ≡ size_of placed → length ys ≡ size_of placed →
      AgreeOn placed xs ys → Holds dl.endian placed xs v → Holds dl.endian placed ys v
  tagged_padding xs ys (variant i vs) ex ey agree h =
      let same : length xs ≡ length ys = ex ∙ sym ey in (
        ey,
        omega (arith, same, h.1),
        subst (λ k. NamesDirectly (scalar_size dl tag) tagged_variants k i) (tag_kept dl tag placed offset place_of_tag xs ys same h.1 agree) h.2,
        tagged_variant_padding dl layout.size offset (scalar_size dl tag) all tagged_variants fit xs ys same (λ k place. agree k (place_of_tagged_variant k place)) i vs h.3,
      )
  tagged_padding xs ys _ ex ey agree h = absurd h

  -- every value has bytes that hold it
  pub tagged_exists : offset + scalar_size dl tag ≤ layout.size → (v : Value) → IsValueOf dl tree placed v → (b : List ℕ) × AreBytes b × Holds dl.endian placed b v
  tagged_exists inside (variant i vs) h =
      let found = tagged_variant_exists dl layout.size offset (scalar_size dl tag) inside all tagged_variants fit i vs h in
      let fits : offset + scalar_size dl tag ≤ length found.0 = omega (arith, found.1, inside) in
      (found.0, found.2, (found.1, fits, found.3, found.4))
  tagged_exists inside _ h = absurd h
