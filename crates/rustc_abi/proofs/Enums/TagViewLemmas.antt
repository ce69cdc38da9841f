-- What the number at the place of an enum's tag says of the enum's view and niche.
use Rattle.std.proofs.Common.{◌≡◌, ℕ, zero, suc, ◌+◌, ◌*◌, ◌<◌, ◌≤◌, inl, inr, List, [], ◌∷◌, length, reverse, Some, None, arith, sym, subst}
use Rattle.std.specs.Prelude.{Bool, true, false, ◌==◌, if◌then◌else◌}
use Rattle.std.proofs.lemmas.List.{length-reverse}
use Rattle.std.proofs.lemmas.List.Elements.{All-head, All-tail}
use Rattle.std.proofs.lemmas.Nat.{pow_pos}
use Rattle.abi_base.specs.declared.data_layout.TargetDataLayout.{TargetDataLayout}
use Rattle.abi_base.specs.declared.endian.Endian.{Endian}
use Rattle.abi_base.specs.declared.endian.Endian.TheVariants.{Little, Big}
use Rattle.abi_base.specs.Primitive.{primitive_size}
use Rattle.abi_scalar.specs.declared.backend_repr.BackendRepr.{BackendRepr}
use Rattle.abi_scalar.specs.declared.backend_repr.BackendRepr.TheVariants.{Scalar as OneScalar, ScalarPair, Memory}
use Rattle.abi_scalar.specs.declared.niche.Niche.{Niche}
use Rattle.abi_scalar.specs.declared.scalar.Scalar.{Scalar}
use Rattle.abi_scalar.specs.declared.scalar.Scalar.TheVariants.{Initialized, Union}
use Rattle.abi_scalar.specs.Range.{numbers_of, full_range, free_count, IsIn}
use Rattle.abi_scalar.specs.Scalar.{scalar_size, primitive_of, IsNumberOf}
use Rattle.abi_scalar.specs.Niche.{niche_size, niche_at}
use Rattle.abi_scalar.proofs.RangeLemmas.{in_from_between}
use Rattle.abi_calc.specs.Enums.Beside.{HasTagAt}
use Rattle.abi_calc.specs.Enums.Payload.{BeginsWithTag, IsWide}
use Rattle.abi_tree.specs.Bytes.{AreBytes, bytes_at, little, number_of}
use Rattle.abi_tree.specs.Faithful.{IsScalarTrue, IsTrueOf}
use Rattle.abi_tree.proofs.Bytes.BytesLemmas.{AreBytes-bytes_at, AreBytes-reverse, numbers_of-suc}
use Rattle.abi_tree.proofs.Bytes.HoldLemmas.{length-bytes_at}

-- what holds of the one niche that there may be holds of the niche that there is
some_unless : (b : Bool) (own n : Niche) (P : Niche → Type 0) → P own → (if b then None else Some own) ≡ Some n → P n
some_unless true own n P h e = absurd (cc)
some_unless false own n P h e = let same : own ≡ n = cc in subst P same h

-- a tag's niche lies where the tag does
pub tag_niche_inside : (dl : TargetDataLayout) (tag : Scalar) (place : ℕ) (n : Niche) (size : ℕ) → place + scalar_size dl tag ≤ size →
    niche_at dl place tag ≡ Some n → n.offset + niche_size dl n ≤ size
tag_niche_inside dl (Initialized value range) place n size inside e =
    some_unless (free_count (primitive_size dl value) range == 0) (record { offset = place; value = value; valid_range = range }) n
    (λ m. m.offset + niche_size dl m ≤ size) inside e
tag_niche_inside dl (Union value) place n size inside e = absurd (cc)

-- where the number at the tag's place is one of the tag's, the number at the tag's niche is in the niche's range
niche_true : (dl : TargetDataLayout) (tag : Scalar) (place : ℕ) (b : List ℕ) →
    IsNumberOf (scalar_size dl tag) tag (number_of dl.endian (bytes_at b place (scalar_size dl tag))) → (n : Niche) → niche_at dl place tag ≡ Some n →
    IsIn (niche_size dl n) n.valid_range (number_of dl.endian (bytes_at b n.offset (niche_size dl n)))
niche_true dl (Initialized value range) place b h n e =
    some_unless (free_count (primitive_size dl value) range == 0) (record { offset = place; value = value; valid_range = range }) n
    (λ m. IsIn (niche_size dl m) m.valid_range (number_of dl.endian (bytes_at b m.offset (niche_size dl m)))) h e
niche_true dl (Union value) place b h n e = absurd (cc)

-- a scalar is true of bytes with one of its numbers at its place
scalar_true : (dl : TargetDataLayout) (s : Scalar) (place : ℕ) (b : List ℕ) →
    IsNumberOf (scalar_size dl s) s (number_of dl.endian (bytes_at b place (scalar_size dl s))) → IsScalarTrue dl place s b
scalar_true dl (Initialized value range) place b h = h
scalar_true dl (Union value) place b h = tt

-- a union's scalar is true of any bytes
union_true : (dl : TargetDataLayout) (s : Scalar) (place : ℕ) (b : List ℕ) → s ≡ Union (primitive_of s) → IsScalarTrue dl place s b
union_true dl (Initialized value range) place b e = absurd (cc)
union_true dl (Union value) place b e = tt

-- bytes make a number below those of as many bytes
little_below : (bytes : List ℕ) → AreBytes bytes → little bytes < numbers_of (length bytes)
little_below [] are = omega arith
little_below (x ∷ xs) are =
    let rest = little_below xs (All-tail (λ k. k < 256) x xs are) in
    let first : x < 256 = All-head (λ k. k < 256) x xs are in
    subst (λ k. x + 256 * little xs < k) (sym (numbers_of-suc (length xs))) (omega (arith, rest, first))

-- more bytes have no fewer numbers
numbers_grow : (w v : ℕ) → w ≤ v → numbers_of w ≤ numbers_of v
numbers_grow zero v le = pow_pos (8 * v)
numbers_grow (suc w) zero le = omega (arith, le)
numbers_grow (suc w) (suc v) le = omega (arith, numbers_grow w v (omega (arith, le)), numbers_of-suc w, numbers_of-suc v)

-- in either order, at most w bytes make a number below those of w bytes
number_below : (order : Endian) (bytes : List ℕ) (w : ℕ) → length bytes ≤ w → AreBytes bytes → number_of order bytes < numbers_of w
number_below Little bytes w le are = omega (arith, little_below bytes are, numbers_grow (length bytes) w le)
number_below Big bytes w le are =
    let turned = little_below (reverse bytes) (AreBytes-reverse bytes are) in
    let short : length (reverse bytes) ≤ w = omega (arith, length-reverse bytes, le) in
    omega (arith, turned, numbers_grow (length (reverse bytes)) w short)

-- a full range has each number of its width
pub in_full : (w n : ℕ) → n < numbers_of w → IsIn w (full_range w) n
in_full w n below =
    in_from_between w (full_range w) n (omega (arith, below), omega (arith, below)) below (inl (omega arith, omega arith, omega (arith, below)))

-- a wide scalar is true of any bytes
wide_true : (dl : TargetDataLayout) (s : Scalar) (place : ℕ) (b : List ℕ) → AreBytes b → IsWide dl s → IsScalarTrue dl place s b
wide_true dl (Initialized value range) place b are wide =
    let w : ℕ = primitive_size dl value in
    let short : length (bytes_at b place w) ≤ w = omega (arith, length-bytes_at b place w) in
    subst (λ r. IsIn w r (number_of dl.endian (bytes_at b place w))) (sym wide)
    (in_full w (number_of dl.endian (bytes_at b place w)) (number_below dl.endian (bytes_at b place w) w short (AreBytes-bytes_at b place w are)))
wide_true dl (Union value) place b are wide = tt

module _ (dl : TargetDataLayout) (tag : Scalar) (place : ℕ) (b : List ℕ)
    (h : IsNumberOf (scalar_size dl tag) tag (number_of dl.endian (bytes_at b place (scalar_size dl tag)))) where
  -- where the number at the tag's place is one of the tag's, the tag is true there
  pub tag_true : IsScalarTrue dl place tag b
  tag_true = scalar_true dl tag place b h

  -- a scalar that is the tag, at the tag's place, is true
  same_true : (o : ℕ) (s : Scalar) → place ≡ o → s ≡ tag → IsScalarTrue dl o s b
  same_true o s at is = subst (λ k. IsScalarTrue dl k s b) at (subst (λ t. IsScalarTrue dl place t b) (sym is) tag_true)

  -- so is a view that has the tag there, and beside it only a union's scalar
  pub tag_view_niche : (view : BackendRepr) → HasTagAt place tag view → IsTrueOf dl view b
  tag_view_niche (OneScalar s) has = same_true 0 s has.0 has.1
  tag_view_niche (ScalarPair s t offset) has =
      elim has [
        | inl a ↦ (same_true 0 s a.0 a.1, union_true dl t offset b a.2)
        | inr a ↦ (union_true dl s 0 b a.2, same_true offset t a.0 a.1)
      ]
  tag_view_niche (Memory sized) has = tt
  tag_view_niche _ has = absurd has

  -- and one that begins with the tag, where the tag is at the start
  pub tag_view_start : place ≡ 0 → AreBytes b → (view : BackendRepr) → BeginsWithTag dl tag view → IsTrueOf dl view b
  tag_view_start start are (OneScalar s) begins = same_true 0 s start begins
  tag_view_start start are (ScalarPair s t offset) begins = (same_true 0 s start begins.0, wide_true dl t offset b are begins.1)
  tag_view_start start are (Memory sized) begins = tt
  tag_view_start start are _ begins = absurd begins

  -- the number at the tag's niche is in the niche's range
  pub tag_niche_true : (n : Niche) → niche_at dl place tag ≡ Some n →
      IsIn (niche_size dl n) n.valid_range (number_of dl.endian (bytes_at b n.offset (niche_size dl n)))
  tag_niche_true n e = niche_true dl tag place b h n e
