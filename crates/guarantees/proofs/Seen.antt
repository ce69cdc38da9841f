-- Types that are seen as one number.
use Rattle.std.proofs.Common.{◌≡◌, ℕ, ◌+◌, ◌<◌, ◌≤◌, List, Ok, Result, length, arith, sym, ◌∙◌, subst}
use Rattle.std.specs.Prelude.{◌⊎◌}
use Rattle.std.proofs.lemmas.List.{take_all}
use Rattle.abi_base.specs.declared.data_layout.TargetDataLayout.{TargetDataLayout}
use Rattle.abi_base.specs.declared.endian.Endian.{Endian}
use Rattle.abi_base.specs.Primitive.{primitive_size}
use Rattle.abi_scalar.specs.declared.backend_repr.BackendRepr.TheVariants.{Scalar as OneScalar, ScalarPair}
use Rattle.abi_scalar.specs.declared.scalar.Scalar.{Scalar}
use Rattle.abi_scalar.specs.declared.scalar.Scalar.TheVariants.{Initialized, Union}
use Rattle.abi_scalar.specs.Lawful.{IsLawfulLayout, IsLawfulView}
use Rattle.abi_scalar.specs.Range.{IsIn, numbers_of}
use Rattle.abi_scalar.specs.Scalar.{IsBool, IsLawfulScalar, IsNumberOf, scalar_size}
use Rattle.abi_tree.specs.Bytes.{bytes_at, number_of}
use Rattle.abi_tree.specs.declared.laid.Laid.{Laid}
use Rattle.abi_tree.specs.Faithful.{IsScalarTrue, IsTrueOf, IsViewTrue}
use Rattle.abi_tree.specs.Holding.{Holds}
use Rattle.abi_tree.specs.Laid.{endian_of, placed_of}
use Rattle.abi_tree.specs.Placed.{Placed, layout_of, size_of}
use Rattle.abi_tree.specs.Tree.{Tree}
use Rattle.abi_tree.specs.Value.{Value}
use Rattle.rustc_abi.specs.declared.error.LayError.{LayError}
use Rattle.rustc_abi.specs.Laying.{IsLaying}
use Rattle.guarantees.specs.Loaded.{IsNumberAt, IsSeenAs, IsSeenAsPair}
use Rattle.abi_tree.proofs.Bytes.HoldLemmas.{length-Holds}
use Rattle.guarantees.proofs.Numbers.{bool_number, primitive_most}

abbrev answer : Placed → Result Placed LayError
answer placed = Ok placed

inj-answer : (a b : Placed) → answer a ≡ answer b → a ≡ b
inj-answer a b e = cc

-- a tree has one layout
pub same_placed : (dl : TargetDataLayout) (tree : Tree) → ((a b : Result Placed LayError) → IsLaying dl tree a → IsLaying dl tree b → a ≡ b) →
    (placed other : Placed) → IsLaying dl tree (Ok placed) → IsLaying dl tree (Ok other) → other ≡ placed
same_placed dl tree one placed other h g = inj-answer other placed (one (answer other) (answer placed) g h)

module _ (dl : TargetDataLayout) (tree : Tree) (one : (a b : Result Placed LayError) → IsLaying dl tree a → IsLaying dl tree b → a ≡ b) (placed : Placed)
    (laid : IsLaying dl tree (Ok placed)) where
  -- as which scalar the tree is seen, its layout has
  pub seen_here : (s : Scalar) → IsSeenAs dl tree s → (layout_of placed).backend_repr ≡ OneScalar s
  seen_here s seen = subst (λ p. (layout_of p).backend_repr ≡ OneScalar s) (same_placed dl tree one placed seen.0 laid seen.1) seen.2

  -- what bytes hold of the tree, they hold of its layout
  pub held_here : (order : Endian) → order ≡ dl.endian → (b : List ℕ) (v : Value) (other : Placed) → IsLaying dl tree (Ok other) → Holds dl.endian other b v → Holds order placed b v
  held_here order same b v other is h =
      subst (λ o. Holds o placed b v) (sym same) (subst (λ p. Holds dl.endian p b v) (same_placed dl tree one placed other laid is) h)

-- all bytes of a list
whole : (b : List ℕ) (n : ℕ) → n ≡ length b → bytes_at b 0 n ≡ b
whole b n e = take_all n b (omega arith)

module _ (dl : TargetDataLayout) (b : List ℕ) where
  scalar_number : (s : Scalar) → scalar_size dl s ≡ length b → IsScalarTrue dl 0 s b → number_of dl.endian b < numbers_of (length b) →
      IsNumberOf (scalar_size dl s) s (number_of dl.endian b)
  scalar_number (Initialized value range) size is fits =
      subst (λ w. IsIn (primitive_size dl value) range (number_of dl.endian w)) (whole b (primitive_size dl value) size) is
  scalar_number (Union value) size is fits = subst (λ n. number_of dl.endian b < numbers_of n) (sym size) fits

-- bytes that hold a value of a type that is seen as this scalar
module _ (dl : TargetDataLayout) (laid : Laid) (b : List ℕ) (s : Scalar) (v : Value) (seen : (layout_of (placed_of laid)).backend_repr ≡ OneScalar s)
    (lawful : IsLawfulLayout dl (layout_of (placed_of laid))) (held : Holds (endian_of laid) (placed_of laid) b v) where
  long : scalar_size dl s ≡ length b
  long = (subst (IsLawfulView dl (size_of (placed_of laid))) seen lawful.view).1 ∙ sym (length-Holds (endian_of laid) (placed_of laid) b v held)

  -- they are at most 16
  pub seen_most : length b ≤ 16
  seen_most = omega (arith, primitive_most dl _ (subst (IsLawfulView dl (size_of (placed_of laid))) seen lawful.view).0.pointer, long)

  -- and make one of its numbers
  pub seen_number : endian_of laid ≡ dl.endian → IsViewTrue dl (placed_of laid) → (n : ℕ) → n ≡ number_of dl.endian b → n < numbers_of (length b) →
      IsNumberOf (scalar_size dl s) s n
  seen_number order true_of n is fits =
      let view : IsTrueOf dl (layout_of (placed_of laid)).backend_repr b = true_of b v (subst (λ o. Holds o (placed_of laid) b v) order held) in
      subst (IsNumberOf (scalar_size dl s) s) (sym is)
      (scalar_number dl b s long (subst (λ r. IsTrueOf dl r b) seen view) (subst (λ m. m < numbers_of (length b)) is fits))

-- the numbers of a `bool`
pub of_bool : (dl : TargetDataLayout) (s : Scalar) (n : ℕ) → IsBool s → IsNumberOf (scalar_size dl s) s n → (n ≡ 0) ⊎ (n ≡ 1)
of_bool dl s n is number = bool_number n (subst (λ t. IsNumberOf (scalar_size dl t) t n) is number)

-- ---- two numbers

module _ (dl : TargetDataLayout) (b : List ℕ) where
  number_at : (s : Scalar) (offset n : ℕ) → IsScalarTrue dl offset s b → n ≡ number_of dl.endian (bytes_at b offset (scalar_size dl s)) → n < numbers_of (scalar_size dl s) →
      IsNumberAt dl b offset s n
  number_at (Initialized value range) offset n is same fits = record {
    number = same;
    range = subst (λ m. IsIn (primitive_size dl value) range m) (sym same) is;
  }
  number_at (Union value) offset n is same fits = record { number = same; range = fits }

-- as which pair the tree is seen, its layout has
pub seen_pair_here : (dl : TargetDataLayout) (tree : Tree) → ((a b : Result Placed LayError) → IsLaying dl tree a → IsLaying dl tree b → a ≡ b) → (placed : Placed) → IsLaying dl tree (Ok placed) →
    (s t : Scalar) (offset : ℕ) → IsSeenAsPair dl tree s t offset → (layout_of placed).backend_repr ≡ ScalarPair s t offset
seen_pair_here dl tree one placed laid s t offset seen =
    subst (λ p. (layout_of p).backend_repr ≡ ScalarPair s t offset) (same_placed dl tree one placed seen.0 laid seen.1) seen.2

-- bytes that hold a value of a type that is seen as these two
module _ (dl : TargetDataLayout) (laid : Laid) (b : List ℕ) (s t : Scalar) (offset : ℕ) (v : Value) (seen : (layout_of (placed_of laid)).backend_repr ≡ ScalarPair s t offset)
    (lawful : IsLawfulLayout dl (layout_of (placed_of laid))) (held : Holds (endian_of laid) (placed_of laid) b v) where
  of_pair : IsLawfulView dl (size_of (placed_of laid)) (ScalarPair s t offset)
  of_pair = subst (IsLawfulView dl (size_of (placed_of laid))) seen lawful.view

  pub first_lawful : IsLawfulScalar dl s
  first_lawful = of_pair.0

  pub second_lawful : IsLawfulScalar dl t
  second_lawful = of_pair.1

  pub second_inside : offset + scalar_size dl t ≤ length b
  second_inside = omega (arith, of_pair.3, length-Holds (endian_of laid) (placed_of laid) b v held)

  pub first_inside : 0 + scalar_size dl s ≤ length b
  first_inside = omega (arith, of_pair.2, second_inside)

  true_here : endian_of laid ≡ dl.endian → IsViewTrue dl (placed_of laid) → IsTrueOf dl (ScalarPair s t offset) b
  true_here order true_of = subst (λ r. IsTrueOf dl r b) seen (true_of b v (subst (λ o. Holds o (placed_of laid) b v) order held))

  pub first_number : endian_of laid ≡ dl.endian → IsViewTrue dl (placed_of laid) → (n : ℕ) → n ≡ number_of dl.endian (bytes_at b 0 (scalar_size dl s)) → n < numbers_of (scalar_size dl s) →
      IsNumberAt dl b 0 s n
  first_number order true_of n same fits = number_at dl b s 0 n (true_here order true_of).0 same fits

  pub second_number : endian_of laid ≡ dl.endian → IsViewTrue dl (placed_of laid) → (n : ℕ) → n ≡ number_of dl.endian (bytes_at b offset (scalar_size dl t)) → n < numbers_of (scalar_size dl t) →
      IsNumberAt dl b offset t n
  second_number order true_of n same fits = number_at dl b t offset n (true_here order true_of).1 same fits
