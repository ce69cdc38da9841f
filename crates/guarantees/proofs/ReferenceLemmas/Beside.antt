-- Scalars and pairs beside others, as the Reference has them.
use Rattle.std.proofs.Common.{◌≡◌, ℕ, ◌+◌, ◌^◌, ◌≤◌, Bool, true, false, Option, None, Some, refl, sym, ap, ap₂, ◌∙◌, arith, inl, inr, Ok, Err}
use Rattle.std.specs.Prelude.{◌==◌, nat_lt, unwrap_or, if◌then◌else◌}
use Rattle.std.proofs.Math.Pow.{pow_mono}
use Rattle.std.proofs.lemmas.Bool.{eq-eqb}
use Rattle.abi_base.specs.declared.pointer_spec.PointerSpec.{PointerSpec}
use Rattle.abi_base.specs.declared.data_layout.TargetDataLayout.{TargetDataLayout}
use Rattle.abi_base.specs.DataLayout.{IsLawfulDataLayout, IsPointerWidth, index_integer, pointer_spec_of, size_bound}
use Rattle.abi_base.specs.declared.primitive.Primitive.{Primitive}
use Rattle.abi_base.specs.Integer.{integer_size}
use Rattle.abi_base.specs.Primitive.{primitive_align, primitive_size}
use Rattle.abi_univariant.proofs.Offsets.Rounding.{rounded_to}
use Rattle.guarantees.proofs.ReferenceLemmas.Answers.{faultless, inj-Ok, no_error}
use Rattle.abi_scalar.specs.declared.scalar.Scalar.{Scalar}
use Rattle.abi_scalar.specs.Pair.{pair_align, pair_size, second_offset}
use Rattle.abi_scalar.specs.Scalar.{primitive_of, scalar_size}
use Rattle.abi_tree.specs.Placed.{Placed, size_of}
use Rattle.abi_tree.specs.Tree.{Tree, scalar, pair}
use Rattle.rustc_abi.specs.declared.error.LayError.{LayError}
use Rattle.rustc_abi.specs.declared.error.LayError.TheVariants.{SizeOverflow}
use Rattle.rustc_abi.specs.ScalarFault.{scalar_fault}
use Rattle.rustc_abi.specs.Laying.{IsLaying, one_scalar, two_scalars, unless}
use Rattle.guarantees.specs.Reference.Words.{Extent, align_in_bytes, extent_of}
use Rattle.guarantees.specs.Reference.Primitive.{HasPointersOfIndex, HasWideIndex, HoldsAddresses, IsSignless, IsThin, IsWidePointer, index_of}

abbrev primitive_extent : TargetDataLayout → Primitive → Extent
primitive_extent dl q = record { size = primitive_size dl q; align = 2 ^ primitive_align dl q }

itself : (n : ℕ) → (n == n) ≡ true
itself n = eq-eqb n n refl

pub index_size : (bytes : ℕ) → IsPointerWidth bytes → integer_size (index_integer bytes) ≡ bytes
index_size bytes (inl two) = ap (λ n. integer_size (index_integer n)) two ∙ sym two
index_size bytes (inr (inl four)) = ap (λ n. integer_size (index_integer n)) four ∙ sym four
index_size bytes (inr (inr eight)) = ap (λ n. integer_size (index_integer n)) eight ∙ sym eight

module _ (dl : TargetDataLayout) where
  abbrev HasLayout : Tree → Placed → Type 0
  HasLayout t p = IsLaying dl t (Ok p)

  scalar_extent : (s : Scalar) (p : Placed) → IsLaying dl (scalar s) (Ok p) → extent_of p ≡ primitive_extent dl (primitive_of s)
  scalar_extent s p h = ap extent_of (faultless (one_scalar dl s) p (scalar_fault dl s) h)

  pub laid_signless : (t : Tree) (p : Placed) → IsLaying dl t (Ok p) → IsSignless HasLayout t p
  laid_signless (scalar s) p h = λ i signed is t other q like there.
      scalar_extent s p h ∙ ap (primitive_extent dl) is ∙ sym (scalar_extent t q there ∙ ap (primitive_extent dl) like)
  laid_signless _ p h = tt

  -- ---- thin pointers

  pub laid_addresses : IsLawfulDataLayout dl → HasWideIndex dl → (t : Tree) (p : Placed) → IsLaying dl t (Ok p) → HoldsAddresses dl t p
  laid_addresses law wide (scalar s) p h = λ signed is.
      let size : size_of p ≡ integer_size (index_of dl) =
      ap (λ (e : Extent). e.size) (scalar_extent s p h) ∙ ap (primitive_size dl) is in
      let own : integer_size (index_of dl) ≡ dl.default_address_space_pointer_spec.pointer_offset =
      index_size dl.default_address_space_pointer_spec.pointer_offset law.index in
      let same : dl.default_address_space_pointer_spec.pointer_offset ≡ dl.default_address_space_pointer_spec.pointer_size = wide in
      omega arith
  laid_addresses law wide _ p h = tt

  known_by : (b : Bool) → b ≡ true → (spec other : Option PointerSpec) → (if b then spec else other) ≡ spec
  known_by true e spec other = refl
  known_by false e spec other = absurd (cc)

  pub laid_thin : IsLawfulDataLayout dl → HasPointersOfIndex dl → (t : Tree) (p : Placed) → IsLaying dl t (Ok p) → IsThin dl HasLayout t p
  laid_thin law wide (scalar s) p h = λ is t signed q like there.
      let spec = dl.default_address_space_pointer_spec in
      let same : pointer_spec_of dl dl.default_address_space ≡ spec =
      ap (λ o. unwrap_or o spec) (known_by (dl.default_address_space.0 == dl.default_address_space.0) (itself dl.default_address_space.0) (Some spec) _) in
      let size : spec.pointer_size ≡ integer_size (index_of dl) = sym wide.0 ∙ sym (index_size spec.pointer_offset law.index) in
      scalar_extent s p h ∙ ap (primitive_extent dl) is
      ∙ ap (λ (x : PointerSpec). let e : Extent = record { size = x.pointer_size; align = 2 ^ x.pointer_align } in e) same
      ∙ ap₂ (λ (n a : ℕ). let e : Extent = record { size = n; align = 2 ^ a } in e) size (sym wide.1)
      ∙ sym (scalar_extent t q there ∙ ap (primitive_extent dl) like)
  laid_thin law wide _ p h = tt

  -- ---- wide ones

  pub two_faultless : (a b : Scalar) (p : Placed) (first second : Option LayError) (fits : Bool)
      → Ok p ≡ unless first (unless second (if fits then Ok (two_scalars dl a b) else Err SizeOverflow)) → p ≡ two_scalars dl a b
  two_faultless a b p None None true e = inj-Ok p (two_scalars dl a b) e
  two_faultless a b p None None false e = absurd (no_error p _ e)
  two_faultless a b p None (Some f) fits e = absurd (no_error p f e)
  two_faultless a b p (Some f) second fits e = absurd (no_error p f e)

  pub laid_wide : (t : Tree) (p : Placed) → IsLaying dl t (Ok p) → IsWidePointer HasLayout t p
  laid_wide (pair a b) p h = λ thin there.
      let whole : p ≡ two_scalars dl a b = two_faultless a b p (scalar_fault dl a) (scalar_fault dl b) (nat_lt (pair_size dl a b) (size_bound dl)) h in
      let one : extent_of thin ≡ primitive_extent dl (primitive_of a) = scalar_extent a thin there in
      let first : scalar_size dl a ≤ second_offset dl a b = (rounded_to (scalar_size dl a) (primitive_align dl (primitive_of b))).above in
      let end : second_offset dl a b + scalar_size dl b ≤ pair_size dl a b = (rounded_to (second_offset dl a b + scalar_size dl b) (pair_align dl a b)).above in
      let high : 2 ^ primitive_align dl (primitive_of a) ≤ 2 ^ pair_align dl a b = pow_mono {i = primitive_align dl (primitive_of a)} {j = pair_align dl a b} (omega arith) in
      let size : size_of p ≡ pair_size dl a b = ap size_of whole in
      let align : align_in_bytes p ≡ 2 ^ pair_align dl a b = ap align_in_bytes whole in
      let own_size : size_of thin ≡ scalar_size dl a = ap (λ (e : Extent). e.size) one in
      let own_align : align_in_bytes thin ≡ 2 ^ primitive_align dl (primitive_of a) = ap (λ (e : Extent). e.align) one in
      (omega (arith, first, end, size, own_size), omega (arith, high, align, own_align))
  laid_wide _ p h = tt
