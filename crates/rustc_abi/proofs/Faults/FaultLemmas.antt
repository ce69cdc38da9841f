-- A scalar without a fault is lawful, and the tests for it say so.
use Rattle.std.proofs.Common.{◌≡◌, ℕ, ◌*◌, ◌%◌, ◌^◌, ◌-◌, Bool, true, false, Option, Some, None, arith, refl, sym}
use Rattle.std.specs.Prelude.{◌==◌, ◌&&◌, nat_le, nat_lt, unwrap_or, IsTrue, IsSome, ◌↔◌, if◌then◌else◌}
use Rattle.std.specs.Cmp.Derive.{both_true}
use Rattle.std.proofs.lemmas.Bool.{leb-true, le-leb, ltb-true, eqb-true, eq-eqb, and_parts}
use Rattle.std.proofs.lemmas.Nat.{pow_pos}
use Rattle.std.proofs.lemmas.Nat.Gcd.{dvd_of_mod-eq-zero, mod-eq-zero_of_dvd}
use Rattle.abi_base.specs.declared.data_layout.TargetDataLayout.{TargetDataLayout}
use Rattle.abi_base.specs.declared.pointer_spec.PointerSpec.{PointerSpec}
use Rattle.abi_base.specs.declared.address_space.AddressSpace.{AddressSpace}
use Rattle.abi_base.specs.declared.primitive.Primitive.{Primitive}
use Rattle.abi_base.specs.declared.primitive.Primitive.TheVariants.{Int, Float, Pointer}
use Rattle.abi_base.specs.DataLayout.{known_spec, HasLawfulPointer, IsLawfulSpec}
use Rattle.abi_base.specs.Primitive.{primitive_size, IsLawfulPrimitive}
use Rattle.abi_scalar.specs.declared.scalar.Scalar.{Scalar}
use Rattle.abi_scalar.specs.declared.scalar.Scalar.TheVariants.{Initialized, Union}
use Rattle.abi_scalar.specs.Range.{numbers_of, AreWithin}
use Rattle.abi_scalar.specs.Scalar.{primitive_of, scalar_size, IsLawfulScalar, range_of}
use Rattle.rustc_abi.specs.ScalarFault.{is_lawful_spec, is_lawful_primitive, has_range_within, scalar_fault}
use Rattle.rustc_abi.specs.declared.error.LayError.TheVariants.{UnknownSpace, BadRange}

spec_from : (spec : PointerSpec) → is_lawful_spec (Some spec) ≡ true → IsLawfulSpec spec
spec_from spec h =
    let both = and_parts (nat_le 1 spec.pointer_size) (nat_le spec.pointer_size 16 && (spec.pointer_size % 2 ^ spec.pointer_align == 0)) h in
    let rest = and_parts (nat_le spec.pointer_size 16) (spec.pointer_size % 2 ^ spec.pointer_align == 0) both.1 in
    record {
      some = leb-true 1 spec.pointer_size both.0;
      most = leb-true spec.pointer_size 16 rest.0;
      fits = dvd_of_mod-eq-zero (2 ^ spec.pointer_align) (eqb-true (spec.pointer_size % 2 ^ spec.pointer_align) 0 rest.1);
    }

spec_to : (spec : PointerSpec) → IsLawfulSpec spec → is_lawful_spec (Some spec) ≡ true
spec_to spec h =
    both_true (le-leb 1 spec.pointer_size h.some)
    (both_true (le-leb spec.pointer_size 16 h.most)
    (eq-eqb (spec.pointer_size % 2 ^ spec.pointer_align) 0 (mod-eq-zero_of_dvd (2 ^ spec.pointer_align) h.fits)))

module _ (dl : TargetDataLayout) where
  -- what is said of a space by what is known of it
  abbrev IsWellFormedAs : Option PointerSpec → Type 0
  IsWellFormedAs found = IsSome found × IsLawfulSpec (unwrap_or found dl.default_address_space_pointer_spec)

  found_from : (found : Option PointerSpec) → is_lawful_spec found ≡ true → IsWellFormedAs found
  found_from None h = absurd (cc)
  found_from (Some spec) h = (refl, spec_from spec h)

  found_to : (found : Option PointerSpec) → IsWellFormedAs found → is_lawful_spec found ≡ true
  found_to None h = absurd (cc h.0)
  found_to (Some spec) h = spec_to spec h.1

  -- the test says what a lawful primitive is
  pub lawful_from : (p : Primitive) → is_lawful_primitive dl p ≡ true → IsLawfulPrimitive dl p
  lawful_from (Int i signed) h = tt
  lawful_from (Float f) h = tt
  lawful_from (Pointer space) h = found_from (known_spec dl space) h

  same_test : (a b : Bool) → (a ≡ true → b ≡ true) → (b ≡ true → a ≡ true) → a ≡ b
  same_test true b h k = sym (h refl)
  same_test false true h k = k refl
  same_test false false h k = refl

  -- the test by a call says the same
  pub pointer_test : (space : AddressSpace) (tag_distinguishes : Bool) → (IsTrue tag_distinguishes ↔ HasLawfulPointer dl space) → tag_distinguishes ≡ is_lawful_primitive dl (Pointer space)
  pointer_test space tag_distinguishes h =
      same_test tag_distinguishes (is_lawful_spec (known_spec dl space)) (λ t. found_to (known_spec dl space) (h.0 t))
      (λ t. h.1 (found_from (known_spec dl space) t))

  within_full : (width : ℕ) → AreWithin width (record { start = 0; end = numbers_of width - 1 })
  within_full width = (pow_pos (8 * width), omega (arith, pow_pos (8 * width)))

  range_from : (s : Scalar) → has_range_within dl s ≡ true → AreWithin (scalar_size dl s) (range_of dl s)
  range_from (Initialized value range) h =
      let both = and_parts (nat_lt range.start (numbers_of (primitive_size dl value))) (nat_lt range.end (numbers_of (primitive_size dl value))) h in
      (ltb-true range.start (numbers_of (primitive_size dl value)) both.0, ltb-true range.end (numbers_of (primitive_size dl value)) both.1)
  range_from (Union value) h = within_full (primitive_size dl value)

  by_tests : (s : Scalar) (known fits : Bool) → known ≡ is_lawful_primitive dl (primitive_of s) → fits ≡ has_range_within dl s →
      (if known then (if fits then None else Some BadRange) else Some UnknownSpace) ≡ None → IsLawfulScalar dl s
  by_tests s true true h k none = record { pointer = lawful_from (primitive_of s) (sym h); within = range_from s (sym k) }
  by_tests s true false h k none = absurd (cc)
  by_tests s false fits h k none = absurd (cc)

  -- a scalar without a fault is lawful
  pub faultless : (s : Scalar) → scalar_fault dl s ≡ None → IsLawfulScalar dl s
  faultless s none = by_tests s (is_lawful_primitive dl (primitive_of s)) (has_range_within dl s) refl refl none

  -- what is no pointer is lawful
  pub no_pointer : (p : Primitive) → ((space : AddressSpace) → p ≡ Pointer space → ⊥) → is_lawful_primitive dl p ≡ true
  no_pointer (Int i signed) h = refl
  no_pointer (Float f) h = refl
  no_pointer (Pointer space) h = absurd (h space refl)

  -- the fault of a scalar whose primitive is lawful is its range's
  pub range_fault : (s : Scalar) (fits : Bool) → is_lawful_primitive dl (primitive_of s) ≡ true → fits ≡ has_range_within dl s →
      (if fits then None else Some BadRange) ≡ scalar_fault dl s
  range_fault s fits h k = rw (h, sym k) refl
