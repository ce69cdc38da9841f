-- The layout of a lawful scalar is lawful.
use Rattle.std.proofs.Common.{◌≡◌, ℕ, ◌^◌, ◌<◌, ◌≤◌, inl, inr, arith, sym, subst, refl, Bool, true, false, ◌==◌, Some, None, IfSome, lit≤, lit<, eq-eqb, zero, suc, if◌then◌else◌}
use Rattle.std.proofs.Math.Nat.{two-pow-succ}
use Rattle.std.proofs.lemmas.Nat.{pow_pos}
use Rattle.abi_scalar.specs.declared.backend_repr.BackendRepr.TheVariants.{Scalar as OneScalar, Memory}
use Rattle.abi_base.specs.declared.integer.Integer.TheVariants.{I8}
use Rattle.std.specs.Int.{◌∣◌}
use Rattle.std.proofs.lemmas.Nat.Gcd.{le_of_dvd, dvd-zero}
use Rattle.abi_base.specs.declared.data_layout.TargetDataLayout.{TargetDataLayout}
use Rattle.abi_base.specs.declared.primitive.Primitive.{Primitive}
use Rattle.abi_base.specs.declared.primitive.Primitive.TheVariants.{Int, Float, Pointer}
use Rattle.abi_base.specs.DataLayout.{IsLawfulDataLayout, size_bound, bound_of_pointer}
use Rattle.abi_base.specs.Primitive.{primitive_size, primitive_align, IsLawfulPrimitive}
use Rattle.abi_scalar.specs.declared.layout_data.LayoutData.{LayoutData}
use Rattle.abi_scalar.specs.declared.scalar.Scalar.{Scalar}
use Rattle.abi_scalar.specs.declared.scalar.Scalar.TheVariants.{Initialized, Union}
use Rattle.abi_scalar.specs.Range.{free_count}
use Rattle.abi_scalar.specs.Scalar.{primitive_of, scalar_size, scalar_align, IsLawfulScalar, IsWellFormed}
use Rattle.abi_scalar.specs.Niche.{niche_at}
use Rattle.abi_scalar.specs.Lawful.{IsLawfulLayout, IsLawfulNiche, IsNicheOfView, HasLawfulTag}
use Rattle.abi_scalar.proofs.RangeLemmas.{free_after}

-- a lawful primitive's size is a multiple of its alignment
pub primitive_multiple : (dl : TargetDataLayout) (p : Primitive) → IsLawfulDataLayout dl → IsLawfulPrimitive dl p
    → 2 ^ primitive_align dl p ∣ primitive_size dl p
primitive_multiple dl (Int i s) law h = law.integers i
primitive_multiple dl (Float f) law h = law.floats f
primitive_multiple dl (Pointer space) law h = h.1.fits

-- an exponent is below its power
pub below_power : (a : ℕ) → a < 2 ^ a
below_power zero = pow_pos 0
below_power (suc a) = omega (arith, below_power a, two-pow-succ a)

-- each bound is above 16 bytes
pub bound_above : (dl : TargetDataLayout) → IsLawfulDataLayout dl → 2 ^ 15 ≤ size_bound dl
bound_above dl law =
    let P : ℕ → Type 0 = λ bytes. 2 ^ 15 ≤ bound_of_pointer bytes in
    elim law.pointer [
      | inl e ↦ subst P (sym e) (lit≤ tt)
      | inr o ↦ elim o [ inl e ↦ subst P (sym e) (lit≤ tt) | inr e ↦ subst P (sym e) (lit≤ tt) ]
    ]

-- what holds of a niche that is there
some_unless : (b : Bool) {A : Type 0} (niche : A) (P : A → Type 0) → (b ≡ false → P niche)
    → IfSome (if b then None else Some niche) P
some_unless true niche P h = tt
some_unless false niche P h = h refl

pub niche_lawful : (dl : TargetDataLayout) (s : Scalar) → IsLawfulScalar dl s
    → IfSome (niche_at dl 0 s) (IsLawfulNiche dl (scalar_size dl s))
niche_lawful dl (Initialized value range) h =
    some_unless (free_count (primitive_size dl value) range == 0) (record { offset = 0; value = value; valid_range = range })
    (IsLawfulNiche dl (primitive_size dl value)) (λ there. record {
      inside = omega arith;
      pointer = h.pointer;
      within = h.within;
      free = free_after (primitive_size dl value) range h.within (λ none. cc (eq-eqb _ 0 none));
    })
niche_lawful dl (Union value) h = tt

pub niche_viewed : (dl : TargetDataLayout) (s : Scalar) → IfSome (niche_at dl 0 s) (IsNicheOfView (OneScalar s))
niche_viewed dl (Initialized value range) =
    some_unless (free_count (primitive_size dl value) range == 0) (record { offset = 0; value = value; valid_range = range })
    (IsNicheOfView (OneScalar (Initialized value range))) (λ there. (refl, refl))
niche_viewed dl (Union value) = tt

few : 16 < 2 ^ 15
few = lit< tt

-- the layout of a scalar, by the parts that matter
pub scalar_lawful : {F V : Type 0} (dl : TargetDataLayout) (s : Scalar) (l : LayoutData F V)
    → IsWellFormed dl s → IsLawfulDataLayout dl → IsLawfulScalar dl s
    → l.size ≡ scalar_size dl s → l.align.abi ≡ scalar_align dl s → l.largest_niche ≡ niche_at dl 0 s
    → l.backend_repr ≡ OneScalar s → HasLawfulTag dl l.variants → IsLawfulLayout dl l
scalar_lawful dl s l r law h size align niche view tag =
    let many : 2 ^ scalar_align dl s ∣ scalar_size dl s = primitive_multiple dl (primitive_of s) law h.pointer in
    record {
      multiple = rw (size, align) many;
      bound = omega (arith, bound_above dl law, r.most, few, size);
      limit = omega (arith, below_power (scalar_align dl s), le_of_dvd (omega (arith, r.some)) many, r.most, align);
      niche = rw (niche, size) (niche_lawful dl s h);
      view = rw (view, size) (h, refl);
      niche_of_view = rw (niche, view) (niche_viewed dl s);
      tag = tag;
    }

-- a layout of no bytes, aligned as an `i8`, is lawful
pub empty_lawful : {F V : Type 0} (dl : TargetDataLayout) (sized : Bool) (l : LayoutData F V) → IsLawfulDataLayout dl
    → l.size ≡ 0 → l.align.abi ≡ dl.i8_align → l.largest_niche ≡ None → l.backend_repr ≡ Memory sized
    → HasLawfulTag dl l.variants → IsLawfulLayout dl l
empty_lawful dl sized l law size align niche view tag =
    let byte : 2 ^ dl.i8_align ∣ 1 = law.integers I8 in
    record {
      multiple = rw size (dvd-zero (2 ^ l.align.abi));
      bound = omega (arith, bound_above dl law, few, size);
      limit = omega (arith, below_power dl.i8_align, le_of_dvd (omega arith) byte, align);
      niche = rw niche tt;
      view = rw view tt;
      niche_of_view = rw niche tt;
      tag = tag;
    }
