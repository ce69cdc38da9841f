-- Types that consist of one vector.
use Rattle.std.proofs.Common.{◌≡◌, ℕ, ◌+◌, ◌<◌, ◌≤◌, ◌==◌, Bool, false, refl, ap, ◌∙◌, arith}
use Rattle.std.specs.Prelude.{◌&&◌, ◌^◌, ◌≢◌}
use Rattle.std.proofs.lemmas.Bool.{ne_eqb, eq-eqb, and_left, and_right}
use Rattle.abi_scalar.specs.declared.backend_repr.BackendRepr.TheVariants.{Scalar as OneScalar, ScalarPair, SimdScalableVector, SimdVector, Memory}
use Rattle.abi_scalar.specs.declared.lane_count.BackendLaneCount.{BackendLaneCount}
use Rattle.abi_scalar.specs.declared.scalar.Scalar.{Scalar}
use Rattle.abi_base.specs.declared.scalable.NumScalableVectors.{NumScalableVectors}
use Rattle.abi_scalar.specs.Shape.{field_count, field_offset}
use Rattle.abi_types.specs.Ty.Typed.{Typed, typed, no_type, field_in, layout_in}
use Rattle.abi_types.specs.Ty.Lawful.{IsWellFormedType}
use Rattle.abi_types.specs.Ty.Walks.{is_single_vector}

-- a vector
pub of_vector : (size : ℕ) (t : Typed) (element : Scalar) (count : BackendLaneCount) → (layout_in t).backend_repr ≡ SimdVector element count → is_single_vector size t ≡ ((layout_in t).size == size)
of_vector size (typed l m f v) element count e = rw e refl
of_vector size no_type element count e = cc

-- bytes in memory with fields
memory : (size : ℕ) (t : Typed) (sized : Bool) → (layout_in t).backend_repr ≡ Memory sized
    → is_single_vector size t ≡ ((field_count (layout_in t).fields == 1) && (field_offset (layout_in t).fields 0 == 0) && is_single_vector size (field_in t 0))
memory size (typed l m f v) sized e = rw e refl
memory size no_type sized e = refl

-- bytes in memory with one field, at 0
pub of_field : (size : ℕ) (t : Typed) (sized : Bool) → (layout_in t).backend_repr ≡ Memory sized → field_count (layout_in t).fields ≡ 1 → field_offset (layout_in t).fields 0 ≡ 0
    → is_single_vector size t ≡ is_single_vector size (field_in t 0)
of_field size t sized e one zero =
    memory size t sized e ∙ ap (λ b. b && (field_offset (layout_in t).fields 0 == 0) && is_single_vector size (field_in t 0)) (eq-eqb (field_count (layout_in t).fields) 1 one)
    ∙ ap (λ b. b && is_single_vector size (field_in t 0)) (eq-eqb (field_offset (layout_in t).fields 0) 0 zero)

-- bytes in memory with no field or several
pub of_fields : (size : ℕ) (t : Typed) (sized : Bool) → (layout_in t).backend_repr ≡ Memory sized → field_count (layout_in t).fields ≢ 1 → is_single_vector size t ≡ false
of_fields size t sized e other = memory size t sized e ∙ ap (λ b. b && (field_offset (layout_in t).fields 0 == 0) && is_single_vector size (field_in t 0)) (ne_eqb (field_count (layout_in t).fields) 1 other)

-- bytes in memory whose first field doesn't begin at 0
pub of_moved_field : (size : ℕ) (t : Typed) (sized : Bool) → (layout_in t).backend_repr ≡ Memory sized → field_offset (layout_in t).fields 0 ≢ 0 → is_single_vector size t ≡ false
of_moved_field size t sized e other =
    memory size t sized e
    ∙ and_left ((field_count (layout_in t).fields == 1) && (field_offset (layout_in t).fields 0 == 0)) (is_single_vector size (field_in t 0))
    (and_right (field_count (layout_in t).fields == 1) (field_offset (layout_in t).fields 0 == 0) (ne_eqb (field_offset (layout_in t).fields 0) 0 other))

-- one scalar
pub of_scalar : (size : ℕ) (t : Typed) (s : Scalar) → (layout_in t).backend_repr ≡ OneScalar s → is_single_vector size t ≡ false
of_scalar size (typed l m f v) s e = rw e refl
of_scalar size no_type s e = refl

-- two scalars
pub of_pair : (size : ℕ) (t : Typed) (a b : Scalar) (offset : ℕ) → (layout_in t).backend_repr ≡ ScalarPair a b offset → is_single_vector size t ≡ false
of_pair size (typed l m f v) a b offset e = rw e refl
of_pair size no_type a b offset e = refl

-- vectors whose length the machine decides
pub of_scalable_vector : (size : ℕ) (t : Typed) (s : Scalar) (c : BackendLaneCount) (n : NumScalableVectors) → (layout_in t).backend_repr ≡ SimdScalableVector s c n → is_single_vector size t ≡ false
of_scalable_vector size (typed l m f v) s c n e = rw e refl
of_scalable_vector size no_type s c n e = refl

-- a field begins inside
pub offset_fits : (t : Typed) (i : ℕ) → IsWellFormedType t → i < field_count (layout_in t).fields → (layout_in t).size < 2 ^ 64 → field_offset (layout_in t).fields i < 2 ^ 64
offset_fits no_type i law lt fits = absurd law
offset_fits (typed l m f v) i law lt fits = let inside : field_offset l.fields i + (layout_in (f i)).size ≤ l.size = law.0.inside i lt in omega (arith, inside, fits)

-- what the walk's proof goes by
pub ruleset vector_steps = (of_vector, of_field, of_fields, of_moved_field, of_scalar, of_pair, of_scalable_vector, offset_fits)
