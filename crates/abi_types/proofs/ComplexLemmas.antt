-- Complex numbers.
use Rattle.std.proofs.Common.{◌≡◌, ◌<◌, cond, true, false, None, ap}
use Rattle.abi_scalar.specs.Shape.{field_count}
use Rattle.abi_types.specs.Ty.Typed.{Typed, typed, no_type, field_in, layout_in, marks_of}
use Rattle.abi_types.specs.Ty.Lawful.{IsWellFormedType}
use Rattle.abi_types.specs.Ty.Walks.{complex_number, number_in, peel}

-- a complex number has a field
pub has_parts : (t : Typed) → IsWellFormedType t → (marks_of t).is_complex ≡ true → 0 < field_count (layout_in t).fields
has_parts (typed l m f v) law e = law.0.complex e
has_parts no_type law e = absurd law

-- what isn't marked is none
pub no_complex : (t : Typed) → (marks_of (peel t)).is_complex ≡ false → complex_number t ≡ None
no_complex t e = ap (λ b. cond b (number_in (layout_in (peel (field_in (peel t) 0))).backend_repr) None) e

-- what is marked is one as its first part says
pub of_parts : (t : Typed) → (marks_of (peel t)).is_complex ≡ true → complex_number t ≡ number_in (layout_in (peel (field_in (peel t) 0))).backend_repr
of_parts t e = ap (λ b. cond b (number_in (layout_in (peel (field_in (peel t) 0))).backend_repr) None) e
