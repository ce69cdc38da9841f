-- Types that stand in one list, each made of others by their places.
use Rattle.std.specs.Prelude.{◌≡◌, ℕ, zero, suc, ◌<◌, true, List, slice_get, Option, None, Some, unwrap_or}
use Rattle.abi_scalar.specs.Shape.{field_count}
use Rattle.abi_types.specs.declared.ty.interface.TyAndLayout.{TyAndLayout}
use Rattle.abi_types.specs.Ty.Typed.{Marks, Typed, typed, no_type, no_marks, layout_in}
use Rattle.abi_types.specs.Ty.Lawful.{IsWellFormedType}
use Rattle.abi_tests.specs.declared.own_types.OwnMarks.{OwnMarks}
use Rattle.abi_tests.specs.declared.own_types.OwnType.{OwnType}
use Rattle.abi_tests.specs.declared.own_types.OwnTy.{OwnTy}

-- the place at an index, and the first one where there is none
abbrev pub place_at : List ℕ → (index : ℕ) → ℕ
place_at places i = unwrap_or (slice_get places i) 0

-- what a type says of itself
abbrev pub own_marks : OwnMarks → Marks
own_marks marks = record no_marks { is_transparent = marks.transparent; is_complex = marks.complex }

-- A complex number has a field.
pub record HasParts (own : OwnType) : Type 0 where
  pub counted : own.marks.complex ≡ true → 0 < field_count own.layout.fields

-- a type, of what stands at the places: it has no variants that a tag distinguishes
abbrev pub type_made_of : Option OwnType → (inner : ℕ → Typed) → Typed
type_made_of None inner = no_type
type_made_of (Some own) inner = typed own.layout (own_marks own.marks) (λ i. inner (place_at own.fields i)) (λ v. no_type)

-- the type at a place, of at most so many that lie one in another
abbrev pub typed_in : List OwnType → (depth place : ℕ) → Typed
typed_in types zero at = no_type
typed_in types (suc depth) at = type_made_of (slice_get types at) (typed_in types depth)

-- the type of a handle
abbrev pub handle_type : TyAndLayout OwnTy → Typed
handle_type this = typed_in this.ty.types.now this.ty.depth this.ty.at

-- how many types lie in it, one in another
abbrev pub handle_depth : TyAndLayout OwnTy → ℕ
handle_depth this = this.ty.depth

-- The layout beside a type is its own, and the type keeps the laws.
pub record IsWellFormedHandle (this : TyAndLayout OwnTy) : Type 0 where
  pub layout : layout_in (handle_type this) ≡ this.layout.0.now
  pub well_formed : IsWellFormedType (handle_type this)
