-- The sizes that are known.
use Rattle.std.specs.Prelude.{ℕ, ◌&&◌, not, nat_eq, int_lt, Bool, true, false, List, [], ◌∷◌, Option, Some, None, if◌then◌else◌}
use Rattle.abi_base.specs.declared.float.Float.{Float}
use Rattle.abi_base.specs.declared.float.Float.TheVariants.{F16, F16B, F32, F64, F128, PpcF128}
use Rattle.rust_source.specs.contracts.syntax.TypePartialEq.TheImpl as written
use Rattle.rust_source.specs.declared.place.Place.{Place}
use Rattle.rust_source.specs.declared.syntax.«Type».{«Type» as Written}
use Rattle.abi_rust.specs.declared.ty.Primitive.{Primitive}
use Rattle.abi_rust.specs.declared.ty.Primitive.TheVariants as named
use Rattle.abi_rust.specs.declared.budget.KnownSize.{KnownSize}
use Rattle.abi_rust.specs.declared.budget.Request.{Request}
use Rattle.abi_rust.specs.Meaning.{Meaning}
use Rattle.abi_rust.specs.Operators.{same_integer}
use Rattle.abi_rust.specs.Types.{GenericArgRead, GenericArgsRead, TyRead, TysRead, Where, adt, all_given, array, dyn, function, givens, more_given, more_types, never, no_given, no_types, of_type, of_value, pointer, primitive, reference, slice, tuple}
use Rattle.abi_rust.specs.Values.{ValueRead, code, number, truth}

-- two truths are one
abbrev pub same_truth : Bool → Bool → Bool
same_truth true b = b
same_truth false b = not b

-- two values are one
abbrev pub same_value : ValueRead → ValueRead → Bool
same_value (truth a) (truth b) = same_truth a b
same_value (code a) (code b) = nat_eq a b
same_value (number kind a) (number other b) = same_integer kind other && (not (int_lt a b) && not (int_lt b a))
same_value _ _ = false

-- a float's number among them
abbrev pub number_of_float : Float → ℕ
number_of_float F16 = 0
number_of_float F16B = 1
number_of_float F32 = 2
number_of_float F64 = 3
number_of_float F128 = 4
number_of_float PpcF128 = 5

-- two primitive types are one
abbrev pub same_primitive : Primitive → Primitive → Bool
same_primitive named.Bool named.Bool = true
same_primitive named.Char named.Char = true
same_primitive named.Str named.Str = true
same_primitive (named.Integer a) (named.Integer b) = same_integer a b
same_primitive (named.Float a) (named.Float b) = nat_eq (number_of_float a) (number_of_float b)
same_primitive _ _ = false

abbrev mutual
  -- two types are one
  pub same_ty : TyRead → TyRead → Bool
  same_ty never never = true
  same_ty (primitive a) (primitive b) = same_primitive a b
  same_ty function function = true
  same_ty dyn dyn = true
  same_ty (tuple ts) (tuple us) = same_tys ts us
  same_ty (array t n) (array u m) = nat_eq n m && same_ty t u
  same_ty (slice t) (slice u) = same_ty t u
  same_ty (reference a t) (reference b u) = (if a then b else not b) && same_ty t u
  same_ty (pointer t) (pointer u) = same_ty t u
  same_ty (adt n gs) (adt m hs) = nat_eq n m && same_givens gs hs
  same_ty _ _ = false

  pub same_tys : TysRead → TysRead → Bool
  same_tys no_types no_types = true
  same_tys (more_types t ts) (more_types u us) = same_ty t u && same_tys ts us
  same_tys _ _ = false

  pub same_given : GenericArgRead → GenericArgRead → Bool
  same_given (of_type t) (of_type u) = same_ty t u
  same_given (of_value v) (of_value w) = same_value v w
  same_given _ _ = false

  pub same_givens : GenericArgsRead → GenericArgsRead → Bool
  same_givens no_given no_given = true
  same_givens (more_given g gs) (more_given h hs) = same_given g h && same_givens gs hs
  same_givens _ _ = false

-- two items, or none, are one
abbrev pub is_same_item : Option ℕ → Option ℕ → Bool
is_same_item (Some a) (Some b) = nat_eq a b
is_same_item None None = true
is_same_item _ _ = false

-- two types are one as they are written, the places of their names too
abbrev pub is_same_written : Written → Written → Bool
is_same_written = (written.ghosts).eq

-- the call of a request stands here
abbrev pub stands_in : Request → Where → Bool
stands_in r w = nat_eq r.«module» w.inside && (is_same_item r.item w.item && same_givens (givens (all_given r.given.items)) (givens w.given))

-- a request is that of the call at a place, which names a type where it stands
abbrev pub is_for : Request → Place → Where → Written → Bool
is_for r at w t = nat_eq r.at.0 at.0 && (stands_in r w && is_same_written r.ty.now t)

-- what is known of the size and the alignment that the call at a place asks for
abbrev pub known_at : List KnownSize → Place → Where → Written → Option (Meaning (ℕ × ℕ))
known_at [] at w t = None
known_at (k ∷ ks) at w t = if is_for k.asked at w t then Some k.found else known_at ks at w t
