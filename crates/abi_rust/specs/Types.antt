-- Types whose names are resolved, as the definitions see them.
use Rattle.std.specs.Prelude.{ℕ, Bool, List, [], ◌∷◌, map, Option}
use Rattle.abi_rust.specs.declared.ty.GenericArg.{GenericArg}
use Rattle.abi_rust.specs.declared.ty.GenericArg.TheFolds.{fold-GenericArg, fold-Ty}
use Rattle.abi_rust.specs.declared.ty.GenericArg.TheOpen.{GenericArg-F, Ty-F}
use Rattle.abi_rust.specs.declared.ty.GenericArg.TheOpen as layer
use Rattle.abi_rust.specs.declared.ty.Primitive.{Primitive}
use Rattle.abi_rust.specs.declared.ty.Ty.{Ty}
use Rattle.abi_rust.specs.Values.{ValueRead, value_as_read}
use Rattle.abi_rust.specs.declared.budget.Env.{Env}
use Rattle.abi_rust.specs.declared.budget.Local.{Local}

mutual
  -- a type
  pub data TyRead : Type 0 where
    never : TyRead
    primitive : Primitive → TyRead
    function : TyRead
    dyn : TyRead
    tuple : TysRead → TyRead
    array : TyRead → (count : ℕ) → TyRead
    slice : TyRead → TyRead
    reference : (is_mutable : Bool) → TyRead → TyRead
    pointer : TyRead → TyRead
    -- the struct, enum or union of this number, and what its parameters are given
    adt : (item : ℕ) → GenericArgsRead → TyRead

  -- a list of types
  pub data TysRead : Type 0 where
    no_types : TysRead
    more_types : TyRead → TysRead → TysRead

  -- what a parameter is given
  pub data GenericArgRead : Type 0 where
    of_type : TyRead → GenericArgRead
    of_value : ValueRead → GenericArgRead

  -- a list of what parameters are given
  pub data GenericArgsRead : Type 0 where
    no_given : GenericArgsRead
    more_given : GenericArgRead → GenericArgsRead → GenericArgsRead

-- the types of a list
abbrev pub types : List TyRead → TysRead
types [] = no_types
types (t ∷ ts) = more_types t (types ts)

-- a list of types
abbrev pub list_of_types : TysRead → List TyRead
list_of_types no_types = []
list_of_types (more_types t ts) = t ∷ list_of_types ts

-- what parameters are given, of a list
abbrev pub givens : List GenericArgRead → GenericArgsRead
givens [] = no_given
givens (g ∷ gs) = more_given g (givens gs)

-- a list of what parameters are given
abbrev pub list_given : GenericArgsRead → List GenericArgRead
list_given no_given = []
list_given (more_given g gs) = g ∷ list_given gs

-- one layer of the program's types, whose parts are seen so already
abbrev pub layer_given : GenericArg-F GenericArgRead TyRead → GenericArgRead
layer_given (layer.«Type» t) = of_type t
layer_given (layer.Value v) = of_value (value_as_read v)

-- one layer of a type
abbrev pub layer_ty : Ty-F GenericArgRead TyRead → TyRead
layer_ty layer.Never = never
layer_ty (layer.Primitive p) = primitive p
layer_ty layer.Function = function
layer_ty layer.Dyn = dyn
layer_ty (layer.Tuple all) = tuple (types all.items)
layer_ty (layer.Array t count) = array t.value count
layer_ty (layer.Slice t) = slice t.value
layer_ty (layer.Reference is_mutable t) = reference is_mutable t.value
layer_ty (layer.Pointer t) = pointer t.value
layer_ty (layer.Adt item all) = adt item (givens all.items)

-- the program's type as the definitions see it
abbrev pub ty_of : Ty → TyRead
ty_of = fold-Ty GenericArgRead TyRead layer_given layer_ty

-- what the program gives a parameter
abbrev pub given_of : GenericArg → GenericArgRead
given_of = fold-GenericArg GenericArgRead TyRead layer_given layer_ty

-- what the program gives parameters
abbrev pub all_given : List GenericArg → List GenericArgRead
all_given = map given_of

-- a `let` of this name, and its value
pub record LocalRead : Type 0 where
  pub name : ℕ
  pub value : ValueRead

-- the program's `let` as the definitions see it
abbrev pub local_read : Local → LocalRead
local_read l = record { name = l.name.0; value = value_as_read l.value }

-- where a type or an expression stands: the module, the item whose parameters it may name, what they are given, and the
-- `let`s before it, the last first
pub record Where : Type 0 where
  pub inside : ℕ
  pub item : Option ℕ
  pub given : List GenericArgRead
  pub locals : List LocalRead

-- the program's setting as the definitions see it
abbrev pub where_of : Env → Where
where_of s = record { inside = s.«module»; item = s.item; given = all_given s.given.now; locals = map local_read s.locals.now }
