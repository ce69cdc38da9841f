-- Whether the parts of a type that need a size have one.
use Rattle.std.specs.Prelude.{ℕ, ◌&&◌, ◌||◌, not, Bool, true, false, List, [], ◌∷◌, None, Ok, Err, if◌then◌else◌}
use Rattle.rust_source.specs.declared.item.Parameter.{Parameter}
use Rattle.abi_rust.specs.declared.fault.FaultKind.TheVariants.{Unsized}
use Rattle.abi_rust.specs.declared.fault.Stop.TheVariants.{Fault}
use Rattle.abi_rust.specs.declared.tail.Tail.{Tail}
use Rattle.abi_rust.specs.declared.budget.Context.{Context}
use Rattle.abi_rust.specs.Kinds.{item_at, parameters_of}
use Rattle.abi_rust.specs.Meaning.{Meaning}
use Rattle.abi_rust.specs.Tails.{has_known_size, pointee_tail}
use Rattle.abi_rust.specs.Types.{GenericArgRead, GenericArgsRead, TyRead, TysRead, adt, array, more_given, more_types, no_given, no_types, of_type, of_value, pointer, reference, slice, tuple}

-- a pointer tells more than an address. Where what it tells can't be found out, the type counts as one that has a size
abbrev pub tells_more : Meaning Tail → Bool
tells_more (Ok tail) = not (has_known_size tail)
tells_more (Err e) = false

module _ (cx : Context) where
  -- the type has no size of its own, for certain
  unfoldable pub lacks_size : TyRead → Bool
  lacks_size t = tells_more (pointee_tail cx t)

  -- what a parameter is given has no size of its own
  abbrev pub given_lacks : GenericArgRead → Bool
  given_lacks (of_type t) = lacks_size t
  given_lacks (of_value v) = false

  -- each of these types but the last has a size
  abbrev pub sized_but_last : TysRead → Bool
  sized_but_last no_types = true
  sized_but_last (more_types t no_types) = true
  sized_but_last (more_types t (more_types u us)) = not (lacks_size t) && sized_but_last (more_types u us)

  -- each of these parameters that isn't `?Sized` is given what has a size
  abbrev pub sizes_given : List Parameter → GenericArgsRead → Bool
  sizes_given [] gs = true
  sizes_given (p ∷ ps) no_given = true
  sizes_given (p ∷ ps) (more_given g gs) = (p.may_be_unsized || not (given_lacks g)) && sizes_given ps gs

  abbrev mutual
    -- the parts of a type that need a size have one: the elements of arrays and slices, those of tuples but the last, and
    -- what is given to parameters that aren't `?Sized` (Rust Reference, "Dynamically Sized Types")
    pub is_formed : TyRead → Bool
    is_formed (tuple ts) = sized_but_last ts && all_formed ts
    is_formed (array t count) = not (lacks_size t) && is_formed t
    is_formed (slice t) = not (lacks_size t) && is_formed t
    is_formed (reference is_mutable t) = is_formed t
    is_formed (pointer t) = is_formed t
    is_formed (adt n gs) = sizes_given (parameters_of cx.items.now cx.scope.now (item_at cx.items.now cx.scope.now n)) gs && all_given_formed gs
    is_formed _ = true

    pub all_formed : TysRead → Bool
    all_formed no_types = true
    all_formed (more_types t ts) = is_formed t && all_formed ts

    pub given_formed : GenericArgRead → Bool
    given_formed (of_type t) = is_formed t
    given_formed (of_value v) = true

    pub all_given_formed : GenericArgsRead → Bool
    all_given_formed no_given = true
    all_given_formed (more_given g gs) = given_formed g && all_given_formed gs

  -- a fault where a part that needs a size has none
  abbrev pub formed_checked : TyRead → Meaning Bool
  formed_checked t = if is_formed t then Ok true else Err (Fault None Unsized)
