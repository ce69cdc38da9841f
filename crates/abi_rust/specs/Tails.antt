-- Whether a type's size is known, and else what a pointer to it tells.
use Rattle.std.specs.Prelude.{ℕ, zero, suc, ◌&&◌, ◌||◌, nat_eq, Bool, true, false, List, [], ◌∷◌, map, pos, Option, Some, None, Ok, if◌then◌else◌}
use Rattle.rust_source.specs.declared.item.Field.{Field}
use Rattle.rust_source.specs.declared.item.Item.{Item}
use Rattle.rust_source.specs.declared.item.ItemKind.{ItemKind}
use Rattle.rust_source.specs.declared.item.ItemKind.TheVariants.{Struct as StructItem, Union as UnionItem}
use Rattle.rust_source.specs.declared.item.Parameter.{Parameter}
use Rattle.rust_source.specs.declared.item.ParameterKind.{ParameterKind}
use Rattle.rust_source.specs.declared.item.ParameterKind.TheVariants.{Const as ConstParameter, «Type» as TypeParameter}
use Rattle.rust_source.specs.declared.syntax.IntegerKind.TheVariants.{Usize}
use Rattle.abi_rust.specs.declared.above.Above.{Above}
use Rattle.abi_rust.specs.declared.above.Above.TheFolds.{fold-Above}
use Rattle.abi_rust.specs.declared.above.Above.TheOpen.{Above-F}
use Rattle.abi_rust.specs.declared.above.Above.TheOpen as layer
use Rattle.abi_rust.specs.declared.fault.FaultKind.TheVariants.{Recursive}
use Rattle.abi_rust.specs.declared.tail.Tail.{Tail}
use Rattle.abi_rust.specs.declared.tail.Tail.TheVariants.{Sized, Length, Table}
use Rattle.abi_rust.specs.declared.ty.Primitive.TheVariants.{Str}
use Rattle.abi_rust.specs.declared.budget.Context.{Context}
use Rattle.abi_rust.specs.Kinds.{item_at}
use Rattle.abi_rust.specs.Known.{same_givens}
use Rattle.abi_rust.specs.Meaning.{Meaning, then_meant, fault_at, too_deep}
use Rattle.abi_rust.specs.Names.{root}
use Rattle.abi_rust.specs.Resolving.{inside_item, most_deep, resolved}
use Rattle.abi_rust.specs.Types.{GenericArgRead, GenericArgsRead, TyRead, TysRead, adt, all_given, dyn, givens, list_given, more_types, never, no_types, of_type, of_value, primitive, slice, tuple}
use Rattle.abi_rust.specs.Values.{number}

-- the items that a type stands in, the nearest first, and what each is given
abbrev pub Outer : Type 0
Outer = List (ℕ × GenericArgsRead)

-- one layer of the program's list of them
abbrev pub layer_above : Above-F Outer → Outer
layer_above layer.Nothing = []
layer_above (layer.«Type» n given next) = (n, givens (all_given given.now)) ∷ next.now

-- the program's list of them
abbrev pub outer_of : Above → Outer
outer_of = fold-Above Outer layer_above

-- the item stands in itself under the same arguments
abbrev pub stands_in : Outer → ℕ → GenericArgsRead → Bool
stands_in [] n gs = false
stands_in (a ∷ more) n gs = (nat_eq a.0 n && same_givens a.1 gs) || stands_in more n gs

-- the last type of a list
abbrev pub last_type : TysRead → Option TyRead
last_type no_types = None
last_type (more_types t no_types) = Some t
last_type (more_types t ts) = last_type ts

-- the last field of a list
abbrev pub last_of : List Field → Option Field
last_of [] = None
last_of (f ∷ []) = Some f
last_of (f ∷ fs) = last_of fs

-- how a pointer's tail is found, of a type and of an item
pub record TailInner : Type 0 where
  pub tail_of : Outer → TyRead → Meaning Tail
  pub tail_of_item : Outer → ℕ → GenericArgsRead → Meaning Tail

-- what a parameter is assumed to be given: what has no size where it may have none
abbrev pub assumed_by : (may_be_unsized : Bool) → ParameterKind → GenericArgRead
assumed_by true (TypeParameter default) = of_type dyn
assumed_by false (TypeParameter default) = of_type never
assumed_by may (ConstParameter t default) = of_value (number Usize (pos 0))

-- what a parameter is assumed to be given, by its kind and whether it may be without a size
abbrev pub assumed : Parameter → GenericArgRead
assumed p = assumed_by p.may_be_unsized p.kind

-- one of these parameters may be given what has no size
abbrev pub may_any : List Parameter → Bool
may_any [] = false
may_any (p ∷ ps) = p.may_be_unsized || may_any ps

-- the size is known
abbrev pub has_known_size : Tail → Bool
has_known_size Sized = true
has_known_size _ = false

module _ (cx : Context) where
  -- the item stands in the standard library's source
  abbrev pub is_of_std : Item → Bool
  is_of_std it = nat_eq (root cx.items.now it.«module») cx.scope.now.std_root

  -- the field of an item of this kind that may be without a size: a struct's last, and none of a union's (Rust Reference,
  -- "Unions"), but the last of one in the standard library's source, where a cell is such a union
  abbrev pub tail_field : Item → ItemKind → Option Field
  tail_field it (StructItem fields) = last_of fields.all.items
  tail_field it (UnionItem fields) = if is_of_std it then last_of fields.all.items else None
  tail_field it _ = None

  module _ (T : TailInner) where
    abbrev pub tail_of_last : Outer → Option TyRead → Meaning Tail
    tail_of_last outer None = Ok Sized
    tail_of_last outer (Some t) = T.tail_of outer t

    -- what a pointer to the type tells, by the type's last field
    unfoldable pub tail_with : Outer → TyRead → Meaning Tail
    tail_with outer (slice t) = Ok Length
    tail_with outer (primitive Str) = Ok Length
    tail_with outer dyn = Ok Table
    tail_with outer (tuple ts) = tail_of_last outer (last_type ts)
    tail_with outer (adt n gs) = T.tail_of_item outer n gs
    tail_with outer _ = Ok Sized

    abbrev pub field_tail : Outer → ℕ → GenericArgsRead → Item → Option Field → Meaning Tail
    field_tail outer n gs it None = Ok Sized
    field_tail outer n gs it (Some f) =
        if stands_in outer n gs then fault_at it.at (Recursive it.name)
        else then_meant (λ t. T.tail_of ((n, gs) ∷ outer) t) (resolved cx (inside_item n it (list_given gs)) f.ty)

    abbrev pub item_tail : Outer → ℕ → GenericArgsRead → Option Item → Meaning Tail
    item_tail outer n gs None = Ok Sized
    item_tail outer n gs (Some it) = field_tail outer n gs it (tail_field it it.kind)

    -- what a pointer to the type tells that an item is; a fault where that stands in itself
    unfoldable pub tail_of_item_with : Outer → ℕ → GenericArgsRead → Meaning Tail
    tail_of_item_with outer n gs = item_tail outer n gs (item_at cx.items.now cx.scope.now n)

  -- how a pointer's tail is found, where types may need one another so deep
  unfoldable pub tail_inner : (depth_left : ℕ) → TailInner
  tail_inner zero = record { tail_of = λ outer t. too_deep; tail_of_item = λ outer n gs. too_deep }
  tail_inner (suc depth_left) = record { tail_of = tail_with (tail_inner depth_left); tail_of_item = tail_of_item_with (tail_inner depth_left) }

  -- what a pointer to the type tells
  unfoldable pub pointee_tail : TyRead → Meaning Tail
  pointee_tail t = (tail_inner most_deep).tail_of [] t

  -- a struct's last field has a known size whatever types its parameters are given
  unfoldable pub always_sized : ℕ → Item → Meaning Bool
  always_sized n it =
      if may_any it.parameters.items
      then then_meant (λ tail. Ok (has_known_size tail)) ((tail_inner most_deep).tail_of_item [] n (givens (map assumed it.parameters.items)))
      else Ok true
