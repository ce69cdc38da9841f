-- The tree that a type is.
use Rattle.std.specs.Prelude.{ℕ, zero, suc, ◌-◌, Bool, true, false, List, [], ◌∷◌, length, map, take, Vec, ℤ, pos, ◌+ℤ◌, Option, Some, None, Ok, Err, if◌then◌else◌}
use Rattle.std.specs.Int.{cast_unsigned, w128}
use Rattle.std.specs.declared.alloc.Global.{Global}
use Rattle.abi_base.specs.declared.data_layout.TargetDataLayout.{TargetDataLayout}
use Rattle.abi_tree.specs.Tree.{Tree, Variants, array as array_tree, enum, more_variants, never as never_tree, no_variants, struct, tree_of, trees, union, unit}
use Rattle.abi_tree.specs.declared.tree.TypeTree.{TypeTree}
use Rattle.rust_source.specs.declared.item.Field.{Field}
use Rattle.rust_source.specs.declared.item.Item.{Item}
use Rattle.rust_source.specs.declared.item.ItemKind.{ItemKind}
use Rattle.rust_source.specs.declared.item.ItemKind.TheVariants.{Enum as EnumItem, Struct as StructItem, Union as UnionItem}
use Rattle.rust_source.specs.declared.item.Variant.{Variant}
use Rattle.rust_source.specs.declared.place.Place.{Place}
use Rattle.rust_source.specs.declared.syntax.Expr.{Expr}
use Rattle.abi_rust.specs.Aligned.{discriminants_checked, packed_checked}
use Rattle.abi_rust.specs.CopyTypes.{union_fields_checked}
use Rattle.abi_rust.specs.Evaluating.{discriminant_kind, made_at}
use Rattle.abi_rust.specs.Formed.{formed_checked}
use Rattle.abi_rust.specs.Kinds.{item_at, outside}
use Rattle.abi_rust.specs.Meaning.{Meaning, then_meant, fault_at, too_deep}
use Rattle.abi_rust.specs.Measure.{Measure, each_meant, transparent_checked}
use Rattle.abi_rust.specs.Operators.{bits_of_integer, fitted, is_signed}
use Rattle.abi_rust.specs.Reprs.{no_repr, repr_of}
use Rattle.abi_rust.specs.Resolving.{evaluated, inside_item, most_deep, resolved}
use Rattle.abi_rust.specs.Scalars.{function_tree, limited_tree, named_tree, pointer_tree}
use Rattle.abi_rust.specs.Tails.{Outer, always_sized, has_known_size, last_of, pointee_tail, stands_in}
use Rattle.abi_rust.specs.Types.{GenericArgsRead, TyRead, Where, adt, array, dyn, function, list_given, list_of_types, never, pointer, primitive, reference, slice, tuple}
use Rattle.abi_rust.specs.Values.{ValueRead, number}
use Rattle.abi_rust.specs.declared.fault.FaultKind.TheVariants.{NotAType, Recursive, Unsized, WrongType}
use Rattle.abi_rust.specs.declared.fault.Stop.{Stop}
use Rattle.abi_rust.specs.declared.fault.Stop.TheVariants.{Fault}
use Rattle.abi_rust.specs.declared.tail.Tail.{Tail}
use Rattle.abi_rust.specs.declared.ty.Kind.TheVariants.{Integer as KindInteger}
use Rattle.abi_rust.specs.declared.budget.Context.{Context}

-- how trees are made, of types and of items, each under the items that it stands in
pub record TreeInner : Type 0 where
  pub of_type : Outer → TyRead → Meaning Tree
  pub of_item : Outer → (item : ℕ) → GenericArgsRead → Meaning Tree

-- a fault that has no place, reported at this one
abbrev pub stop_in : Place → Stop → Stop
stop_in at (Fault None kind) = Fault (Some at) kind
stop_in at stop = stop

-- the same of what is meant
abbrev pub told_at : {A : Type 0} → Place → Meaning A → Meaning A
told_at at (Ok a) = Ok a
told_at at (Err stop) = Err (stop_in at stop)

-- no tree: the type has no size of its own
abbrev pub no_size : {A : Type 0} → Meaning A
no_size = Err (Fault None Unsized)

-- a tree, where there is one
abbrev pub tree_or : Option TypeTree → Meaning Tree
tree_or (Some t) = Ok (tree_of t)
tree_or None = no_size

-- the first tree's first scalar is limited to a range, where one is asked for
abbrev pub first_limited : TargetDataLayout → Option (ℕ × ℕ) → List Tree → List Tree
first_limited dl (Some range) (t ∷ ts) = limited_tree dl range.0 range.1 t ∷ ts
first_limited dl _ ts = ts

-- the tuple of these: a struct, or the type of one value where there are none
abbrev pub tuple_of : List Tree → Tree
tuple_of [] = unit
tuple_of (t ∷ ts) = struct no_repr false None (trees (t ∷ ts))

-- a variant of the program's tree: its discriminant, and the trees of its fields
abbrev pub variant_as_tree : ℕ × Vec TypeTree Global → ℕ × List Tree
variant_as_tree v = (v.0, map tree_of v.1.items)

-- the variants of a list: each one's discriminant, and the trees of its fields
abbrev pub variants_listed : List (ℕ × List Tree) → Variants
variants_listed [] = no_variants
variants_listed (v ∷ vs) = more_variants v.0 (trees v.1) (variants_listed vs)

-- the number behind the last, or 0 where there is none
abbrev pub number_behind : (last : Option ℤ) → ℤ
number_behind None = pos 0
number_behind (Some z) = z +ℤ pos 1

-- the number that a value is
abbrev pub number_meant : Place → ValueRead → Meaning ℤ
number_meant at (number kind z) = Ok z
number_meant at _ = fault_at at WrongType

module _ (cx : Context) where
  abbrev pub discriminant_value : Item → (last : Option ℤ) → Place → Option Expr → Meaning ValueRead
  discriminant_value it last at (Some e) = evaluated cx (outside it.«module») e (Some (KindInteger (discriminant_kind it)))
  discriminant_value it last at None =
      let kind = discriminant_kind it in
      made_at at (fitted kind (is_signed kind) (bits_of_integer cx.pointer_bits kind) (number_behind last))

  -- a variant's discriminant: what is written, or else the number behind the last one, which has to fit
  unfoldable pub variant_number : Item → (last : Option ℤ) → Variant → Meaning ℤ
  variant_number it last v = then_meant (number_meant v.at) (discriminant_value it last v.at v.discriminant)

  -- the parts of a last field have sizes where they need them
  abbrev pub last_checked : Where → Option Field → Meaning Bool
  last_checked w None = Ok true
  last_checked w (Some f) = then_meant (λ t. told_at f.start (formed_checked cx t)) (resolved cx w f.ty)

  module _ (m : Measure) where
    module _ (T : TreeInner) where
      -- the tree of a type that is written, whose parts have sizes where they need them
      abbrev pub formed_tree : Outer → TyRead → Meaning Tree
      formed_tree outer t = then_meant (λ _. T.of_type outer t) (formed_checked cx t)

      -- the tree of a field
      abbrev pub field_tree : Outer → Where → Field → Meaning Tree
      field_tree outer w f = then_meant (λ t. told_at f.start (formed_tree outer t)) (resolved cx w f.ty)

      -- the trees of fields
      abbrev pub field_trees : Outer → Where → List Field → Meaning (List Tree)
      field_trees outer w fs = each_meant (field_tree outer w) fs

      -- the trees of the fields of a type that may be transparent
      abbrev pub checked_trees : Outer → Where → Item → List Field → Meaning (List Tree)
      checked_trees outer w it fs = then_meant (λ ts. then_meant (λ _. Ok ts) (transparent_checked m it ts)) (field_trees outer w fs)

      -- the tree of a tuple
      abbrev pub tuple_tree : Outer → List TyRead → Meaning Tree
      tuple_tree outer ts = then_meant (λ all. Ok (tuple_of all)) (each_meant (T.of_type outer) ts)

      -- the trees of a struct's fields
      unfoldable pub struct_fields : Outer → Where → Item → List Field → Meaning (List Tree)
      struct_fields outer w it fs =
          then_meant (λ _. then_meant (λ ts. Ok (first_limited cx.dl.now it.valid_range ts)) (checked_trees outer w it fs))
          (packed_checked cx most_deep it fs)

      -- the tree of a struct
      unfoldable pub struct_tree : Outer → Where → ℕ → Item → List Field → Meaning Tree
      struct_tree outer w n it fs =
          then_meant (λ repr. then_meant (λ always. then_meant (λ ts. Ok (struct repr always None (trees ts))) (struct_fields outer w it fs))
          (always_sized cx n it)) (repr_of it)

      -- the tree of a union
      unfoldable pub union_tree : Outer → Where → Item → List Field → Meaning Tree
      union_tree outer w it fs =
          then_meant (λ repr. then_meant (λ _. then_meant (λ ts. then_meant (λ _. Ok (union repr (trees ts))) (union_fields_checked cx w fs))
          (field_trees outer w fs)) (packed_checked cx most_deep it fs)) (repr_of it)

      -- a variant: its discriminant, and the trees of its fields
      unfoldable pub variant_tree : Outer → Where → Item → (last : Option ℤ) → Variant → Meaning (ℤ × List Tree)
      variant_tree outer w it last v =
          then_meant (λ z. then_meant (λ ts. Ok (z, ts)) (checked_trees outer w it v.fields.all.items)) (variant_number it last v)

      -- these variants, behind the last discriminant
      abbrev pub variant_trees : Outer → Where → Item → (last : Option ℤ) → List Variant → Meaning (List (ℕ × List Tree))
      variant_trees outer w it last [] = Ok []
      variant_trees outer w it last (v ∷ vs) =
          then_meant (λ one. then_meant (λ rest. Ok ((cast_unsigned w128 one.0, one.1) ∷ rest)) (variant_trees outer w it (Some one.0) vs))
          (variant_tree outer w it last v)

      -- the tree of an enum
      unfoldable pub enum_tree : Outer → Where → Item → List Variant → Meaning Tree
      enum_tree outer w it vs =
          then_meant (λ repr. then_meant (λ _. then_meant (λ all. Ok (enum repr (variants_listed all))) (variant_trees outer w it None vs))
          (discriminants_checked it vs)) (repr_of it)

      -- the tree of an item of this kind
      abbrev pub kind_tree : Outer → Where → ℕ → Item → ItemKind → Meaning Tree
      kind_tree outer w n it (StructItem fields) = struct_tree outer w n it fields.all.items
      kind_tree outer w n it (UnionItem fields) = union_tree outer w it fields.all.items
      kind_tree outer w n it (EnumItem all) = enum_tree outer w it all.variants.items
      kind_tree outer w n it _ = fault_at it.at (NotAType it.name)

      abbrev pub tree_by_item : Outer → ℕ → GenericArgsRead → Option Item → Meaning Tree
      tree_by_item outer n gs None = no_size
      tree_by_item outer n gs (Some it) =
          if stands_in outer n gs then fault_at it.at (Recursive it.name)
          else kind_tree ((n, gs) ∷ outer) (inside_item n it (list_given gs)) n it it.kind

      -- the tree of an item under what its parameters are given; a fault where it stands in itself
      unfoldable pub item_tree : Outer → ℕ → GenericArgsRead → Meaning Tree
      item_tree outer n gs = tree_by_item outer n gs (item_at cx.items.now cx.scope.now n)

      -- the tree of a pointer to a type, which is null only where it may be
      abbrev pub pointer_to : TyRead → (may_be_null : Bool) → Meaning Tree
      pointer_to t may = then_meant (λ tail. Ok (tree_of (pointer_tree cx.dl.now tail may))) (pointee_tail cx t)

      -- the tree of a type
      unfoldable pub type_tree : Outer → TyRead → Meaning Tree
      type_tree outer never = Ok never_tree
      type_tree outer (primitive p) = tree_or (named_tree cx.dl.now p)
      type_tree outer function = Ok (tree_of (function_tree cx.dl.now))
      type_tree outer dyn = no_size
      type_tree outer (tuple ts) = tuple_tree outer (list_of_types ts)
      type_tree outer (array t count) = then_meant (λ e. Ok (array_tree count e)) (T.of_type outer t)
      type_tree outer (slice t) = no_size
      type_tree outer (reference is_mutable t) = pointer_to t false
      type_tree outer (pointer t) = pointer_to t true
      type_tree outer (adt n gs) = T.of_item outer n gs

    -- how trees are made, where types may stand in one another so deep
    unfoldable pub tree_inner : (depth_left : ℕ) → TreeInner
    tree_inner zero = record { of_type = λ outer t. too_deep; of_item = λ outer n gs. too_deep }
    tree_inner (suc depth_left) = record { of_type = type_tree (tree_inner depth_left); of_item = item_tree (tree_inner depth_left) }

    -- the tree of a type that stands in no other
    abbrev pub whole_tree : TyRead → Meaning Tree
    whole_tree t = (tree_inner most_deep).of_type [] t

    -- the fields of a struct but the last have sizes, and so have the parts of the last that need one
    abbrev pub fields_before_checked : Outer → Where → List Field → Meaning Bool
    fields_before_checked outer w fs =
        then_meant (λ _. last_checked w (last_of fs)) (field_trees (tree_inner most_deep) outer w (take (length fs - 1) fs))

    abbrev pub unsized_kind_checked : Outer → Where → ItemKind → Meaning Bool
    unsized_kind_checked outer w (StructItem fields) = fields_before_checked outer w fields.all.items
    unsized_kind_checked outer w _ = Ok true

    abbrev pub unsized_by_item : ℕ → GenericArgsRead → Option Item → Meaning Bool
    unsized_by_item n gs None = Ok true
    unsized_by_item n gs (Some it) = unsized_kind_checked ((n, gs) ∷ []) (inside_item n it (list_given gs)) it.kind

    unfoldable pub unsized_item_checked : ℕ → GenericArgsRead → Meaning Bool
    unsized_item_checked n gs = unsized_by_item n gs (item_at cx.items.now cx.scope.now n)

    -- a type without a size of its own has none by its last field alone (Rust Reference, "Dynamically Sized Types")
    unfoldable pub unsized_checked : TyRead → Meaning Bool
    unsized_checked (adt n gs) = unsized_item_checked n gs
    unsized_checked _ = Ok true

    -- the tree of a type of which a pointer tells this, where its size is known
    abbrev pub tree_by_tail : TyRead → Tail → Meaning (Option Tree)
    tree_by_tail t tail =
        if has_known_size tail then then_meant (λ whole. Ok (Some whole)) (whole_tree t)
        else then_meant (λ _. Ok None) (unsized_checked t)

    -- the same, and none of a type whose size isn't known
    unfoldable pub sized_tree : TyRead → Meaning (Option Tree)
    sized_tree t = then_meant (λ _. then_meant (tree_by_tail t) (pointee_tail cx t)) (formed_checked cx t)
