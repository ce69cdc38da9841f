-- The type that numbers begin with.
use Rattle.std.specs.Prelude.{ℕ, zero, suc, List, [], ◌∷◌, Some, None, map, Vec}
use Rattle.std.specs.declared.alloc.Global.{Global}
use Rattle.abi_tree.specs.declared.tree.TypeTree.{TypeTree}
use Rattle.abi_tree.specs.Tree.{Tree, scalar, pair, never, unit, array, vector, struct, union, enum, coroutine, trees, tree_of, Variants, no_variants, more_variants}
use Rattle.abi_c.specs.declared.numbers.kind.TypeKind.{TypeKind}
use Rattle.abi_c.specs.declared.numbers.kind.TypeKind.TheVariants as kind
use Rattle.abi_c.specs.Numbers.Pieces.{◌>>=◌, Front, bool_numbered, front_as, front_list, front_two, front_wide, front_word, front_words}
use Rattle.abi_c.specs.Numbers.Kinds.{kind_numbered}
use Rattle.abi_c.specs.Numbers.FlatScalar.{front_scalar}
use Rattle.abi_c.specs.Numbers.FlatRepr.{front_repr}

-- the variants of a list of discriminants and fields
abbrev pub variants_of_items : List (ℕ × List Tree) → Variants
variants_of_items [] = no_variants
variants_of_items (v ∷ vs) = more_variants v.0 (trees v.1) (variants_of_items vs)

-- what the program keeps of a variant
abbrev pub variant_kept : ℕ × Vec TypeTree Global → ℕ × List Tree
variant_kept v = (v.0, map tree_of v.1.items)

module _ (inner : Front Tree) where
  -- elements
  abbrev pub front_array : Front Tree
  front_array ns = do
    count ← front_word ns
    t ← inner count.1
    Some (array count.0 t.0, t.1)

  -- lanes
  abbrev pub front_vector : Front Tree
  front_vector ns = do
    lanes ← front_word ns
    packed ← front_as bool_numbered lanes.1
    t ← inner packed.1
    Some (vector lanes.0 packed.0 t.0, t.1)

  -- fields
  abbrev pub front_struct : Front Tree
  front_struct ns = do
    repr ← front_repr ns
    sized ← front_as bool_numbered repr.1
    ts ← front_list inner sized.1
    Some (struct repr.0 sized.0 None (trees ts.0), ts.1)

  -- fields in an order that is handed in
  abbrev pub front_ordered : Front Tree
  front_ordered ns = do
    repr ← front_repr ns
    sized ← front_as bool_numbered repr.1
    order ← front_words sized.1
    ts ← front_list inner order.1
    Some (struct repr.0 sized.0 (Some order.0) (trees ts.0), ts.1)

  -- fields that share their bytes
  abbrev pub front_union : Front Tree
  front_union ns = do
    repr ← front_repr ns
    ts ← front_list inner repr.1
    Some (union repr.0 (trees ts.0), ts.1)

  -- a variant
  abbrev pub front_variant : Front (ℕ × List Tree)
  front_variant = front_two front_wide (front_list inner)

  -- variants
  abbrev pub front_enum : Front Tree
  front_enum ns = do
    repr ← front_repr ns
    vs ← front_list front_variant repr.1
    Some (enum repr.0 (variants_of_items vs.0), vs.1)

  -- a suspended computation
  abbrev pub front_coroutine : Front Tree
  front_coroutine ns = do
    prefix ← front_list inner ns
    locals ← front_list inner prefix.1
    states ← front_list front_words locals.1
    conflicts ← front_list (front_two front_word front_word) states.1
    Some (coroutine (trees prefix.0) (trees locals.0) states.0 conflicts.0, conflicts.1)

  -- a type of the kind
  abbrev pub front_of_kind : TypeKind → Front Tree
  front_of_kind kind.Scalar ns = front_scalar ns >>= λ s. Some (scalar s.0, s.1)
  front_of_kind kind.Pair ns = front_two front_scalar front_scalar ns >>= λ p. Some (pair p.0.0 p.0.1, p.1)
  front_of_kind kind.Never ns = Some (never, ns)
  front_of_kind kind.Unit ns = Some (unit, ns)
  front_of_kind kind.Array ns = front_array ns
  front_of_kind kind.Vector ns = front_vector ns
  front_of_kind kind.Struct ns = front_struct ns
  front_of_kind kind.Ordered ns = front_ordered ns
  front_of_kind kind.Union ns = front_union ns
  front_of_kind kind.Enum ns = front_enum ns
  front_of_kind kind.Coroutine ns = front_coroutine ns

  -- a type behind the number of its kind
  abbrev pub front_node : Front Tree
  front_node ns = do
    found ← front_as kind_numbered ns
    front_of_kind found.0 found.1

-- a type that nests others less than so deep
abbrev pub front_tree : (nested : ℕ) → Front Tree
front_tree zero = λ ns. None
front_tree (suc n) = front_node (front_tree n)
