-- Worked facts: the definitions of trees, values, marks and readings, tried on small types.
use Rattle.std.proofs.Common.{Bool, None, Some, ◌≡◌, ℕ, zero, suc, ◌<◌, List, [], ◌∷◌, get_or, map, Vec, true, false, arith, lit<, refl, ap, subst, sym, ◌∙◌}
use Rattle.std.specs.Prelude.{◌==◌, ◌||◌, nat_lt}
use Rattle.std.proofs.lemmas.Bool.{eqb-true, ltb-true}
use Rattle.std.proofs.Math.Bool.{or-false}
use Rattle.std.specs.declared.alloc.Global.{Global}
use Rattle.abi_base.specs.declared.primitive.Primitive.TheVariants.{Int}
use Rattle.abi_base.specs.declared.integer.Integer.{Integer}
use Rattle.abi_base.specs.declared.integer.Integer.TheVariants.{I8, I16, I32}
use Rattle.abi_base.specs.Integer.{integer_size}
use Rattle.abi_scalar.specs.declared.scalar.Scalar.{Scalar}
use Rattle.abi_scalar.specs.declared.scalar.Scalar.TheVariants.{Initialized}
use Rattle.abi_scalar.specs.declared.repr.ReprOptions.{ReprOptions}
use Rattle.abi_scalar.specs.Range.{full_range}
use Rattle.abi_types.specs.Ty.Typed.{Marks, no_layout}
use Rattle.abi_tree.specs.declared.mark.Mark.{Mark}
use Rattle.abi_tree.specs.declared.mark.Mark.TheVariants.{Plain, Never as NoValue, Unit as Empty}
use Rattle.abi_tree.specs.declared.node.Node.{Node}
use Rattle.abi_tree.specs.declared.node.Shape.{Shape}
use Rattle.abi_tree.specs.declared.node.Shape.TheVariants as kind
use Rattle.abi_tree.specs.declared.tree.TypeTree.{TypeTree, Scalar as OneScalar, Struct, Ordered, Coroutine, fold-roll-TypeTree}
use Rattle.abi_tree.specs.declared.tree.TypeTree.TheVariants.{rolls-Scalar, rolls-Struct, rolls-Ordered, rolls-Coroutine}
use Rattle.abi_tree.specs.declared.tree.TypeTree.TheOpen as layer
use Rattle.abi_tree.specs.declared.value.Value.{Pair as PairKept}
use Rattle.abi_tree.specs.Mark.{mark_of}
use Rattle.abi_tree.specs.Needed.{AreMadeFrom, AreVisits, IsClosed, RestsOn, is_among, named_by}
use Rattle.abi_tree.specs.Tree.{Tree, Trees, coroutine, layer_tree, more_trees, no_trees, scalar, struct, tree_of, trees}
use Rattle.abi_tree.specs.Typed.{marks_in}
use Rattle.abi_tree.specs.Value.{two, value_of}
use Rattle.abi_tree.proofs.Found.ValueLemmas.{value_of-Pair}

-- what a repr asks for that has these flags and asks for nothing else
abbrev with_flags : ℕ → ReprOptions
with_flags flags = record { int = None; align = None; pack = None; flags = record { 0 = flags }; scalable = None; field_shuffle_seed = 0 }

abbrev unsigned : Integer → Scalar
unsigned integer = Initialized (Int integer false) (full_range (integer_size integer))

-- ---- trees

tree_of-Scalar : (s : Scalar) → tree_of (OneScalar s) ≡ scalar s
tree_of-Scalar s = ap tree_of (sym (rolls-Scalar s)) ∙ fold-roll-TypeTree Tree layer_tree (layer.Scalar s)

-- u8 u32 u16
abbrev three_kept : List TypeTree
three_kept = OneScalar (unsigned I8) ∷ OneScalar (unsigned I32) ∷ OneScalar (unsigned I16) ∷ []

abbrev three : Trees
three = more_trees (scalar (unsigned I8)) (more_trees (scalar (unsigned I32)) (more_trees (scalar (unsigned I16)) no_trees))

three_are : trees (map tree_of three_kept) ≡ three
three_are = rw (tree_of-Scalar (unsigned I8), tree_of-Scalar (unsigned I32), tree_of-Scalar (unsigned I16)) refl

-- struct C ( u8 u32 u16 )
struct_is : (fields : Vec TypeTree Global) → fields.items ≡ three_kept → tree_of (Struct (with_flags 1) true fields) ≡ struct (with_flags 1) true None three
struct_is fields items =
    ap tree_of (sym (rolls-Struct (with_flags 1) true fields)) ∙ fold-roll-TypeTree Tree layer_tree (layer.Struct (with_flags 1) true fields)
    ∙ ap (λ (ts : List TypeTree). struct (with_flags 1) true None (trees (map tree_of ts))) items ∙ ap (struct (with_flags 1) true None) three_are

-- struct tail ( u8 u32 u16 ), whose last field may lose its size
tail_is : (fields : Vec TypeTree Global) → fields.items ≡ three_kept → tree_of (Struct (with_flags 0) false fields) ≡ struct (with_flags 0) false None three
tail_is fields items =
    ap tree_of (sym (rolls-Struct (with_flags 0) false fields)) ∙ fold-roll-TypeTree Tree layer_tree (layer.Struct (with_flags 0) false fields)
    ∙ ap (λ (ts : List TypeTree). struct (with_flags 0) false None (trees (map tree_of ts))) items ∙ ap (struct (with_flags 0) false None) three_are

-- ordered - ( 1 0 2 ) ( u8 u32 u16 )
ordered_is : (order : Vec ℕ Global) (fields : Vec TypeTree Global) → order.items ≡ (1 ∷ 0 ∷ 2 ∷ []) → fields.items ≡ three_kept →
    tree_of (Ordered (with_flags 0) true order fields) ≡ struct (with_flags 0) true (Some (1 ∷ 0 ∷ 2 ∷ [])) three
ordered_is order fields named items =
    ap tree_of (sym (rolls-Ordered (with_flags 0) true order fields)) ∙ fold-roll-TypeTree Tree layer_tree (layer.Ordered (with_flags 0) true order fields)
    ∙ ap (λ (ts : List TypeTree). struct (with_flags 0) true (Some order.items) (trees (map tree_of ts))) items
    ∙ ap (struct (with_flags 0) true (Some order.items)) three_are ∙ ap (λ (is : List ℕ). struct (with_flags 0) true (Some is) three) named

-- coroutine ( ) ( u8 u32 u16 ) ( ( 0 ) ( 1 2 ) ) ( 0 1 2 0 )
coroutine_is : (prefix locals : Vec TypeTree Global) (states : Vec (Vec ℕ Global) Global) (conflicts : Vec (ℕ × ℕ) Global) → prefix.items ≡ [] → locals.items ≡ three_kept →
    map (λ s. s.items) states.items ≡ ((0 ∷ []) ∷ (1 ∷ 2 ∷ []) ∷ []) → conflicts.items ≡ ((0, 1) ∷ (2, 0) ∷ []) →
    tree_of (Coroutine prefix locals states conflicts) ≡ coroutine no_trees three ((0 ∷ []) ∷ (1 ∷ 2 ∷ []) ∷ []) ((0, 1) ∷ (2, 0) ∷ [])
coroutine_is prefix locals states conflicts none items held pairs =
    ap tree_of (sym (rolls-Coroutine prefix locals states conflicts)) ∙ fold-roll-TypeTree Tree layer_tree (layer.Coroutine prefix locals states conflicts)
    ∙ ap (λ (ts : List TypeTree). coroutine (trees (map tree_of ts)) (trees (map tree_of locals.items)) (map (λ s. s.items) states.items) conflicts.items) none
    ∙ ap (λ (ts : List TypeTree). coroutine no_trees (trees (map tree_of ts)) (map (λ s. s.items) states.items) conflicts.items) items
    ∙ ap (λ (ts : Trees). coroutine no_trees ts (map (λ s. s.items) states.items) conflicts.items) three_are
    ∙ ap (λ (ss : List (List ℕ)). coroutine no_trees three ss conflicts.items) held ∙ ap (coroutine no_trees three ((0 ∷ []) ∷ (1 ∷ 2 ∷ []) ∷ [])) pairs

-- ---- values: the first number of a pair is the first

pair_is : value_of (PairKept 1 258) ≡ two 1 258
pair_is = value_of-Pair 1 258

-- ---- what a handle of each kind of node says

-- whether it is a struct, a union or an enum, an enum, the type without a value, a tuple, the tuple of no types, transparent, and passed
-- by a pointer
abbrev tag_layout : Shape → List Bool
tag_layout shape =
    let marks : Marks = marks_in shape in
    marks.is_adt ∷ marks.is_enum ∷ marks.is_never ∷ marks.is_tuple ∷ marks.is_unit ∷ marks.is_transparent ∷ marks.is_passed_indirectly ∷ []

abbrev nothing_told : List Bool
nothing_told = false ∷ false ∷ false ∷ false ∷ false ∷ false ∷ false ∷ []

-- a struct, a union, an enum; bit 2 of a repr's flags is `transparent`, and bit 5 says that it is passed by a pointer
abbrev a_struct : Mark
a_struct = mark_of false (with_flags 0)

abbrev an_enum : Mark
an_enum = mark_of true (with_flags 0)

number_tells : (s : Scalar) → tag_layout (kind.Scalar s) ≡ nothing_told
number_tells s = refl

pair_tells : (first second : ℕ) → tag_layout (kind.Pair first second) ≡ nothing_told
pair_tells first second = refl

never_tells : tag_layout (kind.Never NoValue) ≡ (false ∷ false ∷ true ∷ false ∷ false ∷ false ∷ false ∷ [])
never_tells = refl

enum_of_none_tells : tag_layout (kind.Never an_enum) ≡ (true ∷ true ∷ false ∷ false ∷ false ∷ false ∷ false ∷ [])
enum_of_none_tells = refl

array_tells : (count element : ℕ) → tag_layout (kind.Elements count element) ≡ nothing_told
array_tells count element = refl

vector_tells : (lanes : ℕ) → tag_layout (kind.Vector lanes) ≡ nothing_told
vector_tells lanes = refl

module _ (children : Vec ℕ Global) where
  unit_tells : tag_layout (kind.Fields Empty children) ≡ (false ∷ false ∷ false ∷ true ∷ true ∷ false ∷ false ∷ [])
  unit_tells = refl

  struct_tells : tag_layout (kind.Fields a_struct children) ≡ (true ∷ false ∷ false ∷ false ∷ false ∷ false ∷ false ∷ [])
  struct_tells = refl

  transparent_tells : tag_layout (kind.Fields (mark_of false (with_flags 4)) children) ≡ (true ∷ false ∷ false ∷ false ∷ false ∷ true ∷ false ∷ [])
  transparent_tells = refl

  indirect_tells : tag_layout (kind.Fields (mark_of false (with_flags 32)) children) ≡ (true ∷ false ∷ false ∷ false ∷ false ∷ false ∷ true ∷ [])
  indirect_tells = refl

  variant_tells : tag_layout (kind.Fields an_enum children) ≡ (true ∷ true ∷ false ∷ false ∷ false ∷ false ∷ false ∷ [])
  variant_tells = refl

  state_tells : tag_layout (kind.Fields Plain children) ≡ nothing_told
  state_tells = refl

  union_tells : tag_layout (kind.Union a_struct children) ≡ (true ∷ false ∷ false ∷ false ∷ false ∷ false ∷ false ∷ [])
  union_tells = refl

  enum_of_one_tells : tag_layout (kind.Single an_enum children) ≡ (true ∷ true ∷ false ∷ false ∷ false ∷ false ∷ false ∷ [])
  enum_of_one_tells = refl

  enum_tells : (tag : ℕ) (variants : Vec (ℕ × ℕ) Global) → tag_layout (kind.Tagged an_enum tag variants) ≡ (true ∷ true ∷ false ∷ false ∷ false ∷ false ∷ false ∷ [])
  enum_tells tag variants = refl

  coroutine_tells : (tag : ℕ) (states : Vec (ℕ × ℕ) Global) → tag_layout (kind.States children tag states) ≡ nothing_told
  coroutine_tells tag states = refl

-- ---- the nodes that data places rest on

-- a node of so many bytes
abbrev node_of : (size : ℕ) → Shape → Node
node_of n shape = record { layout = record no_layout { size = n }; shape = shape }

abbrev three_bytes : List Node
three_bytes = node_of 1 (kind.Scalar (unsigned I8)) ∷ node_of 3 (kind.Elements 3 0) ∷ []

abbrev no_bytes : List Node
no_bytes = node_of 1 (kind.Scalar (unsigned I8)) ∷ node_of 0 (kind.Elements 0 0) ∷ []

-- array 3 u8: the array and its element
array_rests : AreVisits three_bytes 1 2
array_rests = record { nodes = λ i. nat_lt i 2; rest = λ i. (into i, λ rests. rests (λ j. nat_lt j 2) closed); many = refl }
  where
    into : (i : ℕ) → nat_lt i 2 ≡ true → RestsOn three_bytes 1 i
    into zero lt = λ set c. c.step 1 0 c.first (node_of 3 (kind.Elements 3 0), lit< tt, refl, lit< tt, refl)
    into (suc zero) lt = λ set c. c.first
    into (suc (suc i)) lt = absurd (omega (arith, ltb-true (suc (suc i)) 2 lt))

    next : (i j : ℕ) → AreMadeFrom three_bytes i j → nat_lt j 2 ≡ true
    next zero j from =
        let none : is_among [] j ≡ true = subst (λ (m : Node). is_among (named_by m.layout m.shape) j ≡ true) from.2 from.4 in
        absurd (cc none)
    next (suc zero) j from =
        let own : ((0 == j) || false) ≡ true = subst (λ (m : Node). is_among (named_by m.layout m.shape) j ≡ true) from.2 from.4 in
        let same : 0 ≡ j = eqb-true 0 j (sym (or-false (0 == j)) ∙ own) in
        subst (λ k. nat_lt k 2 ≡ true) same refl
    next (suc (suc i)) j from = absurd (omega (arith, from.1))

    closed : IsClosed three_bytes 1 (λ j. nat_lt j 2)
    closed = record { first = refl; step = λ i j there from. next i j from }

-- array 0 u8: the array alone, which has no bytes
empty_rests : AreVisits no_bytes 1 1
empty_rests = record { nodes = λ i. i == 1; rest = λ i. (into i, λ rests. rests (λ j. j == 1) closed); many = refl }
  where
    into : (i : ℕ) → (i == 1) ≡ true → RestsOn no_bytes 1 i
    into i is = subst (RestsOn no_bytes 1) (sym (eqb-true i 1 is)) (λ set c. c.first)

    next : (i j : ℕ) → i ≡ 1 → AreMadeFrom no_bytes i j → (j == 1) ≡ true
    next i j is from =
        let at : from.0 ≡ get_or no_bytes 1 from.0 = subst (λ k. from.0 ≡ get_or no_bytes k from.0) is from.2 in
        let some : 0 < 0 = subst (λ (m : Node). 0 < m.layout.size) at from.3 in
        absurd (omega (arith, some))

    closed : IsClosed no_bytes 1 (λ j. j == 1)
    closed = record { first = refl; step = λ i j there from. next i j (eqb-true i 1 there) from }
