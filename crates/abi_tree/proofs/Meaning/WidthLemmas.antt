-- Each node has narrow numbers.
use Rattle.std.proofs.Common.{◌≡◌, ℕ, ◌<◌, ◌≤◌, true, List, [], ap, get_or, length, refl, subst, sym}
use Rattle.std.specs.Prelude.{◌&&◌, ⊤, Vec, nat_le, nat_lt}
use Rattle.std.specs.List.{list_all}
use Rattle.std.specs.declared.alloc.Global.{Global}
use Rattle.std.proofs.lemmas.Bool.{and_parts, leb-true, ltb-true}
use Rattle.abi_scalar.specs.declared.scalar.Scalar.{Scalar}
use Rattle.abi_scalar.specs.declared.scalar.Scalar.TheVariants.{Initialized, Union}
use Rattle.abi_scalar.specs.Range.{AreWithin, numbers_of}
use Rattle.abi_tree.specs.declared.mark.Mark.{Mark}
use Rattle.abi_tree.specs.declared.node.Shape.{Shape}
use Rattle.abi_tree.specs.declared.node.Shape.TheVariants.{Scalar as OneScalar, Tagged, States}
use Rattle.abi_tree.specs.declared.node.Node.{Node}
use Rattle.abi_tree.specs.Placed.{Placed, size_of}
use Rattle.abi_scalar.specs.Layout.{Layout}
use Rattle.abi_tree.specs.Nodes.{placed_at, placed_in, types_in}
use Rattle.abi_tree.specs.Well.{are_nodes, is_node}
use Rattle.abi_tree.specs.Widths.{has_width, have_widths, is_narrow}
use Rattle.abi_tree.proofs.Meaning.NodesLemmas.{each_tested}

width-same : (xs ys : List Placed) (n : ℕ) → ((i : ℕ) → i < n → placed_in xs i ≡ placed_in ys i) → (layout : Layout) (shape : Shape) → is_node n shape ≡ true →
    has_width xs layout shape ≡ has_width ys layout shape
width-same xs ys n same layout (Tagged mark tag variants) is =
    let both = and_parts (nat_lt tag n) (list_all (λ v. nat_lt v.1 n) variants.items) is in
    ap (λ p. nat_le (size_of p) 16) (same tag (ltb-true tag n both.0))
width-same xs ys n same layout (States prefix tag all) is =
    let both = and_parts (list_all (λ child. nat_lt child n) prefix.items) (nat_lt tag n && list_all (λ v. nat_lt v.1 n) all.items) is in
    let beside = and_parts (nat_lt tag n) (list_all (λ v. nat_lt v.1 n) all.items) both.1 in
    ap (λ p. nat_le (size_of p) 16) (same tag (ltb-true tag n beside.0))
width-same xs ys n same layout shape is = refl

-- each node has its width, after all
pub width_at : (ns : List Node) → are_nodes 0 ns ≡ true → have_widths [] ns ≡ true → (i : ℕ) (d : Node) → i < length ns →
    has_width (types_in ns) (get_or ns i d).layout (get_or ns i d).shape ≡ true
width_at = each_tested has_width have_widths (λ done m ns. refl) width-same

-- ---- what reads values rests on

-- both ends of its range, if it has one, are numbers of so many bytes
abbrev pub HasEndsWithin : (width : ℕ) → Scalar → Type 0
HasEndsWithin width (Initialized value range) = AreWithin width range
HasEndsWithin width (Union value) = ⊤

-- what a narrow scalar is
pub scalar_narrow : (width : ℕ) (s : Scalar) → is_narrow width s ≡ true → (width ≤ 16) × HasEndsWithin width s
scalar_narrow width (Initialized value range) h =
    let both = and_parts (nat_le width 16) (nat_lt range.start (numbers_of width) && nat_lt range.end (numbers_of width)) h in
    let ends = and_parts (nat_lt range.start (numbers_of width)) (nat_lt range.end (numbers_of width)) both.1 in
    (leb-true width 16 both.0, (ltb-true range.start (numbers_of width) ends.0, ltb-true range.end (numbers_of width) ends.1))
scalar_narrow width (Union value) h = (leb-true width 16 h, tt)

module _ (ns : List Node) (well : are_nodes 0 ns ≡ true) (widths : have_widths [] ns ≡ true) (i : ℕ) (n : Node) (lt : i < length ns) (at : n ≡ get_or ns i n) where
  width-here : (shape : Shape) → n.shape ≡ shape → has_width (types_in ns) n.layout shape ≡ true
  width-here shape e =
      subst (λ s. has_width (types_in ns) n.layout s ≡ true) e
      (subst (λ (m : Node). has_width (types_in ns) m.layout m.shape ≡ true) (sym at) (width_at ns well widths i n lt))

  -- a scalar's node: its number is narrow
  pub narrow_at : (s : Scalar) → n.shape ≡ OneScalar s → is_narrow n.layout.size s ≡ true
  narrow_at s e = width-here (OneScalar s) e

  -- a scalar's node
  pub scalar_width_at : (s : Scalar) → n.shape ≡ OneScalar s → (n.layout.size ≤ 16) × HasEndsWithin n.layout.size s
  scalar_width_at s e = scalar_narrow n.layout.size s (width-here (OneScalar s) e)

  -- the tag of several variants
  pub tag_width_at : (mark : Mark) (tag : ℕ) (variants : Vec (ℕ × ℕ) Global) → n.shape ≡ Tagged mark tag variants → size_of (placed_at ns tag) ≤ 16
  tag_width_at mark tag variants e = leb-true (size_of (placed_at ns tag)) 16 (width-here (Tagged mark tag variants) e)

  -- the tag of a coroutine
  pub state_tag_width_at : (prefix : Vec ℕ Global) (tag : ℕ) (all : Vec (ℕ × ℕ) Global) → n.shape ≡ States prefix tag all → size_of (placed_at ns tag) ≤ 16
  state_tag_width_at prefix tag all e = leb-true (size_of (placed_at ns tag)) 16 (width-here (States prefix tag all) e)
