-- What each node keeps, so that its numbers can be read out of bytes: a scalar and a tag have at most 16 bytes, and the ends of a
-- scalar's range are numbers of its bytes.
use Rattle.std.specs.Prelude.{ℕ, ◌&&◌, Bool, true, List, [], ◌∷◌, ◌++◌, nat_le, nat_lt}
use Rattle.abi_scalar.specs.declared.scalar.Scalar.{Scalar}
use Rattle.abi_scalar.specs.declared.scalar.Scalar.TheVariants.{Initialized, Union}
use Rattle.abi_scalar.specs.Range.{numbers_of}
use Rattle.abi_tree.specs.declared.node.Shape.{Shape}
use Rattle.abi_tree.specs.declared.node.Shape.TheVariants.{Scalar as OneScalar, Tagged, States}
use Rattle.abi_tree.specs.declared.node.Node.{Node}
use Rattle.abi_tree.specs.Placed.{Placed, size_of}
use Rattle.abi_scalar.specs.Layout.{Layout}
use Rattle.abi_tree.specs.Nodes.{meaning, placed_in}

-- a scalar of so many bytes has at most 16, and both ends of its range, if it has one, are numbers of so many bytes
abbrev pub is_narrow : (width : ℕ) → Scalar → Bool
is_narrow width (Initialized value range) = nat_le width 16 && (nat_lt range.start (numbers_of width) && nat_lt range.end (numbers_of width))
is_narrow width (Union value) = nat_le width 16

-- a node's number is narrow, and so is its tag's, after the nodes before it
abbrev pub has_width : List Placed → Layout → Shape → Bool
has_width done layout (OneScalar s) = is_narrow layout.size s
has_width done layout (Tagged mark tag variants) = nat_le (size_of (placed_in done tag)) 16
has_width done layout (States prefix tag all) = nat_le (size_of (placed_in done tag)) 16
has_width done layout shape = true

-- all nodes' are, after those that are done
abbrev pub have_widths : List Placed → List Node → Bool
have_widths done [] = true
have_widths done (n ∷ ns) = has_width done n.layout n.shape && have_widths (done ++ meaning done n.layout n.shape ∷ []) ns
