-- A number that can be asked for its numbers is narrow, and so is a tag that is one.
use Rattle.std.proofs.Common.{◌≡◌, ℕ, ◌∙◌, true, List, ap, arith}
use Rattle.std.specs.Prelude.{nat_le}
use Rattle.std.specs.Cmp.Derive.{both_true}
use Rattle.std.proofs.lemmas.Bool.{le-leb, lt-ltb}
use Rattle.abi_base.specs.declared.data_layout.TargetDataLayout.{TargetDataLayout}
use Rattle.abi_scalar.specs.declared.scalar.Scalar.{Scalar}
use Rattle.abi_scalar.specs.declared.scalar.Scalar.TheVariants.{Initialized, Union}
use Rattle.abi_scalar.specs.Range.{numbers_of}
use Rattle.abi_scalar.specs.Scalar.{IsWellFormed, scalar_size}
use Rattle.abi_scalar.specs.Simple.{scalar_layout}
use Rattle.abi_tree.specs.declared.node.Node.{Node}
use Rattle.abi_tree.specs.Placed.{size_of}
use Rattle.abi_scalar.specs.Layout.{Layout}
use Rattle.abi_tree.specs.Nodes.{Keeps, placed_at, types_in}
use Rattle.abi_tree.specs.Well.{IsPut}
use Rattle.abi_tree.specs.Widths.{is_narrow}
use Rattle.abi_tree.proofs.Meaning.NodesLemmas.{length-types_in}
use Rattle.rustc_abi.specs.Laying.{one_scalar}

readable_narrow : (dl : TargetDataLayout) (s : Scalar) → IsWellFormed dl s → is_narrow (scalar_size dl s) s ≡ true
readable_narrow dl (Initialized value range) h =
    let width : ℕ = scalar_size dl (Initialized value range) in
    both_true (le-leb width 16 h.most) (both_true (lt-ltb range.start (numbers_of width) h.within.0) (lt-ltb range.end (numbers_of width) h.within.1))
readable_narrow dl (Union value) h = le-leb (scalar_size dl (Union value)) 16 h.most

-- the number of a scalar that can be asked for its numbers is narrow
pub scalar_width : (dl : TargetDataLayout) (s : Scalar) (layout : Layout) → layout ≡ scalar_layout 0 dl s → IsWellFormed dl s → is_narrow layout.size s ≡ true
scalar_width dl s layout made h = ap (λ (l : Layout). is_narrow l.size s) made ∙ readable_narrow dl s h

-- so is that of a tag, whose node was put before others
pub tag_width : (dl : TargetDataLayout) (s : Scalar) (old one two : List Node) (t : ℕ) → IsWellFormed dl s → IsPut old one t (one_scalar dl s) → Keeps (types_in one) (types_in two) →
    nat_le (size_of (placed_at two t)) 16 ≡ true
tag_width dl s old one two t h put kept =
    let here : placed_at two t ≡ one_scalar dl s = kept.same t (omega (arith, length-types_in one, put.last)) ∙ put.meant in
    ap (λ p. nat_le (size_of p) 16) here ∙ le-leb (scalar_size dl s) 16 h.most
