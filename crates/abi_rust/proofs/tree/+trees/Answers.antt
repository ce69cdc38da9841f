-- An item is looked at under what its parameters are given.
use Rattle.std.proofs.Common.{◌∙◌, subst, sym}
use Rattle.abi_tree.specs.Tree.{tree_of}
use Rattle.abi_rust.specs.Meaning.{Means}
use Rattle.abi_rust.specs.Resolving.{inside_of}
use Rattle.abi_rust.specs.Tails.{outer_of}
use Rattle.abi_rust.specs.Trees.{kind_tree, tree_inner}
use Rattle.abi_rust.specs.Types.{all_given}
use Rattle.abi_rust.proofs.Trees.{found_on}
use Rattle.abi_rust.proofs.tree.+trees.Goals as goal

pub tree_of_instance-returns : goal.tree_of_instance-returns
tree_of_instance-returns t c = λ m is.
    let cx = c.args.cx.now in
    let instance = c.args.instance in
    let outer = outer_of c.args.nesting.above in
    let inside = outer_of c.inside-inner.result.above in
    let kind_is = subst (λ d. Means tree_of (kind_tree cx m (tree_inner cx m d) inside (inside_of instance) instance.number instance.item.now instance.item.now.kind) c.tree_of_kind.result) c.inside-inner.ensures.depth (c.tree_of_kind.ensures m is) in
    found_on cx m (tree_inner cx m c.args.nesting.depth_left) outer inside instance.number instance.item.now (all_given instance.given.now) c.tree_of_kind.result
    (sym c.stands_in.ensures ∙ c.if-stands_in.false) c.inside-inner.ensures.outer kind_is
