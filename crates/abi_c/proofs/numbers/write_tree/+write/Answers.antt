use Rattle.std.proofs.Common.{◌≡◌, ◌∙◌, ap, arith, get_or, map}
use Rattle.std.proofs.lemmas.Result.{on_ok_weaker}
use Rattle.abi_tree.specs.Tree.{enum, tree_of, trees, trees_of_variants}
use Rattle.rustc_abi.specs.Adding.{tree_size, trees_size, variants_size}
use Rattle.rustc_abi.proofs.Trees.TreeLemmas.{falls-Enum, trees_size-at, tree_of-Enum, variants_size-at}
use Rattle.abi_c.proofs.NumberLemmas.TreeSteps.{enum_end, one_variant, trees_end, trees_step, variants_end, variants_step}
use Rattle.abi_c.proofs.numbers.write_tree.+write.Goals as goal

pub write_trees-loop-one-preserved : goal.write_trees-loop-one-preserved
write_trees-loop-one-preserved t c =
    trees_step _ c.loop-one.out.items c.write_tree.new.out.items c.args.all.now c.loop-one.one-index c.one-item.result c.loop-one-test.true c.one-item.is c.loop-one.invariant
    c.in_ok-write_tree.ensures

pub write_trees-returns : goal.write_trees-returns
write_trees-returns t c =
    trees_end c.args.out.now.items _ c.loop-one.out.items c.args.all.now c.loop-one.one-index c.loop-one-test.false c.in_ok-push.ensures.items c.loop-one.invariant

pub write_variants-loop-variant-preserved : goal.write_variants-loop-variant-preserved
write_variants-loop-variant-preserved t c =
    let lent : c.deref.result.now ≡ c.variant-item.result.1.items = c.deref.ensures.value in
    let one = one_variant c.loop-variant.out.items c.write_wide.new.out.items c.write_trees.new.out.items c.variant-item.result c.in_ok-write_wide.ensures (rw lent at c.in_ok-write_trees.ensures) in
    variants_step _ c.loop-variant.out.items c.write_trees.new.out.items c.args.all.now c.loop-variant.variant-index c.variant-item.result c.loop-variant-test.true c.variant-item.is
    c.loop-variant.invariant one

pub write_tree-returns-in_ok-write_repr-in-Enum : goal.write_tree-returns-in_ok-write_repr-in-Enum
write_tree-returns-in_ok-write_repr-in-Enum t c =
    let lent : c.deref-in-Enum.result.now ≡ c.in-Enum.variants.items = c.deref-in-Enum.ensures.value in
    let same : tree_of c.args.tree.now ≡ enum c.in-Enum.repr (trees_of_variants c.in-Enum.variants.items) = ap tree_of c.in-Enum.is ∙ tree_of-Enum c.in-Enum.repr c.in-Enum.variants in
    on_ok_weaker c.write_variants.result
    (
    enum_end c.args.out.now.items _ _ c.write_variants.new.out.items c.in-Enum.repr c.in-Enum.variants.items (tree_of c.args.tree.now) same
    c.in_ok-push-in-Enum.ensures.items c.in_ok-write_repr-in-Enum.ensures
    )
    (rw lent at c.write_variants.ensures)

pub write_variants-write_trees-requires : goal.write_variants-write_trees-requires
write_variants-write_trees-requires t c =
    let item : c.variant-item.result ≡ get_or c.args.all.now c.loop-variant.variant-index c.variant-item.result = c.variant-item.is in
    let size = variants_size-at c.args.all.now c.loop-variant.variant-index c.variant-item.result (omega arith) in
    let lent : c.deref.result.now ≡ c.variant-item.result.1.items = c.deref.ensures.value in
    omega (arith, c.decreases, size, ap (λ ts. trees_size (trees (map tree_of ts))) lent, ap (λ x. trees_size (trees (map tree_of x.1.items))) item)

pub write_trees-write_tree-requires : goal.write_trees-write_tree-requires
write_trees-write_tree-requires t c =
    let item : c.one-item.result ≡ get_or c.args.all.now c.loop-one.one-index c.one-item.result = c.one-item.is in
    let size = trees_size-at c.args.all.now c.loop-one.one-index c.one-item.result (omega arith) in
    omega (arith, c.decreases, size, ap (λ x. tree_size (tree_of x)) item)

pub write_tree-write_variants-requires : goal.write_tree-write_variants-requires
write_tree-write_variants-requires t c =
    let lent : c.deref-in-Enum.result.now ≡ c.in-Enum.variants.items = c.deref-in-Enum.ensures.value in
    omega (arith, c.decreases, falls-Enum c.args.tree.now c.in-Enum.repr c.in-Enum.variants c.in-Enum.is, ap (λ vs. variants_size (trees_of_variants vs)) lent)

pub write_variants-returns : goal.write_variants-returns
write_variants-returns t c =
    variants_end c.args.out.now.items _ c.loop-variant.out.items c.args.all.now c.loop-variant.variant-index c.loop-variant-test.false c.in_ok-push.ensures.items c.loop-variant.invariant
