use Rattle.std.proofs.Common.{◌-◌, Some, ap, sym, ◌∙◌, drop, map}
use Rattle.std.proofs.lemmas.List.{map-append}
use Rattle.std.proofs.lemmas.Result.{IfOk-weaker}
use Rattle.abi_tree.specs.Tree.{tree_of, enum}
use Rattle.abi_c.specs.Numbers.Pieces.{◌>>=◌, front_list}
use Rattle.abi_c.specs.Numbers.FrontTree.{front_of_kind, front_tree, front_variant, variant_kept, variants_of_items}
use Rattle.abi_c.proofs.NumberLemmas.Many.{passed, so_far-more, so_far-none}
use Rattle.abi_c.proofs.NumberLemmas.Trees.{enum_tree, front_tree-step}
use Rattle.abi_c.proofs.numbers.tree.+read.Goals as goal

pub read_each-returns-in_err-tree-clause-err : goal.read_each-returns-in_err-tree-clause-err
read_each-returns-in_err-tree-clause-err t c =
    passed _ _ _ c.from_residual-in_err-tree.ensures.1
    (so_far-none (front_tree c.args.left) c.in_ok-count.count c.loop.counter (drop c.args.at.now c.args.numbers.now) _ (drop c.loop.at c.args.numbers.now) _ _ c.in_ok-count.ensures.ok c.loop.invariant c.loop-test.true c.in_err-tree.ensures.err)

pub read_each-loop-preserved : goal.read_each-loop-preserved
read_each-loop-preserved t c =
    rw (c.push_reserved.ensures.items, c.in_ok-reserve.ensures.items, map-append tree_of)
    (so_far-more (front_tree c.args.left) c.in_ok-count.count c.loop.counter _ _ _ (map tree_of c.loop.types.items) (tree_of c.in_ok-tree.tree) c.loop.invariant c.loop-test.true c.in_ok-tree.ensures.ok)

pub read_variants-returns-in_err-variant-clause-err : goal.read_variants-returns-in_err-variant-clause-err
read_variants-returns-in_err-variant-clause-err t c =
    passed _ _ _ c.from_residual-in_err-variant.ensures.1
    (so_far-none (front_variant (front_tree c.args.left)) c.in_ok-count.count c.loop.counter (drop c.args.at.now c.args.numbers.now) _ (drop c.loop.at c.args.numbers.now) _ _ c.in_ok-count.ensures.ok c.loop.invariant c.loop-test.true c.in_err-variant.ensures.err)

pub read_variants-loop-preserved : goal.read_variants-loop-preserved
read_variants-loop-preserved t c =
    rw (c.in_ok-push.ensures.items, map-append variant_kept)
    (so_far-more (front_variant (front_tree c.args.left)) c.in_ok-count.count c.loop.counter _ _ _ (map variant_kept c.loop.variants.items) (variant_kept c.in_ok-variant.variant) c.loop.invariant c.loop-test.true c.in_ok-variant.ensures.ok)

pub read_enum-returns-clause-ok : goal.read_enum-returns-clause-ok
read_enum-returns-clause-ok t c =
    ap (λ o. o >>= λ repr. front_list (front_variant (front_tree c.args.left)) repr.1 >>= λ vs. Some (enum repr.0 (variants_of_items vs.0), vs.1)) c.in_ok-repr.ensures.ok
    ∙ ap (λ o. o >>= λ vs. Some (enum c.in_ok-repr.repr (variants_of_items vs.0), vs.1)) c.in_ok-variants.ensures.ok
    ∙ ap (λ made. Some (made, drop c.read_variants.new.at c.args.numbers.now)) (sym (enum_tree c.in_ok-repr.repr c.in_ok-variants.variants))

pub read_node-returns-clause-ok : goal.read_node-returns-clause-ok
read_node-returns-clause-ok t c =
    IfOk-weaker c.read_of_kind.result _ _
    (λ a read. ap (λ front. front (drop c.args.at.now c.args.numbers.now)) (front_tree-step c.args.left c.if-left-eq0.false)
    ∙ ap (λ o. o >>= λ found. front_of_kind (front_tree (c.args.left - 1)) found.0 found.1) c.in_ok-kind.ensures.ok
    ∙ read) c.read_of_kind.ensures.ok

pub read_of_kind-returns-in-Scalar-clause-ok : goal.read_of_kind-returns-in-Scalar-clause-ok
read_of_kind-returns-in-Scalar-clause-ok t c = rw c.in-Scalar.is (c.read_number.ensures.ok c.args.left)

pub read_of_kind-returns-in-Scalar-clause-err : goal.read_of_kind-returns-in-Scalar-clause-err
read_of_kind-returns-in-Scalar-clause-err t c = rw c.in-Scalar.is (c.read_number.ensures.err c.args.left)

pub read_of_kind-returns-in-Pair-clause-ok : goal.read_of_kind-returns-in-Pair-clause-ok
read_of_kind-returns-in-Pair-clause-ok t c = rw c.in-Pair.is (c.read_two.ensures.ok c.args.left)

pub read_of_kind-returns-in-Pair-clause-err : goal.read_of_kind-returns-in-Pair-clause-err
read_of_kind-returns-in-Pair-clause-err t c = rw c.in-Pair.is (c.read_two.ensures.err c.args.left)
