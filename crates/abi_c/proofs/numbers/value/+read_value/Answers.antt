use Rattle.std.proofs.Common.{◌-◌, ap, ◌∙◌, drop, map}
use Rattle.std.proofs.lemmas.List.{map-append}
use Rattle.std.proofs.lemmas.Result.{IfOk-weaker}
use Rattle.abi_tree.specs.Value.{value_of}
use Rattle.abi_c.specs.Numbers.Pieces.{◌>>=◌}
use Rattle.abi_c.specs.Numbers.FrontValue.{front_of_value_kind, front_value}
use Rattle.abi_c.proofs.NumberLemmas.Many.{passed, so_far-more, so_far-none}
use Rattle.abi_c.proofs.NumberLemmas.ValueBack.{front_value-step}
use Rattle.abi_c.proofs.numbers.value.+read_value.Goals as goal

pub read_values-returns-in_err-value-clause-err : goal.read_values-returns-in_err-value-clause-err
read_values-returns-in_err-value-clause-err t c =
    passed _ _ _ c.from_residual-in_err-value.ensures.1
    (so_far-none (front_value c.args.left) c.in_ok-count.count c.loop.counter (drop c.args.at.now c.args.numbers.now) _ (drop c.loop.at c.args.numbers.now) _ _ c.in_ok-count.ensures.ok c.loop.invariant c.loop-test.true c.in_err-value.ensures.err)

pub read_values-loop-preserved : goal.read_values-loop-preserved
read_values-loop-preserved t c =
    rw (c.in_ok-push.ensures.items, map-append value_of)
    (so_far-more (front_value c.args.left) c.in_ok-count.count c.loop.counter _ _ _ (map value_of c.loop.values.items) (value_of c.in_ok-value.value) c.loop.invariant c.loop-test.true c.in_ok-value.ensures.ok)

pub read_value_node-returns-clause-ok : goal.read_value_node-returns-clause-ok
read_value_node-returns-clause-ok t c =
    IfOk-weaker c.read_of_value_kind.result _ _
    (λ a read. ap (λ front. front (drop c.args.at.now c.args.numbers.now)) (front_value-step c.args.left c.if-left-eq0.false)
    ∙ ap (λ o. o >>= λ found. front_of_value_kind (front_value (c.args.left - 1)) found.0 found.1) c.in_ok-kind.ensures.ok
    ∙ read) c.read_of_value_kind.ensures.ok
