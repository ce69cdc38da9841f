use Rattle.std.proofs.Common.{◌∷◌, ◌++◌, [], arith, ap, ◌∙◌, append_assoc, get_or, take}
use Rattle.abi_index.proofs.UncutLemmas.{run_fits}
use Rattle.abi_map.specs.Numbers.{numbers}
use Rattle.abi_map.proofs.StartLemmas.{range_more}
use Rattle.abi_map.proofs.starts.numbers.Goals as goal

pub overflow_add-k-end : goal.overflow_add-k-end
overflow_add-k-end c = omega (arith, run_fits _ _ (0, 0) c.loop-run-test.true c.as_slice-run-items.ensures.maximal)

pub loop-k-preserved : goal.loop-k-preserved
loop-k-preserved c =
    let runs = c.as_slice-run-items.result.now in
    let done = numbers (take c.loop-run.run-index runs) in
    let start = (get_or runs c.loop-run.run-index (0, 0)).0 in
    c.in_ok-push.ensures.items ∙ ap (λ xs. xs ++ c.loop-k.k ∷ []) c.loop-k.invariant ∙ append_assoc done _ (c.loop-k.k ∷ []) ∙ ap (λ xs. done ++ xs) (range_more start c.loop-k.k (omega arith))
