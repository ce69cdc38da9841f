use Rattle.std.proofs.Common.{◌-◌, arith, sym, ◌∙◌}
use Rattle.std.proofs.lemmas.List.{get_or_read}
use Rattle.std.proofs.lemmas.List.Sorted.{IsNonDecreasingBy-from_sort}
use Rattle.rustc_abi.proofs.Enums.DiscriminantLemmas.{sorted_differ, some_equal}
use Rattle.rustc_abi.proofs.discriminants.has_equal.Goals as goal

pub returns-then-index : goal.returns-then-index
returns-then-index c =
    let ys = c.in_ok-sorted.sorted.items in
    let before = get_or_read ys (c.loop-at.at - 1) c.index.result.now (omega arith) c.index.ensures 0 in
    let here = get_or_read ys c.loop-at.at c.index-in-loop-at.result.now (omega arith) c.index-in-loop-at.ensures 0 in
    some_equal c.args.numbers.now ys c.in_ok-sorted.ensures.same (c.loop-at.at - 1) c.loop-at.at (omega arith) (omega arith) (λ e. omega arith)
    (sym before ∙ c.if-index.true ∙ here)

pub returns : goal.returns
returns c =
    sorted_differ c.args.numbers.now c.in_ok-sorted.sorted.items c.in_ok-sorted.ensures.same (IsNonDecreasingBy-from_sort (λ n. n) c.in_ok-sorted.sorted.items c.in_ok-sorted.ensures.ascends)
    (λ i lt. c.loop-at.invariant.differ i (omega arith) lt)
