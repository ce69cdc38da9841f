use Rattle.std.proofs.Common.{◌∙◌, ◌++◌, ◌+◌, ◌≡◌, suc, ap, arith}
use Rattle.automata.specs.Reach.{copies}
use Rattle.automata.proofs.PeriodLemmas.{copies_more}
use Rattle.automata.proofs.periods.copies_of.Goals as goal

pub loop-preserved : goal.loop-preserved
loop-preserved c =
    let next : suc c.loop.counter ≡ c.loop.counter + 1 = omega arith in
    c.in_ok-extend_from_slice.ensures.items ∙ ap (λ all. all ++ c.as_slice.result.now) c.loop.invariant ∙ ap (λ w. copies c.loop.counter c.args.cells.now.items ++ w) c.as_slice.ensures.value
    ∙ copies_more c.loop.counter c.args.cells.now.items ∙ ap (λ n. copies n c.args.cells.now.items) next
