use Rattle.std.proofs.Common.{None, ◌+◌, ◌<◌, ◌≤◌, List, length, sym, subst, arith}
use Rattle.automata.specs.Formula.{Formula}
use Rattle.automata.specs.Nodes.{formulas_in}
use Rattle.automata.specs.declared.visits.Visit.{Visit}
use Rattle.automata.proofs.VisitsLemmas.{IsSearched, included, missed, searched_inside, searched_end}
use Rattle.automata.proofs.inclusion.compare_cells.Goals as goal
use Rattle.automata.proofs.inclusion.compare_cells.Goals.{then-here-size+in_ok-follow, else-here-size}

pub returns-then-is_missed-clause-inclusion : goal.returns-then-is_missed-clause-inclusion
returns-then-is_missed-clause-inclusion c =
    let fs = formulas_in c.args.formulas.now in
    let gs = formulas_in c.loop-i.formulas in
    let so_far = c.loop-i.invariant.1 in
    missed fs gs c.loop-i.visits c.loop-i.i c.args.left c.args.right c.args.size c.in_ok-cells.cells.items c.visit-here.result so_far.kept c.requires.left c.requires.right
    (c.in_ok-cells.ensures gs so_far.visited.steps) so_far.root c.visit-here.ensures c.if-is_missed.ensures.0 c.if-is_missed.ensures.1

pub loop-i-preserved : goal.loop-i-preserved
loop-i-preserved c =
    let fs : List Formula = formulas_in c.args.formulas.now in
    let gs : List Formula = formulas_in c.loop-i.formulas in
    let so_far = c.loop-i.invariant.1 in
    let there : c.loop-i.i < length c.loop-i.visits = omega (arith, c.loop-i-test.true, c.len.ensures) in (
      omega (arith, there, c.len-in-loop-i.ensures, c.len-in-loop-i-2.ensures, c.saturating_add.ensures, c.if-saturating_add-ge-STEPS.false),
      elim c.if-here-size.branch [
        | then-here-size+in_ok-follow w ↦
            subst (λ x. IsSearched fs (formulas_in x) c.if-here-size.visits c.args.left c.args.right c.args.size (c.loop-i.i + 1)) (sym w.formulas-is)
            (subst (λ x. IsSearched fs (formulas_in w.follow.new.formulas) x c.args.left c.args.right c.args.size (c.loop-i.i + 1)) (sym w.visits-is)
            (searched_inside fs gs c.loop-i.visits c.args.left c.args.right c.args.size c.loop-i.i c.visit-here.result so_far there c.visit-here.ensures (formulas_in w.follow.new.formulas)
            w.follow.new.visits w.if-here-size.true w.in_ok-follow.ensures))
        | else-here-size w ↦
            subst (λ x. IsSearched fs (formulas_in x) c.if-here-size.visits c.args.left c.args.right c.args.size (c.loop-i.i + 1)) (sym w.formulas-is)
            (subst (λ x. IsSearched fs gs x c.args.left c.args.right c.args.size (c.loop-i.i + 1)) (sym w.visits-is)
            (searched_end fs gs c.loop-i.visits c.args.left c.args.right c.args.size c.loop-i.i c.visit-here.result so_far there c.visit-here.ensures c.if-is_missed.ensures
            (λ lt. omega (arith, lt, w.if-here-size.false))))
      ],
    )

pub returns-clause-inclusion : goal.returns-clause-inclusion
returns-clause-inclusion c =
    let so_far = c.loop-i.invariant.1 in
    let past : length c.loop-i.visits ≤ c.loop-i.i = omega (arith, c.loop-i-test.false, c.len.ensures) in
    let d : Visit = record { left = 0; right = 0; place = 0; from = 0; cell = None } in
    included (formulas_in c.args.formulas.now) (formulas_in c.loop-i.formulas) c.loop-i.visits c.args.left c.args.right c.args.size d so_far.kept c.requires.left c.requires.right so_far.root
    (λ k e lt. so_far.done k e (omega (arith, lt, past)))
