use Rattle.std.proofs.Common.{get_or, ap, arith, ◌∷◌, [], ◌++◌, ◌≡◌, ◌<◌, ◌∙◌, length}
use Rattle.automata.specs.declared.visits.Visit.{Visit}
use Rattle.automata.proofs.VisitsLemmas.{leads_more}
use Rattle.automata.proofs.inclusion.cells_to.Goals as goal

pub loop-at-preserved : goal.loop-at-preserved
loop-at-preserved c =
    let v : Visit = c.visit-here.result in
    let is : v ≡ get_or c.args.visits.now c.loop-at.at v = c.visit-here.ensures in
    let from = c.requires.ordered c.loop-at.at v c.loop-at-test.true c.loop-at.invariant.0 in
    let same = ap (λ x. x.from) is in
    let lt : v.from < length c.args.visits.now = omega (arith, from, same, c.loop-at.invariant.0) in (
      lt,
      λ fs steps.
          leads_more fs c.args.visits.now c.loop-at.at c.args.visit v.from c.loop-at.cells.items c.push.new.self.items v steps c.loop-at-test.true
          c.loop-at.invariant.0 same lt (c.in_ok-push.ensures.items ∙ ap (λ x. c.loop-at.cells.items ++ x.cell ∷ []) is) (c.loop-at.invariant.1 fs steps),
    )
