use Rattle.std.proofs.Common.{◌+◌, refl}
use Rattle.automata.specs.Nodes.{formulas_in}
use Rattle.automata.specs.declared.visits.Visit.{Visit}
use Rattle.automata.proofs.VisitsLemmas.{run_made}
use Rattle.automata.proofs.inclusion.follow_run.Goals as goal

pub returns : goal.returns
returns c =
    let u : Visit = record { left = c.in_ok-left.left.formula; right = c.in_ok-right.right.formula; place = c.visit-here.result.place + 1; from = c.args.at; cell = c.cell_of.result } in
    run_made (formulas_in c.args.formulas.now) (formulas_in c.derive.new.formulas) (formulas_in c.derive-2.new.formulas) c.args.visits.now c.add_visit.new.visits c.args.at c.args.letter c.in_ok-left.left
    c.in_ok-right.right c.visit-here.result u c.requires.there c.requires.visits c.visit-here.ensures c.in_ok-left.ensures c.in_ok-right.ensures refl refl refl refl c.cell_of.ensures.cell
    c.cell_of.ensures.letter c.in_ok-add_visit.ensures
