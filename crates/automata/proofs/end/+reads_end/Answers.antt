use Rattle.automata.specs.Nodes.{formula_in, formulas_in}
use Rattle.automata.proofs.ReadsLemmas.{end_each}
use Rattle.automata.proofs.end.+reads_end.Goals as goal

pub returns-in-Each : goal.returns-in-Each
returns-in-Each t c =
    let fs = formulas_in c.args.formulas.now in
    end_each (formula_in fs c.args.f) (formula_in fs c.in-Each.element) c.in-Each.count c.in-Each.size c.reads_end-in-Each.result c.in-Each.ensures.formula c.in-Each.ensures.earlier.1
    c.reads_end-in-Each.ensures
