use Rattle.std.proofs.Common.{ap, ◌∙◌, refl}
use Rattle.automata.specs.Formula.{each}
use Rattle.automata.specs.Nodes.{formula_in, formulas_in, meaning}
use Rattle.automata.proofs.NodesLemmas.{IsMade-refl}
use Rattle.automata.proofs.ReadsLemmas.{each_one, each_still, each_any}
use Rattle.automata.proofs.formulas.Formulas.repetition.Goals as goal

pub returns-then-count-eq1 : goal.returns-then-count-eq1
returns-then-count-eq1 c =
    let fs = formulas_in c.args.self.now in
    let f = formula_in fs c.args.f in
    IsMade-refl fs (each c.args.count c.args.size f) c.args.f c.requires (each_one c.args.count c.args.size f c.if-count-eq1.true)

pub returns-then-size-eq0 : goal.returns-then-size-eq0
returns-then-size-eq0 c =
    let fs = formulas_in c.args.self.now in
    let f = formula_in fs c.args.f in
    IsMade-refl fs (each c.args.count c.args.size f) c.args.f c.requires (each_still c.args.count c.args.size f c.if-count-eq0.false c.if-size-eq0.true)

pub returns-then-is_any : goal.returns-then-is_any
returns-then-is_any c =
    let fs = formulas_in c.args.self.now in
    let f = formula_in fs c.args.f in
    IsMade-refl fs (each c.args.count c.args.size f) c.args.f c.requires (each_any c.args.count c.args.size f (c.node.ensures.formula ∙ ap (meaning fs) (c.if-is_any.ensures refl)))
