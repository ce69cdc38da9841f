use Rattle.std.proofs.Common.{◌-◌, arith}
use Rattle.automata.specs.Nodes.{formulas_in}
use Rattle.automata.proofs.ReadsLemmas.{derivative_both, derivative_either, derivative_each}
use Rattle.automata.proofs.derivative.+derive.Goals as goal

pub returns-in_ok-formula-in-Both : goal.returns-in_ok-formula-in-Both
returns-in_ok-formula-in-Both t c =
    derivative_both (formulas_in c.args.formulas.now) (formulas_in c.derive.new.formulas) (formulas_in c.derive-in-Both.new.formulas) (formulas_in c.conjunction.new.self) c.args.f c.in-Both.g c.in-Both.h
    c.args.letter c.args.end c.in_ok-formula-in-Both.formula c.in_ok-first-in-Both.first c.in_ok-second-in-Both.second (omega (arith, c.in-Both.ensures.earlier, c.requires.there))
    (omega (arith, c.in-Both.ensures.earlier, c.requires.there)) c.in_ok-first-in-Both.ensures c.in_ok-second-in-Both.ensures c.in-Both.ensures.formula c.in_ok-formula-in-Both.ensures

pub returns-in_ok-formula-in-Either : goal.returns-in_ok-formula-in-Either
returns-in_ok-formula-in-Either t c =
    derivative_either (formulas_in c.args.formulas.now) (formulas_in c.derive-in-Either.new.formulas) (formulas_in c.derive-in-Either-2.new.formulas) (formulas_in c.disjunction.new.self) c.args.f
    c.in-Either.g c.in-Either.h c.args.letter c.args.end c.in_ok-formula-in-Either.formula c.in_ok-first-in-Either.first c.in_ok-second-in-Either.second
    (omega (arith, c.in-Either.ensures.earlier, c.requires.there)) (omega (arith, c.in-Either.ensures.earlier, c.requires.there)) c.in_ok-first-in-Either.ensures c.in_ok-second-in-Either.ensures
    c.in-Either.ensures.formula c.in_ok-formula-in-Either.ensures

pub returns-in_ok-formula-in-Each : goal.returns-in_ok-formula-in-Each
returns-in_ok-formula-in-Each t c =
    derivative_each (formulas_in c.args.formulas.now) (formulas_in c.derive-in-Each.new.formulas) (formulas_in c.repetition.new.self) (formulas_in c.gap-in-Each.new.self) (formulas_in c.conjunction-in-Each.new.self)
    c.args.f c.in-Each.element c.in_ok-others-in-Each.others c.in_ok-behind-in-Each.behind c.in_ok-formula-in-Each.formula c.args.letter c.args.end c.in-Each.count c.in-Each.size (c.in-Each.count - 1)
    (c.in-Each.size - 1) c.in_ok-first-in-Each.first (omega (arith, c.in-Each.ensures.earlier.0, c.requires.there)) c.in-Each.ensures.formula (omega (arith, c.in-Each.ensures.earlier.1))
    (omega (arith, c.in-Each.ensures.earlier.2)) c.in_ok-first-in-Each.ensures c.in_ok-others-in-Each.ensures c.in_ok-behind-in-Each.ensures c.in_ok-formula-in-Each.ensures
