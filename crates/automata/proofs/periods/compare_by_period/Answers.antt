use Rattle.std.proofs.Common.{subst, sym}
use Rattle.automata.specs.Formula.{Formula, Same, each}
use Rattle.automata.specs.Nodes.{formula_in, formulas_in}
use Rattle.automata.proofs.NodesLemmas.{Keeps-at}
use Rattle.automata.proofs.PeriodLemmas.{of_found, of_periods}
use Rattle.automata.proofs.periods.compare_by_period.Goals as goal

pub returns-clause-inclusion : goal.returns-clause-inclusion
returns-clause-inclusion c =
    let s0 = formulas_in c.args.formulas.now in
    let s1 = formulas_in c.repetition.new.self in
    let s2 = formulas_in c.repetition-2.new.self in
    let p = c.in-Some.p in
    let f : Formula = formula_in s0 c.args.left.element in
    let g : Formula = formula_in s0 c.args.right.element in
    let one : Formula = formula_in s2 c.in_ok-one.one in
    let other : Formula = formula_in s2 c.in_ok-other.other in
    let same_one : Same one (each p.left c.args.left.size f) =
    subst (λ x. Same x (each p.left c.args.left.size f)) (sym (Keeps-at s1 s2 c.in_ok-other.ensures.kept c.in_ok-one.one c.in_ok-one.ensures.there)) c.in_ok-one.ensures.same in
    let same_other : Same other (each p.right c.args.right.size g) =
    subst (λ x. Same other (each p.right c.args.right.size x)) (Keeps-at s0 s1 c.in_ok-one.ensures.kept c.args.right.element c.requires.right) c.in_ok-other.ensures.same in
    of_found c.in_ok-found.found _ _
    (λ all. of_periods c.args.left c.args.right p f g one other c.args.size c.in_ok-inclusion.inclusion all c.in-Some.ensures (c.are_several.ensures.size c.if-not-are_several.false)
    (c.are_several.ensures.count c.if-not-are_several.false) (c.is_within.ensures s0 c.in_ok-reaches.ensures.reaches c.if-not-is_within.false)
    (c.is_within-2.ensures s0 c.in_ok-reaches.ensures.reaches c.if-not-is_within-2.false) same_one same_other c.in_ok-inclusion.ensures.inclusion)
    c.in_ok-found.ensures
