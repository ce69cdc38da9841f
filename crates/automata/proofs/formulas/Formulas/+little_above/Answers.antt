use Rattle.std.proofs.Common.{◌-◌, ◌/◌, ◌%◌, suc, subst, arith, ◌≡◌}
use Rattle.automata.specs.Nodes.{formulas_in}
use Rattle.automata.specs.Number.{IsAbove}
use Rattle.automata.proofs.NumberLemmas.{above_more}
use Rattle.automata.proofs.formulas.Formulas.+little_above.Goals as goal

pub returns : goal.returns
returns t c =
    let old = formulas_in c.args.self.now in
    let new = formulas_in c.split-2.new.self in
    let same : suc (c.args.width - 1) ≡ c.args.width = omega arith in
    subst (λ k. IsAbove old new k c.args.number (record { strict = c.in_ok-strict-2.strict; loose = c.in_ok-loose-2.loose })) same
    (above_more old (formulas_in c.little_above.new.self) (formulas_in c.split.new.self) new (c.args.width - 1) c.args.number (c.args.number / 256) (c.args.number % 256) c.in_ok-rest.rest
    c.in_ok-strict-2.strict c.in_ok-loose-2.loose (omega arith) (omega arith) c.in_ok-rest.ensures c.in_ok-strict-2.ensures c.in_ok-loose-2.ensures)
