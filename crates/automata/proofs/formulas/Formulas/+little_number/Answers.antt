use Rattle.std.proofs.Common.{◌-◌, ◌/◌, ◌%◌, suc, subst, arith, ◌≡◌}
use Rattle.automata.specs.Nodes.{formulas_in}
use Rattle.automata.specs.Number.{IsLittle}
use Rattle.automata.proofs.NumberLemmas.{number_more}
use Rattle.automata.proofs.formulas.Formulas.+little_number.Goals as goal

pub returns : goal.returns
returns t c =
    let old = formulas_in c.args.self.now in
    let new = formulas_in c.run.new.self in
    let same : suc (c.args.width - 1) ≡ c.args.width = omega arith in
    subst (λ k. IsLittle old new k (λ m. m ≡ c.args.number) c.in_ok-place-3.place) same
    (number_more old (formulas_in c.little_number.new.self) new (c.args.width - 1) (c.args.number % 256) (c.args.number / 256) c.args.number c.in_ok-next.next c.in_ok-place-3.place (omega arith)
    (omega arith) c.in_ok-next.ensures c.in_ok-place-3.ensures)
