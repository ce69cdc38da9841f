use Rattle.std.proofs.Common.{◌-◌, arith}
use Rattle.automata.specs.Nodes.{formulas_in}
use Rattle.automata.proofs.BigNumberLemmas.{big_number_more, digit_is}
use Rattle.automata.proofs.formulas.Formulas.+big_number.Goals as goal

pub returns : goal.returns
returns t c =
    big_number_more (formulas_in c.args.self.now) (formulas_in c.big_number.new.self) (formulas_in c.run.new.self) (c.args.width - 1) c.args.width c.args.number _ c.in_ok-next.next
    c.in_ok-place-2.place (omega arith) (digit_is c.args.number (c.args.width - 1) c.args.width (omega arith) c.requires) c.in_ok-next.ensures c.in_ok-place-2.ensures
