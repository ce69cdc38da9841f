use Rattle.std.proofs.Common.{◌-◌, arith}
use Rattle.automata.specs.Nodes.{formulas_in}
use Rattle.automata.proofs.BigNumberLemmas.{more_bytes}
use Rattle.automata.proofs.formulas.Formulas.+bytes.Goals as goal

pub returns : goal.returns
returns t c =
    more_bytes (formulas_in c.args.self.now) (formulas_in c.bytes.new.self) (formulas_in c.run.new.self) (c.args.width - 1) c.args.width c.in_ok-rest.rest c.in_ok-place-2.place
    (omega arith) c.in_ok-rest.ensures c.in_ok-place-2.ensures
