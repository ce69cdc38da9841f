use Rattle.std.proofs.Common.{subst}
use Rattle.automata.specs.Nodes.{formulas_in}
use Rattle.abi_scalar.specs.Range.{IsBetween}
use Rattle.abi_bytes.specs.Formulas.{IsFormula}
use Rattle.abi_bytes.specs.Holding.{MakeNumber}
use Rattle.abi_bytes.proofs.NodeLemmas.{initialized_made}
use Rattle.abi_bytes.proofs.nodes.scalar_formula.Goals as goal

pub returns-in_ok-place-in-Initialized : goal.returns-in_ok-place-in-Initialized
returns-in_ok-place-in-Initialized c =
    let s0 = formulas_in c.args.formulas.now in
    let s1 = formulas_in c.range_formula.new.formulas in
    let range = c.in-Initialized.valid_range in
    initialized_made s0 s1 c.args.walk.order c.args.width c.in_ok-place-in-Initialized.place c.args.scalar c.in-Initialized.value range c.in-Initialized.is c.requires
    (subst (λ k. IsFormula s0 s1 k (MakeNumber c.args.walk.order (IsBetween range.start range.end)) c.in_ok-place-in-Initialized.place) c.bytes-width.ensures c.in_ok-place-in-Initialized.ensures)
