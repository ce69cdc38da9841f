use Rattle.std.proofs.Common.{arith}
use Rattle.automata.specs.Nodes.{formulas_in}
use Rattle.abi_bytes.proofs.RangeLemmas.{round_range, straight_range}
use Rattle.abi_bytes.proofs.numbers.range_formula.Goals as goal

pub returns-in_ok-place-2 : goal.returns-in_ok-place-2
returns-in_ok-place-2 c =
    straight_range (formulas_in c.args.formulas.now) (formulas_in c.from.new.formulas) (formulas_in c.up_to.new.formulas) (formulas_in c.conjunction.new.self) c.in_ok-low.low c.in_ok-high.high c.in_ok-place-2.place
    c.args.width c.args.range.start c.args.range.end c.args.order c.in_ok-low.ensures c.in_ok-high.ensures (omega arith) c.in_ok-place-2.ensures

pub returns-in_ok-place-3 : goal.returns-in_ok-place-3
returns-in_ok-place-3 c =
    round_range (formulas_in c.args.formulas.now) (formulas_in c.from.new.formulas) (formulas_in c.up_to.new.formulas) (formulas_in c.disjunction.new.self) c.in_ok-low.low c.in_ok-high.high c.in_ok-place-3.place
    c.args.width c.args.range.start c.args.range.end c.args.order c.in_ok-low.ensures c.in_ok-high.ensures (omega arith) c.in_ok-place-3.ensures
