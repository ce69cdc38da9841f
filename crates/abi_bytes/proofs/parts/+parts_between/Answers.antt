use Rattle.std.proofs.Common.{◌+◌, ◌-◌, ◌/◌, arith}
use Rattle.automata.specs.Nodes.{formulas_in}
use Rattle.abi_bytes.proofs.PartLemmas.{between_halves}
use Rattle.abi_bytes.proofs.parts.+parts_between.Goals as goal

pub returns : goal.returns
returns t c =
    between_halves c.args.walk.order c.args.walk.nodes.now c.args.parts.offsets.now c.args.parts.children.now c.args.start (c.args.start + (c.args.end - c.args.start) / 2) c.args.end
    (formulas_in c.args.formulas.now) (formulas_in c.parts_between.new.formulas) (formulas_in c.parts_between-2.new.formulas) (formulas_in c.conjunction.new.self)
    c.args.parts.whole c.in_ok-first.first c.in_ok-second.second c.in_ok-place-3.place (omega arith) (omega arith) c.in_ok-first.ensures c.in_ok-second.ensures c.in_ok-place-3.ensures
