use Rattle.std.proofs.Common.{arith}
use Rattle.automata.specs.Nodes.{formulas_in}
use Rattle.abi_bytes.proofs.PartLemmas.{parts_made}
use Rattle.abi_bytes.proofs.parts.parts_formula.Goals as goal

pub returns : goal.returns
returns c =
    parts_made c.args.walk.order c.args.walk.nodes.now c.args.parts.offsets.now c.args.parts.children.now (formulas_in c.args.formulas.now) (formulas_in c.parts_between.new.formulas)
    c.args.parts.whole c.in_ok-place.place _ (omega arith) c.in_ok-place.ensures
