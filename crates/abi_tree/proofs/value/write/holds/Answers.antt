use Rattle.std.proofs.Common.{subst}
use Rattle.abi_tree.specs.Value.{value_of}
use Rattle.abi_tree.specs.Nodes.{placed_at}
use Rattle.abi_tree.specs.Holding.{Holds}
use Rattle.abi_tree.specs.Reading.{Finds}
use Rattle.abi_tree.proofs.value.write.holds.Goals as goal

pub returns-in-None-clause-held : goal.returns-in-None-clause-held
returns-in-None-clause-held c =
    let found = subst (Finds (Holds c.args.walk.order (placed_at c.args.walk.nodes.now c.args.node) c.args.bytes.now)) c.in-None.is c.in_ok-found.ensures in
    λ unique h. found (value_of c.args.value.now) h
