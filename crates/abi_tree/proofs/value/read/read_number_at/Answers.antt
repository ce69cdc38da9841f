use Rattle.std.proofs.Common.{◌≡◌, ap}
use Rattle.abi_tree.specs.Placed.{size_of}
use Rattle.abi_tree.specs.Nodes.{placed_at}
use Rattle.abi_tree.proofs.Found.FoundLemmas.{number_at}
use Rattle.abi_tree.proofs.value.read.read_number_at.Goals as goal

pub returns : goal.returns
returns c =
    let size : c.bytes.result ≡ size_of (placed_at c.args.walk.nodes.now c.args.node) = rw c.bytes.ensures (ap (λ l. l.size) c.layout.ensures) in
    let there = c.in_ok-part.ensures in
    number_at c.args.walk.order (placed_at c.args.walk.nodes.now c.args.node) c.args.offset c.bytes.result c.args.bytes.now c.in_ok-part.part.now size there.0 there.1 c.read_number.result c.read_number.ensures
