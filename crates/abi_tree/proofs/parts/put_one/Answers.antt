use Rattle.abi_tree.specs.Nodes.{placed_in}
use Rattle.abi_tree.proofs.Places.PartsLemmas.{part_put}
use Rattle.abi_tree.proofs.parts.put_one.Goals as goal

pub returns : goal.returns
returns c = λ types made.
    part_put c.args.parts.now.items c.push.new.self.items c.args.name c.in_ok-bytes.bytes c.args.place.1 (placed_in types c.args.child) c.in_ok-push.ensures.items (c.in_ok-bytes.ensures types made)
