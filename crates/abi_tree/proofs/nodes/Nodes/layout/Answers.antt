use Rattle.std.proofs.Common.{ap, sym, ◌∙◌}
use Rattle.abi_tree.specs.declared.node.Node.{Node}
use Rattle.abi_tree.proofs.Meaning.NodesLemmas.{layout_of-placed_at}
use Rattle.abi_tree.proofs.nodes.Nodes.layout.Goals as goal

pub returns : goal.returns
returns c = ap (λ (n : Node). n.layout) c.node.ensures ∙ sym (layout_of-placed_at c.args.self.now c.args.at _ c.requires)
