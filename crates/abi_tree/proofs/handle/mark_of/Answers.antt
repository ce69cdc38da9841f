use Rattle.std.proofs.Common.{◌≡◌, get_or, sym, ◌∙◌}
use Rattle.abi_tree.specs.declared.node.Node.{Node}
use Rattle.abi_tree.proofs.Meaning.HandleLemmas.{marks_at}
use Rattle.abi_tree.specs.Nodes.{lent_node}
use Rattle.abi_tree.proofs.handle.mark_of.Goals as goal

pub returns : goal.returns
returns c =
    let this = c.args.this.ty in
    let n : Node = lent_node c.node.result in
    let at : n ≡ get_or this.laid.now.nodes this.node n = c.node.ensures in
    c.mark_in.ensures ∙ sym (marks_at this.laid.now.nodes this.laid.now.earlier this.laid.now.laws this.node n c.requires.there at)
