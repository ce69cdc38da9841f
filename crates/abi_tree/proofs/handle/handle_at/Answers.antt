use Rattle.std.proofs.Common.{List, sym, ◌∙◌}
use Rattle.abi_tree.specs.declared.node.Node.{Node}
use Rattle.abi_tree.proofs.Meaning.TypedLemmas.{lawful_at, layout-placed}
use Rattle.abi_tree.proofs.handle.handle_at.Goals as goal

pub returns-clause-valid : goal.returns-clause-valid
returns-clause-valid c =
    let ns : List Node = c.args.laid.now.nodes in
    record {
      there = c.requires;
      layout = layout-placed ns c.args.node c.requires ∙ sym c.layout.ensures;
      lawful = lawful_at ns c.args.laid.now.earlier c.args.laid.now.laws c.args.node c.requires;
    }
