use Rattle.std.proofs.Common.{subst, sym, refl}
use Rattle.abi_tree.specs.Nodes.{types_in}
use Rattle.abi_tree.specs.declared.node.Shape.TheVariants.{Elements, Fields, Vector}
use Rattle.abi_tree.proofs.Meaning.NodesLemmas.{placed_at-node}
use Rattle.abi_bytes.specs.Holding.{IsList}
use Rattle.abi_bytes.proofs.NodeLemmas.{list_other}
use Rattle.abi_bytes.proofs.nodes.is_list.Goals as goal

pub returns-in-Elements : goal.returns-in-Elements
returns-in-Elements c =
    subst IsList (sym (placed_at-node c.args.nodes.now c.requires.well c.args.node _ (Elements c.in-Elements.count c.in-Elements.element) c.requires.there c.node.ensures c.in-Elements.is).1) tt

pub returns-in-Vector : goal.returns-in-Vector
returns-in-Vector c =
    subst IsList (sym (placed_at-node c.args.nodes.now c.requires.well c.args.node _ (Vector c.in-Vector.field-0) c.requires.there c.node.ensures c.in-Vector.is).1) tt

pub returns-in-Fields : goal.returns-in-Fields
returns-in-Fields c =
    subst IsList (sym (placed_at-node c.args.nodes.now c.requires.well c.args.node _ (Fields c.in-Fields.field-0 c.in-Fields.field-1) c.requires.there c.node.ensures c.in-Fields.is).1) tt

pub returns-in_default : goal.returns-in_default
returns-in_default c = λ h.
    list_other (types_in c.args.nodes.now) c.node.result.layout.now c.node.result.shape.now c.in_default.not-Elements c.in_default.not-Fields c.in_default.not-Vector
    (subst IsList (placed_at-node c.args.nodes.now c.requires.well c.args.node _ c.node.result.shape.now c.requires.there c.node.ensures refl).1 h)
