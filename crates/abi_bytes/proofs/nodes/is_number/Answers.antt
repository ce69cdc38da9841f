use Rattle.std.proofs.Common.{subst, sym, refl}
use Rattle.abi_tree.specs.Nodes.{types_in}
use Rattle.abi_tree.specs.declared.node.Shape.TheVariants.{Scalar as Number}
use Rattle.abi_tree.proofs.Meaning.NodesLemmas.{placed_at-node}
use Rattle.abi_bytes.specs.Holding.{IsNumber}
use Rattle.abi_bytes.proofs.NodeLemmas.{number_other}
use Rattle.abi_bytes.proofs.nodes.is_number.Goals as goal

pub returns-in-Scalar : goal.returns-in-Scalar
returns-in-Scalar c =
    subst IsNumber (sym (placed_at-node c.args.nodes.now c.requires.well c.args.node _ (Number c.in-Scalar.field-0) c.requires.there c.node.ensures c.in-Scalar.is).1) tt

pub returns-in_default : goal.returns-in_default
returns-in_default c = λ h.
    number_other (types_in c.args.nodes.now) c.node.result.layout.now c.node.result.shape.now c.in_default.not-Scalar
    (subst IsNumber (placed_at-node c.args.nodes.now c.requires.well c.args.node _ c.node.result.shape.now c.requires.there c.node.ensures refl).1 h)
