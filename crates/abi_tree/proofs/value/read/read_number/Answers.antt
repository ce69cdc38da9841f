use Rattle.std.proofs.Common.{◌≡◌, true, refl, sym, ◌∙◌, subst}
use Rattle.abi_tree.specs.Value.{number}
use Rattle.abi_tree.specs.Nodes.{placed_at}
use Rattle.abi_tree.specs.Holding.{Holds}
use Rattle.abi_tree.specs.Reading.{FindsNumber}
use Rattle.abi_tree.specs.Widths.{is_narrow}
use Rattle.abi_tree.proofs.Found.FoundLemmas.{found_scalar, no_number, node_size, none_of_length}
use Rattle.abi_tree.proofs.Meaning.NodesLemmas.{placed_at-node}
use Rattle.abi_tree.proofs.Meaning.WidthLemmas.{narrow_at}
use Rattle.abi_tree.specs.declared.node.Shape.TheVariants.{Scalar as OneScalar}
use Rattle.abi_tree.proofs.value.read.read_number.Goals as goal

pub returns-then-bytes : goal.returns-then-bytes
returns-then-bytes c =
    let size = node_size c.args.walk.nodes.now c.args.node _ c.requires.there c.node-here.ensures in
    λ n. none_of_length c.args.walk.order (placed_at c.args.walk.nodes.now c.args.node) c.args.bytes.now (λ e. c.if-bytes.true (e ∙ size ∙ sym c.bytes.ensures)) (number n)

pub scalar_number-requires : goal.scalar_number-requires
scalar_number-requires c =
    let narrow = narrow_at c.args.walk.nodes.now c.args.walk.well c.args.walk.widths c.args.node _ c.requires.there c.node-here.ensures c.in-Scalar.scalar c.in-Scalar.is in
    subst (λ w. is_narrow w c.in-Scalar.scalar ≡ true) (sym (c.if-bytes.false ∙ c.bytes.ensures)) narrow

pub returns-in-Scalar : goal.returns-in-Scalar
returns-in-Scalar c =
    let is = (placed_at-node c.args.walk.nodes.now c.args.walk.well c.args.node _ (OneScalar c.in-Scalar.scalar) c.requires.there c.node-here.ensures c.in-Scalar.is).1 in
    subst (λ p. FindsNumber (λ n. Holds c.args.walk.order p c.args.bytes.now (number n)) c.scalar_number.result) (sym is)
    (found_scalar c.args.walk.order c.node-here.result.layout.now c.in-Scalar.scalar c.args.bytes.now c.scalar_number.result (c.if-bytes.false ∙ c.bytes.ensures) c.scalar_number.ensures)

pub returns-in_default : goal.returns-in_default
returns-in_default c =
    let is = (placed_at-node c.args.walk.nodes.now c.args.walk.well c.args.node _ _ c.requires.there c.node-here.ensures refl).1 in
    λ n h. no_number c.args.walk.order _ _ _ c.in_default.not-Scalar c.args.bytes.now n (subst (λ p. Holds c.args.walk.order p c.args.bytes.now (number n)) is h)
