use Rattle.std.proofs.Common.{ap, arith, refl, ◌∙◌}
use Rattle.abi_tree.specs.Typed.{typed_at}
use Rattle.abi_tree.proofs.Meaning.HandleLemmas.{field_here}
use Rattle.abi_tree.specs.Nodes.{lent_node}
use Rattle.abi_tree.proofs.handle.TreeTyTyAbiInterface.ty_and_layout_field.Goals as goal

pub field_node-requires : goal.field_node-requires
field_node-requires g c =
    let laid = c.args.this.ty.laid.now in
    let facts = field_here laid.nodes laid.earlier laid.laws laid.nodes refl c.args.this.ty.node (lent_node c.node.result) c.requires.valid.there c.node.ensures c.args.i c.requires.within in
    facts.has

pub handle_at-requires : goal.handle_at-requires
handle_at-requires g c =
    let laid = c.args.this.ty.laid.now in
    let facts = field_here laid.nodes laid.earlier laid.laws laid.nodes refl c.args.this.ty.node (lent_node c.node.result) c.requires.valid.there c.node.ensures c.args.i c.requires.within in
    omega (arith, facts.before, c.field_node.ensures, c.requires.valid.there)

pub returns-clause-field : goal.returns-clause-field
returns-clause-field g c =
    let laid = c.args.this.ty.laid.now in
    let facts = field_here laid.nodes laid.earlier laid.laws laid.nodes refl c.args.this.ty.node (lent_node c.node.result) c.requires.valid.there c.node.ensures c.args.i c.requires.within in
    c.handle_at.ensures.typed ∙ ap (typed_at c.args.this.ty.laid.now.nodes) c.field_node.ensures ∙ facts.same

pub returns-clause-falls : goal.returns-clause-falls
returns-clause-falls g c =
    let laid = c.args.this.ty.laid.now in
    let facts = field_here laid.nodes laid.earlier laid.laws laid.nodes refl c.args.this.ty.node (lent_node c.node.result) c.requires.valid.there c.node.ensures c.args.i c.requires.within in
    omega (arith, facts.before, c.field_node.ensures, c.handle_at.ensures.depth)
