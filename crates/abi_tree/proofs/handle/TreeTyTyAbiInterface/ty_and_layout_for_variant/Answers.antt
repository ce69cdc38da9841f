use Rattle.std.proofs.Common.{ap, arith, refl, sym, ◌∙◌}
use Rattle.abi_types.specs.Ty.Typed.{layout_in}
use Rattle.abi_tree.specs.Handles.{tree_depth, variant_place}
use Rattle.abi_scalar.specs.Layout.{Layout}
use Rattle.abi_tree.specs.Typed.{typed_at}
use Rattle.abi_tree.proofs.Meaning.HandleLemmas.{several_at, several_falls, several_named, variant_here}
use Rattle.abi_tree.specs.Nodes.{lent_node}
use Rattle.abi_tree.proofs.handle.TreeTyTyAbiInterface.ty_and_layout_for_variant.Goals as goal

pub variant_node-requires : goal.variant_node-requires
variant_node-requires g c =
    let laid = c.args.this.ty.laid.now in
    let named = several_named (layout_in (typed_at laid.nodes c.args.this.ty.node)).variants c.args.variant_index _ _ _ _ (ap (λ (layout : Layout). layout.variants) c.requires.valid.layout ∙ c.in-Multiple.is) c.requires.named in
    let facts = variant_here laid.nodes laid.earlier laid.laws laid.nodes refl c.args.this.ty.node (lent_node c.node.result) c.requires.valid.there c.node.ensures c.args.variant_index named in
    omega (arith, facts.has, c.as_usize.ensures)

pub handle_at-requires : goal.handle_at-requires
handle_at-requires g c =
    let laid = c.args.this.ty.laid.now in
    let named = several_named (layout_in (typed_at laid.nodes c.args.this.ty.node)).variants c.args.variant_index _ _ _ _ (ap (λ (layout : Layout). layout.variants) c.requires.valid.layout ∙ c.in-Multiple.is) c.requires.named in
    let facts = variant_here laid.nodes laid.earlier laid.laws laid.nodes refl c.args.this.ty.node (lent_node c.node.result) c.requires.valid.there c.node.ensures c.args.variant_index named in
    let place = c.variant_node.ensures ∙ ap (variant_place _) c.as_usize.ensures in
    omega (arith, facts.before, place, c.requires.valid.there)

pub returns-in-Multiple : goal.returns-in-Multiple
returns-in-Multiple g c =
    let laid = c.args.this.ty.laid.now in
    let several = ap (λ (layout : Layout). layout.variants) c.requires.valid.layout ∙ c.in-Multiple.is in
    let named = several_named (layout_in (typed_at laid.nodes c.args.this.ty.node)).variants c.args.variant_index _ _ _ _ several c.requires.named in
    let facts = variant_here laid.nodes laid.earlier laid.laws laid.nodes refl c.args.this.ty.node (lent_node c.node.result) c.requires.valid.there c.node.ensures c.args.variant_index named in
    let place = c.variant_node.ensures ∙ ap (variant_place _) c.as_usize.ensures in
    record {
      valid = c.handle_at.ensures.valid;
      variant = c.handle_at.ensures.typed ∙ ap (typed_at laid.nodes) place ∙ facts.same ∙ sym (several_at (typed_at laid.nodes c.args.this.ty.node) c.args.variant_index _ _ _ _ several);
      falls = several_falls (layout_in (typed_at laid.nodes c.args.this.ty.node)).variants _ _ _ _ (tree_depth c.handle_at.result) c.args.this.ty.node several
          (omega (arith, facts.before, place, c.handle_at.ensures.depth));
    }
