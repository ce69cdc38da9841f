use Rattle.std.proofs.Common.{subst, sym, ◌∙◌}
use Rattle.abi_tree.specs.Nodes.{tagged_variants_in, types_in}
use Rattle.abi_tree.specs.Tag.{Names}
use Rattle.abi_bytes.proofs.TagLemmas.{cut_named, direct_number}
use Rattle.abi_bytes.proofs.tags.tag_formula.Goals as goal

pub only_formula-requires-clause-only : goal.only_formula-requires-clause-only
only_formula-requires-clause-only c = λ tag h.
    let done = types_in c.args.walk.nodes.now in
    let vs = c.args.tagging.variants.now in
    let w = c.args.tagging.width in
    let named = direct_number done w tag vs c.args.i (0, 0) (subst (λ e. Names e w (tagged_variants_in done vs) tag c.args.i) c.in-Direct.is h) in
    sym named ∙ sym (cut_named c.truncate-number.result _ w c.from_bytes-width.result c.truncate-number.ensures c.from_bytes-width.ensures)
