use Rattle.std.proofs.Common.{sym, ◌∙◌}
use Rattle.abi_tree.specs.Nodes.{types_in}
use Rattle.abi_tree.proofs.Bytes.NumberLemmas.{cut_width}
use Rattle.abi_tree.proofs.Found.NamedLemmas.{told_by_flag, told_by_number}
use Rattle.abi_tree.proofs.value.named.is_named_directly.Goals as goal

pub returns-then-truncate-tag : goal.returns-then-truncate-tag
returns-then-truncate-tag c =
    told_by_flag (types_in c.args.nodes.now) c.args.width c.args.tag c.args.variants.now c.args.i (0, 0) c.requires.index c.is_flagged.result c.is_flagged.ensures
    (sym (cut_width _ c.args.width) ∙ sym c.truncate.ensures ∙ c.if-truncate-tag.true)

pub returns-else-truncate-tag : goal.returns-else-truncate-tag
returns-else-truncate-tag c =
    told_by_number (types_in c.args.nodes.now) c.args.width c.args.tag c.args.variants.now c.args.i (0, 0) c.truncate.result
    (c.truncate.ensures ∙ cut_width _ c.args.width) c.if-truncate-tag.false
