use Rattle.std.proofs.Common.{◌∙◌}
use Rattle.abi_tree.proofs.Written.TagNumberLemmas.{direct_number}
use Rattle.abi_tree.proofs.value.write.tag_number.Goals as goal

pub returns-in-Direct : goal.returns-in-Direct
returns-in-Direct c = λ done tag names tag_layout.
    c.truncate.ensures ∙ direct_number c.args.encoding.now done c.args.variants.now c.args.width tag c.args.i (0, 0) c.in-Direct.is names
