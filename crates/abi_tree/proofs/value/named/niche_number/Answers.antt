use Rattle.std.proofs.Common.{◌+◌, ◌-◌, ◌∙◌}
use Rattle.abi_tree.proofs.Bytes.NumberLemmas.{cut_twice}
use Rattle.abi_tree.proofs.value.named.niche_number.Goals as goal

pub returns : goal.returns
returns c = c.truncate.ensures ∙ cut_twice (c.args.start + (c.args.i - c.args.first)) c.args.width c.requires.width
