use Rattle.std.proofs.Common.{◌∙◌}
use Rattle.abi_base.proofs.Parts.{has_left}
use Rattle.abi_base.proofs.parse_text.has_parts.Goals as goal

pub returns : goal.returns
returns c =
    c.is_some.ensures ∙ has_left 58 c.args.parts
