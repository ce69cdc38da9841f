use Rattle.std.proofs.lemmas.Str.{lead_after_ascii}
use Rattle.abi_base.proofs.Parts.{some_byte}
use Rattle.abi_base.proofs.parse_text.tail.Goals as goal

pub range_from-requires : goal.range_from-requires
range_from-requires c = λ _. (some_byte c.args.text.now c.requires.some, λ short high. lead_after_ascii c.args.text.now 0 c.utf8.text c.requires.ascii short high)
