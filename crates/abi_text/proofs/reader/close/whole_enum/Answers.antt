use Rattle.abi_text.proofs.EnumsBegun.{enum_tree}
use Rattle.abi_text.proofs.reader.close.whole_enum.Goals as goal

pub returns : goal.returns
returns c = enum_tree c.args.repr c.args.variants
