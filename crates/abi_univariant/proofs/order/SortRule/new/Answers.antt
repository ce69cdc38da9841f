use Rattle.std.proofs.Common.{arith}
use Rattle.abi_univariant.proofs.Sorted.Tight.{greatest_limit}
use Rattle.abi_univariant.proofs.order.SortRule.new.Goals as goal

pub exponent_of-requires : goal.exponent_of-requires
exponent_of-requires g c = rw c.greatest_align.ensures (greatest_limit 0 c.args.parts.now (omega arith) c.requires)
