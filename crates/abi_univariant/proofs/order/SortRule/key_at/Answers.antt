use Rattle.std.proofs.Common.{arith, sym, subst}
use Rattle.abi_univariant.specs.LawfulPart.{IsAlignedPart}
use Rattle.abi_univariant.specs.Placement.{no_part}
use Rattle.abi_univariant.proofs.order.SortRule.key_at.Goals as goal

pub key_of-requires : goal.key_of-requires
key_of-requires g c = subst IsAlignedPart (sym c.at.ensures) (c.requires c.args.index no_part (omega (arith, c.if-index-len.true, c.len.ensures)))
