use Rattle.std.proofs.Common.{arith}
use Rattle.std.proofs.lemmas.Bool.{leb-true, le-leb}
use Rattle.std.proofs.lemmas.Bool.Decides.{not_from_Decides}
use Rattle.abi_scalar.proofs.GapLemmas.{signed_gap_from_order, signed_order_from_gap}
use Rattle.abi_scalar.proofs.wrapping_range.WrappingRange.no_signed_wraparound.Goals as goal

pub returns-else-is_full_for-clause-gap : goal.returns-else-is_full_for-clause-gap
returns-else-is_full_for-clause-gap c =
    let some = not_from_Decides c.is_full_for.result c.is_full_for.ensures c.if-is_full_for.false in (
      λ t. signed_gap_from_order c.args.size c.args.self.now c.requires.some c.requires.within (omega (arith, leb-true c.place.result c.place-else-is_full_for.result t, c.place.ensures, c.place-else-is_full_for.ensures)),
      λ gap. le-leb c.place.result c.place-else-is_full_for.result (omega (arith, signed_order_from_gap c.args.size c.args.self.now c.requires.some c.requires.within some gap, c.place.ensures, c.place-else-is_full_for.ensures)),
    )
