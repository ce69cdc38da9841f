-- None of the variants before is present.
use Rattle.std.proofs.Common.{◌≡◌}
use Rattle.abi_calc.proofs.EnumLemmas.EnumStrategy.{found_from}
use Rattle.abi_calc.proofs.enums.strategy.present_from.Given as goal

abbrev pub invariant-loop-index : goal.invariant-loop-index
invariant-loop-index g l =
    found_from g.F.LayoutHandle.layout_of l.repr l.variants l.index ≡ found_from g.F.LayoutHandle.layout_of l.repr l.variants l.from
