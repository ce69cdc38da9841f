-- The first and the last of those below the counter.
use Rattle.std.proofs.Common.{◌≡◌, filter, map}
use Rattle.abi_univariant.specs.Placement.{source_order}
use Rattle.abi_calc.specs.Enums.Niche.{span_of}
use Rattle.abi_calc.proofs.EnumLemmas.Niche.{needs_number}
use Rattle.abi_calc.proofs.enums.niche.span_of.Given as goal

abbrev pub invariant-loop-index : goal.invariant-loop-index
invariant-loop-index g l =
    l.span ≡ span_of (filter (needs_number l.untagged (map (map g.F.LayoutHandle.layout_of) l.variants)) (source_order l.index))
