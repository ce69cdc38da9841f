-- The places before, in order.
use Rattle.std.proofs.Common.{◌≡◌, ◌<◌, All, map}
use Rattle.std.specs.List.{AllPairs}
use Rattle.abi_univariant.specs.Placement.{source_order}
use Rattle.bench.proofs.calculator.numbered_variants.Given as goal

abbrev pub invariant-loop-at : goal.invariant-loop-at
invariant-loop-at l = record {
  each : map (λ item. item.0) l.items.items ≡ source_order l.at;
  ascending : AllPairs (λ a b. a.1 < b.1) l.items.items;
  within : All (λ item. item.1 < l.at) l.items.items;
}
