-- The rest of the variants gives the least.
use Rattle.std.proofs.Common.{◌≡◌, ◌≤◌, drop, fold, map, min}
use Rattle.abi_univariant.specs.Part.{max_align}
use Rattle.abi_calc.specs.Enums.Bounds.{least_only, only_align}
use Rattle.abi_calc.proofs.enums.bounds.least_only.Given as goal

abbrev pub invariant-loop-fields : goal.invariant-loop-fields
invariant-loop-fields g l = record {
  least : fold (λ least fields. min least (only_align fields)) l.least (map (map g.F.LayoutHandle.layout_of) (drop l.fields-index l.variants))
      ≡ least_only (map (map g.F.LayoutHandle.layout_of) l.variants);
  most : l.least ≤ max_align;
}
