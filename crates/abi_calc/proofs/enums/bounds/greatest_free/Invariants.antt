-- The rest of the fields gives the most.
use Rattle.std.proofs.Common.{◌≡◌, drop, fold, map, max}
use Rattle.abi_univariant.specs.Part.{free_numbers}
use Rattle.abi_calc.specs.Enums.Bounds.{greatest_free}
use Rattle.abi_calc.proofs.enums.bounds.greatest_free.Given as goal

abbrev pub invariant-loop-field : goal.invariant-loop-field
invariant-loop-field g l =
    fold (λ most field. max most (free_numbers l.dl field.largest_niche)) l.most (map g.F.LayoutHandle.layout_of (drop l.field-index l.fields))
    ≡ greatest_free l.dl (map g.F.LayoutHandle.layout_of l.fields)
