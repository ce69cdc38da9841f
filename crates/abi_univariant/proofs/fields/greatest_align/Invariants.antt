-- The rest of the fields gives the greatest.
use Rattle.std.proofs.Common.{◌≡◌, map, drop, max}
use Rattle.abi_univariant.specs.Fields.{greatest}
use Rattle.abi_univariant.proofs.fields.greatest_align.Given as goal

abbrev pub invariant-loop-field : goal.invariant-loop-field
invariant-loop-field g l =
    max l.greatest (greatest (map (λ f. f.align.abi) (map g.F.LayoutHandle.layout_of (drop l.field-index l.fields)))) ≡ max l.fn.own (greatest (map (λ f. f.align.abi) (map g.F.LayoutHandle.layout_of l.fields)))
