-- The rest of the fields gives the alignment.
use Rattle.std.proofs.Common.{◌≡◌, map, drop}
use Rattle.abi_univariant.specs.Fields.{greater_of, greatest_asked}
use Rattle.abi_univariant.proofs.fields.greatest_repr_align.Given as goal

abbrev pub invariant-loop-field : goal.invariant-loop-field
invariant-loop-field g l =
    greater_of l.greatest (greatest_asked (map g.F.LayoutHandle.layout_of (drop l.field-index l.fields))) ≡ greater_of l.fn.own (greatest_asked (map g.F.LayoutHandle.layout_of l.fields))
