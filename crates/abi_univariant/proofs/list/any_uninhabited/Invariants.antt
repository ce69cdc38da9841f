-- No field before has values that cannot be.
use Rattle.std.proofs.Common.{◌≡◌, map, drop}
use Rattle.std.specs.List.{list_any}
use Rattle.abi_univariant.proofs.list.any_uninhabited.Given as goal

abbrev pub invariant-loop-field : goal.invariant-loop-field
invariant-loop-field g l =
    list_any (λ f. f.uninhabited) (map g.F.LayoutHandle.layout_of (drop l.field-index l.fields)) ≡ list_any (λ f. f.uninhabited) (map g.F.LayoutHandle.layout_of l.fields)
