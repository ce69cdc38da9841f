-- No field before lies as C has it.
use Rattle.std.proofs.Common.{◌≡◌, map, drop}
use Rattle.std.specs.List.{list_any}
use Rattle.abi_univariant.proofs.fields.any_repr_c.Given as goal

abbrev pub invariant-loop-field : goal.invariant-loop-field
invariant-loop-field g l =
    list_any (λ f. f.repr_c) (map g.F.LayoutHandle.layout_of (drop l.field-index l.fields)) ≡ list_any (λ f. f.repr_c) (map g.F.LayoutHandle.layout_of l.fields)
