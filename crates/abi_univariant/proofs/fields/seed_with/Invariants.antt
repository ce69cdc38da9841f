-- The rest of the fields gives the sum.
use Rattle.std.proofs.Common.{◌≡◌, ◌+◌, ◌%◌, ◌^◌, map, drop}
use Rattle.std.specs.Prelude.{sum_by}
use Rattle.abi_univariant.proofs.fields.seed_with.Given as goal

abbrev pub invariant-loop-field : goal.invariant-loop-field
invariant-loop-field g l =
    (l.seed + sum_by (λ f. f.randomization_seed) (map g.F.LayoutHandle.layout_of (drop l.field-index l.fields))) % 2 ^ 64
    ≡ sum_by (λ f. f.randomization_seed) (map g.F.LayoutHandle.layout_of l.fields) % 2 ^ 64
