-- The layouts of the fields of the variants before.
use Rattle.std.proofs.Common.{◌≡◌, map, take}
use Rattle.rustc_abi.specs.Enums.{layouts_of}
use Rattle.rustc_abi.specs.Adding.{variants_in}
use Rattle.rustc_abi.proofs.lay_enum.variant_layouts.Given as goal

abbrev pub invariant-loop-fields : goal.invariant-loop-fields
invariant-loop-fields l = map (map (λ lent. lent.now)) l.layouts.items ≡ layouts_of (variants_in l.nodes (take l.fields-index l.children))
