-- The variants before the index are settled, and those from it on are still as in their lists.
use Rattle.std.proofs.Common.{◌≡◌, ◌++◌, drop, map, take}
use Rattle.abi_scalar.specs.Variant.{variant_of}
use Rattle.abi_calc.specs.Enums.Growth.{grown_variant}
use Rattle.abi_calc.specs.Enums.Payload.{variant_with_view}
use Rattle.abi_calc.proofs.enums.tagged.variants_of.Given as goal

abbrev pub invariant-loop-variant : goal.invariant-loop-variant
invariant-loop-variant g l =
    take l.variant-index l.variant-items ++ map (λ v. variant_with_view l.view l.size (grown_variant l.old l.new v)) (drop l.variant-index l.variant-items)
    ≡ map (λ list. variant_with_view l.view l.size (grown_variant l.old l.new (variant_of list))) l.fn.lists
