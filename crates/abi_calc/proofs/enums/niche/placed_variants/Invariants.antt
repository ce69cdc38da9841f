-- The variants before the index, and those that the lists from it on give, if there is room for each, are all; from the index on
-- variants are still as in their lists.
use Rattle.std.proofs.Common.{◌≡◌, ◌++◌, drop, length, map, take}
use Rattle.std.specs.Prelude.{option_map}
use Rattle.abi_scalar.specs.Variant.{variant_of}
use Rattle.abi_calc.specs.Enums.Niche.{variants_from}
use Rattle.abi_calc.proofs.enums.niche.placed_variants.Given as goal

abbrev pub invariant-loop-at : goal.invariant-loop-at
invariant-loop-at g l = record {
  all : option_map (λ more. take l.at l.variant-items ++ more) (variants_from l.room l.untagged l.at (drop l.at l.fn.lists)) ≡ variants_from l.room l.untagged 0 l.fn.lists;
  left : drop l.at l.variant-items ≡ map variant_of (drop l.at l.fn.lists);
  count : length l.variant-items ≡ length l.fn.lists;
}
