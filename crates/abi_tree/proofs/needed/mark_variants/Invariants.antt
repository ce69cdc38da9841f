use Rattle.std.proofs.Common.{map, take}
use Rattle.abi_tree.specs.Needed.{MarksPlaces}
use Rattle.abi_tree.proofs.needed.mark_variants.Given as goal

abbrev pub invariant-loop-variant : goal.invariant-loop-variant
invariant-loop-variant l = MarksPlaces l.fn.needed l.needed (map (λ v. v.1) (take l.variant-index l.variants))
