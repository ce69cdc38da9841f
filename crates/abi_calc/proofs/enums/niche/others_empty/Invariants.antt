-- The variants before have no bytes, but for the untagged one.
use Rattle.std.proofs.Common.{◌≡◌, drop}
use Rattle.abi_calc.specs.Enums.Niche.{others_empty}
use Rattle.abi_calc.proofs.enums.niche.others_empty.Given as goal

abbrev pub invariant-loop-index : goal.invariant-loop-index
invariant-loop-index g l = others_empty l.untagged l.index (drop l.index l.variants) ≡ others_empty l.untagged 0 l.variants
