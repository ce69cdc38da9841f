use Rattle.std.proofs.Common.{take}
use Rattle.abi_tree.specs.Needed.{MarksPlaces}
use Rattle.abi_tree.proofs.needed.mark.Given as goal

abbrev pub invariant-loop-place : goal.invariant-loop-place
invariant-loop-place l = MarksPlaces l.fn.needed l.needed (take l.place-index l.places)
