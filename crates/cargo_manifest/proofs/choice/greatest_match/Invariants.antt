-- The choice of the versions so far.
use Rattle.std.proofs.Common.{take}
use Rattle.cargo_manifest.proofs.ChoiceLemmas.{IsSoFar}
use Rattle.cargo_manifest.proofs.choice.greatest_match.Given as goal

abbrev pub invariant-loop-at : goal.invariant-loop-at
invariant-loop-at l = record { far : IsSoFar l.requirement.comparators.items l.versions (take l.at l.versions) l.chosen }
