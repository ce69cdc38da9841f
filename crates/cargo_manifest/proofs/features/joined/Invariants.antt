-- The texts so far.
use Rattle.std.proofs.Common.{◌≡◌, ◌++◌, take}
use Rattle.cargo_manifest.proofs.features.joined.Given as goal

abbrev pub invariant-loop-text : goal.invariant-loop-text
invariant-loop-text l = l.all.items ≡ take l.text-index l.some

abbrev pub invariant-loop-text-2 : goal.invariant-loop-text-2
invariant-loop-text-2 l = l.all.items ≡ l.some ++ take l.text-index l.more
