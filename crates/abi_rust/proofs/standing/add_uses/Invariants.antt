-- The uses so far bring in what they do.
use Rattle.std.proofs.Common.{◌≡◌, ℕ, take}
use Rattle.indexmap.specs.IndexMap.{get}
use Rattle.abi_rust.specs.Scope.{same_key}
use Rattle.abi_rust.specs.Standing.{use_at}
use Rattle.abi_rust.proofs.standing.add_uses.Given as goal

abbrev pub invariant-loop-number : goal.invariant-loop-number
invariant-loop-number l = (k : ℕ × ℕ) → get same_key l.uses k ≡ use_at (take l.number l.all) k
