-- The modules so far stand where they do.
use Rattle.std.proofs.Common.{◌≡◌, ℕ, take}
use Rattle.indexmap.specs.IndexMap.{get}
use Rattle.abi_rust.specs.Scope.{same_key}
use Rattle.abi_rust.specs.Standing.{module_at}
use Rattle.abi_rust.proofs.standing.add_modules.Given as goal

abbrev pub invariant-loop-number : goal.invariant-loop-number
invariant-loop-number l = (k : ℕ × ℕ) → get same_key l.modules k ≡ module_at (take l.number l.all) k
