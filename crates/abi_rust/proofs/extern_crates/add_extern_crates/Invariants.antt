-- The names so far are kept.
use Rattle.std.proofs.Common.{◌≡◌, ℕ, take}
use Rattle.indexmap.specs.IndexMap.{get}
use Rattle.abi_rust.specs.ExternCrates.{crate_at}
use Rattle.abi_rust.specs.Scope.{same_key}
use Rattle.abi_rust.proofs.extern_crates.add_extern_crates.Given as goal

abbrev pub invariant-loop-named : goal.invariant-loop-named
invariant-loop-named l = (k : ℕ × ℕ) → get same_key l.crates k ≡ crate_at (take l.named-index l.all) k
