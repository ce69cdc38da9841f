-- The items so far stand where they do, and what is told first of all is told first of the rest.
use Rattle.std.proofs.Common.{◌≡◌, ℕ, [], drop, take}
use Rattle.indexmap.specs.IndexMap.{get}
use Rattle.abi_rust.specs.Scope.{same_key}
use Rattle.abi_rust.specs.Standing.{constant_at, constructor_at, first_repeated, type_at}
use Rattle.abi_rust.proofs.standing.add_items.Given as goal

abbrev pub invariant-loop-number : goal.invariant-loop-number
invariant-loop-number l = record {
  types : (k : ℕ × ℕ) → get same_key l.types k ≡ type_at (take l.number l.all) k;
  constructors : (k : ℕ × ℕ) → get same_key l.constructors k ≡ constructor_at (take l.number l.all) k;
  constants : (k : ℕ × ℕ) → get same_key l.constants k ≡ constant_at (take l.number l.all) k;
  once : first_repeated (get same_key l.modules) (take l.number l.all) (drop l.number l.all) ≡ first_repeated (get same_key l.modules) [] l.all;
}
