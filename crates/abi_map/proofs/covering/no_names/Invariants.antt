use Rattle.std.proofs.Common.{◌≡◌, ℕ, [], length}
use Rattle.abi_map.specs.Covering.{names_of}
use Rattle.abi_map.proofs.covering.no_names.Given as goal

abbrev pub invariant-loop : goal.invariant-loop
invariant-loop l = record {
  long : length l.names.items ≡ l.counter;
  none : (s : ℕ) → names_of l.names.items s ≡ [];
}
