use Rattle.std.proofs.Common.{◌≡◌, []}
use Rattle.std.specs.Prelude.{replicate}
use Rattle.abi_rust.specs.Globs.{lists_of}
use Rattle.abi_rust.proofs.scope.empty_lists.Given as goal

abbrev pub invariant-loop-module : goal.invariant-loop-module
invariant-loop-module g l = lists_of l.all.items ≡ replicate l._module []
