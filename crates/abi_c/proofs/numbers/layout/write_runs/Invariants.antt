use Rattle.std.proofs.Common.{◌≡◌, ◌++◌, take}
use Rattle.abi_c.specs.Numbers.FlatTree.{flat_pairs}
use Rattle.abi_c.proofs.numbers.layout.write_runs.Given as goal

abbrev pub invariant-loop-run : goal.invariant-loop-run
invariant-loop-run l = l.out.items ≡ l.initial.out.items ++ flat_pairs (take l.run-index l.runs)
