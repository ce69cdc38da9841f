-- The runs that are left go on from those that are written.
use Rattle.std.proofs.Common.{◌≡◌, ◌++◌, List, drop, string_bytes}
use Rattle.abi_map.specs.Covering.{HaveNames}
use Rattle.abi_map.specs.Map.{run_lines}
use Rattle.abi_tree.specs.Parts.{Part}
use Rattle.abi_map.proofs.print.write_runs.Given as goal

abbrev pub invariant-loop-s : goal.invariant-loop-s
invariant-loop-s g l =
    (parts : List Part) → HaveNames parts l.starts l.names
    → string_bytes l.out ++ run_lines (g.C.Called.called l.called) parts l.size (drop l.s l.starts) ≡ string_bytes l.initial.out ++ run_lines (g.C.Called.called l.called) parts l.size l.starts
