-- The names that are left go on from those that are written.
use Rattle.std.proofs.Common.{◌≡◌, ◌++◌, drop, string_bytes}
use Rattle.abi_map.specs.Map.{more_names}
use Rattle.abi_map.proofs.print.write_names.Given as goal

abbrev pub invariant-loop-name : goal.invariant-loop-name
invariant-loop-name g l =
    string_bytes l.out ++ more_names (g.C.Called.called l.called) (drop l.name-index l.rest) ≡ string_bytes l.initial.out ++ more_names (g.C.Called.called l.called) l.rest
