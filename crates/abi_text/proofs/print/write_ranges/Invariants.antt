-- The runs that are left go on from those that are written.
use Rattle.std.proofs.Common.{◌≡◌, ◌++◌, drop, string_bytes}
use Rattle.abi_text.specs.Printing.{range_lines}
use Rattle.abi_text.proofs.print.write_ranges.Given as goal

abbrev pub invariant-loop-run : goal.invariant-loop-run
invariant-loop-run l = string_bytes l.out ++ range_lines l.word (drop l.run-index l.runs) ≡ string_bytes l.initial.out ++ range_lines l.word l.runs
