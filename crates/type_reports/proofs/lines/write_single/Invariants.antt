-- The variants that are left go on from those that are written.
use Rattle.std.proofs.Common.{◌≡◌, ◌++◌, drop, string_bytes}
use Rattle.type_reports.specs.Lines.{single_lines}
use Rattle.type_reports.proofs.lines.write_single.Given as goal

abbrev pub invariant-loop-index : goal.invariant-loop-index
invariant-loop-index l =
    string_bytes l.out ++ single_lines l.names l.single l.index (drop l.index l.labels) l.offsets
    ≡ string_bytes l.initial.out ++ single_lines l.names l.single 0 l.labels l.offsets
