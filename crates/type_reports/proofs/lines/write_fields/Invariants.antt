-- The fields that are left go on from those that are written.
use Rattle.std.proofs.Common.{◌≡◌, ◌++◌, drop, string_bytes}
use Rattle.type_reports.specs.Lines.{labelled_fields}
use Rattle.type_reports.proofs.lines.write_fields.Given as goal

abbrev pub invariant-loop-index : goal.invariant-loop-index
invariant-loop-index l =
    string_bytes l.out ++ labelled_fields l.names l.index (drop l.index l.labels) l.offsets ≡ string_bytes l.initial.out ++ labelled_fields l.names 0 l.labels l.offsets
