-- The variants that are left go on from those that are written.
use Rattle.std.proofs.Common.{◌≡◌, ◌++◌, drop, string_bytes}
use Rattle.abi_tree.specs.Laid.{placed_of}
use Rattle.type_reports.specs.Lines.{several_lines}
use Rattle.type_reports.proofs.lines.write_several.Given as goal

abbrev pub invariant-loop-index : goal.invariant-loop-index
invariant-loop-index l =
    string_bytes l.out ++ several_lines l.fn.all.names.now l.fn.all.labels.now (placed_of l.laid) l.index (drop l.index l.layouts)
    ≡ string_bytes l.initial.out ++ several_lines l.fn.all.names.now l.fn.all.labels.now (placed_of l.laid) 0 l.layouts
