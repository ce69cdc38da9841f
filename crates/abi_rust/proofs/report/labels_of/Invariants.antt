use Rattle.std.proofs.Common.{◌≡◌, map, take}
use Rattle.abi_rust.specs.TypeReport.{label_of}
use Rattle.abi_rust.proofs.report.labels_of.Given as goal

-- so many have names
abbrev pub invariant-loop-field : goal.invariant-loop-field
invariant-loop-field l = l.labels.items ≡ map (label_of l.file) (take l.field-index l.fields)
