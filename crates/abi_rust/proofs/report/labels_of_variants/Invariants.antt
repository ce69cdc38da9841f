use Rattle.std.proofs.Common.{◌≡◌, map, take}
use Rattle.abi_rust.specs.TypeReport.{variant_label, variant_called}
use Rattle.abi_rust.proofs.report.labels_of_variants.Given as goal

-- so many have names
abbrev pub invariant-loop-variant : goal.invariant-loop-variant
invariant-loop-variant l = map variant_called l.labels.items ≡ map (variant_label l.file) (take l.variant-index l.all)
