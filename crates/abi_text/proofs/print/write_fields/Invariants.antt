-- The fields that are left go on from those that are written.
use Rattle.std.proofs.Common.{◌≡◌, ◌++◌, drop, string_bytes}
use Rattle.abi_text.specs.Printing.{field_lines}
use Rattle.abi_text.proofs.print.write_fields.Given as goal

abbrev pub invariant-loop-index : goal.invariant-loop-index
invariant-loop-index l = string_bytes l.out ++ field_lines l.index (drop l.index l.offsets) ≡ string_bytes l.initial.out ++ field_lines 0 l.offsets
