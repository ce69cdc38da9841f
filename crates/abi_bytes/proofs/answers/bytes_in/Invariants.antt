use Rattle.std.proofs.Common.{◌≡◌, map, take}
use Rattle.abi_bytes.specs.Answers.{byte_in}
use Rattle.abi_bytes.proofs.answers.bytes_in.Given as goal

abbrev pub invariant-loop-i : goal.invariant-loop-i
invariant-loop-i l = l.bytes.items ≡ map byte_in (take l.i l.cells.items)
