use Rattle.std.proofs.Common.{◌≡◌, ◌++◌, take}
use Rattle.abi_c.proofs.numbers.write_value.write_bytes.Given as goal

abbrev pub invariant-loop-byte : goal.invariant-loop-byte
invariant-loop-byte l = l.out.items ≡ l.initial.out.items ++ take l.byte-index l.bytes
