use Rattle.std.proofs.Common.{◌≡◌, ◌++◌, take}
use Rattle.abi_c.proofs.numbers.layout.write_offsets.Given as goal

abbrev pub invariant-loop-offset : goal.invariant-loop-offset
invariant-loop-offset l = l.out.items ≡ l.initial.out.items ++ take l.offset-index l.offsets
