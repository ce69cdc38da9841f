use Rattle.std.proofs.Common.{◌≡◌, ◌++◌, take}
use Rattle.abi_c.proofs.numbers.layout.write_order.Given as goal

abbrev pub invariant-loop-field : goal.invariant-loop-field
invariant-loop-field l = l.out.items ≡ l.initial.out.items ++ take l.field-index l.order
