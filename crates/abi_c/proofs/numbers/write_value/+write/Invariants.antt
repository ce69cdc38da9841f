use Rattle.std.proofs.Common.{◌≡◌, ◌++◌, take}
use Rattle.abi_tree.specs.Value.{values_of}
use Rattle.abi_c.specs.Numbers.FlatValue.{flat_values}
use Rattle.abi_c.proofs.numbers.write_value.+write.Given as goal

abbrev pub invariant-write_each-loop-value : goal.invariant-write_each-loop-value
invariant-write_each-loop-value l = l.out.items ≡ l.initial.out.items ++ flat_values (values_of (take l.value-index l.values))
