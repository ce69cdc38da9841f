use Rattle.std.proofs.Common.{◌≡◌, ◌++◌, take}
use Rattle.abi_c.specs.Numbers.FlatLayout.{flat_each_variant_layout}
use Rattle.abi_c.proofs.numbers.layout.write_each_variant.Given as goal

abbrev pub invariant-loop-variant : goal.invariant-loop-variant
invariant-loop-variant l = l.out.items ≡ l.initial.out.items ++ flat_each_variant_layout (take l.variant-index l.variants)
