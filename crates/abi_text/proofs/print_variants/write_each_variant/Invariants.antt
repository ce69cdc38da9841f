-- The variants that are left go on from those that are written.
use Rattle.std.proofs.Common.{◌≡◌, ◌++◌, drop, string_bytes}
use Rattle.abi_text.specs.Printing.{lines_of_variants}
use Rattle.abi_tree.specs.Laid.{placed_of}
use Rattle.abi_text.proofs.print_variants.write_each_variant.Given as goal

abbrev pub invariant-loop-index : goal.invariant-loop-index
invariant-loop-index l =
    string_bytes l.out ++ lines_of_variants (placed_of l.laid) l.index (drop l.index l.variants) ≡ string_bytes l.initial.out ++ lines_of_variants (placed_of l.laid) 0 l.variants
