-- Those that are laid out have lawful layouts.
use Rattle.std.specs.Prelude.{All}
use Rattle.abi_scalar.specs.Lawful.{IsLawfulLayout}
use Rattle.abi_tree.specs.Laid.{placed_of}
use Rattle.abi_tree.specs.Placed.{layout_of}
use Rattle.type_reports.proofs.savings.laid_fields.Given as goal

abbrev pub invariant-loop-tree : goal.invariant-loop-tree
invariant-loop-tree l = All (λ laid. IsLawfulLayout l.fn.cx.dl.now (layout_of (placed_of laid))) l.all.items
