-- The layouts of the types that are left go on from those that are listed.
use Rattle.std.proofs.Common.{◌≡◌, ◌++◌, drop, map}
use Rattle.abi_tree.specs.Laid.{placed_of}
use Rattle.abi_tree.specs.Placed.{layout_of}
use Rattle.type_reports.proofs.savings.layouts_of.Given as goal

abbrev pub invariant-loop-laid : goal.invariant-loop-laid
invariant-loop-laid l =
    map (λ layout. layout.now) l.all.items ++ map (λ laid. layout_of (placed_of laid)) (drop l.laid-index l.types)
    ≡ map (λ laid. layout_of (placed_of laid)) l.types
