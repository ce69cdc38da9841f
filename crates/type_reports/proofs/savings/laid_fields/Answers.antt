use Rattle.std.proofs.lemmas.List.Elements.{All-push}
use Rattle.abi_scalar.specs.Lawful.{IsLawfulLayout}
use Rattle.abi_tree.specs.Laid.{placed_of}
use Rattle.abi_tree.specs.Placed.{layout_of}
use Rattle.type_reports.proofs.savings.laid_fields.Goals as goal

pub loop-tree-preserved : goal.loop-tree-preserved
loop-tree-preserved c =
    rw c.in_ok-push.ensures.items
    (All-push (λ laid. IsLawfulLayout c.args.cx.dl.now (layout_of (placed_of laid))) c.loop-tree.all.items c.in_ok-laid.laid c.loop-tree.invariant c.in_ok-laid.ensures.layout)
