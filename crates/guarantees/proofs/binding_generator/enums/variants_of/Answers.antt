-- One more variant without fields.
use Rattle.std.proofs.Common.{get_or, refl, ap, ◌∙◌}
use Rattle.abi_tree.specs.Tree.{trees_of_variants}
use Rattle.guarantees.proofs.Trees.{next_fieldless}
use Rattle.guarantees.proofs.binding_generator.enums.variants_of.Goals as goal

pub loop-number-preserved : goal.loop-number-preserved
loop-number-preserved c =
    ap trees_of_variants c.in_ok-push.ensures.items
    ∙ next_fieldless c.loop-number.all.items c.args.numbers.now c.loop-number.number-index (get_or c.args.numbers.now c.loop-number.number-index 0) 0 c.new.result
    c.loop-number-test.true refl c.new.ensures.items c.loop-number.invariant
