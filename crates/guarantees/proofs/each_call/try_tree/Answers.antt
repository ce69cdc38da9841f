-- What was laid out keeps the tree.
use Rattle.abi_tree.specs.Tree.{tree_of}
use Rattle.guarantees.proofs.each_call.try_tree.Goals as goal

pub try_laid-requires : goal.try_laid-requires
try_laid-requires c = record {
  laid = record { dl = c.args.dl.now; tree = tree_of c.args.tree.now; locals = c.requires.locals; keeps = c.in_ok-laid.ensures.of_tree };
}
