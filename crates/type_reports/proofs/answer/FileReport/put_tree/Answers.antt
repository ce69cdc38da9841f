use Rattle.abi_tree.specs.Tree.{tree_of}
use Rattle.type_reports.proofs.answer.FileReport.put_tree.Goals as goal

pub put_laid-requires : goal.put_laid-requires
put_laid-requires c = record {
  target = c.in_ok-laid.ensures.lawful;
  laying = (tree_of c.args.ty.report.now.tree, c.in_ok-laid.ensures.laid);
  lawful = c.in_ok-laid.ensures.layout;
}
