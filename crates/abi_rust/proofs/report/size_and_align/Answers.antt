-- What is refused has no size.
use Rattle.abi_tree.specs.Tree.{tree_of}
use Rattle.abi_rust.proofs.Measures.{refused_is}
use Rattle.abi_rust.proofs.report.size_and_align.Goals as goal

pub returns-in-Err : goal.returns-in-Err
returns-in-Err c = λ m is. refused_is c.args.cx.now.dl.now m is (tree_of c.args.tree.now) c.in-Err.error c.in-Err.ensures.refused
