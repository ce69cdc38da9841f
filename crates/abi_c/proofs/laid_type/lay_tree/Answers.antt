use Rattle.std.proofs.Common.{arith}
use Rattle.abi_tree.specs.Tree.{tree_of}
use Rattle.abi_c.proofs.Replies.{fails_refused}
use Rattle.abi_c.proofs.laid_type.lay_tree.Goals as goal

pub returns-in-Ok-clause-ok : goal.returns-in-Ok-clause-ok
returns-in-Ok-clause-ok c = record { laying = c.in-Ok.ensures.laid; aligned = omega (arith, c.in-Ok.ensures.layout.limit); order = c.in-Ok.ensures.order; keeps = c.in-Ok.ensures.of_tree.values }

pub returns-in-Err-clause-err : goal.returns-in-Err-clause-err
returns-in-Err-clause-err c = fails_refused c.args.dl.now (tree_of c.args.tree.now) c.in-Err.error c.refusal_of.result c.in-Err.ensures.refused c.refusal_of.ensures
