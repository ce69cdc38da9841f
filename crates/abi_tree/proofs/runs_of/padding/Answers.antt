use Rattle.std.proofs.Common.{subst, sym}
use Rattle.abi_tree.specs.Needed.{AreNeeded}
use Rattle.abi_tree.proofs.runs_of.padding.Goals as goal

pub returns-clause-ranges : goal.returns-clause-ranges
returns-clause-ranges c = c.in_ok-set.ensures c.args.nodes.nodes.now (subst (AreNeeded c.args.nodes.nodes.now) (sym c.deref.ensures.value) c.in_ok-kept.ensures.needed)
