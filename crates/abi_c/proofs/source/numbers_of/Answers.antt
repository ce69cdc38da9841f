use Rattle.std.proofs.Common.{ap, arith, map, refl}
use Rattle.std.proofs.lemmas.Result.{IfOk-weaker}
use Rattle.abi_tree.specs.Tree.{no_trees, tree_of, trees}
use Rattle.abi_c.specs.Flat.{Reply}
use Rattle.abi_c.proofs.source.numbers_of.Goals as goal

pub returns-in-Ok : goal.returns-in-Ok
returns-in-Ok c = (trees (map tree_of c.args.trees.now), c.in-Ok.ensures, c.requires)

pub returns-in-Err-Unreadable : goal.returns-in-Err-Unreadable
returns-in-Err-Unreadable c =
    IfOk-weaker c.one_number.result _ _ (λ a same. (no_trees, ap (λ (r : Reply). r.numbers) same, omega (arith, ap (λ (r : Reply). r.status) same))) c.one_number.ensures
