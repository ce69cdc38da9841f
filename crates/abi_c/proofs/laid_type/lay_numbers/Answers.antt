use Rattle.std.proofs.Common.{inl}
use Rattle.std.proofs.lemmas.Result.{IfErr-weaker, IfOk-weaker}
use Rattle.abi_tree.specs.Tree.{tree_of}
use Rattle.abi_c.specs.Flat.{IsLayingReply, IsReplyOf}
use Rattle.abi_c.proofs.Replies.{fails_weaker}
use Rattle.abi_c.proofs.laid_type.lay_numbers.Goals as goal

pub returns-in-Ok-clause-ok : goal.returns-in-Ok-clause-ok
returns-in-Ok-clause-ok c =
    IfOk-weaker c.lay_tree.result _ _
    (λ laid is. (tree_of c.in-Ok.tree, record { whole = c.in-Ok.ensures.ok; only = c.in-Ok.ensures.one }, is))
    c.lay_tree.ensures.ok

pub returns-in-Ok-clause-err : goal.returns-in-Ok-clause-err
returns-in-Ok-clause-err c =
    IfErr-weaker c.lay_tree.result _ _
    (λ f. fails_weaker (IsLayingReply c.args.dl.now (tree_of c.in-Ok.tree)) (IsReplyOf (IsLayingReply c.args.dl.now) c.args.tree.now)
    (λ reply is. inl (tree_of c.in-Ok.tree, record { whole = c.in-Ok.ensures.ok; only = c.in-Ok.ensures.one }, is)) f)
    c.lay_tree.ensures.err
