use Rattle.std.proofs.lemmas.Result.{IfErr-weaker, IfOk-weaker}
use Rattle.abi_text.specs.DataLayoutLine.{data_layout_of}
use Rattle.abi_c.specs.Flat.{IsLayingReply, IsReplyOf}
use Rattle.abi_c.proofs.Replies.{fails_flawed, fails_weaker, said_reply}
use Rattle.abi_c.proofs.laid_type.lay_under.Goals as goal

pub returns-in-Ok-clause-ok : goal.returns-in-Ok-clause-ok
returns-in-Ok-clause-ok c =
    IfOk-weaker c.lay_numbers.result _ _ (λ laid is. (c.in-Ok.dl, is.0, c.in-Ok.ensures.ok, is.1, is.2)) c.lay_numbers.ensures.ok

pub returns-in-Ok-clause-err : goal.returns-in-Ok-clause-err
returns-in-Ok-clause-err c =
    IfErr-weaker c.lay_numbers.result _ _
    (λ f. fails_weaker _ _ (λ reply is. said_reply (λ dl. IsReplyOf (IsLayingReply dl) c.args.tree.now) (data_layout_of c.args.string.now) c.in-Ok.dl reply c.in-Ok.ensures.ok is) f)
    c.lay_numbers.ensures.err

pub returns-in-Err-clause-err : goal.returns-in-Err-clause-err
returns-in-Err-clause-err c =
    fails_flawed (λ dl. IsReplyOf (IsLayingReply dl) c.args.tree.now) (data_layout_of c.args.string.now) c.in-Err.error c.flaw_of.result c.in-Err.ensures.err c.flaw_of.ensures
