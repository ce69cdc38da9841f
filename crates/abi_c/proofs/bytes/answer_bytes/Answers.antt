use Rattle.std.proofs.Common.{inl, inr}
use Rattle.std.proofs.lemmas.Result.{IfOk-weaker}
use Rattle.abi_tree.specs.Laid.{placed_of}
use Rattle.abi_c.specs.Flat.{IsLayoutReply, reply_of}
use Rattle.abi_c.proofs.Replies.{reply_failure}
use Rattle.abi_c.proofs.bytes.answer_bytes.Goals as goal

pub returns-in-Ok : goal.returns-in-Ok
returns-in-Ok c =
    let laid = c.in-Ok.ensures.ok in
    IfOk-weaker c.numbers_of_laid.result _ _
    (λ a is. inl (laid.0, laid.1, placed_of c.in-Ok.laid, laid.2, is laid.0 laid.1 laid.3))
    c.numbers_of_laid.ensures

pub returns-in-Err-Refused : goal.returns-in-Err-Refused
returns-in-Err-Refused c =
    IfOk-weaker c.one_number.result _ _
    (λ a is. inr (reply_failure (IsLayoutReply c.args.string.now c.args.tree.now) c.in-Err-Refused.field-0 c.in-Err-Refused.status c.in-Err-Refused.number (reply_of a) c.in-Err-Refused.field-0-is c.in-Err-Refused.ensures.err is))
    c.one_number.ensures
