use Rattle.std.proofs.Common.{inl, inr}
use Rattle.std.proofs.lemmas.Result.{IfOk-weaker}
use Rattle.abi_c.specs.Flat.{IsLayoutReply, reply_of}
use Rattle.abi_c.proofs.Replies.{reply_failure}
use Rattle.abi_c.proofs.bytes.answer_second.Goals as goal

pub returns-in-Ok : goal.returns-in-Ok
returns-in-Ok c =
    let laid = c.in-Ok.ensures.ok in
    IfOk-weaker c.numbers_of_two.result _ _
    (λ a is. inl (c.in-Ok.b, record { dl = laid.0; tree = laid.1; type = laid.2; from = laid.3 }, is))
    c.numbers_of_two.ensures

pub returns-in-Err-Refused : goal.returns-in-Err-Refused
returns-in-Err-Refused c =
    IfOk-weaker c.one_number.result _ _
    (λ a is. inr (reply_failure (IsLayoutReply c.args.string.now c.args.second.now) c.in-Err-Refused.field-0 c.in-Err-Refused.status c.in-Err-Refused.number (reply_of a) c.in-Err-Refused.field-0-is c.in-Err-Refused.ensures.err is))
    c.one_number.ensures
