use Rattle.std.proofs.lemmas.Result.{IfOk-weaker}
use Rattle.abi_tree.specs.Laid.{placed_of}
use Rattle.abi_c.specs.Flat.{IsLayoutReply, reply_of}
use Rattle.abi_c.proofs.Replies.{laid_reply, reply_failure}
use Rattle.abi_c.proofs.flat.answer_numbers.Goals as goal

pub laid_numbers-requires : goal.laid_numbers-requires
laid_numbers-requires c = let laid = c.in-Ok.ensures.ok in laid.3.aligned

pub returns-in-Ok : goal.returns-in-Ok
returns-in-Ok c =
    let laid = c.in-Ok.ensures.ok in
    IfOk-weaker c.laid_numbers.result _ _
    (λ a is. laid_reply c.args.string.now c.args.tree.now laid.0 laid.1 (placed_of c.in-Ok.laid) (reply_of a) laid.2 is)
    c.laid_numbers.ensures

pub returns-in-Err-Refused : goal.returns-in-Err-Refused
returns-in-Err-Refused c =
    IfOk-weaker c.one_number.result _ _
    (λ a is. (reply_failure (IsLayoutReply c.args.string.now c.args.tree.now) c.in-Err-Refused.field-0 c.in-Err-Refused.status c.in-Err-Refused.number (reply_of a) c.in-Err-Refused.field-0-is c.in-Err-Refused.ensures.err is).0)
    c.one_number.ensures
