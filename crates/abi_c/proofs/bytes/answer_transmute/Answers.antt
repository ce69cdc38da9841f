use Rattle.std.proofs.Common.{inl, inr, ⊎_elim}
use Rattle.std.proofs.lemmas.Result.{IfOk-weaker}
use Rattle.abi_c.specs.Flat.{IsLayoutReply, reply_of}
use Rattle.abi_c.specs.FlatBytes.{IsLaidAs}
use Rattle.abi_c.proofs.Replies.{reply_failure}
use Rattle.abi_c.proofs.bytes.answer_transmute.Goals as goal

pub returns-in-Ok : goal.returns-in-Ok
returns-in-Ok c =
    let laid = c.in-Ok.ensures.ok in
    let first : IsLaidAs c.args.string.now c.args.first.now c.in-Ok.a = record { dl = laid.0; tree = laid.1; type = laid.2; from = laid.3 } in
    IfOk-weaker c.answer_second.result _ _
    (λ a is. ⊎_elim (λ x. inl (c.in-Ok.a, x.0, first, x.1, x.2)) (λ x. inr (inr (c.in-Ok.a, first, x))) is)
    c.answer_second.ensures

pub returns-in-Err-Refused : goal.returns-in-Err-Refused
returns-in-Err-Refused c =
    IfOk-weaker c.one_number.result _ _
    (λ a is. inr (inl (reply_failure (IsLayoutReply c.args.string.now c.args.first.now) c.in-Err-Refused.field-0 c.in-Err-Refused.status c.in-Err-Refused.number (reply_of a) c.in-Err-Refused.field-0-is c.in-Err-Refused.ensures.err is)))
    c.one_number.ensures
