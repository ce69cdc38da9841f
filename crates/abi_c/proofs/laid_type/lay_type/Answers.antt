use Rattle.std.proofs.Common.{◌∙◌, ap, arith, refl, sym}
use Rattle.std.proofs.lemmas.Result.{IfErr-weaker, IfOk-weaker}
use Rattle.std.proofs.lemmas.Str.{is_utf8-from_IsUtf8}
use Rattle.abi_text.proofs.Utf8.{no_utf8}
use Rattle.abi_text.specs.DataLayoutLine.{data_layout_of}
use Rattle.abi_c.specs.Flat.{IsLayingReply, IsReplyOf}
use Rattle.abi_c.proofs.Replies.{fails_weaker, under_none, under_text}
use Rattle.abi_c.proofs.laid_type.lay_type.Goals as goal

pub returns-in-Ok-clause-ok : goal.returns-in-Ok-clause-ok
returns-in-Ok-clause-ok c =
    IfOk-weaker c.lay_under.result _ _
    (λ laid is. (
      is.0,
      is.1,
      record { text = is_utf8-from_IsUtf8 c.args.string.now c.in-Ok.ensures.cases.1; said = ap data_layout_of (sym c.in-Ok.ensures.cases.0) ∙ is.2; whose = is.3; laying = is.4.laying },
      is.4,
    ))
    c.lay_under.ensures.ok

pub returns-in-Ok-clause-err : goal.returns-in-Ok-clause-err
returns-in-Ok-clause-err c =
    IfErr-weaker c.lay_under.result _ _
    (λ f. fails_weaker _ _
    (λ reply is. under_text (λ dl. IsReplyOf (IsLayingReply dl) c.args.tree.now) c.args.string.now c.in-Ok.text.now reply (is_utf8-from_IsUtf8 c.args.string.now c.in-Ok.ensures.cases.1) c.in-Ok.ensures.cases.0 is) f)
    c.lay_under.ensures.err

pub returns-in-Err-clause-err : goal.returns-in-Err-clause-err
returns-in-Err-clause-err c =
    (under_none (λ dl. IsReplyOf (IsLayingReply dl) c.args.tree.now) c.args.string.now _ (sym (no_utf8 c.args.string.now c.in-Err.ensures.cases.0)) refl, omega arith)
