use Rattle.std.proofs.Common.{sym}
use Rattle.std.proofs.lemmas.Str.{is_utf8-from_IsUtf8}
use Rattle.abi_text.proofs.Utf8.{no_utf8}
use Rattle.abi_text.proofs.answers.text_of.Goals as goal

pub returns-in-Ok : goal.returns-in-Ok
returns-in-Ok c = (is_utf8-from_IsUtf8 c.args.line.now c.in-Ok.ensures.cases.1, c.in-Ok.ensures.cases.0)

pub returns-in-Err : goal.returns-in-Err
returns-in-Err c = sym (no_utf8 c.args.line.now c.in-Err.ensures.cases.0)
