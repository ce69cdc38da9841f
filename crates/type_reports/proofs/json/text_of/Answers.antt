use Rattle.std.specs.Prelude.{string_bytes}
use Rattle.serde_json.specs.View.{view}
use Rattle.type_reports.proofs.json.text_of.Goals as goal

pub returns : goal.returns
returns c = (string_bytes c.in_ok-text.text, view c.args.document.now, c.in_ok-push_str.ensures.bytes, c.in_ok-text.ensures.order)
