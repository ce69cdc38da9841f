use Rattle.std.proofs.Common.{◌≡◌, ◌<◌, None, Some, get_or, length, sym, ◌∙◌}
use Rattle.std.proofs.lemmas.Bool.{ltb-true}
use Rattle.std.proofs.lemmas.List.{get_or_default}
use Rattle.abi_tree.proofs.Places.MarkedLemmas.{number_places}
use Rattle.abi_tree.proofs.runs_of.number_size.Goals as goal

pub returns-in-Scalar : goal.returns-in-Scalar
returns-in-Scalar c = λ ns needed k.
    let lookup = c.in_ok-get.ensures.lookup in
    let lt : c.args.place < length c.args.kept.now = ltb-true c.args.place (length c.args.kept.now) (sym lookup.0) in
    let here : get_or c.args.kept.now c.args.place None ≡ Some c.in_ok-node.node =
    get_or_default c.args.kept.now c.args.place None c.in_ok-get.field-0.now lt ∙ sym lookup.1 ∙ c.in_ok-node.was in
    number_places ns c.args.kept.now needed c.args.place c.in_ok-node.node lt here c.in-Scalar.field-0 c.bytes.result c.in-Scalar.is c.bytes.ensures k
