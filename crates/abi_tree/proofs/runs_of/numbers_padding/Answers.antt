use Rattle.std.proofs.Common.{◌≡◌, ◌<◌, None, Some, false, get_or, length, refl, replicate, sym, ◌∙◌}
use Rattle.std.proofs.lemmas.Bool.{ltb-true}
use Rattle.std.proofs.lemmas.List.{get_or_default}
use Rattle.abi_tree.proofs.Places.MarkedLemmas.{none_marked, padding_left}
use Rattle.abi_tree.proofs.runs_of.numbers_padding.Goals as goal

pub returns-in_ok-set : goal.returns-in_ok-set
returns-in_ok-set c = λ ns needed k.
    let lookup = c.in-Some-Some.ensures.lookup in
    let lt : c.args.place < length c.args.kept.now = ltb-true c.args.place (length c.args.kept.now) (sym lookup.0) in
    let here : get_or c.args.kept.now c.args.place None ≡ Some c.in-Some-Some.node =
    get_or_default c.args.kept.now c.args.place None c.in-Some-Some.field-0.now lt ∙ sym lookup.1 ∙ c.in-Some-Some.field-0-is in
    padding_left ns c.args.kept.now needed c.args.place c.in-Some-Some.node lt here c.in-Fields.field-0 c.in-Fields.children c.offsets.result.now c.deref.result.now (replicate 64 false)
    c.mark_numbers.new.marks c.bytes-size.result c.in_ok-set.set c.in-Fields.is c.offsets.ensures c.deref.ensures.value c.bytes-size.ensures (none_marked 64)
    (c.if-mark_numbers.ensures refl ns needed) c.in_ok-set.ensures k
