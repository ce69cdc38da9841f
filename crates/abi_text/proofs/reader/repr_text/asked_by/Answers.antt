use Rattle.std.proofs.Common.{◌≡◌, ◌∙◌, rules, sym, option_copied, Some, None}
use Rattle.abi_text.specs.Repr.{repr_part}
use Rattle.abi_text.proofs.Parts.{asked_next}
use Rattle.abi_text.proofs.reader.repr_text.asked_by.Goals as goal

pub loop-rest-preserved-in-Some-part_of : goal.loop-rest-preserved-in-Some-part_of
loop-rest-preserved-in-Some-part_of c =
    let word : repr_part c.split_at_byte.result.0.now ≡ Some c.in-Some-part_of.part = search rules in
    let here = rw c.in-Some.is at c.loop-rest.invariant in
    let next = asked_next c.loop-rest.asked c.in-Some.text.now c.split_at_byte.result.0.now (option_copied c.split_at_byte.result.1) c.split_at_byte.ensures.front c.split_at_byte.ensures.back in
    let more = rw word at next in
    rw c.with_part-asked.ensures (sym more ∙ here)

pub loop-rest-preserved : goal.loop-rest-preserved
loop-rest-preserved c =
    let word : repr_part c.split_at_byte.result.0.now ≡ None = search rules in
    let here = rw c.in-Some.is at c.loop-rest.invariant in
    let next = asked_next c.loop-rest.asked c.in-Some.text.now c.split_at_byte.result.0.now (option_copied c.split_at_byte.result.1) c.split_at_byte.ensures.front c.split_at_byte.ensures.back in
    let more = rw word at next in
    sym more ∙ here
