use Rattle.std.proofs.Common.{◌≡◌, ◌∙◌, rules, sym, option_copied, true, false}
use Rattle.std.specs.Prelude.{is_some}
use Rattle.abi_text.specs.Repr.{repr_part}
use Rattle.abi_text.proofs.Parts.{known_next}
use Rattle.abi_text.proofs.reader.repr_text.are_known.Goals as goal

pub returns-then-is_none : goal.returns-then-is_none
returns-then-is_none c =
    let part : is_some (repr_part c.split_at_byte.result.0.now) ≡ false = search rules in
    let here = rw c.in-Some.is at c.loop-rest.invariant in
    sym (known_next c.in-Some.text.now c.split_at_byte.result.0.now (option_copied c.split_at_byte.result.1) false c.split_at_byte.ensures.front c.split_at_byte.ensures.back part) ∙ here

pub loop-rest-preserved : goal.loop-rest-preserved
loop-rest-preserved c =
    let part : is_some (repr_part c.split_at_byte.result.0.now) ≡ true = search rules in
    let here = rw c.in-Some.is at c.loop-rest.invariant in
    sym (known_next c.in-Some.text.now c.split_at_byte.result.0.now (option_copied c.split_at_byte.result.1) true c.split_at_byte.ensures.front c.split_at_byte.ensures.back part) ∙ here
