use Rattle.std.proofs.Common.{◌≡◌, rules, option_copied, true, false}
use Rattle.abi_text.specs.Repr.{has_kind, repr_part}
use Rattle.abi_text.proofs.Parts.{count_next, not_seen, seen_once, seen_twice}
use Rattle.abi_text.proofs.reader.repr_text.is_single.Goals as goal

pub returns-then-seen : goal.returns-then-seen
returns-then-seen c =
    let part : has_kind c.args.kind (repr_part c.split_at_byte.result.0.now) ≡ true = search rules in
    let here = rw (c.in-Some.is, c.if-seen.true) at c.loop-rest.invariant in
    let next = count_next c.args.kind c.in-Some.text.now c.split_at_byte.result.0.now (option_copied c.split_at_byte.result.1) true c.split_at_byte.ensures.front c.split_at_byte.ensures.back part in
    seen_twice _ _ (rw next at here)

pub loop-rest-preserved-else-seen : goal.loop-rest-preserved-else-seen
loop-rest-preserved-else-seen c =
    let part : has_kind c.args.kind (repr_part c.split_at_byte.result.0.now) ≡ true = search rules in
    let here = rw (c.in-Some.is, c.if-seen.false) at c.loop-rest.invariant in
    let next = count_next c.args.kind c.in-Some.text.now c.split_at_byte.result.0.now (option_copied c.split_at_byte.result.1) true c.split_at_byte.ensures.front c.split_at_byte.ensures.back part in
    seen_once _ _ (rw next at here)

pub loop-rest-preserved : goal.loop-rest-preserved
loop-rest-preserved c =
    let part : has_kind c.args.kind (repr_part c.split_at_byte.result.0.now) ≡ false = search rules in
    let here = rw c.in-Some.is at c.loop-rest.invariant in
    let next = count_next c.args.kind c.in-Some.text.now c.split_at_byte.result.0.now (option_copied c.split_at_byte.result.1) false c.split_at_byte.ensures.front c.split_at_byte.ensures.back part in
    not_seen _ _ _ (rw next at here)
