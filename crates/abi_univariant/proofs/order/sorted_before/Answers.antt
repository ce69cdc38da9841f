-- The sorted front, and the tail where one is left.
use Rattle.std.proofs.Common.{arith, rules, length, ◌≡◌, ◌<◌, ◌≤◌, ap, append-nil, map, subst, sym}
use Rattle.std.proofs.lemmas.List.{length-map}
use Rattle.abi_univariant.specs.Order.{IsSortedBefore, movable_front, sort_key}
use Rattle.abi_univariant.specs.LawfulPart.{IsAlignedPart}
use Rattle.abi_univariant.specs.Placement.{source_order}
use Rattle.abi_univariant.proofs.Sorted.Orders.{order_length}
use Rattle.abi_univariant.proofs.Sorted.Sorting.{few_named, items_have, movable_all, tail_of_all, tail_of_front}
use Rattle.abi_univariant.proofs.order.sorted_before.Goals as goal
use Rattle.abi_univariant.proofs.order.sorted_before.Goals.{then-len+in_ok-push, else-len}

pub returns : goal.returns
returns g c = (
  c.in_ok-order.order,
  rw (← c.movable_front-movable_front.ensures, ← c.new-rule.ensures) c.in_ok-order.ensures,
  elim c.if-len.branch [
    | then-len+in_ok-push w ↦
        let shorter : length (movable_front c.args.repr.now.kind c.args.parts.now) < length c.args.parts.now = omega (arith, w.if-len.true, c.len-3.ensures, c.len-4.ensures, ap length c.movable_front-movable_front.ensures) in
        rw (← tail_of_front c.args.repr.now.kind c.args.parts.now shorter, ← c.movable_front-movable_front.ensures) (search (rules, w.in_ok-push.ensures))
    | else-len w ↦
        let whole : length c.args.parts.now ≤ length (movable_front c.args.repr.now.kind c.args.parts.now) = omega (arith, w.if-len.false, c.len-3.ensures, c.len-4.ensures, ap length c.movable_front-movable_front.ensures) in
        rw (← tail_of_all c.args.repr.now.kind c.args.parts.now c.requires.kind whole, append-nil) (search rules)
  ],
)

pub new-rule-requires : goal.new-rule-requires
new-rule-requires g c = rw c.movable_front-movable_front.ensures (movable_all IsAlignedPart c.args.repr.now.kind c.args.parts.now c.requires.lawful)

pub sorted_order-requires-clause-lawful : goal.sorted_order-requires-clause-lawful
sorted_order-requires-clause-lawful g c = rw c.movable_front-movable_front.ensures (movable_all IsAlignedPart c.args.repr.now.kind c.args.parts.now c.requires.lawful)

pub returns-then-len-lt2 : goal.returns-then-len-lt2
returns-then-len-lt2 g c =
    let few : length (movable_front c.args.repr.now.kind c.args.parts.now) < 2 = omega (arith, c.if-len-lt2.true, c.len.ensures, ap length c.movable_front-movable_front.ensures) in
    items_have (λ order. order) (IsSortedBefore c.args.repr.now c.args.bias c.args.parts.now) (source_order c.len-then-len-lt2-2.result) c.in_source_order.result (search rules)
    (subst (λ n. IsSortedBefore c.args.repr.now c.args.bias c.args.parts.now (source_order n)) (sym c.len-then-len-lt2-2.ensures) (few_named c.args.repr.now c.args.bias c.args.parts.now c.requires.kind few))

pub push-requires-clause-few : goal.push-requires-clause-few
push-requires-clause-few g c =
    let keys = map (sort_key c.new-rule.result) c.movable_front-movable_front.result in
    let own : length c.in_ok-order.order ≡ length keys = order_length (length keys) c.in_ok-order.order c.in_ok-order.ensures.permutes in
    omega (arith, own, length-map c.movable_front-movable_front.result (sort_key c.new-rule.result), c.if-len.true, c.len-3.ensures, c.len-4.ensures, c.requires.count)
