use Rattle.std.proofs.Common.{arith}
use Rattle.abi_univariant.proofs.Sorted.NamesEach.{is_source, too_short, other_at}
use Rattle.abi_univariant.proofs.in_order.is_source_order.Goals as goal

pub returns-then-numbers-count : goal.returns-then-numbers-count
returns-then-numbers-count c = too_short c.args.count c.args.numbers.now c.if-numbers-count.true

pub returns-then-numbers-at : goal.returns-then-numbers-at
returns-then-numbers-at c = other_at c.args.count c.loop-at.at c.args.numbers.now (omega arith) c.if-numbers-at.true

pub returns : goal.returns
returns c = is_source c.args.count c.args.numbers.now c.if-numbers-count.false (λ i lt. c.loop-at.invariant i (omega arith))
