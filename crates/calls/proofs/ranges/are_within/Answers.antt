use Rattle.std.proofs.Common.{◌<◌, IsTrue, get_or, rules, take}
use Rattle.std.proofs.lemmas.List.{take_all, take_more}
use Rattle.std.proofs.lemmas.List.Elements.{All-push}
use Rattle.abi_scalar.specs.Range.{numbers_of}
use Rattle.calls.proofs.ranges.are_within.Goals as goal

pub loop-number-preserved : goal.loop-number-preserved
loop-number-preserved c =
    let yes : IsTrue c.is_within.result = search rules in
    rw (take_more c.args.numbers.now c.loop-number.number-index 0 c.loop-number-test.true)
    (All-push (λ v. v < numbers_of c.args.size) (take c.loop-number.number-index c.args.numbers.now) (get_or c.args.numbers.now c.loop-number.number-index 0) c.loop-number.invariant
    (c.is_within.ensures yes))

pub returns : goal.returns
returns c _ = rw (take_all c.loop-number.number-index c.args.numbers.now c.loop-number-test.false) at c.loop-number.invariant
