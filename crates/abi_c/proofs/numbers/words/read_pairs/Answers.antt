use Rattle.std.proofs.Common.{drop}
use Rattle.abi_c.specs.Numbers.Pieces.{front_two, front_word}
use Rattle.abi_c.proofs.NumberLemmas.Many.{passed, so_far-more, so_far-none}
use Rattle.abi_c.proofs.numbers.words.read_pairs.Goals as goal

pub returns-in_err-pair-clause-err : goal.returns-in_err-pair-clause-err
returns-in_err-pair-clause-err c =
    passed _ _ _ c.from_residual-in_err-pair.ensures.1
    (so_far-none (front_two front_word front_word) c.in_ok-count.count c.loop.counter (drop c.args.at.now c.args.numbers.now) _ (drop c.loop.at c.args.numbers.now) _ _ c.in_ok-count.ensures.ok c.loop.invariant c.loop-test.true c.in_err-pair.ensures.err)

pub loop-preserved : goal.loop-preserved
loop-preserved c =
    rw c.in_ok-push.ensures.items
    (so_far-more (front_two front_word front_word) c.in_ok-count.count c.loop.counter _ _ _ c.loop.pairs.items c.in_ok-pair.pair c.loop.invariant c.loop-test.true c.in_ok-pair.ensures.ok)
