use Rattle.std.proofs.Common.{drop}
use Rattle.abi_c.specs.Numbers.Pieces.{front_word}
use Rattle.abi_c.proofs.NumberLemmas.Many.{passed, so_far-more, so_far-none}
use Rattle.abi_c.proofs.numbers.words.read_words.Goals as goal

pub returns-in_err-word-clause-err : goal.returns-in_err-word-clause-err
returns-in_err-word-clause-err c =
    passed _ _ _ c.from_residual-in_err-word.ensures.1
    (so_far-none front_word c.in_ok-count.count c.loop.counter (drop c.args.at.now c.args.numbers.now) _ (drop c.loop.at c.args.numbers.now) _ _ c.in_ok-count.ensures.ok c.loop.invariant c.loop-test.true c.in_err-word.ensures.err)

pub loop-preserved : goal.loop-preserved
loop-preserved c =
    rw c.in_ok-push.ensures.items
    (so_far-more front_word c.in_ok-count.count c.loop.counter _ _ _ c.loop.words.items c.in_ok-word.word c.loop.invariant c.loop-test.true c.in_ok-word.ensures.ok)
