use Rattle.std.proofs.Common.{drop, map}
use Rattle.std.proofs.lemmas.List.{map-append}
use Rattle.abi_c.specs.Numbers.Pieces.{front_words, list_kept}
use Rattle.abi_c.proofs.NumberLemmas.Many.{passed, so_far-more, so_far-none}
use Rattle.abi_c.proofs.numbers.words.read_lists.Goals as goal

pub returns-in_err-list-clause-err : goal.returns-in_err-list-clause-err
returns-in_err-list-clause-err c =
    passed _ _ _ c.from_residual-in_err-list.ensures.1
    (so_far-none front_words c.in_ok-count.count c.loop.counter (drop c.args.at.now c.args.numbers.now) _ (drop c.loop.at c.args.numbers.now) _ _ c.in_ok-count.ensures.ok c.loop.invariant c.loop-test.true c.in_err-list.ensures.err)

pub loop-preserved : goal.loop-preserved
loop-preserved c =
    rw (c.in_ok-push.ensures.items, map-append list_kept)
    (so_far-more front_words c.in_ok-count.count c.loop.counter _ _ _ (map list_kept c.loop.lists.items) c.in_ok-list.list.items c.loop.invariant c.loop-test.true c.in_ok-list.ensures.ok)
