use Rattle.std.proofs.Common.{drop}
use Rattle.abi_c.specs.Numbers.Pieces.{front_as}
use Rattle.abi_c.specs.Numbers.FrontValue.{byte_numbered}
use Rattle.abi_c.proofs.NumberLemmas.Many.{passed, so_far-more, so_far-none}
use Rattle.abi_c.proofs.numbers.value.read_bytes.Goals as goal

pub returns-in_err-byte-clause-err : goal.returns-in_err-byte-clause-err
returns-in_err-byte-clause-err c =
    passed _ _ _ c.from_residual-in_err-byte.ensures.1
    (so_far-none (front_as byte_numbered) c.in_ok-count.count c.loop.counter (drop c.args.at.now c.args.numbers.now) _ (drop c.loop.at c.args.numbers.now) _ _ c.in_ok-count.ensures.ok c.loop.invariant c.loop-test.true c.in_err-byte.ensures.err)

pub loop-preserved : goal.loop-preserved
loop-preserved c =
    rw c.in_ok-push.ensures.items
    (so_far-more (front_as byte_numbered) c.in_ok-count.count c.loop.counter _ _ _ c.loop.bytes.items c.in_ok-byte.byte c.loop.invariant c.loop-test.true c.in_ok-byte.ensures.ok)
