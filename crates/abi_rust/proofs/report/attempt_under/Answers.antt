-- The sizes that are known stand under the same data layout.
use Rattle.abi_rust.proofs.report.attempt_under.Goals as goal

pub returns : goal.returns
returns c = λ m is.
    (c.knowing-under.result, c.knowing-under.ensures, c.attempt.ensures m (rw c.knowing-under.ensures.dl is))
