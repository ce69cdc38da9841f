use Rattle.std.proofs.Common.{◌∙◌, arith}
use Rattle.abi_index.proofs.RangeSetLemmas.{maximal_added}
use Rattle.abi_index.proofs.LastRunLemmas.{pushed_is}
use Rattle.abi_index.proofs.add_run.push_run.Goals as goal

pub returns-clause-maximal : goal.returns-clause-maximal
returns-clause-maximal c =
    let whole = c.in_ok-push.ensures.ok ∙ pushed_is _ _ _ c.requires.some c.requires.maximal c.requires.behind in
    rw whole (maximal_added _ _ 0 _ c.requires.some c.ranges.to.fits (omega arith) c.requires.maximal)
