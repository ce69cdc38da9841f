use Rattle.std.proofs.Common.{arith, refl}
use Rattle.abi_index.proofs.RangeSetLemmas.{bytes_added, maximal_added}
use Rattle.abi_index.proofs.LastRunLemmas.{lengthened_is}
use Rattle.abi_index.proofs.add_run.lengthen_last.Goals as goal

pub returns-clause-bytes : goal.returns-clause-bytes
returns-clause-bytes c k =
    let whole = lengthened_is c.args.runs.now.items _ _ _ (0, 0) refl c.requires.some c.requires.maximal c.requires.meets in
    rw (c.set_last.ensures.items, c.max.ensures, c.as_slice.ensures, c.len-last.ensures) (rw whole (bytes_added _ _ _ k c.requires.some))

pub returns-clause-maximal : goal.returns-clause-maximal
returns-clause-maximal c =
    let whole = lengthened_is c.args.runs.now.items _ _ _ (0, 0) refl c.requires.some c.requires.maximal c.requires.meets in
    rw (c.set_last.ensures.items, c.max.ensures, c.as_slice.ensures, c.len-last.ensures)
    (rw whole (maximal_added _ _ 0 _ c.requires.some c.ranges.to.fits (omega arith) c.requires.maximal))
