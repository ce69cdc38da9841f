use Rattle.abi_c.proofs.NumberLemmas.Layouts.{pairs_step}
use Rattle.abi_c.proofs.numbers.layout.write_runs.Goals as goal

pub loop-run-preserved : goal.loop-run-preserved
loop-run-preserved c =
    pairs_step c.args.out.now.items c.loop-run.out.items c.extend_from_slice.new.self.items c.args.runs.now c.loop-run.run-index (0, 0) c.loop-run-test.true c.loop-run.invariant
    c.in_ok-extend_from_slice.ensures.items
