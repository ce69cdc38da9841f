use Rattle.std.proofs.Common.{arith}
use Rattle.abi_index.proofs.UncutLemmas.{run_fits}
use Rattle.abi_text.proofs.print.write_ranges.Goals as goal

pub overflow_add-end : goal.overflow_add-end
overflow_add-end c = omega (arith, run_fits _ _ (0, 0) c.loop-run-test.true c.requires)
