use Rattle.std.proofs.Common.{true, false}
use Rattle.rustc_abi.proofs.Faults.FaultLemmas.{range_fault}
use Rattle.rustc_abi.proofs.lay_scalar.range_fault.Goals as goal

pub returns-then-has_range_within : goal.returns-then-has_range_within
returns-then-has_range_within c = range_fault c.args.dl.now c.args.value true c.requires c.if-has_range_within.ensures

pub returns-else-has_range_within : goal.returns-else-has_range_within
returns-else-has_range_within c = range_fault c.args.dl.now c.args.value false c.requires c.if-has_range_within.ensures
