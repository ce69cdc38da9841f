use Rattle.std.proofs.Common.{◌-◌}
use Rattle.abi_bytes.proofs.parts.+parts_between.Given as goal

abbrev pub decreases-parts_between : goal.decreases-parts_between
decreases-parts_between l = l.end - l.start
