use Rattle.std.proofs.Common.{◌-◌}
use Rattle.abi_bytes.proofs.variants.+variants_between.Given as goal

abbrev pub decreases-variants_between : goal.decreases-variants_between
decreases-variants_between l = l.end - l.start
