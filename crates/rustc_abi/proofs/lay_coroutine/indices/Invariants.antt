use Rattle.std.proofs.Common.{◌≡◌}
use Rattle.abi_univariant.specs.Placement.{source_order}
use Rattle.rustc_abi.proofs.lay_coroutine.indices.Given as goal

abbrev pub invariant-loop-index : goal.invariant-loop-index
invariant-loop-index l = l.indices.items ≡ source_order l.index
