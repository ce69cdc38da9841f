-- No part before is unsized.
use Rattle.std.proofs.Common.{◌≡◌, drop}
use Rattle.abi_univariant.specs.ListView.{any_unsized}
use Rattle.abi_univariant.proofs.list_view.any_unsized.Given as goal

abbrev pub invariant-loop-index : goal.invariant-loop-index
invariant-loop-index g l = any_unsized (drop l.index l.parts) ≡ any_unsized l.parts
