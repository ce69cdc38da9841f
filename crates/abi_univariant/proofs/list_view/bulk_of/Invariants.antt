-- Those below the counter.
use Rattle.std.proofs.Common.{◌≡◌, filter}
use Rattle.abi_univariant.specs.ListView.{bulk_of, is_bulky, part_at}
use Rattle.abi_univariant.specs.Placement.{source_order}
use Rattle.abi_univariant.proofs.list_view.bulk_of.Given as goal

abbrev pub invariant-loop-index : goal.invariant-loop-index
invariant-loop-index g l = l.bulk ≡ bulk_of (filter (λ i. is_bulky (part_at l.parts i)) (source_order l.index))
