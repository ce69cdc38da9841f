use Rattle.std.proofs.Common.{◌≡◌, take}
use Rattle.abi_index.proofs.index_vec.IndexVec.try_clone.Given as goal

abbrev pub invariant-loop-item : goal.invariant-loop-item
invariant-loop-item g l = l.raw.items ≡ take l.item-index l.item-items
