-- The key isn't among the entries before the index.
use Rattle.std.proofs.Common.{◌≡◌, ◌++◌, take, drop}
use Rattle.abi_base.specs.KeyedList.{put_entry}
use Rattle.abi_base.proofs.keyed_list.KeyedList.place.Given as goal

abbrev pub invariant-loop-index : goal.invariant-loop-index
invariant-loop-index g l = (value : _) → take l.index l.self ++ put_entry g.K.PartialEq.eq l.key value (drop l.index l.self) ≡ put_entry g.K.PartialEq.eq l.key value l.self
