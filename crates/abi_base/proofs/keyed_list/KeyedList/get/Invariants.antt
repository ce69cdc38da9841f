-- The key isn't among the entries before the index.
use Rattle.std.proofs.Common.{◌≡◌, drop}
use Rattle.abi_base.specs.KeyedList.{entry_value}
use Rattle.abi_base.proofs.keyed_list.KeyedList.get.Given as goal

abbrev pub invariant-loop-listed : goal.invariant-loop-listed
invariant-loop-listed g l = entry_value g.K.PartialEq.eq (drop l.listed-index l.listed-items) l.key ≡ entry_value g.K.PartialEq.eq l.listed-items l.key
