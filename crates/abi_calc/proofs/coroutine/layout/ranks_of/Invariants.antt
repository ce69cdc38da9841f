-- The ranks before the index.
use Rattle.std.proofs.Common.{◌≡◌, take}
use Rattle.abi_calc.specs.Coroutine.States.{ranks_of}
use Rattle.abi_calc.proofs.coroutine.layout.ranks_of.Given as goal

abbrev pub invariant-loop-index : goal.invariant-loop-index
invariant-loop-index g l = l.ranks.items ≡ ranks_of g.FieldIdx.Idx.number l.before (take l.index-index l.order)
