-- None of the locals so far is one that isn't promoted.
use Rattle.std.proofs.Common.{◌≡◌, false, map, not, take}
use Rattle.std.specs.List.{list_any}
use Rattle.abi_index.specs.BitSet.{is_member}
use Rattle.abi_calc.proofs.coroutine.promotion.is_used.Given as goal

abbrev pub invariant-loop-local : goal.invariant-loop-local
invariant-loop-local g l = list_any (λ local. not (is_member l.promoted local)) (map g.LocalIdx.Idx.number (take l.local-index l.state)) ≡ false
