-- The offsets up to the index, moved on.
use Rattle.std.proofs.Common.{◌≡◌, ◌+◌, map, take}
use Rattle.abi_calc.proofs.enums.niche.moved_offsets.Given as goal

abbrev pub invariant-loop-offset : goal.invariant-loop-offset
invariant-loop-offset g l = l.list ≡ map (λ o. l.by + o) (take l.offset-index l.offsets)
