-- The offsets up to the index, beside the grown tag.
use Rattle.std.proofs.Common.{◌≡◌, map, take}
use Rattle.abi_calc.specs.Enums.Growth.{moved_offset}
use Rattle.abi_calc.proofs.enums.growth.moved_offsets.Given as goal

abbrev pub invariant-loop-offset : goal.invariant-loop-offset
invariant-loop-offset g l = l.list ≡ map (moved_offset l.old l.new) (take l.offset-index l.offsets)
