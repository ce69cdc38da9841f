-- The offsets up to the index.
use Rattle.std.proofs.Common.{◌≡◌, take}
use Rattle.abi_univariant.proofs.list.field_offsets.Given as goal

abbrev pub invariant-loop-offset : goal.invariant-loop-offset
invariant-loop-offset g l = l.list ≡ take l.offset-index l.offsets
