use Rattle.std.proofs.Common.{◌≡◌}
use Rattle.abi_index.specs.BitSet.{members_from}
use Rattle.abi_index.proofs.first_member.first_from.Given as goal

abbrev pub invariant-loop-place : goal.invariant-loop-place
invariant-loop-place l = members_from l.bits l.from ≡ members_from l.bits l.place
