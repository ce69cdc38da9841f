-- The parts that are left decide, with the one that was seen.
use Rattle.std.proofs.Common.{◌≡◌, ◌+◌}
use Rattle.std.specs.Prelude.{count_by, nat_le, if◌then◌else◌}
use Rattle.std.specs.Option.{option_copied}
use Rattle.abi_text.specs.Repr.{has_kind, is_single, repr_parts_left, repr_parts, repr_part}
use Rattle.abi_text.proofs.Parts.{room}
use Rattle.abi_text.proofs.reader.repr_text.is_single.Given as goal

abbrev pub invariant-loop-rest : goal.invariant-loop-rest
invariant-loop-rest l =
    nat_le ((if l.seen then 1 else 0) + count_by (λ p. has_kind l.kind (repr_part p)) (repr_parts_left (option_copied l.rest))) 1 ≡ is_single l.kind (repr_parts l.fn.text)

abbrev pub decreases-loop-rest : goal.decreases-loop-rest
decreases-loop-rest l = room (option_copied l.rest)
