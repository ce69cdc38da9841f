-- The parts that are left add what they ask for.
use Rattle.std.proofs.Common.{◌≡◌}
use Rattle.std.specs.Option.{option_copied}
use Rattle.abi_text.specs.Repr.{asked_by, repr_parts_left, repr_parts, plain}
use Rattle.abi_text.proofs.Parts.{room}
use Rattle.abi_text.proofs.reader.repr_text.asked_by.Given as goal

abbrev pub invariant-loop-rest : goal.invariant-loop-rest
invariant-loop-rest l = asked_by l.asked (repr_parts_left (option_copied l.rest)) ≡ asked_by plain (repr_parts l.fn.text)

abbrev pub decreases-loop-rest : goal.decreases-loop-rest
decreases-loop-rest l = room (option_copied l.rest)
