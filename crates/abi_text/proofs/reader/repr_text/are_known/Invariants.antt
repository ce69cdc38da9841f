-- The parts that are left decide.
use Rattle.std.proofs.Common.{◌≡◌}
use Rattle.std.specs.Prelude.{is_some}
use Rattle.std.specs.Option.{option_copied}
use Rattle.std.specs.List.{list_all}
use Rattle.abi_text.specs.Repr.{repr_parts_left, repr_parts, repr_part}
use Rattle.abi_text.proofs.Parts.{room}
use Rattle.abi_text.proofs.reader.repr_text.are_known.Given as goal

abbrev pub invariant-loop-rest : goal.invariant-loop-rest
invariant-loop-rest l = list_all (λ p. is_some (repr_part p)) (repr_parts_left (option_copied l.rest)) ≡ list_all (λ p. is_some (repr_part p)) (repr_parts l.fn.text)

abbrev pub decreases-loop-rest : goal.decreases-loop-rest
decreases-loop-rest l = room (option_copied l.rest)
