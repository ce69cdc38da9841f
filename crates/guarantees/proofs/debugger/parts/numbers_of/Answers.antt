-- What was read is the only value that is held.
use Rattle.std.proofs.Common.{subst}
use Rattle.abi_tree.specs.Holding.{Holds}
use Rattle.abi_tree.specs.Laid.{endian_of, placed_of}
use Rattle.abi_tree.specs.Value.{two, value_of}
use Rattle.guarantees.proofs.Held.{no_both}
use Rattle.guarantees.proofs.debugger.parts.numbers_of.Goals as goal

pub returns-in-Some-clause-none : goal.returns-in-Some-clause-none
returns-in-Some-clause-none c = λ none.
    let held = rw c.in-Some.is at c.in_ok-value.ensures.finds in
    no_both c.both_of.result (value_of c.in-Some.value) c.both_of.ensures (λ n m e. none n m (subst (Holds (endian_of c.args.laid.now) (placed_of c.args.laid.now) c.args.bytes.now) e held))

pub returns-in-None-clause-numbers : goal.returns-in-None-clause-numbers
returns-in-None-clause-numbers c = λ n m h.
    let none = rw c.in-None.is at c.in_ok-value.ensures.finds in
    absurd (none (two n m) h)
