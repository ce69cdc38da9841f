-- What was read is the only value that is held.
use Rattle.std.proofs.Common.{subst, sym}
use Rattle.abi_tree.specs.Holding.{Holds}
use Rattle.abi_tree.specs.Laid.{endian_of, placed_of}
use Rattle.abi_tree.specs.Value.{value_of, variant}
use Rattle.guarantees.proofs.Held.{only_read}
use Rattle.guarantees.proofs.Named.{named_here, no_index, same_index}
use Rattle.guarantees.proofs.code_generator.tags.variant_named.Goals as goal

pub returns-in-Some-clause-named : goal.returns-in-Some-clause-named
returns-in-Some-clause-named c =
    let held = rw c.in-Some.is at c.in_ok-value.ensures.finds in
    named_here (endian_of c.args.laid.now) (placed_of c.args.laid.now) c.args.bytes.now (value_of c.in-Some.value) c.index_of.result c.index_of.ensures held

pub returns-in-Some-clause-variant : goal.returns-in-Some-clause-variant
returns-in-Some-clause-variant c = λ i vs h.
    let one = rw c.in-Some.is at c.in_ok-value.ensures.one in
    same_index (value_of c.in-Some.value) c.index_of.result c.index_of.ensures i vs
    (sym (only_read c.args.laid.now c.args.bytes.now c.in-Some.value c.requires.laid one (variant i vs) h))

pub returns-in-Some-clause-none : goal.returns-in-Some-clause-none
returns-in-Some-clause-none c = λ none.
    let held = rw c.in-Some.is at c.in_ok-value.ensures.finds in
    no_index (value_of c.in-Some.value) c.index_of.result c.index_of.ensures (λ i vs e. none i vs (subst (Holds (endian_of c.args.laid.now) (placed_of c.args.laid.now) c.args.bytes.now) e held))

pub returns-in-None-clause-variant : goal.returns-in-None-clause-variant
returns-in-None-clause-variant c = λ i vs h.
    let none = rw c.in-None.is at c.in_ok-value.ensures.finds in
    absurd (none (variant i vs) h)
