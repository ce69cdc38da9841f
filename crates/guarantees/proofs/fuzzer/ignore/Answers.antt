-- The bytes are those with a byte of padding changed, which hold the same values.
use Rattle.std.proofs.Common.{◌≡◌, Err, Ok, Result, inr, rules}
use Rattle.std.specs.Prelude.{IfErr}
use Rattle.abi_tree.specs.Laid.{placed_of}
use Rattle.guarantees.specs.Ignored.{with_padding}
use Rattle.guarantees.proofs.Padded.{same_read, same_values}
use Rattle.guarantees.proofs.fuzzer.ignore.Goals as goal

-- what holds whatever the answer is
whichever : {A E : Type 0} (r : Result A E) (P : Type 0) → P → IfErr r (λ e. P)
whichever (Ok a) P h = tt
whichever (Err e) P h = h

pub returns-clause-reads : goal.returns-clause-reads
returns-clause-reads c =
    let changed : c.put_in.new.bytes ≡ with_padding (placed_of c.args.laid.now) c.args.bytes.now c.args.place c.args.byte = search rules in
    same_read c.args.laid.now c.requires.laid c.args.bytes.now c.args.place c.args.byte c.read_value.result (rw changed at c.read_value.ensures.finds)

pub returns-clause-holds : goal.returns-clause-holds
returns-clause-holds c =
    let changed : c.put_in.new.bytes ≡ with_padding (placed_of c.args.laid.now) c.args.bytes.now c.args.place c.args.byte = search rules in
    rw changed (same_values c.args.laid.now c.requires.laid c.args.bytes.now c.args.place c.args.byte)

pub returns-clause-no_other : goal.returns-clause-no_other
returns-clause-no_other c =
    let changed : c.put_in.new.bytes ≡ with_padding (placed_of c.args.laid.now) c.args.bytes.now c.args.place c.args.byte = search rules in
    whichever c.read_value.result _ (inr changed)
