-- A value that doesn't cover the byte is held still, and is the only one.
use Rattle.std.proofs.Common.{◌≡◌, rules, set}
use Rattle.guarantees.proofs.Uncovered.{varied, varied_read}
use Rattle.guarantees.proofs.fuzzer.spare.vary.Goals as goal

pub returns-clause-holds : goal.returns-clause-holds
returns-clause-holds c =
    let changed : c.set_byte.new.bytes ≡ set c.args.bytes.now c.args.place c.args.byte = search rules in
    rw changed (varied c.args.laid.now c.requires.laid c.args.bytes.now c.args.place c.args.byte)

pub returns-clause-reads : goal.returns-clause-reads
returns-clause-reads c =
    let changed : c.set_byte.new.bytes ≡ set c.args.bytes.now c.args.place c.args.byte = search rules in
    varied_read c.args.laid.now c.requires.laid c.args.bytes.now c.args.place c.args.byte c.read_value.result
    (rw changed at c.read_value.ensures.finds) (rw changed at c.read_value.ensures.one)
