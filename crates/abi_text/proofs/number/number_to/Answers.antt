use Rattle.std.proofs.Common.{◌<◌, arith, rules, sym, length}
use Rattle.abi_text.proofs.Text.{number_read, overflows}
use Rattle.abi_text.proofs.number.number_to.Goals as goal

pub returns : goal.returns
returns c =
    let some : 0 < length c.args.word.now = search rules in
    sym (number_read c.args.most c.args.word.now c.loop-digit.digit-index c.loop-digit.number some (omega arith) c.loop-digit.invariant.rest c.loop-digit.invariant.fits)

pub returns-in_default : goal.returns-in_default
returns-in_default c =
    sym (overflows c.args.most c.args.word.now c.loop-digit.digit-index c.loop-digit.number c.loop-digit-test.true (search rules) c.loop-digit.invariant.rest (search rules))

pub returns-in_default-checked_add : goal.returns-in_default-checked_add
returns-in_default-checked_add c =
    sym (overflows c.args.most c.args.word.now c.loop-digit.digit-index c.loop-digit.number c.loop-digit-test.true (search rules) c.loop-digit.invariant.rest (search rules))

pub returns-then-more-most : goal.returns-then-more-most
returns-then-more-most c =
    sym (overflows c.args.most c.args.word.now c.loop-digit.digit-index c.loop-digit.number c.loop-digit-test.true (search rules) c.loop-digit.invariant.rest (search rules))
