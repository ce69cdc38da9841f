-- The digits that are left go on from the number so far.
use Rattle.std.proofs.Common.{◌≡◌, ◌≤◌, drop}
use Rattle.abi_text.specs.Numbers.{digits_from, fitting}
use Rattle.abi_text.proofs.number.number_to.Given as goal

abbrev pub invariant-loop-digit : goal.invariant-loop-digit
invariant-loop-digit l = record {
  rest : fitting l.most (digits_from l.number (drop l.digit-index l.word)) ≡ fitting l.most (digits_from 0 l.word);
  fits : l.number ≤ l.most;
}
