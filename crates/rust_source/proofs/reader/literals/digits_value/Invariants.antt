-- The digits have come this far.
use Rattle.std.proofs.Common.{◌≡◌, drop}
use Rattle.rust_source.specs.Literals.{digits_value}
use Rattle.rust_source.proofs.Digits.{digits_from}
use Rattle.rust_source.proofs.reader.literals.digits_value.Given as goal

abbrev pub invariant-loop-byte : goal.invariant-loop-byte
invariant-loop-byte l = digits_from l.base l.value (drop l.byte-index l.digits) ≡ digits_value l.base l.digits
