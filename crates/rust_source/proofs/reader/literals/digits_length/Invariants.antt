-- The digits have come as far as the index.
use Rattle.std.proofs.Common.{◌≡◌, drop}
use Rattle.rust_source.specs.Literals.{digits_end}
use Rattle.rust_source.proofs.reader.literals.digits_length.Given as goal

abbrev pub invariant-loop-index : goal.invariant-loop-index
invariant-loop-index l = digits_end l.base l.index (drop l.index l.digits) ≡ digits_end l.base 0 l.digits
