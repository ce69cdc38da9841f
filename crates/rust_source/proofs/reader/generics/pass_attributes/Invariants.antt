-- What is passed over so far.
use Rattle.std.proofs.Common.{◌≡◌, ◌-◌}
use Rattle.rust_source.specs.Lifetimes.{hashes_from, hashes_passed}
use Rattle.rust_source.proofs.reader.generics.pass_attributes.Given as goal

abbrev pub invariant-loop-turn : goal.invariant-loop-turn
invariant-loop-turn l = hashes_from (l.turns - l.turn) l.cursor ≡ hashes_passed l.fn.cursor
