-- What is left of the text has the length of the whole behind what was read.
use Rattle.std.proofs.Common.{◌≡◌, drop}
use Rattle.rust_source.specs.Texts.{length_from}
use Rattle.rust_source.proofs.reader.texts.length_from.Given as goal

abbrev pub invariant-loop-byte : goal.invariant-loop-byte
invariant-loop-byte l = length_from l.part l.length (drop l.byte-index l.text) ≡ length_from l.fn.first 0 l.text
