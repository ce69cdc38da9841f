-- What is left stands for what is left of the text.
use Rattle.std.proofs.Common.{◌≡◌, drop}
use Rattle.rust_source.specs.Cfg.{stands_for}
use Rattle.rust_source.proofs.reader.cfg.stands_for.Given as goal

abbrev pub invariant-loop-byte : goal.invariant-loop-byte
invariant-loop-byte l = stands_for l.rest (drop l.byte-index l.text) ≡ stands_for l.fn.inside l.text
