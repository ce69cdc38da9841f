-- The text has come as far as the index.
use Rattle.std.proofs.Common.{◌≡◌, drop, true}
use Rattle.rust_source.specs.Quoted.{escaped_from}
use Rattle.rust_source.proofs.tokens.quoted.escaped_length.Given as goal

abbrev pub invariant-loop-index : goal.invariant-loop-index
invariant-loop-index l = escaped_from l.quote l.is_escaped l.index (drop l.index l.rest) ≡ escaped_from l.quote true 0 l.rest
