-- The spaces and comments have come this far.
use Rattle.std.proofs.Common.{◌≡◌, ◌≤◌, drop, length}
use Rattle.rust_source.specs.Blanks.{blank_from}
use Rattle.rust_source.proofs.tokens.blank.blank_length.Given as goal

abbrev pub invariant-loop-byte : goal.invariant-loop-byte
invariant-loop-byte l = record {
  same : blank_from (drop l._byte-index l.rest) l.length l.rest ≡ blank_from l.rest 0 l.rest;
  within : l.length ≤ length l.rest;
}
