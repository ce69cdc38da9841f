-- The name has come this far.
use Rattle.std.proofs.Common.{◌≡◌, ◌≤◌, drop, length}
use Rattle.rust_source.specs.Characters.{name_from, name_start}
use Rattle.rust_source.proofs.tokens.characters.name_length.Given as goal

abbrev pub invariant-loop-byte : goal.invariant-loop-byte
invariant-loop-byte l = record {
  same : name_from (drop l._byte-index l.rest) l.length l.rest ≡ name_from l.rest (name_start l.rest) l.rest;
  within : l.length ≤ length l.rest;
}
