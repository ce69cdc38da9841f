-- The raw string has come as far as the index, and no more `#` are seen.
use Rattle.std.proofs.Common.{◌≡◌, ◌≤◌, drop, None, IfSome}
use Rattle.rust_source.specs.Quoted.{raw_from}
use Rattle.rust_source.proofs.tokens.quoted.raw_end.Given as goal

abbrev pub invariant-loop-index : goal.invariant-loop-index
invariant-loop-index l = record {
  same : raw_from l.hashes l.seen l.index (drop l.index l.rest) ≡ raw_from l.hashes None 0 l.rest;
  few : IfSome l.seen (λ count. count ≤ l.index);
}
