-- The comment has come as far as the index, and is no deeper.
use Rattle.std.proofs.Common.{◌≡◌, ◌≤◌, drop}
use Rattle.rust_source.specs.Blanks.{comment_from}
use Rattle.rust_source.proofs.tokens.blank.comment_length.Given as goal

abbrev pub invariant-loop-index : goal.invariant-loop-index
invariant-loop-index l = record {
  same : comment_from l.depth l.last l.index (drop l.index l.rest) ≡ comment_from 0 0 0 l.rest;
  deep : l.depth ≤ l.index;
}
