-- The byte doesn't stand before the index.
use Rattle.std.proofs.Common.{◌≡◌, ◌++◌, take, drop}
use Rattle.abi_text.specs.Pieces.{before, after_byte}
use Rattle.abi_text.proofs.pieces.split_at_byte.Given as goal

abbrev pub invariant-loop-index : goal.invariant-loop-index
invariant-loop-index l = record {
  front : take l.index l.text ++ before l.at (drop l.index l.text) ≡ before l.at l.text;
  back : after_byte l.at (drop l.index l.text) ≡ after_byte l.at l.text;
}
