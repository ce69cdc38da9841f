-- The bytes before the index are spaces.
use Rattle.std.proofs.Common.{◌≡◌, drop}
use Rattle.abi_text.specs.Words.{words_of}
use Rattle.abi_text.proofs.words.after_spaces.Given as goal

abbrev pub invariant-loop-index : goal.invariant-loop-index
invariant-loop-index l = words_of (drop l.index l.line) ≡ words_of l.line
