-- The bytes before the index are part of a word.
use Rattle.std.proofs.Common.{◌≡◌, ℕ, ◌<◌, get_or, true}
use Rattle.abi_text.specs.Words.{is_plain}
use Rattle.abi_text.proofs.words.run_length.Given as goal

abbrev pub invariant-loop-index : goal.invariant-loop-index
invariant-loop-index l = (k : ℕ) → k < l.index → is_plain (get_or l.line k 0) ≡ true
