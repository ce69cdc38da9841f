-- The words that are left go on from what has been read.
use Rattle.std.proofs.Common.{◌≡◌, ◌+◌, ◌≤◌, length}
use Rattle.abi_text.specs.Reading.{read, read_from, state_of}
use Rattle.abi_text.specs.Words.{words_of}
use Rattle.abi_text.proofs.reader.read_words.Given as goal

abbrev pub invariant-loop-word : goal.invariant-loop-word
invariant-loop-word l = record {
  rest : read_from l.dl l.number (state_of l.reader) (words_of l.rest) ≡ read l.dl (words_of l.line);
  number : l.number + length l.rest ≤ length l.line + 1;
}

abbrev pub decreases-loop-word : goal.decreases-loop-word
decreases-loop-word l = length l.rest
