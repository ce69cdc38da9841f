-- The words so far have numbers.
use Rattle.std.proofs.Common.{◌≡◌, drop, map}
use Rattle.rust_source.specs.Names.{all_added, texts, word_of}
use Rattle.rust_source.proofs.names.Names.add_all.Given as goal

abbrev pub invariant-loop-word : goal.invariant-loop-word
invariant-loop-word l = all_added (texts l.self) (map word_of (drop l.word-index l.words)) ≡ all_added (texts l.initial.self) (map word_of l.words)
