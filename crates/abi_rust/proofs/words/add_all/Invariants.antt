-- The words so far have numbers.
use Rattle.std.proofs.Common.{◌≡◌, drop, map}
use Rattle.rust_source.specs.Names.{all_added, texts, word_of}
use Rattle.abi_rust.proofs.words.add_all.Given as goal

abbrev pub invariant-loop-word : goal.invariant-loop-word
invariant-loop-word l = all_added (texts l.names) (map word_of (drop l.word-index l.all)) ≡ all_added (texts l.initial.names) (map word_of l.all)
