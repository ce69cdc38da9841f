-- The word is none of the keywords before the index.
use Rattle.std.proofs.Common.{◌≡◌, drop, map}
use Rattle.rust_source.specs.Keywords.{keyword_entry, keyword_in}
use Rattle.rust_source.proofs.tokens.keyword.keyword_in.Given as goal

abbrev pub invariant-loop-text : goal.invariant-loop-text
invariant-loop-text l = keyword_in (map keyword_entry (drop l.text-index l.table)) l.word ≡ keyword_in (map keyword_entry l.table) l.word
