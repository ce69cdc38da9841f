-- The words are those of the table.
use Rattle.std.proofs.Common.{ap, ◌∙◌}
use Rattle.rust_source.specs.Names.{all_added}
use Rattle.abi_rust.specs.Words.{known_words}
use Rattle.abi_rust.proofs.words.Words.new.Goals as goal

pub returns-clause-names : goal.returns-clause-names
unfolding known_words
returns-clause-names c =
    c.in_ok-add_all.ensures
    ∙ ap (λ names. all_added names known_words) c.in_ok-first.ensures.names
