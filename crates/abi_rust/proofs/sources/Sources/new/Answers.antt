-- The words stand behind the first names.
use Rattle.std.proofs.Common.{◌∙◌, ap, refl, rules}
use Rattle.std.specs.Prelude.{codes}
use Rattle.rust_source.specs.Names.{added, all_added, first_names, number_of_name}
use Rattle.abi_rust.specs.Words.{known_words}
use Rattle.abi_rust.proofs.sources.Sources.new.Goals as goal

pub returns : goal.returns
unfolding first_names known_words
returns c = record {
  names = c.in_ok-words.ensures.names ∙ ap (λ ns. all_added (added ns (codes "bool")) known_words) c.in_ok-names.ensures;
  words = c.in_ok-words.ensures.first ∙ ap (λ ns. number_of_name ns (codes "bool")) c.in_ok-names.ensures;
  nothing = record {
    items = c.new-3.ensures.nothing;
    files = search rules;
    crates = search rules;
    scope = refl;
  };
}
