-- The words are those of the table.
use Rattle.std.proofs.Common.{codes, [], ◌∷◌, ap, ◌∙◌}
use Rattle.rust_source.specs.Names.{all_added, first_names}
use Rattle.rust_source.proofs.names.Names.new.Goals as goal

pub returns : goal.returns
unfolding first_names
returns c =
    c.in_ok-add_all.ensures
    ∙ ap (λ names. all_added names (codes "crate" ∷ codes "self" ∷ codes "super" ∷ codes "Self" ∷ codes "_" ∷ [])) c.empty-names.ensures
