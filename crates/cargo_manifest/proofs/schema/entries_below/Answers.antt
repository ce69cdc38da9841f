-- The values are those of the entries.
use Rattle.std.proofs.Common.{◌≡◌, ◌∙◌, List, [], ◌∷◌, ap, map, refl}
use Rattle.std.specs.Borrow.{Bor}
use Rattle.toml.specs.Data.{Data}
use Rattle.toml.specs.View.{view}
use Rattle.toml.specs.declared.value.Value.{Value}
use Rattle.cargo_manifest.specs.Values.{Text, entry_view}
use Rattle.cargo_manifest.proofs.schema.entries_below.Goals as goal

seen : (es : List (Bor Text × Bor Value)) → map (λ e. view e.1.now) es ≡ map (λ e. e.1) (map entry_view es)
seen [] = refl
seen (e ∷ es) = ap (λ ds. view e.1.now ∷ ds) (seen es)

pub returns : goal.returns
returns c = seen c.in_ok-all.all.items ∙ ap (map (λ e. e.1)) c.in_ok-all.ensures
