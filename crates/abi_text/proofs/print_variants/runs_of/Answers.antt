use Rattle.std.proofs.Common.{◌≡◌, ℕ, zero, suc, List, [], ◌∷◌, None, ap, get_or, refl, sym, ◌∙◌}
use Rattle.std.specs.Prelude.{slice_get}
use Rattle.std.specs.Option.{option_copied}
use Rattle.std.proofs.lemmas.Option.{none-some}
use Rattle.abi_text.proofs.print_variants.runs_of.Goals as goal

past : {X : Type 0} (xs : List X) (i : ℕ) (d : X) → slice_get xs i ≡ None → get_or xs i d ≡ d
past [] i d h = refl
past (x ∷ xs) zero d h = absurd (none-some x (sym h))
past (x ∷ xs) (suc i) d h = past xs i d h

-- there is no set behind the last
pub returns-in-None-clause-runs : goal.returns-in-None-clause-runs
returns-in-None-clause-runs c = sym (past c.args.sets.now c.args.variant [] (sym c.get.ensures ∙ ap option_copied c.in-None.is))
