-- What is set for `cfg` beside what a target has.
use Rattle.std.specs.Prelude.{◌≡◌, ◌⊎◌, ℕ, List, [], ◌∷◌, ◌++◌}
use Rattle.std.specs.Borrow.{Bor}
use Rattle.rust_source.specs.declared.target.CfgOption.{CfgOption}

-- one more is set: an option behind the others, or a feature behind the features, and nothing else changes
abbrev pub SetsOne : (options options_behind : List CfgOption) → (features features_behind : List (Bor (List ℕ))) → Type 0
SetsOne os ps fs gs =
    ((o : CfgOption) × (ps ≡ os ++ o ∷ []) × (gs ≡ fs)) ⊎ ((f : Bor (List ℕ)) × (gs ≡ fs ++ f ∷ []) × (ps ≡ os))
