-- Which version of a package is chosen (The Cargo Book, "Dependency Resolution").
use Rattle.std.specs.Prelude.{◌≡◌, ◌&&◌, ℕ, Bool, false, true, List, Option, None, Some, option_and_then, slice_get, if◌then◌else◌}
use Rattle.std.specs.List.{AllByRecursion}
use Rattle.std.specs.Ordering.{is_lt}
use Rattle.semver.specs.Eval.{matches_all, precedence_cmp}
use Rattle.semver.specs.declared.Comparator.{Comparator}
use Rattle.semver.specs.declared.Version.{Version}

-- a version is greater than the one that was chosen, where there is one
abbrev pub is_above : Version → (chosen : Option Version) → Bool
is_above v None = true
is_above v (Some chosen) = is_lt (precedence_cmp chosen v)

-- the version that was chosen, by its index
abbrev pub version_at : List Version → (chosen : Option ℕ) → Option Version
version_at vs chosen = option_and_then (slice_get vs) chosen

-- the choice between what was chosen and the version at an index
abbrev pub next_choice : List Comparator → List Version → (chosen : Option ℕ) → (at : ℕ) → Option ℕ
next_choice cs vs chosen at =
    elim (slice_get vs at) [ None ↦ chosen | Some v ↦ if matches_all cs v && is_above v (version_at vs chosen) then Some at else chosen ]

-- the requirement matches none, or the version at the index, and no greater one
abbrev pub IsGreatestMatch : List Comparator → List Version → Option ℕ → Type 0
IsGreatestMatch cs vs None = AllByRecursion (λ v. matches_all cs v ≡ false) vs
IsGreatestMatch cs vs (Some i) = (chosen : Version) × (slice_get vs i ≡ Some chosen) × (matches_all cs chosen ≡ true)
    × AllByRecursion (λ v. matches_all cs v ≡ true → is_lt (precedence_cmp chosen v) ≡ false) vs
