-- The features of a package, and what each turns on (The Cargo Book, "Features").
use Rattle.std.specs.Prelude.{⊤, ◌≡◌, ◌++◌, ◌&&◌, Bool, false, true, not, List, [], ◌∷◌, Option, None, Some, bytes_eq, codes, filter, filter_map, flat_map, map, if◌then◌else◌}
use Rattle.std.specs.List.{list_any}
use Rattle.toml.specs.Data.{Data}
use Rattle.cargo_manifest.specs.Dependencies.{Dependency, build_dependencies, is_optional, package_dependencies}
use Rattle.cargo_manifest.specs.Enabled.{IsEnabled, IsIn, Link}
use Rattle.cargo_manifest.specs.Switches.{TurnsOn, feature, dependency, dependency_feature, weak_feature, switch_said}
use Rattle.cargo_manifest.specs.Values.{Text, entries_at, is_one_of, strings_in, texts}
use Rattle.cargo_manifest.specs.declared.features.FeatureError.{FeatureError}
use Rattle.cargo_manifest.specs.declared.features.FeatureError.TheVariants as errors
use Rattle.cargo_manifest.specs.declared.features.FeatureRequest.{FeatureRequest}

-- the names of optional dependencies
abbrev pub optional_names : List Dependency → List Text
optional_names ds = map (λ d. d.name) (filter is_optional ds)

-- a feature turns on what its strings name
abbrev pub named : (feature : Text) → List Text → List Link
named f ts = map (λ t. (f, switch_said t)) ts

-- what features turn on, as it's written
abbrev pub listed_links : List (Text × Data) → List Link
listed_links es = flat_map (λ e. named e.0 (strings_in e.1)) es

-- that is a dependency of this name
abbrev pub is_to : (name : Text) → TurnsOn → Bool
is_to name (dependency other) = bytes_eq other name
is_to name _ = false

-- a feature turns the dependency of this name on by `dep:`
abbrev pub is_switched : List Link → (name : Text) → Bool
is_switched ls name = list_any (λ l. is_to name l.1) ls

-- optional dependencies are features, too, where no feature has the name, and none turns the dependency on by `dep:`
abbrev pub implicit_features : (optional explicit : List Text) → List Link → List Text
implicit_features optional explicit ls = filter (λ n. not (is_one_of explicit n) && not (is_switched ls n)) optional

-- such a feature turns that dependency on
abbrev pub implicit_link : Text → Link
implicit_link name = (name, dependency name)

-- a feature of an optional dependency comes with that dependency, and with the feature of its name, where there is one
abbrev pub with_dependency : (optional names : List Text) → Link → List Link
with_dependency optional names l = elim l.1 [
  | dependency_feature name of ↦ l ∷ (if is_one_of optional name
      then (l.0, dependency name) ∷ (if is_one_of names name then (l.0, feature name) ∷ [] else [])
      else [])
  | feature name ↦ l ∷ []
  | dependency name ↦ l ∷ []
  | weak_feature name of ↦ l ∷ []
]

-- the optional dependencies of a package, and of its build script
abbrev pub optional_of : Data → List Text
optional_of m = optional_names (package_dependencies m) ++ optional_names (build_dependencies m)

-- of a package: its features that are written, the optional dependencies that are features, too, and the names of all
abbrev pub explicit_features : Data → List Text
explicit_features m = map (λ e. e.0) (entries_at (codes "features") m)

abbrev pub implicit_of : Data → List Text
implicit_of m = implicit_features (optional_of m) (explicit_features m) (listed_links (entries_at (codes "features") m))

unfoldable pub feature_names : Data → List Text
feature_names m = explicit_features m ++ implicit_of m

-- and what each turns on
unfoldable pub feature_links : Data → List Link
feature_links m =
    flat_map (with_dependency (optional_of m) (explicit_features m ++ implicit_of m)) (listed_links (entries_at (codes "features") m))
    ++ map implicit_link (implicit_of m)

-- the features that are asked for: those named, and all, or `default`, where it's there
abbrev pub asked_features : FeatureRequest → (names : List Text) → List Text
asked_features r names =
    if r.with_all then texts r.names.now ++ names
    else texts r.names.now ++ (if r.with_default && is_one_of names (codes "default") then codes "default" ∷ [] else [])

-- a feature is asked for or turned on that isn't one of the names
abbrev pub IsUnknown : List Link → (asked names : List Text) → FeatureError → Type 0
IsUnknown ls asked names errors.OutOfMemory = ⊤
IsUnknown ls asked names (errors.UnknownFeature name) = IsEnabled ls asked name.now × (IsIn names name.now → ⊥)

-- the first text that isn't among others
abbrev pub first_other : List Text → (others : List Text) → Option Text
first_other [] others = None
first_other (t ∷ ts) others = if is_one_of others t then first_other ts others else Some t

-- one of the features that are on turns a dependency on
abbrev pub turns_on : List Link → (on : List Text) → (name : Text) → Bool
turns_on ls on name = list_any (λ l. is_to name l.1 && is_one_of on l.0) ls

-- the feature that is asked for of a dependency
abbrev pub feature_of : (name : Text) → TurnsOn → Option Text
feature_of name (dependency_feature other of) = if bytes_eq other name then Some of else None
feature_of name (weak_feature other of) = if bytes_eq other name then Some of else None
feature_of name _ = None

-- the features that those that are on ask for of a dependency
abbrev pub asked_of : List Link → (on : List Text) → (name : Text) → List Text
asked_of ls on name = filter_map (λ l. if is_one_of on l.0 then feature_of name l.1 else None) ls
