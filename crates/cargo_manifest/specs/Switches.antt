-- What features turn on (The Cargo Book, "Features").
use Rattle.std.specs.Prelude.{ℕ, ◌-◌, ◌==◌, ◌<◌, Bool, List, Option, None, Some, codes, drop, length, nat_eq, nat_lt, slice_index, take, if◌then◌else◌}
use Rattle.std.specs.List.{after_first, before_first, position_or_len, starts_with}
use Rattle.cargo_manifest.specs.Values.{Text}
use Rattle.cargo_manifest.specs.declared.entry.Switch.{Switch}
use Rattle.cargo_manifest.specs.declared.entry.Switch.TheVariants as lent

-- a feature of the package, a dependency, a feature of a dependency, which is turned on with it, and one of a dependency that something
-- else turns on
pub data TurnsOn : Type 0 where
  feature : (name : Text) → TurnsOn
  dependency : (name : Text) → TurnsOn
  dependency_feature : (name of : Text) → TurnsOn
  weak_feature : (name of : Text) → TurnsOn

-- what is lent
abbrev pub switch_view : Switch → TurnsOn
switch_view (lent.Feature name) = feature name.now
switch_view (lent.Dependency name) = dependency name.now
switch_view (lent.DependencyFeature name of) = dependency_feature name.now of.now
switch_view (lent.WeakFeature name of) = weak_feature name.now of.now

-- what stands before a `?` at a text's end
abbrev pub before_question_mark : Text → Option Text
before_question_mark t = if slice_index t (length t - 1) == 63 then Some (take (length t - 1) t) else None

-- `name/feature` and `name?/feature`
abbrev pub of_dependency : (name of : Text) → TurnsOn
of_dependency name of = elim (before_question_mark name) [ None ↦ dependency_feature name of | Some before ↦ weak_feature before of ]

abbrev pub is_slash : ℕ → Bool
is_slash b = b == 47

-- what an entry turns on: with a `/` a feature of a dependency, behind `dep:` a dependency, and else a feature
abbrev pub switch_said : Text → TurnsOn
switch_said t =
    if nat_lt (position_or_len is_slash t) (length t) then of_dependency (before_first is_slash t) (after_first is_slash t)
    else if starts_with nat_eq t (codes "dep:") then dependency (drop 4 t)
    else feature t
