-- Which keys of a manifest are read, and what each has to have (The Cargo Book, "The Manifest Format").
use Rattle.std.specs.Prelude.{◌++◌, ◌||◌, Bool, List, [], ◌∷◌, codes, map, option_to_list}
use Rattle.std.specs.List.{list_all}
use Rattle.std.specs.Option.{is_some}
use Rattle.toml.specs.Data.{Data, as_array, as_bool, as_str, as_table, get}
use Rattle.cargo_manifest.specs.Editions.{edition_said}
use Rattle.cargo_manifest.specs.Values.{Text, entries_in, items_in}
use Rattle.cargo_manifest.specs.declared.schema.Rule.{Rule as LentRule}
use Rattle.cargo_manifest.specs.declared.schema.Step.{Step as LentStep}
use Rattle.cargo_manifest.specs.declared.schema.Step.TheVariants.{Key, EachKey, EachItem}
use Rattle.cargo_manifest.specs.declared.schema.KeyKind.{KeyKind}
use Rattle.cargo_manifest.specs.declared.schema.KeyKind.TheVariants.{String, Boolean, List as ListKind, Table, StringOrTable, Edition, BuildScript}

abbrev pub is_of_kind : KeyKind → Data → Bool
is_of_kind String d = is_some (as_str d)
is_of_kind Boolean d = is_some (as_bool d)
is_of_kind ListKind d = is_some (as_array d)
is_of_kind Table d = is_some (as_table d)
is_of_kind StringOrTable d = is_some (as_str d) || is_some (as_table d)
is_of_kind Edition d = is_some (edition_said d)
is_of_kind BuildScript d = (is_some (as_str d) || is_some (as_bool d)) || is_some (as_array d)

-- a step on the way to a value: to that at a key, to that at each key, to each item of a list
pub data Step : Type 0 where
  key : Text → Step
  each_key : Step
  each_item : Step

-- the values that a step leads to
abbrev pub below : Step → Data → List Data
below (key k) d = option_to_list (get k d)
below each_key d = map (λ e. e.1) (entries_in d)
below each_item d = items_in d

-- each value that a way leads to is of a kind
abbrev pub fits : (way : List Step) → KeyKind → Data → Bool
fits [] kind d = is_of_kind kind d
fits (step ∷ way) kind d = list_all (fits way kind) (below step d)

-- a way, and the kind of which the values are that it leads to
abbrev pub Rule : Type 0
Rule = List Step × KeyKind

abbrev pub fits_rule : Data → Rule → Bool
fits_rule d rule = fits rule.0 rule.1 d

-- what is asked of a package, of its library and binaries, and of its features
abbrev pub package_rules : List Rule
package_rules =
    (key (codes "package") ∷ [], Table)
    ∷ (key (codes "package") ∷ key (codes "name") ∷ [], String)
    ∷ (key (codes "package") ∷ key (codes "version") ∷ [], StringOrTable)
    ∷ (key (codes "package") ∷ key (codes "workspace") ∷ [], String)
    ∷ (key (codes "package") ∷ key (codes "edition") ∷ [], Edition)
    ∷ (key (codes "package") ∷ key (codes "build") ∷ [], BuildScript)
    ∷ []

abbrev pub target_rules : List Rule
target_rules =
    (key (codes "lib") ∷ [], Table)
    ∷ (key (codes "lib") ∷ key (codes "path") ∷ [], String)
    ∷ (key (codes "lib") ∷ key (codes "name") ∷ [], String)
    ∷ (key (codes "lib") ∷ key (codes "proc-macro") ∷ [], Boolean)
    ∷ (key (codes "lib") ∷ key (codes "proc_macro") ∷ [], Boolean)
    ∷ (key (codes "bin") ∷ [], ListKind)
    ∷ (key (codes "bin") ∷ each_item ∷ [], Table)
    ∷ (key (codes "bin") ∷ each_item ∷ key (codes "path") ∷ [], String)
    ∷ (key (codes "bin") ∷ each_item ∷ key (codes "name") ∷ [], String)
    ∷ []

abbrev pub feature_rules : List Rule
feature_rules =
    (key (codes "features") ∷ [], Table)
    ∷ (key (codes "features") ∷ each_key ∷ [], ListKind)
    ∷ (key (codes "features") ∷ each_key ∷ each_item ∷ [], String)
    ∷ []

-- of dependencies
abbrev pub dependency_rules : List Rule
dependency_rules =
    (key (codes "dependencies") ∷ [], Table)
    ∷ (key (codes "dependencies") ∷ each_key ∷ [], StringOrTable)
    ∷ (key (codes "dependencies") ∷ each_key ∷ key (codes "package") ∷ [], String)
    ∷ (key (codes "dependencies") ∷ each_key ∷ key (codes "path") ∷ [], String)
    ∷ (key (codes "dependencies") ∷ each_key ∷ key (codes "version") ∷ [], String)
    ∷ (key (codes "dependencies") ∷ each_key ∷ key (codes "optional") ∷ [], Boolean)
    ∷ (key (codes "dependencies") ∷ each_key ∷ key (codes "default-features") ∷ [], Boolean)
    ∷ (key (codes "dependencies") ∷ each_key ∷ key (codes "default_features") ∷ [], Boolean)
    ∷ (key (codes "dependencies") ∷ each_key ∷ key (codes "workspace") ∷ [], Boolean)
    ∷ (key (codes "dependencies") ∷ each_key ∷ key (codes "features") ∷ [], ListKind)
    ∷ (key (codes "dependencies") ∷ each_key ∷ key (codes "features") ∷ each_item ∷ [], String)
    ∷ []

-- of those of the build script, which may be optional, too
abbrev pub build_rules : List Rule
build_rules =
    (key (codes "build-dependencies") ∷ [], Table)
    ∷ (key (codes "build-dependencies") ∷ each_key ∷ [], StringOrTable)
    ∷ (key (codes "build-dependencies") ∷ each_key ∷ key (codes "optional") ∷ [], Boolean)
    ∷ []

-- of those of a target, and of a workspace
abbrev pub rules_of_targets : List Rule
rules_of_targets =
    (key (codes "target") ∷ [], Table)
    ∷ (key (codes "target") ∷ each_key ∷ [], Table)
    ∷ []

abbrev pub workspace_rules : List Rule
workspace_rules =
    (key (codes "workspace") ∷ [], Table)
    ∷ (key (codes "workspace") ∷ key (codes "members") ∷ [], ListKind)
    ∷ (key (codes "workspace") ∷ key (codes "members") ∷ each_item ∷ [], String)
    ∷ (key (codes "workspace") ∷ key (codes "exclude") ∷ [], ListKind)
    ∷ (key (codes "workspace") ∷ key (codes "exclude") ∷ each_item ∷ [], String)
    ∷ (key (codes "workspace") ∷ key (codes "package") ∷ [], Table)
    ∷ (key (codes "workspace") ∷ key (codes "package") ∷ key (codes "edition") ∷ [], Edition)
    ∷ []

-- the same rules behind other steps
abbrev pub behind : (way : List Step) → List Rule → List Rule
behind way rs = map (λ r. (way ++ r.0, r.1)) rs

unfoldable pub rules : List Rule
rules =
    package_rules ++ target_rules ++ feature_rules ++ dependency_rules ++ build_rules
    ++ rules_of_targets ++ behind (key (codes "target") ∷ each_key ∷ []) (dependency_rules ++ build_rules)
    ++ workspace_rules ++ behind (key (codes "workspace") ∷ []) dependency_rules

-- each key has what it has to have
abbrev pub is_manifest : Data → Bool
is_manifest d = list_all (fits_rule d) rules

-- what is lent
abbrev pub step_view : LentStep → Step
step_view (Key k) = key k.now
step_view EachKey = each_key
step_view EachItem = each_item

abbrev pub rule_view : LentRule → Rule
rule_view r = (map step_view r.way.now, r.kind)
