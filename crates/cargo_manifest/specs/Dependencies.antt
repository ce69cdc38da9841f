-- The dependencies of a package (The Cargo Book, "Specifying Dependencies").
use Rattle.std.specs.Prelude.{◌++◌, Bool, List, Option, None, Some, codes, flat_map, map, option_map, unwrap_or}
use Rattle.toml.specs.Data.{Data, as_str}
use Rattle.toml.specs.View.{view}
use Rattle.cargo_manifest.specs.Values.{Text, bool_at, entries_at, is_true_at, string_at, strings_at}
use Rattle.cargo_manifest.specs.declared.dependency.Dependency.{Dependency as LentDependency}

-- a dependency: its name, what stands there, and the target that it's for, where it isn't for all
pub record Dependency : Type 0 where
  pub name : Text
  pub value : Data
  pub target : Option Text

abbrev pub dependency_view : LentDependency → Dependency
dependency_view d = record { name = d.name.now; value = view d.value.now; target = option_map (λ t. t.now) d.target }

-- the name of its package, its path, and the versions that it may have
abbrev pub package_of : Dependency → Text
package_of d = unwrap_or (string_at (codes "package") d.value) d.name

abbrev pub dependency_path : Dependency → Option Text
dependency_path d = string_at (codes "path") d.value

abbrev pub dependency_version : Dependency → Option Text
dependency_version d = elim (as_str d.value) [ Some version ↦ Some version | None ↦ string_at (codes "version") d.value ]

-- whether it's optional, what it says of default features, whether the workspace says what it is, and the features that it's asked for
abbrev pub is_optional : Dependency → Bool
is_optional d = is_true_at (codes "optional") d.value

abbrev pub default_features_of : Dependency → Option Bool
default_features_of d = elim (bool_at (codes "default-features") d.value) [ Some uses ↦ Some uses | None ↦ bool_at (codes "default_features") d.value ]

abbrev pub is_inherited : Dependency → Bool
is_inherited d = is_true_at (codes "workspace") d.value

abbrev pub dependency_features : Dependency → List Text
dependency_features d = strings_at (codes "features") d.value

-- one that stands in a table, for a target
abbrev pub dependency_at : (target : Option Text) → Text × Data → Dependency
dependency_at target e = record { name = e.0; value = e.1; target = target }

-- those at a key of a table, for a target
abbrev pub dependencies_in : (key : Text) → (target : Option Text) → Data → List Dependency
dependencies_in key target d = map (dependency_at target) (entries_at key d)

-- those at a key of a manifest: for all targets, and for each that is named
abbrev pub dependencies_of : (key : Text) → Data → List Dependency
dependencies_of key m = dependencies_in key None m ++ flat_map (λ e. dependencies_in key (Some e.0) e.1) (entries_at (codes "target") m)

-- those of a package, and those of its build script
abbrev pub package_dependencies : Data → List Dependency
package_dependencies m = dependencies_of (codes "dependencies") m

abbrev pub build_dependencies : Data → List Dependency
build_dependencies m = dependencies_of (codes "build-dependencies") m
