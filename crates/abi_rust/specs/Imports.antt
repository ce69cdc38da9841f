-- Imports beside items of their names.
use Rattle.std.specs.Prelude.{ℕ, ◌+◌, ◌-◌, ◌&&◌, ◌||◌, not, nat_eq, Bool, true, false, List, [], ◌∷◌, is_some, length, slice_get, Option, None, Some, if◌then◌else◌}
use Rattle.std.specs.Option.{option_and_then, option_map, option_or}
use Rattle.rust_source.specs.declared.item.Item.{Item}
use Rattle.rust_source.specs.declared.item.ItemKind.{ItemKind}
use Rattle.rust_source.specs.declared.item.ItemKind.TheVariants.{Struct as StructItem}
use Rattle.rust_source.specs.declared.item.Items.{Items}
use Rattle.rust_source.specs.declared.item.Use.{Use}
use Rattle.rust_source.specs.declared.item.UsedName.{UsedName}
use Rattle.rust_source.specs.declared.place.Place.{Place}
use Rattle.rust_source.specs.declared.place.Symbol.{Symbol}
use Rattle.abi_rust.specs.declared.fault.FaultKind.TheVariants.{RepeatedConstant, RepeatedType}
use Rattle.abi_rust.specs.declared.fault.Stop.{Stop}
use Rattle.abi_rust.specs.declared.fault.Stop.TheVariants.{Fault}
use Rattle.abi_rust.specs.declared.paths.Resolution.{Resolution}
use Rattle.abi_rust.specs.declared.paths.Resolution.TheVariants.{Module, Item as ItemFound}
use Rattle.abi_rust.specs.declared.paths.Space.TheVariants.{Types, Values}
use Rattle.abi_rust.specs.declared.scope.Scope.{Scope}
use Rattle.abi_rust.specs.Names.{root, target_in}
use Rattle.abi_rust.specs.Scope.{constant_standing, module_in, numbered, type_standing}
use Rattle.abi_rust.specs.Standing.{is_constructor}

-- an item or a module for certain
abbrev pub is_certain : Option Resolution → Bool
is_certain (Some (ItemFound n)) = true
is_certain (Some (Module m)) = true
is_certain _ = false

-- the last name of a use's path
abbrev pub last_used : List UsedName → Option UsedName
last_used names = slice_get names (length names - 1)

-- where a use's name stands, as its path has it
abbrev pub place_of_use : Use → Option Place
place_of_use u = option_map (λ name. name.at) (last_used u.path.items)

-- a struct without parentheses and braces
abbrev pub is_unit_struct : ItemKind → Bool
is_unit_struct (StructItem fields) = fields.is_unit
is_unit_struct _ = false

-- the name of an item that there may be is a value's too
abbrev pub is_value : Option Item → Bool
is_value None = false
is_value (Some it) = is_constructor it.kind

module _ (items : Items) (scope : Scope) where
  -- a type, a trait or a module of this name stands in the module
  abbrev pub type_stands : (inside : ℕ) → Symbol → Bool
  type_stands m name = is_some (type_standing scope m name) || is_some (module_in scope m name)

  -- a constant, a function or a struct whose name is a value's stands there
  abbrev pub value_stands : (inside : ℕ) → Symbol → Bool
  value_stands m name =
      is_some (constant_standing scope m name) || is_value (option_and_then (slice_get items.items.items) (type_standing scope m name))

  -- a struct whose name is a value's wherever it may be used: those of the standard library may have fields that aren't known
  abbrev pub is_unit_item : Option Item → Bool
  is_unit_item None = false
  is_unit_item (Some it) = is_unit_struct it.kind && not (nat_eq (root items it.«module») scope.std_root)

  abbrev pub is_unit_found : Option Resolution → Bool
  is_unit_found (Some (ItemFound n)) = is_unit_item (slice_get items.items.items n)
  is_unit_found _ = false

  -- a use brings in a type, a trait or a module for certain
  abbrev pub brings_type : (use_number : ℕ) → Bool
  brings_type u = is_certain (target_in scope.use_targets.items u Types)

  -- a use brings in a constant, a function or a struct whose name is a value's for certain
  abbrev pub brings_value : (use_number : ℕ) → Bool
  brings_value u = is_certain (target_in scope.use_targets.items u Values) || is_unit_found (target_in scope.use_targets.items u Types)

  -- the fault of a use that brings in what an item of this name in its module is too
  abbrev pub repeated_name : (use_number : ℕ) → Use → Symbol → Option Stop
  repeated_name u used name =
      if brings_type u && type_stands used.«module» name then Some (Fault (place_of_use used) (RepeatedType name))
      else (if brings_value u && value_stands used.«module» name then Some (Fault (place_of_use used) (RepeatedConstant name)) else None)

  abbrev pub repeated_use : (use_number : ℕ) → Use → Option Stop
  repeated_use u used = option_and_then (repeated_name u used) used.name

  -- the fault of the first of these uses that has one, the first of which has this number
  abbrev pub repeated_from : (use_number : ℕ) → List Use → Option Stop
  repeated_from n [] = None
  repeated_from n (used ∷ uses) = option_or (repeated_use (numbered n) used) (repeated_from (n + 1) uses)

  -- the fault of the first use beside an item of its name (Rust Reference, "Use declarations")
  abbrev pub repeated_import : Option Stop
  repeated_import = repeated_from 0 items.uses.items
