-- Constants of types.
use Rattle.std.specs.Prelude.{ℕ, ◌+◌, ◌&&◌, nat_eq, Bool, List, [], ◌∷◌, length, slice_get, Option, None, Some, if◌then◌else◌}
use Rattle.std.specs.Option.{option_and_then, option_or}
use Rattle.rust_source.specs.declared.item.Item.{Item}
use Rattle.rust_source.specs.declared.item.ItemKind.{ItemKind}
use Rattle.rust_source.specs.declared.item.ItemKind.TheVariants.{Const as ConstItem}
use Rattle.rust_source.specs.declared.item.Items.{Items}
use Rattle.rust_source.specs.declared.place.Symbol.{Symbol}
use Rattle.rust_source.specs.declared.syntax.Path.{Path, out-Path}
use Rattle.abi_rust.specs.declared.scope.Scope.{Scope}
use Rattle.abi_rust.specs.Kinds.{type_named}
use Rattle.abi_rust.specs.Standing.{ModuleName, first_so, is_module_number}
use Rattle.abi_rust.specs.Scope.{numbered}

-- what the last of these tells that has the number, the first of which stands at this index
abbrev pub last_known : {A B : Type 0} → (A → Option B) → (index number : ℕ) → List A → Option B
last_known report_on i n [] = None
last_known report_on i n (x ∷ xs) = option_or (last_known report_on (i + 1) n xs) (if nat_eq (numbered i) n then report_on x else None)

-- a constant of this name of the type is the one that is asked for
abbrev pub is_own : ModuleName → (owner : Option ℕ) → Symbol → Bool
is_own k owner name = is_module_number k.0 owner && nat_eq name.0 k.1

module _ (items : Items) (named : (inside : ℕ) → Path → (count : ℕ) → Option ℕ) where
  -- the type of this number, where it has no parameters
  abbrev pub without_parameters : ℕ → Item → Option ℕ
  without_parameters n it = if nat_eq (length it.parameters.items) 0 then Some n else None

  -- the type without parameters that a path names in a module
  abbrev pub type_alone : (inside : ℕ) → Path → Option ℕ
  type_alone m p =
      option_and_then (λ n. option_and_then (without_parameters n) (slice_get items.items.items n))
      (named m p (length (out-Path p).segments.items))

  -- the type whose own a constant is
  abbrev pub owner_of_kind : (inside : ℕ) → ItemKind → Option ℕ
  owner_of_kind m (ConstItem c) = option_and_then (λ o. option_and_then (type_alone m) (slice_get items.owners.items o)) c.owner
  owner_of_kind m _ = None

  -- the type without parameters whose own an item is, where paths name these types
  unfoldable pub own_type_by : Item → Option ℕ
  own_type_by it = owner_of_kind it.«module» it.kind

module _ (items : Items) (scope : Scope) where
  -- the type without parameters whose own an item is
  abbrev pub own_type : Item → Option ℕ
  own_type = own_type_by items (type_named items scope)

  -- the type whose own the constant with this number is
  abbrev pub type_owning : (number : ℕ) → Option ℕ
  type_owning n = last_known own_type 0 n items.items.items

  -- a constant of this name is the type's own
  abbrev pub is_own_at : (of_type_and_name : ModuleName) → Item → Bool
  is_own_at k it = is_own k (own_type it) it.name

  -- the constant of this name that is the type's own: of several the first
  abbrev pub own_at : (of_type_and_name : ModuleName) → Option ℕ
  own_at k = first_so (is_own_at k) 0 items.items.items
