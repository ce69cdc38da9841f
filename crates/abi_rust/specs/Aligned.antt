-- What a repr asks of the fields of a type.
use Rattle.std.specs.Prelude.{ℕ, zero, suc, ◌&&◌, ◌||◌, not, nat_eq, is_some, Bool, true, false, List, [], ◌∷◌, length, Option, Some, None, Ok, if◌then◌else◌}
use Rattle.rust_source.specs.declared.item.Field.{Field}
use Rattle.rust_source.specs.declared.item.Item.{Item}
use Rattle.rust_source.specs.declared.item.ItemKind.{ItemKind}
use Rattle.rust_source.specs.declared.item.ItemKind.TheVariants.{Alias as AliasItem, Struct as StructItem, Union as UnionItem}
use Rattle.rust_source.specs.declared.item.Variant.{Variant}
use Rattle.rust_source.specs.declared.place.Place.{Place}
use Rattle.rust_source.specs.declared.syntax.«Type».{«Type» as Written}
use Rattle.abi_rust.specs.declared.fault.FaultKind.TheVariants.{AlignedInPacked, DiscriminantWithoutRepr}
use Rattle.abi_rust.specs.declared.paths.Resolution.{Resolution}
use Rattle.abi_rust.specs.declared.paths.Resolution.TheVariants.{Item as ItemFound}
use Rattle.abi_rust.specs.declared.budget.Context.{Context}
use Rattle.abi_rust.specs.Kinds.{found_by, is_parameter_of, item_at}
use Rattle.abi_rust.specs.Meaning.{Meaning, then_meant, fault_at, too_deep}
use Rattle.abi_rust.specs.Names.{root}

-- whether fields that are written in an item, a type that is, or an item has `align`, or a field of it
pub record Aligning : Type 0 where
  pub of_fields : (inside : Item) → List Field → Meaning Bool
  pub of_type : (inside : Item) → Written → Meaning Bool
  pub of_item : Item → List Field → Meaning Bool

-- the place of the `repr`, where there is one; else this place
abbrev pub place_or : Place → Option Place → Place
place_or at None = at
place_or at (Some repr) = repr

-- where an item's repr stands, or its name where it has none
abbrev pub place_of_repr : Item → Place
place_of_repr it = place_or it.at it.repr.at

-- a discriminant of these variants is written
abbrev pub any_written : List Variant → Bool
any_written [] = false
any_written (v ∷ vs) = is_some v.discriminant || any_written vs

-- each of these variants is a name alone, without parentheses or braces
abbrev pub all_units : List Variant → Bool
all_units [] = true
all_units (v ∷ vs) = v.fields.is_unit && all_units vs

-- an enum with a discriminant, and with a variant that is no name alone, has an integer as its repr
abbrev pub discriminants_checked : Item → List Variant → Meaning Bool
discriminants_checked it vs =
    if not (is_some it.repr.integer) && (any_written vs && not (all_units vs)) then fault_at it.at DiscriminantWithoutRepr else Ok true

module _ (cx : Context) where
  module _ (A : Aligning) where
    -- one of these fields has `align` in its type, or in a field of that
    abbrev pub any_aligned : (inside : Item) → List Field → Meaning Bool
    any_aligned it [] = Ok false
    any_aligned it (f ∷ fs) = then_meant (λ is. if is then Ok true else any_aligned it fs) (A.of_type it f.ty)

    abbrev pub kind_aligned : Item → ItemKind → Meaning Bool
    kind_aligned it (AliasItem t) = A.of_type it t
    kind_aligned it (StructItem fields) = A.of_item it fields.all.items
    kind_aligned it (UnionItem fields) = A.of_item it fields.all.items
    kind_aligned it _ = Ok false

    abbrev pub item_aligned : Option Item → Meaning Bool
    item_aligned None = Ok false
    item_aligned (Some it) = kind_aligned it it.kind

    abbrev pub found_aligned : Option Resolution → Meaning Bool
    found_aligned (Some (ItemFound n)) = item_aligned (item_at cx.items.now cx.scope.now n)
    found_aligned _ = Ok false

    -- a type has `align`, or a field of it: by what it names alone, which of a parameter is nothing
    unfoldable pub type_aligned : (inside : Item) → Written → Meaning Bool
    type_aligned it t = if is_parameter_of it t then Ok false else found_aligned (found_by cx.items.now cx.scope.now it.«module» t)

    -- a struct or a union has `align`, or a field of it, of which the standard library's aren't looked at
    unfoldable pub fields_aligned : Item → List Field → Meaning Bool
    fields_aligned it fs =
        if is_some it.repr.align then Ok true
        else (if nat_eq (root cx.items.now it.«module») cx.scope.now.std_root then Ok false else A.of_fields it fs)

  -- the same, where types may need one another so deep
  unfoldable pub aligning : (depth_left : ℕ) → Aligning
  aligning zero = record { of_fields = λ it fs. too_deep; of_type = λ it t. too_deep; of_item = λ it fs. too_deep }
  aligning (suc depth_left) = record { of_fields = any_aligned (aligning depth_left); of_type = type_aligned (aligning depth_left); of_item = fields_aligned (aligning depth_left) }

  -- a packed struct or union has no field whose type has `align`
  unfoldable pub packed_checked : (depth_left : ℕ) → Item → List Field → Meaning Bool
  packed_checked depth_left it fs =
      if is_some it.repr.packed
      then then_meant (λ is. if is then fault_at (place_of_repr it) AlignedInPacked else Ok true) ((aligning depth_left).of_fields it fs)
      else Ok true
