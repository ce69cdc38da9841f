-- Which way a type with variants is laid out.
use Rattle.std.specs.Prelude.{ℕ, ◌==◌, ◌&&◌, ◌||◌, not, Bool, true, false, List, [], ◌∷◌, filter, length, slice_index_or, is_some}
use Rattle.std.specs.List.{list_all, list_any}
use Rattle.abi_scalar.specs.declared.layout_data.LayoutData.{LayoutData}
use Rattle.abi_scalar.specs.declared.repr.ReprOptions.{ReprOptions}
use Rattle.abi_scalar.specs.Repr.{is_c}
use Rattle.abi_univariant.specs.Part.{is_unsized}
use Rattle.abi_univariant.specs.Placement.{source_order}
use Rattle.abi_calc.specs.declared.enums.strategy.EnumStrategy.{EnumStrategy}
use Rattle.abi_calc.specs.declared.enums.strategy.EnumStrategy.TheVariants.{NoValue, OneList, Several}

-- the fields of the variant at a place
abbrev pub variant_at : {A : Type 0} → List (List A) → ℕ → List A
variant_at variants i = slice_index_or variants i []

-- some field has no values
abbrev pub has_no_value : {F V : Type 0} → List (LayoutData F V) → Bool
has_no_value fields = list_any (λ f. f.uninhabited) fields

-- the field takes no room: it is sized, has no bytes and is aligned to one
abbrev pub takes_no_room : {F V : Type 0} → LayoutData F V → Bool
takes_no_room field = not (is_unsized field.backend_repr) && (field.size == 0) && (field.align.abi == 0)

-- a variant is absent where some field has no values and each takes no room
abbrev pub is_absent : {F V : Type 0} → List (LayoutData F V) → Bool
is_absent fields = has_no_value fields && list_all takes_no_room fields

-- the layout of the variants is free: neither C nor an integer is asked for
abbrev pub is_free : ReprOptions → Bool
is_free repr = not (is_c repr || is_some repr.int)

-- a variant is present where it isn't absent, and always where the layout isn't free
abbrev pub is_present : {F V : Type 0} → ReprOptions → List (LayoutData F V) → Bool
is_present repr fields = not (is_free repr) || not (is_absent fields)

-- the places of the variants that are present
abbrev pub present_of : {F V : Type 0} → ReprOptions → List (List (LayoutData F V)) → List ℕ
present_of repr variants = filter (λ i. is_present repr (variant_at variants i)) (source_order (length variants))

-- no variant that is present: no value; one, where the layout is free: that one's list; else a tag or a niche distinguishes them
abbrev pub strategy_among : (free : Bool) → (present : List ℕ) → EnumStrategy
strategy_among free [] = NoValue
strategy_among true (i ∷ []) = OneList i
strategy_among false (i ∷ []) = Several
strategy_among free (i ∷ j ∷ more) = Several

-- a struct is the list of its one variant; an enum goes by the variants that are present
abbrev pub strategy_of : {F V : Type 0} → (is_enum : Bool) → ReprOptions → List (List (LayoutData F V)) → EnumStrategy
strategy_of false repr variants = OneList 0
strategy_of true repr variants = strategy_among (is_free repr) (present_of repr variants)
