-- What an enum asks of its discriminants and of its tag, and what the calculator answers to its variants.
use Rattle.std.specs.Prelude.{◌≡◌, ℕ, ◌+◌, ◌-◌, ◌*◌, ◌^◌, ◌==◌, ◌&&◌, ◌||◌, Bool, true, false, List, [], ◌∷◌, map, min, nat_le, nat_lt, ℤ, pos, negsuc, find, option_map, unwrap_or, if◌then◌else◌, Result, Ok, Err}
use Rattle.std.specs.List.{list_any}
use Rattle.abi_base.specs.declared.data_layout.TargetDataLayout.{TargetDataLayout}
use Rattle.abi_base.specs.declared.integer.Integer.{Integer}
use Rattle.abi_base.specs.declared.integer.Integer.TheVariants.{I128}
use Rattle.abi_base.specs.declared.niche_optimizations.NicheOptimizations.TheVariants.{Enabled}
use Rattle.abi_base.specs.Integer.{integer_size, integers}
use Rattle.abi_base.specs.IntegerType.{integer_of_type, is_signed_type}
use Rattle.abi_scalar.specs.declared.error.LayoutCalculatorError.{LayoutCalculatorError}
use Rattle.abi_scalar.specs.declared.error.LayoutCalculatorError.TheVariants.{OutOfMemory}
use Rattle.abi_scalar.specs.declared.repr.ReprOptions.{ReprOptions}
use Rattle.abi_scalar.specs.declared.variants.RangeFrom.{RangeFrom}
use Rattle.abi_scalar.specs.declared.variants.RangeToInclusive.{RangeToInclusive}
use Rattle.abi_scalar.specs.declared.variants.VariantLayout.{VariantLayout}
use Rattle.abi_scalar.specs.Repr.{discr_type_of, is_c}
use Rattle.abi_scalar.specs.Variant.{variant_layout}
use Rattle.abi_calc.specs.Enums.Answer.{IsTypeAnswer}
use Rattle.abi_calc.specs.Enums.Discriminants.{counted_discriminants, discr_bits}
use Rattle.abi_calc.specs.Enums.EnumStrategy.{strategy_of}
use Rattle.rustc_abi.specs.declared.error.LayError.{LayError}
use Rattle.abi_tree.specs.Tree.{Variants, no_variants, more_variants}
use Rattle.abi_tree.specs.declared.mark.Mark.{Mark}
use Rattle.abi_tree.specs.Placed.{Placed, layout_of, TaggedVariants, nothing_tagged, tagged_variant}
use Rattle.abi_scalar.specs.Layout.{Layout}
use Rattle.abi_tree.specs.Nodes.{parts_at}
use Rattle.rustc_abi.specs.Error.{lay_error}

-- each variant's discriminant
abbrev pub discriminants_of : Variants → List ℕ
discriminants_of no_variants = []
discriminants_of (more_variants discriminant fields others) = discriminant ∷ discriminants_of others

-- two of the numbers are equal
abbrev pub has_equal : List ℕ → Bool
has_equal [] = false
has_equal (n ∷ ns) = list_any (λ m. n == m) ns || has_equal ns

-- the number of 128 bits, in two's complement, is one of the type of the enum's discriminants
abbrev pub is_discriminant : TargetDataLayout → ReprOptions → ℕ → Bool
is_discriminant dl repr n =
    if is_signed_type (discr_type_of repr)
    then nat_lt n (2 ^ (discr_bits dl repr - 1)) || (nat_le (2 ^ 128 - 2 ^ (discr_bits dl repr - 1)) n && nat_lt n (2 ^ 128))
    else nat_lt n (2 ^ discr_bits dl repr)

-- ---- the tag's integer

abbrev pub is_negative : ℤ → Bool
is_negative (pos n) = false
is_negative (negsuc n) = true

-- the integer holds both numbers: as a signed one where the least is negative
abbrev pub holds_both : (least : ℤ) → (greatest : ℕ) → Integer → Bool
holds_both (pos n) greatest integer = nat_lt greatest (2 ^ (integer_size integer * 8))
holds_both (negsuc n) greatest integer =
    nat_lt n (2 ^ (integer_size integer * 8 - 1)) && nat_lt greatest (2 ^ (integer_size integer * 8 - 1))

-- the least integer of at least so many bytes that holds both numbers
abbrev pub least_integer : (bytes : ℕ) → (least : ℤ) → (greatest : ℕ) → Integer
least_integer bytes least greatest =
    unwrap_or (find (λ integer. nat_le bytes (integer_size integer) && holds_both least greatest integer) integers) I128

-- how many bytes a tag has at least: under C as many as the least C enum or an index, whichever is smaller
abbrev pub least_tag : TargetDataLayout → ReprOptions → ℕ
least_tag dl repr =
    if is_c repr then min (integer_size dl.c_enum_min_size) dl.default_address_space_pointer_spec.pointer_offset else 1

-- the integer of a tag that has to hold both numbers, and whether it is signed: the one that is named, else the least that is
-- enough, signed where the least number is negative
abbrev pub tag_integer : TargetDataLayout → ReprOptions → (least : ℤ) → (greatest : ℕ) → Integer × Bool
tag_integer dl repr least greatest =
    unwrap_or (option_map (λ type. (integer_of_type dl type, is_signed_type type)) repr.int)
    (least_integer (least_tag dl repr) least greatest, is_negative least)

-- the same as what is answered where the calculator asks for it
abbrev pub IsTagIntegerAnswer : TargetDataLayout → ReprOptions → RangeFrom ℤ → RangeToInclusive ℕ → Integer × Bool → Type 0
IsTagIntegerAnswer dl repr from to answer = answer ≡ tag_integer dl repr from.start to.last

-- ---- the calculator's answer

-- each discriminant with the index of its variant, from an index on
abbrev pub numbered_from : (from : ℕ) → List ℕ → List (ℕ × ℕ)
numbered_from from [] = []
numbered_from from (n ∷ ns) = (from, n) ∷ numbered_from (from + 1) ns

-- the layouts of the variants' fields
abbrev pub layouts_of : List (List Placed) → List (List Layout)
layouts_of variants = map (map layout_of) variants

-- the discriminants that count for the tag
abbrev pub counted : ReprOptions → (numbers : List ℕ) → List (List Placed) → List ℕ
counted repr numbers variants = counted_discriminants (λ i. i) repr (layouts_of variants) (numbered_from 0 numbers)

-- the calculator's answer to these variants with these discriminants
abbrev pub IsCalculated : TargetDataLayout → ReprOptions → (numbers : List ℕ) → List (List Placed) → Result Layout (LayoutCalculatorError Placed) → Type 0
IsCalculated dl repr numbers variants =
    IsTypeAnswer layout_of (λ i. i) (λ i. i) (λ i. i) (λ i. i) dl repr variants true true Enabled (IsTagIntegerAnswer dl repr)
    (λ items. items ≡ numbered_from 0 numbers) (strategy_of true repr (layouts_of variants))

-- the same, memory aside, with its refusal by the name that a tree's layout has for it
abbrev pub IsEnumed : TargetDataLayout → ReprOptions → (numbers : List ℕ) → List (List Placed) → Result Layout LayError → Type 0
IsEnumed dl repr numbers variants (Ok layout) = IsCalculated dl repr numbers variants (Ok layout)
IsEnumed dl repr numbers variants (Err e) =
    (error : LayoutCalculatorError Placed) × IsCalculated dl repr numbers variants (Err error) × (error ≡ OutOfMemory → ⊥) × (e ≡ lay_error error)

-- ---- its parts

-- the variants or states beside a tag, from this index on: each has its number, the layout that it has as a type of its
-- own, as one of this whole, the mark, and its fields at the offsets of its layout
abbrev pub tagged_variants_at : (whole : Layout) → Mark → (index : ℕ) → List (VariantLayout ℕ) → (numbers : List ℕ)
    → List (List Placed) → TaggedVariants
tagged_variants_at whole mark i (layout ∷ layouts) (n ∷ numbers) (fields ∷ variants) =
    tagged_variant n (variant_layout whole i layout) mark (parts_at layout.field_offsets fields)
    (tagged_variants_at whole mark (i + 1) layouts numbers variants)
tagged_variants_at whole mark i _ _ _ = nothing_tagged
