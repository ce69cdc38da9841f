-- The discriminants of an enum that count, what is asked with them, and the numbers of the tag.
use Rattle.std.specs.Prelude.{◌≡◌, ℕ, ◌%◌, ◌*◌, ◌^◌, ◌||◌, not, All, Bool, Contains, ℤ, pos, ◌≤ℤ◌, List, ◌∷◌, filter, map, Option, unwrap_or, if◌then◌else◌}
use Rattle.abi_base.specs.declared.data_layout.TargetDataLayout.{TargetDataLayout}
use Rattle.abi_base.specs.Integer.{integer_size}
use Rattle.abi_base.specs.IntegerType.{integer_of_type, is_signed_type}
use Rattle.abi_base.specs.Size.{signed_value}
use Rattle.abi_scalar.specs.declared.layout_data.LayoutData.{LayoutData}
use Rattle.abi_scalar.specs.declared.repr.ReprOptions.{ReprOptions}
use Rattle.abi_scalar.specs.declared.wrapping_range.WrappingRange.{WrappingRange}
use Rattle.abi_scalar.specs.LeastRange.{IsSmallestOf}
use Rattle.abi_scalar.specs.Range.{numbers_of}
use Rattle.abi_scalar.specs.Repr.{discr_type_of, is_c}
use Rattle.abi_calc.specs.Enums.EnumStrategy.{has_no_value, variant_at}

-- a discriminant counts under C, and else where each field of its variant may have values
abbrev pub counts : {F V : Type 0} → (number : V → ℕ) → ReprOptions → List (List (LayoutData F V)) → V × ℕ → Bool
counts number repr variants item = is_c repr || not (has_no_value (variant_at variants (number item.0)))

-- the discriminants that count
abbrev pub counted_discriminants : {F V : Type 0} → (number : V → ℕ) → ReprOptions → List (List (LayoutData F V)) → List (V × ℕ) → List ℕ
counted_discriminants number repr variants items = map (λ item. item.1) (filter (counts number repr variants) items)

-- the discriminants of the variants whose every field may have values
abbrev pub inhabited_of : {F V : Type 0} → (number : V → ℕ) → List (List (LayoutData F V)) → List (V × ℕ) → List ℕ
inhabited_of number variants items = map (λ item. item.1) (filter (λ item. not (has_no_value (variant_at variants (number item.0)))) items)

-- how many bits the type of the enum's discriminants has
abbrev pub discr_bits : TargetDataLayout → ReprOptions → ℕ
discr_bits dl repr = integer_size (integer_of_type dl (discr_type_of repr)) * 8

-- what a discriminant stands for: cut to its type where that has a sign, else itself
abbrev pub meant_by : TargetDataLayout → ReprOptions → ℕ → ℤ
meant_by dl repr value =
    if is_signed_type (discr_type_of repr) then signed_value (discr_bits dl repr) (value % 2 ^ discr_bits dl repr) else pos value

-- one of the numbers, and none is less
abbrev pub IsLeastOf : List ℤ → ℤ → Type 0
IsLeastOf numbers least = Contains numbers least × All (λ n. least ≤ℤ n) numbers

-- one of the numbers, and none is greater
abbrev pub IsGreatestOf : List ℤ → ℤ → Type 0
IsGreatestOf numbers greatest = Contains numbers greatest × All (λ n. n ≤ℤ greatest) numbers

-- the integer of the tag is asked for with the least and the greatest of 0 and what the discriminants stand for
abbrev pub IsAskedWith : TargetDataLayout → ReprOptions → (values : List ℕ) → (least : ℤ) → (greatest : ℕ) → Type 0
IsAskedWith dl repr values least greatest =
    IsLeastOf (pos 0 ∷ map (meant_by dl repr) values) least × IsGreatestOf (pos 0 ∷ map (meant_by dl repr) values) (pos greatest)

-- the range of a tag of so many bytes: the least that holds the discriminants, cut to them; of 0 alone where none counts
abbrev pub IsTagRange : (width : ℕ) → (values : List ℕ) → WrappingRange → Type 0
IsTagRange width values range =
    (found : Option WrappingRange) × IsSmallestOf width (map (λ v. v % numbers_of width) values) found
    × (range ≡ unwrap_or found (record { start = 0; end = 0 }))
