-- Whether some bytes are padding of some variants and not of others.
use Rattle.std.proofs.Common.{◌≡◌, ℕ, suc, ◌+◌, ◌-◌, ◌<◌, ◌≤◌, Bool, true, false, List, length, refl, ap, ◌∙◌, arith}
use Rattle.std.specs.Prelude.{◌&&◌, ◌||◌}
use Rattle.std.specs.List.{list_any, range_with_len}
use Rattle.std.proofs.lemmas.Bool.{lt-ltb, le-ltb}
use Rattle.abi_scalar.specs.declared.fields_shape.FieldsShape.TheVariants.{Primitive, Union, Array, Arbitrary}
use Rattle.abi_scalar.specs.declared.scalar.Scalar.{Scalar}
use Rattle.abi_scalar.specs.declared.variants.TagEncoding.{TagEncoding}
use Rattle.abi_scalar.specs.declared.variants.VariantLayout.{VariantLayout}
use Rattle.abi_scalar.specs.declared.variants.Variants.TheVariants.{Empty, Single, Multiple}
use Rattle.abi_types.specs.Ty.Typed.{Typed, typed, no_type, field_in, layout_in}
use Rattle.abi_types.specs.Ty.Walks.{has_variant_dependent_padding, some_field_has}

-- with a tag that distinguishes variants
pub of_several : (t : Typed) (tag : Scalar) (encoding : TagEncoding ℕ) (at : ℕ) (layouts : List (VariantLayout ℕ)) → (layout_in t).variants ≡ Multiple tag encoding at layouts → has_variant_dependent_padding t ≡ true
of_several (typed l m f v) tag encoding at layouts e = rw e refl
of_several no_type tag encoding at layouts e = cc

-- without a value
pub of_none : (t : Typed) → (layout_in t).variants ≡ Empty → has_variant_dependent_padding t ≡ false
of_none (typed l m f v) e = rw e refl
of_none no_type e = refl

abbrev has_each : Typed → (i : ℕ) → Bool
has_each t i = has_variant_dependent_padding (field_in t i)

of_one : (t : Typed) (only : ℕ) → (layout_in t).variants ≡ Single only → has_variant_dependent_padding t ≡ some_field_has (layout_in t).fields (has_each t)
of_one (typed l m f v) only e = rw e refl
of_one no_type only e = refl

-- elements of an array
pub of_elements : (t : Typed) (only stride count : ℕ) → (layout_in t).variants ≡ Single only → (layout_in t).fields ≡ Array stride count → 0 < count → has_variant_dependent_padding t ≡ has_variant_dependent_padding (field_in t 0)
of_elements t only stride count e s some = of_one t only e ∙ ap (λ s. some_field_has s (has_each t)) s ∙ ap (λ b. b && has_each t 0) (lt-ltb 0 count some)

pub of_empty_array : (t : Typed) (only stride count : ℕ) → (layout_in t).variants ≡ Single only → (layout_in t).fields ≡ Array stride count → count ≤ 0 → has_variant_dependent_padding t ≡ false
of_empty_array t only stride count e s none = of_one t only e ∙ ap (λ s. some_field_has s (has_each t)) s ∙ ap (λ b. b && has_each t 0) (le-ltb 0 count none)

pub of_union : (t : Typed) (only count : ℕ) → (layout_in t).variants ≡ Single only → (layout_in t).fields ≡ Union count → has_variant_dependent_padding t ≡ false
of_union t only count e s = of_one t only e ∙ ap (λ s. some_field_has s (has_each t)) s

pub of_primitive : (t : Typed) (only : ℕ) → (layout_in t).variants ≡ Single only → (layout_in t).fields ≡ Primitive → has_variant_dependent_padding t ≡ false
of_primitive t only e s = of_one t only e ∙ ap (λ s. some_field_has s (has_each t)) s

-- some field from i on has it
abbrev pub has_from : Typed → (i n : ℕ) → Bool
has_from t i n = list_any (has_each t) (range_with_len i (n - i))

-- fields that are listed
pub of_fields : (t : Typed) (only : ℕ) (offsets order : List ℕ) → (layout_in t).variants ≡ Single only → (layout_in t).fields ≡ Arbitrary offsets order → has_variant_dependent_padding t ≡ has_from t 0 (length offsets)
of_fields t only offsets order e s =
    of_one t only e ∙ ap (λ s. some_field_has s (has_each t)) s ∙ ap (λ n. list_any (has_each t) (range_with_len 0 n)) (let same : length offsets ≡ length offsets - 0 = omega arith in same)

next : (t : Typed) (i n : ℕ) → i < n → has_from t i n ≡ (has_each t i || has_from t (i + 1) n)
next t i n lt = ap (λ m. list_any (has_each t) (range_with_len i m)) (let e : n - i ≡ suc (n - (i + 1)) = omega (arith, lt) in e)

-- this field has it
pub some_field : (t : Typed) (i n : ℕ) → i < n → has_variant_dependent_padding (field_in t i) ≡ true → has_from t i n ≡ true
some_field t i n lt e = next t i n lt ∙ ap (λ b. b || has_from t (i + 1) n) e

-- this field hasn't
pub another_field : (t : Typed) (i n : ℕ) → i < n → has_variant_dependent_padding (field_in t i) ≡ false → has_from t i n ≡ has_from t (i + 1) n
another_field t i n lt e = next t i n lt ∙ ap (λ b. b || has_from t (i + 1) n) e

-- none is left
pub no_field : (t : Typed) (n : ℕ) → has_from t n n ≡ false
no_field t n = ap (λ m. list_any (has_each t) (range_with_len n m)) (let e : n - n ≡ 0 = omega arith in e)

-- what the walk's proof goes by
pub ruleset padding_steps = (of_several, of_none, of_elements, of_empty_array, of_fields, of_union, of_primitive, some_field, another_field, no_field)
