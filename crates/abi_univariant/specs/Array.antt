-- The layout of an array, and of a slice.
use Rattle.std.specs.Prelude.{ℕ, ◌+◌, ◌*◌, ◌%◌, ◌^◌, ◌==◌, ◌&&◌, not, nat_lt, Bool, Option, None, is_some, unwrap_or, Result, Ok, Err, if◌then◌else◌}
use Rattle.abi_base.specs.declared.data_layout.TargetDataLayout.{TargetDataLayout}
use Rattle.abi_base.specs.DataLayout.{size_bound}
use Rattle.abi_scalar.specs.declared.backend_repr.BackendRepr.TheVariants.{Memory}
use Rattle.abi_scalar.specs.declared.fields_shape.FieldsShape.TheVariants.{Array}
use Rattle.abi_scalar.specs.declared.variants.Variants.TheVariants.{Single}
use Rattle.abi_scalar.specs.declared.layout_data.LayoutData.{LayoutData}
use Rattle.abi_scalar.specs.declared.error.LayoutCalculatorError.{LayoutCalculatorError}
use Rattle.abi_scalar.specs.declared.error.LayoutCalculatorError.TheVariants.{SizeOverflow}

-- so many elements, one after another
abbrev pub elements_layout : {F V : Type 0} → (first : V) → (sized : Bool) → (count : ℕ) → LayoutData F V → LayoutData F V
elements_layout first sized count element = record {
  fields = Array element.size count;
  variants = Single first;
  backend_repr = Memory sized;
  largest_niche = if count == 0 then None else element.largest_niche;
  uninhabited = element.uninhabited && not (count == 0);
  align = element.align;
  size = element.size * count;
  max_repr_align = None;
  unadjusted_abi_align = element.align.abi;
  repr_c = element.repr_c;
  randomization_seed = (element.randomization_seed + count) % 2 ^ 64;
}

-- an array of so many elements, or a slice, which has a count of 0 and no size of its own: refused where the size is not
-- below the bound
abbrev pub array_answer : {F V H : Type 0} → (first : V) → TargetDataLayout → LayoutData F V → Option ℕ → Result (LayoutData F V) (LayoutCalculatorError H)
array_answer first dl element count_if_sized =
    let count : ℕ = unwrap_or count_if_sized 0 in
    if nat_lt (element.size * count) (size_bound dl)
    then Ok (elements_layout first (is_some count_if_sized) count element)
    else Err SizeOverflow
