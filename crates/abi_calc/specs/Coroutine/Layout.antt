-- The layout of a coroutine, from the layouts of its lists.
use Rattle.std.specs.Prelude.{◌≡◌, ℕ, ◌+◌, ◌-◌, ◌^◌, ◌≤◌, ◌||◌, false, true, Bool, None, List, ◌∷◌, filter, nat_lt, take}
use Rattle.std.specs.Int.{next_multiple_of}
use Rattle.std.specs.List.{list_all}
use Rattle.abi_base.specs.declared.integer.Integer.{Integer}
use Rattle.abi_base.specs.declared.primitive.Primitive.TheVariants.{Int}
use Rattle.abi_base.specs.Integer.{HoldsUnsigned, integer_size}
use Rattle.abi_scalar.specs.declared.backend_repr.BackendRepr.TheVariants.{Memory}
use Rattle.abi_scalar.specs.declared.fields_shape.FieldsShape.TheVariants.{Arbitrary}
use Rattle.abi_scalar.specs.declared.layout_data.LayoutData.{LayoutData}
use Rattle.abi_scalar.specs.declared.scalar.Scalar.{Scalar}
use Rattle.abi_scalar.specs.declared.scalar.Scalar.TheVariants.{Initialized}
use Rattle.abi_scalar.specs.declared.variants.TagEncoding.TheVariants.{Direct}
use Rattle.abi_scalar.specs.declared.variants.Variants.TheVariants.{Multiple}
use Rattle.abi_scalar.specs.Shape.{listed_offsets, listed_order}
use Rattle.abi_univariant.specs.Fields.{greatest_align, greatest_size}
use Rattle.abi_calc.specs.Coroutine.States.{state_layouts}

-- the least integer whose unsigned type has the number
pub record IsLeastInteger (number : ℕ) (integer : Integer) : Type 0 where
  pub holds : HoldsUnsigned integer number
  pub least : (i : Integer) → HoldsUnsigned i number → integer_size integer ≤ integer_size i

-- the tag of so many states: the least unsigned integer that has the last one's number, holding the number of each
abbrev pub IsStateTag : (count : ℕ) → Scalar → Type 0
IsStateTag count tag =
    (integer : Integer) × IsLeastInteger (count - 1) integer × (tag ≡ Initialized (Int integer false) (record { start = 0; end = count - 1 }))

-- the alignment: the greatest of the lists'
abbrev pub whole_align : {F V : Type 0} → (first : LayoutData F V) → (lists : List (LayoutData F V)) → ℕ
whole_align first lists = greatest_align first.align.abi lists

-- the size: that of the greatest list, rounded up to the alignment
abbrev pub whole_size : {F V : Type 0} → (first : LayoutData F V) → (lists : List (LayoutData F V)) → ℕ
whole_size first lists = next_multiple_of (greatest_size (first ∷ lists)) (2 ^ whole_align first lists)

-- The layout of a coroutine with so many prefix fields, this tag and these states. Its own fields are the prefix fields and the
-- tag, where the first list has them; promoted locals are the states' that hold them.
abbrev pub coroutine_layout : {F V : Type 0} → (at : ℕ → F) → (number : F → ℕ) → (prefix_count : ℕ) → (tag : Scalar) → (promoted : List Bool) → (states : List (List ℕ))
    → (first : LayoutData F V) → (lists : List (LayoutData F V)) → LayoutData F V
coroutine_layout at number prefix_count tag promoted states first lists = record {
  fields = Arbitrary (take (prefix_count + 1) (listed_offsets first.fields)) (filter (λ i. nat_lt (number i) (prefix_count + 1)) (listed_order first.fields));
  variants = Multiple tag Direct (at prefix_count) (state_layouts at number (prefix_count + 1) promoted first states lists);
  backend_repr = Memory true;
  largest_niche = None;
  uninhabited = first.uninhabited || list_all (λ list. list.uninhabited) lists;
  align = record { abi = whole_align first lists };
  size = whole_size first lists;
  max_repr_align = None;
  unadjusted_abi_align = whole_align first lists;
  repr_c = false;
  randomization_seed = 0;
}
