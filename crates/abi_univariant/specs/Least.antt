-- How large a list of fields is: of all orders that its repr and its kind allow, one of the least.
use Rattle.std.specs.Prelude.{◌≡◌, ℕ, ◌≤◌, List, length, map, slice_index}
use Rattle.abi_base.specs.declared.data_layout.TargetDataLayout.{TargetDataLayout}
use Rattle.abi_base.specs.declared.struct_kind.StructKind.{StructKind}
use Rattle.abi_base.specs.DataLayout.{size_bound}
use Rattle.abi_scalar.specs.declared.fields_shape.FieldsShape.TheVariants.{Arbitrary}
use Rattle.abi_scalar.specs.declared.layout_data.LayoutData.{LayoutData}
use Rattle.abi_scalar.specs.declared.repr.ReprOptions.{ReprOptions}
use Rattle.abi_scalar.specs.Shape.{listed_offsets}
use Rattle.abi_univariant.specs.Part.{parts_of}
use Rattle.abi_univariant.specs.Placement.{IsAllowed, align_of, in_order, fields_repr, offsets_from, size_in, start_of}

-- an order that the repr and the kind allow so many fields
abbrev pub IsOrderOf : TargetDataLayout → ReprOptions → StructKind → (count : ℕ) → List ℕ → Type 0
IsOrderOf dl repr kind count order = IsAllowed (fields_repr dl repr kind) count order

-- where the fields lie in an order, as they follow one another in memory
abbrev pub places_by : {F V : Type 0} → TargetDataLayout → ReprOptions → StructKind → List (LayoutData F V) → List ℕ → List ℕ
places_by dl repr kind fields order = offsets_from repr.pack (start_of repr.pack kind) (in_order (parts_of dl fields) order)

-- the size that they take in an order
abbrev pub size_by : {F V : Type 0} → TargetDataLayout → ReprOptions → StructKind → List (LayoutData F V) → List ℕ → ℕ
size_by dl repr kind fields order = size_in (fields_repr dl repr kind) (parts_of dl fields) order

-- the list's alignment, which is the same in each order
abbrev pub align_by : {F V : Type 0} → TargetDataLayout → ReprOptions → StructKind → List (LayoutData F V) → ℕ
align_by dl repr kind fields = align_of (fields_repr dl repr kind) (parts_of dl fields)

-- An allowed order has this size, and none a smaller one.
pub record IsLeastSize {F V : Type 0} (dl : TargetDataLayout) (repr : ReprOptions) (kind : StructKind) (fields : List (LayoutData F V)) (size : ℕ) : Type 0 where
  pub some : (order : List ℕ) × IsOrderOf dl repr kind (length fields) order × (size ≡ size_by dl repr kind fields order)
  pub least : (order : List ℕ) → IsOrderOf dl repr kind (length fields) order → size ≤ size_by dl repr kind fields order

-- every allowed order is too large
abbrev pub IsEachOrderTooLarge : {F V : Type 0} → TargetDataLayout → ReprOptions → StructKind → List (LayoutData F V) → Type 0
IsEachOrderTooLarge dl repr kind fields =
    (order : List ℕ) → IsOrderOf dl repr kind (length fields) order → size_bound dl ≤ size_by dl repr kind fields order

-- The fields lie one after another in this allowed order: the offsets, one for each field, are its places, and the size and
-- the alignment are the list's.
pub record IsPlacedBy {F V : Type 0} (dl : TargetDataLayout) (repr : ReprOptions) (kind : StructKind) (fields : List (LayoutData F V)) (order offsets : List ℕ) (size align : ℕ) : Type 0 where
  pub allowed : IsOrderOf dl repr kind (length fields) order
  pub count : length offsets ≡ length fields
  pub places : map (slice_index offsets) order ≡ places_by dl repr kind fields order
  pub extent : size ≡ size_by dl repr kind fields order
  pub alignment : align ≡ align_by dl repr kind fields

-- the layout's fields lie one after another in some allowed order, which is its memory order; `at` makes the index of a field
abbrev pub LiesInSomeOrder : {F V : Type 0} → (at : ℕ → F) → TargetDataLayout → ReprOptions → StructKind → List (LayoutData F V) → LayoutData F V → Type 0
LiesInSomeOrder at dl repr kind fields layout =
    (order : List ℕ) × (layout.fields ≡ Arbitrary (listed_offsets layout.fields) (map at order))
    × IsPlacedBy dl repr kind fields order (listed_offsets layout.fields) layout.size layout.align.abi

-- the layout's fields lie one after another in this order, which is allowed and is its memory order; `number` gives the number
-- of a field's index
abbrev pub LiesInOrder : {F V : Type 0} → (number : F → ℕ) → TargetDataLayout → ReprOptions → StructKind → List (LayoutData F V) → (order : List F) → LayoutData F V → Type 0
LiesInOrder number dl repr kind fields order layout =
    (layout.fields ≡ Arbitrary (listed_offsets layout.fields) order)
    × IsPlacedBy dl repr kind fields (map number order) (listed_offsets layout.fields) layout.size layout.align.abi
