-- The layout of a list of fields.
use Rattle.std.specs.Prelude.{◌≡◌, ◌⊎◌, ℕ, ◌≤◌, false, List, map, All, IfSome, Option, Some, None, Result, Ok, Err, if◌then◌else◌}
use Rattle.std.specs.List.{list_any}
use Rattle.abi_base.specs.declared.data_layout.TargetDataLayout.{TargetDataLayout}
use Rattle.abi_base.specs.declared.struct_kind.StructKind.{StructKind}
use Rattle.abi_base.specs.DataLayout.{size_bound}
use Rattle.abi_scalar.specs.declared.fields_shape.FieldsShape.TheVariants.{Arbitrary}
use Rattle.abi_scalar.specs.declared.niche.Niche.{Niche}
use Rattle.abi_scalar.specs.declared.variants.Variants.TheVariants.{Single}
use Rattle.abi_scalar.specs.declared.layout_data.LayoutData.{LayoutData}
use Rattle.abi_scalar.specs.declared.error.LayoutCalculatorError.{LayoutCalculatorError}
use Rattle.abi_scalar.specs.declared.error.LayoutCalculatorError.TheVariants.{OutOfMemory}
use Rattle.abi_scalar.specs.declared.repr.ReprOptions.{ReprOptions}
use Rattle.abi_scalar.specs.Repr.{is_abi_fixed, is_transparent}
use Rattle.abi_univariant.specs.declared.order.NicheBias.TheVariants.{Start}
use Rattle.abi_univariant.specs.declared.part.Part.{Part}
use Rattle.abi_univariant.specs.declared.placing.FieldsFault.{FieldsFault}
use Rattle.abi_univariant.specs.Fields.{greatest_repr_align, lies_as_in_c, seed_with}
use Rattle.abi_univariant.specs.Fault.{IsErrorOf, fault_in}
use Rattle.abi_univariant.specs.ListView.{list_view, transparent_align}
use Rattle.abi_univariant.specs.Order.{IsNamedOrder, movable_front}
use Rattle.abi_univariant.specs.Part.{is_unsized, max_align, parts_of}
use Rattle.abi_univariant.specs.Placement.{align_of, fields_repr, unraised_repr}
use Rattle.abi_univariant.specs.Run.{IsNamedLayout}

-- the alignments that a `repr` names have their limit
pub record HasLawfulAligns (repr : ReprOptions) : Type 0 where
  pub align : IfSome repr.align (λ a. a ≤ max_align)
  pub pack : IfSome repr.pack (λ a. a ≤ max_align)

-- the alignment before `repr(align)` raised it
abbrev pub unadjusted_of : TargetDataLayout → ReprOptions → StructKind → (size align : ℕ) → List Part → ℕ
unadjusted_of dl repr kind size align parts =
    if is_transparent repr then transparent_align size align parts else align_of (unraised_repr dl repr kind) parts

-- the sum of the seeds of the fields that may move, and the type's own
abbrev pub list_seed : {F V : Type 0} → ReprOptions → StructKind → List (LayoutData F V) → ℕ
list_seed repr kind fields = seed_with repr.field_shuffle_seed (movable_front kind fields)

-- The layout of these fields as one list, which lie in memory in this order, at these offsets, with the size, alignment and
-- niche that a rule says; `at` makes the index of a field.
pub record IsListBy {F V : Type 0} (Rule : (order offsets : List ℕ) → (size align : ℕ) → Option Niche → Type 0) (at : ℕ → F) (first : V)
    (dl : TargetDataLayout) (repr : ReprOptions) (kind : StructKind) (fields : List (LayoutData F V)) (order offsets : List ℕ) (layout : LayoutData F V) : Type 0 where
  pub named : Rule order offsets layout.size layout.align.abi layout.largest_niche
  pub shape : layout.fields ≡ Arbitrary offsets (map at order)
  pub variants : layout.variants ≡ Single first
  pub view : layout.backend_repr ≡ list_view dl (is_abi_fixed repr) layout.size layout.align.abi (parts_of dl fields) offsets
  pub uninhabited : layout.uninhabited ≡ list_any (λ f. f.uninhabited) fields
  pub max_repr_align : layout.max_repr_align ≡ greatest_repr_align repr.align fields
  pub unadjusted_abi_align : layout.unadjusted_abi_align ≡ unadjusted_of dl repr kind layout.size layout.align.abi (parts_of dl fields)
  pub repr_c : layout.repr_c ≡ lies_as_in_c repr fields
  pub seed : layout.randomization_seed ≡ list_seed repr kind fields

-- the layout of these fields as one list, in the order that is named for them
abbrev pub IsUnivariantLayout : {F V : Type 0} → (at : ℕ → F) → (first : V) → TargetDataLayout → ReprOptions → StructKind → List (LayoutData F V)
    → (order offsets : List ℕ) → LayoutData F V → Type 0
IsUnivariantLayout at first dl repr kind fields =
    IsListBy (IsNamedLayout dl (fields_repr dl repr kind) (parts_of dl fields)) at first dl repr kind fields

-- the error names the first fault of the fields in the order that is named for a bias to the start
abbrev pub IsUnivariantError : {F V H : Type 0} → (layout_of : H → LayoutData F V) → TargetDataLayout → ReprOptions → StructKind → List H → LayoutCalculatorError H → Type 0
IsUnivariantError layout_of dl repr kind fields error =
    (order : List ℕ) × IsNamedOrder (fields_repr dl repr kind) Start (parts_of dl (map layout_of fields)) order
    × (fault : FieldsFault) × (fault_in (fields_repr dl repr kind) (size_bound dl) (parts_of dl (map layout_of fields)) order ≡ Some fault) × IsErrorOf fields fault error

-- the fields have no fault in the order that is named for a bias to the start
abbrev pub IsFirstFaultless : {F V : Type 0} → TargetDataLayout → ReprOptions → StructKind → List (LayoutData F V) → Type 0
IsFirstFaultless dl repr kind fields =
    (order : List ℕ) × IsNamedOrder (fields_repr dl repr kind) Start (parts_of dl fields) order
    × (fault_in (fields_repr dl repr kind) (size_bound dl) (parts_of dl fields) order ≡ None)

-- the answer to a list of fields, memory aside
abbrev pub IsUnivariantAnswer : {F V H : Type 0} → (layout_of : H → LayoutData F V) → (at : ℕ → F) → (first : V) → TargetDataLayout → ReprOptions → StructKind → List H
    → Result (LayoutData F V) (LayoutCalculatorError H) → Type 0
IsUnivariantAnswer layout_of at first dl repr kind fields (Ok layout) =
    (order : List ℕ) × (offsets : List ℕ) × IsUnivariantLayout at first dl repr kind (map layout_of fields) order offsets layout
IsUnivariantAnswer layout_of at first dl repr kind fields (Err error) = IsUnivariantError layout_of dl repr kind fields error ⊎ (error ≡ OutOfMemory)

-- the size of each field is known beforehand
abbrev pub AreSized : {F V : Type 0} → List (LayoutData F V) → Type 0
AreSized fields = All (λ f. is_unsized f.backend_repr ≡ false) fields
