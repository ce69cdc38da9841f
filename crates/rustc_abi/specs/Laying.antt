-- Which layout each type has, or why it has none: children first, left to right.
use Rattle.std.specs.Prelude.{◌≡◌, ℕ, ◌+◌, ◌||◌, not, MatchOption, Bool, true, false, List, [], ◌∷◌, length, map, nat_lt, Option, None, Some, Result, Ok, Err, if◌then◌else◌}
use Rattle.std.specs.Int.RustNames.{bit_or}
use Rattle.std.specs.List.{list_all, list_any}
use Rattle.abi_base.specs.declared.data_layout.TargetDataLayout.{TargetDataLayout}
use Rattle.abi_base.specs.DataLayout.{size_bound}
use Rattle.abi_scalar.specs.declared.scalar.Scalar.{Scalar}
use Rattle.abi_scalar.specs.declared.repr.ReprOptions.{ReprOptions}
use Rattle.abi_base.specs.declared.struct_kind.StructKind.{StructKind}
use Rattle.abi_base.specs.declared.struct_kind.StructKind.TheVariants.{AlwaysSized, MaybeUnsized}
use Rattle.abi_scalar.specs.declared.error.LayoutCalculatorError.{LayoutCalculatorError}
use Rattle.abi_scalar.specs.declared.variants.Variants.{Variants as LayoutVariants}
use Rattle.abi_scalar.specs.declared.variants.Variants.TheVariants.{Empty, Single, Multiple}
use Rattle.abi_scalar.specs.Simple.{scalar_layout, never_layout, unit_layout}
use Rattle.abi_scalar.specs.Pair.{pair_layout, pair_size, second_offset}
use Rattle.abi_scalar.specs.Repr.{has_fixed_order}
use Rattle.abi_scalar.specs.Shape.{listed_offsets}
use Rattle.abi_scalar.specs.Variant.{variants_of}
use Rattle.abi_univariant.specs.Array.{array_answer, elements_layout}
use Rattle.abi_univariant.specs.InOrder.{IsOrderedError, IsOrderedLayout}
use Rattle.abi_univariant.specs.List.{IsUnivariantError, IsUnivariantLayout}
use Rattle.abi_univariant.specs.Placement.{source_order}
use Rattle.abi_univariant.specs.Simd.{simd_answer}
use Rattle.abi_univariant.specs.Union.{IsUnionAnswer}
use Rattle.abi_calc.specs.Coroutine.Layout.{IsStateTag}
use Rattle.abi_calc.specs.Enums.EnumStrategy.{variant_at}
use Rattle.rustc_abi.specs.declared.error.LayError.{LayError}
use Rattle.rustc_abi.specs.declared.error.LayError.TheVariants.{BadIndex, BadAlign, BadOrder, DuplicateDiscriminant, DiscriminantTooWide, NoState, LocalTwice, SizeOverflow}
use Rattle.abi_tree.specs.Tree.{Tree, scalar, pair, never, unit, array, vector, struct, union, enum, coroutine, Trees, no_trees, more_trees, Variants, no_variants, more_variants}
use Rattle.abi_tree.specs.Placed.{Placed, layout_of, scalar as placed_scalar, pair as placed_pair, never as placed_never, elements, vector as placed_vector, fields, union as placed_union, single as placed_single, tagged as placed_tagged, states as placed_states, no_parts, part}
use Rattle.abi_scalar.specs.Layout.{Layout}
use Rattle.abi_tree.specs.declared.mark.Mark.TheVariants.{Never, Plain, Unit}
use Rattle.abi_tree.specs.Mark.{mark_of}
use Rattle.abi_tree.specs.Nodes.{parts_at, parts_at_0, placed_in, state_tag_offset, tag_offset}
use Rattle.rustc_abi.specs.Error.{named, lay_error, Follows}
use Rattle.rustc_abi.specs.ScalarFault.{scalar_fault}
use Rattle.rustc_abi.specs.Coroutines.{IsCoroutined, names_unknown}
use Rattle.rustc_abi.specs.Enums.{IsEnumed, tagged_variants_at, discriminants_of, has_equal, is_discriminant}

-- the type with the layout that was answered
abbrev pub placed_by : (Layout → Placed) → Result Layout LayError → Result Placed LayError
placed_by make (Ok layout) = Ok (make layout)
placed_by make (Err e) = Err e

-- a list of fields has at most so many
abbrev pub most_fields : ℕ
most_fields = 0xFFFF_FF01

-- the answer, where there is no fault
abbrev pub unless : Option LayError → Result Placed LayError → Result Placed LayError
unless None answer = answer
unless (Some e) answer = Err e

-- a lawful scalar, laid out
abbrev pub one_scalar : TargetDataLayout → Scalar → Placed
one_scalar dl s = placed_scalar (scalar_layout 0 dl s) s

-- two lawful scalars, laid out: each is a part
abbrev pub two_scalars : TargetDataLayout → (a b : Scalar) → Placed
two_scalars dl a b =
    placed_pair (pair_layout 0 0 1 dl a b) (part 0 (one_scalar dl a) (part (second_offset dl a b) (one_scalar dl b) no_parts))

-- the answer to a scalar: its fault, or its layout
abbrev pub scalar_answer : TargetDataLayout → Scalar → Result Placed LayError
scalar_answer dl s = unless (scalar_fault dl s) (Ok (one_scalar dl s))

-- both faults of the first scalar come before the second's, and then the bound
abbrev pub pair_answer : TargetDataLayout → (a b : Scalar) → Result Placed LayError
pair_answer dl a b =
    unless (scalar_fault dl a) (unless (scalar_fault dl b)
    (if nat_lt (pair_size dl a b) (size_bound dl) then Ok (two_scalars dl a b) else Err SizeOverflow))

-- the answer to an array: that its size isn't below the bound, or its layout
abbrev pub elements_answer : TargetDataLayout → (count : ℕ) → Placed → Result Placed LayError
elements_answer dl count element =
    placed_by (λ layout. elements layout count element) (named {H = ℕ} (array_answer 0 dl (layout_of element) (Some count)))

-- a struct's list is always sized where the struct says so, and where it has no fields; else its last field may lose its size
abbrev pub kind_of : {A : Type 0} → (always_sized : Bool) → List A → StructKind
kind_of always_sized [] = AlwaysSized
kind_of true (p ∷ ps) = AlwaysSized
kind_of false (p ∷ ps) = MaybeUnsized

-- the alignment that a repr names, if it does, is above 2 ^ 29 bytes
abbrev pub is_above_limit : Option ℕ → Bool
is_above_limit None = false
is_above_limit (Some align) = nat_lt 29 align

-- an alignment that the repr names is above 2^29 bytes
abbrev pub has_bad_align : ReprOptions → Bool
has_bad_align repr = is_above_limit repr.align || is_above_limit repr.pack

-- the calculator's answer to a list of layouts, with its refusal by that name
abbrev pub IsLaidList : TargetDataLayout → ReprOptions → StructKind → List Layout → Result Layout LayError → Type 0
IsLaidList dl repr kind layouts (Ok layout) =
    (order : List ℕ) × (offsets : List ℕ) × IsUnivariantLayout (λ i. i) 0 dl repr kind layouts order offsets layout
IsLaidList dl repr kind layouts (Err e) =
    (error : LayoutCalculatorError Layout) × IsUnivariantError (λ l. l) dl repr kind layouts error × (e ≡ lay_error error)

-- fields as parts of a struct with this layout
abbrev pub placed_fields : ReprOptions → List Placed → Layout → Placed
placed_fields repr ps layout = fields layout (mark_of false repr) (parts_at (listed_offsets layout.fields) ps)

-- the own faults of a struct or union, in their order
abbrev pub fields_fault : ReprOptions → List Placed → Option LayError
fields_fault repr ps =
    if nat_lt most_fields (length ps) then Some BadIndex else (if has_bad_align repr then Some BadAlign else None)

-- the answer to a struct: its own fault, else the calculator's answer to its fields
abbrev pub IsFieldsAnswer : TargetDataLayout → ReprOptions → (always_sized : Bool) → List Placed → Result Placed LayError → Type 0
IsFieldsAnswer dl repr always_sized ps r =
    MatchOption (fields_fault repr ps)
    (Follows (IsLaidList dl repr (kind_of always_sized ps) (map layout_of ps)) (λ layout r. r ≡ Ok (placed_fields repr ps layout)) r)
    (λ e. r ≡ Err e)

-- the same repr, under which fields may lie in any order
abbrev pub with_randomize_flag : ReprOptions → ReprOptions
with_randomize_flag repr = record {
  int = repr.int;
  align = repr.align;
  pack = repr.pack;
  flags = record { 0 = bit_or repr.flags.0 16 };
  scalable = repr.scalable;
  field_shuffle_seed = repr.field_shuffle_seed;
}

-- the calculator's answer to a list of layouts in this order, with its refusal by that name
abbrev pub IsListedInOrder : TargetDataLayout → ReprOptions → StructKind → (order : List ℕ) → List Layout → Result Layout LayError → Type 0
IsListedInOrder dl repr kind order layouts (Ok layout) =
    (offsets : List ℕ) × IsOrderedLayout (λ i. i) 0 dl repr kind layouts order offsets layout
IsListedInOrder dl repr kind order layouts (Err e) =
    (error : LayoutCalculatorError Layout) × IsOrderedError (λ l. l) dl repr kind order layouts error × (e ≡ lay_error error)

-- the own faults of a struct whose order is handed in, in their order: the last is that its repr fixes the order
abbrev pub ordered_fault : ReprOptions → List Placed → Option LayError
ordered_fault repr ps =
    if nat_lt most_fields (length ps) then Some BadIndex
    else (if has_bad_align repr then Some BadAlign
    else (if has_fixed_order repr then Some BadOrder else None))

-- the answer to a struct whose order is handed in: its own fault, else the calculator's answer to its fields in it
abbrev pub IsOrderedFieldsAnswer : TargetDataLayout → ReprOptions → (always_sized : Bool) → (order : List ℕ) → List Placed → Result Placed LayError → Type 0
IsOrderedFieldsAnswer dl repr always_sized order ps r =
    MatchOption (ordered_fault repr ps)
    (Follows (IsListedInOrder dl (with_randomize_flag repr) (kind_of always_sized ps) order (map layout_of ps)) (λ layout r. r ≡ Ok (placed_fields repr ps layout)) r)
    (λ e. r ≡ Err e)

-- the answer to a struct, in the order that is handed in, if one is
abbrev pub IsStructAnswer : TargetDataLayout → ReprOptions → (always_sized : Bool) → (order : Option (List ℕ)) → List Placed → Result Placed LayError → Type 0
IsStructAnswer dl repr always_sized None = IsFieldsAnswer dl repr always_sized
IsStructAnswer dl repr always_sized (Some order) = IsOrderedFieldsAnswer dl repr always_sized order

-- the calculator's answer to a union of fields with these layouts, with its refusal by that name
abbrev pub IsUnited : TargetDataLayout → ReprOptions → List Layout → Result Layout LayError → Type 0
IsUnited dl repr layouts (Ok layout) = IsUnionAnswer (λ l. l) 0 dl repr layouts (Ok layout)
IsUnited dl repr layouts (Err e) =
    (error : LayoutCalculatorError Layout) × IsUnionAnswer (λ l. l) 0 dl repr layouts (Err error) × (e ≡ lay_error error)

-- fields as parts of a union with this layout
abbrev pub placed_together : ReprOptions → List Placed → Layout → Placed
placed_together repr ps layout = placed_union layout (mark_of false repr) (parts_at_0 ps)

-- the answer to a union: its own fault, else the calculator's answer to its fields
abbrev pub IsUnionOf : TargetDataLayout → ReprOptions → List Placed → Result Placed LayError → Type 0
IsUnionOf dl repr ps r =
    MatchOption (fields_fault repr ps)
    (Follows (IsUnited dl repr (map layout_of ps)) (λ layout r. r ≡ Ok (placed_together repr ps layout)) r)
    (λ e. r ≡ Err e)

-- more variants or states, or more items in one, than an index can name
abbrev pub has_bad_index : {A : Type 0} → List (List A) → Bool
has_bad_index variants = nat_lt most_fields (length variants) || list_any (λ fields. nat_lt most_fields (length fields)) variants

-- the own faults of an enum, in their order
abbrev pub enum_fault : TargetDataLayout → ReprOptions → (numbers : List ℕ) → List (List Placed) → Option LayError
enum_fault dl repr numbers variants =
    if has_bad_index variants then Some BadIndex
    else (if has_bad_align repr then Some BadAlign
    else (if has_equal numbers then Some DuplicateDiscriminant
    else (if not (list_all (is_discriminant dl repr) numbers) then Some DiscriminantTooWide else None)))

-- variants with this layout: no value, the parts of one variant, or those of each beside a tag; each of these says of
-- itself what the whole does
abbrev pub placed_variants : TargetDataLayout → ReprOptions → (numbers : List ℕ) → List (List Placed) → Layout → LayoutVariants ℕ ℕ → Placed
placed_variants dl repr numbers variants layout Empty = placed_never layout (mark_of true repr)
placed_variants dl repr numbers variants layout (Single i) = placed_single layout (mark_of true repr) i (parts_at (listed_offsets layout.fields) (variant_at variants i))
placed_variants dl repr numbers variants layout (Multiple tag encoding field layouts) =
    placed_tagged layout (mark_of true repr) (tag_offset layout) (one_scalar dl tag) encoding
    (tagged_variants_at layout (mark_of true repr) 0 layouts numbers variants)

-- an enum with this layout
abbrev pub placed_enum : TargetDataLayout → ReprOptions → (numbers : List ℕ) → List (List Placed) → Layout → Placed
placed_enum dl repr numbers variants layout = placed_variants dl repr numbers variants layout layout.variants

-- the answer to an enum: its own fault, else the calculator's answer to its variants
abbrev pub IsEnumOf : TargetDataLayout → ReprOptions → (numbers : List ℕ) → List (List Placed) → Result Placed LayError → Type 0
IsEnumOf dl repr numbers variants r =
    MatchOption (enum_fault dl repr numbers variants)
    (Follows (IsEnumed dl repr numbers variants) (λ layout r. r ≡ Ok (placed_enum dl repr numbers variants layout)) r)
    (λ e. r ≡ Err e)

-- the array of a vector's lanes
abbrev pub lanes_of : (lanes : ℕ) → Placed → Placed
lanes_of lanes element = elements (elements_layout 0 true lanes (layout_of element)) lanes element

-- the answer to a vector: the calculator's, over the array of its lanes
abbrev pub vector_answer : TargetDataLayout → (lanes : ℕ) → (packed : Bool) → Placed → Result Placed LayError
vector_answer dl lanes packed element =
    placed_by (λ layout. placed_vector layout (lanes_of lanes element)) (named (simd_answer (λ l. l) 0 0 dl (layout_of element) lanes packed))

-- the own faults of a coroutine of so many prefix fields and locals, in their order; prefix fields, tag and locals are one list
abbrev pub coroutine_fault : (prefix locals : ℕ) → (states : List (List ℕ)) → (conflicts : List (ℕ × ℕ)) → Option LayError
coroutine_fault prefix locals states conflicts =
    if nat_lt most_fields (prefix + 1 + locals) || has_bad_index states then Some BadIndex
    else (if nat_lt (length states) 1 then Some NoState
    else (if names_unknown locals states conflicts then Some BadIndex
    else (if list_any has_equal states then Some LocalTwice else None)))

-- a coroutine with this layout and this tag: the prefix fields, the tag behind them, and beside it each state, with the locals that it
-- names and with its index as number; a state says nothing of itself
abbrev pub placed_coroutine : TargetDataLayout → (prefix : List Placed) → (tag : Scalar) → (locals : List Placed) → (states : List (List ℕ)) → Layout → Placed
placed_coroutine dl prefix tag locals states layout =
    placed_states layout (parts_at (listed_offsets layout.fields) prefix) (state_tag_offset layout (length prefix)) (one_scalar dl tag)
    (tagged_variants_at layout Plain 0 (variants_of layout.variants) (source_order (length states))
    (map (map (placed_in locals)) states))

-- the answer to a coroutine: its own fault, else the calculator's answer to its prefix fields, its tag and its locals
abbrev pub IsCoroutineOf : TargetDataLayout → (prefix locals : List Placed) → (states : List (List ℕ)) → (conflicts : List (ℕ × ℕ)) → Result Placed LayError → Type 0
IsCoroutineOf dl prefix locals states conflicts r =
    MatchOption (coroutine_fault (length prefix) (length locals) states conflicts)
    ((tag : Scalar) × IsStateTag (length states) tag
    × Follows (IsCoroutined dl prefix tag (one_scalar dl tag) locals states conflicts) (λ layout r. r ≡ Ok (placed_coroutine dl prefix tag locals states layout)) r)
    (λ e. r ≡ Err e)

-- the answer to a tree: its layout, or its first fault; a lawful data layout is a premise
abbrev mutual
  pub IsLaying : TargetDataLayout → Tree → Result Placed LayError → Type 0
  IsLaying dl (scalar s) r = r ≡ scalar_answer dl s
  IsLaying dl (pair a b) r = r ≡ pair_answer dl a b
  IsLaying dl never r = r ≡ Ok (placed_never (never_layout dl) Never)
  IsLaying dl unit r = r ≡ Ok (fields (unit_layout 0 dl true) Unit no_parts)
  IsLaying dl (array count element) r = Follows (IsLaying dl element) (λ p r. r ≡ elements_answer dl count p) r
  IsLaying dl (struct repr always_sized order all) r = Follows (AreLaying dl all) (IsStructAnswer dl repr always_sized order) r
  IsLaying dl (vector lanes packed element) r = Follows (IsLaying dl element) (λ p r. r ≡ vector_answer dl lanes packed p) r
  IsLaying dl (union repr all) r = Follows (AreLaying dl all) (IsUnionOf dl repr) r
  IsLaying dl (enum repr all) r = Follows (VariantsLaying dl all) (IsEnumOf dl repr (discriminants_of all)) r
  IsLaying dl (coroutine prefix locals states conflicts) r =
      Follows (AreLaying dl prefix) (λ pres. Follows (AreLaying dl locals) (λ ps. IsCoroutineOf dl pres ps states conflicts)) r

  -- the answer to trees, one after another
  pub AreLaying : TargetDataLayout → Trees → Result (List Placed) LayError → Type 0
  AreLaying dl no_trees r = r ≡ Ok []
  AreLaying dl (more_trees t ts) r = Follows (IsLaying dl t) (λ p. Follows (AreLaying dl ts) (λ ps r. r ≡ Ok (p ∷ ps))) r

  -- the answers to the fields of variants, or the first fault
  pub VariantsLaying : TargetDataLayout → Variants → Result (List (List Placed)) LayError → Type 0
  VariantsLaying dl no_variants r = r ≡ Ok []
  VariantsLaying dl (more_variants discriminant ts others) r =
      Follows (AreLaying dl ts) (λ ps. Follows (VariantsLaying dl others) (λ rest r. r ≡ Ok (ps ∷ rest))) r
