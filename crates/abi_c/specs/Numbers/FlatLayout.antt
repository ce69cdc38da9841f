-- A layout as numbers: a head of 53, each at its place, and lists behind it whose lengths the head has.
use Rattle.std.specs.Prelude.{ℕ, ◌^◌, ◌++◌, List, [], ◌∷◌, length, Option, None, Some, nat_lt, if◌then◌else◌}
use Rattle.abi_scalar.specs.declared.backend_repr.BackendRepr.{BackendRepr}
use Rattle.abi_scalar.specs.declared.backend_repr.BackendRepr.TheVariants as view
use Rattle.abi_scalar.specs.declared.fields_shape.FieldsShape.{FieldsShape}
use Rattle.abi_scalar.specs.declared.fields_shape.FieldsShape.TheVariants.{Primitive as NoFields, Union as Shared, Array, Arbitrary}
use Rattle.abi_scalar.specs.declared.niche.Niche.{Niche}
use Rattle.abi_scalar.specs.declared.scalar.Scalar.{Scalar}
use Rattle.abi_scalar.specs.declared.scalar.Scalar.TheVariants.{Initialized, Union}
use Rattle.abi_scalar.specs.declared.variants.TagEncoding.{TagEncoding}
use Rattle.abi_scalar.specs.declared.variants.TagEncoding.TheVariants.{Direct, Niche as InNiche}
use Rattle.abi_scalar.specs.declared.variants.VariantLayout.{VariantLayout}
use Rattle.abi_scalar.specs.declared.variants.Variants.{Variants}
use Rattle.abi_scalar.specs.declared.variants.Variants.TheVariants.{Empty, Single, Multiple}
use Rattle.abi_tree.specs.Placed.{Placed, layout_of, size_of}
use Rattle.abi_scalar.specs.Layout.{Layout}
use Rattle.abi_tree.specs.Runs.{padding_of}
use Rattle.abi_c.specs.Numbers.Pieces.{flat_bool, flat_wide}
use Rattle.abi_c.specs.Numbers.FlatScalar.{flat_primitive}
use Rattle.abi_c.specs.Numbers.FlatTree.{flat_pairs}

-- eight numbers where there is no scalar
abbrev pub no_scalar : List ℕ
no_scalar = 0 ∷ 0 ∷ 0 ∷ 0 ∷ 0 ∷ 0 ∷ 0 ∷ 0 ∷ []

-- eight numbers of a scalar: 1, its primitive, and its range's start and end; or 2 and its primitive where it may hold anything
abbrev pub eight : Scalar → List ℕ
eight (Initialized value range) = 1 ∷ flat_primitive value ++ flat_wide range.start ++ flat_wide range.end
eight (Union value) = 2 ∷ flat_primitive value ++ 0 ∷ 0 ∷ 0 ∷ 0 ∷ []

-- three numbers of where fields lie: 0 for no fields, 1 for a union's, 2 for elements, 3 for listed ones; how many there are; and
-- how far an element begins behind the one before
abbrev pub flat_shape : {F : Type 0} → FieldsShape F → List ℕ
flat_shape NoFields = 0 ∷ 0 ∷ 0 ∷ []
flat_shape (Shared count) = 1 ∷ count ∷ 0 ∷ []
flat_shape (Array stride count) = 2 ∷ count ∷ stride ∷ []
flat_shape (Arbitrary offsets order) = 3 ∷ length offsets ∷ 0 ∷ []

-- six numbers of how a tag names a variant: 0 where its number is the discriminant; or 1, the untagged variant, the first and the
-- last of the span, and the number of the first
abbrev pub flat_encoding : TagEncoding ℕ → List ℕ
flat_encoding Direct = 0 ∷ 0 ∷ 0 ∷ 0 ∷ 0 ∷ 0 ∷ []
flat_encoding (InNiche untagged span start) = 1 ∷ untagged ∷ span.start ∷ span.last ∷ flat_wide start

-- 17 numbers of the variants: 0 for none; 1 and which one it is; or 2, the field that the tag is, how many there are, the tag, and
-- how it names one
abbrev pub flat_variants_head : Variants ℕ ℕ → List ℕ
flat_variants_head Empty = 0 ∷ 0 ∷ 0 ∷ no_scalar ++ flat_encoding Direct
flat_variants_head (Single index) = 1 ∷ index ∷ 0 ∷ no_scalar ++ flat_encoding Direct
flat_variants_head (Multiple tag encoding field all) = 2 ∷ field ∷ length all ∷ eight tag ++ flat_encoding encoding

-- 19 numbers of how a code generator sees the values: 0 for bytes in memory, and whether it is sized; 1 for a scalar; 2 for two,
-- and the second one's offset; 3 for a vector, and its lanes; 4 for a scalable one, its lanes, and how many there are
abbrev pub flat_view : BackendRepr → List ℕ
flat_view (view.Memory sized) = 0 ∷ flat_bool sized ∷ 0 ∷ no_scalar ++ no_scalar
flat_view (view.Scalar a) = 1 ∷ 0 ∷ 0 ∷ eight a ++ no_scalar
flat_view (view.ScalarPair a b offset) = 2 ∷ offset ∷ 0 ∷ eight a ++ eight b
flat_view (view.SimdVector element count) = 3 ∷ count ∷ 0 ∷ eight element ++ no_scalar
flat_view (view.SimdScalableVector element count vectors) = 4 ∷ count ∷ vectors.0 ∷ eight element ++ no_scalar

-- nine numbers of the place with the most free numbers: its offset, and what it holds
abbrev pub flat_niche : Option Niche → List ℕ
flat_niche None = 0 ∷ no_scalar
flat_niche (Some niche) = niche.offset ∷ eight (Initialized niche.value niche.valid_range)

-- 51 numbers of a layout, sizes and alignments in bytes
abbrev pub flat_head : Layout → List ℕ
flat_head layout =
    layout.size ∷ 2 ^ layout.align.abi ∷ flat_bool layout.uninhabited ∷ flat_shape layout.fields ++ flat_variants_head layout.variants
    ++ flat_view layout.backend_repr ++ flat_niche layout.largest_niche

-- the offsets of listed fields, and their order in memory
abbrev pub flat_listed : FieldsShape ℕ → List ℕ
flat_listed (Arbitrary offsets order) = offsets ++ order
flat_listed _ = []

-- a variant's size, whether it has no values, how many fields it has, their offsets, and their order in memory
abbrev pub flat_variant_layout : VariantLayout ℕ → List ℕ
flat_variant_layout v =
    v.size ∷ flat_bool v.uninhabited ∷ length v.field_offsets ∷ v.field_offsets ++ v.fields_in_memory_order

-- each variant beside a tag
abbrev pub flat_each_variant_layout : List (VariantLayout ℕ) → List ℕ
flat_each_variant_layout [] = []
flat_each_variant_layout (v ∷ vs) = flat_variant_layout v ++ flat_each_variant_layout vs

-- the variants beside a tag
abbrev pub flat_beside : Variants ℕ ℕ → List ℕ
flat_beside (Multiple tag encoding field all) = flat_each_variant_layout all
flat_beside _ = []

-- the bytes of a larger type aren't listed
abbrev pub most_listed : ℕ
most_listed = 65536

-- whether the runs of padding are listed, how many there are, and each with its first byte and how many bytes it has, behind what
-- stands between; a larger type's aren't
abbrev pub with_runs : Option (List (ℕ × ℕ)) → (between : List ℕ) → List ℕ
with_runs None between = 0 ∷ 0 ∷ between
with_runs (Some runs) between = 1 ∷ length runs ∷ between ++ flat_pairs runs

-- the runs of padding, where they are listed
abbrev pub listed_padding : Placed → Option (List (ℕ × ℕ))
listed_padding placed = if nat_lt most_listed (size_of placed) then None else Some (padding_of placed)

-- the numbers of a laid-out type
abbrev pub flat_layout : Placed → List ℕ
flat_layout placed =
    flat_head (layout_of placed)
    ++ with_runs (listed_padding placed) (flat_listed (layout_of placed).fields ++ flat_beside (layout_of placed).variants)
