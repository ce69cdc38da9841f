-- Worked facts on the C representation, those of integers, and arrays: a right layout meets the rule, and the nearest wrong one
-- doesn't.
use Rattle.std.proofs.Common.{◌≡◌, ℕ, ◌+◌, ◌*◌, ◌^◌, ◌<◌, ◌≤◌, true, false, List, [], ◌∷◌, Option, None, Some, get_or, map, refl, ap, subst, arith, lit≤}
use Rattle.std.specs.Prelude.{All, zero, suc}
use Rattle.abi_base.specs.DataLayout.{default_data_layout}
use Rattle.abi_base.specs.declared.integer.Integer.{Integer}
use Rattle.abi_base.specs.declared.integer.Integer.TheVariants.{I8, I16, I32, I64}
use Rattle.abi_base.specs.declared.integer.IntegerType.TheVariants.{Fixed}
use Rattle.abi_base.specs.declared.primitive.Primitive.TheVariants.{Int}
use Rattle.abi_base.specs.Integer.{integer_size}
use Rattle.abi_scalar.specs.declared.fields_shape.FieldsShape.TheVariants.{Array}
use Rattle.abi_scalar.specs.declared.repr.ReprOptions.{ReprOptions}
use Rattle.abi_scalar.specs.declared.scalar.Scalar.{Scalar}
use Rattle.abi_scalar.specs.declared.scalar.Scalar.TheVariants.{Initialized}
use Rattle.abi_scalar.specs.declared.variants.TagEncoding.TheVariants.{Direct}
use Rattle.abi_scalar.specs.Range.{full_range}
use Rattle.abi_calc.specs.Coroutine.Lists.{default_repr}
use Rattle.abi_tree.specs.declared.mark.Mark.TheVariants.{Plain}
use Rattle.abi_tree.specs.Tree.{Tree, Trees, no_trees, more_trees, no_variants, more_variants, struct, union, enum, array, scalar as number_type}
use Rattle.abi_tree.specs.Placed.{Placed, layout_of, scalar, fields, union as together, elements, tagged, no_parts, part, nothing_tagged, tagged_variant, nothing}
use Rattle.abi_scalar.specs.Layout.{Layout}
use Rattle.rustc_abi.specs.Laying.{one_scalar}
use Rattle.guarantees.specs.Reference.Words.{Extent, HasPartForEach, extent_of, extents_of}
use Rattle.rustc_abi.specs.Lists.{offsets_of}
use Rattle.guarantees.specs.Reference.Arrays.{IsArray}
use Rattle.guarantees.specs.Reference.CStruct.{IsCStruct, c_offsets, c_struct}
use Rattle.guarantees.specs.Reference.CUnion.{IsCUnion}
use Rattle.guarantees.specs.Reference.FieldEnums.{IsCEnum, IsCTag, IsPrimitiveEnum}
use Rattle.guarantees.specs.Reference.Modifiers.{IsPackedC, packed_to}

-- ---- types

-- a layout of so many bytes, aligned to 2 ^ align
abbrev pub sized : (size align : ℕ) → Layout
sized size align = record (layout_of nothing) { size = size; align = record { abi = align } }

abbrev pub unsigned : Integer → Scalar
unsigned i = Initialized (Int i false) (full_range (integer_size i))

abbrev pub u8 : Placed
u8 = one_scalar default_data_layout (unsigned I8)

abbrev pub u16 : Placed
u16 = one_scalar default_data_layout (unsigned I16)

-- with an alignment of 4 bytes
abbrev pub u32 : Placed
u32 = one_scalar default_data_layout (unsigned I32)

-- with an alignment of 8 bytes
abbrev f64 : Placed
f64 = scalar (sized 8 3) (unsigned I64)

abbrev pub c : ReprOptions
c = record default_repr { flags = record { 0 = 1 } }

abbrev as_u8 : ReprOptions
as_u8 = record default_repr { int = Some (Fixed I8 false) }

abbrev pub byte_type : Tree
byte_type = number_type (unsigned I8)

abbrev pub word_type : Tree
word_type = number_type (unsigned I32)

pub inj-Some : (m n : ℕ) → ◌≡◌ {A = Option ℕ} (Some m) (Some n) → m ≡ n
inj-Some m n e = cc

abbrev pub two_fields : Trees
two_fields = more_trees byte_type (more_trees word_type no_trees)

-- ---- arrays: three of `u16`

abbrev three : (size : ℕ) → Placed
three size = elements (record (sized size 1) { fields = Array 2 3 }) 3 u16

multiple : (n : ℕ) → n < 3 → 2 * n ≡ n * 2
multiple n lt = omega arith

array_right : IsArray (array 3 (number_type (unsigned I16))) (three 6)
array_right = (refl, refl, record { size = refl; align = refl; offsets = multiple })

array_a_byte_short : IsArray (array 3 (number_type (unsigned I16))) (three 5) → ⊥
array_a_byte_short h = absurd (omega (arith, h.2.size))

-- ---- `repr(C)` struct of `u8` and `u32`

abbrev pub pair_of : (second size align : ℕ) → Placed
pair_of second size align = fields (sized size align) Plain (part 0 u8 (part second u32 no_parts))

c_struct_right : IsCStruct (struct c true None two_fields) (pair_of 4 8 2)
c_struct_right = λ plain. record { each = tt; offsets = refl; extent = refl }

c_struct_unpadded : IsCStruct (struct c true None two_fields) (pair_of 1 8 2) → ⊥
c_struct_unpadded h =
    let at : 1 ≡ 4 = ap (λ (os : List ℕ). get_or os 1 0) (h (refl, refl, refl)).offsets in absurd (omega (arith, at))

c_struct_not_rounded : IsCStruct (struct c true None (more_trees word_type (more_trees byte_type no_trees)))
    (fields (sized 5 2) Plain (part 0 u32 (part 4 u8 no_parts))) → ⊥
c_struct_not_rounded h =
    let size : 5 ≡ 8 = ap (λ (e : Extent). e.size) (h (refl, refl, refl)).extent in absurd (omega (arith, size))

c_struct_without_a_field : IsCStruct (struct c true None two_fields) (fields (sized 1 0) Plain (part 0 u8 no_parts)) → ⊥
c_struct_without_a_field h = (h (refl, refl, refl)).each

-- ---- `repr(C)` union of the same

abbrev together_at : (second size : ℕ) → Placed
together_at second size = together (sized size 2) Plain (part 0 u8 (part second u32 no_parts))

c_union_right : IsCUnion (union c two_fields) (together_at 0 4)
c_union_right = λ plain. record { each = tt; offsets = refl; extent = refl }

c_union_behind : IsCUnion (union c two_fields) (together_at 4 8) → ⊥
c_union_behind h =
    let at : 4 ≡ 0 = ap (λ (os : List ℕ). get_or os 1 0) (h (refl, refl, refl)).offsets in absurd (omega (arith, at))

-- ---- enums of `u8` and of `u32`

abbrev either : Tree → Tree → ReprOptions → Tree
either first second repr =
    enum repr (more_variants 0 (more_trees first no_trees) (more_variants 1 (more_trees second no_trees) no_variants))

abbrev either_at : (tag first second : Placed) → (at_first at_second size align : ℕ) → Placed
either_at tag first second at_first at_second size align =
    tagged (sized size align) Plain 0 tag Direct
    (tagged_variant 0 (sized size align) Plain (part at_first first no_parts)
    (tagged_variant 1 (sized size align) Plain (part at_second second no_parts) nothing_tagged))

-- the least C enum has four bytes, so that none is less
abbrev tag_c : Placed
tag_c = u32

zero_or_one : (bits : ℕ) → 1 < bits → All (λ n. n < bits) (0 ∷ 1 ∷ [])
zero_or_one bits some zero d lt = omega arith
zero_or_one bits some (suc zero) d lt = some
zero_or_one bits some (suc (suc k)) d lt = absurd (omega arith)

-- a tag of four bytes, and a payload that is aligned to eight
c_enum_right : IsCEnum default_data_layout (either byte_type (number_type (unsigned I64)) c) (either_at tag_c u8 f64 8 8 16 3)
c_enum_right = λ asked. (
  record {
    each = (refl, tt, (refl, tt, tt));
    start = refl;
    direct = refl;
    number = (I32, false, (refl, refl));
    named = λ (some : false ≡ true). absurd (cc);
  },
  refl,
  ((8, refl, refl), ((8, refl, refl), tt)),
)

c_tag_right : IsCTag default_data_layout (either byte_type (number_type (unsigned I64)) c) (either_at tag_c u8 f64 8 8 16 3)
c_tag_right = λ plain. (
  I32,
  false,
  record { enough = lit≤ tt; holds = zero_or_one (2 ^ 32) (lit≤ tt); least = λ j enough holds. enough },
  (refl, refl),
)

c_tag_of_a_byte : IsCTag default_data_layout (either byte_type (number_type (unsigned I64)) c) (either_at u8 u8 f64 8 8 16 3) → ⊥
c_tag_of_a_byte h =
    let t = h (refl, refl, refl) in
    let size : 1 ≡ integer_size t.0 = ap (λ (e : Extent). e.size) t.3.1 in
    let enough : 4 ≤ integer_size t.0 = t.2.enough in
    absurd (omega arith)

c_enum_directly_behind : IsCEnum default_data_layout (either byte_type (number_type (unsigned I64)) c) (either_at tag_c u8 f64 4 8 16 3) → ⊥
c_enum_directly_behind h =
    let lie = (h (refl, refl, refl)).2.0 in
    let at : 8 ≡ lie.0 = ap (λ (os : List ℕ). get_or os 1 0) lie.1 in
    let first : 4 ≡ lie.0 + 0 = ap (λ (os : List ℕ). get_or os 0 0) lie.2 in
    absurd (omega (arith, at, first))

-- the tag is a byte, and each variant's fields follow it by themselves
primitive_enum_right : IsPrimitiveEnum default_data_layout (either byte_type word_type as_u8) (either_at u8 u8 u32 1 4 8 2)
primitive_enum_right = λ asked. (
  record { each = (refl, tt, (refl, tt, tt)); start = refl; direct = refl; number = (I8, false, (refl, refl)); named = λ some. (I8, false, (refl, refl), (refl, refl)) },
  refl,
  (refl, (refl, tt)),
)

primitive_enum_behind_the_greatest : IsPrimitiveEnum default_data_layout (either byte_type word_type as_u8) (either_at u8 u8 u32 4 4 8 2) → ⊥
primitive_enum_behind_the_greatest h =
    let at : 1 ≡ 4 = ap (λ (os : List ℕ). get_or os 1 0) (h (refl, refl, refl, refl)).2.0 in absurd (omega (arith, at))

-- ---- `repr(C, packed)` struct of the same

abbrev packed_c : ReprOptions
packed_c = record c { pack = Some 0 }

-- what the rule asks of a pack of so many bytes, by their exponent
abbrev ByPack : ℕ → Type 0
ByPack n =
    let parts = part 0 u8 (part 1 u32 no_parts) in
    HasPartForEach two_fields parts × (offsets_of parts ≡ c_offsets 0 (map (packed_to (2 ^ n)) (extents_of parts)))
    × (extent_of (pair_of 1 5 0) ≡ c_struct (map (packed_to (2 ^ n)) (extents_of parts)))

packed_c_right : IsPackedC (struct packed_c true None two_fields) (pair_of 1 5 0)
packed_c_right = λ n packed unraised asked. subst ByPack (inj-Some 0 n packed) (tt, refl, refl)

packed_c_with_a_hole : IsPackedC (struct packed_c true None two_fields) (pair_of 4 8 0) → ⊥
packed_c_with_a_hole h =
    let at : 4 ≡ 1 = ap (λ (os : List ℕ). get_or os 1 0) (h 0 refl refl refl).1 in absurd (omega (arith, at))
