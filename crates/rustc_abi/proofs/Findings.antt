-- Findings: small inputs for which what the Rust crate answers breaks what it promises, or what its callers assume. docs/FINDINGS.md
-- says each in words, and how the crate's answer was seen.
use Rattle.std.proofs.Common.{◌≡◌, ◌≢◌, ℕ, ◌<◌, ◌≤◌, ◌&&◌, if◌then◌else◌, List, [], ◌∷◌, true, false, nat_le, nat_lt, Option, Some, None, Result, Ok, Err, arith, refl, ap, ⊎_elim}
use Rattle.std.proofs.Math.Pow.{pow_mono}
use Rattle.std.proofs.lemmas.Bool.{cases_lt}
use Rattle.std.proofs.lemmas.Nat.Gcd.{dvd_of_mod-eq-zero}
use Rattle.std.specs.Prelude.{codes, unwrap_or}
use Rattle.std.specs.Int.Count.{count_trailing_zeros}
use Rattle.std.specs.Str.{chars}
use Rattle.abi_base.specs.declared.data_layout.TargetDataLayout.{TargetDataLayout}
use Rattle.abi_base.specs.declared.integer.Integer.TheVariants.{I8, I32, I64}
use Rattle.abi_base.specs.declared.primitive.Primitive.TheVariants.{Int}
use Rattle.abi_base.specs.Align.{IsLeastPower, max_exponent}
use Rattle.abi_base.specs.DataLayout.{default_data_layout, vector_align_of}
use Rattle.abi_base.specs.DataLayoutFault.{Fault}
use Rattle.abi_base.specs.DataLayoutSpec.{alignment_in, bits_in, lettered_row, pointer_setting, pointer_space, pointers_in, row_of_spec, setting_in, setting_of, settings_of, size_written}
use Rattle.abi_base.specs.DataLayoutText.{data_layout_in}
use Rattle.abi_base.specs.NumberText.{number_answer}
use Rattle.abi_scalar.specs.declared.scalar.Scalar.{Scalar}
use Rattle.abi_scalar.specs.declared.scalar.Scalar.TheVariants.{Initialized, Union}
use Rattle.abi_scalar.specs.declared.backend_repr.BackendRepr.{BackendRepr}
use Rattle.abi_scalar.specs.declared.backend_repr.BackendRepr.TheVariants.{Memory, Scalar as OneScalar, SimdVector}
use Rattle.abi_scalar.specs.declared.fields_shape.FieldsShape.{FieldsShape}
use Rattle.abi_scalar.specs.declared.fields_shape.FieldsShape.TheVariants.{Arbitrary, Primitive, Union as Overlapping}
use Rattle.abi_scalar.specs.declared.variants.Variants.TheVariants.{Single, Multiple}
use Rattle.abi_scalar.specs.declared.variants.TagEncoding.TheVariants.{Direct}
use Rattle.abi_scalar.specs.declared.variants.VariantLayout.{VariantLayout}
use Rattle.abi_scalar.specs.declared.layout_data.LayoutData.{LayoutData}
use Rattle.abi_scalar.specs.Lawful.{IsLawfulLayout}
use Rattle.abi_scalar.specs.Range.{IsIn, full_range}
use Rattle.abi_scalar.specs.Scalar.{scalar_size}
use Rattle.abi_scalar.specs.Simple.{never_layout, scalar_layout}
use Rattle.abi_scalar.specs.View.{union_view}

-- ---- a tuple of eight scalable vectors

-- what the crate answers to a count of fields
abbrev counted_by_the_crate : ℕ → Option ℕ
counted_by_the_crate n = if nat_le 2 n && nat_lt n 8 then Some n else None

-- what its comment promises: two to eight are counts that a tuple may have
abbrev CountsTwoToEight : (ℕ → Option ℕ) → Type 0
CountsTwoToEight count = (n : ℕ) → 2 ≤ n → n ≤ 8 → count n ≡ Some n

pub eight_is_not_counted : CountsTwoToEight counted_by_the_crate → ⊥
eight_is_not_counted promised =
    let none : 0 ≡ 8 = ap (λ count. unwrap_or count 0) (promised 8 (omega arith) (omega arith)) in absurd (omega (arith, none))

-- ---- the index size of pointers

-- pointers of 64 bits whose indices have 32, by the fifth part of the spec
abbrev narrow_indices : List ℕ
narrow_indices = codes "p:64:64:64:32"

-- what the crate answers: indices as wide as the pointers, in bytes, whatever the fifth part is
abbrev index_size_in_the_crate : ℕ
index_size_in_the_crate = 8

-- the size of an index under the data layout that the text means, in bytes; 0 where it has a fault
abbrev index_size_of : List ℕ → ℕ
index_size_of text = either_size (data_layout_in (record { 0 = 0 }) text) where
  either_size : Result TargetDataLayout Fault → ℕ
  either_size (Ok dl) = dl.default_address_space_pointer_spec.pointer_offset
  either_size (Err fault) = 0

pub narrow_indices_are_narrow : index_size_of narrow_indices ≡ 4
unfolding data_layout_in settings_of setting_of setting_in row_of_spec lettered_row pointer_setting chars pointers_in pointer_space size_written bits_in number_answer alignment_in count_trailing_zeros
narrow_indices_are_narrow = refl

pub fifth_part_is_not_read : index_size_of narrow_indices ≢ index_size_in_the_crate
fifth_part_is_not_read same = absurd (omega (arith, same, narrow_indices_are_narrow))

-- ---- the alignment of a vector that is listed

-- vectors of 2 ^ 29 + 1 bytes are aligned to 8
abbrev listed_vector : TargetDataLayout
listed_vector = record default_data_layout { vector_align = (536870913, 3) ∷ [] }

-- the crate makes the alignment of an unlisted vector first, the next power of two: it is no alignment, so the call panics
pub listed_is_aligned : vector_align_of listed_vector 536870913 ≡ 3
listed_is_aligned = refl

pub next_is_no_alignment : (exponent : ℕ) → IsLeastPower 536870913 exponent → max_exponent < exponent
next_is_no_alignment exponent next = ⊎_elim
    (λ (few : exponent < 30). absurd (omega (arith, next.holds, pow_mono {i = exponent} {j = 29} (omega arith))))
    (λ (many : 30 ≤ exponent). omega arith)
    (cases_lt exponent 30)

-- ---- layouts whose size is at the bound

-- pointers of 16 bits, under which a size is below 2 ^ 15
abbrev small : TargetDataLayout
small = record default_data_layout { default_address_space_pointer_spec = record { pointer_size = 2; pointer_align = 1; pointer_offset = 2; is_fat = false } }

-- a layout of bytes in memory, of this size and alignment, given as an exponent
abbrev bytes_in_memory : FieldsShape ℕ → BackendRepr → (size align : ℕ) → LayoutData ℕ ℕ
bytes_in_memory fields view size align = record {
  fields = fields;
  variants = Single 0;
  backend_repr = view;
  largest_niche = None;
  uninhabited = false;
  align = record { abi = align };
  size = size;
  max_repr_align = None;
  unadjusted_abi_align = 0;
  repr_c = false;
  randomization_seed = 0;
}

-- what the crate answers to a union of 32767 bytes with an alignment of 2
abbrev union_in_the_crate : LayoutData ℕ ℕ
union_in_the_crate = bytes_in_memory (Overlapping 1) (Memory true) 32768 1

-- to a vector of 32767 lanes of one byte
abbrev vector_in_the_crate : LayoutData ℕ ℕ
vector_in_the_crate = bytes_in_memory (Arbitrary (0 ∷ []) (0 ∷ [])) (SimdVector (Initialized (Int I8 false) (full_range 1)) 32767) 32768 15

pub union_is_not_lawful : IsLawfulLayout small union_in_the_crate → ⊥
union_is_not_lawful lawful = absurd (omega (arith, lawful.bound))

pub vector_is_not_lawful : IsLawfulLayout small vector_in_the_crate → ⊥
vector_is_not_lawful lawful = absurd (omega (arith, lawful.bound))

-- a variant or a state: its size, and where its one field lies
abbrev variant_at : (size offset : ℕ) → VariantLayout ℕ
variant_at size offset = record {
  size = size;
  backend_repr = Memory true;
  field_offsets = offset ∷ [];
  fields_in_memory_order = 0 ∷ [];
  largest_niche = None;
  uninhabited = false;
}

-- to a coroutine of two states, one with a local of 2 bytes, the other with one of 32766 bytes
abbrev coroutine_in_the_crate : LayoutData ℕ ℕ
coroutine_in_the_crate = record (bytes_in_memory (Arbitrary (0 ∷ []) (0 ∷ [])) (Memory true) 32768 1) {
  variants = Multiple (Initialized (Int I8 false) (record { start = 0; end = 1 })) Direct 0 (variant_at 4 2 ∷ variant_at 32767 1 ∷ []);
}

pub coroutine_is_not_lawful : IsLawfulLayout small coroutine_in_the_crate → ⊥
coroutine_is_not_lawful lawful = absurd (omega (arith, lawful.bound))

-- ---- a variant that is smaller than the tag that lies in it

-- what the crate answers to a variant without fields beside one of a number of 4 bytes, where aggregates are aligned to 2: the tag
-- has grown to 4 bytes
abbrev tag_in_the_crate : Scalar
tag_in_the_crate = Initialized (Int I32 false) (record { start = 0; end = 1 })

abbrev empty_variant_in_the_crate : VariantLayout ℕ
empty_variant_in_the_crate = record (variant_at 2 0) { field_offsets = []; fields_in_memory_order = [] }

-- a tag at the start of a variant ends inside it
abbrev HoldsTag : TargetDataLayout → Scalar → VariantLayout ℕ → Type 0
HoldsTag dl tag variant = scalar_size dl tag ≤ variant.size

pub variant_is_smaller_than_its_tag : (dl : TargetDataLayout) → HoldsTag dl tag_in_the_crate empty_variant_in_the_crate → ⊥
variant_is_smaller_than_its_tag dl holds = absurd (omega (arith, holds))

-- ---- fields of one view and two alignments

-- the crate asserts of two fields of a union that views that are equal, whatever numbers they may hold, have one alignment
abbrev HasOneAlignment : TargetDataLayout → Type 0
HasOneAlignment dl = (a b : LayoutData ℕ ℕ) (scalar : Scalar) → IsLawfulLayout dl a → IsLawfulLayout dl b
    → union_view a.backend_repr ≡ OneScalar scalar → union_view b.backend_repr ≡ OneScalar scalar → a.align.abi ≡ b.align.abi

-- a number of 8 bytes, aligned to 4; and an enum of two units by such a number, aligned to 8
abbrev number : LayoutData ℕ ℕ
number = scalar_layout 0 default_data_layout (Initialized (Int I64 true) (full_range 8))

abbrev aligned_enum : LayoutData ℕ ℕ
aligned_enum = record (scalar_layout 0 default_data_layout (Initialized (Int I64 true) (record { start = 0; end = 1 }))) {
  align = record { abi = 3 };
  max_repr_align = Some 3;
  unadjusted_abi_align = 2;
}

pub number_is_lawful : IsLawfulLayout default_data_layout number
number_is_lawful = record {
  multiple = dvd_of_mod-eq-zero 4 refl;
  bound = omega arith;
  limit = omega arith;
  niche = tt;
  view = (record { pointer = tt; within = (omega arith, omega arith) }, refl);
  niche_of_view = tt;
  tag = tt;
}

two_is_not_in : IsIn 8 (record { start = 0; end = 1 }) 2 → ⊥
two_is_not_in h =
    ⊎_elim (λ (few : h.0 < 2). absurd (omega (arith, h.1))) (λ (many : 2 ≤ h.0). h.2 1 (omega arith) refl) (cases_lt h.0 2)

pub enum_is_lawful : IsLawfulLayout default_data_layout aligned_enum
enum_is_lawful = record {
  multiple = dvd_of_mod-eq-zero 8 refl;
  bound = omega arith;
  limit = omega arith;
  niche = record { inside = omega arith; pointer = tt; within = (omega arith, omega arith); free = (2, (omega arith, two_is_not_in)) };
  view = (record { pointer = tt; within = (omega arith, omega arith) }, refl);
  niche_of_view = (refl, refl);
  tag = tt;
}

pub one_alignment_is_not_so : HasOneAlignment default_data_layout → ⊥
one_alignment_is_not_so one =
    let same : 2 ≡ 3 = one number aligned_enum (Union (Int I64 true)) number_is_lawful enum_is_lawful refl refl in
    absurd (omega (arith, same))

-- ---- a layout in memory without fields to walk over

-- the crate's walk over uniform types takes it that no layout in memory has the fields of a primitive, and panics where one has
abbrev HasFieldsInMemory : TargetDataLayout → Type 0
HasFieldsInMemory dl = (layout : LayoutData ℕ ℕ) → IsLawfulLayout dl layout → layout.backend_repr ≡ Memory true → layout.fields ≢ Primitive

pub never_is_lawful : IsLawfulLayout default_data_layout (never_layout {F = ℕ} {V = ℕ} default_data_layout)
never_is_lawful = record {
  multiple = dvd_of_mod-eq-zero 1 refl;
  bound = omega arith;
  limit = omega arith;
  niche = tt;
  view = tt;
  niche_of_view = tt;
  tag = tt;
}

pub never_has_none : HasFieldsInMemory default_data_layout → ⊥
never_has_none have = have (never_layout default_data_layout) never_is_lawful refl refl
