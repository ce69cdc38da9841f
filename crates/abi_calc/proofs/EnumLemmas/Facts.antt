-- Worked facts of enums: which way they go, which discriminants count, how far a tag grows, and what variants share.
use Rattle.std.proofs.Common.{◌≡◌, ℕ, zero, suc, ◌<◌, ◌≤◌, Bool, true, false, List, [], ◌∷◌, None, Some, length, map, refl, sym, subst, arith}
use Rattle.std.specs.Prelude.{All, ◌-◌, ◌^◌, Option, ℤ, pos, neg_ℤ, slice_index_or}
use Rattle.std.proofs.lemmas.List.Sorted.{IsPermutation-refl, length_permutation}
use Rattle.abi_base.specs.declared.data_layout.TargetDataLayout.{TargetDataLayout}
use Rattle.abi_base.specs.declared.float.Float.TheVariants.{F32, F64}
use Rattle.abi_base.specs.declared.integer.Integer.TheVariants.{I8, I32, I64}
use Rattle.abi_base.specs.declared.integer.IntegerType.{IntegerType}
use Rattle.abi_base.specs.declared.integer.IntegerType.TheVariants.{Fixed}
use Rattle.abi_base.specs.declared.primitive.Primitive.{Primitive}
use Rattle.abi_base.specs.declared.primitive.Primitive.TheVariants.{Int, Float as OneFloat, Pointer}
use Rattle.abi_base.specs.declared.struct_kind.StructKind.{StructKind}
use Rattle.abi_base.specs.declared.struct_kind.StructKind.TheVariants.{Prefixed}
use Rattle.abi_base.specs.DataLayout.{default_data_layout}
use Rattle.abi_scalar.specs.declared.backend_repr.BackendRepr.TheVariants.{Scalar as OneScalar, ScalarPair, Memory}
use Rattle.abi_scalar.specs.declared.fields_shape.FieldsShape.TheVariants.{Arbitrary, Primitive as NoFields}
use Rattle.abi_scalar.specs.declared.layout_data.LayoutData.{LayoutData}
use Rattle.abi_scalar.specs.declared.repr.ReprOptions.{ReprOptions}
use Rattle.abi_scalar.specs.declared.scalar.Scalar.{Scalar}
use Rattle.abi_scalar.specs.declared.scalar.Scalar.TheVariants.{Initialized, Union}
use Rattle.abi_scalar.specs.declared.variants.Variants.TheVariants.{Single}
use Rattle.abi_scalar.proofs.LeastLemmas.{IsBestSoFar, best_first, best_taken, least_from_best}
use Rattle.abi_univariant.specs.Least.{IsLeastSize, size_by}
use Rattle.abi_univariant.specs.Placement.{source_order}
use Rattle.abi_univariant.proofs.Sorted.Sorting.{within_order}
use Rattle.abi_calc.specs.declared.enums.strategy.EnumStrategy.TheVariants.{NoValue, OneList, Several}
use Rattle.abi_calc.specs.declared.enums.payload.Payload.TheVariants.{Nothing, One, Other}
use Rattle.abi_calc.specs.Enums.Discriminants.{IsAskedWith, IsTagRange, counted_discriminants, meant_by}
use Rattle.abi_calc.specs.Enums.Growth.{grown_tag, start_align}
use Rattle.abi_calc.specs.Enums.Lists.{behind_tag}
use Rattle.abi_calc.specs.Enums.EnumStrategy.{strategy_of}
use Rattle.abi_calc.specs.Enums.Payload.{payload_of_two, common_payload, scalar_of, shared_primitive, tagged_view}
use Rattle.abi_calc.specs.Enums.Sizes.{IsTaggedSize}
use Rattle.abi_calc.proofs.EnumLemmas.Discriminants.{cut_within, greatest_reached, least_reached}

-- an attribute with these flags, and this integer for the tag
abbrev pub repr_of : (flags : ℕ) → (int : Option IntegerType) → ReprOptions
repr_of flags int = record { int = int; align = None; pack = None; flags = record { 0 = flags }; scalable = None; field_shuffle_seed = 0 }

-- no attribute
abbrev pub free_repr : ReprOptions
free_repr = repr_of 0 None

-- C
abbrev pub c_repr : ReprOptions
c_repr = repr_of 1 None

-- bytes in memory of this size and alignment, with values or without
abbrev pub field_of : (size align : ℕ) → (uninhabited : Bool) → LayoutData ℕ ℕ
field_of size align uninhabited = record {
  fields = NoFields;
  variants = Single 0;
  backend_repr = Memory true;
  largest_niche = None;
  uninhabited = uninhabited;
  align = record { abi = align };
  size = size;
  max_repr_align = None;
  unadjusted_abi_align = align;
  repr_c = false;
  randomization_seed = 0;
}

-- one byte
abbrev pub byte : LayoutData ℕ ℕ
byte = field_of 1 0 false

-- a field without values that takes no room
abbrev pub never : LayoutData ℕ ℕ
never = field_of 0 0 true

-- ---- which way a type goes

-- two variants that are present need a tag or a niche
pub two_present : strategy_of true free_repr ((byte ∷ []) ∷ [] ∷ []) ≡ Several
two_present = refl

-- one that is present beside one that is absent is laid out as its list
pub one_present : strategy_of true free_repr ((byte ∷ []) ∷ (never ∷ []) ∷ []) ≡ OneList 0
one_present = refl

-- whichever it is
pub second_present : strategy_of true free_repr ((never ∷ []) ∷ (byte ∷ []) ∷ []) ≡ OneList 1
second_present = refl

-- a field that takes room keeps its variant present, though it has no values
pub roomy_is_present : strategy_of true free_repr ((byte ∷ []) ∷ (field_of 1 0 true ∷ []) ∷ []) ≡ Several
roomy_is_present = refl

-- under C each variant is present
pub c_keeps_absent : strategy_of true c_repr ((byte ∷ []) ∷ (never ∷ []) ∷ []) ≡ Several
c_keeps_absent = refl

-- and one variant alone has a tag
pub c_tags_one : strategy_of true c_repr ((byte ∷ []) ∷ []) ≡ Several
c_tags_one = refl

-- an enum with no variant has no value
pub no_variant : strategy_of {F = ℕ} {V = ℕ} true free_repr [] ≡ NoValue
no_variant = refl

-- nor has one whose variants are all absent
pub no_present : strategy_of true free_repr ((never ∷ []) ∷ (never ∷ []) ∷ []) ≡ NoValue
no_present = refl

-- a struct is the list of its fields, with values or without
pub struct_is_list : strategy_of false free_repr ((never ∷ []) ∷ []) ≡ OneList 0
struct_is_list = refl

-- ---- which discriminants count, and what they ask for

-- discriminants of 64 bits with a sign
abbrev pub signed_repr : ReprOptions
signed_repr = repr_of 0 (Some (Fixed I64 true))

-- the least and the greatest discriminant there is
abbrev pub both_ends : List ℕ
both_ends = 0 ∷ (2 ^ 128 - 1) ∷ []

-- 2 ^ 128 - 1 stands for -1 there
pub ones_are_minus_one : meant_by default_data_layout signed_repr (2 ^ 128 - 1) ≡ neg_ℤ (pos 1)
ones_are_minus_one = refl

-- so with 0 the least asked for is -1, and the greatest 0
pub asked_with_minus_one : IsAskedWith default_data_layout signed_repr both_ends (neg_ℤ (pos 1)) 0
asked_with_minus_one =
    let numbers : List ℤ = map (meant_by default_data_layout signed_repr) both_ends in
    (least_reached (pos 0) (neg_ℤ (pos 1)) numbers refl, greatest_reached (pos 0) (pos 0) numbers refl)

ends_ascend : (i j d : ℕ) → i ≤ j → j < 2 → slice_index_or (0 ∷ 255 ∷ []) i d ≤ slice_index_or (0 ∷ 255 ∷ []) j d
ends_ascend zero zero d upto short = omega arith
ends_ascend zero (suc zero) d upto short = omega arith
ends_ascend (suc i) zero d upto short = absurd (omega arith)
ends_ascend (suc zero) (suc zero) d upto short = omega arith
ends_ascend (suc (suc i)) (suc zero) d upto short = absurd (omega arith)
ends_ascend i (suc (suc j)) d upto short = absurd (omega arith)

-- in a tag of one byte they are 0 and 255, and its range wraps round: from 255 to 0
pub range_wraps : IsTagRange 1 both_ends (record { start = 255; end = 0 })
range_wraps =
    let whole : IsBestSoFar 256 (0 ∷ 255 ∷ []) 1 0 255 255 = best_first 256 (0 ∷ 255 ∷ []) 0 255 255 (refl, refl, refl) in
    let best : IsBestSoFar 256 (0 ∷ 255 ∷ []) 2 255 0 1 = best_taken 256 (0 ∷ 255 ∷ []) 1 0 255 255 255 0 1 (omega arith) (omega arith) whole refl refl (omega arith) refl (omega arith) in
    (Some (record { start = 255; end = 0 }), (omega arith, least_from_best 1 (0 ∷ 255 ∷ []) (record { start = 255; end = 0 }) 1 ends_ascend (omega arith) (cut_within 1 both_ends) best), refl)

-- discriminants 0, 1 and 256 of three variants, the third with a field without values
abbrev pub three_items : List (ℕ × ℕ)
three_items = (0, 0) ∷ (1, 1) ∷ (2, 256) ∷ []

abbrev pub three_variants : List (List (LayoutData ℕ ℕ))
three_variants = [] ∷ (byte ∷ []) ∷ (byte ∷ never ∷ []) ∷ []

-- 0 and 1 count
pub two_count : counted_discriminants (λ v. v) free_repr three_variants three_items ≡ 0 ∷ 1 ∷ []
two_count = refl

-- under C each counts
pub c_counts_all : counted_discriminants (λ v. v) c_repr three_variants three_items ≡ 0 ∷ 1 ∷ 256 ∷ []
c_counts_all = refl

-- where none counts the tag's range is 0 alone
pub none_count : IsTagRange 1 [] (record { start = 0; end = 0 })
none_count = (None, refl, refl)

-- ---- how far a tag grows

-- a field of four bytes, aligned to them
abbrev pub word : LayoutData ℕ ℕ
word = field_of 4 2 false

-- a list of fields at these offsets, which follow one another in this order
abbrev pub list_of : (offsets order : List ℕ) → LayoutData ℕ ℕ
list_of offsets order = record byte { fields = Arbitrary offsets order }

-- where each variant's first field is aligned to four bytes, one byte grows to them
pub grows_to_word : grown_tag default_data_layout free_repr I8 (start_align (λ v. v) ((word ∷ []) ∷ []) (list_of (4 ∷ []) (0 ∷ []) ∷ [])) ≡ I32
grows_to_word = refl

-- not under C
pub c_stays : grown_tag default_data_layout c_repr I8 (start_align (λ v. v) ((word ∷ []) ∷ []) (list_of (4 ∷ []) (0 ∷ []) ∷ [])) ≡ I8
c_stays = refl

-- nor with an integer that is asked for
pub asked_stays : grown_tag default_data_layout signed_repr I8 2 ≡ I8
asked_stays = refl

-- a field that takes no room doesn't stop it
pub grows_past_nothing : grown_tag default_data_layout free_repr I8 (start_align (λ v. v) ((field_of 0 0 false ∷ word ∷ []) ∷ []) (list_of (1 ∷ 4 ∷ []) (0 ∷ 1 ∷ []) ∷ [])) ≡ I32
grows_past_nothing = refl

-- a byte right behind the tag does, before or behind the word in source order
pub byte_stops_growth : grown_tag default_data_layout free_repr I8 (start_align (λ v. v) ((word ∷ byte ∷ []) ∷ []) (list_of (4 ∷ 1 ∷ []) (1 ∷ 0 ∷ []) ∷ [])) ≡ I8
byte_stops_growth = refl

-- and so does one in another variant
pub other_stops_growth : grown_tag default_data_layout free_repr I8 (start_align (λ v. v) ((word ∷ []) ∷ (byte ∷ []) ∷ []) (list_of (4 ∷ []) (0 ∷ []) ∷ list_of (1 ∷ []) (0 ∷ []) ∷ [])) ≡ I8
other_stops_growth = refl

-- no integer is aligned to 512 bytes
pub none_so_aligned : grown_tag default_data_layout free_repr I8 9 ≡ I8
none_so_aligned = refl

-- nor is there one where no variant has a field with room
pub no_field_stays : grown_tag default_data_layout free_repr I8 (start_align (λ v. v) ([] ∷ []) (list_of [] [] ∷ [])) ≡ I8
no_field_stays = refl

-- a tag never becomes smaller
pub never_smaller : grown_tag default_data_layout free_repr I32 1 ≡ I32
never_smaller = refl

-- ---- what two variants share

-- a data layout whose integers of eight bytes are aligned as its pointers are
abbrev pub wide_layout : TargetDataLayout
wide_layout = record default_data_layout { i64_align = 3 }

-- a pointer to data
abbrev pub data_pointer : Primitive
data_pointer = Pointer (record { 0 = 0 })

-- an integer of four bytes with a sign, and one of eight without
abbrev pub four_bytes : Primitive
four_bytes = Int I32 true

abbrev pub eight_bytes : Primitive
eight_bytes = Int I64 false

-- a pointer beside an integer of its size and alignment is shared as the pointer, whichever comes first
pub pointer_before_integer : shared_primitive wide_layout data_pointer eight_bytes ≡ Some data_pointer
pointer_before_integer = refl

pub pointer_after_integer : shared_primitive wide_layout eight_bytes data_pointer ≡ Some data_pointer
pointer_after_integer = refl

-- beside one that is aligned otherwise nothing is shared
pub pointer_needs_alignment : shared_primitive default_data_layout data_pointer eight_bytes ≡ None
pointer_needs_alignment = refl

-- nor beside a smaller one
pub pointer_needs_size : shared_primitive wide_layout data_pointer four_bytes ≡ None
pointer_needs_size = refl

-- of two integers that differ in sign alone the first is shared
pub first_sign_stays : shared_primitive default_data_layout four_bytes (Int I32 false) ≡ Some four_bytes
first_sign_stays = refl

-- floats share their format alone
pub floats_differ : shared_primitive default_data_layout (OneFloat F32) (OneFloat F64) ≡ None
floats_differ = refl

pub floats_agree : shared_primitive default_data_layout (OneFloat F32) (OneFloat F32) ≡ Some (OneFloat F32)
floats_agree = refl

-- a float and an integer of its size share nothing
pub float_and_integer : shared_primitive default_data_layout (OneFloat F32) four_bytes ≡ None
float_and_integer = refl

-- any number of the primitive's width
abbrev pub any_of : Primitive → Scalar
any_of value = scalar_of wide_layout true value

-- two scalars in one variant are something else
pub two_scalars : payload_of_two (One (any_of four_bytes) 4) (One (any_of four_bytes) 8) ≡ Other
two_scalars = refl

-- a field without bytes beside one scalar leaves it
pub scalar_alone : payload_of_two Nothing (One (any_of four_bytes) 4) ≡ One (any_of four_bytes) 4
scalar_alone = refl

-- a variant with nothing leaves the scalar of another without a number
pub nothing_and_one : common_payload wide_layout Nothing (One (any_of four_bytes) 4) ≡ One (Union four_bytes) 4
nothing_and_one = refl

-- two variants with a scalar each at one offset have that in common
pub one_and_one : common_payload wide_layout (One (any_of eight_bytes) 8) (One (any_of data_pointer) 8) ≡ One (any_of data_pointer) 8
one_and_one = refl

-- at two offsets they have nothing in common that can be named
pub one_elsewhere : common_payload wide_layout (One (any_of four_bytes) 4) (One (any_of four_bytes) 8) ≡ Other
one_elsewhere = refl

-- ---- how a tagged enum is seen

-- a tag of one byte that is 0 or 1
abbrev pub two_way_tag : Scalar
two_way_tag = Initialized (Int I8 false) (record { start = 0; end = 1 })

-- as the tag where that is all
pub seen_as_tag : tagged_view wide_layout two_way_tag 1 0 (Nothing ∷ Nothing ∷ []) ≡ OneScalar two_way_tag
seen_as_tag = refl

-- as the tag and the one scalar that its variants share
pub seen_as_pair : tagged_view wide_layout two_way_tag 8 2 (Nothing ∷ One (any_of four_bytes) 4 ∷ []) ≡ ScalarPair two_way_tag (Union four_bytes) 4
seen_as_pair = refl

-- as bytes where one variant has more
pub seen_as_bytes : tagged_view wide_layout two_way_tag 12 2 (Other ∷ One (any_of four_bytes) 4 ∷ []) ≡ Memory true
seen_as_bytes = refl

-- ---- how large a tagged enum is

-- what lies behind a tag of one byte
abbrev pub behind_byte : StructKind
behind_byte = Prefixed 1 0

pub byte_is_before : behind_tag default_data_layout free_repr I8 ((byte ∷ []) ∷ (word ∷ []) ∷ []) ≡ behind_byte
byte_is_before = refl

-- under C the space before the fields grows to the greatest of their alignments
pub c_aligns_tag : behind_tag default_data_layout c_repr I8 ((byte ∷ []) ∷ (word ∷ []) ∷ []) ≡ Prefixed 1 2
c_aligns_tag = refl

none_listed : (order : List ℕ) → length order ≡ 0 → order ≡ []
none_listed [] count = refl
none_listed (a ∷ order) count = absurd (omega arith)

one_listed : (order : List ℕ) → length order ≡ 1 → All (λ i. i < 1) order → order ≡ 0 ∷ []
one_listed [] count within = absurd (omega arith)
one_listed (zero ∷ []) count within = refl
one_listed (suc a ∷ []) count within = absurd (omega (arith, within 0 0 (omega arith)))
one_listed (a ∷ b ∷ order) count within = absurd (omega arith)

-- no fields take the tag's byte
pub nothing_takes_one : IsLeastSize {F = ℕ} {V = ℕ} default_data_layout free_repr behind_byte [] 1
nothing_takes_one = record {
  some = ([], (IsPermutation-refl [], tt), refl);
  least = λ order allowed.
      subst (λ o. 1 ≤ size_by {F = ℕ} {V = ℕ} default_data_layout free_repr behind_byte [] o) (sym (none_listed order (length_permutation [] order allowed.0))) (omega arith);
}

-- one field has one order
pub one_takes : (field : LayoutData ℕ ℕ) (size : ℕ) → size ≡ size_by default_data_layout free_repr behind_byte (field ∷ []) (0 ∷ []) → IsLeastSize default_data_layout free_repr behind_byte (field ∷ []) size
one_takes field size is = record {
  some = (0 ∷ [], (IsPermutation-refl (0 ∷ []), tt), is);
  least = λ order allowed.
      subst (λ o. size ≤ size_by default_data_layout free_repr behind_byte (field ∷ []) o) (sym (one_listed order (length_permutation (source_order 1) order allowed.0) (within_order 1 order allowed.0))) (omega (arith, is));
}

-- of three variants with nothing, a byte and a word the lists take 1, 2 and 8 bytes, and the enum 8
pub three_take_eight : IsTaggedSize default_data_layout free_repr behind_byte ([] ∷ (byte ∷ []) ∷ (word ∷ []) ∷ []) 8
three_take_eight = (1 ∷ 2 ∷ 8 ∷ [], (nothing_takes_one, (one_takes byte 2 refl, (one_takes word 8 refl, tt))), refl)

-- beside a word ten bytes take 11, and the enum 12: the greatest size is rounded up to another variant's alignment
pub rounded_to_other : IsTaggedSize default_data_layout free_repr behind_byte ((word ∷ []) ∷ (field_of 10 0 false ∷ []) ∷ []) 12
rounded_to_other = (8 ∷ 11 ∷ [], (one_takes word 8 refl, (one_takes (field_of 10 0 false) 11 refl, tt)), refl)
