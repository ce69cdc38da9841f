-- Worked facts: the definitions, tried on small types in both directions.
use Rattle.std.proofs.Common.{◌≡◌, ℕ, zero, suc, ◌-◌, ◌^◌, ◌≤◌, List, [], ◌∷◌, true, false, None, inl, inr, ap, arith, refl}
use Rattle.abi_base.specs.declared.endian.Endian.{Endian}
use Rattle.abi_base.specs.declared.endian.Endian.TheVariants.{Little, Big}
use Rattle.abi_base.specs.declared.primitive.Primitive.TheVariants.{Int}
use Rattle.abi_base.specs.declared.integer.Integer.{Integer}
use Rattle.abi_base.specs.declared.integer.Integer.TheVariants.{I8, I16, I32}
use Rattle.abi_base.specs.Integer.{integer_size}
use Rattle.abi_base.specs.DataLayout.{default_data_layout}
use Rattle.abi_scalar.specs.declared.scalar.Scalar.{Scalar}
use Rattle.abi_scalar.specs.declared.scalar.Scalar.TheVariants.{Initialized}
use Rattle.abi_scalar.specs.declared.repr.ReprOptions.{ReprOptions}
use Rattle.abi_scalar.specs.declared.variants.TagEncoding.{TagEncoding}
use Rattle.abi_scalar.specs.declared.variants.TagEncoding.TheVariants.{Direct, Niche}
use Rattle.abi_scalar.specs.declared.wrapping_range.WrappingRange.{WrappingRange}
use Rattle.abi_scalar.specs.declared.backend_repr.BackendRepr.TheVariants.{Scalar as OneScalar}
use Rattle.abi_scalar.specs.Range.{IsIn, full_range}
use Rattle.abi_types.specs.Ty.Typed.{Marks, Typed, layout_in, marks_of, variant_in}
use Rattle.abi_tree.specs.Tree.{Tree, never, struct, enum, coroutine, no_trees, more_trees, no_variants, more_variants, scalar as number_type}
use Rattle.abi_tree.specs.Value.{Value, number, two, list, variant, state, bytes, no_values, more_values}
use Rattle.abi_tree.specs.Bytes.{picked_bytes}
use Rattle.abi_tree.specs.declared.mark.Mark.TheVariants.{Plain}
use Rattle.abi_tree.specs.Placed.{Placed, layout_of, scalar, never as nowhere, fields, union, single, tagged, states, Parts, no_parts, part, TaggedVariants, nothing_tagged, tagged_variant, nothing}
use Rattle.abi_scalar.specs.Layout.{Layout}
use Rattle.abi_tree.specs.Places.{is_data_place}
use Rattle.abi_tree.specs.Runs.{padding_of, unused_of}
use Rattle.abi_tree.specs.Seen.{Sees}
use Rattle.abi_tree.specs.Tag.{Names}
use Rattle.abi_tree.specs.Holding.{Holds}
use Rattle.abi_tree.specs.Faithful.{EachValueIsHeld, IsFlagTrue, IsViewTrue}
use Rattle.abi_tree.specs.Unions.{IsCommon}
use Rattle.abi_tree.specs.Untagged.{NamesItself}

-- ---- the types

-- a layout of so many bytes
abbrev sized : ℕ → Layout
sized n = record {
  fields = (layout_of nothing).fields;
  variants = (layout_of nothing).variants;
  backend_repr = (layout_of nothing).backend_repr;
  largest_niche = None;
  uninhabited = false;
  align = record { abi = 0 };
  size = n;
  max_repr_align = None;
  unadjusted_abi_align = 0;
  repr_c = false;
  randomization_seed = 0;
}

-- a variant or state with this number, by itself of so many bytes
abbrev plain_tagged_variant : (code size : ℕ) → Parts → TaggedVariants → TaggedVariants
plain_tagged_variant code n parts tagged_variants = tagged_variant code (sized n) Plain parts tagged_variants

abbrev unsigned : Integer → Scalar
unsigned integer = Initialized (Int integer false) (full_range (integer_size integer))

abbrev boolean : Scalar
boolean = Initialized (Int I8 false) (record { start = 0; end = 1 })

abbrev u8_placed : Placed
u8_placed = scalar (sized 1) (unsigned I8)

abbrev bool_placed : Placed
bool_placed = scalar (sized 1) boolean

-- ---- data places: struct C ( u8 u32 u16 )

abbrev plain_c : ReprOptions
plain_c = record { int = None; align = None; pack = None; flags = record { 0 = 1 }; scalable = None; field_shuffle_seed = 0 }

abbrev three : Placed
three =
    fields (sized 12) Plain (part 0 u8_placed (part 4 (scalar (sized 4) (unsigned I32)) (part 8 (scalar (sized 2) (unsigned I16)) no_parts)))

first_byte_decides : is_data_place three 0 ≡ true
first_byte_decides = refl

second_byte_is_padding : is_data_place three 1 ≡ false
second_byte_is_padding = refl

padding_listed : padding_of three ≡ (1, 3) ∷ (10, 2) ∷ []
padding_listed = refl

-- ---- fields at one offset: of two numbers that differ, no bytes hold both, so that not every value is held

abbrev of_two : Tree
of_two = struct plain_c true None (more_trees (number_type (unsigned I8)) (more_trees (number_type (unsigned I8)) no_trees))

abbrev at_one_offset : Placed
at_one_offset = fields (sized 2) Plain (part 0 u8_placed (part 0 u8_placed no_parts))

abbrev zero_and_one : Value
zero_and_one = list (more_values (number 0) (more_values (number 1) no_values))

seven_is_in : IsIn 1 (full_range 1) 7
seven_is_in = (7, refl, λ k lt e. absurd (omega (arith, lt, e)))

zero_is_in : IsIn 1 (full_range 1) 0
zero_is_in = (0, refl, λ k lt e. absurd (omega (arith, lt)))

one_is_in_all : IsIn 1 (full_range 1) 1
one_is_in_all = (1, refl, λ k lt e. absurd (omega (arith, lt, e)))

both_not_held : (b : List ℕ) → Holds Big at_one_offset b zero_and_one → ⊥
both_not_held b h = absurd (omega (arith, h.1.0.1.1, h.1.1.0.1.1))

offsets_matter : EachValueIsHeld default_data_layout of_two at_one_offset → ⊥
offsets_matter held =
    let bytes_of = held zero_and_one (zero_is_in, (one_is_in_all, tt)) in
    both_not_held bytes_of.0 bytes_of.2

-- ---- a variant's field on the tag: of a value of the first variant, no bytes hold both the tag's number and the field's

abbrev byte_each : Tree
byte_each = enum plain_c (more_variants 0 (more_trees (number_type (unsigned I8)) no_trees) (more_variants 1 (more_trees (number_type (unsigned I8)) no_trees) no_variants))

abbrev on_the_tag : Placed
on_the_tag =
    tagged (sized 2) Plain 0 u8_placed Direct
    (plain_tagged_variant 0 1 (part 0 u8_placed no_parts) (plain_tagged_variant 1 2 (part 1 u8_placed no_parts) nothing_tagged))

abbrev one_in_first : Value
one_in_first = variant 0 (more_values (number 1) no_values)

not_on_the_tag : (b : List ℕ) → Holds Big on_the_tag b one_in_first → ⊥
not_on_the_tag b h = absurd (omega (arith, h.2.1, h.3.0.1.1))

tag_matters : EachValueIsHeld default_data_layout byte_each on_the_tag → ⊥
tag_matters held =
    let bytes_of = held one_in_first (one_is_in_all, tt) in
    not_on_the_tag bytes_of.0 bytes_of.2

-- ---- a state's local on a prefix field: of a value in which they differ, no bytes hold both

abbrev byte_beside : Tree
byte_beside = coroutine (more_trees (number_type (unsigned I8)) no_trees) (more_trees (number_type (unsigned I8)) no_trees) ((0 ∷ []) ∷ []) []

abbrev on_the_prefix : Placed
on_the_prefix =
    states (sized 2) (part 0 u8_placed no_parts) 1 u8_placed (plain_tagged_variant 0 1 (part 0 u8_placed no_parts) nothing_tagged)

abbrev zero_beside_one : Value
zero_beside_one = state 0 (more_values (number 0) no_values) (more_values (number 1) no_values)

not_on_the_prefix : (b : List ℕ) → Holds Big on_the_prefix b zero_beside_one → ⊥
not_on_the_prefix b h = absurd (omega (arith, h.1.0.1.1, h.4.0.1.1))

prefix_matters : EachValueIsHeld default_data_layout byte_beside on_the_prefix → ⊥
prefix_matters held =
    let bytes_of = held zero_beside_one ((zero_is_in, tt), omega arith, (one_is_in_all, tt)) in
    not_on_the_prefix bytes_of.0 bytes_of.2

-- ---- a variant that is missing: values come from the tree, so that one of the second variant is to be held, and no bytes hold it

abbrev first_alone : Placed
first_alone = tagged (sized 2) Plain 0 u8_placed Direct (plain_tagged_variant 0 2 (part 1 u8_placed no_parts) nothing_tagged)

abbrev one_in_second : Value
one_in_second = variant 1 (more_values (number 1) no_values)

variants_matter : EachValueIsHeld default_data_layout byte_each first_alone → ⊥
variants_matter held =
    let bytes_of = held one_in_second (one_is_in_all, tt) in
    bytes_of.2.3

-- none left, as of an enum without values
none_left : EachValueIsHeld default_data_layout byte_each (nowhere (sized 0) Plain) → ⊥
none_left held =
    let bytes_of = held one_in_first (one_is_in_all, tt) in
    bytes_of.2

-- flagged as one that has no values
flagged_enum : IsFlagTrue default_data_layout byte_each (tagged (record (sized 2) { uninhabited = true }) Plain 0 u8_placed Direct nothing_tagged) → ⊥
flagged_enum h = h one_in_first (one_is_in_all, tt)

-- ---- values: 01 holds the bool 1, and no byte from 02 on holds any

one_is_in : IsIn 1 (record { start = 0; end = 1 }) 1
one_is_in = (1, refl, λ k lt e. absurd (omega (arith, lt, e)))

bool_held : (order : Endian) → Holds order bool_placed (1 ∷ []) (number 1)
bool_held Little = (refl, refl, one_is_in)
bool_held Big = (refl, refl, one_is_in)

is_out : (n : ℕ) → 2 ≤ n → IsIn 1 (record { start = 0; end = 1 }) n → ⊥
is_out n above h = h.2 1 (omega (arith, above, h.1)) refl

no_bool : (order : Endian) (byte : ℕ) (v : Value) → 2 ≤ byte → Holds order bool_placed (byte ∷ []) v → ⊥
no_bool Little byte (number n) above h = is_out n (omega (arith, above, h.1)) h.2
no_bool Big byte (number n) above h = is_out n (omega (arith, above, h.1)) h.2
no_bool order byte (two n m) above h = h
no_bool order byte (list vs) above h = h
no_bool order byte (variant i vs) above h = h
no_bool order byte (state i ps vs) above h = h
no_bool order byte (bytes content) above h = h

-- ---- a flag that is wrong: never without it, and a number with it

unflagged_never : IsFlagTrue default_data_layout never (nowhere (sized 0) Plain) → ⊥
unflagged_never h = (h tt).1

flagged_number : IsFlagTrue default_data_layout (number_type (unsigned I8)) (scalar (record (sized 1) { uninhabited = true }) (unsigned I8)) → ⊥
flagged_number h = h (number 0) zero_is_in

-- ---- a view that is wrong: a number that is seen as a bool, where the byte is 2

two_is_in_all : IsIn 1 (full_range 1) 2
two_is_in_all = (2, refl, λ k lt e. absurd (omega (arith, lt, e)))

wrong_view : IsViewTrue default_data_layout (scalar (record (sized 1) { backend_repr = OneScalar boolean }) (unsigned I8)) → ⊥
wrong_view h = is_out 2 (omega arith) (h (2 ∷ []) (number 2) (refl, refl, two_is_in_all))

-- ---- a niche tag: 2 names the variant without fields, and each number of the bool the one with it

abbrev niche : TagEncoding ℕ
niche = Niche 1 (record { start = 0; last = 0 }) 2

two_names_first : Names niche 1 nothing_tagged 2 0
two_names_first = inl ((omega arith, omega arith, λ e. absurd (omega (arith, e))), refl)

one_names_second : Names niche 1 nothing_tagged 1 1
one_names_second = inr (refl, λ other spanned e. absurd (omega (arith, spanned.0, spanned.1, e)))

two_names_no_other : Names niche 1 nothing_tagged 2 1 → ⊥
two_names_no_other (inl h) = h.0.2 refl
two_names_no_other (inr h) = h.1 0 (omega arith, omega arith, λ e. absurd (omega (arith, e))) refl

one_names_no_other : Names niche 1 nothing_tagged 1 0 → ⊥
one_names_no_other (inl h) = absurd (omega (arith, h.1))
one_names_no_other (inr h) = absurd (omega (arith, h.0))

-- ---- an enum with a tag: of one byte, which is signed where the first variant's discriminant is -1. Its number, cut to the byte,
-- is 255; 1 names the second variant, and 2 names none, so that bytes that begin with it hold nothing

abbrev by_tag : Placed
by_tag =
    tagged (sized 2) Plain 0 u8_placed Direct
    (plain_tagged_variant (2 ^ 128 - 1) 2 (part 1 u8_placed no_parts) (plain_tagged_variant 1 1 no_parts nothing_tagged))

first_held_by_tag : Holds Little by_tag (255 ∷ 7 ∷ []) (variant 0 (more_values (number 7) no_values))
first_held_by_tag = (refl, omega arith, (refl, refl), ((omega arith, (refl, refl, seven_is_in)), tt))

second_held_by_tag : Holds Little by_tag (1 ∷ 7 ∷ []) (variant 1 no_values)
second_held_by_tag = (refl, omega arith, (refl, refl), tt)

none_held_by_tag : (v : Value) → Holds Little by_tag (2 ∷ 7 ∷ []) v → ⊥
none_held_by_tag (variant zero vs) h = absurd (omega (arith, h.2.1))
none_held_by_tag (variant (suc zero) vs) h = absurd (omega (arith, h.2.1))
none_held_by_tag (variant (suc (suc i)) vs) h = h.2
none_held_by_tag (number n) h = h
none_held_by_tag (two n m) h = h
none_held_by_tag (list vs) h = h
none_held_by_tag (state i ps vs) h = h
none_held_by_tag (bytes content) h = h

-- ---- an enum by a niche: 2 holds the variant without fields, the numbers of the bool hold the other, and 3 holds neither

abbrev by_niche : Placed
by_niche =
    tagged (sized 1) Plain 0 u8_placed niche (plain_tagged_variant 0 1 no_parts (plain_tagged_variant 1 1 (part 0 bool_placed no_parts) nothing_tagged))

first_held_by_niche : Holds Little by_niche (2 ∷ []) (variant 0 no_values)
first_held_by_niche = (refl, omega arith, two_names_first, tt)

second_held_by_niche : Holds Little by_niche (1 ∷ []) (variant 1 (more_values (number 1) no_values))
second_held_by_niche = (refl, omega arith, one_names_second, ((omega arith, (refl, refl, one_is_in)), tt))

three_names_no_first : Names niche 1 nothing_tagged 3 0 → ⊥
three_names_no_first (inl h) = absurd (omega (arith, h.1))
three_names_no_first (inr h) = absurd (omega (arith, h.0))

none_held_by_niche : (v : Value) → Holds Little by_niche (3 ∷ []) v → ⊥
none_held_by_niche (variant zero vs) h = three_names_no_first h.2
none_held_by_niche (variant (suc zero) (more_values v no_values)) h = no_bool Little 3 v (omega arith) h.3.0.1
none_held_by_niche (variant (suc zero) (more_values v (more_values w vs))) h = h.3.1
none_held_by_niche (variant (suc zero) no_values) h = h.3
none_held_by_niche (variant (suc (suc i)) vs) h = h.3
none_held_by_niche (number n) h = h
none_held_by_niche (two n m) h = h
none_held_by_niche (list vs) h = h
none_held_by_niche (state i ps vs) h = h
none_held_by_niche (bytes content) h = h

-- ---- an untagged variant with a byte in the bool's place: where the byte is 2, it names the other variant

byte_names_other :
    NamesItself Little 0 u8_placed niche (plain_tagged_variant 0 1 no_parts (plain_tagged_variant 1 1 (part 0 u8_placed no_parts) nothing_tagged)) → ⊥
byte_names_other h = two_names_no_other (h (2 ∷ []) (more_values (number 2) no_values) ((omega arith, (refl, refl, two_is_in_all)), tt))

-- ---- an enum of which one variant is left: a bool's numbers hold it, and 2 holds nothing

abbrev by_itself : Placed
by_itself = single (sized 1) Plain 1 (part 0 bool_placed no_parts)

held_by_itself : Holds Little by_itself (1 ∷ []) (variant 1 (more_values (number 1) no_values))
held_by_itself = (refl, refl, ((omega arith, (refl, refl, one_is_in)), tt))

none_held_by_itself : (v : Value) → Holds Little by_itself (2 ∷ []) v → ⊥
none_held_by_itself (variant i (more_values v no_values)) h = no_bool Little 2 v (omega arith) h.2.0.1
none_held_by_itself (variant i (more_values v (more_values w vs))) h = h.2.1
none_held_by_itself (variant i no_values) h = h.2
none_held_by_itself (number n) h = h
none_held_by_itself (two n m) h = h
none_held_by_itself (list vs) h = h
none_held_by_itself (state i ps vs) h = h
none_held_by_itself (bytes content) h = h

-- ---- a union of a u8 and of a struct whose second byte is padding: its data bytes are those of either

abbrev either : Placed
either = union (sized 4) Plain (part 0 u8_placed (part 0 (fields (sized 4) Plain (part 0 u8_placed (part 2 u8_placed (part 3 u8_placed no_parts)))) no_parts))

data_bytes : picked_bytes (is_data_place either) 0 (10 ∷ 11 ∷ 12 ∷ 13 ∷ []) ≡ 10 ∷ 12 ∷ 13 ∷ []
data_bytes = refl

union_held : Holds Little either (10 ∷ 11 ∷ 12 ∷ 13 ∷ []) (bytes (10 ∷ 12 ∷ 13 ∷ []))
union_held = (refl, refl)

-- ---- a union that misses its field's byte: bytes that hold its one value hold other numbers of the field

abbrev missing : Placed
missing = union (sized 1) Plain no_parts

field_missing : IsCommon Little u8_placed missing → ⊥
field_missing h =
    let other : Holds Little u8_placed (1 ∷ []) (number 0) = h (0 ∷ []) (1 ∷ []) (bytes []) (number 0) (refl, refl) (refl, refl) (refl, refl, zero_is_in) in
    absurd (omega (arith, other.1))

-- ---- two states of a coroutine, whose locals share the byte after the tag

abbrev two_states : Placed
two_states =
    states (sized 2) no_parts 0 u8_placed
    (plain_tagged_variant 0 2 (part 1 u8_placed no_parts) (plain_tagged_variant 1 2 (part 1 bool_placed no_parts) nothing_tagged))

first_state_held : Holds Little two_states (0 ∷ 7 ∷ []) (state 0 no_values (more_values (number 7) no_values))
first_state_held = (refl, tt, omega arith, (refl, refl), ((omega arith, (refl, refl, seven_is_in)), tt))

second_state_held : Holds Little two_states (1 ∷ 1 ∷ []) (state 1 no_values (more_values (number 1) no_values))
second_state_held = (refl, tt, omega arith, (refl, refl), ((omega arith, (refl, refl, one_is_in)), tt))

-- the byte 7 is no value of the second state's local
no_second_state : (n : ℕ) → Holds Little two_states (1 ∷ 7 ∷ []) (state 1 no_values (more_values (number n) no_values)) → ⊥
no_second_state n h = h.4.0.1.2.2 1 (omega (arith, h.4.0.1.1, h.4.0.1.2.1)) refl

-- ---- what handles see of a state: it is not flagged as one without values, and isn't told as the type without a value

state_is_not_flagged : (t : Typed) → Sees t two_states → (layout_in (variant_in t 1)).uninhabited ≡ false
state_is_not_flagged t seen = ap (λ (l : Layout). l.uninhabited) seen.4.3.0.0

state_is_not_never : (t : Typed) → Sees t two_states → (marks_of (variant_in t 1)).is_never ≡ false
state_is_not_never t seen = ap (λ (m : Marks). m.is_never) seen.4.3.0.1

-- ---- the range from 254 to 1 wraps round: it has 254, 255, 0 and 1

abbrev wrapping : WrappingRange
wrapping = record { start = 254; end = 1 }

start_is_in : IsIn 1 wrapping 254
start_is_in = (0, refl, λ k lt e. absurd (omega (arith, lt)))

zero_is_in_too : IsIn 1 wrapping 0
zero_is_in_too = (2, refl, λ k lt e. absurd (omega (arith, lt, e)))

end_is_in : IsIn 1 wrapping 1
end_is_in = (3, refl, λ k lt e. absurd (omega (arith, lt, e)))

after_end : IsIn 1 wrapping 2 → ⊥
after_end h = h.2 3 (omega (arith, h.1)) refl

before_start : IsIn 1 wrapping 253 → ⊥
before_start h = h.2 3 (omega (arith, h.1)) refl

-- ---- what a variant leaves unused: a tag at 0; a byte at 1 of the first variant; four bytes at 4 of the second

abbrev two_variants : Placed
two_variants =
    tagged (sized 8) Plain 0 u8_placed Direct
    (plain_tagged_variant 0 2 (part 1 u8_placed no_parts)
    (plain_tagged_variant 1 8 (part 4 (scalar (sized 4) (unsigned I32)) no_parts) nothing_tagged))

padding_of_variants : padding_of two_variants ≡ (2, 2) ∷ []
padding_of_variants = refl

first_leaves : unused_of two_variants 0 ≡ (4, 4) ∷ []
first_leaves = refl

second_leaves : unused_of two_variants 1 ≡ (1, 1) ∷ []
second_leaves = refl

-- an index that names no variant uses the tag's byte alone
no_variant_leaves : unused_of two_variants 2 ≡ (1, 1) ∷ (4, 4) ∷ []
no_variant_leaves = refl

-- a type without a tag leaves nothing unused
struct_leaves : unused_of three 0 ≡ []
struct_leaves = refl

-- ---- what a state leaves unused: a prefix field at 0; a tag at 1; a byte at 2 of the first state; four bytes at 4 of the second

abbrev suspended : Placed
suspended =
    states (sized 8) (part 0 u8_placed no_parts) 1 u8_placed
    (plain_tagged_variant 0 3 (part 2 u8_placed no_parts)
    (plain_tagged_variant 1 8 (part 4 (scalar (sized 4) (unsigned I32)) no_parts) nothing_tagged))

padding_of_states : padding_of suspended ≡ (3, 1) ∷ []
padding_of_states = refl

first_state_leaves : unused_of suspended 0 ≡ (4, 4) ∷ []
first_state_leaves = refl

second_state_leaves : unused_of suspended 1 ≡ (2, 1) ∷ []
second_state_leaves = refl

-- an index that names no state uses the bytes of the prefix field and of the tag alone
no_state_leaves : unused_of suspended 2 ≡ (2, 1) ∷ (4, 4) ∷ []
no_state_leaves = refl
