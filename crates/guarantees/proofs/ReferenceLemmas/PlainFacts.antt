-- Worked facts on primitive types, the Rust representation and the modifiers: a right layout meets the rule, and the nearest
-- wrong one doesn't.
use Rattle.std.proofs.Common.{◌≡◌, ℕ, ◌+◌, ◌-◌, ◌^◌, ◌≤◌, true, false, List, [], ◌∷◌, Option, None, Some, length, refl, sym, ap, ap₂, ◌∙◌, subst, arith, lit≤, inl, inr}
use Rattle.std.specs.Prelude.{◌%◌, ◌<◌, All, IsPermutation, max, nat_lt, sum_by, if◌then◌else◌}
use Rattle.std.proofs.Math.Nat.{dvd-mul_right}
use Rattle.std.proofs.Math.Pow.{pow_mono}
use Rattle.std.proofs.lemmas.List.Elements.{All-cons, All-head, All-nil, All-tail}
use Rattle.std.proofs.lemmas.List.Sorted.{All-permutation, IsPermutation-refl, IsPermutation-to_front, length_permutation, sum_by-IsPermutation}
use Rattle.std.proofs.lemmas.List.Sums.{sum_by-cons}
use Rattle.std.proofs.lemmas.Nat.Gcd.{dvd-zero, mod-eq-zero_of_dvd}
use Rattle.abi_base.specs.DataLayout.{default_data_layout}
use Rattle.abi_base.specs.declared.integer.Integer.TheVariants.{I8, I16, I32, I64}
use Rattle.abi_base.specs.declared.primitive.Primitive.TheVariants.{Int, Pointer}
use Rattle.abi_scalar.specs.declared.niche.Niche.{Niche}
use Rattle.abi_scalar.specs.declared.repr.ReprOptions.{ReprOptions}
use Rattle.abi_scalar.specs.declared.scalar.Scalar.{Scalar}
use Rattle.abi_scalar.specs.declared.scalar.Scalar.TheVariants.{Initialized}
use Rattle.abi_scalar.specs.Range.{full_range}
use Rattle.abi_calc.specs.Coroutine.Lists.{default_repr}
use Rattle.abi_tree.specs.declared.mark.Mark.TheVariants.{Plain}
use Rattle.abi_tree.specs.Tree.{Tree, struct, unit, never, pair as two_numbers, scalar as number_type, no_variants, more_variants, enum, no_trees, more_trees}
use Rattle.abi_tree.specs.Placed.{Placed, scalar, pair, fields, single, never as nowhere, no_parts, part, layout_of, niche_of, size_of}
use Rattle.abi_scalar.specs.Layout.{Layout}
use Rattle.rustc_abi.specs.Laying.{one_scalar}
use Rattle.guarantees.specs.Reference.Words.{Extent, align_in_bytes, extent_of, padding_needed_for, rounded_up}
use Rattle.guarantees.specs.Reference.Modifiers.{IsPacked, IsPackedWide, IsRaisable, IsRaised, IsRaisedEnum, LieClosely, LiePacked, positioned}
use Rattle.guarantees.specs.Reference.Primitive.{HasPowerAlign, HoldsAddresses, IsAlignedBySize, IsSignless, IsSizedByTable, IsThin, IsUnit, IsWhole, IsWidePointer}
use Rattle.guarantees.specs.Reference.Transparent.{IsTransparent}
use Rattle.guarantees.specs.Reference.RustLayout.{DontOverlap, IsAligned, IsApart, LiesAsAlone, places}
use Rattle.guarantees.proofs.ReferenceLemmas.Facts.{byte_type, c, inj-Some, pair_of, sized, two_fields, u16, u32, u8, unsigned, word_type}

-- ---- sizes and alignments

whole_right : IsWhole word_type (scalar (sized 8 2) (unsigned I64))
whole_right = dvd-mul_right 4 2

whole_of_six_bytes : IsWhole word_type (scalar (sized 6 2) (unsigned I64)) → ⊥
whole_of_six_bytes h = absurd (let is : 2 ≡ 0 = mod-eq-zero_of_dvd 4 h in omega (arith, is))

power_right : HasPowerAlign word_type u32
power_right = (2, lit≤ tt, refl)

-- an alignment of 2^30
power_above_the_limit : HasPowerAlign word_type (scalar (sized 0 30) (unsigned I64)) → ⊥
power_above_the_limit h =
    let small : 2 ^ h.0 ≤ 2 ^ 29 = pow_mono {i = h.0} {j = 29} h.1 in
    let is : 2 ^ 30 ≡ 2 ^ h.0 = h.2 in absurd (omega arith)

unit_right : IsUnit unit (fields (sized 0 0) Plain no_parts)
unit_right = (refl, refl)

unit_of_a_byte : IsUnit unit (fields (sized 1 0) Plain no_parts) → ⊥
unit_of_a_byte h = absurd (omega (arith, h.0))

-- ---- primitive types and pointers

table_right : IsSizedByTable (number_type (unsigned I16)) u16
table_right = refl

table_of_three_bytes : IsSizedByTable (number_type (unsigned I16)) (scalar (sized 3 0) (unsigned I16)) → ⊥
table_of_three_bytes h = absurd (omega (arith, h))

by_size_right : IsAlignedBySize word_type u32
by_size_right = lit≤ tt

by_size_above : IsAlignedBySize word_type (scalar (sized 4 3) (unsigned I32)) → ⊥
by_size_above h = absurd (let le : 8 ≤ 4 = h in omega (arith, le))

index_right : HoldsAddresses default_data_layout (number_type (unsigned I64)) (scalar (sized 8 2) (unsigned I64))
index_right = λ signed is. lit≤ tt

index_of_four_bytes : HoldsAddresses default_data_layout (number_type (unsigned I64)) (scalar (sized 4 2) (unsigned I64)) → ⊥
index_of_four_bytes h = absurd (let le : 8 ≤ 4 = h false refl in omega (arith, le))

-- each type has this layout
abbrev Is : Placed → Tree → Placed → Type 0
Is placed tree other = other ≡ placed

signless_right : IsSignless (Is u16) (number_type (unsigned I16)) u16
signless_right = λ i signed is t other p like there. sym (ap extent_of there)

signless_wider : IsSignless (Is u32) (number_type (unsigned I16)) u16 → ⊥
signless_wider h =
    let size : 2 ≡ 4 = ap (λ (e : Extent). e.size) (h I16 false refl (Initialized (Int I16 true) (full_range 2)) true u32 refl refl) in absurd (omega (arith, size))

abbrev pointer : Scalar
pointer = Initialized (Pointer (record { 0 = 0 })) (full_range 8)

thin_right : IsThin default_data_layout (Is (scalar (sized 8 3) (unsigned I64))) (number_type pointer) (scalar (sized 8 3) pointer)
thin_right = λ is t signed p like there. sym (ap extent_of there)

thin_of_twice_the_size : IsThin default_data_layout (Is (scalar (sized 8 3) (unsigned I64))) (number_type pointer) (scalar (sized 16 3) pointer) → ⊥
thin_of_twice_the_size h =
    let size : 16 ≡ 8 = ap (λ (e : Extent). e.size) (h refl (unsigned I64) false (scalar (sized 8 3) (unsigned I64)) refl refl) in absurd (omega (arith, size))

wide_right : IsWidePointer (Is (scalar (sized 8 3) pointer)) (two_numbers pointer (unsigned I64)) (pair (sized 16 3) no_parts)
wide_right = λ thin there. (
  subst (λ p. size_of p ≤ 16) (sym there) (lit≤ tt),
  subst (λ p. align_in_bytes p ≤ 8) (sym there) (lit≤ tt),
)

wide_aligned_to_less : IsWidePointer (Is (scalar (sized 8 3) pointer)) (two_numbers pointer (unsigned I64)) (pair (sized 16 2) no_parts) → ⊥
wide_aligned_to_less h = absurd (let le : 8 ≤ 4 = (h (scalar (sized 8 3) pointer) refl).1 in omega (arith, le))

-- ---- the Rust representation: a struct of `u8` and `u32`

abbrev free : ReprOptions → Tree
free repr = struct repr true None two_fields

-- the second field lies first
abbrev turned : (size align : ℕ) → Placed
turned size align = fields (sized size align) Plain (part 4 u8 (part 0 u32 no_parts))

aligned_right : IsAligned (free default_repr) (turned 8 2)
aligned_right = λ loose. (dvd-mul_right 1 4, lit≤ tt, (dvd-zero 4, lit≤ tt, tt))

aligned_to_less : IsAligned (free default_repr) (turned 6 1) → ⊥
aligned_to_less h = absurd (let le : 4 ≤ 2 = (h refl).2.1 in omega (arith, le))

aligned_at_two : IsAligned (free default_repr) (pair_of 2 8 2) → ⊥
aligned_at_two h = absurd (let is : 2 ≡ 0 = mod-eq-zero_of_dvd 4 (h refl).2.0 in omega (arith, is))

apart_right : IsApart (free default_repr) (turned 8 2)
apart_right = (tt, ((0, 4) ∷ (4, 1) ∷ [], IsPermutation-swap_two (4, 1) (0, 4), (lit≤ tt, (lit≤ tt, tt))))
  where
    IsPermutation-swap_two : (x y : ℕ × ℕ) → IsPermutation (x ∷ y ∷ []) (y ∷ x ∷ [])
    IsPermutation-swap_two x y = IsPermutation-to_front (x ∷ []) y

-- both fields have bytes and begin at 0
never_both : (ordered : List (ℕ × ℕ)) → All (λ x. (x.0 ≡ 0) × (1 ≤ x.1)) ordered → length ordered ≡ 2 → DontOverlap 0 ordered → ⊥
never_both [] all e h = absurd (omega arith)
never_both (x ∷ []) all e h = absurd (omega arith)
never_both (x ∷ y ∷ more) all e h =
    let P : ℕ × ℕ → Type 0 = λ x. (x.0 ≡ 0) × (1 ≤ x.1) in
    let first = All-head P x (y ∷ more) all in
    let second = All-head P y more (All-tail P x (y ∷ more) all) in
    absurd (omega (arith, first.0, first.1, second.0, h.1.0))

apart_at_one_place : IsApart (free default_repr) (pair_of 0 4 2) → ⊥
apart_at_one_place (each, (ordered, permuted, h)) =
    let P : ℕ × ℕ → Type 0 = λ x. (x.0 ≡ 0) × (1 ≤ x.1) in
    let all : All P (places (part 0 u8 (part 0 u32 no_parts))) =
    All-cons P (0, 1) ((0, 4) ∷ []) (refl, lit≤ tt) (All-cons P (0, 4) [] (refl, lit≤ tt) (All-nil P)) in
    never_both ordered (All-permutation P ((0, 1) ∷ (0, 4) ∷ []) ordered permuted all) (length_permutation ((0, 1) ∷ (0, 4) ∷ []) ordered permuted) h

apart_without_a_field : IsApart (free default_repr) (fields (sized 1 0) Plain (part 0 u8 no_parts)) → ⊥
apart_without_a_field h = h.0

alone_right : LiesAsAlone (Is u32) word_type u32
alone_right = (λ other is. is, refl)

alone_otherwise : LiesAsAlone (Is u32) word_type u16 → ⊥
alone_otherwise h = absurd (let size : 2 ≡ 4 = ap size_of h.1 in omega (arith, size))

-- ---- `packed`

abbrev packed : ReprOptions
packed = record default_repr { pack = Some 0 }

packed_right : IsPacked (free packed) (pair_of 1 5 0)
packed_right = λ n is. subst (λ k. LiePacked (2 ^ k) (part 0 u8 (part 1 u32 no_parts)) 5 1) (inj-Some 0 n is) (record {
  ordered = positioned 1 (part 0 u8 (part 1 u32 no_parts));
  end = 5;
  fields = IsPermutation-refl (positioned 1 (part 0 u8 (part 1 u32 no_parts)));
  close = (refl, (refl, refl));
  extent = refl;
})

no_padding_to_one : (n : ℕ) → padding_needed_for n 1 ≡ 0
no_padding_to_one n = none_where (n % 1) (omega arith)
  where
    none_where : (m : ℕ) → m ≡ 0 → (if nat_lt 0 m then 1 - m else 0) ≡ 0
    none_where m e = ap (λ k. if nat_lt 0 k then 1 - k else 0) e

-- a byte between the fields: the last one doesn't end where their sizes do
abbrev sizes : List (ℕ × Extent) → ℕ
sizes row = sum_by (λ x. x.1.size) row

tight : (from end : ℕ) (row : List (ℕ × Extent)) → All (λ x. x.1.align ≡ 1) row → LieClosely from row end → end ≡ from + sizes row
tight from end [] all h = h ∙ omega arith
tight from end ((offset, field) ∷ more) all h =
    let P : ℕ × Extent → Type 0 = λ x. x.1.align ≡ 1 in
    let one : field.align ≡ 1 = All-head P (offset, field) more all in
    let none : padding_needed_for from field.align ≡ 0 = ap (padding_needed_for from) one ∙ no_padding_to_one from in
    let rest : end ≡ offset + field.size + sizes more = tight (offset + field.size) end more (All-tail P (offset, field) more all) h.1 in
    let split : sizes ((offset, field) ∷ more) ≡ field.size + sizes more = sum_by-cons (λ (x : ℕ × Extent). x.1.size) (offset, field) more in
    omega (arith, h.0)

packed_with_a_hole : IsPacked (free packed) (pair_of 2 6 0) → ⊥
packed_with_a_hole h =
    let l = h 0 refl in
    let P : ℕ × Extent → Type 0 = λ x. x.1.align ≡ 1 in
    let row : List (ℕ × Extent) = positioned 1 (part 0 u8 (part 2 u32 no_parts)) in
    let first : ℕ × Extent = (0, record { size = 1; align = 1 }) in
    let second : ℕ × Extent = (2, record { size = 4; align = 1 }) in
    let all : All P row = All-cons P first (second ∷ []) refl (All-cons P second [] refl (All-nil P)) in
    let sum : sizes l.ordered ≡ 5 = sum_by-IsPermutation (λ (x : ℕ × Extent). x.1.size) row l.ordered l.fields in
    let end : l.end ≡ 0 + sizes l.ordered = tight 0 l.end l.ordered (All-permutation P row l.ordered l.fields all) l.close in
    let five : l.end ≡ 5 = omega arith in
    absurd (let is : 6 ≡ 5 = l.extent ∙ ap (λ n. rounded_up n 1) five in omega (arith, is))

-- ---- modifiers, beside the same type without them

abbrev aligned_to : ℕ → ReprOptions
aligned_to n = record default_repr { align = Some n }

raised_right : IsRaised (Is (pair_of 4 8 2)) (free (aligned_to 3)) (pair_of 4 8 3)
raised_right = λ n is before there.
    sym (ap₂ (λ (k : ℕ) (p : Placed). max (2 ^ k) (align_in_bytes p)) (sym (inj-Some 3 n is)) there)

-- `align(1)` lowers nothing
lowered : IsRaised (Is (pair_of 4 8 2)) (free (aligned_to 0)) (pair_of 1 5 0) → ⊥
lowered h = absurd (let is : 1 ≡ 4 = h 0 refl (pair_of 4 8 2) refl in omega (arith, is))

abbrev packed_to_16 : ReprOptions
packed_to_16 = record default_repr { pack = Some 4 }

wide_pack_right : IsPackedWide (Is (pair_of 4 8 2)) (free packed_to_16) (turned 8 2)
wide_pack_right = λ n is before there le. sym (ap align_in_bytes there)

wide_pack_raises : IsPackedWide (Is (pair_of 4 8 2)) (free packed_to_16) (turned 16 4) → ⊥
wide_pack_raises h = absurd (let is : 16 ≡ 4 = h 4 refl (pair_of 4 8 2) refl (lit≤ tt) in omega (arith, is))

-- ---- enums under `align`, beside a struct around them

abbrev enum_with : ReprOptions → Tree
enum_with repr = enum repr (more_variants 0 (more_trees byte_type no_trees) no_variants)

abbrev foreign_to : ℕ → ReprOptions
foreign_to n = record c { align = Some n }

raised_enum_right : IsRaisedEnum (Is (pair_of 4 8 3)) (enum_with (foreign_to 3)) (turned 8 3)
raised_enum_right = λ n is foreign around same loose wrapped there. sym (ap align_in_bytes there)

raised_enum_left_alone : IsRaisedEnum (Is (pair_of 4 8 3)) (enum_with (foreign_to 3)) (turned 8 2) → ⊥
raised_enum_left_alone h = absurd (let is : 4 ≡ 8 = h 3 refl (inl (inl refl)) (foreign_to 3) refl refl (pair_of 4 8 3) refl in omega (arith, is))

-- of Rust's own representation: a single variant, of discriminant 0, which is left
abbrev lone : (align : ℕ) → Placed
lone align = single (sized 8 align) Plain 0 no_parts

raised_free_enum_right : IsRaisedEnum (Is (pair_of 4 8 3)) (enum_with (aligned_to 3)) (lone 3)
raised_free_enum_right = λ n is free_too around same loose wrapped there. sym (ap align_in_bytes there)

raised_free_enum_left_alone : IsRaisedEnum (Is (pair_of 4 8 3)) (enum_with (aligned_to 3)) (lone 2) → ⊥
raised_free_enum_left_alone h =
    let P : ℕ → Type 0 = λ d. d < 256 in
    let free_too : IsRaisable (aligned_to 3) (more_variants 0 (more_trees byte_type no_trees) no_variants) (lone 2) =
    inr (refl, All-cons P 0 [] (omega arith) (All-nil P), tt) in
    absurd (let is : 4 ≡ 8 = h 3 refl free_too (aligned_to 3) refl refl (pair_of 4 8 3) refl in omega (arith, is))

-- ---- transparent types: over `u32`, beside a type without bytes, and over nothing

abbrev transparent : ReprOptions
transparent = record default_repr { flags = record { 0 = 4 } }

-- unit beside a word
abbrev word_and_unit : Tree
word_and_unit = struct transparent true None (more_trees unit (more_trees word_type no_trees))

-- seen as the word is
abbrev seen_as_word : (size align : ℕ) → Layout
seen_as_word size align = record (sized size align) { backend_repr = (layout_of u32).backend_repr }

abbrev around_word : (size align : ℕ) → Placed
around_word size align = fields (seen_as_word size align) Plain (part 4 (fields (sized 0 0) Plain no_parts) (part 0 u32 no_parts))

transparent_right : IsTransparent word_and_unit (around_word 4 2)
transparent_right = λ plain. (refl, refl, λ c simd. refl)

transparent_of_twice_the_size : IsTransparent word_and_unit (around_word 8 2) → ⊥
transparent_of_twice_the_size h =
    let size : 8 ≡ 4 = ap (λ (e : Extent). e.size) (h (refl, refl, refl)).0 in absurd (omega (arith, size))

-- as bytes in memory, and not as the word
transparent_seen_as_bytes : IsTransparent word_and_unit (fields (sized 4 2) Plain (part 4 (fields (sized 0 0) Plain no_parts) (part 0 u32 no_parts))) → ⊥
transparent_seen_as_bytes h =
    let view : (sized 4 2).backend_repr ≡ (layout_of u32).backend_repr = (h (refl, refl, refl)).2 refl refl in absurd (cc)

-- a `bool`, whose free numbers the whole has, too
abbrev flag : Scalar
flag = Initialized (Int I8 false) (record { start = 0; end = 1 })

abbrev a_flag : Placed
a_flag = one_scalar default_data_layout flag

abbrev around_flag : Option Niche → Placed
around_flag niche = fields (record (layout_of a_flag) { largest_niche = niche }) Plain (part 0 a_flag no_parts)

transparent_with_its_niche : IsTransparent (struct transparent true None (more_trees (number_type flag) no_trees)) (around_flag (niche_of a_flag))
transparent_with_its_niche = λ plain. (refl, refl, λ c simd. refl)

transparent_without_its_niche : IsTransparent (struct transparent true None (more_trees (number_type flag) no_trees)) (around_flag None) → ⊥
transparent_without_its_niche h = absurd (let niche : None ≡ niche_of a_flag = (h (refl, refl, refl)).1 in cc)

transparent_over_nothing : IsTransparent (struct transparent true None no_trees) (fields (sized 0 0) Plain no_parts)
transparent_over_nothing = λ plain. (refl, refl, λ c simd. refl)

transparent_over_nothing_raised : IsTransparent (struct transparent true None no_trees) (fields (sized 0 3) Plain no_parts) → ⊥
transparent_over_nothing_raised h =
    let align : 8 ≡ 1 = ap (λ (e : Extent). e.align) (h (refl, refl, refl)).0 in absurd (omega (arith, align))

-- an enum of one variant, and one whose variant is absent
abbrev one_word : Tree
one_word = enum transparent (more_variants 0 (more_trees unit (more_trees word_type no_trees)) no_variants)

abbrev one_around_word : (size align : ℕ) → Placed
one_around_word size align =
    single (seen_as_word size align) Plain 0 (part 4 (fields (sized 0 0) Plain no_parts) (part 0 u32 no_parts))

transparent_enum_right : IsTransparent one_word (one_around_word 4 2)
transparent_enum_right = λ plain alone. (refl, refl, λ c simd. refl)

transparent_enum_of_twice_the_size : IsTransparent one_word (one_around_word 8 2) → ⊥
transparent_enum_of_twice_the_size h =
    let size : 8 ≡ 4 = ap (λ (e : Extent). e.size) (h (refl, refl, refl) (refl, refl)).0 in absurd (omega (arith, size))

abbrev one_never : Tree
one_never = enum transparent (more_variants 0 (more_trees never no_trees) no_variants)

transparent_absent_right : IsTransparent one_never (nowhere (sized 0 0) Plain)
transparent_absent_right = λ plain alone. (refl, refl, λ c simd. refl)

transparent_absent_of_a_byte : IsTransparent one_never (nowhere (sized 1 0) Plain) → ⊥
transparent_absent_of_a_byte h =
    let size : 1 ≡ 0 = ap (λ (e : Extent). e.size) (h (refl, refl, refl) (refl, refl)).0 in absurd (omega (arith, size))
