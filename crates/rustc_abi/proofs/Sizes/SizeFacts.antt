-- Worked facts: what the clauses on sizes and lists refuse of small types, whatever else is said of them.
use Rattle.std.proofs.Common.{◌≡◌, ℕ, ◌≤◌, List, [], ◌∷◌, false, true, ap, ◌∙◌, ◌^◌, ◌<◌, arith, inl, inr, length, map}
use Rattle.std.proofs.Common.{refl, subst, Ok}
use Rattle.std.specs.Prelude.{All, IsPermutation, slice_index}
use Rattle.std.specs.Int.{next_multiple_of}
use Rattle.std.proofs.lemmas.List.Sorted.{length_permutation}
use Rattle.abi_base.specs.declared.data_layout.TargetDataLayout.{TargetDataLayout}
use Rattle.abi_base.specs.declared.integer.Integer.{Integer}
use Rattle.abi_base.specs.declared.integer.Integer.TheVariants.{I8, I32}
use Rattle.abi_base.specs.declared.primitive.Primitive.TheVariants.{Int}
use Rattle.abi_base.specs.declared.struct_kind.StructKind.TheVariants.{AlwaysSized, Prefixed}
use Rattle.abi_base.specs.DataLayout.{default_data_layout}
use Rattle.abi_base.specs.Integer.{integer_size}
use Rattle.abi_scalar.specs.declared.scalar.Scalar.{Scalar}
use Rattle.abi_scalar.specs.declared.scalar.Scalar.TheVariants.{Initialized}
use Rattle.abi_scalar.specs.Range.{full_range}
use Rattle.abi_scalar.specs.Simple.{scalar_layout}
use Rattle.abi_calc.specs.Coroutine.Layout.{IsStateTag}
use Rattle.abi_calc.specs.Coroutine.Lists.{default_repr}
use Rattle.abi_calc.specs.Coroutine.Promotion.{promoted_of}
use Rattle.abi_calc.specs.Coroutine.Sizes.{align_of_all, behind_first}
use Rattle.abi_calc.specs.Enums.Sizes.{AreLeastSizes}
use Rattle.abi_univariant.specs.Fields.{greatest}
use Rattle.abi_univariant.specs.Placement.{source_order}
use Rattle.abi_calc.specs.Enums.EnumStrategy.{strategy_of}
use Rattle.abi_univariant.specs.Least.{IsLeastSize, places_by, size_by}
use Rattle.abi_calc.proofs.EnumLemmas.Tagged.{integer_some}
use Rattle.abi_calc.proofs.CoroutineLemmas.OneCoroutine.{one_tag}
use Rattle.abi_univariant.proofs.Sorted.Sorting.{within_order}
use Rattle.abi_univariant.proofs.Facts.{IsOneOfSix, order_021, order_102, six_orders}
use Rattle.abi_calc.specs.declared.enums.strategy.EnumStrategy.TheVariants.{Several}
use Rattle.abi_tree.specs.declared.mark.Mark.{Mark}
use Rattle.abi_tree.specs.Tree.{enum, no_trees, Variants, no_variants, more_variants}
use Rattle.abi_tree.specs.Placed.{Placed, Parts, layout_of, scalar, never as nowhere, single}
use Rattle.abi_scalar.specs.Layout.{Layout}
use Rattle.rustc_abi.specs.Coroutines.{conflicts_of}
use Rattle.rustc_abi.specs.Enums.{layouts_of}
use Rattle.rustc_abi.specs.Laying.{VariantsLaying, one_scalar}
use Rattle.rustc_abi.specs.Least.{IsCoroutineSized, IsLeast, IsLeastEnum}
use Rattle.rustc_abi.specs.Lists.{IsLeastList}
use Rattle.rustc_abi.proofs.Trees.OneAnswer.{one_list_each}

-- ---- an enum of two variants without fields is no type without values, and no list of one of them

abbrev two_empty : Variants
two_empty = more_variants 0 no_trees (more_variants 1 no_trees no_variants)

empties : (dl : TargetDataLayout) → VariantsLaying dl two_empty (Ok ([] ∷ [] ∷ []))
empties dl = inr ([], refl, inr ([] ∷ [], inr ([], refl, inr ([], refl, refl)), refl))

as_several : (dl : TargetDataLayout) (placed : Placed) → IsLeast dl (enum default_repr two_empty) placed
    → IsLeastEnum dl default_repr (0 ∷ 1 ∷ []) ([] ∷ [] ∷ []) Several placed
as_several dl placed (variants, there, least) =
    let same : Ok variants ≡ Ok ([] ∷ [] ∷ [])
    = one_list_each dl two_empty (Ok variants) (Ok ([] ∷ [] ∷ [])) there (empties dl) in
    let are : variants ≡ [] ∷ [] ∷ [] = cc in
    subst (λ vs. IsLeastEnum dl default_repr (0 ∷ 1 ∷ []) vs (strategy_of true default_repr (layouts_of vs)) placed) are
    least

never_is_no_enum : (dl : TargetDataLayout) (layout : Layout) (mark : Mark)
    → IsLeast dl (enum default_repr two_empty) (nowhere layout mark) → ⊥
never_is_no_enum dl layout mark h = as_several dl (nowhere layout mark) h

one_is_no_enum : (dl : TargetDataLayout) (layout : Layout) (mark : Mark) (i : ℕ) (parts : Parts)
    → IsLeast dl (enum default_repr two_empty) (single layout mark i parts) → ⊥
one_is_no_enum dl layout mark i parts h = as_several dl (single layout mark i parts) h

-- ---- a list of a u8, a u32 and a u8 that may be moved doesn't stand in source order, which has 12 bytes: another has
-- 8

abbrev unsigned_scalar : Integer → Scalar
unsigned_scalar integer = Initialized (Int integer false) (full_range (integer_size integer))

abbrev unsigned : Integer → Layout
unsigned integer = scalar_layout 0 default_data_layout (unsigned_scalar integer)

abbrev fields : List Layout
fields = unsigned I8 ∷ unsigned I32 ∷ unsigned I8 ∷ []

not_in_source_order : (offsets : List ℕ)
    → IsLeastList default_data_layout default_repr AlwaysSized fields offsets 12 → ⊥
not_in_source_order offsets h =
    let most : 12 ≤ 8 = h.least.least (1 ∷ 0 ∷ 2 ∷ []) (order_102, tt) in
    absurd (omega (arith, most))

-- ---- nor does it as that of a variant behind a tag of a byte, whatever size is told of it: it doesn't lie at 1, 4 and 8

abbrev offsets : List ℕ
offsets = 1 ∷ 4 ∷ 8 ∷ []

abbrev AreItsPlaces : List ℕ → Type 0
AreItsPlaces order =
    map (slice_index offsets) order ≡ places_by default_data_layout default_repr (Prefixed 1 0) fields order

abbrev size_of_order : List ℕ → ℕ
size_of_order order = size_by default_data_layout default_repr (Prefixed 1 0) fields order

too_large : (size n : ℕ) → size ≤ 8 → size ≡ n → 12 ≤ n → ⊥
too_large size n most is large = omega arith

no_order : (size : ℕ) (order : List ℕ) → size ≤ 8 → size ≡ size_of_order order → AreItsPlaces order → IsOneOfSix order → ⊥
no_order size order most is places (inl e) = too_large size 12 most (is ∙ ap size_of_order e) (omega arith)
no_order size order most is places (inr (inl e)) =
    let lie : AreItsPlaces (0 ∷ 2 ∷ 1 ∷ []) = subst AreItsPlaces e places in
    let last : 8 ≡ 2 = ap (λ xs. slice_index xs 1) lie in
    absurd (omega (arith, last))
no_order size order most is places (inr (inr (inl e))) =
    too_large size 12 most (is ∙ ap size_of_order e) (omega arith)
no_order size order most is places (inr (inr (inr (inl e)))) =
    too_large size 12 most (is ∙ ap size_of_order e) (omega arith)
no_order size order most is places (inr (inr (inr (inr (inl e))))) =
    let lie : AreItsPlaces (2 ∷ 0 ∷ 1 ∷ []) = subst AreItsPlaces e places in
    let last : 8 ≡ 1 = ap (λ xs. slice_index xs 0) lie in
    absurd (omega (arith, last))
no_order size order most is places (inr (inr (inr (inr (inr e))))) =
    too_large size 12 most (is ∙ ap size_of_order e) (omega arith)

not_behind_a_tag : (size : ℕ)
    → IsLeastList default_data_layout default_repr (Prefixed 1 0) fields offsets size → ⊥
not_behind_a_tag size h =
    no_order size h.order (h.least.least (0 ∷ 2 ∷ 1 ∷ []) (order_021, tt)) h.placed.extent h.placed.places
    (six_orders h.order h.placed.allowed.0)

-- ---- two bytes that states of their own hold, without a conflict, share a place: a coroutine of them hasn't 3 bytes

abbrev byte : Placed
byte = scalar (unsigned I8) (unsigned_scalar I8)

abbrev each_own : List (List ℕ)
each_own = (0 ∷ []) ∷ (1 ∷ []) ∷ []

none_is_promoted : promoted_of each_own (conflicts_of 2 []) ≡ false ∷ false ∷ []
none_is_promoted = refl

abbrev tag : Scalar
tag = Initialized (Int I8 false) (record { start = 0; end = 1 })

is_tag : IsStateTag 2 tag
is_tag = (I8, record { holds = omega arith; least = λ i h. integer_some i }, refl)

-- one field has one order
only_zero : (order : List ℕ) → length order ≡ 1 → All (λ i. i < 1) order → order ≡ 0 ∷ []
only_zero [] long within = absurd (omega (arith, long))
only_zero (a ∷ []) long within =
    let first : a < 1 = within 0 0 (omega arith) in
    let none : a ≡ 0 = omega arith in
    ap (λ n. n ∷ []) none
only_zero (a ∷ b ∷ order) long within = absurd (omega (arith, long))

one_order : (order : List ℕ) → IsPermutation (source_order 1) order → order ≡ 0 ∷ []
one_order order p = only_zero order (length_permutation (source_order 1) order p) (within_order 1 order p)

abbrev alone : Scalar → List Layout
alone t = layout_of (one_scalar default_data_layout t) ∷ []

abbrev own : List (List Layout)
own = (unsigned I8 ∷ []) ∷ (unsigned I8 ∷ []) ∷ []

-- these are the sizes of the list of the tag and of those behind it, and 3 that of the whole
abbrev AreSizes : Scalar → (start : ℕ) → (sizes : List ℕ) → Type 0
AreSizes t start sizes =
    IsLeastSize default_data_layout default_repr AlwaysSized (alone t) start
    × AreLeastSizes default_data_layout default_repr (behind_first default_data_layout (alone t) start) own sizes
    × (3 ≡ next_multiple_of (greatest (start ∷ sizes)) (2 ^ align_of_all default_data_layout (alone t) start own))

second : (size : ℕ) → IsLeastSize default_data_layout default_repr (Prefixed 1 0) (unsigned I8 ∷ []) size → size ≡ 2
second size h =
    h.some.2
    ∙ ap (size_by default_data_layout default_repr (Prefixed 1 0) (unsigned I8 ∷ [])) (one_order h.some.0 h.some.1.0)

three_by : (start : ℕ) (sizes : List ℕ) → start ≡ 1 → AreSizes tag start sizes → ⊥
three_by start [] is h = absurd h.1
three_by start (m ∷ []) is h = absurd h.1.1
three_by start (m ∷ n ∷ []) is h =
    let other : AreSizes tag 1 (m ∷ n ∷ []) = subst (λ s. AreSizes tag s (m ∷ n ∷ [])) is h in
    let two : AreSizes tag 1 (2 ∷ n ∷ []) = subst (λ k. AreSizes tag 1 (k ∷ n ∷ [])) (second m other.1.0) other in
    let both : AreSizes tag 1 (2 ∷ 2 ∷ []) = subst (λ k. AreSizes tag 1 (2 ∷ k ∷ [])) (second n other.1.1.0) two in
    let wrong : 3 ≡ 2 = both.2 in
    absurd (omega (arith, wrong))
three_by start (m ∷ n ∷ k ∷ sizes) is h = absurd h.1.1.1

no_place_each : IsCoroutineSized default_data_layout [] (byte ∷ byte ∷ []) each_own [] 3 → ⊥
no_place_each (t, is_state_tag, (start, least, sizes, others, size)) =
    let same : t ≡ tag = one_tag 2 t tag is_state_tag is_tag in
    let all : AreSizes tag start sizes = subst (λ s. AreSizes s start sizes) same (least, others, size) in
    let first : start ≡ 1 = all.0.some.2
    ∙ ap (size_by default_data_layout default_repr AlwaysSized (alone tag)) (one_order all.0.some.0 all.0.some.1.0) in
    three_by start sizes first all
