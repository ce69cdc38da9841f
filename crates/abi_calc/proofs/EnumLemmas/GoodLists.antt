-- What is promised of the lists of an enum's variants, from the answers that the rules give them.
use Rattle.std.proofs.Common.{◌≡◌, ℕ, ◌^◌, ◌<◌, ◌≤◌, ◌∙◌, Bool, true, false, List, [], ◌∷◌, ap, arith, length, map, refl, subst, sym}
use Rattle.std.specs.Prelude.{All, Err, IfOk, Ok, Result, if◌then◌else◌}
use Rattle.std.specs.Int.{next_multiple_of}
use Rattle.std.proofs.lemmas.List.Elements.{All-head, All-tail}
use Rattle.abi_base.specs.declared.data_layout.TargetDataLayout.{TargetDataLayout}
use Rattle.abi_base.specs.declared.integer.Integer.{Integer}
use Rattle.abi_base.specs.declared.struct_kind.StructKind.{StructKind}
use Rattle.abi_base.specs.DataLayout.{IsLawfulDataLayout, size_bound}
use Rattle.abi_base.specs.Integer.{integer_align}
use Rattle.abi_scalar.specs.declared.error.LayoutCalculatorError.{LayoutCalculatorError}
use Rattle.abi_scalar.specs.declared.layout_data.LayoutData.{LayoutData}
use Rattle.abi_scalar.specs.declared.repr.ReprOptions.{ReprOptions}
use Rattle.abi_scalar.specs.Lawful.{IsLawfulLayout}
use Rattle.abi_scalar.specs.Repr.{is_abi_fixed, is_c}
use Rattle.abi_univariant.specs.List.{HasLawfulAligns, IsUnivariantAnswer}
use Rattle.abi_univariant.specs.Part.{parts_of}
use Rattle.abi_univariant.specs.Placement.{IsWellFormedPrefix, IsNonEmptyIfUnsized, IsSized, align_of, end_from, in_order, fields_repr, size_in, start_of}
use Rattle.abi_univariant.proofs.Promised.DeepLemmas.{biased_index, biased_inside}
use Rattle.abi_univariant.proofs.Placed.FaultLemmas.{clear_of}
use Rattle.abi_univariant.proofs.Views.LawfulList.{made_lawful}
use Rattle.abi_univariant.proofs.Sorted.Least.{align_small}
use Rattle.abi_univariant.proofs.Promised.LeastLemmas.{has_greatest_niche, has_least, has_own_niche, has_places, keeps_apart, lies_after, lies_in_order}
use Rattle.abi_univariant.proofs.Layouts.ListLemmas.{length-parts, parts_lawful, repr_lawful}
use Rattle.abi_univariant.proofs.Placed.RunLemmas.{aligned_parts, biased_of}
use Rattle.abi_calc.specs.Enums.Lists.{AreGoodLists, AreListLayouts, IsGoodList, align_with_all, behind_tag}
use Rattle.abi_calc.proofs.EnumLemmas.Lists.{align_small_all, good_of, integer_below, integer_small}
use Rattle.abi_calc.proofs.EnumLemmas.Sizes.{tail_of_sized}

-- a list of lawful fields that the rules give is lawful
pub list_lawful : {F V H : Type 0} (layout_of : H → LayoutData F V) (at : ℕ → F) (first : V) (dl : TargetDataLayout) (repr : ReprOptions) (kind : StructKind) (fields : List H) (list : LayoutData F V) → IsLawfulDataLayout dl
    → All (λ f. IsLawfulLayout dl (layout_of f)) fields → HasLawfulAligns repr → IsWellFormedPrefix kind (size_bound dl) → IsNonEmptyIfUnsized kind (length fields)
    → IsUnivariantAnswer layout_of at first dl repr kind fields (Ok list) → IsLawfulLayout dl list
list_lawful layout_of at first dl repr kind fields list law all aligns prefix tail answer =
    let asked = fields_repr dl repr kind in
    let parts = parts_of dl (map layout_of fields) in
    let of = parts_lawful layout_of dl fields all in
    let made = biased_of dl asked parts answer.0 answer.1 list.size list.align.abi list.largest_niche answer.2.named in
    let some = subst (IsNonEmptyIfUnsized kind) (sym (length-parts layout_of dl fields)) tail in
    let lawful = repr_lawful dl repr kind (length parts) law aligns prefix some in
    let small : align_of asked parts ≤ 29 = align_small asked parts (length parts) (size_bound dl) (aligned_parts dl parts of) lawful in
    let last : ℕ = end_from asked.pack (start_of asked.pack asked.kind) (in_order parts answer.0) in
    let size : list.size ≡ next_multiple_of last (2 ^ list.align.abi) = made.placed.extent ∙ ap (λ a. next_multiple_of last (2 ^ a)) (sym made.placed.alignment) in
    let below : size_in asked parts answer.0 < size_bound dl = (clear_of asked (size_bound dl) parts answer.0 made.placed.faultless).1 in
    made_lawful dl list first last list.align.abi (is_abi_fixed repr) parts answer.1 of refl (omega (arith, made.placed.alignment, small)) size
    (omega (arith, below, made.placed.extent))
    (biased_inside dl asked parts answer.0 answer.1 list.size list.align.abi list.largest_niche of some made)
    (biased_index dl asked parts answer.0 answer.1 list.size list.align.abi list.largest_niche some made) answer.2.view answer.2.variants

-- and it is good
pub good_list : {F V H : Type 0} (layout_of : H → LayoutData F V) (at : ℕ → F) (first : V) (dl : TargetDataLayout) (repr : ReprOptions) (kind : StructKind) (fields : List H) (list : LayoutData F V) → IsLawfulDataLayout dl
    → All (λ f. IsLawfulLayout dl (layout_of f)) fields → HasLawfulAligns repr → IsWellFormedPrefix kind (size_bound dl) → IsNonEmptyIfUnsized kind (length fields)
    → IsUnivariantAnswer layout_of at first dl repr kind fields (Ok list) → IsGoodList layout_of at first dl repr kind fields list
good_list layout_of at first dl repr kind fields list law all aligns prefix tail answer =
    let order = answer.0 in
    let offsets = answer.1 in
    good_of layout_of at first dl repr kind fields (Ok list) answer (list_lawful layout_of at first dl repr kind fields list law all aligns prefix tail answer)
    (lies_in_order layout_of at first dl repr kind fields order offsets list tail answer.2) (has_places layout_of at first dl repr kind fields order offsets list tail answer.2)
    (has_least layout_of at first dl repr kind fields order offsets list all tail answer.2) (keeps_apart layout_of at first dl repr kind fields order offsets list tail answer.2)
    (lies_after layout_of at first dl repr kind fields order offsets list tail answer.2) (has_own_niche layout_of at first dl repr kind fields order offsets list tail answer.2)
    (has_greatest_niche layout_of at first dl repr kind fields order offsets list all tail answer.2)

-- so is each list that the rules answer with
pub good_answer : {F V H : Type 0} (layout_of : H → LayoutData F V) (at : ℕ → F) (first : V) (dl : TargetDataLayout) (repr : ReprOptions) (kind : StructKind) (fields : List H) (answer : Result (LayoutData F V) (LayoutCalculatorError H)) → IsLawfulDataLayout dl
    → All (λ f. IsLawfulLayout dl (layout_of f)) fields → HasLawfulAligns repr → IsWellFormedPrefix kind (size_bound dl) → IsSized kind
    → IsUnivariantAnswer layout_of at first dl repr kind fields answer → IfOk answer (IsGoodList layout_of at first dl repr kind fields)
good_answer layout_of at first dl repr kind fields (Ok list) law all aligns prefix sized answer =
    good_list layout_of at first dl repr kind fields list law all aligns prefix (tail_of_sized kind (length fields) sized) answer
good_answer layout_of at first dl repr kind fields (Err error) law all aligns prefix sized answer = tt

-- the sized lists that the rules give an enum's variants are good
pub good_lists : {F V H : Type 0} (layout_of : H → LayoutData F V) (at : ℕ → F) (first : V) (dl : TargetDataLayout) (repr : ReprOptions) (kind : StructKind) (variants : List (List H)) (lists : List (LayoutData F V))
    → IsLawfulDataLayout dl → All (All (λ f. IsLawfulLayout dl (layout_of f))) variants → HasLawfulAligns repr → IsWellFormedPrefix kind (size_bound dl) → IsSized kind
    → AreListLayouts layout_of at first dl repr kind variants lists → AreGoodLists layout_of at first dl repr kind variants lists
good_lists layout_of at first dl repr kind [] [] law all aligns prefix sized h = tt
good_lists layout_of at first dl repr kind [] (l ∷ ls) law all aligns prefix sized h = elim h [ ]
good_lists layout_of at first dl repr kind (v ∷ vs) [] law all aligns prefix sized h = elim h [ ]
good_lists layout_of at first dl repr kind (v ∷ vs) (l ∷ ls) law all aligns prefix sized h = (
  good_list layout_of at first dl repr kind v l law (All-head (All (λ f. IsLawfulLayout dl (layout_of f))) v vs all) aligns prefix (tail_of_sized kind (length v) sized) h.0,
  good_lists layout_of at first dl repr kind vs ls law (All-tail (All (λ f. IsLawfulLayout dl (layout_of f))) v vs all) aligns prefix sized h.1,
)

either_small : (b : Bool) (m n : ℕ) → m ≤ 29 → n ≤ 29 → (if b then m else n) ≤ 29
either_small true m n h k = h
either_small false m n h k = k

-- what lies behind a tag lies behind a lawful prefix
pub tag_prefix : {F V H : Type 0} (layout_of : H → LayoutData F V) (dl : TargetDataLayout) (repr : ReprOptions) (asked : Integer) (variants : List (List H)) → IsLawfulDataLayout dl
    → All (All (λ f. IsLawfulLayout dl (layout_of f))) variants → IsWellFormedPrefix (behind_tag dl repr asked (map (map layout_of) variants)) (size_bound dl)
tag_prefix layout_of dl repr asked variants law all =
    let own : integer_align dl asked ≤ 29 = integer_small dl asked law in (
      integer_below dl asked law,
      either_small (is_c repr) (align_with_all (integer_align dl asked) (map (map layout_of) variants)) (integer_align dl asked) (align_small_all layout_of dl (integer_align dl asked) variants own all) own,
    )

-- and is sized
pub tag_sized : {F V : Type 0} (dl : TargetDataLayout) (repr : ReprOptions) (asked : Integer) (variants : List (List (LayoutData F V))) → IsSized (behind_tag dl repr asked variants)
tag_sized dl repr asked variants = tt
