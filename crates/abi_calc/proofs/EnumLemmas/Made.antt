-- What an enum of several variants takes over from its lists, from the answer that the rules give it.
use Rattle.std.proofs.Common.{◌≡◌, ℕ, suc, ◌+◌, ◌^◌, ◌==◌, ◌&&◌, ◌<◌, ◌≤◌, ◌∙◌, Bool, true, false, List, [], ◌∷◌, ap, arith, inl, inr, length, map, refl, subst, sym}
use Rattle.std.specs.Prelude.{All, IfOk, ℤ, MatchBool, max, nat_le, nat_lt, None, Option, Some, Result, Ok, Err, if◌then◌else◌, slice_get}
use Rattle.std.specs.Int.{next_multiple_of}
use Rattle.std.specs.Iterator.Runs.{WholeRun}
use Rattle.std.specs.List.{list_all}
use Rattle.std.proofs.lemmas.Bool.{eqb-true, leb-true, ltb-false, ltb-true}
use Rattle.std.proofs.lemmas.List.{length-map}
use Rattle.std.proofs.lemmas.List.Elements.{All-cons, All-nil}
use Rattle.std.proofs.lemmas.Option.{slice_get_within}
use Rattle.abi_base.specs.declared.data_layout.TargetDataLayout.{TargetDataLayout}
use Rattle.abi_base.specs.declared.integer.Integer.{Integer}
use Rattle.abi_base.specs.declared.primitive.Primitive.TheVariants.{Int}
use Rattle.abi_base.specs.declared.struct_kind.StructKind.{StructKind}
use Rattle.abi_base.specs.declared.struct_kind.StructKind.TheVariants.{AlwaysSized}
use Rattle.abi_base.specs.DataLayout.{IsLawfulDataLayout}
use Rattle.abi_base.specs.Integer.{integer_size}
use Rattle.abi_scalar.specs.declared.backend_repr.BackendRepr.{BackendRepr}
use Rattle.abi_scalar.specs.declared.backend_repr.BackendRepr.TheVariants.{Memory}
use Rattle.abi_scalar.specs.declared.error.LayoutCalculatorError.{LayoutCalculatorError}
use Rattle.abi_scalar.specs.declared.layout_data.LayoutData.{LayoutData}
use Rattle.abi_scalar.specs.declared.repr.ReprOptions.{ReprOptions}
use Rattle.abi_scalar.specs.declared.scalar.Scalar.{Scalar}
use Rattle.abi_scalar.specs.declared.scalar.Scalar.TheVariants.{Initialized}
use Rattle.abi_scalar.specs.declared.variants.RangeFrom.{RangeFrom}
use Rattle.abi_scalar.specs.declared.variants.RangeToInclusive.{RangeToInclusive}
use Rattle.abi_scalar.specs.declared.variants.VariantLayout.{VariantLayout}
use Rattle.abi_scalar.specs.Lawful.{IsLawfulLayout}
use Rattle.abi_scalar.specs.Niche.{niche_size}
use Rattle.abi_scalar.specs.Reserve.{reserved}
use Rattle.abi_scalar.specs.Shape.{listed_offsets}
use Rattle.abi_scalar.specs.Variant.{variant_of, variants_of}
use Rattle.abi_univariant.specs.List.{HasLawfulAligns}
use Rattle.abi_univariant.specs.Part.{is_unsized}
use Rattle.abi_calc.specs.declared.enums.niche.Room.{Room}
use Rattle.abi_calc.specs.Enums.Choice.{IsNicheAnswer, preferred_layout, takes_niche}
use Rattle.abi_calc.specs.Enums.Discriminants.{counted_discriminants}
use Rattle.abi_calc.specs.Enums.Growth.{grown_tag, grown_variant, moved_offset, start_align}
use Rattle.abi_calc.specs.Enums.Lists.{AreGoodLists, AreListLayouts, behind_tag}
use Rattle.abi_calc.specs.Enums.Made.{AreBehindTag, AreBesideNiche, HaveViewBehindTag, AreVariantsAligned, HasLeastTag, IsBehindTag, IsBesideNiche, IsMadeOfLists, IsMovedBy, IsSeenBehindTag, takes_view}
use Rattle.abi_calc.specs.Enums.Niche.{beside_niche, moved_on, niche_layout, niche_view, place_after, room_beside, span_count, untagged_of, variants_from, without_niche}
use Rattle.abi_calc.specs.Enums.EnumStrategy.{has_no_value}
use Rattle.abi_calc.specs.Enums.Payload.{is_memory, is_of_scalars, variant_with_view, tagged_view}
use Rattle.abi_calc.specs.Enums.Promised.{IsGoodEnum}
use Rattle.abi_calc.specs.Enums.Several.{IsAskedAnswer, IsAskedFor, IsEnumAnswer, IsSeveralAnswer, better_of}
use Rattle.abi_calc.specs.Enums.Tagged.{IsTaggedBy, lists_align, lists_size, payloads_of}
use Rattle.abi_calc.specs.Ordered.{IsOrderedWhole, IsTagField}
use Rattle.abi_calc.proofs.EnumLemmas.Deep.{niche_is_sized, no_values, tagged_is_sized}
use Rattle.abi_calc.proofs.EnumLemmas.Growth.{grown_size}
use Rattle.abi_calc.proofs.EnumLemmas.NicheLawful.{first_parts, never_empty, niche_parts}
use Rattle.abi_calc.proofs.EnumLemmas.Ordered.{AreLeft, IsLeft, behind_aligned, behind_ordered, beside_aligned, beside_ordered, left_clear, one_field, size_divides}
use Rattle.abi_calc.proofs.EnumLemmas.Places.{behind, clear_grown}
use Rattle.abi_calc.proofs.EnumLemmas.Several.{by_both}
use Rattle.abi_calc.proofs.EnumLemmas.GoodLists.{good_lists, tag_prefix}
use Rattle.abi_calc.proofs.Made.{field_lists}

-- ---- the answer

module _ {F V H : Type 0} (layout_of : H → LayoutData F V) (at : ℕ → F) (number : F → ℕ) (index : ℕ → V) (place : V → ℕ) (dl : TargetDataLayout) (repr : ReprOptions)
    (asks : RangeFrom ℤ → RangeToInclusive ℕ → Integer × Bool → Type 0) (variants : List (List H)) (P : List (V × ℕ) → LayoutData F V → Type 0) where
  abbrev vs : List (List (LayoutData F V))
  vs = map (map layout_of) variants

  abbrev values : List (V × ℕ) → List ℕ
  values items = counted_discriminants place repr (map (map layout_of) variants) items

  -- what holds of each layout with a tag
  abbrev pub OfTagged : Type 0
  OfTagged = (items : List (V × ℕ)) (asked : Integer) (signed : Bool) (lists : List (LayoutData F V)) (t : LayoutData F V) → repr.pack ≡ None
      → IsAskedFor dl repr asks (counted_discriminants place repr (map (map layout_of) variants) items) asked signed
      → AreListLayouts layout_of at (index 0) dl repr (behind_tag dl repr asked (map (map layout_of) variants)) variants lists
      → IsTaggedBy number (at 0) dl repr asked signed (counted_discriminants place repr (map (map layout_of) variants) items) (map (map layout_of) variants) lists t → P items t

  -- and of each with a niche
  abbrev pub OfNiche : Type 0
  OfNiche = (items : List (V × ℕ)) (lists : List (LayoutData F V)) (t : LayoutData F V) → repr.pack ≡ None → AreListLayouts layout_of at (index 0) dl repr AlwaysSized variants lists
      → niche_layout (at 0) index dl repr (map (map layout_of) variants) lists ≡ Some t → P items t

  module _ (one : OfTagged) (other : OfNiche) (unpacked : repr.pack ≡ None) (items : List (V × ℕ)) where
    niche_holds : (found : Option (LayoutData F V)) (m : LayoutData F V) → found ≡ Some m → IsNicheAnswer AreListLayouts layout_of at index dl repr variants found → P items m
    niche_holds found m e (inl fixed) = let never : found ≡ None = fixed.1 in absurd (cc)
    niche_holds found m e (inr (inl none)) = let never : found ≡ None = none.3 in absurd (cc)
    niche_holds found m e (inr (inr h)) = other items h.1 m unpacked h.2 (sym h.3 ∙ e)

    better_holds : (t : LayoutData F V) (found : Option (LayoutData F V)) → IsNicheAnswer AreListLayouts layout_of at index dl repr variants found → P items t → P items (preferred_layout dl t found)
    better_holds t None niche p = p
    better_holds t (Some m) niche p = by_both (P items) (takes_niche dl t m) m t (λ takes. niche_holds (Some m) m refl niche) (λ leaves. p)

    tagged_holds : (l : LayoutData F V) (found : Option (LayoutData F V)) → IsNicheAnswer AreListLayouts layout_of at index dl repr variants found → (r : Result (LayoutData F V) (LayoutCalculatorError H))
        → IsAskedAnswer layout_of at number (index 0) dl repr asks (values items) variants r → Ok l ≡ better_of dl r found → P items l
    tagged_holds l found niche (Ok t) a e =
        let same : preferred_layout dl t found ≡ l = cc in
        subst (P items) same (better_holds t found niche (one items a.0 a.1 a.3.0 t unpacked a.2 a.3.1 a.3.2))
    tagged_holds l found niche (Err error) a e = absurd (cc)

    enum_holds : (l : LayoutData F V) → IsEnumAnswer layout_of at number index place dl repr asks variants items (Ok l) → P items l
    enum_holds l (inl want) = absurd (cc)
    enum_holds l (inr h) = tagged_holds l h.0 h.1 h.2 h.3 h.4

  -- holds of the answer, for the discriminants that are given
  pub several_holds : OfTagged → OfNiche → (gives : List (V × ℕ) → Type 0) (l : LayoutData F V) → IsSeveralAnswer layout_of at number index place dl repr asks variants gives (Ok l)
      → (items : List (V × ℕ)) × gives items × P items l
  several_holds one other gives l (inl packed) = absurd (cc packed.1)
  several_holds one other gives l (inr (inl want)) = absurd (cc want.1)
  several_holds one other gives l (inr (inr h)) = (h.1, h.2, enum_holds one other h.0 h.1 l h.3)

-- ---- variants behind a tag

-- where no tag grew, nothing moves
pub stays : (old new : ℕ) → old ≡ new → (os : List ℕ) → map (moved_offset old new) os ≡ os
stays old new same [] = refl
stays old new same (o ∷ os) = rw (here (o == old) refl, stays old new same os) refl
  where
    here : (b : Bool) → (o == old) ≡ b → (if b then new else o) ≡ o
    here true e = omega (arith, same, eqb-true o old e)
    here false e = refl

-- by the test, how a variant is seen and what it takes
view_by : {F : Type 0} (view : BackendRepr) (whole : ℕ) (b : Bool) (v : VariantLayout F) → (let w = if b then record v { backend_repr = view; size = max v.size whole } else v in
    (b ≡ true → (w.backend_repr ≡ view) × (w.size ≡ max v.size whole)) × (b ≡ false → (w.backend_repr ≡ v.backend_repr) × (w.size ≡ v.size)))
view_by view whole true v = (λ is. (refl, refl), λ is. absurd (cc))
view_by view whole false v = (λ is. absurd (cc), λ is. (refl, refl))

module _ {F V : Type 0} (old new : ℕ) (le : old ≤ new) (view : BackendRepr) (whole : ℕ) where
  seen_by : (b : Bool) (list : LayoutData F V) (v : VariantLayout F) → IsBehindTag old new whole list v → IsBehindTag old new whole list (if b then record v { backend_repr = view; size = max v.size whole } else v)
  seen_by true list v h = record { offsets = h.offsets; order = h.order; size = omega (arith, h.size); most = omega (arith, h.most); niche = h.niche; uninhabited = h.uninhabited }
  seen_by false list v h = h

  grown_by : (list : LayoutData F V) (b : Bool) → nat_lt old new ≡ b
      → IsBehindTag old new whole list (if b then record (variant_of list) { size = max list.size new; field_offsets = map (moved_offset old new) (listed_offsets list.fields) } else variant_of list)
  grown_by list true e = record { offsets = refl; order = refl; size = omega arith; most = omega arith; niche = refl; uninhabited = refl }
  grown_by list false e =
      let same : old ≡ new = omega (arith, le, ltb-false old new e) in
      record { offsets = sym (stays old new same (listed_offsets list.fields)); order = refl; size = omega arith; most = omega arith; niche = refl; uninhabited = refl }

  pub one_behind : (list : LayoutData F V) → IsBehindTag old new whole list (variant_with_view view whole (grown_variant old new (variant_of list)))
  one_behind list = seen_by _ list (grown_variant old new (variant_of list)) (grown_by list (nat_lt old new) refl)

  -- what the variant is before it is seen as its enum
  taken_by : (list : LayoutData F V) (b : Bool) → (let w = if b then record (variant_of list) { size = max list.size new; field_offsets = map (moved_offset old new) (listed_offsets list.fields) } else variant_of list in
      (w.backend_repr ≡ list.backend_repr) × (w.size ≡ (if b then max list.size new else list.size)) × (length w.field_offsets ≡ length (listed_offsets list.fields)))
  taken_by list true = (refl, refl, length-map (listed_offsets list.fields) (moved_offset old new))
  taken_by list false = (refl, refl, refl)

  one_seen : (list : LayoutData F V) → IsSeenBehindTag old new whole view list (variant_with_view view whole (grown_variant old new (variant_of list)))
  one_seen list =
      let v = grown_variant old new (variant_of list) in
      let t = taken_by list (nat_lt old new) in
      let takes : (is_of_scalars view && is_memory v.backend_repr && nat_lt 0 (length v.field_offsets)) ≡ takes_view view list
      = ap (λ r. is_of_scalars view && is_memory r && nat_lt 0 (length v.field_offsets)) t.0 ∙ ap (λ n. is_of_scalars view && is_memory list.backend_repr && nat_lt 0 n) t.2 in
      let h = view_by view whole (is_of_scalars view && is_memory v.backend_repr && nat_lt 0 (length v.field_offsets)) v in
      record {
        as_enum = λ is. ((h.0 (takes ∙ is)).0, (h.0 (takes ∙ is)).1 ∙ ap (λ n. max n whole) t.1);
        as_list = λ is. ((h.1 (takes ∙ is)).0 ∙ t.0, (h.1 (takes ∙ is)).1 ∙ t.1);
      }

  pub all_seen : (lists : List (LayoutData F V)) → HaveViewBehindTag old new whole view lists (map (λ list. variant_with_view view whole (grown_variant old new (variant_of list))) lists)
  all_seen [] = tt
  all_seen (l ∷ ls) = (one_seen l, all_seen ls)

  pub all_behind : (lists : List (LayoutData F V)) → AreBehindTag old new whole lists (map (λ list. variant_with_view view whole (grown_variant old new (variant_of list))) lists)
  all_behind [] = tt
  all_behind (l ∷ ls) = (one_behind l, all_behind ls)

-- ---- variants beside a niche

from_start : (os : List ℕ) → os ≡ map (λ o. 0 + o) os
from_start [] = refl
from_start (o ∷ os) = let same : o ≡ 0 + o = omega arith in rw (sym same, sym (from_start os)) refl

module _ {F V : Type 0} (place width : ℕ) (room : Room) (before : room.before ≡ place) (after : room.after ≡ place + width) where
  after_niche : (list : LayoutData F V) (v : VariantLayout F) (b : Bool) → nat_le (place_after room list.align.abi + list.size) room.whole ≡ b
      → (if b then Some (moved_on (place_after room list.align.abi) (variant_of list)) else None) ≡ Some v → IsBesideNiche place width room.whole list v
  after_niche list v true fits e =
      let same : moved_on (place_after room list.align.abi) (variant_of list) ≡ v = cc in
      let end : place_after room list.align.abi + list.size ≤ room.whole = leb-true (place_after room list.align.abi + list.size) room.whole fits in
      inr (subst (λ n. (next_multiple_of n (2 ^ list.align.abi) + list.size ≤ room.whole) × IsMovedBy (next_multiple_of n (2 ^ list.align.abi)) list v
      × (v.backend_repr ≡ (if list.uninhabited then list.backend_repr else Memory true))) after (
        end,
        subst (IsMovedBy (place_after room list.align.abi) list) same (record { offsets = refl; order = refl; size = refl; niche = refl; uninhabited = refl }),
        ap (λ w. w.backend_repr) (sym same),
      ))
  after_niche list v false fits e = absurd (cc)

  beside_by : (list : LayoutData F V) (v : VariantLayout F) (b : Bool) → nat_le list.size room.before ≡ b
      → (if b then Some (without_niche (variant_of list)) else (if nat_le (place_after room list.align.abi + list.size) room.whole then Some (moved_on (place_after room list.align.abi) (variant_of list)) else None)) ≡ Some v
      → IsBesideNiche place width room.whole list v
  beside_by list v true fits e =
      let same : without_niche (variant_of list) ≡ v = cc in
      let end : list.size ≤ place = omega (arith, leb-true list.size room.before fits, before) in
      let none : list.size ≡ 0 + list.size = omega arith in
      inl (end, subst (IsMovedBy 0 list) same (record { offsets = from_start (listed_offsets list.fields); order = refl; size = none; niche = refl; uninhabited = refl }), ap (λ w. w.backend_repr) (sym same))
  beside_by list v false fits e = after_niche list v (nat_le (place_after room list.align.abi + list.size) room.whole) refl e

  own_by : (list : LayoutData F V) (v : VariantLayout F) (b : Bool) → (if b then Some (variant_of list) else beside_niche room list.align.abi (variant_of list)) ≡ Some v
      → MatchBool b (v ≡ variant_of list) (IsBesideNiche place width room.whole list v)
  own_by list v true e = cc
  own_by list v false e = beside_by list v (nat_le list.size room.before) refl e

  pub all_beside : (untagged from : ℕ) (lists : List (LayoutData F V)) (placed : List (VariantLayout F)) → variants_from room untagged from lists ≡ Some placed
      → AreBesideNiche place width room.whole untagged from lists placed
  all_beside untagged from [] [] e = tt
  all_beside untagged from [] (v ∷ placed) e = absurd (cc)
  all_beside untagged from (l ∷ lists) [] e = absurd (never_empty (if from == untagged then Some (variant_of l) else beside_niche room l.align.abi (variant_of l)) (variants_from room untagged (from + 1) lists) e)
  all_beside untagged from (l ∷ lists) (v ∷ placed) e =
      let parts = first_parts (if from == untagged then Some (variant_of l) else beside_niche room l.align.abi (variant_of l)) (variants_from room untagged (from + 1) lists) v placed e in
      (own_by l v (from == untagged) parts.0, all_beside untagged (from + 1) lists placed parts.1)

-- ---- the whole

-- of a whole run, what holds of the list that it gives
pub run_of : {S A : Type 0} (steps : S → Option A → S → Type 0) (s : S) (P : List A → Type 0) → ((items : List A) × WholeRun steps s (λ run. items ≡ run.items) × P items) → WholeRun steps s (λ run. P run.items)
run_of steps s P h = let run = h.1 in (run.0, run.1, run.2, subst P run.3 h.2)

-- there is a list for each variant
count_lists : {F V H : Type 0} (layout_of : H → LayoutData F V) (at : ℕ → F) (first : V) (dl : TargetDataLayout) (repr : ReprOptions) (kind : StructKind) (variants : List (List H)) (lists : List (LayoutData F V))
    → AreListLayouts layout_of at first dl repr kind variants lists → length lists ≡ length variants
count_lists layout_of at first dl repr kind [] [] h = refl
count_lists layout_of at first dl repr kind [] (l ∷ ls) h = elim h [ ]
count_lists layout_of at first dl repr kind (v ∷ more) [] h = elim h [ ]
count_lists layout_of at first dl repr kind (v ∷ more) (l ∷ ls) h = ap suc (count_lists layout_of at first dl repr kind more ls h.1)

-- fields that lie behind a tag that didn't grow
all_left : {F V H : Type 0} (layout_of : H → LayoutData F V) (at : ℕ → F) (first : V) (dl : TargetDataLayout) (repr : ReprOptions) (asked : Integer) (vs : List (List (LayoutData F V))) (new : ℕ) → new ≤ integer_size asked
    → (variants : List (List H)) (lists : List (LayoutData F V)) → AreGoodLists layout_of at first dl repr (behind_tag dl repr asked vs) variants lists → AreLeft (integer_size asked) new lists
all_left layout_of at first dl repr asked vs new le [] [] good = All-nil (λ list. All (IsLeft (integer_size asked) new) (listed_offsets list.fields))
all_left layout_of at first dl repr asked vs new le [] (l ∷ ls) good = absurd good
all_left layout_of at first dl repr asked vs new le (v ∷ variants) [] good = absurd good
all_left layout_of at first dl repr asked vs new le (v ∷ variants) (l ∷ ls) good =
    let far = behind layout_of at first dl repr asked vs v l good.0 in
    All-cons (λ list. All (IsLeft (integer_size asked) new) (listed_offsets list.fields)) l ls (λ k d short. inr (omega (arith, far k d short, le))) (all_left layout_of at first dl repr asked vs new le variants ls good.1)

module _ {F V H : Type 0} (layout_of : H → LayoutData F V) (at : ℕ → F) (number : F → ℕ) (index : ℕ → V) (place : V → ℕ) (dl : TargetDataLayout) (repr : ReprOptions)
    (asks : RangeFrom ℤ → RangeToInclusive ℕ → Integer × Bool → Type 0) (variants : List (List H)) where
  -- what holds of each layout with a tag, and of each with a niche, holds of the answer, by a run that gives the discriminants
  pub several_run : (P : List (V × ℕ) → LayoutData F V → Type 0) → OfTagged layout_of at number index place dl repr asks variants P → OfNiche layout_of at number index place dl repr asks variants P
      → {S : Type 0} (steps : S → Option (V × ℕ) → S → Type 0) (s : S) (r : Result (LayoutData F V) (LayoutCalculatorError H))
      → IsSeveralAnswer layout_of at number index place dl repr asks variants (λ items. WholeRun steps s (λ run. items ≡ run.items)) r → IfOk r (λ l. WholeRun steps s (λ run. P run.items l))
  several_run P one other steps s (Ok l) h =
      run_of steps s (λ items. P items l) (several_holds layout_of at number index place dl repr asks variants P one other (λ items. WholeRun steps s (λ run. items ≡ run.items)) l h)
  several_run P one other steps s (Err e) h = tt

  -- the same of what says nothing of these
  pub several_ok : (Q : LayoutData F V → Type 0) → OfTagged layout_of at number index place dl repr asks variants (λ items l. Q l) → OfNiche layout_of at number index place dl repr asks variants (λ items l. Q l)
      → (gives : List (V × ℕ) → Type 0) (r : Result (LayoutData F V) (LayoutCalculatorError H)) → IsSeveralAnswer layout_of at number index place dl repr asks variants gives r → IfOk r Q
  several_ok Q one other gives (Ok l) h = (several_holds layout_of at number index place dl repr asks variants (λ items l. Q l) one other gives l h).2
  several_ok Q one other gives (Err e) h = tt

  abbrev own_values : List (V × ℕ) → List ℕ
  own_values items = counted_discriminants place repr (map (map layout_of) variants) items

  -- the tag's range is the least
  pub tagged_least : OfTagged layout_of at number index place dl repr asks variants (λ items l. HasLeastTag (counted_discriminants place repr (map (map layout_of) variants) items) l.variants)
  tagged_least items asked signed lists t unpacked is are by =
      subst (λ (m : LayoutData F V). HasLeastTag (own_values items) m.variants) (sym by.ranged.2)
      (grown_tag dl repr asked (start_align number (map (map layout_of) variants) lists), signed, by.ranged.0, refl, by.ranged.1)

  pub niche_least : OfNiche layout_of at number index place dl repr asks variants (λ items l. HasLeastTag (counted_discriminants place repr (map (map layout_of) variants) items) l.variants)
  niche_least items lists t unpacked are is =
      subst (λ (m : LayoutData F V). HasLeastTag (own_values items) m.variants) (sym (niche_parts (at 0) index dl repr (map (map layout_of) variants) lists t is).is) tt

  -- the tag is the first field
  pub tagged_field : number (at 0) ≡ 0 → OfTagged layout_of at number index place dl repr asks variants (λ items l. IsTagField number 0 l.variants)
  tagged_field first items asked signed lists t unpacked is are by = subst (λ (m : LayoutData F V). IsTagField number 0 m.variants) (sym by.ranged.2) first

  pub niche_field : number (at 0) ≡ 0 → OfNiche layout_of at number index place dl repr asks variants (λ items l. IsTagField number 0 l.variants)
  niche_field first items lists t unpacked are is =
      subst (λ (m : LayoutData F V). IsTagField number 0 m.variants) (sym (niche_parts (at 0) index dl repr (map (map layout_of) variants) lists t is).is) first

  module _ (fields : All (All (λ f. IsLawfulLayout dl (layout_of f))) variants) where
    -- an enum with a tag is made of its lists
    pub tagged_made : OfTagged layout_of at number index place dl repr asks variants
        (λ items l. IsMadeOfLists at number place dl repr asks (counted_discriminants place repr (map (map layout_of) variants) items) (map (map layout_of) variants) l)
    tagged_made items asked signed lists t unpacked is are by =
        let grown = grown_tag dl repr asked (start_align number (map (map layout_of) variants) lists) in
        let tag : Scalar = Initialized (Int grown signed) by.ranged.0 in
        let view = tagged_view dl tag (lists_size dl lists) (lists_align dl lists) (payloads_of dl (integer_size asked) (integer_size grown) (map (map layout_of) variants) lists) in
        let same = by.ranged.2 in
        inl (record {
          asked = asked;
          signed = signed;
          is = is;
          lists = lists;
          own = field_lists layout_of at (index 0) dl repr (behind_tag dl repr asked (map (map layout_of) variants)) variants lists fields tt are;
          alignment = ap (λ m. m.align.abi) same;
          marks = record {
            uninhabited = ap (λ m. m.uninhabited) same;
            max_repr_align = ap (λ m. m.max_repr_align) same;
            unadjusted_abi_align = ap (λ m. m.unadjusted_abi_align) same;
            repr_c = ap (λ m. m.repr_c) same;
            seed = ap (λ m. m.randomization_seed) same;
          };
          tag = tag;
          grown = grown;
          no_less = (grown_size dl repr asked (start_align number (map (map layout_of) variants) lists)).no_less;
          grows = refl;
          holds = refl;
          field = at 0;
          layouts = map (λ list. variant_with_view view (lists_size dl lists) (grown_variant (integer_size asked) (integer_size grown) (variant_of list))) lists;
          tag_distinguishes = ap (λ m. m.variants) same;
          places = subst (λ n. AreBehindTag (integer_size asked) (integer_size grown) n lists
              (map (λ list. variant_with_view view (lists_size dl lists) (grown_variant (integer_size asked) (integer_size grown) (variant_of list))) lists)) (sym (ap (λ m. m.size) same))
              (all_behind (integer_size asked) (integer_size grown) (grown_size dl repr asked (start_align number (map (map layout_of) variants) lists)).no_less view (lists_size dl lists) lists);
          view = subst (λ (m : LayoutData F V). m.backend_repr ≡ tagged_view dl tag m.size m.align.abi (payloads_of dl (integer_size asked) (integer_size grown) (map (map layout_of) variants) lists)) (sym same) refl;
          seen = subst (λ (m : LayoutData F V). HaveViewBehindTag (integer_size asked) (integer_size grown) m.size m.backend_repr lists
              (map (λ list. variant_with_view view (lists_size dl lists) (grown_variant (integer_size asked) (integer_size grown) (variant_of list))) lists)) (sym same)
              (all_seen (integer_size asked) (integer_size grown) (grown_size dl repr asked (start_align number (map (map layout_of) variants) lists)).no_less view (lists_size dl lists) lists);
        })

    -- and so is one with a niche
    pub niche_made : (most : ℕ) → ((i : ℕ) → i ≤ most → place (index i) ≡ i) → length variants ≤ most + 1 → OfNiche layout_of at number index place dl repr asks variants
        (λ items l. IsMadeOfLists at number place dl repr asks (counted_discriminants place repr (map (map layout_of) variants) items) (map (map layout_of) variants) l)
    niche_made most named few items lists t unpacked are is =
        let p = niche_parts (at 0) index dl repr (map (map layout_of) variants) lists t is in
        let same = p.is in
        let count : length lists ≡ length variants = count_lists layout_of at (index 0) dl repr AlwaysSized variants lists are in
        let within : untagged_of lists < length lists = slice_get_within lists (untagged_of lists) p.list p.there in
        let at_untagged : place (index (untagged_of lists)) ≡ untagged_of lists = named (untagged_of lists) (omega (arith, within, count, few)) in
        let whole : t.size ≡ lists_size dl lists = ap (λ m. m.size) same in
        inr (record {
          lists = lists;
          own = field_lists layout_of at (index 0) dl repr AlwaysSized variants lists fields tt are;
          alignment = ap (λ m. m.align.abi) same;
          marks = record {
            uninhabited = ap (λ m. m.uninhabited) same;
            max_repr_align = ap (λ m. m.max_repr_align) same;
            unadjusted_abi_align = ap (λ m. m.unadjusted_abi_align) same;
            repr_c = ap (λ m. m.repr_c) same;
            seed = ap (λ m. m.randomization_seed) same;
          };
          tag = (reserved dl p.niche (span_count p.span)).1;
          untagged = index (untagged_of lists);
          span = record { start = index p.span.0; last = index p.span.1 };
          start = (reserved dl p.niche (span_count p.span)).0;
          field = at 0;
          layouts = p.placed;
          tag_distinguishes = ap (λ m. m.variants) same;
          list = p.list;
          there = subst (λ k. slice_get lists k ≡ Some p.list) (sym at_untagged) p.there;
          niche = p.niche;
          largest = p.known;
          places = subst (λ k. AreBesideNiche p.niche.offset (niche_size dl p.niche) t.size k 0 lists p.placed) (sym at_untagged)
              (subst (λ n. AreBesideNiche p.niche.offset (niche_size dl p.niche) n (untagged_of lists) 0 lists p.placed) (sym whole)
              (all_beside p.niche.offset (niche_size dl p.niche) (room_beside dl p.niche lists) refl refl (untagged_of lists) 0 lists p.placed p.beside));
          view = subst (λ (m : LayoutData F V). m.backend_repr ≡ niche_view m.size m.align.abi (place (index (untagged_of lists))) p.list p.niche.offset (reserved dl p.niche (span_count p.span)).1 p.placed) (sym same)
              (subst (λ k. niche_view (lists_size dl lists) (lists_align dl lists) (untagged_of lists) p.list p.niche.offset (reserved dl p.niche (span_count p.span)).1 p.placed
              ≡ niche_view (lists_size dl lists) (lists_align dl lists) k p.list p.niche.offset (reserved dl p.niche (span_count p.span)).1 p.placed) (sym at_untagged) refl);
        })

  -- it has no values where none of its variants has
  pub tagged_flag : OfTagged layout_of at number index place dl repr asks variants (λ items l. l.uninhabited ≡ list_all (λ fields. has_no_value fields) (map (map layout_of) variants))
  tagged_flag items asked signed lists t unpacked is are by =
      ap (λ (m : LayoutData F V). m.uninhabited) by.ranged.2 ∙ no_values layout_of at (index 0) dl repr (behind_tag dl repr asked (map (map layout_of) variants)) variants lists are

  pub niche_flag : OfNiche layout_of at number index place dl repr asks variants (λ items l. l.uninhabited ≡ list_all (λ fields. has_no_value fields) (map (map layout_of) variants))
  niche_flag items lists t unpacked are is =
      ap (λ (m : LayoutData F V). m.uninhabited) (niche_parts (at 0) index dl repr (map (map layout_of) variants) lists t is).is ∙ no_values layout_of at (index 0) dl repr AlwaysSized variants lists are

  -- it is sized
  pub tagged_sized : OfTagged layout_of at number index place dl repr asks variants (λ items l. is_unsized l.backend_repr ≡ false)
  tagged_sized items asked signed lists t unpacked is are by = tagged_is_sized number (at 0) dl repr asked signed (own_values items) (map (map layout_of) variants) lists t by

  pub niche_sized : OfNiche layout_of at number index place dl repr asks variants (λ items l. is_unsized l.backend_repr ≡ false)
  niche_sized items lists t unpacked are is = niche_is_sized (at 0) index dl repr (map (map layout_of) variants) lists t is

  -- its fields are aligned
  pub tagged_aligned : OfTagged layout_of at number index place dl repr asks variants (λ items l. AreVariantsAligned (map (map layout_of) variants) (variants_of l.variants))
  tagged_aligned items asked signed lists t unpacked is are by =
      let grown = grown_tag dl repr asked (start_align number (map (map layout_of) variants) lists) in
      let tag : Scalar = Initialized (Int grown signed) by.ranged.0 in
      let view = tagged_view dl tag (lists_size dl lists) (lists_align dl lists) (payloads_of dl (integer_size asked) (integer_size grown) (map (map layout_of) variants) lists) in
      let more = (grown_size dl repr asked (start_align number (map (map layout_of) variants) lists)).no_less in
      subst (λ (m : LayoutData F V). AreVariantsAligned (map (map layout_of) variants) (variants_of m.variants)) (sym by.ranged.2)
      (behind_aligned layout_of at number (index 0) dl repr (behind_tag dl repr asked (map (map layout_of) variants)) unpacked tt (integer_size asked) (integer_size grown) (lists_size dl lists) (size_divides asked grown more) variants lists
      (map (λ list. variant_with_view view (lists_size dl lists) (grown_variant (integer_size asked) (integer_size grown) (variant_of list))) lists) are
      (all_behind (integer_size asked) (integer_size grown) more view (lists_size dl lists) lists))

  pub niche_aligned : OfNiche layout_of at number index place dl repr asks variants (λ items l. AreVariantsAligned (map (map layout_of) variants) (variants_of l.variants))
  niche_aligned items lists t unpacked are is =
      let p = niche_parts (at 0) index dl repr (map (map layout_of) variants) lists t is in
      subst (λ (m : LayoutData F V). AreVariantsAligned (map (map layout_of) variants) (variants_of m.variants)) (sym p.is)
      (beside_aligned layout_of at number (index 0) dl repr AlwaysSized unpacked tt p.niche.offset (niche_size dl p.niche) (lists_size dl lists) (untagged_of lists) 0 variants lists p.placed are
      (all_beside p.niche.offset (niche_size dl p.niche) (room_beside dl p.niche lists) refl refl (untagged_of lists) 0 lists p.placed p.beside))

  -- and in order
  module _ (most : ℕ) (law : (i : ℕ) → i ≤ most → number (at i) ≡ i) (few : All (λ fields. length fields ≤ most + 1) variants) where
    module _ (lawful : IsLawfulDataLayout dl) (fields : All (All (λ f. IsLawfulLayout dl (layout_of f))) variants) (aligns : HasLawfulAligns repr) where
      -- what the tag leaves
      left_behind : (asked : Integer) (lists : List (LayoutData F V)) → repr.pack ≡ None → AreListLayouts layout_of at (index 0) dl repr (behind_tag dl repr asked (map (map layout_of) variants)) variants lists
          → (b : Bool) → nat_lt (integer_size asked) (integer_size (grown_tag dl repr asked (start_align number (map (map layout_of) variants) lists))) ≡ b
          → AreLeft (integer_size asked) (integer_size (grown_tag dl repr asked (start_align number (map (map layout_of) variants) lists))) lists
      left_behind asked lists unpacked are true grows =
          let good = good_lists layout_of at (index 0) dl repr (behind_tag dl repr asked (map (map layout_of) variants)) variants lists lawful fields aligns (tag_prefix layout_of dl repr asked variants lawful fields) tt are in
          let new : ℕ = integer_size (grown_tag dl repr asked (start_align number (map (map layout_of) variants) lists)) in
          left_clear layout_of (integer_size asked) (integer_size (grown_tag dl repr asked (start_align number (map (map layout_of) variants) lists))) variants lists
          (clear_grown layout_of at number (index 0) dl repr asked (map (map layout_of) variants) most law lawful unpacked variants lists good few (ltb-true (integer_size asked) new grows))
      left_behind asked lists unpacked are false grows =
          let good = good_lists layout_of at (index 0) dl repr (behind_tag dl repr asked (map (map layout_of) variants)) variants lists lawful fields aligns (tag_prefix layout_of dl repr asked variants lawful fields) tt are in
          let new : ℕ = integer_size (grown_tag dl repr asked (start_align number (map (map layout_of) variants) lists)) in
          all_left layout_of at (index 0) dl repr asked (map (map layout_of) variants) new (ltb-false (integer_size asked) new grows) variants lists good

      pub tagged_ordered : OfTagged layout_of at number index place dl repr asks variants (λ items l. IsOrderedWhole number l)
      tagged_ordered items asked signed lists t unpacked is are by =
          let grown = grown_tag dl repr asked (start_align number (map (map layout_of) variants) lists) in
          let tag : Scalar = Initialized (Int grown signed) by.ranged.0 in
          let view = tagged_view dl tag (lists_size dl lists) (lists_align dl lists) (payloads_of dl (integer_size asked) (integer_size grown) (map (map layout_of) variants) lists) in
          let more = (grown_size dl repr asked (start_align number (map (map layout_of) variants) lists)).no_less in
          subst (IsOrderedWhole number) (sym by.ranged.2) (
            one_field number 0 (at 0),
            behind_ordered layout_of at number (index 0) dl repr (behind_tag dl repr asked (map (map layout_of) variants)) unpacked tt most law (integer_size asked) (integer_size grown) (lists_size dl lists) more variants lists
                (map (λ list. variant_with_view view (lists_size dl lists) (grown_variant (integer_size asked) (integer_size grown) (variant_of list))) lists) few
                (left_behind asked lists unpacked are (nat_lt (integer_size asked) (integer_size grown)) refl) are
                (all_behind (integer_size asked) (integer_size grown) more view (lists_size dl lists) lists),
          )

    pub niche_ordered : OfNiche layout_of at number index place dl repr asks variants (λ items l. IsOrderedWhole number l)
    niche_ordered items lists t unpacked are is =
        let p = niche_parts (at 0) index dl repr (map (map layout_of) variants) lists t is in
        subst (IsOrderedWhole number) (sym p.is) (
          one_field number p.niche.offset (at 0),
          beside_ordered layout_of at number (index 0) dl repr AlwaysSized unpacked tt most law p.niche.offset (niche_size dl p.niche) (lists_size dl lists) (untagged_of lists) 0 variants lists p.placed few are
              (all_beside p.niche.offset (niche_size dl p.niche) (room_beside dl p.niche lists) refl refl (untagged_of lists) 0 lists p.placed p.beside),
        )

  pub several_ordered : (most : ℕ) → ((i : ℕ) → i ≤ most → number (at i) ≡ i) → IsLawfulDataLayout dl → All (All (λ f. IsLawfulLayout dl (layout_of f))) variants → HasLawfulAligns repr → (gives : List (V × ℕ) → Type 0)
      → (r : Result (LayoutData F V) (LayoutCalculatorError H)) → IsSeveralAnswer layout_of at number index place dl repr asks variants gives r → IfOk r (λ l. All (λ fields. length fields ≤ most + 1) variants)
      → IfOk r (IsOrderedWhole number)
  several_ordered most law lawful fields aligns gives (Ok l) h few =
      several_ok (IsOrderedWhole number) (tagged_ordered most law few lawful fields aligns) (niche_ordered most law few) gives (Ok l) h
  several_ordered most law lawful fields aligns gives (Err e) h few = tt

  -- what holds whatever the discriminants are
  pub several_good : (most : ℕ) → ((i : ℕ) → i ≤ most → number (at i) ≡ i) → number (at 0) ≡ 0 → IsLawfulDataLayout dl → All (All (λ f. IsLawfulLayout dl (layout_of f))) variants → HasLawfulAligns repr → (gives : List (V × ℕ) → Type 0)
      → (r : Result (LayoutData F V) (LayoutCalculatorError H)) → IsSeveralAnswer layout_of at number index place dl repr asks variants gives r → IfOk r (λ l. All (λ fields. length fields ≤ most + 1) variants)
      → IfOk r (IsGoodEnum number (map (map layout_of) variants))
  several_good most law first lawful fields aligns gives (Ok l) h few = record {
    uninhabited = several_ok (λ l. l.uninhabited ≡ list_all (λ fields. has_no_value fields) (map (map layout_of) variants)) tagged_flag niche_flag gives (Ok l) h;
    sized = several_ok (λ l. is_unsized l.backend_repr ≡ false) tagged_sized niche_sized gives (Ok l) h;
    tag_field = several_ok (λ l. IsTagField number 0 l.variants) (tagged_field first) (niche_field first) gives (Ok l) h;
    aligned = several_ok (λ l. AreVariantsAligned (map (map layout_of) variants) (variants_of l.variants)) tagged_aligned niche_aligned gives (Ok l) h;
    ordered = several_ordered most law lawful fields aligns gives (Ok l) h few;
  }
  several_good most law first lawful fields aligns gives (Err e) h few = tt
