-- Where the fields of an enum's variants lie beside a niche that distinguishes them, and which numbers name them.
use Rattle.std.proofs.Common.{◌≡◌, ℕ, zero, suc, ◌+◌, ◌-◌, ◌*◌, ◌==◌, ◌&&◌, not, ◌<◌, ◌≤◌, ◌∙◌, Bool, true, false, List, [], ◌∷◌, None, Some, ap, ap₂, arith, cond, get_or, inl, inr, length, map, refl, subst, sym}
use Rattle.std.specs.Prelude.{◌⊎◌, All, Contains, MatchBool, filter, if◌then◌else◌, nat_le, slice_get}
use Rattle.std.specs.List.{AllPairs}
use Rattle.std.proofs.lemmas.Bool.{eq-eqb, leb-true}
use Rattle.std.proofs.lemmas.List.{length-map}
use Rattle.std.proofs.lemmas.List.Elements.{All-cons, All-contains, All-head, All-nil}
use Rattle.std.proofs.lemmas.List.FromFn.{get_or-range_with_len, length-range_with_len}
use Rattle.std.proofs.lemmas.Nat.{mod_below, pow_pos}
use Rattle.abi_base.specs.declared.data_layout.TargetDataLayout.{TargetDataLayout}
use Rattle.abi_base.specs.declared.struct_kind.StructKind.{StructKind}
use Rattle.abi_base.specs.declared.struct_kind.StructKind.TheVariants.{AlwaysSized}
use Rattle.abi_scalar.specs.declared.layout_data.LayoutData.{LayoutData}
use Rattle.abi_scalar.specs.declared.niche.Niche.{Niche}
use Rattle.abi_scalar.specs.declared.repr.ReprOptions.{ReprOptions}
use Rattle.abi_scalar.specs.declared.scalar.Scalar.{Scalar}
use Rattle.abi_scalar.specs.declared.variants.VariantLayout.{VariantLayout}
use Rattle.abi_scalar.specs.Lawful.{IsLawfulLayout, IsLawfulNiche}
use Rattle.abi_scalar.specs.Niche.{available_in, niche_size}
use Rattle.abi_scalar.specs.Range.{numbers_of}
use Rattle.abi_scalar.specs.Reserve.{reserved}
use Rattle.abi_scalar.specs.Scalar.{scalar_size}
use Rattle.abi_scalar.specs.Shape.{listed_offsets}
use Rattle.abi_scalar.specs.Variant.{variant_of}
use Rattle.abi_scalar.proofs.ReserveLemmas.{reserved_hands_out}
use Rattle.abi_univariant.specs.Apart.{AreApart, IsBeside}
use Rattle.abi_univariant.specs.Fields.{greatest_size}
use Rattle.abi_univariant.specs.ListNiche.{IsNicheOfPart}
use Rattle.abi_univariant.specs.Placement.{source_order}
use Rattle.abi_univariant.proofs.Offsets.Rounding.{rounded_to}
use Rattle.abi_calc.specs.declared.enums.niche.Room.{Room}
use Rattle.abi_calc.specs.Enums.Beside.{AreApartBeside, AreNumbersInNiche, HasTagAt, IsToldByNiche}
use Rattle.abi_calc.specs.Enums.Lists.{AreGoodLists, IsGoodList}
use Rattle.abi_calc.specs.Enums.Niche.{beside_niche, last_or, layout_in_niche, moved_on, needing_numbers, niche_of_list, place_after, room_beside, span_count, span_of, untagged_of, variants_from, without_niche}
use Rattle.abi_calc.specs.Enums.EnumStrategy.{is_absent, variant_at}
use Rattle.abi_calc.specs.Enums.Tagged.{lists_size}
use Rattle.abi_calc.proofs.EnumLemmas.InNiche.{handed_from, holds_there, needing_ascends, needing_within, niche_known, of_some, span_holds}
use Rattle.abi_calc.proofs.EnumLemmas.NicheLawful.{first_parts, never_empty, size_at_most, tag_size}
use Rattle.abi_calc.proofs.EnumLemmas.Places.{greatest_within, sizes_as, wider}

-- ---- parts that share no byte, in a larger whole beside a niche

-- parts that end before a place lie beside what begins there
before_place : (place width small : ℕ) (offsets sizes : List ℕ) → small ≤ place → AreApart small offsets sizes → IsBeside place width offsets sizes
before_place place width small [] [] fits h = tt
before_place place width small [] (m ∷ sizes) fits h = absurd h
before_place place width small (o ∷ offsets) [] fits h = absurd h
before_place place width small (o ∷ offsets) (m ∷ sizes) fits h = (inr (omega (arith, h.0, fits)), before_place place width small offsets sizes fits h.2)

-- parts that moved past a place's end lie beside what ends there
after_place : (place width on small : ℕ) (offsets sizes : List ℕ) → place + width ≤ on → AreApart small offsets sizes → IsBeside place width (map (λ o. on + o) offsets) sizes
after_place place width on small [] [] far h = tt
after_place place width on small [] (m ∷ sizes) far h = absurd h
after_place place width on small (o ∷ offsets) [] far h = absurd h
after_place place width on small (o ∷ offsets) (m ∷ sizes) far h = (inl (omega (arith, far)), after_place place width on small offsets sizes far h.2)

-- two parts that share no byte share none when both have moved
pair_on : (on o m p n : ℕ) → (o + m ≤ p) ⊎ (p + n ≤ o) → (on + o + m ≤ on + p) ⊎ (on + p + n ≤ on + o)
pair_on on o m p n (inl h) = inl (omega (arith, h))
pair_on on o m p n (inr h) = inr (omega (arith, h))

-- a part is beside the others when all of them have moved
beside_on : (on o m : ℕ) (offsets sizes : List ℕ) → IsBeside o m offsets sizes → IsBeside (on + o) m (map (λ p. on + p) offsets) sizes
beside_on on o m [] [] h = tt
beside_on on o m [] (n ∷ sizes) h = absurd h
beside_on on o m (p ∷ offsets) [] h = absurd h
beside_on on o m (p ∷ offsets) (n ∷ sizes) h = (pair_on on o m p n h.0, beside_on on o m offsets sizes h.1)

-- moved parts share no byte, and end inside the whole
apart_on : (on small whole : ℕ) (offsets sizes : List ℕ) → on + small ≤ whole → AreApart small offsets sizes → AreApart whole (map (λ o. on + o) offsets) sizes
apart_on on small whole [] [] fits h = tt
apart_on on small whole [] (m ∷ sizes) fits h = absurd h
apart_on on small whole (o ∷ offsets) [] fits h = absurd h
apart_on on small whole (o ∷ offsets) (m ∷ sizes) fits h = (omega (arith, h.0, fits), beside_on on o m offsets sizes h.1, apart_on on small whole offsets sizes fits h.2)

-- ---- one variant

-- a variant that ends before the niche, or lies after it
beside_apart : {F V : Type 0} (room : Room) (width : ℕ) (list : LayoutData F V) (sizes : List ℕ) (variant : VariantLayout F) → room.before + width ≤ room.after → room.after ≤ room.whole → list.size ≤ room.whole
    → AreApart list.size (listed_offsets list.fields) sizes → beside_niche room list.align.abi (variant_of list) ≡ Some variant → AreApart room.whole (room.before ∷ variant.field_offsets) (width ∷ sizes)
beside_apart room width list sizes variant ends fits less apart e = by (nat_le list.size room.before) (nat_le (place_after room list.align.abi + list.size) room.whole) refl refl e
  where
    by : (b c : Bool) → nat_le list.size room.before ≡ b → nat_le (place_after room list.align.abi + list.size) room.whole ≡ c
        → (if b then Some (without_niche (variant_of list)) else (if c then Some (moved_on (place_after room list.align.abi) (variant_of list)) else None)) ≡ Some variant
        → AreApart room.whole (room.before ∷ variant.field_offsets) (width ∷ sizes)
    by true c early late is =
        let same : without_niche (variant_of list) ≡ variant = cc in
        let short : list.size ≤ room.before = leb-true list.size room.before early in
        subst (λ v. AreApart room.whole (room.before ∷ v.field_offsets) (width ∷ sizes)) same
        (omega (arith, ends, fits), before_place room.before width list.size (listed_offsets list.fields) sizes short apart, wider list.size room.whole (listed_offsets list.fields) sizes less apart)
    by false true early late is =
        let on : ℕ = place_after room list.align.abi in
        let same : moved_on on (variant_of list) ≡ variant = cc in
        let inside : on + list.size ≤ room.whole = leb-true (on + list.size) room.whole late in
        let far : room.after ≤ on = (rounded_to room.after list.align.abi).above in
        subst (λ v. AreApart room.whole (room.before ∷ v.field_offsets) (width ∷ sizes)) same
        (omega (arith, ends, fits), after_place room.before width on list.size (listed_offsets list.fields) sizes (omega (arith, ends, far)) apart, apart_on on list.size room.whole (listed_offsets list.fields) sizes inside apart)
    by false false early late is = absurd (cc)

-- a variant, be it the untagged one or not
variant_apart : {F V : Type 0} (b : Bool) (room : Room) (width : ℕ) (list : LayoutData F V) (sizes : List ℕ) (variant : VariantLayout F) → room.before + width ≤ room.after → room.after ≤ room.whole → list.size ≤ room.whole
    → AreApart list.size (listed_offsets list.fields) sizes → (if b then Some (variant_of list) else beside_niche room list.align.abi (variant_of list)) ≡ Some variant
    → MatchBool b (AreApart room.whole variant.field_offsets sizes) (AreApart room.whole (room.before ∷ variant.field_offsets) (width ∷ sizes))
variant_apart true room width list sizes variant ends fits less apart e =
    let same : variant_of list ≡ variant = cc in
    subst (λ v. AreApart room.whole v.field_offsets sizes) same (wider list.size room.whole (listed_offsets list.fields) sizes less apart)
variant_apart false room width list sizes variant ends fits less apart e = beside_apart room width list sizes variant ends fits less apart e

-- ---- all variants

-- a list that is placed has a variant
placed_there : {F V : Type 0} (room : Room) (untagged from i : ℕ) (lists : List (LayoutData F V)) (placed : List (VariantLayout F)) (list : LayoutData F V) → variants_from room untagged from lists ≡ Some placed
    → slice_get lists i ≡ Some list → (variant : VariantLayout F) × (slice_get placed i ≡ Some variant)
placed_there room untagged from i [] placed list e there = absurd (cc)
placed_there room untagged from i (l ∷ lists) [] list e there =
    absurd (never_empty (if from == untagged then Some (variant_of l) else beside_niche room l.align.abi (variant_of l)) (variants_from room untagged (from + 1) lists) e)
placed_there room untagged from zero (l ∷ lists) (v ∷ placed) list e there = (v, refl)
placed_there room untagged from (suc i) (l ∷ lists) (v ∷ placed) list e there =
    let parts = first_parts (if from == untagged then Some (variant_of l) else beside_niche room l.align.abi (variant_of l)) (variants_from room untagged (from + 1) lists) v placed e in
    placed_there room untagged (from + 1) i lists placed list parts.1 there

module _ {F V H : Type 0} (layout_of : H → LayoutData F V) (at : ℕ → F) (first : V) (dl : TargetDataLayout) (repr : ReprOptions) (kind : StructKind) where
  -- there are as many lists as variants
  good_count : (variants : List (List H)) (lists : List (LayoutData F V)) → AreGoodLists layout_of at first dl repr kind variants lists → length lists ≡ length variants
  good_count [] [] good = refl
  good_count [] (list ∷ lists) good = absurd good
  good_count (fields ∷ variants) [] good = absurd good
  good_count (fields ∷ variants) (list ∷ lists) good = ap suc (good_count variants lists good.1)

  -- the fields of the variants from a place on, beside the niche
  apart_from : (room : Room) (untagged width from : ℕ) (variants : List (List H)) (lists : List (LayoutData F V)) (placed : List (VariantLayout F)) → room.before + width ≤ room.after → room.after ≤ room.whole
      → greatest_size lists ≤ room.whole → AreGoodLists layout_of at first dl repr kind variants lists → variants_from room untagged from lists ≡ Some placed
      → AreApartBeside room.whole room.before width untagged from (map (map layout_of) variants) placed
  apart_from room untagged width from [] [] [] ends fits more good e = tt
  apart_from room untagged width from [] [] (v ∷ placed) ends fits more good e = absurd (cc)
  apart_from room untagged width from [] (list ∷ lists) placed ends fits more good e = absurd good
  apart_from room untagged width from (fields ∷ variants) [] placed ends fits more good e = absurd good
  apart_from room untagged width from (fields ∷ variants) (list ∷ lists) [] ends fits more good e =
      absurd (never_empty (if from == untagged then Some (variant_of list) else beside_niche room list.align.abi (variant_of list)) (variants_from room untagged (from + 1) lists) e)
  apart_from room untagged width from (fields ∷ variants) (list ∷ lists) (v ∷ placed) ends fits more good e =
      let parts = first_parts (if from == untagged then Some (variant_of list) else beside_niche room list.align.abi (variant_of list)) (variants_from room untagged (from + 1) lists) v placed e in (
        subst (λ sizes. MatchBool (from == untagged) (AreApart room.whole v.field_offsets sizes) (AreApart room.whole (room.before ∷ v.field_offsets) (width ∷ sizes))) (sym (sizes_as layout_of fields))
            (variant_apart (from == untagged) room width list (map (λ f. (layout_of f).size) fields) v ends fits (omega (arith, more)) good.0.apart parts.0),
        apart_from room untagged width (from + 1) variants lists placed ends fits (omega (arith, more)) good.1 parts.1,
      )

  -- the untagged variant's niche is that of one of its fields
  own_list : (fields : List H) (list : LayoutData F V) (niche : Niche) → IsGoodList layout_of at first dl repr kind fields list → list.largest_niche ≡ Some niche
      → IsNicheOfPart (listed_offsets list.fields) (map layout_of fields) niche
  own_list fields list niche good known =
      of_some (IsNicheOfPart (listed_offsets list.fields) (map layout_of fields)) list.largest_niche niche known good.niche

  -- which it has where it is placed
  own_placed : (b : Bool) (room : Room) (fields : List H) (list : LayoutData F V) (niche : Niche) (variant : VariantLayout F) → IsGoodList layout_of at first dl repr kind fields list → list.largest_niche ≡ Some niche
      → b ≡ true → (if b then Some (variant_of list) else beside_niche room list.align.abi (variant_of list)) ≡ Some variant → IsNicheOfPart variant.field_offsets (map layout_of fields) niche
  own_placed true room fields list niche variant good known is e =
      let same : variant_of list ≡ variant = cc in
      subst (λ v. IsNicheOfPart v.field_offsets (map layout_of fields) niche) same (own_list fields list niche good known)
  own_placed false room fields list niche variant good known is e = absurd (cc)

  -- the same of the variants from a place on
  own_from : (room : Room) (untagged from i : ℕ) (variants : List (List H)) (lists : List (LayoutData F V)) (placed : List (VariantLayout F)) (list : LayoutData F V) (niche : Niche) (variant : VariantLayout F)
      → from + i ≡ untagged → AreGoodLists layout_of at first dl repr kind variants lists → slice_get lists i ≡ Some list → list.largest_niche ≡ Some niche → variants_from room untagged from lists ≡ Some placed
      → slice_get placed i ≡ Some variant → IsNicheOfPart variant.field_offsets (variant_at (map (map layout_of) variants) i) niche
  own_from room untagged from i [] [] placed list niche variant so good is known e there = absurd (cc)
  own_from room untagged from i [] (l ∷ lists) placed list niche variant so good is known e there = absurd good
  own_from room untagged from i (fields ∷ variants) [] placed list niche variant so good is known e there = absurd good
  own_from room untagged from i (fields ∷ variants) (l ∷ lists) [] list niche variant so good is known e there = absurd (cc)
  own_from room untagged from zero (fields ∷ variants) (l ∷ lists) (v ∷ placed) list niche variant so good is known e there =
      let parts = first_parts (if from == untagged then Some (variant_of l) else beside_niche room l.align.abi (variant_of l)) (variants_from room untagged (from + 1) lists) v placed e in
      let same : v ≡ variant = cc in
      let one : l ≡ list = cc in
      subst (λ w. IsNicheOfPart w.field_offsets (map layout_of fields) niche) same
      (own_placed (from == untagged) room fields l niche v good.0 (ap (λ k. k.largest_niche) one ∙ known) (eq-eqb from untagged (omega (arith, so))) parts.0)
  own_from room untagged from (suc i) (fields ∷ variants) (l ∷ lists) (v ∷ placed) list niche variant so good is known e there =
      let parts = first_parts (if from == untagged then Some (variant_of l) else beside_niche room l.align.abi (variant_of l)) (variants_from room untagged (from + 1) lists) v placed e in
      own_from room untagged (from + 1) i variants lists placed list niche variant (omega (arith, so)) good.1 is known parts.1 there

-- ---- the numbers

-- what stands in a list stands in it with one more item, be that kept or not
kept_later : {A : Type 0} (b : Bool) (y : A) (ys : List A) (x : A) → Contains ys x → Contains (cond b (y ∷ ys) ys) x
kept_later true y ys x c = (suc c.0, omega (arith, c.1), c.2)
kept_later false y ys x c = c

-- and so does the item, where it is kept
kept_here : {A : Type 0} (b : Bool) (y : A) (ys : List A) (x : A) → b ≡ true → y ≡ x → Contains (cond b (y ∷ ys) ys) x
kept_here true y ys x is same = (0, omega arith, same)
kept_here false y ys x is same = absurd (cc)

-- what passes a test is kept
kept : {A : Type 0} (p : A → Bool) (xs : List A) (i : ℕ) (x : A) → i < length xs → get_or xs i x ≡ x → p x ≡ true → Contains (filter p xs) x
kept p [] i x short is holds = absurd (omega (arith, short))
kept p (y ∷ ys) zero x short is holds = kept_here (p y) y (filter p ys) x (ap p is ∙ holds) is
kept p (y ∷ ys) (suc i) x short is holds = kept_later (p y) y (filter p ys) x (kept p ys i x (omega (arith, short)) is holds)

-- each variant that isn't absent, but for the untagged one, needs a number
needs_one : {F V : Type 0} (untagged : ℕ) (variants : List (List (LayoutData F V))) (i : ℕ) → i < length variants → (i == untagged) ≡ false → is_absent (variant_at variants i) ≡ false
    → Contains (needing_numbers untagged variants) i
needs_one untagged variants i short other there =
    let count : length (source_order (length variants)) ≡ length variants = length-range_with_len 0 (length variants) in
    let at : get_or (source_order (length variants)) i i ≡ 0 + i = get_or-range_with_len 0 (length variants) i i short in
    kept (λ k. not (k == untagged) && not (is_absent (variant_at variants k))) (source_order (length variants)) i i (omega (arith, short, count)) (omega (arith, at)) (ap₂ (λ a b. not a && not b) other there)

-- no place is before the first of some that ascend
first_least : (i : ℕ) (is : List ℕ) → AllPairs (λ a b. a < b) (i ∷ is) → All (λ k. i ≤ k) (i ∷ is)
first_least i is pairs =
    All-cons (λ k. i ≤ k) i is (omega arith) (λ k d short. let lt : i < get_or is k d = pairs 0 (suc k) d (omega arith) (omega (arith, short)) in omega (arith, lt))

-- and none is after the last
last_most : (i : ℕ) (is : List ℕ) → AllPairs (λ a b. a < b) (i ∷ is) → All (λ k. k ≤ last_or i is) (i ∷ is)
last_most i [] pairs = All-cons (λ k. k ≤ i) i [] (omega arith) (All-nil (λ k. k ≤ i))
last_most i (j ∷ js) pairs =
    let rest : All (λ k. k ≤ last_or j js) (j ∷ js) = last_most j js (λ a b d before short. pairs (suc a) (suc b) d (omega (arith, before)) (omega (arith, short))) in
    let here : i < j = pairs 0 1 0 (omega arith) (omega arith) in
    let next : j ≤ last_or j js = All-head (λ k. k ≤ last_or j js) j js rest in
    All-cons (λ k. k ≤ last_or j js) i (j ∷ js) (omega (arith, here, next)) rest

-- each of some places that ascend lies between the first and the last
in_span : (is : List ℕ) (span : ℕ × ℕ) (i : ℕ) → span_of is ≡ Some span → AllPairs (λ a b. a < b) is → Contains is i → (span.0 ≤ i) × (i ≤ span.1)
in_span [] span i found pairs one = absurd (cc)
in_span (j ∷ js) span i found pairs one =
    let same : (j, last_or j js) ≡ span = cc in
    subst (λ s. (s.0 ≤ i) × (i ≤ s.1)) same
    (All-contains (λ k. j ≤ k) (j ∷ js) i (first_least j js pairs) one, All-contains (λ k. k ≤ last_or j js) (j ∷ js) i (last_most j js pairs) one)

-- not every number of the width is free
free_below : (dl : TargetDataLayout) (niche : Niche) → available_in dl niche < numbers_of (niche_size dl niche)
free_below dl niche =
    mod_below (niche.valid_range.start + numbers_of (niche_size dl niche) - (niche.valid_range.end + 1)) (numbers_of (niche_size dl niche)) (pow_pos (8 * niche_size dl niche))

-- the same of places that are named
numbers_named : {F V : Type 0} (dl : TargetDataLayout) (variants : List (List (LayoutData F V))) (untagged untagged' first first' last last' start : ℕ) (niche : Niche) (tag : Scalar)
    → untagged' ≡ untagged → first' ≡ first → last' ≡ last → AreNumbersInNiche dl variants untagged first last start niche tag → AreNumbersInNiche dl variants untagged' first' last' start niche tag
numbers_named dl variants untagged untagged' first first' last last' start niche tag u f l h =
    subst (λ x. AreNumbersInNiche dl variants x first' last' start niche tag) (sym u)
    (subst (λ x. AreNumbersInNiche dl variants untagged x last' start niche tag) (sym f) (subst (λ x. AreNumbersInNiche dl variants untagged first x start niche tag) (sym l) h))

-- ---- together

module _ {F V H : Type 0} (layout_of : H → LayoutData F V) (at : ℕ → F) (index : ℕ → V) (number : V → ℕ) (dl : TargetDataLayout) (repr : ReprOptions) (variants : List (List H)) (lists : List (LayoutData F V))
    (niche : Niche) (span : ℕ × ℕ) where
  -- the untagged variant's niche lies inside the whole
  niche_inside : All (IsLawfulLayout dl) lists → niche_of_list (slice_get lists (untagged_of lists)) ≡ Some niche → niche.offset + niche_size dl niche ≤ lists_size dl lists
  niche_inside lawful e =
      let known = niche_known (slice_get lists (untagged_of lists)) niche e in
      let there = holds_there (IsLawfulLayout dl) lists (untagged_of lists) known.0 lawful known.1 in
      let inside = (of_some (IsLawfulNiche dl known.0.size) known.0.largest_niche niche known.2 there.0.niche).inside in
      omega (arith, inside, size_at_most lists (untagged_of lists) known.0 known.1, greatest_within dl lists)

  -- the places of the fields: no byte is shared, and all end inside
  pub placed_apart : AreGoodLists layout_of at (index 0) dl repr AlwaysSized variants lists → All (IsLawfulLayout dl) lists → niche_of_list (slice_get lists (untagged_of lists)) ≡ Some niche
      → (placed : List (VariantLayout F)) → variants_from (room_beside dl niche lists) (untagged_of lists) 0 lists ≡ Some placed
      → AreApartBeside (lists_size dl lists) niche.offset (niche_size dl niche) (untagged_of lists) 0 (map (map layout_of) variants) placed
  placed_apart good lawful e placed is =
      apart_from layout_of at (index 0) dl repr AlwaysSized (room_beside dl niche lists) (untagged_of lists) (niche_size dl niche) 0 variants lists placed (omega arith) (niche_inside lawful e) (greatest_within dl lists) good is

  -- the untagged variant keeps its offsets, so the niche is that of one of its fields
  pub own_niche : AreGoodLists layout_of at (index 0) dl repr AlwaysSized variants lists → (list : LayoutData F V) → slice_get lists (untagged_of lists) ≡ Some list → list.largest_niche ≡ Some niche
      → (placed : List (VariantLayout F)) → variants_from (room_beside dl niche lists) (untagged_of lists) 0 lists ≡ Some placed
      → (variant : VariantLayout F) → slice_get placed (untagged_of lists) ≡ Some variant → IsNicheOfPart variant.field_offsets (variant_at (map (map layout_of) variants) (untagged_of lists)) niche
  own_niche good list is known placed e variant there =
      own_from layout_of at (index 0) dl repr AlwaysSized (room_beside dl niche lists) (untagged_of lists) 0 (untagged_of lists) variants lists placed list niche variant (omega arith) good is known e there

  -- the numbers that name the variants
  pub niche_numbers : All (IsLawfulLayout dl) lists → niche_of_list (slice_get lists (untagged_of lists)) ≡ Some niche
      → span_of (needing_numbers (untagged_of lists) (map (map layout_of) variants)) ≡ Some span → span_count span ≤ available_in dl niche
      → AreNumbersInNiche dl (map (map layout_of) variants) (untagged_of lists) span.0 span.1 (reserved dl niche (span_count span)).0 niche (reserved dl niche (span_count span)).1
  niche_numbers lawful e found enough =
      let known = niche_known (slice_get lists (untagged_of lists)) niche e in
      let there = holds_there (IsLawfulLayout dl) lists (untagged_of lists) known.0 lawful known.1 in
      let here = of_some (IsLawfulNiche dl known.0.size) known.0.largest_niche niche known.2 there.0.niche in
      record {
        span = λ i short other present.
            in_span (needing_numbers (untagged_of lists) (map (map layout_of) variants)) span i found (needing_ascends (untagged_of lists) (map (map layout_of) variants))
            (needs_one (untagged_of lists) (map (map layout_of) variants) i short other present);
        differ = omega (arith, enough, free_below dl niche);
        handed = reserved_hands_out dl niche (span_count span) (reserved dl niche (span_count span)) here.within (omega arith) enough refl;
        value = handed_from dl niche (span_count span);
      }

  -- an enum in a niche is distinguished by it
  pub told_by_niche : (most : ℕ) → ((i : ℕ) → i ≤ most → number (index i) ≡ i) → length variants ≤ most + 1 → AreGoodLists layout_of at (index 0) dl repr AlwaysSized variants lists
      → All (IsLawfulLayout dl) lists → (list : LayoutData F V) (placed : List (VariantLayout F)) → slice_get lists (untagged_of lists) ≡ Some list → list.largest_niche ≡ Some niche
      → span_of (needing_numbers (untagged_of lists) (map (map layout_of) variants)) ≡ Some span → span_count span ≤ available_in dl niche
      → variants_from (room_beside dl niche lists) (untagged_of lists) 0 lists ≡ Some placed
      → (l : LayoutData F V) → l ≡ layout_in_niche (at 0) index dl repr (untagged_of lists) span lists list niche (reserved dl niche (span_count span)) placed
      → HasTagAt niche.offset (reserved dl niche (span_count span)).1 l.backend_repr → IsToldByNiche dl number (map (map layout_of) variants) l
  told_by_niche most named small good lawful list placed is known found enough e l so view =
      let vs : List (List (LayoutData F V)) = map (map layout_of) variants in
      let greatest : niche_of_list (slice_get lists (untagged_of lists)) ≡ Some niche = ap niche_of_list is ∙ known in
      let within : untagged_of lists < length lists = (holds_there (IsLawfulLayout dl) lists (untagged_of lists) list lawful is).1 in
      let count : length lists ≡ length variants = good_count layout_of at (index 0) dl repr AlwaysSized variants lists good in
      let long : length vs ≡ length variants = length-map variants (map layout_of) in
      let ends = span_holds (λ i. i < length vs) (needing_numbers (untagged_of lists) vs) span found (needing_within (untagged_of lists) vs) in
      let at_untagged : number (index (untagged_of lists)) ≡ untagged_of lists = named (untagged_of lists) (omega (arith, within, count, small)) in
      let at_first : number (index span.0) ≡ span.0 = named span.0 (omega (arith, ends.0, long, small)) in
      let at_last : number (index span.1) ≡ span.1 = named span.1 (omega (arith, ends.1, long, small)) in
      let own = placed_there (room_beside dl niche lists) (untagged_of lists) 0 (untagged_of lists) lists placed list e is in
      subst (λ (m : LayoutData F V). HasTagAt niche.offset (reserved dl niche (span_count span)).1 m.backend_repr → IsToldByNiche dl number vs m) (sym so)
      (λ seen. record {
        niche = niche;
        tag = (reserved dl niche (span_count span)).1;
        field = at 0;
        place = refl;
        untagged = index (untagged_of lists);
        span = record { start = index span.0; last = index span.1 };
        start = (reserved dl niche (span_count span)).0;
        layouts = placed;
        tag_distinguishes = refl;
        variant = own.0;
        own = subst (λ u. slice_get placed u ≡ Some own.0) (sym at_untagged) own.1;
        niche_of = subst (λ u. IsNicheOfPart own.0.field_offsets (variant_at vs u) niche) (sym at_untagged) (own_niche good list is known placed e own.0 own.1);
        apart = subst (λ u. AreApartBeside (lists_size dl lists) niche.offset (scalar_size dl (reserved dl niche (span_count span)).1) u 0 vs placed) (sym at_untagged)
            (subst (λ w. AreApartBeside (lists_size dl lists) niche.offset w (untagged_of lists) 0 vs placed) (sym (tag_size dl niche (span_count span))) (placed_apart good lawful greatest placed e));
        numbers = numbers_named dl vs (untagged_of lists) (number (index (untagged_of lists))) span.0 (number (index span.0)) span.1 (number (index span.1)) (reserved dl niche (span_count span)).0 niche
            (reserved dl niche (span_count span)).1 at_untagged at_first at_last (niche_numbers lawful greatest found enough);
        view = seen;
        left = refl;
      })
      view
