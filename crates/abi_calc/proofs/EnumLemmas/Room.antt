-- An enum's lists leave room for a niche that distinguishes the variants exactly where there is a layout with such a niche.
use Rattle.std.proofs.Common.{◌≡◌, ℕ, zero, suc, ◌+◌, ◌^◌, ◌==◌, ◌<◌, ◌≤◌, ◌∙◌, Bool, true, false, List, [], ◌∷◌, Option, None, Some, ap, ap₂, arith, inl, inr, map, refl, subst, sym, ⊎_elim}
use Rattle.std.specs.Prelude.{◌≢◌, ◌⊎◌, Contains, IfSome, if◌then◌else◌, nat_le, slice_get}
use Rattle.std.specs.Int.{next_multiple_of}
use Rattle.std.proofs.lemmas.Bool.{eq-eqb, eqb-true, leb-false, leb-true}
use Rattle.std.proofs.lemmas.List.Elements.{All-contains}
use Rattle.abi_base.specs.declared.data_layout.TargetDataLayout.{TargetDataLayout}
use Rattle.abi_base.specs.declared.struct_kind.StructKind.{StructKind}
use Rattle.abi_base.specs.declared.struct_kind.StructKind.TheVariants.{AlwaysSized}
use Rattle.abi_base.specs.Primitive.{primitive_size}
use Rattle.abi_scalar.specs.declared.layout_data.LayoutData.{LayoutData}
use Rattle.abi_scalar.specs.declared.niche.Niche.{Niche}
use Rattle.abi_scalar.specs.declared.repr.ReprOptions.{ReprOptions}
use Rattle.abi_scalar.specs.declared.variants.VariantLayout.{VariantLayout}
use Rattle.abi_scalar.specs.Lawful.{IsLawfulLayout, IsLawfulNiche}
use Rattle.abi_scalar.specs.Niche.{available_in, niche_size}
use Rattle.abi_scalar.specs.Range.{AreWithin, IsFree, free_count}
use Rattle.abi_scalar.specs.Shape.{listed_offsets}
use Rattle.abi_scalar.specs.Variant.{variant_of}
use Rattle.abi_scalar.proofs.CountLemmas.{free_counted}
use Rattle.abi_univariant.specs.ListNiche.{HasLargestNiche, HasNoMoreFree, IsNicheAt, IsNicheOfPart}
use Rattle.abi_calc.specs.declared.enums.niche.Room.{Room}
use Rattle.abi_calc.specs.Enums.Lists.{AreGoodLists, IsGoodList}
use Rattle.abi_calc.specs.Enums.Niche.{beside_niche, if_list, if_niche, if_placed, if_span, moved_on, needing_numbers, niche_layout, niche_of_list, place_after, room_beside, span_count, span_of, untagged_of, variants_from, with_first, without_niche}
use Rattle.abi_calc.specs.Enums.EnumStrategy.{variant_at}
use Rattle.abi_calc.specs.Enums.Room.{HasFreeNumbers, HasRoomBeside, LeaveRoom}
use Rattle.abi_calc.specs.Enums.Tagged.{lists_size}
use Rattle.abi_calc.proofs.EnumLemmas.InNiche.{enough, niche_known, of_some}
use Rattle.abi_calc.proofs.EnumLemmas.OneRange.{one_number}

-- ---- one variant

-- the room beside a niche of so many bytes at this place
abbrev room_at : (place width whole : ℕ) → Room
room_at place width whole = record { before = place; after = place + width; whole = whole }

-- where both numbers are over their bounds, neither is within
neither : (a b c d : ℕ) → b < a → d < c → (a ≤ b) ⊎ (c ≤ d) → ⊥
neither a b c d less more (inl h) = omega (arith, less, h)
neither a b c d less more (inr h) = omega (arith, more, h)

module _ {F V : Type 0} (place width whole : ℕ) where
  -- a variant that is placed beside the niche has room there
  placed_room : (list : LayoutData F V) (variant : VariantLayout F) → beside_niche (room_at place width whole) list.align.abi (variant_of list) ≡ Some variant → HasRoomBeside place width whole list
  placed_room list variant e = by (nat_le list.size place) (nat_le (next_multiple_of (place + width) (2 ^ list.align.abi) + list.size) whole) refl refl e
    where
      by : (b c : Bool) → nat_le list.size place ≡ b → nat_le (next_multiple_of (place + width) (2 ^ list.align.abi) + list.size) whole ≡ c
          → (if b then Some (without_niche (variant_of list)) else (if c then Some (moved_on (place_after (room_at place width whole) list.align.abi) (variant_of list)) else None)) ≡ Some variant → HasRoomBeside place width whole list
      by true c early late is = inl (leb-true list.size place early)
      by false true early late is = inr (leb-true (next_multiple_of (place + width) (2 ^ list.align.abi) + list.size) whole late)
      by false false early late is = absurd (cc)

  -- and one that has room there is placed
  room_placed : (list : LayoutData F V) → HasRoomBeside place width whole list → beside_niche (room_at place width whole) list.align.abi (variant_of list) ≡ None → ⊥
  room_placed list room e = by (nat_le list.size place) (nat_le (next_multiple_of (place + width) (2 ^ list.align.abi) + list.size) whole) refl refl e
    where
      by : (b c : Bool) → nat_le list.size place ≡ b → nat_le (next_multiple_of (place + width) (2 ^ list.align.abi) + list.size) whole ≡ c
          → (if b then Some (without_niche (variant_of list)) else (if c then Some (moved_on (place_after (room_at place width whole) list.align.abi) (variant_of list)) else None)) ≡ None → ⊥
      by true c early late is = absurd (cc)
      by false true early late is = absurd (cc)
      by false false early late is =
          neither list.size place (next_multiple_of (place + width) (2 ^ list.align.abi) + list.size) whole (leb-false list.size place early)
          (leb-false (next_multiple_of (place + width) (2 ^ list.align.abi) + list.size) whole late) room

-- ---- all variants

-- where there are a first item and others, both are there
both_there : {A : Type 0} (o : Option A) (more : Option (List A)) (all : List A) → with_first o more ≡ Some all → ((x : A) × (o ≡ Some x)) × ((xs : List A) × (more ≡ Some xs))
both_there None more all e = absurd (cc)
both_there (Some x) None all e = absurd (cc)
both_there (Some x) (Some xs) all e = ((x, refl), (xs, refl))

-- where there aren't, one of them is missing
one_missing : {A : Type 0} (o : Option A) (more : Option (List A)) → with_first o more ≡ None → (o ≡ None) ⊎ (more ≡ None)
one_missing None more e = inl refl
one_missing (Some x) None e = inr refl
one_missing (Some x) (Some xs) e = absurd (cc)

module _ {F V : Type 0} (place width whole untagged : ℕ) where
  -- a variant that has a place has room, unless it is the untagged one
  first_room : (from : ℕ) (list : LayoutData F V) (variant : VariantLayout F) (b : Bool) → (from == untagged) ≡ b → from ≢ untagged
      → (if b then Some (variant_of list) else beside_niche (room_at place width whole) list.align.abi (variant_of list)) ≡ Some variant → HasRoomBeside place width whole list
  first_room from list variant true is other e = absurd (other (eqb-true from untagged is))
  first_room from list variant false is other e = placed_room place width whole list variant e

  -- and the same the other way round
  first_placed : (from : ℕ) (list : LayoutData F V) (b : Bool) → (from == untagged) ≡ b → (from ≢ untagged → HasRoomBeside place width whole list)
      → (if b then Some (variant_of list) else beside_niche (room_at place width whole) list.align.abi (variant_of list)) ≡ None → ⊥
  first_placed from list true is room e = absurd (cc)
  first_placed from list false is room e = room_placed place width whole list (room (λ same. let yes : (from == untagged) ≡ true = eq-eqb from untagged same in absurd (cc))) e

  -- where the variants from a place on have places, each has room but the untagged one
  each_room : (from : ℕ) (lists : List (LayoutData F V)) (placed : List (VariantLayout F)) → variants_from (room_at place width whole) untagged from lists ≡ Some placed
      → (i : ℕ) (list : LayoutData F V) → slice_get lists i ≡ Some list → from + i ≢ untagged → HasRoomBeside place width whole list
  each_room from [] placed e i list is other = absurd (cc)
  each_room from (l ∷ lists) placed e zero list is other =
      let parts = both_there (if from == untagged then Some (variant_of l) else beside_niche (room_at place width whole) l.align.abi (variant_of l)) (variants_from (room_at place width whole) untagged (from + 1) lists) placed e in
      let same : l ≡ list = cc in
      subst (HasRoomBeside place width whole) same (first_room from l parts.0.0 (from == untagged) refl (λ so. other (omega (arith, so))) parts.0.1)
  each_room from (l ∷ lists) placed e (suc i) list is other =
      let parts = both_there (if from == untagged then Some (variant_of l) else beside_niche (room_at place width whole) l.align.abi (variant_of l)) (variants_from (room_at place width whole) untagged (from + 1) lists) placed e in
      each_room (from + 1) lists parts.1.0 parts.1.1 i list is (λ so. other (omega (arith, so)))

  -- where each has room but the untagged one, they have places
  each_placed : (from : ℕ) (lists : List (LayoutData F V)) → ((i : ℕ) (list : LayoutData F V) → slice_get lists i ≡ Some list → from + i ≢ untagged → HasRoomBeside place width whole list)
      → variants_from (room_at place width whole) untagged from lists ≡ None → ⊥
  each_placed from [] room e = absurd (cc)
  each_placed from (l ∷ lists) room e =
      ⊎_elim
      (λ (none : (if from == untagged then Some (variant_of l) else beside_niche (room_at place width whole) l.align.abi (variant_of l)) ≡ None).
      first_placed from l (from == untagged) refl (λ other. room 0 l refl (λ so. other (omega (arith, so)))) none)
      (λ (none : variants_from (room_at place width whole) untagged (from + 1) lists ≡ None).
      each_placed (from + 1) lists (λ i list is other. room (suc i) list is (λ so. other (omega (arith, so)))) none)
      (one_missing (if from == untagged then Some (variant_of l) else beside_niche (room_at place width whole) l.align.abi (variant_of l)) (variants_from (room_at place width whole) untagged (from + 1) lists) e)

-- ---- the free numbers

-- the ends of the niche's range are numbers of its width
abbrev HasEnds : TargetDataLayout → Niche → Type 0
HasEnds dl niche = AreWithin (niche_size dl niche) niche.valid_range

-- some field has at least so many free numbers, as the formula counts them
abbrev pub HasAvailable : {F V : Type 0} → TargetDataLayout → (count : ℕ) → List (LayoutData F V) → Type 0
HasAvailable dl count fields =
    (field : LayoutData _ _) × Contains fields field × (niche : Niche) × (field.largest_niche ≡ Some niche) × HasEnds dl niche × (count ≤ available_in dl niche)

-- which are so many
counted_numbers : {F V : Type 0} (dl : TargetDataLayout) (count : ℕ) (fields : List (LayoutData F V)) → HasAvailable dl count fields → HasFreeNumbers dl count fields
counted_numbers dl count fields h = (h.0, h.1, h.2, h.3, available_in dl h.2, free_counted (niche_size dl h.2) h.2.valid_range h.4, h.5)

-- a niche that is a field's own, moved, has its ends
own_ends : (dl : TargetDataLayout) (offset : ℕ) (own niche : Niche) → IsNicheAt offset (Some own) niche → HasEnds dl niche → HasEnds dl own
own_ends dl offset own niche at ends =
    subst (λ range. AreWithin (niche_size dl own) range) at.2 (subst (λ value. AreWithin (primitive_size dl value) niche.valid_range) at.1 ends)

-- and as many free numbers
own_numbers : {F V : Type 0} (dl : TargetDataLayout) (offset : ℕ) (field : LayoutData F V) (fields : List (LayoutData F V)) (niche : Niche) → HasEnds dl niche → IsNicheAt offset field.largest_niche niche
    → HasAvailable dl (available_in dl niche) (field ∷ fields)
own_numbers dl offset field fields niche ends h = by field.largest_niche refl h
  where
    by : (o : Option Niche) → field.largest_niche ≡ o → IsNicheAt offset o niche → HasAvailable dl (available_in dl niche) (field ∷ fields)
    by None known at = absurd at
    by (Some own) known at =
        let same : available_in dl niche ≡ available_in dl own = ap₂ (λ value range. free_count (primitive_size dl value) range) at.1 at.2 in
        (field, (0, omega arith, refl), own, known, own_ends dl offset own niche at ends, omega (arith, same))

-- some field has as many free numbers as the list's niche
part_numbers : {F V : Type 0} (dl : TargetDataLayout) (offsets : List ℕ) (fields : List (LayoutData F V)) (niche : Niche) → HasEnds dl niche → IsNicheOfPart offsets fields niche → HasAvailable dl (available_in dl niche) fields
part_numbers dl [] fields niche ends h = absurd h
part_numbers dl (o ∷ offsets) [] niche ends h = absurd h
part_numbers dl (o ∷ offsets) (f ∷ fields) niche ends (inl h) = own_numbers dl o f fields niche ends h
part_numbers dl (o ∷ offsets) (f ∷ fields) niche ends (inr h) =
    let rest = part_numbers dl offsets fields niche ends h in
    (rest.0, (suc rest.1.0, omega (arith, rest.1.1), rest.1.2), rest.2, rest.3, rest.4, rest.5)

-- and so it has fewer
fewer_numbers : {F V : Type 0} (dl : TargetDataLayout) (few many : ℕ) (fields : List (LayoutData F V)) → few ≤ many → HasAvailable dl many fields → HasAvailable dl few fields
fewer_numbers dl few many fields less h = (h.0, h.1, h.2, h.3, h.4, omega (arith, less, h.5))

-- no field has more than the largest niche
most_numbers : {F V : Type 0} (dl : TargetDataLayout) (count : ℕ) (fields : List (LayoutData F V)) (niche : Niche) → HasEnds dl niche → HasLargestNiche dl (Some niche) fields → HasFreeNumbers dl count fields
    → count ≤ available_in dl niche
most_numbers dl count fields niche ends largest h =
    let one = All-contains (λ f. IfSome f.largest_niche (λ own. HasNoMoreFree dl own niche)) fields h.0 largest h.1 in
    let most : HasNoMoreFree dl h.2 niche = of_some (λ own. HasNoMoreFree dl own niche) h.0.largest_niche h.2 h.3 one in
    let few : h.4 ≡ most.0 = one_number (IsFree (niche_size dl h.2) h.2.valid_range) h.4 most.0 h.5 most.2 in
    let many : most.1 ≡ available_in dl niche
    = one_number (IsFree (niche_size dl niche) niche.valid_range) most.1 (available_in dl niche) most.3 (free_counted (niche_size dl niche) niche.valid_range ends) in
    omega (arith, few, many, most.4, h.6)

module _ {F V H : Type 0} (layout_of : H → LayoutData F V) (at : ℕ → F) (first : V) (dl : TargetDataLayout) (repr : ReprOptions) (kind : StructKind) where
  -- the list at a place is that of the variant at that place
  good_at : (variants : List (List H)) (lists : List (LayoutData F V)) (i : ℕ) (list : LayoutData F V) → AreGoodLists layout_of at first dl repr kind variants lists → slice_get lists i ≡ Some list
      → (fields : List H) × IsGoodList layout_of at first dl repr kind fields list × (variant_at (map (map layout_of) variants) i ≡ map layout_of fields)
  good_at [] [] i list good is = absurd (cc)
  good_at [] (l ∷ lists) i list good is = absurd good
  good_at (fields ∷ variants) [] i list good is = absurd good
  good_at (fields ∷ variants) (l ∷ lists) zero list good is =
      let same : l ≡ list = cc in
      (fields, subst (IsGoodList layout_of at first dl repr kind fields) same good.0, refl)
  good_at (fields ∷ variants) (l ∷ lists) (suc i) list good is = good_at variants lists i list good.1 is

  -- its niche has its ends
  good_ends : (list : LayoutData F V) (niche : Niche) → IsLawfulLayout dl list → list.largest_niche ≡ Some niche → HasEnds dl niche
  good_ends list niche lawful known = (of_some (IsLawfulNiche dl list.size) list.largest_niche niche known lawful.niche).within

  -- where its niche has enough free numbers, so has one of that variant's fields
  pub field_enough : (variants : List (List H)) (lists : List (LayoutData F V)) (i : ℕ) (list : LayoutData F V) (niche : Niche) (count : ℕ) → AreGoodLists layout_of at first dl repr kind variants lists
      → slice_get lists i ≡ Some list → list.largest_niche ≡ Some niche → count ≤ available_in dl niche → HasAvailable dl count (variant_at (map (map layout_of) variants) i)
  field_enough variants lists i list niche count good is known much =
      let there = good_at variants lists i list good is in
      let part = of_some (IsNicheOfPart (listed_offsets list.fields) (map layout_of there.0)) list.largest_niche niche known there.1.niche in
      subst (HasAvailable dl count) (sym there.2)
      (fewer_numbers dl count (available_in dl niche) (map layout_of there.0) much
      (part_numbers dl (listed_offsets list.fields) (map layout_of there.0) niche (good_ends list niche there.1.lawful known) part))

  -- and the other way round
  niche_enough : (variants : List (List H)) (lists : List (LayoutData F V)) (i : ℕ) (list : LayoutData F V) (niche : Niche) (count : ℕ) → AreGoodLists layout_of at first dl repr kind variants lists
      → slice_get lists i ≡ Some list → list.largest_niche ≡ Some niche → HasFreeNumbers dl count (variant_at (map (map layout_of) variants) i) → count ≤ available_in dl niche
  niche_enough variants lists i list niche count good is known numbers =
      let there = good_at variants lists i list good is in
      most_numbers dl count (map layout_of there.0) niche (good_ends list niche there.1.lawful known) (subst (λ o. HasLargestNiche dl o (map layout_of there.0)) known there.1.largest) (subst (HasFreeNumbers dl count) there.2 numbers)

-- ---- together

module _ {F V H : Type 0} (layout_of : H → LayoutData F V) (at : ℕ → F) (index : ℕ → V) (dl : TargetDataLayout) (repr : ReprOptions) (variants : List (List H)) (lists : List (LayoutData F V)) where
  -- variants that are placed beside a niche with enough free numbers
  leave : AreGoodLists layout_of at (index 0) dl repr AlwaysSized variants lists → (span : ℕ × ℕ) (list : LayoutData F V) (niche : Niche) (placed : List (VariantLayout F))
      → span_of (needing_numbers (untagged_of lists) (map (map layout_of) variants)) ≡ Some span → slice_get lists (untagged_of lists) ≡ Some list → list.largest_niche ≡ Some niche
      → span_count span ≤ available_in dl niche → variants_from (room_beside dl niche lists) (untagged_of lists) 0 lists ≡ Some placed → LeaveRoom dl (map (map layout_of) variants) lists
  leave good span list niche placed ends is known much all = record {
    span = span;
    ends = ends;
    numbers = counted_numbers dl (span_count span) (variant_at (map (map layout_of) variants) (untagged_of lists))
        (field_enough layout_of at (index 0) dl repr AlwaysSized variants lists (untagged_of lists) list niche (span_count span) good is known much);
    niche = niche;
    largest = ap niche_of_list is ∙ known;
    beside = λ i other there apart. each_room niche.offset (niche_size dl niche) (lists_size dl lists) (untagged_of lists) 0 lists placed all i other there (λ so. apart (omega (arith, so)));
  }

  -- what the layout's steps found on the way to it: the places, the test of the numbers, the niche, the list and the span
  from_placed : AreGoodLists layout_of at (index 0) dl repr AlwaysSized variants lists → (l : LayoutData F V) (span : ℕ × ℕ) (list : LayoutData F V) (niche : Niche)
      → span_of (needing_numbers (untagged_of lists) (map (map layout_of) variants)) ≡ Some span → slice_get lists (untagged_of lists) ≡ Some list → list.largest_niche ≡ Some niche
      → span_count span ≤ available_in dl niche → (o : Option (List (VariantLayout F))) → variants_from (room_beside dl niche lists) (untagged_of lists) 0 lists ≡ o
      → if_placed (at 0) index dl repr (untagged_of lists) span lists list niche o ≡ Some l → LeaveRoom dl (map (map layout_of) variants) lists
  from_placed good l span list niche ends is known much None all e = absurd (cc)
  from_placed good l span list niche ends is known much (Some placed) all e = leave good span list niche placed ends is known much all

  from_test : AreGoodLists layout_of at (index 0) dl repr AlwaysSized variants lists → (l : LayoutData F V) (span : ℕ × ℕ) (list : LayoutData F V) (niche : Niche)
      → span_of (needing_numbers (untagged_of lists) (map (map layout_of) variants)) ≡ Some span → slice_get lists (untagged_of lists) ≡ Some list → list.largest_niche ≡ Some niche
      → (b : Bool) → nat_le (span_count span) (available_in dl niche) ≡ b
      → (if b then if_placed (at 0) index dl repr (untagged_of lists) span lists list niche (variants_from (room_beside dl niche lists) (untagged_of lists) 0 lists) else None) ≡ Some l
      → LeaveRoom dl (map (map layout_of) variants) lists
  from_test good l span list niche ends is known true test e =
      from_placed good l span list niche ends is known (leb-true (span_count span) (available_in dl niche) test) (variants_from (room_beside dl niche lists) (untagged_of lists) 0 lists) refl e
  from_test good l span list niche ends is known false test e = absurd (cc)

  from_niche : AreGoodLists layout_of at (index 0) dl repr AlwaysSized variants lists → (l : LayoutData F V) (span : ℕ × ℕ) (list : LayoutData F V)
      → span_of (needing_numbers (untagged_of lists) (map (map layout_of) variants)) ≡ Some span → slice_get lists (untagged_of lists) ≡ Some list → (o : Option Niche) → list.largest_niche ≡ o
      → if_niche (at 0) index dl repr (untagged_of lists) span lists list o ≡ Some l → LeaveRoom dl (map (map layout_of) variants) lists
  from_niche good l span list ends is None known e = absurd (cc)
  from_niche good l span list ends is (Some niche) known e = from_test good l span list niche ends is known (nat_le (span_count span) (available_in dl niche)) refl e

  from_list : AreGoodLists layout_of at (index 0) dl repr AlwaysSized variants lists → (l : LayoutData F V) (span : ℕ × ℕ)
      → span_of (needing_numbers (untagged_of lists) (map (map layout_of) variants)) ≡ Some span → (o : Option (LayoutData F V)) → slice_get lists (untagged_of lists) ≡ o
      → if_list (at 0) index dl repr (untagged_of lists) span lists o ≡ Some l → LeaveRoom dl (map (map layout_of) variants) lists
  from_list good l span ends None is e = absurd (cc)
  from_list good l span ends (Some list) is e = from_niche good l span list ends is list.largest_niche refl e

  from_span : AreGoodLists layout_of at (index 0) dl repr AlwaysSized variants lists → (l : LayoutData F V) (o : Option (ℕ × ℕ)) → span_of (needing_numbers (untagged_of lists) (map (map layout_of) variants)) ≡ o
      → if_span (at 0) index dl repr (untagged_of lists) lists o ≡ Some l → LeaveRoom dl (map (map layout_of) variants) lists
  from_span good l None ends e = absurd (cc)
  from_span good l (Some span) ends e = from_list good l span ends (slice_get lists (untagged_of lists)) refl e

  -- where there is a layout with a niche, the lists leave room for it
  pub leaves_room : AreGoodLists layout_of at (index 0) dl repr AlwaysSized variants lists → (l : LayoutData F V)
      → niche_layout (at 0) index dl repr (map (map layout_of) variants) lists ≡ Some l → LeaveRoom dl (map (map layout_of) variants) lists
  leaves_room good l e = from_span good l (span_of (needing_numbers (untagged_of lists) (map (map layout_of) variants))) refl e

  -- variants that each have room are placed
  never_none : (span : ℕ × ℕ) (list : LayoutData F V) (niche : Niche)
      → ((i : ℕ) (other : LayoutData F V) → slice_get lists i ≡ Some other → i ≢ untagged_of lists → HasRoomBeside niche.offset (niche_size dl niche) (lists_size dl lists) other)
      → (o : Option (List (VariantLayout F))) → variants_from (room_beside dl niche lists) (untagged_of lists) 0 lists ≡ o → if_placed (at 0) index dl repr (untagged_of lists) span lists list niche o ≡ None → ⊥
  never_none span list niche beside None all e =
      each_placed niche.offset (niche_size dl niche) (lists_size dl lists) (untagged_of lists) 0 lists (λ i other there apart. beside i other there (λ so. apart (omega (arith, so)))) all
  never_none span list niche beside (Some placed) all e = absurd (cc)

  -- and where there is none, they leave no room
  pub leaves_none : AreGoodLists layout_of at (index 0) dl repr AlwaysSized variants lists
      → niche_layout (at 0) index dl repr (map (map layout_of) variants) lists ≡ None → LeaveRoom dl (map (map layout_of) variants) lists → ⊥
  leaves_none good e room =
      let there = niche_known (slice_get lists (untagged_of lists)) room.niche room.largest in
      let much : span_count room.span ≤ available_in dl room.niche
      = niche_enough layout_of at (index 0) dl repr AlwaysSized variants lists (untagged_of lists) there.0 room.niche (span_count room.span) good there.1 there.2 room.numbers in
      never_none room.span there.0 room.niche room.beside (variants_from (room_beside dl room.niche lists) (untagged_of lists) 0 lists) refl
      (enough (at 0) index dl repr (map (map layout_of) variants) lists room.span there.0 room.niche room.ends there.1 there.2 much ∙ e)
