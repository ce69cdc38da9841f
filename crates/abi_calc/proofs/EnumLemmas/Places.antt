-- Where the tag and the variants' fields of a tagged enum lie.
use Rattle.std.proofs.Common.{◌≡◌, ℕ, zero, suc, ◌+◌, ◌^◌, ◌<◌, ◌≤◌, Bool, true, false, List, [], ◌∷◌, Option, None, Some, inl, inr, ap, arith, get_or, length, map, max, refl, subst, sym, ◌∙◌, ⊎_elim}
use Rattle.std.specs.Prelude.{◌==◌, ◌&&◌, ◌||◌, ◌⊎◌, ⊤, All, is_some, if◌then◌else◌, nat_lt, not, slice_get, unwrap_or}
use Rattle.std.specs.Int.{next_multiple_of}
use Rattle.std.proofs.Math.Nat.{le_of_dvd, one-dvd, pow-le-pow_right}
use Rattle.std.proofs.lemmas.Bool.{cases_lt, eq-eqb, eqb-true, ltb-false, ltb-true}
use Rattle.std.proofs.lemmas.List.{length-map}
use Rattle.std.proofs.lemmas.List.Elements.{All-head, All-tail}
use Rattle.abi_base.specs.declared.data_layout.TargetDataLayout.{TargetDataLayout}
use Rattle.abi_base.specs.declared.integer.Integer.{Integer}
use Rattle.abi_base.specs.declared.integer.Integer.TheVariants.{I8, I16, I32, I64, I128}
use Rattle.abi_base.specs.declared.primitive.Primitive.TheVariants.{Int}
use Rattle.abi_base.specs.DataLayout.{IsLawfulDataLayout}
use Rattle.abi_base.specs.Integer.{integer_align, integer_size}
use Rattle.abi_scalar.specs.declared.backend_repr.BackendRepr.{BackendRepr}
use Rattle.abi_scalar.specs.declared.layout_data.LayoutData.{LayoutData}
use Rattle.abi_scalar.specs.declared.repr.ReprOptions.{ReprOptions}
use Rattle.abi_scalar.specs.declared.scalar.Scalar.TheVariants.{Initialized}
use Rattle.abi_scalar.specs.declared.variants.VariantLayout.{VariantLayout}
use Rattle.abi_scalar.specs.declared.wrapping_range.WrappingRange.{WrappingRange}
use Rattle.abi_scalar.specs.Repr.{is_c}
use Rattle.abi_scalar.specs.Order.{indices_by_offset}
use Rattle.abi_scalar.specs.Shape.{listed_offsets}
use Rattle.abi_scalar.specs.Variant.{variant_of}
use Rattle.abi_univariant.specs.declared.part.Part.{Part}
use Rattle.abi_univariant.specs.Apart.{AreApart, IsBeside}
use Rattle.abi_univariant.specs.Fields.{greatest_size}
use Rattle.abi_univariant.specs.Part.{is_unsized, max_align, part_of, parts_of}
use Rattle.abi_univariant.specs.Placement.{IsAllowed, align_of, cut, end_from, in_order, fields_repr, no_part, offsets_from, place_of, start_of}
use Rattle.abi_univariant.proofs.Offsets.Ends.{end_from-above}
use Rattle.abi_univariant.proofs.Sorted.Least.{allowed_permutes}
use Rattle.abi_univariant.proofs.Sorted.Sorting.{within_order}
use Rattle.abi_univariant.proofs.Offsets.Rounding.{round_multiple, rounded_to}
use Rattle.abi_univariant.proofs.Placed.SourceLemmas.{Lies, field_at, length-in, offset_at, part_in, stands}
use Rattle.abi_calc.specs.Enums.Growth.{align_or, first_align, grown_tag, grown_variant, moved_offset, start_align}
use Rattle.abi_calc.specs.Enums.Lists.{AreGoodLists, IsGoodList, align_with_all, behind_tag, tag_align}
use Rattle.abi_calc.specs.Enums.EnumStrategy.{is_free, takes_no_room}
use Rattle.abi_calc.specs.Enums.Payload.{is_memory, is_of_scalars, variant_with_view, tagged_view}
use Rattle.abi_calc.specs.Enums.Places.{AreApartAmong, AreApartBehind}
use Rattle.abi_calc.specs.Enums.Tagged.{lists_align, lists_size, payloads_of, tagged_layout}
use Rattle.abi_calc.proofs.EnumLemmas.Growth.{grown_size}

-- ---- behind the tag that is asked for

module _ {F V H : Type 0} (layout_of : H → LayoutData F V) (at : ℕ → F) (first : V) (dl : TargetDataLayout) (repr : ReprOptions) (asked : Integer) (vs : List (List (LayoutData F V))) where
  -- a list begins no earlier than the tag ends
  start_behind : integer_size asked ≤ start_of repr.pack (behind_tag dl repr asked vs)
  start_behind = (rounded_to (integer_size asked) (cut repr.pack (tag_align dl repr asked vs))).above

  -- each of its fields lies behind the tag
  pub behind : (fields : List H) (list : LayoutData F V) → IsGoodList layout_of at first dl repr (behind_tag dl repr asked vs) fields list → All (λ o. integer_size asked ≤ o) (listed_offsets list.fields)
  behind fields list good k d short = omega (arith, start_behind, good.after k d short)

  -- a list ends no earlier than its last field
  list_ends : (fields : List H) (list : LayoutData F V) (good : IsGoodList layout_of at first dl repr (behind_tag dl repr asked vs) fields list)
      → end_from repr.pack (start_of repr.pack (behind_tag dl repr asked vs)) (in_order (parts_of dl (map layout_of fields)) good.placed.0) ≤ list.size
  list_ends fields list good =
      let up = (rounded_to (end_from repr.pack (start_of repr.pack (behind_tag dl repr asked vs)) (in_order (parts_of dl (map layout_of fields)) good.placed.0))
      (align_of (fields_repr dl repr (behind_tag dl repr asked vs)) (parts_of dl (map layout_of fields)))).above in
      omega (arith, up, good.placed.2.extent)

  -- the tag lies inside the list
  pub list_holds_tag : (fields : List H) (list : LayoutData F V) → IsGoodList layout_of at first dl repr (behind_tag dl repr asked vs) fields list → integer_size asked ≤ list.size
  list_holds_tag fields list good =
      omega (
        arith,
        start_behind,
        list_ends fields list good,
        end_from-above repr.pack (start_of repr.pack (behind_tag dl repr asked vs)) (in_order (parts_of dl (map layout_of fields)) good.placed.0),
      )

-- ---- parts that share no byte, in a larger whole behind a tag

-- an offset that a tag leaves clear: that of an empty field at the old tag's end, or one behind the new tag
abbrev pub IsClear : (old new offset size : ℕ) → Type 0
IsClear old new offset size = ((offset ≡ old) × (size ≡ 0)) ⊎ (new ≤ offset)

-- each of these, one size for each offset
abbrev pub AreClear : (old new : ℕ) → (offsets sizes : List ℕ) → Type 0
AreClear old new [] [] = ⊤
AreClear old new (o ∷ offsets) (m ∷ sizes) = IsClear old new o m × AreClear old new offsets sizes
AreClear old new _ _ = ⊥

-- the fields of each variant, whose lists these are
abbrev pub AreClearAmong : {F V H : Type 0} → (layout_of : H → LayoutData F V) → (old new : ℕ) → (variants : List (List H)) → (lists : List (LayoutData F V)) → Type 0
AreClearAmong layout_of old new [] [] = ⊤
AreClearAmong layout_of old new (fields ∷ variants) (list ∷ lists) =
    AreClear old new (listed_offsets list.fields) (map (λ f. (layout_of f).size) fields) × AreClearAmong layout_of old new variants lists
AreClearAmong layout_of old new _ _ = ⊥

-- parts inside a smaller whole
pub wider : (small whole : ℕ) (offsets sizes : List ℕ) → small ≤ whole → AreApart small offsets sizes → AreApart whole offsets sizes
wider small whole [] [] more h = tt
wider small whole [] (m ∷ sizes) more h = absurd h
wider small whole (o ∷ offsets) [] more h = absurd h
wider small whole (o ∷ offsets) (m ∷ sizes) more h = (omega (arith, h.0, more), h.1, wider small whole offsets sizes more h.2)

-- a tag at the start is beside what lies behind it
beside_behind : (tag small : ℕ) (offsets sizes : List ℕ) → AreApart small offsets sizes → ((k d : ℕ) → k < length offsets → tag ≤ get_or offsets k d) → IsBeside 0 tag offsets sizes
beside_behind tag small [] [] apart all = tt
beside_behind tag small [] (m ∷ sizes) apart all = absurd apart
beside_behind tag small (o ∷ offsets) [] apart all = absurd apart
beside_behind tag small (o ∷ offsets) (m ∷ sizes) apart all =
    let here : tag ≤ o = all 0 0 (omega arith) in
    (inl (omega (arith, here)), beside_behind tag small offsets sizes apart.2 (λ k d short. all (suc k) d (omega (arith, short))))

-- a tag and the parts that lie behind it
with_tag : (tag small whole : ℕ) (offsets sizes : List ℕ) → tag ≤ whole → small ≤ whole → AreApart small offsets sizes → ((k d : ℕ) → k < length offsets → tag ≤ get_or offsets k d) → AreApart whole (0 ∷ offsets) (tag ∷ sizes)
with_tag tag small whole offsets sizes fits more apart all =
    (omega (arith, fits), beside_behind tag small offsets sizes apart all, wider small whole offsets sizes more apart)

-- ---- parts that moved

-- a field at the old tag's end moves to the new one's
moved_same : (old new : ℕ) → moved_offset old new old ≡ new
moved_same old new = ap (λ b. if b then new else old) (eq-eqb old old refl)

-- a field behind the new tag stays
moved_not : (old new offset : ℕ) → old < new → new ≤ offset → moved_offset old new offset ≡ offset
moved_not old new offset grows far = by (offset == old) refl
  where
    by : (b : Bool) → (offset == old) ≡ b → (if b then new else offset) ≡ offset
    by true same = let e : offset ≡ old = eqb-true offset old same in absurd (omega (arith, e, grows, far))
    by false other = refl

-- two of them that share no byte share none when they have moved
pair_moved : (old new o m p n : ℕ) → old < new → IsClear old new o m → IsClear old new p n → (o + m ≤ p) ⊎ (p + n ≤ o)
    → (moved_offset old new o + m ≤ moved_offset old new p) ⊎ (moved_offset old new p + n ≤ moved_offset old new o)
pair_moved old new o m p n grows (inl a) (inl b) h = rw (a.0, a.1, b.0, moved_same old new) (inl (omega arith))
pair_moved old new o m p n grows (inl a) (inr b) h = rw (a.0, a.1, moved_same old new, moved_not old new p grows b) (inl (omega (arith, b)))
pair_moved old new o m p n grows (inr a) (inl b) h = rw (b.0, b.1, moved_same old new, moved_not old new o grows a) (inr (omega (arith, a)))
pair_moved old new o m p n grows (inr a) (inr b) h = rw (moved_not old new o grows a, moved_not old new p grows b) h

-- a part is beside the others when all of them have moved
beside_moved : (old new o m : ℕ) (offsets sizes : List ℕ) → old < new → IsClear old new o m → AreClear old new offsets sizes → IsBeside o m offsets sizes → IsBeside (moved_offset old new o) m (map (moved_offset old new) offsets) sizes
beside_moved old new o m [] [] grows c cs h = tt
beside_moved old new o m [] (n ∷ sizes) grows c cs h = absurd h
beside_moved old new o m (p ∷ offsets) [] grows c cs h = absurd h
beside_moved old new o m (p ∷ offsets) (n ∷ sizes) grows c cs h = (pair_moved old new o m p n grows c cs.0 h.0, beside_moved old new o m offsets sizes grows c cs.1 h.1)

-- a moved part lies behind the new tag
clear_moved : (old new o m : ℕ) → old < new → IsClear old new o m → new ≤ moved_offset old new o
clear_moved old new o m grows (inl a) = rw (a.0, moved_same old new) (omega arith)
clear_moved old new o m grows (inr b) = rw (moved_not old new o grows b) b

-- and inside the whole
inside_moved : (old new small whole o m : ℕ) → old < new → new ≤ whole → small ≤ whole → IsClear old new o m → o + m ≤ small → moved_offset old new o + m ≤ whole
inside_moved old new small whole o m grows fits more (inl a) h = rw (a.0, a.1, moved_same old new) (omega (arith, fits))
inside_moved old new small whole o m grows fits more (inr b) h = rw (moved_not old new o grows b) (omega (arith, h, more))

-- moved parts share no byte, and end inside the whole
apart_moved : (old new small whole : ℕ) (offsets sizes : List ℕ) → old < new → new ≤ whole → small ≤ whole → AreClear old new offsets sizes → AreApart small offsets sizes → AreApart whole (map (moved_offset old new) offsets) sizes
apart_moved old new small whole [] [] grows fits more cs h = tt
apart_moved old new small whole [] (m ∷ sizes) grows fits more cs h = absurd h
apart_moved old new small whole (o ∷ offsets) [] grows fits more cs h = absurd h
apart_moved old new small whole (o ∷ offsets) (m ∷ sizes) grows fits more cs h = (
  inside_moved old new small whole o m grows fits more cs.0 h.0,
  beside_moved old new o m offsets sizes grows cs.0 cs.1 h.1,
  apart_moved old new small whole offsets sizes grows fits more cs.1 h.2,
)

-- the grown tag is beside the moved parts
tag_moved : (old new : ℕ) (offsets sizes : List ℕ) → old < new → AreClear old new offsets sizes → IsBeside 0 new (map (moved_offset old new) offsets) sizes
tag_moved old new [] [] grows cs = tt
tag_moved old new [] (m ∷ sizes) grows cs = absurd cs
tag_moved old new (o ∷ offsets) [] grows cs = absurd cs
tag_moved old new (o ∷ offsets) (m ∷ sizes) grows cs = (inl (omega (arith, clear_moved old new o m grows cs.0)), tag_moved old new offsets sizes grows cs.1)

-- a grown tag and the moved parts
moved_with_tag : (old new small whole : ℕ) (offsets sizes : List ℕ) → old < new → new ≤ whole → small ≤ whole → AreClear old new offsets sizes → AreApart small offsets sizes
    → AreApart whole (0 ∷ map (moved_offset old new) offsets) (new ∷ sizes)
moved_with_tag old new small whole offsets sizes grows fits more cs h =
    (omega (arith, fits), tag_moved old new offsets sizes grows cs, apart_moved old new small whole offsets sizes grows fits more cs h)

-- ---- a variant beside the tag

-- how a variant is seen moves no field
pub seen_offsets : {F : Type 0} (view : BackendRepr) (size : ℕ) (variant : VariantLayout F) → (variant_with_view view size variant).field_offsets ≡ variant.field_offsets
seen_offsets view size variant = by (is_of_scalars view && is_memory variant.backend_repr && nat_lt 0 (length variant.field_offsets))
  where
    by : (b : Bool) → (if b then (record variant { backend_repr = view; size = max variant.size size }) else variant).field_offsets ≡ variant.field_offsets
    by true = refl
    by false = refl

-- a tag that stays, and the fields behind it
not_grown : {F V : Type 0} (view : BackendRepr) (old new whole : ℕ) (list : LayoutData F V) (sizes : List ℕ) → ¬ (old < new) → new ≤ old → new ≤ whole → list.size ≤ whole
    → AreApart list.size (listed_offsets list.fields) sizes → All (λ o. old ≤ o) (listed_offsets list.fields)
    → AreApart whole (0 ∷ (variant_with_view view whole (grown_variant old new (variant_of list))).field_offsets) (new ∷ sizes)
not_grown view old new whole list sizes stays same fits more apart after = by (nat_lt old new) refl
  where
    by : (b : Bool) → nat_lt old new ≡ b
        → AreApart whole (0 ∷ (variant_with_view view whole (if b then (record (variant_of list) { size = max list.size new; field_offsets = map (moved_offset old new) (listed_offsets list.fields) }) else variant_of list)).field_offsets) (new ∷ sizes)
    by true less = absurd (stays (ltb-true old new less))
    by false equal = rw (seen_offsets view whole (variant_of list)) (with_tag new list.size whole (listed_offsets list.fields) sizes fits more apart (λ k d short. omega (arith, same, after k d short)))

-- a tag that grew, and the fields behind it
grown : {F V : Type 0} (view : BackendRepr) (old new whole : ℕ) (list : LayoutData F V) (sizes : List ℕ) → old < new → new ≤ whole → list.size ≤ whole
    → AreApart list.size (listed_offsets list.fields) sizes → AreClear old new (listed_offsets list.fields) sizes
    → AreApart whole (0 ∷ (variant_with_view view whole (grown_variant old new (variant_of list))).field_offsets) (new ∷ sizes)
grown view old new whole list sizes grows fits more apart clear = by (nat_lt old new) refl
  where
    by : (b : Bool) → nat_lt old new ≡ b
        → AreApart whole (0 ∷ (variant_with_view view whole (if b then (record (variant_of list) { size = max list.size new; field_offsets = map (moved_offset old new) (listed_offsets list.fields) }) else variant_of list)).field_offsets) (new ∷ sizes)
    by true less =
        rw (seen_offsets view whole (record (variant_of list) { size = max list.size new; field_offsets = map (moved_offset old new) (listed_offsets list.fields) }))
        (moved_with_tag old new list.size whole (listed_offsets list.fields) sizes grows fits more clear apart)
    by false equal = absurd (omega (arith, grows, ltb-false old new equal))

-- the whole is no smaller than the largest list
pub greatest_within : {F V : Type 0} (dl : TargetDataLayout) (lists : List (LayoutData F V)) → greatest_size lists ≤ lists_size dl lists
greatest_within dl lists = (rounded_to (greatest_size lists) (lists_align dl lists)).above

-- the fields' sizes, one by one
pub sizes_as : {F V H : Type 0} (layout_of : H → LayoutData F V) (fields : List H) → map (λ (f : LayoutData F V). f.size) (map layout_of fields) ≡ map (λ f. (layout_of f).size) fields
sizes_as layout_of [] = refl
sizes_as layout_of (f ∷ fs) = ap (λ xs. (layout_of f).size ∷ xs) (sizes_as layout_of fs)

-- ---- the field that decides how far a tag may grow

-- of two tests that hold together each holds
one_holds : (a b : Bool) → (a && b) ≡ true → (a ≡ true) × (b ≡ true)
one_holds true b e = (refl, e)
one_holds false b e = cc

-- a field that takes no room has no bytes and is aligned to one
no_room : {F V : Type 0} (field : LayoutData F V) → takes_no_room field ≡ true → (field.size ≡ 0) × (field.align.abi ≡ 0)
no_room field e =
    let two = one_holds (not (is_unsized field.backend_repr) && (field.size == 0)) (field.align.abi == 0) e in
    let one = one_holds (not (is_unsized field.backend_repr)) (field.size == 0) two.0 in
    (eqb-true field.size 0 one.1, eqb-true field.align.abi 0 two.1)

-- behind some bytes a multiple of an alignment that is no lower than this one lies at least that far on
far_place : (from start align : ℕ) → 0 < from → start ≤ align → 2 ^ start ≤ next_multiple_of from (2 ^ align)
far_place from start align some most =
    let up = rounded_to from align in
    let above : from ≤ next_multiple_of from (2 ^ align) = up.above in
    let positive : 0 < next_multiple_of from (2 ^ align) = omega (arith, some, above) in
    let far : 2 ^ align ≤ next_multiple_of from (2 ^ align) = le_of_dvd positive up.multiple in
    let low : 2 ^ start ≤ 2 ^ align = pow-le-pow_right (omega arith) most in
    omega (arith, far, low)

-- the fields of an order, as the list and as the parts have them
get_field : {F V : Type 0} (dl : TargetDataLayout) (fields : List (LayoutData F V)) (i : ℕ) → i < length fields
    → (field : LayoutData F V) × (slice_get fields i ≡ Some field) × (get_or (parts_of dl fields) i no_part ≡ part_of dl field)
get_field dl [] i short = absurd (omega (arith, short))
get_field dl (f ∷ fs) zero short = (f, refl, refl)
get_field dl (f ∷ fs) (suc i) short = get_field dl fs i (omega (arith, short))

-- the first field in an order that takes room lies behind what the tag may grow to, and so does each field after it; those
-- before it are empty and lie at the old tag's end
abbrev pub IsClearAt : (from start : ℕ) → (ps : List Part) → ℕ → Type 0
IsClearAt from start ps k = IsClear from (2 ^ start) (get_or (offsets_from None from ps) k 0) (get_or ps k no_part).size

-- the first field of an order, and those after it
clear_next : {F V : Type 0} (dl : TargetDataLayout) (field : LayoutData F V) (from start : ℕ) (ps : List Part) (later : Option ℕ) → 0 < from → start ≤ unwrap_or (align_or (Some field) later) max_align
    → (start ≤ unwrap_or later max_align → (k : ℕ) → k < length ps → IsClearAt from start ps k) → (k : ℕ) → k < suc (length ps) → IsClearAt from start (part_of dl field ∷ ps) k
clear_next dl field from start ps later some most rest = by (takes_no_room field) refl most
  where
    by : (b : Bool) → takes_no_room field ≡ b → start ≤ unwrap_or (if b then later else Some field.align.abi) max_align → (k : ℕ) → k < suc (length ps) → IsClearAt from start (part_of dl field ∷ ps) k
    by true e low zero short =
        let none = no_room field e in
        inl (ap (λ a. next_multiple_of from (2 ^ a)) none.1 ∙ round_multiple from 0 (one-dvd from), none.0)
    by true e low (suc k) short =
        let none = no_room field e in
        let here : place_of None from (part_of dl field) ≡ from = ap (λ a. next_multiple_of from (2 ^ a)) none.1 ∙ round_multiple from 0 (one-dvd from) in
        let ends : place_of None from (part_of dl field) + field.size ≡ from = omega (arith, here, none.0) in
        subst (λ x. IsClear from (2 ^ start) (get_or (offsets_from None x ps) k 0) (get_or ps k no_part).size) (sym ends) (rest low k (omega (arith, short)))
    by false e low zero short = inr (far_place from start field.align.abi some low)
    by false e low (suc k) short =
        let far : 2 ^ start ≤ place_of None from (part_of dl field) = far_place from start field.align.abi some low in
        let next = (field_at None (place_of None from (part_of dl field) + field.size) ps k (omega (arith, short))).starts in
        inr (omega (arith, far, next))

-- each field of an order
clear_in_order : {F V : Type 0} (dl : TargetDataLayout) (fields : List (LayoutData F V)) (order : List ℕ) (from start : ℕ) → 0 < from → All (λ i. i < length fields) order
    → start ≤ unwrap_or (first_align fields order) max_align → (k : ℕ) → k < length (in_order (parts_of dl fields) order) → IsClearAt from start (in_order (parts_of dl fields) order) k
clear_in_order dl fields [] from start some within most k short = absurd (omega (arith, short))
clear_in_order dl fields (i ∷ order) from start some within most k short =
    let f = get_field dl fields i (All-head (λ i. i < length fields) i order within) in
    let least : start ≤ unwrap_or (align_or (Some f.0) (first_align fields order)) max_align = subst (λ x. start ≤ unwrap_or (align_or x (first_align fields order)) max_align) f.1 most in
    let same : in_order (parts_of dl fields) (i ∷ order) ≡ part_of dl f.0 ∷ in_order (parts_of dl fields) order = ap (λ p. p ∷ in_order (parts_of dl fields) order) f.2 in
    subst (λ ps. (j : ℕ) → j < length ps → IsClearAt from start ps j) (sym same)
    (clear_next dl f.0 from start (in_order (parts_of dl fields) order) (first_align fields order) some least
    (λ low. clear_in_order dl fields order from start some (All-tail (λ i. i < length fields) i order within) low)) k short

-- ---- an order that has a field that takes room

-- where one field takes room, or one after it, they end behind what the tag may grow to
ends_next : {F V : Type 0} (dl : TargetDataLayout) (field : LayoutData F V) (from start : ℕ) (ps : List Part) (later : Option ℕ) → 0 < from → start ≤ unwrap_or (align_or (Some field) later) max_align
    → unwrap_or (align_or (Some field) later) max_align < max_align
    → (start ≤ unwrap_or later max_align → unwrap_or later max_align < max_align → 2 ^ start ≤ end_from None from ps) → 2 ^ start ≤ end_from None from (part_of dl field ∷ ps)
ends_next dl field from start ps later some most real rest = by (takes_no_room field) refl most real
  where
    by : (b : Bool) → takes_no_room field ≡ b → start ≤ unwrap_or (if b then later else Some field.align.abi) max_align → unwrap_or (if b then later else Some field.align.abi) max_align < max_align
        → 2 ^ start ≤ end_from None from (part_of dl field ∷ ps)
    by true e low short =
        let none = no_room field e in
        let here : place_of None from (part_of dl field) ≡ from = ap (λ a. next_multiple_of from (2 ^ a)) none.1 ∙ round_multiple from 0 (one-dvd from) in
        let ends : place_of None from (part_of dl field) + field.size ≡ from = omega (arith, here, none.0) in
        subst (λ x. 2 ^ start ≤ end_from None x ps) (sym ends) (rest low short)
    by false e low short =
        let far : 2 ^ start ≤ place_of None from (part_of dl field) = far_place from start field.align.abi some low in
        omega (arith, far, end_from-above None (place_of None from (part_of dl field) + field.size) ps)

-- so does the whole order, where it has a first alignment
ends_in_order : {F V : Type 0} (dl : TargetDataLayout) (fields : List (LayoutData F V)) (order : List ℕ) (from start : ℕ) → 0 < from → All (λ i. i < length fields) order
    → start ≤ unwrap_or (first_align fields order) max_align → unwrap_or (first_align fields order) max_align < max_align → 2 ^ start ≤ end_from None from (in_order (parts_of dl fields) order)
ends_in_order dl fields [] from start some within most real = absurd (omega (arith, real))
ends_in_order dl fields (i ∷ order) from start some within most real =
    let f = get_field dl fields i (All-head (λ i. i < length fields) i order within) in
    rw f.2 (ends_next dl f.0 from start (in_order (parts_of dl fields) order) (first_align fields order) some
    (subst (λ x. start ≤ unwrap_or (align_or x (first_align fields order)) max_align) f.1 most)
    (subst (λ x. unwrap_or (align_or x (first_align fields order)) max_align < max_align) f.1 real)
    (λ low short. ends_in_order dl fields order from start some (All-tail (λ i. i < length fields) i order within) low short))

-- ---- from memory order to source order

-- of parts that lie in an order, what holds of each in memory order
clear_of_lies : (from start : ℕ) (parts : List Part) (order offsets : List ℕ) → Lies None from parts order offsets
    → ((k : ℕ) → k < length (in_order parts order) → IsClearAt from start (in_order parts order) k) → (i : ℕ) → i < length parts → IsClear from (2 ^ start) (get_or offsets i 0) (get_or parts i no_part).size
clear_of_lies from start parts order offsets lies each i short =
    let s = stands (length parts) order lies.permutes i short in
    let long : s.0 < length (in_order parts order) = omega (arith, length-in parts order, s.1) in
    rw (← offset_at None from parts order offsets s.0 i lies s.1 s.2, ← part_in parts order s.0 i s.1 s.2) (each s.0 long)

-- one by one
clear_all : (old new : ℕ) (offsets sizes : List ℕ) → length offsets ≡ length sizes → ((k : ℕ) → k < length sizes → IsClear old new (get_or offsets k 0) (get_or sizes k 0)) → AreClear old new offsets sizes
clear_all old new [] [] e each = tt
clear_all old new [] (m ∷ sizes) e each = absurd (omega (arith, e))
clear_all old new (o ∷ offsets) [] e each = absurd (omega (arith, e))
clear_all old new (o ∷ offsets) (m ∷ sizes) e each = (each 0 (omega arith), clear_all old new offsets sizes (omega (arith, e)) (λ k short. each (suc k) (omega (arith, short))))

-- ---- small facts

-- an integer has at least one byte
some_bytes : (i : Integer) → 0 < integer_size i
some_bytes I8 = omega arith
some_bytes I16 = omega arith
some_bytes I32 = omega arith
some_bytes I64 = omega arith
some_bytes I128 = omega arith

-- and at most 16
few_bytes : (i : Integer) → integer_size i ≤ 16
few_bytes I8 = omega arith
few_bytes I16 = omega arith
few_bytes I32 = omega arith
few_bytes I64 = omega arith
few_bytes I128 = omega arith

-- an integer's size has a lower exponent than the greatest alignment, which no integer has
start_real : (i : Integer) (start : ℕ) → integer_size i ≡ 2 ^ start → start < max_align
start_real i start same =
    ⊎_elim (λ (real : start < max_align). real)
    (λ (far : max_align ≤ start). let large : 2 ^ 29 ≤ 2 ^ start = pow-le-pow_right (omega arith) far in absurd (omega (arith, large, same, few_bytes i)))
    (cases_lt start max_align)

-- neither of two tests holds
neither : (a b : Bool) → not (a || b) ≡ true → a ≡ false
neither true b e = cc
neither false b e = refl

-- the names of the fields are their numbers
pub named_back : {F : Type 0} (at : ℕ → F) (number : F → ℕ) (most : ℕ) → ((i : ℕ) → i ≤ most → number (at i) ≡ i) → (order : List ℕ) → All (λ i. i ≤ most) order → map number (map at order) ≡ order
named_back at number most law [] within = refl
named_back at number most law (i ∷ order) within =
    rw (law i (All-head (λ i. i ≤ most) i order within), named_back at number most law order (All-tail (λ i. i ≤ most) i order within)) refl

-- a field's size, as the list and as the parts have it
size_at : {F V H : Type 0} (layout_of : H → LayoutData F V) (dl : TargetDataLayout) (fields : List H) (k : ℕ) → k < length fields
    → get_or (map (λ f. (layout_of f).size) fields) k 0 ≡ (get_or (parts_of dl (map layout_of fields)) k no_part).size
size_at layout_of dl [] k short = absurd (omega (arith, short))
size_at layout_of dl (f ∷ fs) zero short = refl
size_at layout_of dl (f ∷ fs) (suc k) short = size_at layout_of dl fs k (omega (arith, short))

-- ---- one list beside a tag that may grow

-- under a free layout a list begins right where the tag ends
start_old : {F V : Type 0} (dl : TargetDataLayout) (repr : ReprOptions) (asked : Integer) (vs : List (List (LayoutData F V))) → IsLawfulDataLayout dl → is_free repr ≡ true
    → start_of None (behind_tag dl repr asked vs) ≡ integer_size asked
start_old dl repr asked vs law free =
    let own : tag_align dl repr asked vs ≡ integer_align dl asked = ap (λ b. if b then align_with_all (integer_align dl asked) vs else integer_align dl asked) (neither (is_c repr) (is_some repr.int) free) in
    ap (λ a. next_multiple_of (integer_size asked) (2 ^ a)) own ∙ round_multiple (integer_size asked) (integer_align dl asked) (law.integers asked)

module _ {F V H : Type 0} (layout_of : H → LayoutData F V) (at : ℕ → F) (number : F → ℕ) (first : V) (dl : TargetDataLayout) (repr : ReprOptions) (asked : Integer) (vs : List (List (LayoutData F V)))
    (most : ℕ) (law : (i : ℕ) → i ≤ most → number (at i) ≡ i) (lawful : IsLawfulDataLayout dl) (packed : repr.pack ≡ None) where
  -- a list's fields lie one after another behind the tag
  lies_good : (fields : List H) (list : LayoutData F V) (good : IsGoodList layout_of at first dl repr (behind_tag dl repr asked vs) fields list)
      → Lies repr.pack (start_of repr.pack (behind_tag dl repr asked vs)) (parts_of dl (map layout_of fields)) good.placed.0 (listed_offsets list.fields)
  lies_good fields list good =
      let many : length (parts_of dl (map layout_of fields)) ≡ length (map layout_of fields) = length-map (map layout_of fields) (λ f. part_of dl f) in
      record {
        permutes = allowed_permutes (fields_repr dl repr (behind_tag dl repr asked vs)) (length (parts_of dl (map layout_of fields))) good.placed.0
            (subst (λ n. IsAllowed (fields_repr dl repr (behind_tag dl repr asked vs)) n good.placed.0) (sym many) good.placed.2.allowed);
        count = good.placed.2.count ∙ sym many;
        places = good.placed.2.places;
      }

  -- under a free layout right behind it
  lies_old : (fields : List H) (list : LayoutData F V) (good : IsGoodList layout_of at first dl repr (behind_tag dl repr asked vs) fields list) → is_free repr ≡ true
      → Lies None (integer_size asked) (parts_of dl (map layout_of fields)) good.placed.0 (listed_offsets list.fields)
  lies_old fields list good free =
      subst (λ from. Lies None from (parts_of dl (map layout_of fields)) good.placed.0 (listed_offsets list.fields)) (start_old dl repr asked vs lawful free)
      (subst (λ p. Lies p (start_of p (behind_tag dl repr asked vs)) (parts_of dl (map layout_of fields)) good.placed.0 (listed_offsets list.fields)) packed (lies_good fields list good))

  -- as many parts as fields
  many_parts : (fields : List H) → length (parts_of dl (map layout_of fields)) ≡ length fields
  many_parts fields = length-map (map layout_of fields) (λ f. part_of dl f) ∙ length-map fields layout_of

  -- the order names fields
  within_good : (fields : List H) (list : LayoutData F V) (good : IsGoodList layout_of at first dl repr (behind_tag dl repr asked vs) fields list) → All (λ i. i < length (map layout_of fields)) good.placed.0
  within_good fields list good k d short =
      let here = within_order (length (parts_of dl (map layout_of fields))) good.placed.0 (lies_good fields list good).permutes k d short in
      omega (arith, here, length-map (map layout_of fields) (λ f. part_of dl f))

  -- and is the list's memory order
  order_good : (fields : List H) (list : LayoutData F V) (good : IsGoodList layout_of at first dl repr (behind_tag dl repr asked vs) fields list) → length fields ≤ most + 1
      → indices_by_offset number list.fields ≡ good.placed.0
  order_good fields list good small =
      ap (indices_by_offset number) good.placed.1
      ∙ named_back at number most law good.placed.0 (λ k d short. omega (arith, within_good fields list good k d short, length-map fields layout_of, small))

  -- the fields that a tag leaves clear which grows no further than to the first alignment
  pub clear : (fields : List H) (list : LayoutData F V) (start : ℕ) → IsGoodList layout_of at first dl repr (behind_tag dl repr asked vs) fields list → is_free repr ≡ true → length fields ≤ most + 1
      → start ≤ unwrap_or (first_align (map layout_of fields) (indices_by_offset number list.fields)) max_align
      → AreClear (integer_size asked) (2 ^ start) (listed_offsets list.fields) (map (λ f. (layout_of f).size) fields)
  clear fields list start good free small least =
      let lies = lies_old fields list good free in
      let low : start ≤ unwrap_or (first_align (map layout_of fields) good.placed.0) max_align
      = subst (λ o. start ≤ unwrap_or (first_align (map layout_of fields) o) max_align) (order_good fields list good small) least in
      let each = clear_of_lies (integer_size asked) start (parts_of dl (map layout_of fields)) good.placed.0 (listed_offsets list.fields) lies
      (clear_in_order dl (map layout_of fields) good.placed.0 (integer_size asked) start (some_bytes asked) (within_good fields list good) low) in
      let count : length (map (λ f. (layout_of f).size) fields) ≡ length fields = length-map fields (λ f. (layout_of f).size) in
      clear_all (integer_size asked) (2 ^ start) (listed_offsets list.fields) (map (λ f. (layout_of f).size) fields) (lies.count ∙ many_parts fields ∙ sym count)
      (λ k short. let within : k < length fields = omega (arith, short, count) in rw (size_at layout_of dl fields k within) (each k (omega (arith, within, many_parts fields))))

  -- the same of all variants, where no first alignment is lower
  clear_lists : (start : ℕ) (variants : List (List H)) (lists : List (LayoutData F V)) → AreGoodLists layout_of at first dl repr (behind_tag dl repr asked vs) variants lists → is_free repr ≡ true
      → All (λ fields. length fields ≤ most + 1) variants → start ≤ start_align number (map (map layout_of) variants) lists → AreClearAmong layout_of (integer_size asked) (2 ^ start) variants lists
  clear_lists start [] [] good free small least = tt
  clear_lists start [] (list ∷ lists) good free small least = absurd good
  clear_lists start (fields ∷ variants) [] good free small least = absurd good
  clear_lists start (fields ∷ variants) (list ∷ lists) good free small least = (
    clear fields list start good.0 free (All-head (λ fs. length fs ≤ most + 1) fields variants small) (omega (arith, least)),
    clear_lists start variants lists good.1 free (All-tail (λ fs. length fs ≤ most + 1) fields variants small) (omega (arith, least)),
  )

  -- what a tag that grew leaves clear: each field is an empty one at the old tag's end, or lies behind the new tag
  pub clear_grown : (variants : List (List H)) (lists : List (LayoutData F V)) → AreGoodLists layout_of at first dl repr (behind_tag dl repr asked vs) variants lists
      → All (λ fields. length fields ≤ most + 1) variants → integer_size asked < integer_size (grown_tag dl repr asked (start_align number (map (map layout_of) variants) lists))
      → AreClearAmong layout_of (integer_size asked) (integer_size (grown_tag dl repr asked (start_align number (map (map layout_of) variants) lists))) variants lists
  clear_grown variants lists good small grows =
      let start = start_align number (map (map layout_of) variants) lists in
      let larger = (grown_size dl repr asked (start_align number (map (map layout_of) variants) lists)).larger grows in
      subst (λ n. AreClearAmong layout_of (integer_size asked) n variants lists) (sym larger.1) (clear_lists start variants lists good larger.0 small (omega arith))

  -- a list with a field that takes room has what a tag may grow to
  pub room_to_grow : (fields : List H) (list : LayoutData F V) (start : ℕ) → IsGoodList layout_of at first dl repr (behind_tag dl repr asked vs) fields list → is_free repr ≡ true → length fields ≤ most + 1
      → start ≤ unwrap_or (first_align (map layout_of fields) (indices_by_offset number list.fields)) max_align
      → unwrap_or (first_align (map layout_of fields) (indices_by_offset number list.fields)) max_align < max_align → 2 ^ start ≤ list.size
  room_to_grow fields list start good free small least real =
      let low : start ≤ unwrap_or (first_align (map layout_of fields) good.placed.0) max_align
      = subst (λ o. start ≤ unwrap_or (first_align (map layout_of fields) o) max_align) (order_good fields list good small) least in
      let high : unwrap_or (first_align (map layout_of fields) good.placed.0) max_align < max_align
      = subst (λ o. unwrap_or (first_align (map layout_of fields) o) max_align < max_align) (order_good fields list good small) real in
      let far : 2 ^ start ≤ end_from None (integer_size asked) (in_order (parts_of dl (map layout_of fields)) good.placed.0)
      = ends_in_order dl (map layout_of fields) good.placed.0 (integer_size asked) start (some_bytes asked) (within_good fields list good) low high in
      let ends : end_from None (integer_size asked) (in_order (parts_of dl (map layout_of fields)) good.placed.0) ≤ list.size
      = subst (λ from. end_from None from (in_order (parts_of dl (map layout_of fields)) good.placed.0) ≤ list.size) (start_old dl repr asked vs lawful free)
      (subst (λ p. end_from p (start_of p (behind_tag dl repr asked vs)) (in_order (parts_of dl (map layout_of fields)) good.placed.0) ≤ list.size) packed (list_ends layout_of at first dl repr asked vs fields list good)) in
      omega (arith, far, ends)

  -- ---- all lists

  -- some list has what a tag may grow to, where some variant has a field that takes room
  lists_fit : (variants : List (List H)) (lists : List (LayoutData F V)) (start : ℕ) → AreGoodLists layout_of at first dl repr (behind_tag dl repr asked vs) variants lists → is_free repr ≡ true
      → All (λ fields. length fields ≤ most + 1) variants → start ≤ start_align number (map (map layout_of) variants) lists → start_align number (map (map layout_of) variants) lists < max_align
      → 2 ^ start ≤ greatest_size lists
  lists_fit [] lists start good free small least real = absurd (omega (arith, real))
  lists_fit (fields ∷ variants) [] start good free small least real = absurd (omega (arith, real))
  lists_fit (fields ∷ variants) (list ∷ lists) start good free small least real =
      let short : length fields ≤ most + 1 = All-head (λ fs. length fs ≤ most + 1) fields variants small in
      let low : start ≤ unwrap_or (first_align (map layout_of fields) (indices_by_offset number list.fields)) max_align = omega (arith, least) in
      ⊎_elim (λ (here : unwrap_or (first_align (map layout_of fields) (indices_by_offset number list.fields)) max_align < max_align).
      let fits : 2 ^ start ≤ list.size = room_to_grow fields list start good.0 free short low here in omega (arith, fits))
      (λ (none : max_align ≤ unwrap_or (first_align (map layout_of fields) (indices_by_offset number list.fields)) max_align).
      let later : 2 ^ start ≤ greatest_size lists = lists_fit variants lists start good.1 free (All-tail (λ fs. length fs ≤ most + 1) fields variants small) (omega (arith, least)) (omega (arith, real, none)) in omega (arith, later))
      (cases_lt (unwrap_or (first_align (map layout_of fields) (indices_by_offset number list.fields)) max_align) max_align)

  -- a tag that stays lies inside some list, where there is a list
  old_fits : (variants : List (List H)) (lists : List (LayoutData F V)) → AreGoodLists layout_of at first dl repr (behind_tag dl repr asked vs) variants lists → 0 < length variants
      → integer_size asked ≤ greatest_size lists
  old_fits [] lists good some = absurd (omega (arith, some))
  old_fits (fields ∷ variants) [] good some = absurd good
  old_fits (fields ∷ variants) (list ∷ lists) good some = let fits : integer_size asked ≤ list.size = list_holds_tag layout_of at first dl repr asked vs fields list good.0 in omega (arith, fits)

  -- the lists' greatest size has the tag, be it grown or not
  pub new_fits : (variants : List (List H)) (lists : List (LayoutData F V)) → AreGoodLists layout_of at first dl repr (behind_tag dl repr asked vs) variants lists → 0 < length variants
      → All (λ fields. length fields ≤ most + 1) variants → integer_size (grown_tag dl repr asked (start_align number (map (map layout_of) variants) lists)) ≤ greatest_size lists
  new_fits variants lists good some small =
      let start = start_align number (map (map layout_of) variants) lists in
      let tag = grown_tag dl repr asked (start_align number (map (map layout_of) variants) lists) in
      let g = grown_size dl repr asked (start_align number (map (map layout_of) variants) lists) in
      ⊎_elim (λ (grows : integer_size asked < integer_size tag).
      let more = g.larger grows in
      let same : integer_size tag ≡ 2 ^ start = more.1 in
      let real : start < max_align = start_real tag start same in
      let fits : 2 ^ start ≤ greatest_size lists = lists_fit variants lists start good more.0 small (omega arith) real in
      omega (arith, same, fits))
      (λ (stays : integer_size tag ≤ integer_size asked). omega (arith, stays, old_fits variants lists good some)) (cases_lt (integer_size asked) (integer_size tag))

  -- beside a tag that stays the fields of all variants share no byte
  apart_stays : (view : BackendRepr) (new whole : ℕ) (variants : List (List H)) (lists : List (LayoutData F V)) → AreGoodLists layout_of at first dl repr (behind_tag dl repr asked vs) variants lists
      → ¬ (integer_size asked < new) → new ≤ integer_size asked → new ≤ whole → greatest_size lists ≤ whole
      → AreApartBehind whole new (map (map layout_of) variants) (map (λ list. variant_with_view view whole (grown_variant (integer_size asked) new (variant_of list))) lists)
  apart_stays view new whole [] [] good stays same fits more = tt
  apart_stays view new whole [] (list ∷ lists) good stays same fits more = absurd good
  apart_stays view new whole (fields ∷ variants) [] good stays same fits more = absurd good
  apart_stays view new whole (fields ∷ variants) (list ∷ lists) good stays same fits more = (
    rw (sizes_as layout_of fields) (not_grown view (integer_size asked) new whole list (map (λ f. (layout_of f).size) fields) stays same fits (omega (arith, more)) good.0.apart
        (behind layout_of at first dl repr asked vs fields list good.0)),
    apart_stays view new whole variants lists good.1 stays same fits (omega (arith, more)),
  )

  -- and so do they beside one that grows, where it leaves them clear
  apart_grows : (view : BackendRepr) (new whole : ℕ) (variants : List (List H)) (lists : List (LayoutData F V)) → AreGoodLists layout_of at first dl repr (behind_tag dl repr asked vs) variants lists
      → AreClearAmong layout_of (integer_size asked) new variants lists → integer_size asked < new → new ≤ whole → greatest_size lists ≤ whole
      → AreApartBehind whole new (map (map layout_of) variants) (map (λ list. variant_with_view view whole (grown_variant (integer_size asked) new (variant_of list))) lists)
  apart_grows view new whole [] [] good clear grows fits more = tt
  apart_grows view new whole [] (list ∷ lists) good clear grows fits more = absurd good
  apart_grows view new whole (fields ∷ variants) [] good clear grows fits more = absurd good
  apart_grows view new whole (fields ∷ variants) (list ∷ lists) good clear grows fits more = (
    rw (sizes_as layout_of fields) (grown view (integer_size asked) new whole list (map (λ f. (layout_of f).size) fields) grows fits (omega (arith, more)) good.0.apart clear.0),
    apart_grows view new whole variants lists good.1 clear.1 grows fits (omega (arith, more)),
  )

  -- the tag and the fields of each variant share no byte
  pub apart_behind : (view : BackendRepr) (whole : ℕ) (variants : List (List H)) (lists : List (LayoutData F V)) → AreGoodLists layout_of at first dl repr (behind_tag dl repr asked vs) variants lists
      → 0 < length variants → All (λ fields. length fields ≤ most + 1) variants → greatest_size lists ≤ whole
      → AreApartBehind whole (integer_size (grown_tag dl repr asked (start_align number (map (map layout_of) variants) lists))) (map (map layout_of) variants)
      (map (λ list. variant_with_view view whole (grown_variant (integer_size asked) (integer_size (grown_tag dl repr asked (start_align number (map (map layout_of) variants) lists))) (variant_of list))) lists)
  apart_behind view whole variants lists good some small more =
      let new = integer_size (grown_tag dl repr asked (start_align number (map (map layout_of) variants) lists)) in
      let fits : new ≤ whole = omega (arith, more, new_fits variants lists good some small) in
      ⊎_elim (λ (grows : integer_size asked < new). apart_grows view new whole variants lists good (clear_grown variants lists good small grows) grows fits more)
      (λ (stays : new ≤ integer_size asked). apart_stays view new whole variants lists good (λ h. omega (arith, h, stays)) stays fits more) (cases_lt (integer_size asked) new)

  -- the same of the layout of the whole
  pub tagged_apart : (signed : Bool) (range : WrappingRange) (variants : List (List H)) (lists : List (LayoutData F V))
      → AreGoodLists layout_of at first dl repr (behind_tag dl repr asked vs) variants lists → 0 < length variants → All (λ fields. length fields ≤ most + 1) variants
      → AreApartAmong dl (lists_size dl lists) (map (map layout_of) variants) (tagged_layout number (at 0) dl repr asked signed range (map (map layout_of) variants) lists).variants
  tagged_apart signed range variants lists good some small =
      let tag = grown_tag dl repr asked (start_align number (map (map layout_of) variants) lists) in
      apart_behind (tagged_view dl (Initialized (Int tag signed) range) (lists_size dl lists) (lists_align dl lists) (payloads_of dl (integer_size asked) (integer_size tag) (map (map layout_of) variants) lists))
      (lists_size dl lists) variants lists good some small (greatest_within dl lists)
