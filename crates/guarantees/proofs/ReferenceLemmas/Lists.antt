-- Lists of fields in source order, as the C algorithm has them.
use Rattle.std.proofs.Common.{◌≡◌, ℕ, ◌+◌, ◌-◌, ◌%◌, ◌^◌, ◌<◌, ◌≤◌, Bool, true, false, List, [], ◌∷◌, Option, None, Some, length, map, get_or, refl, sym, ap, ap₂, ◌∙◌, subst, arith, inl, inr, ◌⊎◌, ⊎_elim, Ok}
use Rattle.std.specs.Prelude.{◌==◌, ◌||◌, MatchBool, MatchOption, max, min, fold, not, is_some, slice_index, nat_lt, if◌then◌else◌}
use Rattle.std.specs.Int.{next_multiple_of}
use Rattle.std.specs.Int.RustNames.{bit_and}
use Rattle.std.proofs.Math.Nat.{mod-eq_of_lt, mod_self}
use Rattle.std.proofs.Math.Pow.{pow_mono}
use Rattle.std.proofs.lemmas.Nat.{and_assoc, pow_pos}
use Rattle.std.proofs.lemmas.Bool.{MatchBool-at_false, cases_lt}
use Rattle.std.proofs.lemmas.List.{ext_get_or}
use Rattle.std.proofs.lemmas.List.FromFn.{length-map-range_with_len, get_or-map-range_with_len}
use Rattle.abi_base.specs.declared.data_layout.TargetDataLayout.{TargetDataLayout}
use Rattle.abi_scalar.specs.declared.niche.Niche.{Niche}
use Rattle.abi_scalar.specs.declared.repr.ReprOptions.{ReprOptions}
use Rattle.abi_scalar.specs.Repr.{has_fixed_order, is_c}
use Rattle.abi_univariant.specs.declared.fields_repr.FieldsRepr.{FieldsRepr}
use Rattle.abi_univariant.specs.declared.order.NicheBias.{NicheBias}
use Rattle.abi_univariant.specs.declared.order.NicheBias.TheVariants.{Start, End}
use Rattle.abi_univariant.specs.declared.part.Part.{Part}
use Rattle.abi_univariant.specs.ListNiche.{begins_after, niche_in}
use Rattle.abi_univariant.specs.Order.{IsNamedOrder}
use Rattle.abi_univariant.specs.Part.{part_of, parts_of}
use Rattle.abi_univariant.specs.Placement.{align_of as list_align, cut, end_from, in_order, no_part, offsets_from, place_of, source_order, start_of}
use Rattle.abi_univariant.specs.Run.{IsNamedLayout, IsPlacedIn, space_wanted}
use Rattle.abi_tree.specs.Nodes.{parts_at}
use Rattle.abi_tree.specs.Placed.{Placed, layout_of, size_of}
use Rattle.abi_tree.specs.Tree.{Trees, no_trees, more_trees}
use Rattle.rustc_abi.specs.Laying.{AreLaying}
use Rattle.guarantees.specs.Reference.Words.{Extent, HasPartForEach, extent_of, extents_of, most_aligned, padding_needed_for, rounded_up}
use Rattle.rustc_abi.specs.Lists.{offsets_of}
use Rattle.guarantees.specs.Reference.CStruct.{c_end, c_offsets}
use Rattle.guarantees.specs.Reference.Modifiers.{packed_to}

-- ---- numbers

round_by : (n m : ℕ) → 0 < m → (b : Bool) → nat_lt 0 (n % m) ≡ b
    → n + (if b then m - n % m else 0) ≡ next_multiple_of n m
round_by n m positive true is =
    let some : 0 < n % m = grind (arith) in
    let same : (m - n % m) % m ≡ m - n % m = mod-eq_of_lt (omega arith) in
    ap (λ k. n + k) (sym same)
round_by n m positive false is =
    let none : n % m ≡ 0 = grind (arith) in
    let whole : m - n % m ≡ m = omega arith in
    ap (λ k. n + k) (sym (ap (λ k. k % m) whole ∙ mod_self m))

-- rounded up as the chapter has it and as the calculator does
pub rounded : (n align : ℕ) → rounded_up n (2 ^ align) ≡ next_multiple_of n (2 ^ align)
rounded n align = round_by n (2 ^ align) (pow_pos align) (nat_lt 0 (n % 2 ^ align)) refl

-- powers lie as their exponents
powers : (a b : ℕ) → ((a < b) × (2 ^ a ≤ 2 ^ b)) ⊎ ((b ≤ a) × (2 ^ b ≤ 2 ^ a))
powers a b = ⊎_elim (λ (lt : a < b). inl (lt, pow_mono {i = a} {j = b} (omega arith))) (λ (le : b ≤ a). inr (le, pow_mono {i = b} {j = a} le)) (cases_lt a b)

pub pow_max : (a b : ℕ) → 2 ^ max a b ≡ max (2 ^ a) (2 ^ b)
pow_max a b = ⊎_elim
    (λ h. ap (λ k. 2 ^ k) (omega (arith, h.0)) ∙ (let is : 2 ^ b ≡ max (2 ^ a) (2 ^ b) = omega (arith, h.1) in is))
    (λ h. ap (λ k. 2 ^ k) (omega (arith, h.0)) ∙ (let is : 2 ^ a ≡ max (2 ^ a) (2 ^ b) = omega (arith, h.1) in is)) (powers a b)

pub pow_min : (a b : ℕ) → 2 ^ min a b ≡ min (2 ^ b) (2 ^ a)
pow_min a b = ⊎_elim
    (λ h. ap (λ k. 2 ^ k) (omega (arith, h.0)) ∙ (let is : 2 ^ a ≡ min (2 ^ b) (2 ^ a) = omega (arith, h.1) in is))
    (λ h. ap (λ k. 2 ^ k) (omega (arith, h.0)) ∙ (let is : 2 ^ b ≡ min (2 ^ b) (2 ^ a) = omega (arith, h.1) in is)) (powers a b)

-- ---- `repr(C)` fixes the order

fixed_by : (none more : Bool) → (none ≡ true → ⊥) → (not none || more) ≡ true
fixed_by true more some = absurd (some refl)
fixed_by false more some = refl

pub c_is_fixed : (repr : ReprOptions) → is_c repr ≡ true → has_fixed_order repr ≡ true
c_is_fixed repr c = fixed_by (bit_and repr.flags.0 75 == 0) (is_some repr.int) (λ none.
    let one : bit_and repr.flags.0 1 ≡ 1 = grind (arith) in
    let all : bit_and repr.flags.0 75 ≡ 0 = grind (arith) in
    let apart : bit_and (bit_and repr.flags.0 75) 1 ≡ bit_and repr.flags.0 1 = and_assoc 1 repr.flags.0 75 in
    let zero_one : bit_and 0 1 ≡ 1 = ap (λ k. bit_and k 1) (sym all) ∙ apart ∙ one in
    absurd (cc))

-- ---- the list's places

-- a field's size and alignment as it is positioned
abbrev pub cut_to : Option ℕ → Extent → Extent
cut_to None field = field
cut_to (Some n) field = packed_to (2 ^ n) field

cut_align : (pack : Option ℕ) (p : Placed) → 2 ^ cut pack (layout_of p).align.abi ≡ (cut_to pack (extent_of p)).align
cut_align None p = refl
cut_align (Some n) p = pow_min (layout_of p).align.abi n

cut_size : (pack : Option ℕ) (p : Placed) → (cut_to pack (extent_of p)).size ≡ size_of p
cut_size None p = refl
cut_size (Some n) p = refl

abbrev pub extents_for : Option ℕ → List Placed → List Extent
extents_for pack ps = map (λ p. cut_to pack (extent_of p)) ps

module _ (dl : TargetDataLayout) (pack : Option ℕ) where
  abbrev list_of : List Placed → List Part
  list_of ps = parts_of dl (map layout_of ps)

  place_same : (from : ℕ) (p : Placed)
      → place_of pack from (part_of dl (layout_of p)) ≡ from + padding_needed_for from (cut_to pack (extent_of p)).align
  place_same from p =
      sym (rounded from (cut pack (layout_of p).align.abi)) ∙ ap (λ a. from + padding_needed_for from a) (cut_align pack p)

  behind_same : (from : ℕ) (p : Placed) → place_of pack from (part_of dl (layout_of p)) + size_of p
      ≡ from + padding_needed_for from (cut_to pack (extent_of p)).align + (cut_to pack (extent_of p)).size
  behind_same from p = ap₂ (λ a b. a + b) (place_same from p) (sym (cut_size pack p))

  pub offsets_same : (from : ℕ) (ps : List Placed) → offsets_from pack from (list_of ps) ≡ c_offsets from (extents_for pack ps)
  offsets_same from [] = refl
  offsets_same from (p ∷ ps) =
      ap₂ (λ (o : ℕ) (os : List ℕ). o ∷ os) (place_same from p)
      (ap (λ k. offsets_from pack k (list_of ps)) (behind_same from p)
      ∙ offsets_same (from + padding_needed_for from (cut_to pack (extent_of p)).align + (cut_to pack (extent_of p)).size) ps)

  pub end_same : (from : ℕ) (ps : List Placed) → end_from pack from (list_of ps) ≡ c_end from (extents_for pack ps)
  end_same from [] = refl
  end_same from (p ∷ ps) =
      ap (λ k. end_from pack k (list_of ps)) (behind_same from p)
      ∙ end_same (from + padding_needed_for from (cut_to pack (extent_of p)).align + (cut_to pack (extent_of p)).size) ps

  abbrev folded : ℕ → List Placed → ℕ
  folded least ps = fold (λ most (part : Part). max most (cut pack part.align)) least (list_of ps)

  pub align_same : (least : ℕ) (ps : List Placed) → 2 ^ folded least ps ≡ max (2 ^ least) (most_aligned (extents_for pack ps))
  align_same least [] = (let some : 0 < 2 ^ least = pow_pos least in omega arith)
  align_same least (p ∷ ps) =
      let own : 2 ^ cut pack (layout_of p).align.abi ≡ (cut_to pack (extent_of p)).align = cut_align pack p in
      let both : 2 ^ max least (cut pack (layout_of p).align.abi) ≡ max (2 ^ least) (2 ^ cut pack (layout_of p).align.abi) =
      pow_max least (cut pack (layout_of p).align.abi) in
      let rest = align_same (max least (cut pack (layout_of p).align.abi)) ps in
      rest ∙ ap (λ k. max k (most_aligned (extents_for pack ps))) (both ∙ ap (λ k. max (2 ^ least) k) own) ∙ omega arith

-- at least 1
pub aligned_some : (fs : List Extent) → 1 ≤ most_aligned fs
aligned_some [] = omega arith
aligned_some (f ∷ fs) = omega (arith, aligned_some fs)

-- ---- what indices name, in source order, is the list

pub each_in_order : {X : Type 0} (d : X) (xs : List X) → map (λ i. get_or xs i d) (source_order (length xs)) ≡ xs
each_in_order d xs =
    let many = length-map-range_with_len (λ i. get_or xs i d) 0 (length xs) in
    ext_get_or d (map (λ i. get_or xs i d) (source_order (length xs))) xs many
    (λ i lt. get_or-map-range_with_len (λ j. get_or xs j d) 0 (length xs) i i d (omega (arith, many)) (omega arith))

-- ---- the list that is named, where its order is fixed

pub record LiesInSource (repr : FieldsRepr) (parts : List Part) (offsets : List ℕ) (size align : ℕ) : Type 0 where
  pub count : length offsets ≡ length parts
  pub places : offsets ≡ offsets_from repr.pack (start_of repr.pack repr.kind) parts
  pub extent : size ≡ next_multiple_of (end_from repr.pack (start_of repr.pack repr.kind) parts) (2 ^ list_align repr parts)
  pub alignment : align ≡ list_align repr parts

source_placed : (dl : TargetDataLayout) (repr : FieldsRepr) (bias : NicheBias) (parts : List Part) (order offsets : List ℕ)
    (size align : ℕ) (niche : Option Niche) → order ≡ source_order (length parts)
    → IsPlacedIn dl repr bias parts order offsets size align niche → LiesInSource repr parts offsets size align
source_placed dl repr bias parts order offsets size align niche source h =
    let in_memory : in_order parts order ≡ parts = ap (in_order parts) source ∙ each_in_order no_part parts in
    let to_offsets : order ≡ source_order (length offsets) = source ∙ ap source_order (sym h.count) in
    let tag_distinguishes : map (slice_index offsets) order ≡ offsets = ap (map (slice_index offsets)) to_offsets ∙ each_in_order 0 offsets in
    record {
      count = h.count;
      places = sym tag_distinguishes ∙ h.places ∙ ap (offsets_from repr.pack (start_of repr.pack repr.kind)) in_memory;
      extent = h.extent
          ∙ ap (λ fs. next_multiple_of (end_from repr.pack (start_of repr.pack repr.kind) fs) (2 ^ list_align repr parts)) in_memory;
      alignment = h.alignment;
    }

named_in_source : (repr : FieldsRepr) (bias : NicheBias) (parts : List Part) (order : List ℕ) → repr.reorderable ≡ false
    → IsNamedOrder repr bias parts order → order ≡ source_order (length parts)
named_in_source repr bias parts order fixed named = MatchBool-at_false _ _ fixed named

by_bool : (A B C : Type 0) (b : Bool) → (A → C) → (B → C) → MatchBool b A B → C
by_bool A B C true f g h = f h
by_bool A B C false f g h = g h

by_option : (A : Type 0) (P : ℕ → Type 0) (C : Type 0) (o : Option ℕ) → (A → C) → ((s : ℕ) → P s → C) → MatchOption o A P → C
by_option A P C None f g h = f h
by_option A P C (Some s) f g h = g s h

pub lies_in_source : (dl : TargetDataLayout) (repr : FieldsRepr) (parts : List Part) (order offsets : List ℕ) (size align : ℕ)
    (niche : Option Niche) → repr.reorderable ≡ false → IsNamedLayout dl repr parts order offsets size align niche
    → LiesInSource repr parts offsets size align
lies_in_source dl repr parts order offsets size align niche fixed (first, named, none, run) =
    let source : first ≡ source_order (length parts) = named_in_source repr Start parts first fixed named in
    let from_first = λ (h : (order ≡ first) × IsPlacedIn dl repr Start parts order offsets size align niche).
    source_placed dl repr Start parts order offsets size align niche (h.0 ∙ source) h.1 in
    by_option ((order ≡ first) × IsPlacedIn dl repr Start parts order offsets size align niche)
    (λ space. (second : List ℕ) × IsNamedOrder repr End parts second × MatchBool (begins_after space (niche_in dl repr End parts second))
    ((order ≡ second) × IsPlacedIn dl repr End parts order offsets size align niche)
    ((order ≡ first) × IsPlacedIn dl repr Start parts order offsets size align niche))
    (LiesInSource repr parts offsets size align) (space_wanted dl repr parts first) from_first
    (λ space h. by_bool ((order ≡ h.0) × IsPlacedIn dl repr End parts order offsets size align niche)
    ((order ≡ first) × IsPlacedIn dl repr Start parts order offsets size align niche)
    (LiesInSource repr parts offsets size align) (begins_after space (niche_in dl repr End parts h.0))
    (λ g. source_placed dl repr End parts order offsets size align niche (g.0 ∙ named_in_source repr End parts h.0 fixed h.1) g.1)
    from_first h.2) run

-- ---- parts at offsets

pub extents_of-parts_at : (os : List ℕ) (ps : List Placed) → length os ≡ length ps → extents_of (parts_at os ps) ≡ map extent_of ps
extents_of-parts_at [] [] e = refl
extents_of-parts_at [] (p ∷ ps) e = absurd (omega arith)
extents_of-parts_at (o ∷ os) [] e = absurd (omega arith)
extents_of-parts_at (o ∷ os) (p ∷ ps) e = ap (λ (es : List Extent). extent_of p ∷ es) (extents_of-parts_at os ps (omega arith))

pub offsets_of-parts_at : (os : List ℕ) (ps : List Placed) → length os ≡ length ps → offsets_of (parts_at os ps) ≡ os
offsets_of-parts_at [] [] e = refl
offsets_of-parts_at [] (p ∷ ps) e = absurd (omega arith)
offsets_of-parts_at (o ∷ os) [] e = absurd (omega arith)
offsets_of-parts_at (o ∷ os) (p ∷ ps) e = ap (λ (ns : List ℕ). o ∷ ns) (offsets_of-parts_at os ps (omega arith))

pub part_for_each : (dl : TargetDataLayout) (ts : Trees) (os : List ℕ) (ps : List Placed) → length os ≡ length ps
    → AreLaying dl ts (Ok ps) → HasPartForEach ts (parts_at os ps)
part_for_each dl no_trees [] [] e are = tt
part_for_each dl no_trees (o ∷ os) [] e are = absurd (omega arith)
part_for_each dl no_trees os (p ∷ ps) e are = absurd (cc)
part_for_each dl (more_trees t ts) os ps e (inl f) = absurd (cc f.2)
part_for_each dl (more_trees t ts) os ps e (inr (q, here, inl f)) = absurd (cc f.2)
part_for_each dl (more_trees t ts) os [] e (inr (q, here, inr (rest, later, is))) = absurd (cc)
part_for_each dl (more_trees t ts) [] (p ∷ ps) e (inr (q, here, inr (rest, later, is))) = absurd (omega arith)
part_for_each dl (more_trees t ts) (o ∷ os) (p ∷ ps) e (inr (q, here, inr (rest, later, is))) =
    let same : rest ≡ ps = cc in
    part_for_each dl ts os ps (omega arith) (subst (λ xs. AreLaying dl ts (Ok xs)) same later)
