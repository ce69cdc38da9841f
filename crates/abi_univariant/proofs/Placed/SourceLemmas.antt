-- What is known of fields in memory order, told in source order.
use Rattle.std.proofs.Common.{◌≡◌, ℕ, zero, suc, ◌+◌, ◌^◌, ◌<◌, ◌≤◌, List, [], ◌∷◌, Option, inl, inr, length, map, get_or, sym, ap, subst, ◌∙◌, arith, ⊎_elim}
use Rattle.std.specs.Prelude.{◌⊎◌, All, IsPermutation, slice_index}
use Rattle.std.specs.Int.{◌∣◌}
use Rattle.std.proofs.lemmas.Bool.{cases_lt}
use Rattle.std.proofs.lemmas.List.{get_or-map, get_or_default, length-map}
use Rattle.std.proofs.lemmas.List.Sorted.{All-permutation, IsPermutation-sym}
use Rattle.std.proofs.lemmas.List.FromFn.{length-range_with_len, get_or-range_with_len}
use Rattle.abi_univariant.specs.declared.part.Part.{Part}
use Rattle.abi_univariant.specs.Apart.{AreAligned, AreApart, IsBeside}
use Rattle.abi_univariant.specs.Placement.{cut, end_from, in_order, no_part, offsets_from, place_of, source_order}
use Rattle.abi_univariant.proofs.Offsets.Ends.{end_from-above}
use Rattle.abi_univariant.proofs.Offsets.Rounding.{rounded_to}

-- ---- in memory order

-- the field at a place of memory order
pub record IsFieldAt (pack : Option ℕ) (from end offset : ℕ) (part : Part) : Type 0 where
  pub starts : from ≤ offset
  pub inside : offset + part.size ≤ end
  pub aligned : 2 ^ cut pack part.align ∣ offset

end_above : (pack : Option ℕ) (from : ℕ) (ps : List Part) → from ≤ end_from pack from ps
end_above pack from ps = omega (arith, end_from-above pack from ps)

pub field_at : (pack : Option ℕ) (from : ℕ) (ps : List Part) (a : ℕ) → a < length ps → IsFieldAt pack from (end_from pack from ps) (get_or (offsets_from pack from ps) a 0) (get_or ps a no_part)
field_at pack from [] a short = absurd (omega arith)
field_at pack from (p ∷ ps) zero short = record {
  starts = (rounded_to from (cut pack p.align)).above;
  inside = end_above pack (place_of pack from p + p.size) ps;
  aligned = (rounded_to from (cut pack p.align)).multiple;
}
field_at pack from (p ∷ ps) (suc a) short =
    let r = field_at pack (place_of pack from p + p.size) ps a (omega arith) in
    let low : from ≤ place_of pack from p = (rounded_to from (cut pack p.align)).above in
    record { starts = omega (arith, low, r.starts); inside = r.inside; aligned = r.aligned }

pub field_before : (pack : Option ℕ) (from : ℕ) (ps : List Part) (a b : ℕ) → a < b → b < length ps
    → get_or (offsets_from pack from ps) a 0 + (get_or ps a no_part).size ≤ get_or (offsets_from pack from ps) b 0
field_before pack from [] a b low short = absurd (omega arith)
field_before pack from (p ∷ ps) a zero low short = absurd (omega arith)
field_before pack from (p ∷ ps) zero (suc b) low short = (field_at pack (place_of pack from p + p.size) ps b (omega arith)).starts
field_before pack from (p ∷ ps) (suc a) (suc b) low short = field_before pack (place_of pack from p + p.size) ps a b (omega arith) (omega arith)

-- ---- places of indices

-- the index stands in the order
abbrev pub StandsIn : List ℕ → ℕ → Type 0
StandsIn order i = (a : ℕ) × (a < length order) × (get_or order a 0 ≡ i)

pub stands : (n : ℕ) (order : List ℕ) → IsPermutation (source_order n) order → (i : ℕ) → i < n → StandsIn order i
stands n order p i short =
    let own : All (StandsIn order) order = λ k d h. (k, h, get_or_default order k 0 d h) in
    let all : All (StandsIn order) (source_order n) = All-permutation (StandsIn order) order (source_order n) (IsPermutation-sym (source_order n) order p) own in
    let long : i < length (source_order n) = omega (arith, length-range_with_len 0 n) in
    let same : get_or (source_order n) i 0 ≡ i = get_or-range_with_len 0 n i 0 short ∙ (omega arith) in
    subst (StandsIn order) same (all i 0 long)

-- What holds of the offsets in memory order, of the field at an index.
pub record Lies (pack : Option ℕ) (from : ℕ) (parts : List Part) (order offsets : List ℕ) : Type 0 where
  pub permutes : IsPermutation (source_order (length parts)) order
  pub count : length offsets ≡ length parts
  pub places : map (slice_index offsets) order ≡ offsets_from pack from (in_order parts order)

pub length-in : (parts : List Part) (order : List ℕ) → length (in_order parts order) ≡ length order
length-in parts order = length-map order (λ i. get_or parts i no_part)

pub offset_at : (pack : Option ℕ) (from : ℕ) (parts : List Part) (order offsets : List ℕ) (a i : ℕ) → Lies pack from parts order offsets → a < length order → get_or order a 0 ≡ i
    → get_or (offsets_from pack from (in_order parts order)) a 0 ≡ get_or offsets i 0
offset_at pack from parts order offsets a i l short is =
    ap (λ xs. get_or xs a 0) (sym l.places) ∙ get_or-map (slice_index offsets) order a 0 0 short ∙ ap (λ j. get_or offsets j 0) is

pub part_in : (parts : List Part) (order : List ℕ) (a i : ℕ) → a < length order → get_or order a 0 ≡ i → get_or (in_order parts order) a no_part ≡ get_or parts i no_part
part_in parts order a i short is = get_or-map (λ j. get_or parts j no_part) order a 0 no_part short ∙ ap (λ j. get_or parts j no_part) is

pub lies_at : (pack : Option ℕ) (from : ℕ) (parts : List Part) (order offsets : List ℕ) (i : ℕ) → Lies pack from parts order offsets → i < length parts
    → IsFieldAt pack from (end_from pack from (in_order parts order)) (get_or offsets i 0) (get_or parts i no_part)
lies_at pack from parts order offsets i l short =
    let s = stands (length parts) order l.permutes i short in
    let long : s.0 < length (in_order parts order) = omega (arith, length-in parts order, s.1) in
    rw (← offset_at pack from parts order offsets s.0 i l s.1 s.2, ← part_in parts order s.0 i s.1 s.2) (field_at pack from (in_order parts order) s.0 long)

pub ordered : (pack : Option ℕ) (from : ℕ) (parts : List Part) (order offsets : List ℕ) (a b i j : ℕ) → Lies pack from parts order offsets → a < b → b < length order → get_or order a 0 ≡ i → get_or order b 0 ≡ j
    → get_or offsets i 0 + (get_or parts i no_part).size ≤ get_or offsets j 0
ordered pack from parts order offsets a b i j l low short ai bj =
    let long : b < length (in_order parts order) = omega (arith, length-in parts order) in
    rw (← offset_at pack from parts order offsets a i l (omega arith) ai, ← offset_at pack from parts order offsets b j l short bj, ← part_in parts order a i (omega arith) ai)
    (field_before pack from (in_order parts order) a b low long)

pub lies_apart : (pack : Option ℕ) (from : ℕ) (parts : List Part) (order offsets : List ℕ) (i j : ℕ) → Lies pack from parts order offsets → i < j → j < length parts
    → (get_or offsets i 0 + (get_or parts i no_part).size ≤ get_or offsets j 0) ⊎ (get_or offsets j 0 + (get_or parts j no_part).size ≤ get_or offsets i 0)
lies_apart pack from parts order offsets i j l low short =
    let s = stands (length parts) order l.permutes i (omega arith) in
    let t = stands (length parts) order l.permutes j short in
    ⊎_elim (λ (h : s.0 < t.0). inl (ordered pack from parts order offsets s.0 t.0 i j l h t.1 s.2 t.2))
    (λ (h : t.0 ≤ s.0). ⊎_elim (λ (k : t.0 < s.0). inr (ordered pack from parts order offsets t.0 s.0 j i l k s.1 t.2 s.2))
    (λ (k : s.0 ≤ t.0). let same : s.0 ≡ t.0 = omega arith in let bad : i ≡ j = sym s.2 ∙ ap (λ x. get_or order x 0) same ∙ t.2 in absurd (omega arith)) (cases_lt t.0 s.0))
    (cases_lt s.0 t.0)

-- ---- from indices to lists

beside_all : (o m : ℕ) (offsets sizes : List ℕ) → length offsets ≡ length sizes
    → ((k : ℕ) → k < length sizes → (o + m ≤ get_or offsets k 0) ⊎ (get_or offsets k 0 + get_or sizes k 0 ≤ o)) → IsBeside o m offsets sizes
beside_all o m [] [] e each = tt
beside_all o m [] (x ∷ sizes) e each = cc
beside_all o m (x ∷ offsets) [] e each = cc
beside_all o m (x ∷ offsets) (y ∷ sizes) e each = (each 0 (omega arith), beside_all o m offsets sizes (omega arith) (λ k h. each (suc k) (omega arith)))

pub apart_all : (whole : ℕ) (offsets sizes : List ℕ) → length offsets ≡ length sizes → ((k : ℕ) → k < length sizes → get_or offsets k 0 + get_or sizes k 0 ≤ whole)
    → ((i j : ℕ) → i < j → j < length sizes → (get_or offsets i 0 + get_or sizes i 0 ≤ get_or offsets j 0) ⊎ (get_or offsets j 0 + get_or sizes j 0 ≤ get_or offsets i 0))
    → AreApart whole offsets sizes
apart_all whole [] [] e inside pairs = tt
apart_all whole [] (x ∷ sizes) e inside pairs = cc
apart_all whole (x ∷ offsets) [] e inside pairs = cc
apart_all whole (x ∷ offsets) (y ∷ sizes) e inside pairs = (
  inside 0 (omega arith),
  beside_all x y offsets sizes (omega arith) (λ k h. pairs 0 (suc k) (omega arith) (omega arith)),
  apart_all whole offsets sizes (omega arith) (λ k h. inside (suc k) (omega arith)) (λ i j low h. pairs (suc i) (suc j) (omega arith) (omega arith)),
)

pub aligned_all : (offsets aligns : List ℕ) → length offsets ≡ length aligns → ((k : ℕ) → k < length aligns → 2 ^ get_or aligns k 0 ∣ get_or offsets k 0) → AreAligned offsets aligns
aligned_all [] [] e each = tt
aligned_all [] (x ∷ aligns) e each = cc
aligned_all (x ∷ offsets) [] e each = cc
aligned_all (x ∷ offsets) (y ∷ aligns) e each = (each 0 (omega arith), aligned_all offsets aligns (omega arith) (λ k h. each (suc k) (omega arith)))

-- ---- the whole list

pub parts_apart : (pack : Option ℕ) (from whole : ℕ) (parts : List Part) (order offsets : List ℕ) → Lies pack from parts order offsets → end_from pack from (in_order parts order) ≤ whole
    → AreApart whole offsets (map (λ p. p.size) parts)
parts_apart pack from whole parts order offsets l up =
    let many : length (map (λ (p : Part). p.size) parts) ≡ length parts = length-map parts (λ p. p.size) in
    let size : (k : ℕ) → k < length parts → get_or (map (λ (p : Part). p.size) parts) k 0 ≡ (get_or parts k no_part).size = λ k h. get_or-map (λ p. p.size) parts k no_part 0 h in
    apart_all whole offsets (map (λ p. p.size) parts) (l.count ∙ sym many)
    (λ k h. let short : k < length parts = omega (arith, many) in omega (arith, size k short, up, (lies_at pack from parts order offsets k l short).inside))
    (λ i j low h. let short : j < length parts = omega (arith, many) in rw (size i (omega arith), size j short) (lies_apart pack from parts order offsets i j l low short))

pub parts_aligned : (pack : Option ℕ) (from : ℕ) (parts : List Part) (order offsets : List ℕ) → Lies pack from parts order offsets → AreAligned offsets (map (λ p. cut pack p.align) parts)
parts_aligned pack from parts order offsets l =
    let many : length (map (λ (p : Part). cut pack p.align) parts) ≡ length parts = length-map parts (λ p. cut pack p.align) in
    aligned_all offsets (map (λ p. cut pack p.align) parts) (l.count ∙ sym many)
    (λ k h. let short : k < length parts = omega (arith, many) in
    rw (get_or-map (λ (p : Part). cut pack p.align) parts k no_part 0 short) (lies_at pack from parts order offsets k l short).aligned)

-- no field shares a byte with the prefix
pub parts_after : (pack : Option ℕ) (from : ℕ) (parts : List Part) (order offsets : List ℕ) → Lies pack from parts order offsets → All (λ o. from ≤ o) offsets
parts_after pack from parts order offsets l k d h =
    let short : k < length parts = omega (arith, l.count) in
    rw (get_or_default offsets k d 0 h) (lies_at pack from parts order offsets k l short).starts
