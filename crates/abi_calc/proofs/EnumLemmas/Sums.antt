-- Sums of sizes: parts that share no byte are together no larger than the whole, and what lies behind a tag ends no later than that
-- and the list without one, each rounded up.
use Rattle.std.proofs.Common.{◌≡◌, ℕ, ◌+◌, ◌-◌, ◌^◌, ◌<◌, ◌≤◌, ◌∙◌, Bool, true, false, List, [], ◌∷◌, Option, None, Some, inl, inr, ap, arith, length, map, max, min, refl, subst, sum_by, sym, fold}
use Rattle.std.specs.Prelude.{◌⊎◌, All, if◌then◌else◌, nat_le}
use Rattle.std.specs.Int.{◌∣◌, next_multiple_of}
use Rattle.std.proofs.Math.Nat.{dvd_trans}
use Rattle.std.proofs.lemmas.Bool.{leb-true, leb-false}
use Rattle.std.proofs.lemmas.List.{length-map}
use Rattle.std.proofs.lemmas.List.Elements.{All-cons, All-head, All-nil, All-tail}
use Rattle.std.proofs.lemmas.List.Sorted.{All-permutation}
use Rattle.std.proofs.lemmas.List.Sums.{sum_by-cons}
use Rattle.abi_base.specs.declared.data_layout.TargetDataLayout.{TargetDataLayout}
use Rattle.abi_base.specs.declared.struct_kind.StructKind.TheVariants.{AlwaysSized, Prefixed}
use Rattle.abi_scalar.specs.declared.layout_data.LayoutData.{LayoutData}
use Rattle.abi_scalar.specs.declared.repr.ReprOptions.{ReprOptions}
use Rattle.abi_scalar.specs.declared.variants.VariantLayout.{VariantLayout}
use Rattle.abi_univariant.specs.declared.part.Part.{Part}
use Rattle.abi_univariant.specs.Apart.{AreApart, IsBeside}
use Rattle.abi_univariant.specs.Least.{IsOrderOf, align_by, size_by}
use Rattle.abi_univariant.specs.Part.{part_of, parts_of}
use Rattle.abi_univariant.specs.Placement.{IsAllowed, cut, end_from, in_order, fields_repr, place_of, start_of}
use Rattle.abi_univariant.proofs.Offsets.Ends.{Capped, end_from-mono}
use Rattle.abi_univariant.proofs.Offsets.Rounding.{pow_dvd, round_add, round_mono, rounded_to}
use Rattle.abi_univariant.proofs.Sorted.Least.{allowed_permutes}
use Rattle.abi_univariant.proofs.Sorted.Prefixes.{round_lower}
use Rattle.abi_univariant.proofs.Sorted.Sorting.{in_order-permutation}
use Rattle.abi_univariant.proofs.Sorted.Tight.{capped, greatest, greatest_above, greatest_from}
use Rattle.abi_calc.specs.Enums.Bounds.{least_left, left_beside}
use Rattle.abi_calc.specs.Enums.Places.{AreApartBehind}

-- ---- parts that share no byte

-- where an offset is once a part of m bytes at o is taken out
abbrev closed : (o m x : ℕ) → ℕ
closed o m x = if nat_le (o + m) x then x - m else x

-- it moves where it lies behind the part
abbrev IsClosed : (o m x y : ℕ) → Type 0
IsClosed o m x y = ((o + m ≤ x) × (y + m ≡ x)) ⊎ ((x < o + m) × (y ≡ x))

closed_is : (o m x : ℕ) → IsClosed o m x (closed o m x)
closed_is o m x = by (nat_le (o + m) x) refl
  where
    by : (b : Bool) → nat_le (o + m) x ≡ b → IsClosed o m x (if b then x - m else x)
    by true e = let le : o + m ≤ x = leb-true (o + m) x e in inl (le, omega (arith, le))
    by false e = inr (leb-false (o + m) x e, refl)

-- two parts beside each other and beside the one that is taken out are beside each other still
still_beside : (o m x n y k u v : ℕ) → IsClosed o m x u → IsClosed o m y v → (o + m ≤ x) ⊎ (x + n ≤ o) → (o + m ≤ y) ⊎ (y + k ≤ o) → (x + n ≤ y) ⊎ (y + k ≤ x) → (u + n ≤ v) ⊎ (v + k ≤ u)
still_beside o m x n y k u v (inl a) (inl b) p q (inl r) = inl (omega (arith, a.0, a.1, b.0, b.1, r))
still_beside o m x n y k u v (inl a) (inl b) p q (inr r) = inr (omega (arith, a.0, a.1, b.0, b.1, r))
still_beside o m x n y k u v (inl a) (inr b) p (inl q) r = absurd (omega (arith, q, b.0))
still_beside o m x n y k u v (inl a) (inr b) p (inr q) r = inr (omega (arith, a.0, a.1, b.1, q))
still_beside o m x n y k u v (inr a) (inl b) (inl p) q r = absurd (omega (arith, p, a.0))
still_beside o m x n y k u v (inr a) (inl b) (inr p) q r = inl (omega (arith, a.1, b.0, b.1, p))
still_beside o m x n y k u v (inr a) (inr b) p q (inl r) = inl (omega (arith, a.1, b.1, r))
still_beside o m x n y k u v (inr a) (inr b) p q (inr r) = inr (omega (arith, a.1, b.1, r))

closed_beside : (o m x n : ℕ) → (o + m ≤ x) ⊎ (x + n ≤ o) → (os ms : List ℕ) → IsBeside o m os ms → IsBeside x n os ms → IsBeside (closed o m x) n (map (closed o m) os) ms
closed_beside o m x n p [] [] q r = tt
closed_beside o m x n p [] (k ∷ ms) q r = elim q [ ]
closed_beside o m x n p (y ∷ os) [] q r = elim q [ ]
closed_beside o m x n p (y ∷ os) (k ∷ ms) q r =
    (still_beside o m x n y k (closed o m x) (closed o m y) (closed_is o m x) (closed_is o m y) p q.0 r.0, closed_beside o m x n p os ms q.1 r.1)

still_inside : (o m whole x n u : ℕ) → o + m ≤ whole → IsClosed o m x u → (o + m ≤ x) ⊎ (x + n ≤ o) → x + n ≤ whole → u + n ≤ whole - m
still_inside o m whole x n u fits (inl a) p h = omega (arith, fits, a.0, a.1, h)
still_inside o m whole x n u fits (inr a) (inl p) h = absurd (omega (arith, p, a.0))
still_inside o m whole x n u fits (inr a) (inr p) h = omega (arith, fits, a.1, p)

-- the others share no byte, in what is left of the whole
closed_apart : (o m whole : ℕ) → o + m ≤ whole → (os ms : List ℕ) → IsBeside o m os ms → AreApart whole os ms → AreApart (whole - m) (map (closed o m) os) ms
closed_apart o m whole fits [] [] q h = tt
closed_apart o m whole fits [] (k ∷ ms) q h = elim h [ ]
closed_apart o m whole fits (y ∷ os) [] q h = elim h [ ]
closed_apart o m whole fits (y ∷ os) (k ∷ ms) q h = (
  still_inside o m whole y k (closed o m y) fits (closed_is o m y) q.0 h.0,
  closed_beside o m y k q.0 os ms q.1 h.1,
  closed_apart o m whole fits os ms q.1 h.2,
)

-- together they are no larger than the whole
pub apart_sum : {A : Type 0} (size : A → ℕ) (whole : ℕ) (os : List ℕ) (xs : List A) → AreApart whole os (map size xs) → sum_by size xs ≤ whole
apart_sum size whole [] [] h = omega arith
apart_sum size whole (o ∷ os) [] h = omega arith
apart_sum size whole [] (x ∷ xs) h = elim h [ ]
apart_sum size whole (o ∷ os) (x ∷ xs) h =
    let rest : sum_by size xs ≤ whole - size x = apart_sum size (whole - size x) (map (closed o (size x)) os) xs (closed_apart o (size x) whole h.0 os (map size xs) h.1 h.2) in
    let fits : o + size x ≤ whole = h.0 in
    let sum : sum_by size (x ∷ xs) ≡ size x + sum_by size xs = sum_by-cons size x xs in
    omega (arith, rest, fits, sum)

-- a tag and the fields behind it
pub behind_sum : {F V : Type 0} (whole tag : ℕ) (os : List ℕ) (fields : List (LayoutData F V)) → AreApart whole (0 ∷ os) (tag ∷ map (λ f. f.size) fields) → tag + sum_by (λ f. f.size) fields ≤ whole
behind_sum whole tag os fields h =
    let fits : 0 + tag ≤ whole = h.0 in
    let rest : sum_by (λ f. f.size) fields ≤ whole - tag
    = apart_sum (λ f. f.size) (whole - tag) (map (closed 0 tag) os) fields (closed_apart 0 tag whole fits os (map (λ f. f.size) fields) h.1 h.2) in
    omega (arith, rest, fits)

-- and those of each variant
pub behind_sums : {F V : Type 0} (whole tag : ℕ) (variants : List (List (LayoutData F V))) (layouts : List (VariantLayout F)) → AreApartBehind whole tag variants layouts
    → All (λ fields. tag + sum_by (λ f. f.size) fields ≤ whole) variants
behind_sums whole tag [] layouts h = All-nil (λ fields. tag + sum_by (λ f. f.size) fields ≤ whole)
behind_sums whole tag (fields ∷ variants) [] h = elim h [ ]
behind_sums whole tag (fields ∷ variants) (layout ∷ layouts) h =
    All-cons (λ fields. tag + sum_by (λ f. f.size) fields ≤ whole) fields variants (behind_sum whole tag layout.field_offsets fields h.0) (behind_sums whole tag variants layouts h.1)

-- a tag beside which the fields of each variant fit is no larger than what they leave
left_from : {F V : Type 0} (whole tag from : ℕ) (variants : List (List (LayoutData F V))) → tag ≤ from → All (λ fields. tag + sum_by (λ f. f.size) fields ≤ whole) variants
    → tag ≤ fold (λ least fields. min least (left_beside whole fields)) from variants
left_from whole tag from [] h all = h
left_from whole tag from (fields ∷ variants) h all =
    let P : List (LayoutData _ _) → Type 0 = λ fields. tag + sum_by (λ f. f.size) fields ≤ whole in
    let one : tag + sum_by (λ f. f.size) fields ≤ whole = All-head P fields variants all in
    left_from whole tag (min from (left_beside whole fields)) variants (omega (arith, h, one)) (All-tail P fields variants all)

pub left_for_tag : {F V : Type 0} (whole tag : ℕ) (variants : List (List (LayoutData F V))) → 0 < length variants → All (λ fields. tag + sum_by (λ f. f.size) fields ≤ whole) variants → tag ≤ least_left whole variants
left_for_tag whole tag [] some all = absurd (omega (arith, some))
left_for_tag whole tag (fields ∷ variants) some all =
    let one : tag + sum_by (λ f. f.size) fields ≤ whole = All-head (λ fields. tag + sum_by (λ f. f.size) fields ≤ whole) fields variants all in
    left_from whole tag whole (fields ∷ variants) (omega (arith, one)) all

-- ---- fields behind a tag

-- fields that begin so many bytes later end so many bytes later, where that is a multiple of each alignment
shifted : (pack : Option ℕ) (top k from : ℕ) (fs : List Part) → Capped pack top fs → 2 ^ top ∣ k → end_from pack (from + k) fs ≡ end_from pack from fs + k
shifted pack top k from [] caps d = refl
shifted pack top k from (f ∷ fs) caps d =
    let place : ℕ = place_of pack from f in
    let one : place + k ≡ place_of pack (from + k) f = round_add from (cut pack f.align) k (dvd_trans (2 ^ cut pack f.align) (pow_dvd (cut pack f.align) top caps.0) d) in
    let same : place_of pack (from + k) f + f.size ≡ place + f.size + k = omega (arith, one) in
    ap (λ n. end_from pack n fs) same ∙ shifted pack top k (place + f.size) fs caps.1 d

-- the greatest of some alignments passes nothing that none of them passes
greatest_least : (h : Part → ℕ) (a top : ℕ) (fs : List Part) → a ≤ top → All (λ f. h f ≤ top) fs → greatest h a fs ≤ top
greatest_least h a top [] le all = le
greatest_least h a top (f ∷ fs) le all =
    let one : h f ≤ top = All-head (λ f. h f ≤ top) f fs all in
    greatest_least h (max a (h f)) top fs (omega (arith, le, one)) (All-tail (λ f. h f ≤ top) f fs all)

all_below : (h : Part → ℕ) (low high : ℕ) (fs : List Part) → low ≤ high → All (λ f. h f ≤ low) fs → All (λ f. h f ≤ high) fs
all_below h low high [] le all = All-nil (λ f. h f ≤ high)
all_below h low high (f ∷ fs) le all =
    let one : h f ≤ low = All-head (λ f. h f ≤ low) f fs all in
    All-cons (λ f. h f ≤ high) f fs (omega (arith, le, one)) (all_below h low high fs le (All-tail (λ f. h f ≤ low) f fs all))

cut_below : (pack : Option ℕ) (align : ℕ) → cut pack align ≤ align
cut_below None align = omega arith
cut_below (Some p) align = omega arith

module _ {F V : Type 0} (dl : TargetDataLayout) (repr : ReprOptions) (size align top : ℕ) (small : align ≤ top) (fields : List (LayoutData F V)) (aligned : align_by dl repr AlwaysSized fields ≤ top) where
  abbrev parts : List Part
  parts = parts_of dl fields

  abbrev own : ℕ
  own = (fields_repr dl repr AlwaysSized).align

  -- no field is aligned to more
  each_below : All (λ (p : Part). cut repr.pack p.align ≤ top) parts
  each_below =
      all_below (λ p. cut repr.pack p.align) (align_by dl repr AlwaysSized fields) top parts aligned (greatest_above (λ p. cut repr.pack p.align) (max own 0) parts)

  -- nor is the list behind the tag
  pub align_behind : align_by dl repr (Prefixed size align) fields ≤ top
  align_behind =
      let least : max own 0 ≤ align_by dl repr AlwaysSized fields = greatest_from (λ (p : Part). cut repr.pack p.align) (max own 0) parts in
      let cuts : cut repr.pack align ≤ align = cut_below repr.pack align in
      greatest_least (λ p. cut repr.pack p.align) (max own (cut repr.pack align)) top parts (omega (arith, least, cuts, small, aligned)) each_below

  -- in an order, the list behind the tag is no larger than the tag and that without it, each rounded up
  pub size_behind : (order : List ℕ) → IsOrderOf dl repr AlwaysSized (length fields) order → (whole : ℕ) → size_by dl repr AlwaysSized fields order ≤ whole
      → size_by dl repr (Prefixed size align) fields order ≤ next_multiple_of size (2 ^ top) + next_multiple_of whole (2 ^ top)
  size_behind order allowed whole fits =
      let k : ℕ = next_multiple_of size (2 ^ top) in
      let cuts : cut repr.pack align ≤ align = cut_below repr.pack align in
      let start : start_of repr.pack (Prefixed size align) ≤ k = round_lower size size (cut repr.pack align) top (omega arith) (omega (arith, cuts, small)) in
      let named : IsAllowed (fields_repr dl repr AlwaysSized) (length parts) order = subst (λ n. IsAllowed (fields_repr dl repr AlwaysSized) n order) (sym (length-map fields (λ f. part_of dl f))) allowed in
      let lying : List Part = in_order parts order in
      let caps : Capped repr.pack top lying
      = capped repr.pack top lying (All-permutation (λ (p : Part). cut repr.pack p.align ≤ top) parts lying (in_order-permutation parts order (allowed_permutes (fields_repr dl repr AlwaysSized) (length parts) order named)) each_below) in
      let end : ℕ = end_from repr.pack 0 lying in
      let later : end_from repr.pack (start_of repr.pack (Prefixed size align)) lying ≤ end_from repr.pack (0 + k) lying = end_from-mono repr.pack (start_of repr.pack (Prefixed size align)) (0 + k) lying (omega (arith, start)) in
      let moved_offset : end_from repr.pack (0 + k) lying ≡ end + k = shifted repr.pack top k 0 lying caps (rounded_to size top).multiple in
      let up : size_by dl repr (Prefixed size align) fields order ≤ next_multiple_of (end + k) (2 ^ top) = round_lower _ (end + k) (align_by dl repr (Prefixed size align) fields) top (omega (arith, later, moved_offset)) align_behind in
      let apart : next_multiple_of end (2 ^ top) + k ≡ next_multiple_of (end + k) (2 ^ top) = round_add end top k (rounded_to size top).multiple in
      let ends : end ≤ size_by dl repr AlwaysSized fields order = (rounded_to end (align_by dl repr AlwaysSized fields)).above in
      let more : next_multiple_of end (2 ^ top) ≤ next_multiple_of whole (2 ^ top) = round_mono end whole top (omega (arith, ends, fits)) in
      omega (arith, up, apart, more)
