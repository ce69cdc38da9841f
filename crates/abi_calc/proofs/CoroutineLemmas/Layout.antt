-- The layout of a coroutine, from the layouts of its lists.
use Rattle.std.proofs.Common.{◌≡◌, ℕ, ◌+◌, ◌-◌, ◌^◌, ◌<◌, ◌≤◌, Bool, true, false, cond, List, [], ◌∷◌, ◌++◌, ◌∙◌, ap, ap₂, arith, drop, get_or, length, map, refl, subst, suc, sym, zero}
use Rattle.std.specs.Prelude.{All, IsPermutation, filter, nat_lt, not, sum_by}
use Rattle.std.specs.List.{AllZip, range_with_len}
use Rattle.std.proofs.lemmas.Bool.{ltb-false, lt-ltb, le-ltb}
use Rattle.std.proofs.lemmas.List.{append_assoc, get_or-map, length-drop, length-map, map-id}
use Rattle.std.proofs.lemmas.List.Elements.{All-cons, All-filter, All-map, filter-append, filter_passes}
use Rattle.std.proofs.lemmas.List.FromFn.{length-range_with_len}
use Rattle.std.proofs.lemmas.List.Sorted.{sum_by-IsPermutation}
use Rattle.std.proofs.lemmas.List.Sums.{sum_by-cons}
use Rattle.abi_base.specs.declared.data_layout.TargetDataLayout.{TargetDataLayout}
use Rattle.abi_base.specs.DataLayout.{IsLawfulDataLayout}
use Rattle.abi_scalar.specs.declared.layout_data.LayoutData.{LayoutData}
use Rattle.abi_scalar.specs.declared.variants.VariantLayout.{VariantLayout}
use Rattle.abi_scalar.specs.Lawful.{IsLawfulLayout}
use Rattle.abi_scalar.specs.Shape.{listed_order}
use Rattle.abi_univariant.specs.Fields.{greatest_align, greatest_size}
use Rattle.abi_univariant.specs.Placement.{source_order}
use Rattle.abi_univariant.proofs.Sorted.Sorting.{within_order}
use Rattle.abi_calc.specs.Coroutine.Layout.{whole_align}
use Rattle.abi_calc.specs.Coroutine.States.{HasFields, ranks_of, state_layout, state_layouts}
use Rattle.abi_calc.proofs.AtIndex.{left_at}
use Rattle.abi_calc.proofs.CoroutineLemmas.States.{kept_map, none_kept, range_split}
use Rattle.abi_calc.proofs.EnumLemmas.Lists.{align_small}
use Rattle.abi_calc.proofs.EnumLemmas.Tagged.{size_of_lists_small}

-- behind the fields before them, the first list has an offset for each promoted local
pub shared_count : (before count : ℕ) (offsets : List ℕ) → length offsets ≡ before + count → length (drop before offsets) ≡ count
shared_count before count offsets are = length-drop before offsets ∙ omega (arith, are)

-- ---- size and alignment

-- the greatest list is small
pub whole_small : {F V : Type 0} (dl : TargetDataLayout) (first : LayoutData F V) (lists : List (LayoutData F V)) → IsLawfulDataLayout dl → IsLawfulLayout dl first → All (IsLawfulLayout dl) lists
    → greatest_size (first ∷ lists) < 2 ^ 62
whole_small dl first lists law one all = size_of_lists_small dl (first ∷ lists) law (All-cons (IsLawfulLayout dl) first lists one all)

-- and the greatest alignment has its limit
pub whole_align_small : {F V : Type 0} (dl : TargetDataLayout) (first : LayoutData F V) (lists : List (LayoutData F V)) → IsLawfulLayout dl first → All (IsLawfulLayout dl) lists → whole_align first lists ≤ 29
whole_align_small dl first lists one all =
    subst (λ ls. greatest_align first.align.abi ls ≤ 29) (map-id lists) (align_small (λ l. l) dl first.align.abi lists one.limit all)

-- ---- the ranks that an order names

-- one for each that passes
abbrev pub weight : (p : ℕ → Bool) → ℕ → ℕ
weight p x = cond (p x) 1 0

kept_weight : (p : ℕ → Bool) (xs : List ℕ) → length (filter p xs) ≡ sum_by (weight p) xs
kept_weight p [] = refl
kept_weight p (x ∷ xs) = by (p x) (kept_weight p xs) ∙ sym (sum_by-cons (weight p) x xs)
  where
    by : (b : Bool) → length (filter p xs) ≡ sum_by (weight p) xs → length (cond b (x ∷ filter p xs) (filter p xs)) ≡ cond b 1 0 + sum_by (weight p) xs
    by true e = omega (arith, e)
    by false e = omega (arith, e)

-- an order keeps as many
kept_count : (p : ℕ → Bool) (xs ys : List ℕ) → IsPermutation xs ys → length (filter p ys) ≡ length (filter p xs)
kept_count p xs ys same = kept_weight p ys ∙ sum_by-IsPermutation (weight p) xs ys same ∙ sym (kept_weight p xs)

-- of the numbers from one on each is kept that isn't below it
all_kept : (low a n : ℕ) → low ≤ a → filter (λ k. not (nat_lt k low)) (range_with_len a n) ≡ range_with_len a n
all_kept low a zero h = refl
all_kept low a (suc n) h =
    ap (λ b. cond (not b) (a ∷ filter (λ k. not (nat_lt k low)) (range_with_len (a + 1) n)) (filter (λ k. not (nat_lt k low)) (range_with_len (a + 1) n))) (le-ltb a low h)
    ∙ ap (λ xs. a ∷ xs) (all_kept low (a + 1) n (omega (arith, h)))

-- so many numbers aren't below one
kept_range : (low n : ℕ) → length (filter (λ k. not (nat_lt k low)) (source_order (low + n))) ≡ n
kept_range low n =
    let none : filter (λ k. not (nat_lt k low)) (range_with_len 0 low) ≡ [] = none_kept (λ k. not (nat_lt k low)) low (λ k short. ap not (lt-ltb k low short)) in
    let start : 0 + low ≡ low = omega arith in
    ap (λ xs. length (filter (λ k. not (nat_lt k low)) xs)) (range_split 0 low n)
    ∙ ap length (filter-append (λ k. not (nat_lt k low)) (range_with_len 0 low) (range_with_len (0 + low) n)
    ∙ ap (λ xs. xs ++ filter (λ k. not (nat_lt k low)) (range_with_len (0 + low) n)) none
    ∙ ap (λ a. filter (λ k. not (nat_lt k low)) (range_with_len a n)) start ∙ all_kept low low n (omega arith))
    ∙ length-range_with_len low n

not_below : (k low : ℕ) → not (nat_lt k low) ≡ true → low ≤ k
not_below k low e = ltb-false k low (by (nat_lt k low) e)
  where
    by : (b : Bool) → not b ≡ true → b ≡ false
    by true e = absurd (cc)
    by false e = refl

module _ {F V : Type 0} (number : F → ℕ) (before count : ℕ) (first : LayoutData F V) (fits : HasFields number (before + count) first) where
  order_within : All (λ i. number i < before + count) (listed_order first.fields)
  order_within k d short =
      let low = within_order (before + count) (map number (listed_order first.fields)) fits.order k (number d) (omega (arith, short, length-map (listed_order first.fields) number)) in
      let read = get_or-map number (listed_order first.fields) k d (number d) short in
      omega (arith, low, read)

  -- the promoted locals have as many ranks in memory order as there are of them
  pub ranks_count : length (ranks_of number before (listed_order first.fields)) ≡ count
  ranks_count =
      length-map (filter (λ i. not (nat_lt (number i) before)) (listed_order first.fields)) (λ i. number i - before)
      ∙ sym (kept_map (λ k. not (nat_lt k before)) number (listed_order first.fields))
      ∙ kept_count (λ k. not (nat_lt k before)) (source_order (before + count)) (map number (listed_order first.fields)) fits.order
      ∙ kept_range before count

  -- and each is below that
  pub ranks_within : All (λ rank. rank < count) (ranks_of number before (listed_order first.fields))
  ranks_within =
      All-map (λ rank. rank < count) (λ i. number i - before) (filter (λ i. not (nat_lt (number i) before)) (listed_order first.fields))
      (λ k d short.
      (let low = All-filter (λ i. not (nat_lt (number i) before)) (λ i. number i < before + count) (listed_order first.fields) order_within k d short in
      let high = not_below (number (get_or (filter (λ i. not (nat_lt (number i) before)) (listed_order first.fields)) k d)) before (filter_passes (λ i. not (nat_lt (number i) before)) (listed_order first.fields) k d short) in
      omega (arith, low, high)))

-- ---- lists beside their states

-- each state has a list
pub zip_count : {A B : Type 0} (R : A → B → Type 0) (xs : List A) (ys : List B) → AllZip R xs ys → length xs ≡ length ys
zip_count R [] [] h = refl
zip_count R [] (y ∷ ys) h = elim h [ ]
zip_count R (x ∷ xs) [] h = elim h [ ]
zip_count R (x ∷ xs) (y ∷ ys) h = ap suc (zip_count R xs ys h.1)

-- the one at its place
pub zip_there : {A B : Type 0} (R : A → B → Type 0) (xs : List A) (ys : List B) (i : ℕ) (x : A) (y : B) → i < length ys → x ≡ get_or xs i x → y ≡ get_or ys i y → AllZip R xs ys → R x y
zip_there R xs [] i x y short first second h = absurd (omega arith)
zip_there R [] (b ∷ ys) i x y short first second h = elim h [ ]
zip_there R (a ∷ xs) (b ∷ ys) zero x y short first second h = subst (λ z. R z y) (sym first) (subst (R a) (sym second) h.0)
zip_there R (a ∷ xs) (b ∷ ys) (suc i) x y short first second h = zip_there R xs ys i x y (omega (arith, short)) first second h.1

module _ {F V L : Type 0} (at : ℕ → F) (number : F → ℕ) (before : ℕ) (promoted : List Bool) (first : LayoutData F V) (name : L → ℕ) where
  -- no list, no state
  pub layouts_none : (states : List (List ℕ)) → state_layouts at number before promoted first states [] ≡ []
  layouts_none [] = refl
  layouts_none (s ∷ ss) = refl

  -- one state more
  pub layouts_next : (done : List (VariantLayout F)) (n : ℕ) (states : List (List L)) (state : List L) (lists : List (LayoutData F V)) (list : LayoutData F V) (layout : VariantLayout F) (all : List (VariantLayout F))
      → n < length states → state ≡ get_or states n state → n < length lists → list ≡ get_or lists n list → layout ≡ state_layout at number before promoted first (map name state) list
      → done ++ state_layouts at number before promoted first (map (map name) (drop n states)) (drop n lists) ≡ all
      → (done ++ layout ∷ []) ++ state_layouts at number before promoted first (map (map name) (drop (n + 1) states)) (drop (n + 1) lists) ≡ all
  layouts_next done n states state lists list layout all short is within beside laid so =
      append_assoc done (layout ∷ []) (state_layouts at number before promoted first (map (map name) (drop (n + 1) states)) (drop (n + 1) lists))
      ∙ ap (λ v. done ++ v ∷ state_layouts at number before promoted first (map (map name) (drop (n + 1) states)) (drop (n + 1) lists)) laid
      ∙ sym (ap₂ (λ ss ls. done ++ state_layouts at number before promoted first (map (map name) ss) ls) (left_at states n state short is) (left_at lists n list within beside)) ∙ so
