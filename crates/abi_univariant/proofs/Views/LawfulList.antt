-- A list's view is lawful, and its niche agrees with it.
use Rattle.std.proofs.Common.{◌≡◌, ℕ, zero, suc, ◌+◌, ◌^◌, ◌<◌, ◌≤◌, ◌==◌, Bool, true, false, List, [], ◌∷◌, Option, None, Some, inl, inr, length, get_or, refl, sym, ap, subst, ◌∙◌, arith, ⊎_elim, nat_lt, eqb-true}
use Rattle.std.specs.Prelude.{◌⊎◌, ◌&&◌, not, All, IfSome, filter, if◌then◌else◌}
use Rattle.std.specs.Int.{next_multiple_of}
use Rattle.std.proofs.lemmas.List.Elements.{All-head, All-tail}
use Rattle.std.proofs.lemmas.List.FromFn.{length-range_with_len, get_or-range_with_len}
use Rattle.abi_base.specs.declared.data_layout.TargetDataLayout.{TargetDataLayout}
use Rattle.abi_base.specs.DataLayout.{size_bound}
use Rattle.abi_scalar.specs.declared.backend_repr.BackendRepr.{BackendRepr}
use Rattle.abi_scalar.specs.declared.backend_repr.BackendRepr.TheVariants.{Scalar as OneScalar, ScalarPair, SimdScalableVector, SimdVector, Memory}
use Rattle.abi_scalar.specs.declared.layout_data.LayoutData.{LayoutData}
use Rattle.abi_scalar.specs.declared.niche.Niche.{Niche}
use Rattle.abi_scalar.specs.declared.scalar.Scalar.{Scalar}
use Rattle.abi_scalar.specs.declared.scalar.Scalar.TheVariants.{Initialized}
use Rattle.abi_scalar.specs.declared.variants.Variants.TheVariants.{Single}
use Rattle.abi_scalar.specs.Lawful.{IsLawfulLayout, IsLawfulNiche, IsLawfulView, IsNicheOfView}
use Rattle.abi_scalar.specs.Pair.{pair_align, pair_size, second_offset}
use Rattle.abi_scalar.specs.Scalar.{scalar_align, scalar_size}
use Rattle.abi_univariant.specs.declared.part.Part.{Part}
use Rattle.abi_univariant.specs.ListNiche.{IsNicheAt}
use Rattle.abi_univariant.specs.ListView.{any_unsized, bulky_parts, bulky_view, is_bulky, kept_view, list_view, one_view, pair_view, part_at, two_view}
use Rattle.abi_univariant.specs.Part.{is_empty_view}
use Rattle.abi_univariant.specs.LawfulPart.{IsLawfulPart}
use Rattle.abi_univariant.specs.Placement.{no_part, source_order}
use Rattle.abi_univariant.proofs.Views.NicheLemmas.{IsNicheOfIndex, readable_size, weaken_niche}
use Rattle.abi_univariant.proofs.Offsets.Rounding.{rounded_to}
use Rattle.abi_univariant.proofs.Placed.SourceLemmas.{StandsIn}
use Rattle.abi_univariant.proofs.Views.ViewLemmas.{bulky_within}

-- ---- tests

first_of_and : (a b : Bool) → (a && b) ≡ true → a ≡ true
first_of_and true b e = refl
first_of_and false b e = cc

second_of_and : (a b : Bool) → (a && b) ≡ true → b ≡ true
second_of_and true b e = e
second_of_and false b e = cc

-- what holds of both branches, the first where the test holds
pub by_test : (b : Bool) {A : Type 0} (P : A → Type 0) (x y : A) → (b ≡ true → P x) → P y → P (if b then x else y)
by_test true P x y hx hy = hx refl
by_test false P x y hx hy = hy

-- ---- the view is lawful

kept_lawful : (dl : TargetDataLayout) (fixed : Bool) (size : ℕ) (v : BackendRepr) → IsLawfulView dl size v → IsLawfulView dl size (kept_view fixed v)
kept_lawful dl true size (OneScalar s) h = tt
kept_lawful dl false size (OneScalar s) h = h
kept_lawful dl fixed size (ScalarPair a b o) h = h
kept_lawful dl fixed size (SimdScalableVector e c n) h = tt
kept_lawful dl true size (SimdVector e c) h = tt
kept_lawful dl false size (SimdVector e c) h = h
kept_lawful dl fixed size (Memory sized) h = tt

one_lawful : (dl : TargetDataLayout) (fixed : Bool) (size align offset : ℕ) (p : Part) → IsLawfulPart dl p → IsLawfulView dl size (one_view fixed size align offset p)
one_lawful dl fixed size align offset p law =
    by_test ((offset == 0) && (align == p.align) && (size == p.size)) (IsLawfulView dl size) (kept_view fixed p.view) (Memory true)
    (λ e. let same : size ≡ p.size = eqb-true size p.size (second_of_and ((offset == 0) && (align == p.align)) (size == p.size) e) in
    rw same (kept_lawful dl fixed p.size p.view law.view)) tt

pub pair_lawful : (dl : TargetDataLayout) (size align low high : ℕ) (a b : Scalar) → IsLawfulView dl (scalar_size dl a) (OneScalar a) → IsLawfulView dl (scalar_size dl b) (OneScalar b)
    → IsLawfulView dl size (pair_view dl size align low a high b)
pair_lawful dl size align low high a b ha hb =
    by_test ((low == 0) && (high == second_offset dl a b) && (align == pair_align dl a b) && (size == pair_size dl a b)) (IsLawfulView dl size) (ScalarPair a b (second_offset dl a b)) (Memory true)
    (λ e. let same : size ≡ pair_size dl a b = eqb-true size (pair_size dl a b) (second_of_and ((low == 0) && (high == second_offset dl a b) && (align == pair_align dl a b)) (size == pair_size dl a b) e) in
    let after : scalar_size dl a ≤ second_offset dl a b = (rounded_to (scalar_size dl a) (scalar_align dl b)).above in
    let inside : second_offset dl a b + scalar_size dl b ≤ pair_size dl a b = (rounded_to (second_offset dl a b + scalar_size dl b) (pair_align dl a b)).above in
    (ha.0, hb.0, after, omega (arith, same, inside))) tt

scalar_lawful : (dl : TargetDataLayout) (size : ℕ) (s : Scalar) → IsLawfulView dl size (OneScalar s) → IsLawfulView dl (scalar_size dl s) (OneScalar s)
scalar_lawful dl size s h = (h.0, refl)

two_lawful : (dl : TargetDataLayout) (size align first second m n : ℕ) (v w : BackendRepr) → IsLawfulView dl m v → IsLawfulView dl n w → IsLawfulView dl size (two_view dl size align first v second w)
two_lawful dl size align first second m n (OneScalar a) (OneScalar b) hv hw =
    by_test (nat_lt first second) (IsLawfulView dl size) (pair_view dl size align first a second b) (pair_view dl size align second b first a)
    (λ e. pair_lawful dl size align first second a b (scalar_lawful dl m a hv) (scalar_lawful dl n b hw))
    (pair_lawful dl size align second first b a (scalar_lawful dl n b hw) (scalar_lawful dl m a hv))
two_lawful dl size align first second m n (OneScalar a) (ScalarPair x y o) hv hw = tt
two_lawful dl size align first second m n (OneScalar a) (SimdScalableVector e c k) hv hw = tt
two_lawful dl size align first second m n (OneScalar a) (SimdVector e c) hv hw = tt
two_lawful dl size align first second m n (OneScalar a) (Memory sized) hv hw = tt
two_lawful dl size align first second m n (ScalarPair x y o) w hv hw = tt
two_lawful dl size align first second m n (SimdScalableVector e c k) w hv hw = tt
two_lawful dl size align first second m n (SimdVector e c) w hv hw = tt
two_lawful dl size align first second m n (Memory sized) w hv hw = tt

bulky_lawful : (dl : TargetDataLayout) (fixed : Bool) (size align : ℕ) (parts : List Part) (offsets bulky : List ℕ) → All (IsLawfulPart dl) parts → All (λ i. i < length parts) bulky
    → IsLawfulView dl size (bulky_view dl fixed size align parts offsets bulky)
bulky_lawful dl fixed size align parts offsets [] law within = tt
bulky_lawful dl fixed size align parts offsets (i ∷ []) law within =
    one_lawful dl fixed size align (get_or offsets i 0) (part_at parts i) (law i no_part (All-head (λ i. i < length parts) i [] within))
bulky_lawful dl fixed size align parts offsets (i ∷ j ∷ []) law within =
    let one : IsLawfulPart dl (part_at parts i) = law i no_part (All-head (λ i. i < length parts) i (j ∷ []) within) in
    let other : IsLawfulPart dl (part_at parts j) = law j no_part (All-head (λ i. i < length parts) j [] (All-tail (λ i. i < length parts) i (j ∷ []) within)) in
    two_lawful dl size align (get_or offsets i 0) (get_or offsets j 0) (part_at parts i).size (part_at parts j).size (part_at parts i).view (part_at parts j).view one.view other.view
bulky_lawful dl fixed size align parts offsets (i ∷ j ∷ k ∷ more) law within = tt

pub list_view_lawful : (dl : TargetDataLayout) (fixed : Bool) (size align : ℕ) (parts : List Part) (offsets : List ℕ) → All (IsLawfulPart dl) parts
    → IsLawfulView dl size (list_view dl fixed size align parts offsets)
list_view_lawful dl fixed size align parts offsets law =
    by_test (any_unsized parts) (IsLawfulView dl size) (Memory false) (if size == 0 then Memory true else bulky_view dl fixed size align parts offsets (bulky_parts parts)) (λ e. tt)
    (by_test (size == 0) (IsLawfulView dl size) (Memory true) (bulky_view dl fixed size align parts offsets (bulky_parts parts)) (λ e. tt)
    (bulky_lawful dl fixed size align parts offsets (bulky_parts parts) law (bulky_within parts)))

-- ---- the niche is the view's

-- a niche at a part's start is the part's own
move_niche : (v : BackendRepr) (own : Option Niche) (n : Niche) → IsNicheAt 0 own n → IfSome own (IsNicheOfView v) → IsNicheOfView v n
move_niche v None n h w = absurd h
move_niche (OneScalar s) (Some o) n h w = let at : n.offset ≡ 0 + o.offset = h.0 in let value : n.value ≡ o.value = h.1 in let range : n.valid_range ≡ o.valid_range = h.2 in
    let zero_at : o.offset ≡ 0 = w.0 in let is : s ≡ Initialized o.value o.valid_range = w.1 in (omega arith, rw (value, range) is)
move_niche (ScalarPair a b off) (Some o) n h (inl w) = let at : n.offset ≡ 0 + o.offset = h.0 in let value : n.value ≡ o.value = h.1 in let range : n.valid_range ≡ o.valid_range = h.2 in
    let zero_at : o.offset ≡ 0 = w.0 in let is : a ≡ Initialized o.value o.valid_range = w.1 in inl (omega arith, rw (value, range) is)
move_niche (ScalarPair a b off) (Some o) n h (inr w) = let at : n.offset ≡ 0 + o.offset = h.0 in let value : n.value ≡ o.value = h.1 in let range : n.valid_range ≡ o.valid_range = h.2 in
    let there : o.offset ≡ off = w.0 in let is : b ≡ Initialized o.value o.valid_range = w.1 in inr (omega arith, rw (value, range) is)
move_niche (SimdScalableVector e c k) (Some o) n h w = tt
move_niche (SimdVector e c) (Some o) n h w = tt
move_niche (Memory sized) (Some o) n h w = tt

-- a scalar's niche, wherever it lies
scalar_niche : (s : Scalar) (offset : ℕ) (own : Option Niche) (n : Niche) → IsNicheAt offset own n → IfSome own (IsNicheOfView (OneScalar s)) → (n.offset ≡ offset) × (s ≡ Initialized n.value n.valid_range)
scalar_niche s offset None n h w = absurd h
scalar_niche s offset (Some o) n h w = let at : n.offset ≡ offset + o.offset = h.0 in let value : n.value ≡ o.value = h.1 in let range : n.valid_range ≡ o.valid_range = h.2 in
    let zero_at : o.offset ≡ 0 = w.0 in let is : s ≡ Initialized o.value o.valid_range = w.1 in (omega arith, rw (value, range) is)

kept_niche : (fixed : Bool) (v : BackendRepr) (n : Niche) → IsNicheOfView v n → IsNicheOfView (kept_view fixed v) n
kept_niche true (OneScalar s) n h = tt
kept_niche false (OneScalar s) n h = h
kept_niche fixed (ScalarPair a b o) n h = h
kept_niche fixed (SimdScalableVector e c k) n h = tt
kept_niche true (SimdVector e c) n h = tt
kept_niche false (SimdVector e c) n h = tt
kept_niche fixed (Memory sized) n h = tt

one_niche : (fixed : Bool) (size align offset : ℕ) (p : Part) (n : Niche) → IfSome p.largest_niche (IsNicheOfView p.view) → IsNicheAt offset p.largest_niche n → IsNicheOfView (one_view fixed size align offset p) n
one_niche fixed size align offset p n w h =
    by_test ((offset == 0) && (align == p.align) && (size == p.size)) (λ v. IsNicheOfView v n) (kept_view fixed p.view) (Memory true)
    (λ e. let zero_at : offset ≡ 0 = eqb-true offset 0 (first_of_and (offset == 0) (align == p.align) (first_of_and ((offset == 0) && (align == p.align)) (size == p.size) e)) in
    kept_niche fixed p.view n (move_niche p.view p.largest_niche n (subst (λ (o : ℕ). IsNicheAt o p.largest_niche n) zero_at h) w)) tt

pair_niche : (dl : TargetDataLayout) (size align low high : ℕ) (a b : Scalar) (n : Niche)
    → ((n.offset ≡ low) × (a ≡ Initialized n.value n.valid_range)) ⊎ ((n.offset ≡ high) × (b ≡ Initialized n.value n.valid_range)) → IsNicheOfView (pair_view dl size align low a high b) n
pair_niche dl size align low high a b n h =
    by_test ((low == 0) && (high == second_offset dl a b) && (align == pair_align dl a b) && (size == pair_size dl a b)) (λ v. IsNicheOfView v n) (ScalarPair a b (second_offset dl a b)) (Memory true)
    (λ e. let three = first_of_and ((low == 0) && (high == second_offset dl a b) && (align == pair_align dl a b)) (size == pair_size dl a b) e in
    let two = first_of_and ((low == 0) && (high == second_offset dl a b)) (align == pair_align dl a b) three in
    let at_low : low ≡ 0 = eqb-true low 0 (first_of_and (low == 0) (high == second_offset dl a b) two) in
    let at_high : high ≡ second_offset dl a b = eqb-true high (second_offset dl a b) (second_of_and (low == 0) (high == second_offset dl a b) two) in
    ⊎_elim (λ (x : (n.offset ≡ low) × (a ≡ Initialized n.value n.valid_range)). inl (x.0 ∙ at_low, x.1)) (λ (y : (n.offset ≡ high) × (b ≡ Initialized n.value n.valid_range)). inr (y.0 ∙ at_high, y.1)) h) tt

-- the niche is that of one of two parts
two_niche : (dl : TargetDataLayout) (size align first second : ℕ) (v w : BackendRepr) (p q : Option Niche) (n : Niche) → IfSome p (IsNicheOfView v) → IfSome q (IsNicheOfView w)
    → IsNicheAt first p n ⊎ IsNicheAt second q n → IsNicheOfView (two_view dl size align first v second w) n
two_niche dl size align first second (OneScalar a) (OneScalar b) p q n hp hq (inl h) =
    by_test (nat_lt first second) (λ v. IsNicheOfView v n) (pair_view dl size align first a second b) (pair_view dl size align second b first a)
    (λ e. pair_niche dl size align first second a b n (inl (scalar_niche a first p n h hp))) (pair_niche dl size align second first b a n (inr (scalar_niche a first p n h hp)))
two_niche dl size align first second (OneScalar a) (OneScalar b) p q n hp hq (inr h) =
    by_test (nat_lt first second) (λ v. IsNicheOfView v n) (pair_view dl size align first a second b) (pair_view dl size align second b first a)
    (λ e. pair_niche dl size align first second a b n (inr (scalar_niche b second q n h hq))) (pair_niche dl size align second first b a n (inl (scalar_niche b second q n h hq)))
two_niche dl size align first second (OneScalar a) (ScalarPair x y o) p q n hp hq h = tt
two_niche dl size align first second (OneScalar a) (SimdScalableVector e c k) p q n hp hq h = tt
two_niche dl size align first second (OneScalar a) (SimdVector e c) p q n hp hq h = tt
two_niche dl size align first second (OneScalar a) (Memory sized) p q n hp hq h = tt
two_niche dl size align first second (ScalarPair x y o) w p q n hp hq h = tt
two_niche dl size align first second (SimdScalableVector e c k) w p q n hp hq h = tt
two_niche dl size align first second (SimdVector e c) w p q n hp hq h = tt
two_niche dl size align first second (Memory sized) w p q n hp hq h = tt

not_zero : (n : ℕ) (b : Bool) → (n == 0) ≡ b → 1 ≤ n → not (n == 0) ≡ true
not_zero n true e h = let none : n ≡ 0 = eqb-true n 0 e in absurd (omega arith)
not_zero n false e h = rw e refl

-- a part with a niche has bytes
empty_not : (v : BackendRepr) (size : ℕ) → 1 ≤ size → not (is_empty_view v size) ≡ true
empty_not (OneScalar s) size h = refl
empty_not (ScalarPair a b o) size h = refl
empty_not (SimdScalableVector e c k) size h = refl
empty_not (SimdVector e c) size h = refl
empty_not (Memory true) zero h = absurd (omega arith)
empty_not (Memory true) (suc size) h = not_zero (suc size) (suc size == 0) refl h
empty_not (Memory false) size h = refl

niche_bulky : (dl : TargetDataLayout) (p : Part) (own : Option Niche) (offset : ℕ) (n : Niche) → IfSome own (IsLawfulNiche dl p.size) → IsNicheAt offset own n → is_bulky p ≡ true
niche_bulky dl p None offset n h at = absurd at
niche_bulky dl p (Some o) offset n h at = let r = readable_size dl o.value h.pointer in empty_not p.view p.size (omega (arith, h.inside, r.1))

-- what stands in a list and meets the test stands among those that meet it
filter_has : (P : ℕ → Bool) (xs : List ℕ) (k : ℕ) → P k ≡ true → StandsIn xs k → StandsIn (filter P xs) k
filter_has P [] k e s = absurd (omega (arith, s.1))
filter_has P (x ∷ xs) k e (zero, short, same) = kept_first (P x) (ap P same ∙ e) x k (filter P xs) same
  where
    kept_first : (b : Bool) → b ≡ true → (x k : ℕ) (ys : List ℕ) → x ≡ k → StandsIn (if b then x ∷ ys else ys) k
    kept_first true e x k ys same = (0, omega arith, same)
    kept_first false e x k ys same = cc
filter_has P (x ∷ xs) k e (suc a, short, same) = kept_later (P x) x k (filter P xs) (filter_has P xs k e (a, omega arith, same))
  where
    kept_later : (b : Bool) (x k : ℕ) (ys : List ℕ) → StandsIn ys k → StandsIn (if b then x ∷ ys else ys) k
    kept_later true x k ys s = (suc s.0, omega (arith, s.1), s.2)
    kept_later false x k ys s = s

source_stands : (n k : ℕ) → k < n → StandsIn (source_order n) k
source_stands n k short = (k, omega (arith, length-range_with_len 0 n), get_or-range_with_len 0 n k 0 short ∙ (omega arith))

pub niche_among : (dl : TargetDataLayout) (parts : List Part) (offsets : List ℕ) (n : Niche) → All (IsLawfulPart dl) parts → (h : IsNicheOfIndex offsets parts n) → StandsIn (bulky_parts parts) h.index
niche_among dl parts offsets n law h =
    let one : IsLawfulPart dl (part_at parts h.index) = law h.index no_part h.within in
    filter_has (λ i. is_bulky (part_at parts i)) (source_order (length parts)) h.index
    (niche_bulky dl (part_at parts h.index) (part_at parts h.index).largest_niche (get_or offsets h.index 0) n one.niche h.own) (source_stands (length parts) h.index h.within)

stands_one : (i k : ℕ) → StandsIn (i ∷ []) k → i ≡ k
stands_one i k (zero, short, same) = same
stands_one i k (suc a, short, same) = absurd (omega arith)

stands_two : (i j k : ℕ) → StandsIn (i ∷ j ∷ []) k → (i ≡ k) ⊎ (j ≡ k)
stands_two i j k (zero, short, same) = inl same
stands_two i j k (suc zero, short, same) = inr same
stands_two i j k (suc (suc a), short, same) = absurd (omega arith)

bulky_niche : (dl : TargetDataLayout) (fixed : Bool) (size align : ℕ) (parts : List Part) (offsets bulky : List ℕ) (n : Niche) (k : ℕ) → All (IsLawfulPart dl) parts → All (λ i. i < length parts) bulky
    → IsNicheAt (get_or offsets k 0) (part_at parts k).largest_niche n → StandsIn bulky k → IsNicheOfView (bulky_view dl fixed size align parts offsets bulky) n
bulky_niche dl fixed size align parts offsets [] n k law within at s = tt
bulky_niche dl fixed size align parts offsets (i ∷ []) n k law within at s =
    let same : k ≡ i = sym (stands_one i k s) in
    let one : IsLawfulPart dl (part_at parts i) = law i no_part (All-head (λ i. i < length parts) i [] within) in
    one_niche fixed size align (get_or offsets i 0) (part_at parts i) n one.niche_of_view (subst (λ (x : ℕ). IsNicheAt (get_or offsets x 0) (part_at parts x).largest_niche n) same at)
bulky_niche dl fixed size align parts offsets (i ∷ j ∷ []) n k law within at s =
    let one : IsLawfulPart dl (part_at parts i) = law i no_part (All-head (λ i. i < length parts) i (j ∷ []) within) in
    let other : IsLawfulPart dl (part_at parts j) = law j no_part (All-head (λ i. i < length parts) j [] (All-tail (λ i. i < length parts) i (j ∷ []) within)) in
    two_niche dl size align (get_or offsets i 0) (get_or offsets j 0) (part_at parts i).view (part_at parts j).view (part_at parts i).largest_niche (part_at parts j).largest_niche n one.niche_of_view other.niche_of_view
    (⊎_elim (λ (e : i ≡ k). inl (subst (λ (x : ℕ). IsNicheAt (get_or offsets x 0) (part_at parts x).largest_niche n) (sym e) at))
    (λ (e : j ≡ k). inr (subst (λ (x : ℕ). IsNicheAt (get_or offsets x 0) (part_at parts x).largest_niche n) (sym e) at)) (stands_two i j k s))
bulky_niche dl fixed size align parts offsets (i ∷ j ∷ m ∷ more) n k law within at s = tt

pub list_view_niche : (dl : TargetDataLayout) (fixed : Bool) (size align : ℕ) (parts : List Part) (offsets : List ℕ) (n : Niche) → All (IsLawfulPart dl) parts → IsNicheOfIndex offsets parts n
    → IsNicheOfView (list_view dl fixed size align parts offsets) n
list_view_niche dl fixed size align parts offsets n law h =
    by_test (any_unsized parts) (λ v. IsNicheOfView v n) (Memory false) (if size == 0 then Memory true else bulky_view dl fixed size align parts offsets (bulky_parts parts)) (λ e. tt)
    (by_test (size == 0) (λ v. IsNicheOfView v n) (Memory true) (bulky_view dl fixed size align parts offsets (bulky_parts parts)) (λ e. tt)
    (bulky_niche dl fixed size align parts offsets (bulky_parts parts) n h.index law (bulky_within parts) h.own (niche_among dl parts offsets n law h)))

-- a list's layout, by its parts
pub made_lawful : {F V : Type 0} (dl : TargetDataLayout) (layout : LayoutData F V) (first : V) (last align : ℕ) (fixed : Bool) (parts : List Part) (offsets : List ℕ)
    → All (IsLawfulPart dl) parts → layout.align.abi ≡ align → align ≤ 29 → layout.size ≡ next_multiple_of last (2 ^ align) → layout.size < size_bound dl
    → IfSome layout.largest_niche (IsLawfulNiche dl layout.size) → IfSome layout.largest_niche (IsNicheOfIndex offsets parts)
    → layout.backend_repr ≡ list_view dl fixed layout.size align parts offsets → layout.variants ≡ Single first → IsLawfulLayout dl layout
made_lawful dl layout first last align fixed parts offsets law aligned small size bound niche index view variants = record {
  multiple = rw (size, aligned) (rounded_to last align).multiple;
  bound = bound;
  limit = rw aligned small;
  niche = niche;
  view = rw view (list_view_lawful dl fixed layout.size align parts offsets law);
  niche_of_view = rw view (weaken_niche (IsNicheOfIndex offsets parts) (IsNicheOfView (list_view dl fixed layout.size align parts offsets)) layout.largest_niche (λ n h. list_view_niche dl fixed layout.size align parts offsets n law h) index);
  tag = rw variants tt;
}
