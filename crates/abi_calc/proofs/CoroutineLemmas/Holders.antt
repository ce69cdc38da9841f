-- Which states hold the locals of a coroutine, found state after state.
use Rattle.std.proofs.Common.{◌≡◌, ℕ, zero, suc, ◌+◌, ◌-◌, ◌<◌, ◌≤◌, ◌==◌, ◌||◌, ◌&&◌, ◌⊎◌, not, Bool, true, false, List, [], ◌∷◌, ap, arith, cond, drop, filter, get_or, inl, inr, length, map, nat_lt, refl, subst, sym, take, ◌∙◌}
use Rattle.std.specs.Prelude.{if◌then◌else◌}
use Rattle.std.proofs.lemmas.Bool.{eq-eqb, le-ltb, lt-ltb, ne_eqb}
use Rattle.std.proofs.lemmas.List.{drop_more, get_or-map, take_all}
use Rattle.std.proofs.lemmas.List.Filters.{length-filter_more}
use Rattle.std.proofs.lemmas.List.FromFn.{fill_by_all, length-map-range_with_len}
use Rattle.abi_index.specs.AscendingList.{has_number}
use Rattle.abi_index.specs.BitSet.{is_member}
use Rattle.abi_calc.specs.Coroutine.Promotion.{held_by_several, holder_count, holder_of, holders_of}

-- the numbers of the list that was read at a place
pub numbers_there : {A : Type 0} (number : A → ℕ) (states : List (List A)) (i : ℕ) (item shown : List A) → i < length states → item ≡ get_or states i item → shown ≡ item
    → map number shown ≡ get_or (map (map number) states) i []
numbers_there number states i item shown within is same = ap (map number) (same ∙ is) ∙ sym (get_or-map (map number) states i item [] within)

-- ---- the first holders, from the last state to the first

-- of the states behind the place and the one before these, the first that holds a local
first_before : (state : List ℕ) (later : List (List ℕ)) (place k old new : ℕ) → 0 < place → old ≡ place + holder_of later k → new ≡ (if has_number state k then place - 1 else old)
    → new ≡ place - 1 + holder_of (state ∷ later) k
first_before state later place k old new some before is = by (has_number state k) is
  where
    by : (b : Bool) → new ≡ (if b then place - 1 else old) → new ≡ place - 1 + (if b then 0 else holder_of later k + 1)
    by true here = omega (arith, here)
    by false there = omega (arith, there, before)

-- one state more, which stands before the others
pub first_step : (states : List (List ℕ)) (state : List ℕ) (place k old new : ℕ) → 0 < place → place ≤ length states → state ≡ get_or states (place - 1) [] → old ≡ place + holder_of (drop place states) k
    → new ≡ (if has_number state k then place - 1 else old) → new ≡ place - 1 + holder_of (drop (place - 1) states) k
first_step states state place k old new some within is before noted =
    let short : place - 1 < length states = omega arith in
    let next : place - 1 + 1 ≡ place = omega arith in
    let split : drop (place - 1) states ≡ state ∷ drop place states = rw (drop_more states (place - 1) [] short, next, ← is) in
    rw split (first_before state (drop place states) place k old new some before noted)

-- all states
pub first_all : (states : List (List ℕ)) (holders : List ℕ) (count place : ℕ) → place ≤ 0 → length holders ≡ count
    → ((k : ℕ) → k < count → get_or holders k 0 ≡ place + holder_of (drop place states) k) → holders ≡ holders_of states count
first_all states holders count place none size noted =
    let zeroth : place ≡ 0 = omega arith in
    fill_by_all (holder_of states) holders count 0 size (λ k within. omega (arith, subst (λ p. get_or holders k 0 ≡ p + holder_of (drop p states) k) zeroth (noted k within)))

-- how many locals they are of
pub holders_size : (states : List (List ℕ)) (count : ℕ) (holders : List ℕ) → holders ≡ holders_of states count → length holders ≡ count
holders_size states count holders are = ap length are ∙ length-map-range_with_len (holder_of states) 0 count

-- ---- the locals that several states hold

-- a local's first holder is one of the first states, or it is that of the others
first_or_later : (states : List (List ℕ)) (i k : ℕ) → i ≤ length states
    → ((holder_of states k < i) × (0 < holder_count (take i states) k)) ⊎ ((holder_of states k ≡ i + holder_of (drop i states) k) × (holder_count (take i states) k ≡ 0))
first_or_later states zero k within = inr (omega arith, refl)
first_or_later [] (suc i) k within = absurd (omega (arith, within))
first_or_later (state ∷ states) (suc i) k within = by (has_number state k) (first_or_later states i k (omega (arith, within)))
  where
    by : (b : Bool) → ((holder_of states k < i) × (0 < holder_count (take i states) k)) ⊎ ((holder_of states k ≡ i + holder_of (drop i states) k) × (holder_count (take i states) k ≡ 0))
        → (((if b then 0 else holder_of states k + 1) < suc i) × (0 < length (cond b (state ∷ filter (λ s. has_number s k) (take i states)) (filter (λ s. has_number s k) (take i states)))))
        ⊎ (((if b then 0 else holder_of states k + 1) ≡ suc i + holder_of (drop i states) k) × (length (cond b (state ∷ filter (λ s. has_number s k) (take i states)) (filter (λ s. has_number s k) (take i states))) ≡ 0))
    by true rest = inl (omega arith, omega arith)
    by false rest = elim rest [
      | inl early ↦ inl (omega (arith, early.0), early.1)
      | inr late ↦ inr (omega (arith, late.0), late.1)
    ]

or_false : (b : Bool) → (b || false) ≡ b
or_false true = refl
or_false false = refl

or_true : (b : Bool) → (b || true) ≡ true
or_true true = refl
or_true false = refl

-- one state more
pub several_step : (states : List (List ℕ)) (state : List ℕ) (i k holder : ℕ) (old new : Bool) → i < length states → state ≡ get_or states i [] → holder ≡ holder_of states k
    → old ≡ nat_lt 1 (holder_count (take i states) k) → new ≡ (old || (has_number state k && not (holder == i))) → new ≡ nat_lt 1 (holder_count (take (i + 1) states) k)
several_step states state i k holder old new within is first before after =
    let more : holder_count (take (i + 1) states) k ≡ holder_count (take i states) k + cond (has_number state k) 1 0
    = length-filter_more (λ s. has_number s k) states i [] within ∙ rw (← is) refl in
    let split : drop i states ≡ state ∷ drop (i + 1) states = rw (drop_more states i [] within, ← is) in
    rw more (by (has_number state k) refl after split)
  where
    by : (b : Bool) → has_number state k ≡ b → new ≡ (old || (b && not (holder == i))) → drop i states ≡ state ∷ drop (i + 1) states
        → new ≡ nat_lt 1 (holder_count (take i states) k + cond b 1 0)
    by false absent is split =
        let same : holder_count (take i states) k + 0 ≡ holder_count (take i states) k = omega arith in
        rw same (is ∙ or_false old ∙ before)
    by true held is split =
        elim (first_or_later states i k (omega (arith, within))) [
          | inl early ↦
              let other : (holder == i) ≡ false = ne_eqb holder i (λ e. omega (arith, e, first, early.0)) in
              let here : new ≡ true = is ∙ rw other (or_true old) in
              here ∙ sym (lt-ltb 1 (holder_count (take i states) k + 1) (omega (arith, early.1)))
          | inr late ↦
              let zeroth : holder_of (drop i states) k ≡ 0 = rw (split, held) in
              let same : (holder == i) ≡ true = eq-eqb holder i (omega (arith, first, late.0, zeroth)) in
              let none : nat_lt 1 (holder_count (take i states) k) ≡ false = le-ltb 1 (holder_count (take i states) k) (omega (arith, late.1)) in
              let here : new ≡ false = is ∙ rw same (or_false old ∙ before ∙ none) in
              here ∙ sym (le-ltb 1 (holder_count (take i states) k + 1) (omega (arith, late.1)))
        ]

-- all states
pub several_all : (states : List (List ℕ)) (set : List Bool) (count i : ℕ) → length states ≤ i → length set ≡ count
    → ((k : ℕ) → k < count → is_member set k ≡ nat_lt 1 (holder_count (take i states) k)) → set ≡ held_by_several states count
several_all states set count i all size members =
    fill_by_all (λ k. nat_lt 1 (holder_count states k)) set count false size (λ k within. members k within ∙ rw (take_all i states all) refl)

-- how many locals the set is of
pub several_size : (states : List (List ℕ)) (count : ℕ) → length (held_by_several states count) ≡ count
several_size states count = length-map-range_with_len (λ local. nat_lt 1 (holder_count states local)) 0 count
