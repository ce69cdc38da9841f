-- Bytes put at the places that runs cover, one place after another.
use Rattle.std.proofs.Common.{◌≡◌, ℕ, zero, suc, ◌+◌, ◌-◌, ◌<◌, ◌≤◌, ⊎_elim, List, [], ◌∷◌, length, drop, get_or, arith, refl, sym, ap, ◌∙◌, subst}
use Rattle.std.specs.Prelude.{Bool, true, false, ◌==◌, ◌&&◌, ◌||◌, ◌≢◌, ◌^◌, nat_lt}
use Rattle.std.specs.Cmp.Derive.{both_true}
use Rattle.std.proofs.Math.Bool.{or-false}
use Rattle.std.proofs.lemmas.Bool.{and_left, and_right, cases_Bool, cases_eq, cases_lt, eq-eqb, eqb-true, false_from_ne_true, le-ltb, lt-ltb, or_right}
use Rattle.std.proofs.lemmas.List.{drop_all, drop_more}
use Rattle.abi_tree.specs.Bytes.{one_if, picked_bytes, count_picked, put_if}
use Rattle.abi_tree.specs.Writing.{IsPutOver}
use Rattle.abi_index.specs.RangeSet.{AreMaximalRuns, is_in_ranges}
use Rattle.abi_index.proofs.RangeSetLemmas.{earlier}
use Rattle.abi_index.proofs.UncutLemmas.{none_below}
use Rattle.abi_tree.proofs.Places.MaximalLemmas.{behind_first, in_first}
use Rattle.abi_tree.proofs.Bytes.PutOverLemmas.{lt-more, put_like, put_none, put_one}

-- ---- how many places a test picks

-- of one place more
place_count-more : (p : ℕ → Bool) (k n : ℕ) → count_picked p k (suc n) ≡ count_picked p k n + one_if (p (k + n))
place_count-more p k zero =
    let here : k ≡ k + 0 = omega arith in
    omega (arith, ap (λ i. one_if (p i)) here)
place_count-more p k (suc n) =
    let there : k + 1 + n ≡ k + suc n = omega arith in
    omega (arith, place_count-more p (k + 1) n, ap (λ i. one_if (p i)) there)

place_count-next : (p : ℕ → Bool) (k j : ℕ) → j ≡ k + 1 → count_picked p 0 j ≡ count_picked p 0 k + one_if (p k)
place_count-next p k j e =
    let next : j ≡ suc k = omega arith in
    let here : 0 + k ≡ k = omega arith in
    ap (count_picked p 0) next ∙ place_count-more p 0 k ∙ ap (λ i. count_picked p 0 k + one_if (p i)) here

-- no more where none of the next places is picked
place_count-skip : (p : ℕ → Bool) (from n j : ℕ) → j ≡ from + n → ((i : ℕ) → from ≤ i → i < j → p i ≡ false) → count_picked p 0 j ≡ count_picked p 0 from
place_count-skip p from zero j e none = let same : j ≡ from = omega arith in ap (count_picked p 0) same
place_count-skip p from (suc n) j e none =
    let out : p (from + n) ≡ false = none (from + n) (omega arith) (omega arith) in
    omega (arith, place_count-next p (from + n) j (omega arith), ap one_if out, place_count-skip p from n (from + n) refl (λ i le lt. none i le (omega arith)))

-- ---- the byte of a picked place

put_if-at : (t : Bool) (x : ℕ) (rest : List ℕ) (n : ℕ) → get_or (put_if t x rest) (one_if t + n) 0 ≡ get_or rest n 0
put_if-at true x rest n = let next : 1 + n ≡ suc n = omega arith in ap (λ i. get_or (x ∷ rest) i 0) next
put_if-at false x rest n = let same : 0 + n ≡ n = omega arith in ap (λ i. get_or rest i 0) same

put_if-below : (t : Bool) (x : ℕ) (rest : List ℕ) (n : ℕ) → n < length rest → one_if t + n < length (put_if t x rest)
put_if-below true x rest n lt = omega arith
put_if-below false x rest n lt = omega arith

-- the byte of a picked place is among those picked, behind as many as the test picks before it
pub picked-at : (p : ℕ → Bool) (k m : ℕ) (b : List ℕ) → p (k + m) ≡ true → m < length b → get_or (picked_bytes p k b) (count_picked p k m) 0 ≡ get_or b m 0
picked-at p k m [] place lt = absurd (omega arith)
picked-at p k zero (x ∷ b) place lt =
    let here : k + 0 ≡ k = omega arith in
    ap (λ t. get_or (put_if t x (picked_bytes p (k + 1) b)) 0 0) (subst (λ i. p i ≡ true) here place)
picked-at p k (suc m) (x ∷ b) place lt =
    let there : k + suc m ≡ k + 1 + m = omega arith in
    put_if-at (p k) x (picked_bytes p (k + 1) b) (count_picked p (k + 1) m) ∙ picked-at p (k + 1) m b (subst (λ i. p i ≡ true) there place) (omega arith)

picked-below : (p : ℕ → Bool) (k m : ℕ) (b : List ℕ) → p (k + m) ≡ true → m < length b → count_picked p k m < length (picked_bytes p k b)
picked-below p k m [] place lt = absurd (omega arith)
picked-below p k zero (x ∷ b) place lt =
    let here : k + 0 ≡ k = omega arith in
    let whole = ap (λ t. length (put_if t x (picked_bytes p (k + 1) b))) (subst (λ i. p i ≡ true) here place) in
    omega (arith, whole)
picked-below p k (suc m) (x ∷ b) place lt =
    let there : k + suc m ≡ k + 1 + m = omega arith in
    put_if-below (p k) x (picked_bytes p (k + 1) b) (count_picked p (k + 1) m) (picked-below p (k + 1) m b (subst (λ i. p i ≡ true) there place) (omega arith))

-- ---- places before one place

-- no other places where none is picked between
pub before_skip : (p : ℕ → Bool) (from start : ℕ) → from ≤ start → ((i : ℕ) → from ≤ i → i < start → p i ≡ false) → (j : ℕ) → (p j && nat_lt j from) ≡ (p j && nat_lt j start)
before_skip p from start le none j =
    ⊎_elim
    (λ lt. ap (λ t. p j && t) (lt-ltb j from lt ∙ sym (lt-ltb j start (omega arith))))
    (λ past.
    ⊎_elim
    (λ between. let out : p j ≡ false = none j past between in and_left (p j) (nat_lt j from) out ∙ sym (and_left (p j) (nat_lt j start) out))
    (λ behind. ap (λ t. p j && t) (le-ltb j from past ∙ sym (le-ltb j start behind)))
    (cases_lt j start))
    (cases_lt j from)

-- one more
pub before_more : (p : ℕ → Bool) (k : ℕ) → p k ≡ true → (j : ℕ) → ((p j && nat_lt j k) || (j == k)) ≡ (p j && nat_lt j (k + 1))
before_more p k place j =
    ⊎_elim
    (λ same. or_right (p j && nat_lt j k) (j == k) (eq-eqb j k same) ∙ sym (both_true (ap p same ∙ place) (lt-ltb j (k + 1) (omega arith))))
    (λ other.
    let out : (j == k) ≡ false = false_from_ne_true (j == k) (λ e. other (eqb-true j k e)) in
    let below : nat_lt j k ≡ nat_lt j (k + 1) = sym (or-false (nat_lt j k)) ∙ ap (λ t. nat_lt j k || t) (sym out) ∙ lt-more j k in
    ap (λ t. (p j && nat_lt j k) || t) out ∙ or-false (p j && nat_lt j k) ∙ ap (λ t. p j && t) below)
    (cases_eq j k)

-- all, where none is picked from there on
pub before_all_left : (p : ℕ → Bool) (from : ℕ) → ((i : ℕ) → from ≤ i → p i ≡ false) → (j : ℕ) → (p j && nat_lt j from) ≡ p j
before_all_left p from none j =
    ⊎_elim
    (λ lt. ⊎_elim (λ e. both_true e (lt-ltb j from lt) ∙ sym e) (λ e. and_left (p j) (nat_lt j from) e ∙ sym e) (cases_Bool (p j)))
    (λ past. and_right (p j) (nat_lt j from) (le-ltb j from past) ∙ sym (none j past))
    (cases_lt j from)

-- ---- what is put before one place

-- the picked bytes before place k were put, and they were so many
abbrev pub PutBefore : (p : ℕ → Bool) (at size : ℕ) (content old now : List ℕ) (next k : ℕ) → Type 0
PutBefore p at size content old now next k =
    (b : List ℕ) → length b ≡ size → content ≡ picked_bytes p 0 b → IsPutOver (λ j. p j && nat_lt j k) at b old now × (next ≡ count_picked p 0 k)

module _ (p : ℕ → Bool) (at size : ℕ) (content old : List ℕ) where
  -- at first nothing
  pub PutBefore-first : PutBefore p at size content old old 0 0
  PutBefore-first = λ b long same.
      (put_like (λ k. false) (λ k. p k && nat_lt k 0) at b old old (λ k. sym (and_right (p k) (nat_lt k 0) (le-ltb k 0 (omega arith)))) (put_none at b old), refl)

  -- on to a later place, where none is picked between
  pub PutBefore-skip : (now : List ℕ) (next from start : ℕ) → from ≤ start → ((i : ℕ) → from ≤ i → i < start → p i ≡ false) →
      PutBefore p at size content old now next from → PutBefore p at size content old now next start
  PutBefore-skip now next from start le none before = λ b long same.
      let h = before b long same in (
        put_like (λ j. p j && nat_lt j from) (λ j. p j && nat_lt j start) at b old now (before_skip p from start le none) h.0,
        h.1 ∙ sym (place_count-skip p from (start - from) start (omega arith) none),
      )

  module _ (now : List ℕ) (next k : ℕ) (place : p k ≡ true) (inside : k < size) (before : PutBefore p at size content old now next k) where
    -- with the byte of this place
    pub PutBefore-more : (new : List ℕ) → length new ≡ length now → get_or new (at + k) 0 ≡ get_or content next 0 → ((j : ℕ) → j ≢ at + k → get_or new j 0 ≡ get_or now j 0) →
        PutBefore p at size content old new (next + 1) (k + 1)
    PutBefore-more new long_now here other = λ b long same.
        let h = before b long same in
        let lt : k < length b = omega (arith, long) in
        let zero_on : k ≡ 0 + k = omega arith in
        let byte : get_or content next 0 ≡ get_or b k 0 =
        ap (λ c. get_or c next 0) same ∙ ap (λ i. get_or (picked_bytes p 0 b) i 0) h.1 ∙ picked-at p 0 k b (subst (λ i. p i ≡ true) zero_on place) lt in
        let more : next + 1 ≡ count_picked p 0 (k + 1) = omega (arith, h.1, place_count-next p k (k + 1) refl, ap one_if place) in (
          put_like (λ j. (p j && nat_lt j k) || (j == k)) (λ j. p j && nat_lt j (k + 1)) at b old new (before_more p k place)
              (put_one (λ j. p j && nat_lt j k) at k b old now new lt h.0 long_now (here ∙ byte) other),
          more,
        )

    -- the content has no end before it
    pub PutBefore-there : (new : List ℕ) → length content ≤ next → PutBefore p at size content old new next (k + 1)
    PutBefore-there new past = λ b long same.
        let h = before b long same in
        let zero_on : k ≡ 0 + k = omega arith in
        let below = picked-below p 0 k b (subst (λ i. p i ≡ true) zero_on place) (omega (arith, long)) in
        absurd (omega (arith, past, below, h.1, ap length same))

  -- all, where none is picked from there on
  pub PutBefore-all : (now : List ℕ) (next from : ℕ) → ((i : ℕ) → from ≤ i → p i ≡ false) → PutBefore p at size content old now next from →
      (b : List ℕ) → length b ≡ size → content ≡ picked_bytes p 0 b → IsPutOver p at b old now
  PutBefore-all now next from none before = λ b long same. put_like (λ j. p j && nat_lt j from) p at b old now (before_all_left p from none) (before b long same).0

-- ---- the runs that are left

-- The runs from the i-th on begin at this byte or later, and no other run has bytes from there on.
pub record AreLeft (runs : List (ℕ × ℕ)) (i from : ℕ) : Type 0 where
  pub later : AreMaximalRuns from (drop i runs)
  pub beside : (k : ℕ) → from ≤ k → is_in_ranges runs k ≡ is_in_ranges (drop i runs) k

module _ (runs : List (ℕ × ℕ)) (i from : ℕ) (d : ℕ × ℕ) (left : AreLeft runs i from) (lt : i < length runs) where
  abbrev run : ℕ × ℕ
  run = get_or runs i d

  ascends : AreMaximalRuns from (run ∷ drop (i + 1) runs)
  ascends = subst (AreMaximalRuns from) (drop_more runs i d lt) left.later

  seen : (k : ℕ) → from ≤ k → is_in_ranges runs k ≡ is_in_ranges (run ∷ drop (i + 1) runs) k
  seen k le = left.beside k le ∙ ap (λ rs. is_in_ranges rs k) (drop_more runs i d lt)

  -- the next run begins there or later
  pub left-before : from ≤ run.0
  left-before = ascends.0

  -- and ends where 64 bits can tell it
  pub left-ends : run.0 + run.1 < 2 ^ 64
  left-ends = ascends.2

  -- no run has what lies before the next
  pub left-free : (k : ℕ) → from ≤ k → k < run.0 → is_in_ranges runs k ≡ false
  left-free k le below = seen k le ∙ none_below run.0 (run ∷ drop (i + 1) runs) k (omega arith, ascends.1, ascends.2, ascends.3) below

  -- the next run has its own bytes
  pub left-covered : (k : ℕ) → run.0 ≤ k → k < run.0 + run.1 → is_in_ranges runs k ≡ true
  left-covered k le below = seen k (omega (arith, left-before)) ∙ in_first run.0 run.1 (drop (i + 1) runs) k le below

  -- which lie in a whole that it ends in
  pub left-inside : (size k : ℕ) → run.0 + run.1 ≤ size → run.0 ≤ k → k < run.0 + run.1 → (is_in_ranges runs k ≡ true) × (k < size)
  left-inside size k ends le below = (left-covered k le below, omega arith)

  -- behind it the later ones are left
  pub AreLeft-more : AreLeft runs (i + 1) (run.0 + run.1)
  AreLeft-more = record {
    later = earlier (run.0 + run.1) (run.0 + run.1 + 1) (drop (i + 1) runs) (omega arith) ascends.3;
    beside = λ k le. seen k (omega (arith, left-before)) ∙ behind_first run.0 run.1 (drop (i + 1) runs) k le;
  }

-- no run has what lies behind the last
pub left-none : (runs : List (ℕ × ℕ)) (i from : ℕ) → AreLeft runs i from → length runs ≤ i → (k : ℕ) → from ≤ k → is_in_ranges runs k ≡ false
left-none runs i from left done k le = left.beside k le ∙ ap (λ rs. is_in_ranges rs k) (drop_all i runs done)
