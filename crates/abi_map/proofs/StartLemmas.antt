-- Where runs begin.
use Rattle.std.proofs.Common.{◌≡◌, ℕ, zero, suc, ◌+◌, ◌-◌, ◌<◌, ◌≤◌, List, [], ◌∷◌, ◌++◌, Bool, true, false, All, append-nil, arith, get_or, inl, inr, length, map, refl, subst, sym, ap, ◌∙◌, take}
use Rattle.std.specs.Prelude.{◌⊎◌, ◌&&◌, ◌||◌, ◌==◌, ◌^◌, not, nat_le, nat_lt, cond}
use Rattle.std.specs.List.{filter, flat_map, list_any, range_with_len}
use Rattle.std.specs.Cmp.Derive.{both_true}
use Rattle.std.proofs.lemmas.Bool.{cases_lt, eq-eqb, ne_eqb, le-leb, le-ltb, lt-ltb}
use Rattle.std.proofs.lemmas.Grind.{flat_map-append}
use Rattle.std.proofs.lemmas.List.{map-append, map-id, take_more}
use Rattle.std.proofs.lemmas.List.FromFn.{map-range_with_len_more}
use Rattle.std.proofs.lemmas.List.Folds.{list_any-append}
use Rattle.std.proofs.Math.Bool.{and-false, or-false}
use Rattle.abi_index.specs.RangeSet.{AreMaximalRuns, is_in_ranges, is_in_run}
use Rattle.abi_index.specs.Runs.{Adds, moved_to}
use Rattle.abi_index.proofs.RangeSetLemmas.{earlier}
use Rattle.abi_index.proofs.RunsLemmas.{moved-zero}
use Rattle.abi_index.proofs.UncutLemmas.{none_below}
use Rattle.abi_tree.specs.declared.parts.PartBytes.{PartBytes}
use Rattle.abi_map.specs.Covering.{AreAscending}
use Rattle.abi_map.specs.Numbers.{AddsBelow, numbers}
use Rattle.abi_tree.specs.Parts.{Part, kept_part}
use Rattle.abi_map.specs.Starts.{changes, had, is_start}

-- ---- runs that end below a number

pub ends_below : (size low : ℕ) (runs : List (ℕ × ℕ)) → AreMaximalRuns low runs → ((k : ℕ) → size ≤ k → is_in_ranges runs k ≡ false) → All (λ run. run.0 + run.1 ≤ size) runs
ends_below size low runs maximal none = λ i d lt. by runs low maximal none i d lt
  where
    by : (runs : List (ℕ × ℕ)) (low : ℕ) → AreMaximalRuns low runs → ((k : ℕ) → size ≤ k → is_in_ranges runs k ≡ false) → (i : ℕ) (d : ℕ × ℕ) → i < length runs → (get_or runs i d).0 + (get_or runs i d).1 ≤ size
    by [] low maximal none i d lt = absurd (omega (arith, lt))
    by (run ∷ rest) low maximal none zero d lt = elim (cases_lt size (run.0 + run.1)) [
      | inl past ↦
          let last : ℕ = run.0 + run.1 - 1 in
          let in_it : is_in_run last run ≡ true = both_true (le-leb run.0 last (omega (arith, maximal.1))) (lt-ltb last (run.0 + run.1) (omega (arith, maximal.1))) in
          let clash : true ≡ false = sym (ap (λ b. b || is_in_ranges rest last) in_it) ∙ none last (omega (arith, past)) in
          absurd (cc)
      | inr within ↦ within
    ]
    by (run ∷ rest) low maximal none (suc i) d lt = by rest (run.0 + run.1 + 1) maximal.3 (λ k le. rest_none (is_in_run k run) (is_in_ranges rest k) (none k le)) i d (omega (arith, lt))
      where
        rest_none : (a b : Bool) → (a || b) ≡ false → b ≡ false
        rest_none true b e = absurd (cc)
        rest_none false b e = e

-- ---- one part

-- below the size a cut set moved on by one is the whole one
cut_moved : (size k : ℕ) (bytes has : ℕ → Bool) → k < size → ((j : ℕ) → bytes j ≡ (nat_lt j size && has j)) → moved_to 1 bytes k ≡ moved_to 1 has k
cut_moved size k bytes has lt same = ap (λ b. nat_le 1 k && b) (same (k - 1) ∙ ap (λ b. b && has (k - 1)) (lt-ltb (k - 1) size (omega (arith, lt))))

-- the sets that are collected end where 64 bits can tell it
pub cut_fits : (size : ℕ) (cut : List (ℕ × ℕ)) (has : ℕ → Bool) → size ≤ 65536 → AreMaximalRuns 0 cut → ((k : ℕ) → is_in_ranges cut k ≡ (nat_lt k size && has k)) → All (λ run. 1 + (run.0 + run.1) < 2 ^ 64) cut
cut_fits size cut has few maximal same i d lt = omega (arith, few, ends_below size 0 cut maximal (λ k le. same k ∙ ap (λ b. b && has k) (le-ltb k size le)) i d lt)

pub begins_fit : (size : ℕ) (cut begins : List (ℕ × ℕ)) (has other : ℕ → Bool) → size ≤ 65536 → AreMaximalRuns 0 begins → ((k : ℕ) → is_in_ranges cut k ≡ (nat_lt k size && has k))
    → ((k : ℕ) → is_in_ranges begins k ≡ (is_in_ranges cut k && other k)) → All (λ run. 0 + (run.0 + run.1) < 2 ^ 64) begins
begins_fit size cut begins has other few maximal is_cut same i d lt =
    omega (arith, few, ends_below size 0 begins maximal (λ k le. same k ∙ ap (λ b. b && other k) (is_cut k ∙ ap (λ b. b && has k) (le-ltb k size le))) i d lt)

pub ends_fit : (size : ℕ) (cut late before ends none : List (ℕ × ℕ)) (has other : ℕ → Bool) → size ≤ 65536 → AreMaximalRuns 0 ends → ((k : ℕ) → is_in_ranges cut k ≡ (nat_lt k size && has k))
    → none ≡ [] → Adds none late (moved_to 1 (is_in_ranges cut)) → ((k : ℕ) → is_in_ranges before k ≡ is_in_ranges late k) → ((k : ℕ) → is_in_ranges ends k ≡ (is_in_ranges before k && other k))
    → All (λ run. 0 + (run.0 + run.1) < 2 ^ 64) ends
ends_fit size cut late before ends none has other few maximal is_cut empty is_late is_before same i d lt =
    omega (
      arith,
      few,
      ends_below (size + 1) 0 ends maximal
          (λ k le. same k ∙ ap (λ b. b && other k) (is_before k ∙ is_late k ∙ ap (λ rs. is_in_ranges rs k || moved_to 1 (is_in_ranges cut) k) empty
          ∙ ap (λ b. nat_le 1 k && b) (is_cut (k - 1) ∙ ap (λ b. b && has (k - 1)) (le-ltb (k - 1) size (omega (arith, le)))) ∙ and-false (nat_le 1 k))) i d lt,
    )

-- what has changed is put in
pub changes_put : (size : ℕ) (part : Part) (cut late before begins ends none old middle new : List (ℕ × ℕ)) → none ≡ [] → ((k : ℕ) → is_in_ranges cut k ≡ (nat_lt k size && part.has k))
    → Adds none late (moved_to 1 (is_in_ranges cut)) → ((k : ℕ) → is_in_ranges before k ≡ is_in_ranges late k) → ((k : ℕ) → is_in_ranges begins k ≡ (is_in_ranges cut k && not (is_in_ranges before k)))
    → ((k : ℕ) → is_in_ranges ends k ≡ (is_in_ranges before k && not (is_in_ranges cut k))) → Adds old middle (moved_to 0 (is_in_ranges begins)) → Adds middle new (moved_to 0 (is_in_ranges ends))
    → AddsBelow size old new (changes part)
changes_put size part cut late before begins ends none old middle new empty is_cut is_late is_before is_begin is_end first next k lt =
    let here : is_in_ranges cut k ≡ part.has k = is_cut k ∙ ap (λ b. b && part.has k) (lt-ltb k size lt) in
    let earlier_too : is_in_ranges before k ≡ had part k = is_before k ∙ is_late k ∙ ap (λ rs. is_in_ranges rs k || moved_to 1 (is_in_ranges cut) k) empty ∙ cut_moved size k (is_in_ranges cut) part.has lt is_cut in
    let begin : moved_to 0 (is_in_ranges begins) k ≡ (part.has k && not (had part k)) =
    moved-zero (is_in_ranges begins) k ∙ is_begin k ∙ ap (λ b. b && not (is_in_ranges before k)) here ∙ ap (λ b. part.has k && not b) earlier_too in
    let end : moved_to 0 (is_in_ranges ends) k ≡ (had part k && not (part.has k)) =
    moved-zero (is_in_ranges ends) k ∙ is_end k ∙ ap (λ b. b && not (is_in_ranges cut k)) earlier_too ∙ ap (λ b. had part k && not b) here in
    next k ∙ ap (λ b. b || moved_to 0 (is_in_ranges ends) k) (first k) ∙ ap (λ b. (is_in_ranges old k || b) || moved_to 0 (is_in_ranges ends) k) begin
    ∙ ap (λ b. (is_in_ranges old k || (part.has k && not (had part k))) || b) end ∙ or_assoc (is_in_ranges old k) (part.has k && not (had part k)) (had part k && not (part.has k))
  where
    or_assoc : (a b c : Bool) → ((a || b) || c) ≡ (a || (b || c))
    or_assoc true b c = refl
    or_assoc false b c = refl

-- ---- all parts

-- below the size the runs have the first byte, and the bytes at which one of these parts changes
abbrev pub HasStarts : (size : ℕ) → List PartBytes → List (ℕ × ℕ) → Type 0
HasStarts size parts runs = (k : ℕ) → k < size → is_in_ranges runs k ≡ is_start (map kept_part parts) k

pub starts_none : (size : ℕ) (none runs : List (ℕ × ℕ)) → none ≡ [] → Adds none runs (moved_to 0 (λ k. nat_lt k 1)) → HasStarts size [] runs
starts_none size none runs empty adds k lt = adds k ∙ ap (λ rs. is_in_ranges rs k || moved_to 0 (λ k. nat_lt k 1) k) empty ∙ moved-zero (λ k. nat_lt k 1) k ∙ first k ∙ sym (or-false (k == 0))
  where
    first : (k : ℕ) → nat_lt k 1 ≡ (k == 0)
    first k = elim (cases_lt 0 k) [
      | inl some ↦ le-ltb k 1 (omega (arith, some)) ∙ sym (ne_eqb k 0 (λ e. omega (arith, some, e)))
      | inr none ↦ lt-ltb k 1 (omega (arith, none)) ∙ sym (eq-eqb k 0 (omega (arith, none)))
    ]

pub starts_more : (size : ℕ) (parts : List PartBytes) (i : ℕ) (d : PartBytes) (old new : List (ℕ × ℕ)) → i < length parts → HasStarts size (take i parts) old
    → AddsBelow size old new (changes (kept_part (get_or parts i d))) → HasStarts size (take (i + 1) parts) new
starts_more size parts i d old new lt inv adds k below =
    let test = λ (part : Part). changes part k in
    let front : List Part = map kept_part (take i parts) in
    let last : Part = kept_part (get_or parts i d) in
    adds k below ∙ ap (λ b. b || changes last k) (inv k below) ∙ or_assoc (k == 0) (list_any test front) (changes last k)
    ∙ ap (λ b. (k == 0) || b) (ap (λ b. list_any test front || b) (sym (or-false (changes last k))) ∙ sym (list_any-append test front (last ∷ [])))
    ∙ ap (λ xs. is_start xs k) (sym (map-append kept_part (take i parts) (get_or parts i d ∷ []))) ∙ ap (λ xs. is_start (map kept_part xs) k) (sym (take_more parts i d lt))
  where
    or_assoc : (a b c : Bool) → ((a || b) || c) ≡ (a || (b || c))
    or_assoc true b c = refl
    or_assoc false b c = refl

-- cut at the size they are the starts
pub starts_cut : (size : ℕ) (parts : List PartBytes) (runs built set : List (ℕ × ℕ)) → HasStarts size parts runs → ((k : ℕ) → is_in_ranges built k ≡ is_in_ranges runs k)
    → ((k : ℕ) → is_in_ranges set k ≡ (nat_lt k size && is_in_ranges built k)) → (k : ℕ) → is_in_ranges set k ≡ (nat_lt k size && is_start (map kept_part parts) k)
starts_cut size parts runs built set has is_built is_cut k = is_cut k ∙ by (cases_lt k size)
  where
    by : (k < size) ⊎ (size ≤ k) → (nat_lt k size && is_in_ranges built k) ≡ (nat_lt k size && is_start (map kept_part parts) k)
    by (inl below) = ap (λ b. nat_lt k size && b) (is_built k ∙ has k below)
    by (inr past) = ap (λ b. b && is_in_ranges built k) (le-ltb k size past) ∙ sym (ap (λ b. b && is_start (map kept_part parts) k) (le-ltb k size past))

-- ---- one by one

pub numbers_more : (runs : List (ℕ × ℕ)) (i : ℕ) (d : ℕ × ℕ) → i < length runs → (numbers (take i runs) ++ range_with_len (get_or runs i d).0 (get_or runs i d).1) ≡ numbers (take (i + 1) runs)
numbers_more runs i d lt =
    let f = λ (run : ℕ × ℕ). range_with_len run.0 run.1 in
    sym (ap (flat_map f) (take_more runs i d lt) ∙ flat_map-append f (take i runs) (get_or runs i d ∷ []) ∙ ap (λ ns. flat_map f (take i runs) ++ ns) (append-nil (range_with_len (get_or runs i d).0 (get_or runs i d).1)))

module _ (p : ℕ → Bool) where
  -- the runs have those of the n bytes from a byte on that the test picks, and none behind these
  abbrev Picks : (low n : ℕ) → List (ℕ × ℕ) → Type 0
  Picks low n runs = ((k : ℕ) → low ≤ k → k < low + n → is_in_ranges runs k ≡ p k) × ((k : ℕ) → low + n ≤ k → is_in_ranges runs k ≡ false)

  next_picks : (low n : ℕ) (runs rest : List (ℕ × ℕ)) → Picks low (suc n) runs → ((k : ℕ) → low < k → is_in_ranges rest k ≡ is_in_ranges runs k) → Picks (low + 1) n rest
  next_picks low n runs rest picks same = (
    λ k le lt. same k (omega arith) ∙ picks.0 k (omega arith) (omega arith),
    λ k le. same k (omega arith) ∙ picks.1 k (omega arith),
  )

  picked : (low n : ℕ) → p low ≡ true → (xs : List ℕ) → xs ≡ filter p (range_with_len (low + 1) n) → low ∷ xs ≡ filter p (range_with_len low (suc n))
  picked low n takes xs e = ap (λ ys. low ∷ ys) e ∙ ap (λ b. cond b (low ∷ filter p (range_with_len (low + 1) n)) (filter p (range_with_len (low + 1) n))) (sym takes)

  left_out : (low n : ℕ) → p low ≡ false → (xs : List ℕ) → xs ≡ filter p (range_with_len (low + 1) n) → xs ≡ filter p (range_with_len low (suc n))
  left_out low n leaves xs e = e ∙ ap (λ b. cond b (low ∷ filter p (range_with_len (low + 1) n)) (filter p (range_with_len (low + 1) n))) (sym leaves)

  -- the first byte of the first run
  has_first : (run : ℕ × ℕ) (rest : List (ℕ × ℕ)) → 0 < run.1 → is_in_ranges (run ∷ rest) run.0 ≡ true
  has_first run rest some = ap (λ b. b || is_in_ranges rest run.0) (both_true (le-leb run.0 run.0 (omega arith)) (lt-ltb run.0 (run.0 + run.1) (omega (arith, some))))

  -- the first run begins at the first byte
  begun : (n low size : ℕ) (rest : List (ℕ × ℕ)) → 0 < size → low + size < 2 ^ 64 → AreMaximalRuns (low + size + 1) rest → Picks low (suc n) ((low, size) ∷ rest)
      → ((runs : List (ℕ × ℕ)) → AreMaximalRuns (low + 1) runs → Picks (low + 1) n runs → numbers runs ≡ filter p (range_with_len (low + 1) n))
      → numbers ((low, size) ∷ rest) ≡ filter p (range_with_len low (suc n))
  begun n low zero rest some fits maximal picks others = absurd (omega (arith, some))
  begun n low (suc zero) rest some fits maximal picks others =
      let yes : p low ≡ true = sym (picks.0 low (omega arith) (omega arith)) ∙ has_first (low, 1) rest (omega arith) in
      picked low n yes (numbers rest)
      (others rest (earlier (low + 1) (low + 1 + 1) rest (omega arith) maximal)
      (next_picks low n ((low, 1) ∷ rest) rest picks (λ k lt. sym (ap (λ b. (nat_le low k && b) || is_in_ranges rest k) (le-ltb k (low + 1) (omega (arith, lt))) ∙ ap (λ b. b || is_in_ranges rest k) (and-false (nat_le low k))))))
  begun n low (suc (suc m)) rest some fits maximal picks others =
      let yes : p low ≡ true = sym (picks.0 low (omega arith) (omega arith)) ∙ has_first (low, suc (suc m)) rest (omega arith) in
      let end : low + suc (suc m) ≡ low + 1 + suc m = omega arith in
      picked low n yes (numbers ((low + 1, suc m) ∷ rest))
      (others ((low + 1, suc m) ∷ rest) (omega arith, omega arith, omega (arith, fits), subst (λ e. AreMaximalRuns (e + 1) rest) end maximal)
      (next_picks low n ((low, suc (suc m)) ∷ rest) ((low + 1, suc m) ∷ rest) picks
      (λ k lt. ap (λ b. (b && nat_lt k (low + 1 + suc m)) || is_in_ranges rest k) (le-leb (low + 1) k (omega (arith, lt)) ∙ sym (le-leb low k (omega (arith, lt))))
      ∙ ap (λ e. (nat_le low k && nat_lt k e) || is_in_ranges rest k) (sym end))))

  numbers_from : (n low : ℕ) (runs : List (ℕ × ℕ)) → AreMaximalRuns low runs → Picks low n runs → numbers runs ≡ filter p (range_with_len low n)
  numbers_from zero low [] maximal picks = refl
  numbers_from zero low (run ∷ rest) maximal picks =
      let clash : true ≡ false = sym (has_first run rest maximal.1) ∙ picks.1 run.0 (omega (arith, maximal.0)) in
      absurd (cc)
  numbers_from (suc n) low [] maximal picks =
      left_out low n (sym (picks.0 low (omega arith) (omega arith))) [] (numbers_from n (low + 1) [] tt (next_picks low n [] [] picks (λ k lt. refl)))
  numbers_from (suc n) low (run ∷ rest) maximal picks = elim (cases_lt low run.0) [
    | inl later ↦
        let none : is_in_ranges (run ∷ rest) low ≡ false = none_below run.0 (run ∷ rest) low (omega arith, maximal.1, maximal.2, maximal.3) later in
        left_out low n (sym (picks.0 low (omega arith) (omega arith)) ∙ none) (numbers (run ∷ rest))
        (numbers_from n (low + 1) (run ∷ rest) (omega (arith, later), maximal.1, maximal.2, maximal.3) (next_picks low n (run ∷ rest) (run ∷ rest) picks (λ k lt. refl)))
    | inr reached ↦
        let here : run.0 ≡ low = omega (arith, maximal.0, reached) in
        subst (λ m. numbers ((m, run.1) ∷ rest) ≡ filter p (range_with_len low (suc n))) (sym here)
        (begun n low run.1 rest maximal.1 (subst (λ m. m + run.1 < 2 ^ 64) here maximal.2) (subst (λ m. AreMaximalRuns (m + run.1 + 1) rest) here maximal.3)
        (subst (λ m. Picks low (suc n) ((m, run.1) ∷ rest)) here picks) (numbers_from n (low + 1)))
  ]

-- the bytes of maximal runs, one by one, are those that the test picks
pub numbers_are : (p : ℕ → Bool) (n : ℕ) (runs : List (ℕ × ℕ)) → AreMaximalRuns 0 runs → ((k : ℕ) → is_in_ranges runs k ≡ (nat_lt k n && p k)) → numbers runs ≡ filter p (range_with_len 0 n)
numbers_are p n runs maximal same =
    numbers_from p n 0 runs maximal
    (λ k le lt. same k ∙ ap (λ b. b && p k) (lt-ltb k n (omega arith)), λ k le. same k ∙ ap (λ b. b && p k) (le-ltb k n (omega arith)))

-- one more byte of a run
pub range_more : (a k : ℕ) → a ≤ k → range_with_len a (k - a) ++ k ∷ [] ≡ range_with_len a (k + 1 - a)
range_more a k le =
    let end : a + (k - a) ≡ k = omega arith in
    let long : k - a + 1 ≡ k + 1 - a = omega arith in
    sym (ap (range_with_len a) (sym long) ∙ sym (map-id (range_with_len a (k - a + 1))) ∙ map-range_with_len_more (λ j. j) a (k - a) k end ∙ ap (λ xs. xs ++ k ∷ []) (map-id (range_with_len a (k - a))))

-- ---- those that are picked ascend

picked_from : (p : ℕ → Bool) (n low j : ℕ) → j < length (filter p (range_with_len low n)) → low ≤ get_or (filter p (range_with_len low n)) j 0
picked_from p zero low j lt = absurd (omega (arith, lt))
picked_from p (suc n) low j lt = by (p low) (filter p (range_with_len (low + 1) n)) (picked_from p n (low + 1)) j lt
  where
    by : (b : Bool) (rest : List ℕ) → ((j : ℕ) → j < length rest → low + 1 ≤ get_or rest j 0) → (j : ℕ) → j < length (cond b (low ∷ rest) rest) → low ≤ get_or (cond b (low ∷ rest) rest) j 0
    by true rest later zero lt = omega arith
    by true rest later (suc j) lt = omega (arith, later j (omega (arith, lt)))
    by false rest later j lt = omega (arith, later j lt)

pub picked_ascend : (p : ℕ → Bool) (n low : ℕ) → AreAscending (filter p (range_with_len low n))
picked_ascend p zero low i j lt within = absurd (omega (arith, within))
picked_ascend p (suc n) low i j lt within = by (p low) (filter p (range_with_len (low + 1) n)) (picked_from p n (low + 1)) (picked_ascend p n (low + 1)) i j lt within
  where
    by : (b : Bool) (rest : List ℕ) → ((j : ℕ) → j < length rest → low + 1 ≤ get_or rest j 0) → AreAscending rest → AreAscending (cond b (low ∷ rest) rest)
    by true rest later asc i zero lt within = absurd (omega (arith, lt))
    by true rest later asc zero (suc j) lt within = omega (arith, later j (omega (arith, within)))
    by true rest later asc (suc i) (suc j) lt within = asc i j (omega (arith, lt)) (omega (arith, within))
    by false rest later asc i j lt within = asc i j lt within
