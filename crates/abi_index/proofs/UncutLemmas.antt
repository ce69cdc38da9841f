-- What cuts leave of a run of bytes.
use Rattle.std.proofs.Common.{◌≡◌, ℕ, ◌+◌, ◌-◌, ◌<◌, ◌≤◌, ◌^◌, ◌&&◌, ◌||◌, not, Bool, true, false, List, [], ◌∷◌, length, nat_lt, nat_le, min, max, zero, arith, refl, sym, ap, ◌∙◌, inl, inr, take, drop, get_or, suc, subst, drop-cons}
use Rattle.std.proofs.lemmas.Bool.{cases_lt, lt-ltb, le-ltb, le-leb, lt-leb, and_right}
use Rattle.std.proofs.Math.Bool.{and-false, and-true}
use Rattle.std.proofs.lemmas.List.{take-append-drop, take_more}
use Rattle.std.proofs.lemmas.List.Folds.{list_any-append}
use Rattle.abi_index.specs.RangeSet.{is_in_run, is_in_ranges, AreMaximalRuns, EndBy}
use Rattle.abi_index.proofs.RangeSetLemmas.{earlier}

-- whether a byte is one of those from a byte up to another, and in none of the cuts
abbrev pub is_uncut : ℕ → ℕ → ℕ → List (ℕ × ℕ) → Bool
is_uncut k start to cuts = is_in_run k (start, to - start) && not (is_in_ranges cuts k)

-- no byte below them is in runs
pub none_below : (low : ℕ) (runs : List (ℕ × ℕ)) (k : ℕ) → AreMaximalRuns low runs → k < low → is_in_ranges runs k ≡ false
none_below low [] k maximal below = refl
none_below low (run ∷ runs) k maximal below =
    rw (lt-leb run.0 k (omega (arith, maximal.0)), none_below (run.0 + run.1 + 1) runs k maximal.3 (omega (arith, maximal.0))) refl

-- a cut that ends by the last byte leaves what is before it and what the later cuts leave behind it
pub cut_within : (k start to : ℕ) (cut : ℕ × ℕ) (cuts : List (ℕ × ℕ)) → start ≤ to → cut.0 + cut.1 ≤ to → AreMaximalRuns 0 (cut ∷ cuts)
    → is_uncut k start to (cut ∷ cuts) ≡ (is_in_run k (start, min cut.0 to - start) || is_uncut k (max start (cut.0 + cut.1)) to cuts)
cut_within k start to cut cuts ascend ends maximal =
    elim (cases_lt k start) [
      | inl before ↦ rw (lt-leb start k before, lt-leb (max start (cut.0 + cut.1)) k (omega arith)) refl
      | inr after ↦ elim (cases_lt k cut.0) [
        | inl uncut ↦
            rw (
              le-leb start k after,
              lt-ltb k (start + (min cut.0 to - start)) (omega arith),
              lt-ltb k (start + (to - start)) (omega arith),
              lt-leb cut.0 k uncut,
              none_below (cut.0 + cut.1 + 1) cuts k maximal.3 (omega arith),
            ) refl
        | inr meets ↦ elim (cases_lt k (cut.0 + cut.1)) [
          | inl within ↦
              rw (
                le-leb start k after,
                le-ltb k (start + (min cut.0 to - start)) (omega arith),
                le-leb cut.0 k meets,
                lt-ltb k (cut.0 + cut.1) within,
                lt-leb (max start (cut.0 + cut.1)) k (omega arith),
              ) (and_right (nat_lt k (start + (to - start))) false refl)
          | inr behind ↦
              let one : start + (to - start) ≡ to = omega arith in
              let other : max start (cut.0 + cut.1) + (to - max start (cut.0 + cut.1)) ≡ to = omega arith in
              rw (
                le-leb start k after,
                le-ltb k (start + (min cut.0 to - start)) (omega arith),
                le-leb cut.0 k meets,
                le-ltb k (cut.0 + cut.1) behind,
                le-leb (max start (cut.0 + cut.1)) k (omega arith),
                one,
                other,
              ) refl
        ]
      ]
    ]

-- a cut that ends behind the last byte leaves only what is before it
pub cut_over_end : (k start to : ℕ) (cut : ℕ × ℕ) (cuts : List (ℕ × ℕ)) → start ≤ to → to < cut.0 + cut.1 → AreMaximalRuns 0 (cut ∷ cuts)
    → is_uncut k start to (cut ∷ cuts) ≡ is_in_run k (start, min cut.0 to - start)
cut_over_end k start to cut cuts ascend ends maximal =
    elim (cases_lt k start) [
      | inl before ↦ rw (lt-leb start k before) refl
      | inr after ↦ elim (cases_lt k to) [
        | inr past ↦ rw (le-leb start k after, le-ltb k (start + (min cut.0 to - start)) (omega arith), le-ltb k (start + (to - start)) (omega arith)) refl
        | inl below ↦ elim (cases_lt k cut.0) [
          | inl uncut ↦
              rw (
                le-leb start k after,
                lt-ltb k (start + (min cut.0 to - start)) (omega arith),
                lt-ltb k (start + (to - start)) (omega arith),
                lt-leb cut.0 k uncut,
                none_below (cut.0 + cut.1 + 1) cuts k maximal.3 (omega arith),
              ) refl
          | inr meets ↦
              rw (
                le-leb start k after,
                le-ltb k (start + (min cut.0 to - start)) (omega arith),
                le-leb cut.0 k meets,
                lt-ltb k (cut.0 + cut.1) (omega arith),
              ) (and_right (nat_lt k (start + (to - start))) false refl)
        ]
      ]
    ]

-- no cut leaves all
pub no_cut : (k start to : ℕ) → is_uncut k start to [] ≡ is_in_run k (start, to - start)
no_cut k start to = and-true (is_in_run k (start, to - start))

-- the cuts that end by the first byte take none away
pub cuts_passed : (k from to i : ℕ) (cuts : List (ℕ × ℕ)) → EndBy from (take i cuts) → is_uncut k from to cuts ≡ is_uncut k from to (drop i cuts)
cuts_passed k from to i cuts passed =
    elim (cases_lt k from) [
      | inl before ↦ rw (lt-leb from k before) refl
      | inr after ↦
          let apart : is_in_ranges cuts k ≡ is_in_ranges (drop i cuts) k =
          ap (λ whole. is_in_ranges whole k) (sym (take-append-drop i cuts)) ∙ list_any-append (is_in_run k) (take i cuts) (drop i cuts)
          ∙ ap (λ first. first || is_in_ranges (drop i cuts) k) (passed k after) in
          rw apart refl
    ]

-- one cut more ends by a byte
pub one_more_passed : (from end i : ℕ) (cuts : List (ℕ × ℕ)) (d : ℕ × ℕ) → i < length cuts → EndBy from (take i cuts) → from ≤ end
    → (get_or cuts i d).0 + (get_or cuts i d).1 ≤ end → EndBy end (take (i + 1) cuts)
one_more_passed from end i cuts d within passed later ends k after =
    rw (take_more cuts i d within, list_any-append (is_in_run k) (take i cuts) (get_or cuts i d ∷ []), passed k (omega arith), le-ltb k ((get_or cuts i d).0 + (get_or cuts i d).1) (omega arith))
    (ap (λ first. first || false) (and_right (nat_le (get_or cuts i d).0 k) false refl))

-- the runs from one on
maximal_from : (i low : ℕ) (runs : List (ℕ × ℕ)) → AreMaximalRuns low runs → AreMaximalRuns 0 (drop i runs)
maximal_from zero low runs maximal = earlier 0 low runs (omega arith) maximal
maximal_from (suc i) low [] maximal = tt
maximal_from (suc i) low (run ∷ runs) maximal = maximal_from i (run.0 + run.1 + 1) runs maximal.3

maximal_at : (i : ℕ) (runs : List (ℕ × ℕ)) (d : ℕ × ℕ) → i < length runs → AreMaximalRuns 0 runs → AreMaximalRuns 0 (get_or runs i d ∷ drop (suc i) runs)
maximal_at i runs d within maximal = subst (λ left. AreMaximalRuns 0 left) (drop-cons runs i d within) (maximal_from i 0 runs maximal)

-- each run ends below 2 to the 64
pub run_fits : (i : ℕ) (runs : List (ℕ × ℕ)) (d : ℕ × ℕ) → i < length runs → AreMaximalRuns 0 runs → (get_or runs i d).0 + (get_or runs i d).1 < 2 ^ 64
run_fits i runs d within maximal = (maximal_at i runs d within maximal).2

moved : (piece left made : Bool) → (left || (piece || made)) ≡ ((piece || left) || made)
moved true true made = refl
moved true false made = refl
moved false true made = refl
moved false false made = refl

-- the next cut, by where it ends
pub step_within : (k start to i : ℕ) (cuts : List (ℕ × ℕ)) (d : ℕ × ℕ) (made : Bool) → i < length cuts → start ≤ to
    → (get_or cuts i d).0 + (get_or cuts i d).1 ≤ to → AreMaximalRuns 0 cuts
    → (is_uncut k (max start ((get_or cuts i d).0 + (get_or cuts i d).1)) to (drop (i + 1) cuts) || (is_in_run k (start, min (get_or cuts i d).0 to - start) || made))
    ≡ (is_uncut k start to (drop i cuts) || made)
step_within k start to i cuts d made within ascend ends maximal =
    let next : i + 1 ≡ suc i = omega arith in
    rw (next, drop-cons cuts i d within, cut_within k start to (get_or cuts i d) (drop (suc i) cuts) ascend ends (maximal_at i cuts d within maximal))
    (moved (is_in_run k (start, min (get_or cuts i d).0 to - start)) (is_uncut k (max start ((get_or cuts i d).0 + (get_or cuts i d).1)) to (drop (suc i) cuts)) made)

pub step_over_end : (k start to i : ℕ) (cuts : List (ℕ × ℕ)) (d : ℕ × ℕ) (made : Bool) → i < length cuts → start ≤ to
    → to < (get_or cuts i d).0 + (get_or cuts i d).1 → AreMaximalRuns 0 cuts
    → (is_in_run k (start, min (get_or cuts i d).0 to - start) || made) ≡ (is_uncut k start to (drop i cuts) || made)
step_over_end k start to i cuts d made within ascend ends maximal =
    rw (drop-cons cuts i d within, cut_over_end k start to (get_or cuts i d) (drop (suc i) cuts) ascend ends (maximal_at i cuts d within maximal)) refl

-- no run has the last byte that 64 bits can name, or one behind it
none_beyond : (low : ℕ) (runs : List (ℕ × ℕ)) (k : ℕ) → AreMaximalRuns low runs → 2 ^ 64 ≤ k + 1 → is_in_ranges runs k ≡ false
none_beyond low [] k maximal past = refl
none_beyond low (run ∷ runs) k maximal past =
    rw (le-ltb k (run.0 + run.1) (omega (arith, maximal.2, past)), none_beyond (run.0 + run.1 + 1) runs k maximal.3 past, and-false (nat_le run.0 k)) refl

-- what a run of all bytes from one on leaves is what lies before it
pub first_bytes : (runs whole rest : List (ℕ × ℕ)) (end k : ℕ) → AreMaximalRuns 0 runs → ((j : ℕ) → is_in_ranges whole j ≡ (is_in_run j (end, 2 ^ 64 - 1 - end) || false))
    → is_in_ranges rest k ≡ (is_in_ranges runs k && not (is_in_ranges whole k)) → is_in_ranges rest k ≡ (nat_lt k end && is_in_ranges runs k)
first_bytes runs whole rest end k maximal all left =
    elim (cases_lt k end) [
      | inl before ↦ left ∙ rw (all k, lt-leb end k before, lt-ltb k end before, and-true (is_in_ranges runs k)) refl
      | inr past ↦ elim (cases_lt (k + 1) (2 ^ 64)) [
        | inl within ↦ left ∙ rw (all k, le-leb end k past, lt-ltb k (end + (2 ^ 64 - 1 - end)) (omega (arith, within)), le-ltb k end past, and-false (is_in_ranges runs k)) refl
        | inr beyond ↦ left ∙ rw (none_beyond 0 runs k maximal beyond, le-ltb k end past) refl
      ]
    ]
