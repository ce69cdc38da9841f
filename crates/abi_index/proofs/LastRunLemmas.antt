-- Runs of bytes with one more that begins no earlier than the last of them.
use Rattle.std.proofs.Common.{◌≡◌, ℕ, ◌+◌, ◌-◌, ◌<◌, ◌≤◌, ◌^◌, List, [], ◌∷◌, ◌++◌, length, Some, None, Option, get_or, IfSome, IsSomeAnd, min, max, arith, refl, inl, inr, sym, ap, ◌∙◌, subst, take, set, length-set, append_assoc}
use Rattle.std.specs.Prelude.{slice_get}
use Rattle.std.proofs.lemmas.Bool.{lt-ltb, le-ltb}
use Rattle.std.proofs.lemmas.List.{take_all, take_more, take_more_set}
use Rattle.std.proofs.lemmas.Option.{slice_get_within, slice_get_cases, get_or_from_slice_get, slice_get-get_or}
use Rattle.abi_index.specs.RangeSet.{AreMaximalRuns}
use Rattle.abi_index.proofs.RangeSetLemmas.{added}

-- the last run, apart from those before it
last_apart : (runs : List (ℕ × ℕ)) (i : ℕ) (last : ℕ × ℕ) → i ≡ length runs - 1 → slice_get runs i ≡ Some last → take i runs ++ last ∷ [] ≡ runs
last_apart runs i last place found =
    let within : i < length runs = slice_get_within runs i last found in
    let all : length runs ≤ i + 1 = omega arith in
    ap (λ run. take i runs ++ run ∷ []) (sym (get_or_from_slice_get runs i last last found)) ∙ sym (take_more runs i last within) ∙ take_all (i + 1) runs all

-- another in the last one's place
last_replaced : (runs : List (ℕ × ℕ)) (i : ℕ) (last made : ℕ × ℕ) → i ≡ length runs - 1 → slice_get runs i ≡ Some last → set runs i made ≡ take i runs ++ made ∷ []
last_replaced runs i last made place found =
    let within : i < length runs = slice_get_within runs i last found in
    let all : length (set runs i made) ≤ i + 1 = omega (arith, length-set {A = ℕ × ℕ}) in
    sym (take_all (i + 1) (set runs i made) all) ∙ take_more_set runs i made within

last_above : (low : ℕ) (front : List (ℕ × ℕ)) (last : ℕ × ℕ) → AreMaximalRuns low (front ++ last ∷ []) → low ≤ last.0
last_above low [] last maximal = maximal.0
last_above low (run ∷ front) last maximal = omega (arith, maximal.0, last_above (run.0 + run.1 + 1) front last maximal.3)

-- the runs before the last stay as they are
front_stays : (start end low : ℕ) (front : List (ℕ × ℕ)) (last : ℕ × ℕ) → start < end → last.0 ≤ start → AreMaximalRuns low (front ++ last ∷ [])
    → added start end (front ++ last ∷ []) ≡ front ++ added start end (last ∷ [])
front_stays start end low [] last some behind maximal = refl
front_stays start end low (run ∷ front) last some behind maximal =
    let above : run.0 + run.1 + 1 ≤ last.0 = last_above (run.0 + run.1 + 1) front last maximal.3 in
    rw (le-ltb end run.0 (omega arith), lt-ltb (run.0 + run.1) start (omega arith))
    (ap (λ runs. run ∷ runs) (front_stays start end (run.0 + run.1 + 1) front last some behind maximal.3))

lengthened : (start end first size : ℕ) → start < end → first ≤ start → start ≤ first + size
    → (first, max size (end - first)) ∷ [] ≡ added start end ((first, size) ∷ [])
lengthened start end first size some behind joins =
    let from : min start first ≡ first = omega arith in
    let many : max end (first + size) - first ≡ max size (end - first) = omega arith in
    rw (le-ltb end first (omega arith), le-ltb (first + size) start joins, from, many) refl

followed : (start end first size : ℕ) → start < end → first + size < start
    → (first, size) ∷ (start, end - start) ∷ [] ≡ added start end ((first, size) ∷ [])
followed start end first size some apart = rw (le-ltb end first (omega arith), lt-ltb (first + size) start apart) refl

last_ends : (low : ℕ) (front : List (ℕ × ℕ)) (last : ℕ × ℕ) → AreMaximalRuns low (front ++ last ∷ []) → last.0 + last.1 < 2 ^ 64
last_ends low [] last maximal = maximal.2
last_ends low (run ∷ front) last maximal = last_ends (run.0 + run.1 + 1) front last maximal.3

-- the last run ends below 2 to the 64
pub last_fits : (runs : List (ℕ × ℕ)) (i first size : ℕ) → i ≡ length runs - 1 → slice_get runs i ≡ Some (first, size) → AreMaximalRuns 0 runs → first + size < 2 ^ 64
last_fits runs i first size place found maximal =
    last_ends 0 (take i runs) (first, size) (subst (λ whole. AreMaximalRuns 0 whole) (sym (last_apart runs i (first, size) place found)) maximal)

longer_last : (runs : List (ℕ × ℕ)) (i first size start end : ℕ) → i ≡ length runs - 1 → slice_get runs i ≡ Some (first, size) → start < end
    → first ≤ start → start ≤ first + size → AreMaximalRuns 0 runs → set runs i (first, max size (end - first)) ≡ added start end runs
longer_last runs i first size start end place found some behind joins maximal =
    let apart = last_apart runs i (first, size) place found in
    last_replaced runs i (first, size) (first, max size (end - first)) place found
    ∙ ap (λ last. take i runs ++ last) (lengthened start end first size some behind joins)
    ∙ sym (front_stays start end 0 (take i runs) (first, size) some behind (subst (λ whole. AreMaximalRuns 0 whole) (sym apart) maximal))
    ∙ ap (λ whole. added start end whole) apart

run_behind : (runs : List (ℕ × ℕ)) (i first size start end : ℕ) → i ≡ length runs - 1 → slice_get runs i ≡ Some (first, size) → start < end
    → first + size < start → AreMaximalRuns 0 runs → runs ++ (start, end - start) ∷ [] ≡ added start end runs
run_behind runs i first size start end place found some apart maximal =
    let whole = last_apart runs i (first, size) place found in
    ap (λ before. before ++ (start, end - start) ∷ []) (sym whole)
    ∙ append_assoc (take i runs) ((first, size) ∷ []) ((start, end - start) ∷ [])
    ∙ ap (λ last. take i runs ++ last) (followed start end first size some apart)
    ∙ sym (front_stays start end 0 (take i runs) (first, size) some (omega arith) (subst (λ whole. AreMaximalRuns 0 whole) (sym whole) maximal))
    ∙ ap (λ whole. added start end whole) whole

none_there : (runs : List (ℕ × ℕ)) → slice_get runs (length runs - 1) ≡ None → runs ≡ []
none_there [] none = refl
none_there (run ∷ runs) none =
    let there = slice_get-get_or (run ∷ runs) (length (run ∷ runs) - 1) run (omega arith) in
    cc

only_run : (runs : List (ℕ × ℕ)) (start end : ℕ) → slice_get runs (length runs - 1) ≡ None → start < end
    → runs ++ (start, end - start) ∷ [] ≡ added start end runs
only_run runs start end none some = rw (none_there runs none) refl

-- the last run made longer, where it has the first byte put in or ends before it
pub lengthened_is : (runs : List (ℕ × ℕ)) (i start end : ℕ) (d : ℕ × ℕ) → i ≡ length runs - 1 → start < end → AreMaximalRuns 0 runs
    → IsSomeAnd (slice_get runs (length runs - 1)) (λ last. (last.0 ≤ start) × (start ≤ last.0 + last.1))
    → set runs i ((get_or runs i d).0, max (get_or runs i d).1 (end - (get_or runs i d).0)) ≡ added start end runs
lengthened_is runs i start end d place some maximal meets =
    let Meets : Option (ℕ × ℕ) → Type 0 = λ o. IsSomeAnd o (λ last. (last.0 ≤ start) × (start ≤ last.0 + last.1)) in
    elim (slice_get_cases runs (length runs - 1)).1 [
      | inl there ↦
          let found : slice_get runs (length runs - 1) ≡ Some there.0 = there.2 in
          let reads : get_or runs i d ≡ there.0 = rw place (get_or_from_slice_get runs (length runs - 1) there.0 d found) in
          let here = subst Meets found meets in
          rw (reads, place) (longer_last runs (length runs - 1) there.0.0 there.0.1 start end refl found some here.0 here.1 maximal)
      | inr none ↦ absurd (subst Meets none.1 meets)
    ]

-- a run behind all
pub pushed_is : (runs : List (ℕ × ℕ)) (start end : ℕ) → start < end → AreMaximalRuns 0 runs
    → IfSome (slice_get runs (length runs - 1)) (λ last. last.0 + last.1 < start) → runs ++ (start, end - start) ∷ [] ≡ added start end runs
pushed_is runs start end some maximal behind =
    elim (slice_get_cases runs (length runs - 1)).1 [
      | inl there ↦
          let found : slice_get runs (length runs - 1) ≡ Some there.0 = there.2 in
          run_behind runs (length runs - 1) there.0.0 there.0.1 start end refl found some (subst (λ o. IfSome o (λ last. last.0 + last.1 < start)) found behind) maximal
      | inr none ↦ only_run runs start end none.1 some
    ]
