-- Runs of bytes with one more.
use Rattle.std.proofs.Common.{◌≡◌, ℕ, suc, ◌+◌, ◌-◌, ◌<◌, ◌≤◌, ◌^◌, ◌&&◌, ◌||◌, List, [], ◌∷◌, ◌++◌, length, Bool, true, false, nat_lt, nat_le, min, max, cond, arith, refl, sym, inl, inr, drop, get_or, drop-cons, append_assoc, subst, take, length-drop}
use Rattle.std.proofs.lemmas.Bool.{cases_lt, lt-ltb, le-ltb, le-leb, lt-leb}
use Rattle.std.proofs.lemmas.List.{take_all}
use Rattle.std.proofs.Math.ListN.{drop_of_length-le}
use Rattle.abi_index.specs.RangeSet.{is_in_run, is_in_ranges, AreMaximalRuns}

-- the runs with one more, from a byte up to another
abbrev pub added : ℕ → ℕ → List (ℕ × ℕ) → List (ℕ × ℕ)
added start end [] = (start, end - start) ∷ []
added start end (run ∷ runs) =
    cond (nat_lt end run.0) ((start, end - start) ∷ run ∷ runs)
    (cond (nat_lt (run.0 + run.1) start) (run ∷ added start end runs) (added (min start run.0) (max end (run.0 + run.1)) runs))

pub earlier : (low high : ℕ) (runs : List (ℕ × ℕ)) → low ≤ high → AreMaximalRuns high runs → AreMaximalRuns low runs
earlier low high [] le maximal = tt
earlier low high (run ∷ runs) le maximal = (omega (arith, maximal.0), maximal.1, maximal.2, maximal.3)

pub maximal_added : (start end low : ℕ) (runs : List (ℕ × ℕ)) → start < end → end < 2 ^ 64 → low ≤ start → AreMaximalRuns low runs
    → AreMaximalRuns low (added start end runs)
maximal_added start end low [] some fits le maximal = (le, omega arith, omega arith, tt)
maximal_added start end low (run ∷ runs) some fits le maximal =
    elim (cases_lt end run.0) [
      | inl before ↦ rw (lt-ltb end run.0 before) (le, omega arith, omega arith, (omega (arith, before), maximal.1, maximal.2, maximal.3))
      | inr meets ↦ rw (le-ltb end run.0 meets) (elim (cases_lt (run.0 + run.1) start) [
        | inl after ↦ rw (lt-ltb (run.0 + run.1) start after) (maximal.0, maximal.1, maximal.2, maximal_added start end (run.0 + run.1 + 1) runs some fits (omega (arith, after)) maximal.3)
        | inr joins ↦ rw (le-ltb (run.0 + run.1) start joins)
            (maximal_added (min start run.0) (max end (run.0 + run.1)) low runs (omega (arith, some)) (omega (arith, fits, maximal.2)) (omega (arith, le, maximal.0))
            (earlier low (run.0 + run.1 + 1) runs (omega (arith, maximal.0)) maximal.3))
      ])
    ]

or_swap : (a b c : Bool) → (a || (b || c)) ≡ (b || (a || c))
or_swap true true c = refl
or_swap true false c = refl
or_swap false true c = refl
or_swap false false c = refl

or_assoc : (a b c : Bool) → ((a || b) || c) ≡ (a || (b || c))
or_assoc true b c = refl
or_assoc false b c = refl

neither : (a b c : Bool) → (a && false) ≡ ((b && false) || (c && false))
neither true true true = refl
neither true true false = refl
neither true false true = refl
neither true false false = refl
neither false true true = refl
neither false true false = refl
neither false false true = refl
neither false false false = refl

second : (a : Bool) → true ≡ ((a && false) || true)
second true = refl
second false = refl

-- two runs that meet, as one
joined_run : (k start end first size : ℕ) → start < end → first ≤ end → start ≤ first + size
    → is_in_run k (min start first, max end (first + size) - min start first) ≡ (is_in_run k (start, end - start) || is_in_run k (first, size))
joined_run k start end first size some meets joins =
    elim (cases_lt k (min start first)) [
      | inl before ↦
          rw (lt-leb (min start first) k before, lt-leb start k (omega (arith, before)), lt-leb first k (omega (arith, before))) refl
      | inr after ↦
          let low : nat_le (min start first) k ≡ true = le-leb (min start first) k after in
          elim (cases_lt k (max end (first + size))) [
            | inr past ↦
                rw (
                  le-ltb k (min start first + (max end (first + size) - min start first)) (omega (arith, past, some)),
                  le-ltb k (start + (end - start)) (omega (arith, past, some)),
                  le-ltb k (first + size) (omega (arith, past)),
                )
                (neither (nat_le (min start first) k) (nat_le start k) (nat_le first k))
            | inl within ↦
                let high : nat_lt k (min start first + (max end (first + size) - min start first)) ≡ true = lt-ltb k (min start first + (max end (first + size) - min start first)) (omega (arith, within, some)) in
                elim (cases_lt k start) [
                  | inl below ↦
                      rw (low, high, lt-leb start k below, le-leb first k (omega (arith, after, below)), lt-ltb k (first + size) (omega (arith, below, joins))) refl
                  | inr above ↦
                      elim (cases_lt k end) [
                        | inl inside ↦ rw (low, high, le-leb start k above, lt-ltb k (start + (end - start)) (omega (arith, inside, some))) refl
                        | inr beyond ↦
                            rw (
                              low,
                              high,
                              le-ltb k (start + (end - start)) (omega (arith, beyond, some)),
                              le-leb first k (omega (arith, beyond, meets)),
                              lt-ltb k (first + size) (omega (arith, within, beyond)),
                            )
                            (second (nat_le start k))
                      ]
                ]
          ]
    ]

pub bytes_added : (start end : ℕ) (runs : List (ℕ × ℕ)) (k : ℕ) → start < end
    → is_in_ranges (added start end runs) k ≡ (is_in_run k (start, end - start) || is_in_ranges runs k)
bytes_added start end [] k some = refl
bytes_added start end (run ∷ runs) k some =
    elim (cases_lt end run.0) [
      | inl before ↦ rw (lt-ltb end run.0 before) refl
      | inr meets ↦ rw (le-ltb end run.0 meets) (elim (cases_lt (run.0 + run.1) start) [
        | inl after ↦ rw (lt-ltb (run.0 + run.1) start after, bytes_added start end runs k some)
            (or_swap (is_in_run k run) (is_in_run k (start, end - start)) (is_in_ranges runs k))
        | inr joins ↦ rw (
          le-ltb (run.0 + run.1) start joins,
          bytes_added (min start run.0) (max end (run.0 + run.1)) runs k (omega (arith, some)),
          joined_run k start end run.0 run.1 some meets joins,
        )
            (or_assoc (is_in_run k (start, end - start)) (is_in_run k run) (is_in_ranges runs k))
      ])
    ]

-- what the first run left does, by where it lies
pub step_before : (made : List (ℕ × ℕ)) (start end i : ℕ) (runs : List (ℕ × ℕ)) (d : ℕ × ℕ) → i < length runs → end < (get_or runs i d).0
    → made ++ added start end (drop i runs) ≡ (made ++ (start, end - start) ∷ []) ++ drop i runs
step_before made start end i runs d h before =
    rw (drop-cons runs i d h, lt-ltb end (get_or runs i d).0 before) (sym (append_assoc made ((start, end - start) ∷ []) (get_or runs i d ∷ drop (suc i) runs)))

pub step_after : (made : List (ℕ × ℕ)) (start end i : ℕ) (runs : List (ℕ × ℕ)) (d : ℕ × ℕ) → i < length runs → (get_or runs i d).0 ≤ end
    → (get_or runs i d).0 + (get_or runs i d).1 < start
    → made ++ added start end (drop i runs) ≡ (made ++ get_or runs i d ∷ []) ++ added start end (drop (i + 1) runs)
step_after made start end i runs d h meets after =
    let next : i + 1 ≡ suc i = omega arith in
    rw (next, drop-cons runs i d h, le-ltb end (get_or runs i d).0 meets, lt-ltb ((get_or runs i d).0 + (get_or runs i d).1) start after)
    (sym (append_assoc made (get_or runs i d ∷ []) (added start end (drop (suc i) runs))))

pub step_joins : (made : List (ℕ × ℕ)) (start end i : ℕ) (runs : List (ℕ × ℕ)) (d : ℕ × ℕ) → i < length runs → (get_or runs i d).0 ≤ end
    → start ≤ (get_or runs i d).0 + (get_or runs i d).1
    → made ++ added start end (drop i runs) ≡ made ++ added (min start (get_or runs i d).0) (max end ((get_or runs i d).0 + (get_or runs i d).1)) (drop (i + 1) runs)
step_joins made start end i runs d h meets joins =
    let next : i + 1 ≡ suc i = omega arith in
    rw (next, drop-cons runs i d h, le-ltb end (get_or runs i d).0 meets, le-ltb ((get_or runs i d).0 + (get_or runs i d).1) start joins) refl

pub maximal_rest : (i : ℕ) (runs : List (ℕ × ℕ)) (d : ℕ × ℕ) → i < length runs → AreMaximalRuns 0 (drop i runs) → AreMaximalRuns 0 (drop (i + 1) runs)
maximal_rest i runs d h maximal =
    let next : suc i ≡ i + 1 = omega arith in
    let whole : AreMaximalRuns 0 (get_or runs i d ∷ drop (suc i) runs) = subst (λ xs. AreMaximalRuns 0 xs) (drop-cons runs i d h) maximal in
    subst (λ k. AreMaximalRuns 0 (drop k runs)) next (earlier 0 _ (drop (suc i) runs) (omega arith) whole.3)

pub first_fits : (i : ℕ) (runs : List (ℕ × ℕ)) (d : ℕ × ℕ) → i < length runs → AreMaximalRuns 0 (drop i runs)
    → (get_or runs i d).0 + (get_or runs i d).1 < 2 ^ 64
first_fits i runs d h maximal =
    let whole : AreMaximalRuns 0 (get_or runs i d ∷ drop (suc i) runs) = subst (λ xs. AreMaximalRuns 0 xs) (drop-cons runs i d h) maximal in
    whole.2

pub none_left : (made : List (ℕ × ℕ)) (start end i : ℕ) (runs : List (ℕ × ℕ)) → length runs ≤ i
    → made ++ (start, end - start) ∷ [] ≡ made ++ added start end (drop i runs)
none_left made start end i runs h = rw (drop_of_length-le runs h) refl

pub rest_left : (made : List (ℕ × ℕ)) (start end i : ℕ) (runs : List (ℕ × ℕ)) (d : ℕ × ℕ) → i < length runs → end < (get_or runs i d).0
    → (made ++ (start, end - start) ∷ []) ++ take (length runs - i) (drop i runs) ≡ made ++ added start end (drop i runs)
rest_left made start end i runs d h before =
    let inline_vec : length (drop i runs) ≤ length runs - i = omega (arith, length-drop i runs) in
    rw (take_all (length runs - i) (drop i runs) inline_vec) (sym (step_before made start end i runs d h before))
