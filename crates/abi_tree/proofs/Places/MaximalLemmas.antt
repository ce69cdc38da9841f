-- Maximal runs that cover the places of a test are the runs that are listed of them.
use Rattle.std.proofs.Common.{◌≡◌, ℕ, zero, suc, ◌+◌, ◌-◌, ◌<◌, ◌≤◌, inl, inr, List, [], ◌∷◌, Some, None, Bool, true, false, arith, refl, sym, ap, ◌∙◌, subst}
use Rattle.std.specs.Prelude.{◌&&◌, ◌||◌, not, nat_le, nat_lt, if◌then◌else◌}
use Rattle.std.proofs.lemmas.Bool.{cases_lt, false_from_ne_true, lt-ltb, le-ltb, le-leb}
use Rattle.std.proofs.Math.Bool.{and-false}
use Rattle.std.specs.Cmp.Derive.{both_true}
use Rattle.abi_index.specs.RangeSet.{is_in_ranges, AreMaximalRuns}
use Rattle.abi_index.proofs.UncutLemmas.{none_below}
use Rattle.abi_types.specs.Ty.Typed.{Typed, layout_in}
use Rattle.abi_types.specs.Ty.Places.{is_place, is_padding}
use Rattle.abi_tree.specs.Placed.{Placed, size_of}
use Rattle.abi_tree.specs.Places.{is_data_place}
use Rattle.abi_tree.specs.Runs.{runs_from, is_padding_of, is_place_of_variant, padding_of, unused_of}

-- a byte of the first run
pub in_first : (start size : ℕ) (rest : List (ℕ × ℕ)) (k : ℕ) → start ≤ k → k < start + size → is_in_ranges ((start, size) ∷ rest) k ≡ true
in_first start size rest k le lt = ap (λ b. b || is_in_ranges rest k) (both_true (le-leb start k le) (lt-ltb k (start + size) lt))

-- a byte behind the first run
pub behind_first : (start size : ℕ) (rest : List (ℕ × ℕ)) (k : ℕ) → start + size ≤ k → is_in_ranges ((start, size) ∷ rest) k ≡ is_in_ranges rest k
behind_first start size rest k le =
    ap (λ b. (nat_le start k && b) || is_in_ranges rest k) (le-ltb k (start + size) le) ∙ ap (λ b. b || is_in_ranges rest k) (and-false (nat_le start k))

-- runs that begin at a byte or later, and have none from it on, are no runs
none_there : (k : ℕ) (xs : List (ℕ × ℕ)) → AreMaximalRuns k xs → ((j : ℕ) → k ≤ j → is_in_ranges xs j ≡ false) → xs ≡ []
none_there k [] maximal none = refl
none_there k (run ∷ rest) maximal none =
    let first : is_in_ranges (run ∷ rest) run.0 ≡ true = in_first run.0 run.1 rest run.0 (omega arith) (omega (arith, maximal.1)) in
    let clash : true ≡ false = sym first ∙ none run.0 maximal.0 in
    absurd (cc)

module _ (p : ℕ → Bool) where
  -- the test picks those of the n places from k on that the runs have, and they have none behind these
  abbrev Picks : (k n : ℕ) → List (ℕ × ℕ) → Type 0
  Picks k n xs = ((j : ℕ) → k ≤ j → j < k + n → is_in_ranges xs j ≡ p j) × ((j : ℕ) → k + n ≤ j → is_in_ranges xs j ≡ false)

  one_on : (k n : ℕ) (xs : List (ℕ × ℕ)) → Picks k (suc n) xs → Picks (k + 1) n xs
  one_on k n xs picks = (λ j le lt. picks.0 j (omega arith) (omega arith), λ j le. picks.1 j (omega arith))

  rest_on : (start size k n : ℕ) (rest : List (ℕ × ℕ)) → start + size ≤ k → Picks k n ((start, size) ∷ rest) → Picks k n rest
  rest_on start size k n rest end picks =
      (λ j le lt. sym (behind_first start size rest j (omega arith)) ∙ picks.0 j le lt, λ j le. sym (behind_first start size rest j (omega arith)) ∙ picks.1 j le)

  mutual
    -- no run is open: all begin at k or later
    closed_are : (n k : ℕ) (xs : List (ℕ × ℕ)) → AreMaximalRuns k xs → Picks k n xs → xs ≡ runs_from p None k n
    closed_are zero k xs maximal picks = none_there k xs maximal (λ j le. picks.1 j (omega arith))
    closed_are (suc n) k [] maximal picks =
        closed_are n (k + 1) [] tt (one_on k n [] picks)
        ∙ ap (λ b. runs_from p (if b then Some k else None) (k + 1) n) (picks.0 k (omega arith) (omega arith))
    closed_are (suc n) k (run ∷ rest) maximal picks =
        elim (cases_lt k run.0) [
          | inl later ↦
              let none : p k ≡ false = sym (picks.0 k (omega arith) (omega arith)) ∙ none_below run.0 (run ∷ rest) k (omega arith, maximal.1, maximal.2, maximal.3) later in
              closed_are n (k + 1) (run ∷ rest) (omega (arith, later), maximal.1, maximal.2, maximal.3) (one_on k n (run ∷ rest) picks)
              ∙ ap (λ b. runs_from p (if b then Some k else None) (k + 1) n) (sym none)
          | inr reached ↦
              let here : run.0 ≡ k = omega (arith, maximal.0, reached) in
              let some : p k ≡ true = sym (picks.0 k (omega arith) (omega arith)) ∙ in_first run.0 run.1 rest k reached (omega (arith, maximal.1, here)) in
              opened_are n (k + 1) run.0 run.1 rest (omega (arith, here)) (omega (arith, maximal.1, here)) maximal.3 (one_on k n (run ∷ rest) picks)
              ∙ ap (λ start. runs_from p (Some start) (k + 1) n) here
              ∙ ap (λ b. runs_from p (if b then Some k else None) (k + 1) n) (sym some)
        ]

    -- the first run began before k and may go on
    opened_are : (n k start size : ℕ) (rest : List (ℕ × ℕ)) → start < k → k ≤ start + size → AreMaximalRuns (start + size + 1) rest → Picks k n ((start, size) ∷ rest) →
        (start, size) ∷ rest ≡ runs_from p (Some start) k n
    opened_are zero k start size rest began reaches maximal picks =
        elim (cases_lt k (start + size)) [
          | inl on ↦
              let clash : true ≡ false = sym (in_first start size rest k (omega arith) on) ∙ picks.1 k (omega arith) in
              absurd (cc)
          | inr end ↦
              let long : size ≡ k - start = omega arith in
              let last : rest ≡ [] = none_there (start + size + 1) rest maximal (λ j le. (rest_on start size k zero rest end picks).1 j (omega arith)) in
              ap (λ m. (start, m) ∷ rest) long ∙ ap (λ xs. (start, k - start) ∷ xs) last
        ]
    opened_are (suc n) k start size rest began reaches maximal picks =
        elim (cases_lt k (start + size)) [
          | inl on ↦
              let some : p k ≡ true = sym (picks.0 k (omega arith) (omega arith)) ∙ in_first start size rest k (omega arith) on in
              opened_are n (k + 1) start size rest (omega arith) (omega arith) maximal (one_on k n ((start, size) ∷ rest) picks)
              ∙ ap (λ b. if b then runs_from p (Some start) (k + 1) n else ((start, k - start) ∷ runs_from p None (k + 1) n)) (sym some)
          | inr end ↦
              let long : size ≡ k - start = omega arith in
              let next : start + size + 1 ≡ k + 1 = omega arith in
              let left = rest_on start size k (suc n) rest end picks in
              let none : p k ≡ false = sym (left.0 k (omega arith) (omega arith)) ∙ none_below (start + size + 1) rest k maximal (omega arith) in
              ap (λ m. (start, m) ∷ rest) long
              ∙ ap (λ xs. (start, k - start) ∷ xs) (closed_are n (k + 1) rest (subst (λ low. AreMaximalRuns low rest) next maximal) (one_on k n rest left))
              ∙ ap (λ b. if b then runs_from p (Some start) (k + 1) n else ((start, k - start) ∷ runs_from p None (k + 1) n)) (sym none)
        ]

-- maximal runs that have those of the first n places that the test picks, and no place behind them, are the runs listed of these
pub maximal_are : (p : ℕ → Bool) (n : ℕ) (xs : List (ℕ × ℕ)) → AreMaximalRuns 0 xs → ((k : ℕ) → k < n → is_in_ranges xs k ≡ p k) → ((k : ℕ) → n ≤ k → is_in_ranges xs k ≡ false) →
    xs ≡ runs_from p None 0 n
maximal_are p n xs maximal picked none = closed_are p n 0 xs maximal (λ j le lt. picked j (omega arith), λ j le. none j (omega arith))

-- maximal runs of the padding are what is listed of it
pub padding_listed : (placed : Placed) (xs : List (ℕ × ℕ)) → AreMaximalRuns 0 xs → ((k : ℕ) → is_in_ranges xs k ≡ is_padding_of placed k) → xs ≡ padding_of placed
padding_listed placed xs maximal padding =
    maximal_are (λ k. not (is_data_place placed k)) (size_of placed) xs maximal
    (λ k lt. padding k ∙ ap (λ b. b && not (is_data_place placed k)) (lt-ltb k (size_of placed) lt))
    (λ k le. padding k ∙ ap (λ b. b && not (is_data_place placed k)) (le-ltb k (size_of placed) le))

-- what a type says as padding is padding, where it says the data places
pub padding_told : (t : Typed) (placed : Placed) → (layout_in t).size ≡ size_of placed → ((k : ℕ) → is_place t k ≡ is_data_place placed k) → (k : ℕ) → is_padding t k ≡ is_padding_of placed k
padding_told t placed size same k = ap (λ n. nat_lt k n && not (is_place t k)) size ∙ ap (λ b. nat_lt k (size_of placed) && not b) (same k)

-- maximal runs of what a variant leaves unused, which lie below the size, are those that are listed
pub unused_listed : (placed : Placed) (i : ℕ) (xs : List (ℕ × ℕ)) → AreMaximalRuns 0 xs → ((k : ℕ) → is_in_ranges xs k ≡ (is_data_place placed k && not (is_place_of_variant placed i k))) →
    ((k : ℕ) → is_in_ranges xs k ≡ true → k < size_of placed) → xs ≡ unused_of placed i
unused_listed placed i xs maximal unused within =
    maximal_are (λ k. is_data_place placed k && not (is_place_of_variant placed i k)) (size_of placed) xs maximal (λ k lt. unused k)
    (λ k le. false_from_ne_true (is_in_ranges xs k) (λ there. absurd (omega (arith, le, within k there))))
