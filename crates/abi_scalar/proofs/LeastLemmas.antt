-- The least range that holds ascending values.
use Rattle.std.proofs.Common.{◌≡◌, ℕ, ◌+◌, ◌-◌, ◌<◌, ◌≤◌, ◌⊎◌, inl, inr, arith, sym, ap, ◌∙◌, refl, subst, List, length, get_or, zero, suc}
use Rattle.std.specs.List.{All}
use Rattle.std.specs.List.Sorted.{IsNonDecreasing, IsPermutation}
use Rattle.std.proofs.lemmas.Bool.{cases_lt}
use Rattle.std.proofs.lemmas.List.{get_or_default}
use Rattle.std.proofs.lemmas.List.Sorted.{All-permutation, IsPermutation-sym}
use Rattle.abi_scalar.specs.declared.wrapping_range.WrappingRange.{WrappingRange}
use Rattle.abi_scalar.specs.Range.{numbers_of, IsIn, AreWithin, steps_between}
use Rattle.abi_scalar.specs.Count.{AreSoMany}
use Rattle.abi_scalar.specs.LeastRange.{IsLeastRange}
use Rattle.abi_scalar.proofs.RangeLemmas.{steps_are, in_from_between, between_from_in}
use Rattle.abi_scalar.proofs.CountLemmas.{range_counted}

-- the range from the least value to the greatest
abbrev pub IsWhole : (xs : List ℕ) (start end fewest : ℕ) → Type 0
IsWhole xs start end fewest = (start ≡ get_or xs 0 0) × (end ≡ get_or xs (length xs - 1) 0) × (fewest + start ≡ end)

-- the range round the gap between two neighbours among the first k values, which is shorter
pub record IsAround (all : ℕ) (xs : List ℕ) (k start end fewest : ℕ) : Type 0 where
  pub i : ℕ
  pub below : i + 1 < k
  pub last : end ≡ get_or xs i 0
  pub next : start ≡ get_or xs (i + 1) 0
  pub gap : end < start
  pub reach : fewest + start ≡ end + all
  pub shorter : fewest + get_or xs 0 0 < get_or xs (length xs - 1) 0

-- the best range so far, with the gaps among the first k values
pub record IsBestSoFar (all : ℕ) (xs : List ℕ) (k start end fewest : ℕ) : Type 0 where
  pub whole : fewest + get_or xs 0 0 ≤ get_or xs (length xs - 1) 0
  pub kind : IsWhole xs start end fewest ⊎ IsAround all xs k start end fewest
  pub gaps : (i j : ℕ) → i + 1 ≡ j → j < k → get_or xs i 0 < get_or xs j 0
      → (fewest + get_or xs j 0 ≤ get_or xs i 0 + all)
      × ((fewest + get_or xs j 0 ≡ get_or xs i 0 + all) → (start ≤ end) ⊎ (end ≤ get_or xs i 0))

pub best_first : (all : ℕ) (xs : List ℕ) (start end fewest : ℕ) → IsWhole xs start end fewest → IsBestSoFar all xs 1 start end fewest
best_first all xs start end fewest h = record {
  whole = omega (arith, h.0, h.1, h.2);
  kind = inl h;
  gaps = λ i j next l up. absurd (omega (arith, next, l));
}

kind_on : (all : ℕ) (xs : List ℕ) (k start end fewest : ℕ) → IsWhole xs start end fewest ⊎ IsAround all xs k start end fewest
    → IsWhole xs start end fewest ⊎ IsAround all xs (k + 1) start end fewest
kind_on all xs k start end fewest h = elim h [
  | inl a ↦ inl a
  | inr a ↦ inr (record { i = a.i; below = omega (arith, a.below); last = a.last; next = a.next; gap = a.gap; reach = a.reach; shorter = a.shorter })
]

-- one more value that leaves the best as it was
pub best_kept : (all : ℕ) (xs : List ℕ) (k start end fewest : ℕ) → IsNonDecreasing xs → 1 ≤ k → k < length xs
    → IsBestSoFar all xs k start end fewest
    → (get_or xs (k - 1) 0 < get_or xs k 0 → fewest + get_or xs k 0 ≤ get_or xs (k - 1) 0 + all)
    → IsBestSoFar all xs (k + 1) start end fewest
best_kept all xs k start end fewest sorted some within h longer = record {
  whole = h.whole;
  kind = kind_on all xs k start end fewest h.kind;
  gaps = λ i j next l up. elim (cases_lt j k) [
    | inl earlier ↦ h.gaps i j next earlier up
    | inr late ↦
        let e : j ≡ k = omega (arith, l, late) in
        let f : i ≡ k - 1 = omega (arith, e, next) in
        let vi = ap (λ x. get_or xs x 0) f in
        let vj = ap (λ x. get_or xs x 0) e in (
          omega (arith, longer (omega (arith, up, vi, vj)), vi, vj),
          λ tie. elim h.kind [
            | inl a ↦ inl (omega (arith, a.2))
            | inr a ↦ inr (omega (arith, a.last, sorted a.i i 0 (omega (arith, a.below, f)) (omega (arith, within, f))))
          ],
        )
  ];
}

-- one more value, with a gap before it that is better to go round
pub best_taken : (all : ℕ) (xs : List ℕ) (k start end fewest start' end' fewest' : ℕ) → 1 ≤ k → k < length xs
    → IsBestSoFar all xs k start end fewest
    → start' ≡ get_or xs k 0 → end' ≡ get_or xs (k - 1) 0 → end' < start' → fewest' + start' ≡ end' + all → fewest' < fewest
    → IsBestSoFar all xs (k + 1) start' end' fewest'
best_taken all xs k start end fewest start' end' fewest' some within h next last gap reach shorter = record {
  whole = omega (arith, h.whole);
  kind =
      let e : k - 1 + 1 ≡ k = omega arith in
      inr (record { i = k - 1; below = omega arith; last = last; next = next ∙ sym (ap (λ x. get_or xs x 0) e); gap = gap; reach = reach; shorter = omega (arith, h.whole) });
  gaps = λ i j beside l up. elim (cases_lt j k) [
    | inl earlier ↦
        let before = h.gaps i j beside earlier up in
        (omega (arith, before.0), λ tie. absurd (omega (arith, before.0, tie)))
    | inr late ↦
        let e : j ≡ k = omega (arith, l, late) in
        let f : i ≡ k - 1 = omega (arith, e, beside) in
        let vi = ap (λ x. get_or xs x 0) f in
        let vj = ap (λ x. get_or xs x 0) e in
        (omega (arith, vi, vj, next, last, reach), λ tie. inr (omega (arith, vi, last)))
  ];
}

-- between a value up to a bound and one above it there are neighbours that are such
crossing : (xs : List ℕ) (bound k : ℕ) → get_or xs 0 0 ≤ bound → bound < get_or xs k 0
    → (i : ℕ) × (i < k) × (get_or xs i 0 ≤ bound) × (bound < get_or xs (i + 1) 0)
crossing xs bound zero low high = absurd (omega (arith, low, high))
crossing xs bound (suc k) low high =
    elim (cases_lt bound (get_or xs k 0)) [
      | inl above ↦ let c = crossing xs bound k low above in (c.0, omega (arith, c.1), c.2, c.3)
      | inr here ↦
          let e : k + 1 ≡ suc k = omega arith in
          (k, omega arith, here, omega (arith, high, ap (λ x. get_or xs x 0) e))
    ]

-- what the other range takes, against the best
record IsBeaten (start end fewest : ℕ) (other : WrappingRange) (reach : ℕ) : Type 0 where
  longer : fewest ≤ reach
  tie : fewest ≡ reach → (start ≤ end) ⊎ ((other.end < other.start) × (end ≤ other.end))

beaten : (width : ℕ) (xs : List ℕ) (start end fewest : ℕ) (other : WrappingRange) → IsNonDecreasing xs → 0 < length xs
    → All (λ v. v < numbers_of width) xs → IsBestSoFar (numbers_of width) xs (length xs) start end fewest
    → AreWithin width other → All (IsIn width other) xs
    → IsBeaten start end fewest other (steps_between width other.start other.end)
beaten width xs start end fewest other sorted some below h w holds =
    let all = numbers_of width in
    let d = steps_are width other.start other.end w.0 w.1 in
    let least = get_or xs 0 0 in
    let most = length xs - 1 in
    let greatest = get_or xs most 0 in
    let top = below most 0 (omega (arith, some)) in
    let order = sorted 0 most 0 (omega arith) (omega (arith, some)) in
    let first = between_from_in width other least w (holds 0 0 some) in
    let last = between_from_in width other greatest w (holds most 0 (omega (arith, some))) in
    elim d.is [
      | inl plain ↦
          let low : other.start ≤ least = elim first [ inl x ↦ x.1 | inr x ↦ elim x [ inl y ↦ absurd (omega (arith, plain, y)) | inr y ↦ absurd (omega (arith, plain, y)) ] ] in
          let high : greatest ≤ other.end = elim last [ inl x ↦ x.2 | inr x ↦ elim x [ inl y ↦ absurd (omega (arith, plain, y)) | inr y ↦ absurd (omega (arith, plain, y)) ] ] in
          record {
            longer = omega (arith, plain, low, high, h.whole);
            tie = λ e. elim h.kind [ inl a ↦ inl (omega (arith, a.2)) | inr a ↦ absurd (omega (arith, e, plain, low, high, a.shorter)) ];
          }
      | inr wraps ↦
          elim (cases_lt least other.start) [
            | inl low ↦
                let within : least ≤ other.end = elim first [ inl x ↦ absurd (omega (arith, wraps, x)) | inr x ↦ elim x [ inl y ↦ absurd (omega (arith, low, y)) | inr y ↦ y.1 ] ] in
                elim (cases_lt other.end greatest) [
                  | inl high ↦
                      let c = crossing xs other.end most within high in
                      let up : other.start ≤ get_or xs (c.0 + 1) 0 =
                      elim (between_from_in width other (get_or xs (c.0 + 1) 0) w (holds (c.0 + 1) 0 (omega (arith, c.1, some)))) [
                        | inl x ↦ absurd (omega (arith, wraps, x))
                        | inr x ↦ elim x [ inl y ↦ y.1 | inr y ↦ absurd (omega (arith, y, c.3)) ]
                      ] in
                      let gap = h.gaps c.0 (c.0 + 1) refl (omega (arith, c.1, some)) (omega (arith, c.2, c.3)) in
                      record {
                        longer = omega (arith, gap.0, up, c.2, wraps);
                        tie = λ e. elim (gap.1 (omega (arith, gap.0, up, c.2, wraps, e))) [
                          | inl x ↦ inl x
                          | inr x ↦ inr (wraps.0, omega (arith, x, c.2))
                        ];
                      }
                  | inr flat ↦ record {
                    longer = omega (arith, h.whole, flat, wraps, w.0);
                    tie = λ e. absurd (omega (arith, h.whole, flat, wraps, w.0, e));
                  }
                ]
            | inr high ↦ record {
              longer = omega (arith, h.whole, high, wraps, top);
              tie = λ e. absurd (omega (arith, h.whole, high, wraps, top, e));
            }
          ]
    ]

pub least_from_best : (width : ℕ) (xs : List ℕ) (range : WrappingRange) (fewest : ℕ) → IsNonDecreasing xs → 0 < length xs
    → All (λ v. v < numbers_of width) xs → IsBestSoFar (numbers_of width) xs (length xs) range.start range.end fewest
    → IsLeastRange width xs range
least_from_best width xs range fewest sorted some below h =
    let all = numbers_of width in
    let most = length xs - 1 in
    let within : AreWithin width range = elim h.kind [
      | inl a ↦ (omega (arith, a.0, below 0 0 some), omega (arith, a.1, below most 0 (omega (arith, some))))
      | inr a ↦ (omega (arith, a.next, below (a.i + 1) 0 a.below), omega (arith, a.last, below a.i 0 (omega (arith, a.below))))
    ] in
    let d = steps_are width range.start range.end within.0 within.1 in
    let reach : steps_between width range.start range.end ≡ fewest = elim h.kind [
      | inl a ↦ elim d.is [ inl x ↦ omega (arith, x, a.2) | inr x ↦ absurd (omega (arith, x, a.2)) ]
      | inr a ↦ elim d.is [ inl x ↦ absurd (omega (arith, x, a.gap)) | inr x ↦ omega (arith, x, a.reach) ]
    ] in
    record {
      within = within;
      holds = λ i d l.
          let v = get_or_default xs i d 0 l in
          in_from_between width range (get_or xs i d) within (below i d l) (elim h.kind [
            | inl a ↦ inl (omega (arith, a.2), omega (arith, v, a.0, sorted 0 i 0 (omega arith) l), omega (arith, v, a.1, sorted i most 0 (omega (arith, l)) (omega (arith, some))))
            | inr a ↦ elim (cases_lt a.i i) [
              | inl after ↦ inr (inl (a.gap, omega (arith, v, a.next, sorted (a.i + 1) i 0 (omega (arith, after)) l)))
              | inr upto ↦ inr (inr (a.gap, omega (arith, v, a.last, sorted i a.i 0 upto (omega (arith, a.below)))))
            ]
          ]);
      least = λ other w holds.
          let b = beaten width xs range.start range.end fewest other sorted some below h w holds in
          let many = steps_between width other.start other.end in
          let P : ℕ → Type 0 = λ n. AreSoMany (IsIn width range) (n + 1) in (
            fewest + 1,
            many + 1,
            subst P reach (range_counted width range within),
            range_counted width other w,
            elim (cases_lt fewest many) [
              | inl l ↦ inl (omega (arith, l))
              | inr g ↦
                  let e : fewest ≡ many = omega (arith, g, b.longer) in
                  inr (ap (λ n. n + 1) e, b.tie e)
            ],
          );
    }

-- how long the way round a gap is
pub around_gap : (width start end : ℕ) → start < numbers_of width → end < numbers_of width → end < start
    → steps_between width start end + start ≡ end + numbers_of width
around_gap width start end hs he gap =
    let d = steps_are width start end hs he in
    elim d.is [ inl x ↦ absurd (omega (arith, x, gap)) | inr x ↦ omega (arith, x) ]

-- the least range of the values in another order
pub least_in_order : (width : ℕ) (xs ys : List ℕ) (range : WrappingRange) → IsPermutation xs ys → IsLeastRange width ys range
    → IsLeastRange width xs range
least_in_order width xs ys range p h = record {
  within = h.within;
  holds = All-permutation (IsIn width range) ys xs (IsPermutation-sym xs ys p) h.holds;
  least = λ other w holds. h.least other w (All-permutation (IsIn width other) xs ys p holds);
}
