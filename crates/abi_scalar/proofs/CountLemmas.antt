-- How many numbers ranges have.
use Rattle.std.proofs.Common.{◌≡◌, ◌≢◌, ℕ, ◌+◌, ◌%◌, ◌<◌, ◌≤◌, inl, inr, arith, sym, ◌∙◌, refl, subst, length, get_or, map, zero, suc}
use Rattle.std.specs.List.{range_with_len}
use Rattle.std.proofs.lemmas.Bool.{cases_lt}
use Rattle.std.proofs.lemmas.Nat.{mod_below}
use Rattle.std.proofs.lemmas.List.FromFn.{length-map-range_with_len, get_or-map-range_with_len}
use Rattle.abi_scalar.specs.declared.wrapping_range.WrappingRange.{WrappingRange}
use Rattle.abi_scalar.specs.Range.{numbers_of, IsIn, IsFree, AreWithin, steps_between, free_count}
use Rattle.abi_scalar.specs.Count.{AreSoMany}
use Rattle.abi_scalar.specs.Reserve.{stepped_on, end_moved}
use Rattle.abi_scalar.proofs.RangeLemmas.{cut_once, arrive, before, none_free, steps_are, full_from_reach, same_distance}
use Rattle.abi_scalar.proofs.ReserveLemmas.{end_handed, further, free_and_reach}

-- the numbers counted from a start
abbrev IsCounted : (all start count n : ℕ) → Type 0
IsCounted all start count n = (k : ℕ) × (k < count) × (n ≡ (start + k) % all)

-- they are other numbers, as long as there are no more than all
differ : (all start i j : ℕ) → start < all → i < j → j < all → (start + i) % all ≢ (start + j) % all
differ all start i j h l m same =
    let ci = cut_once all (start + i) (omega arith) in
    let cj = cut_once all (start + j) (omega arith) in
    elim ci.is [
      | inl a ↦ elim cj.is [ inl b ↦ omega (arith, a, b) | inr b ↦ omega (arith, a, b) ]
      | inr a ↦ elim cj.is [ inl b ↦ omega (arith, a, b) | inr b ↦ omega (arith, a, b) ]
    ]

pub counted : (all start count : ℕ) (P : ℕ → Type 0) → start < all → count ≤ all
    → ((n : ℕ) → IsCounted all start count n → P n) → ((n : ℕ) → P n → IsCounted all start count n) → AreSoMany P count
counted all start count P h room to from =
    let f : ℕ → ℕ = λ k. (start + k) % all in
    let xs = map f (range_with_len 0 count) in
    let long : length xs ≡ count = length-map-range_with_len f 0 count in
    let at : (i d : ℕ) → i < count → get_or xs i d ≡ f i = λ i d l. get_or-map-range_with_len f 0 count i i d l (omega arith) in
    record {
      members = xs;
      differ = λ i j d l m same.
          let m' : j < count = omega (arith, m, long) in
          differ all start i j h l (omega (arith, m', room)) (sym (at i d (omega (arith, l, m'))) ∙ same ∙ at j d m');
      exact = λ n. (
        λ c. let l : c.0 < count = omega (arith, c.1, long) in to n (c.0, l, sym c.2 ∙ at c.0 n l),
        λ p. let q = from n p in (q.0, omega (arith, q.1, long), at q.0 n q.1 ∙ sym q.2),
      );
      number = long;
    }

-- a range has one more number than steps
pub range_counted : (width : ℕ) (range : WrappingRange) → AreWithin width range
    → AreSoMany (IsIn width range) (steps_between width range.start range.end + 1)
range_counted width range w =
    let all = numbers_of width in
    let reach = steps_between width range.start range.end in
    let d = steps_are width range.start range.end w.0 w.1 in
    counted all range.start (reach + 1) (IsIn width range) w.0 (omega (arith, d.below))
    (λ n c. (c.0, c.2, λ k l. before all range.start range.end reach k w.0 w.1 d (omega (arith, l, c.1))))
    (λ n i. elim (cases_lt reach i.0) [
      | inl l ↦ absurd (i.2 reach l (arrive all range.start range.end reach w.0 w.1 d))
      | inr g ↦ (i.0, omega (arith, g), i.1)
    ])

-- the range with all free numbers beside it is full
all_in : (width : ℕ) (range : WrappingRange) (free : ℕ) → AreWithin width range
    → free_count width range + steps_between width range.start range.end + 1 ≡ numbers_of width → free_count width range ≡ free
    → (n : ℕ) → n < numbers_of width → IsIn width (end_moved width range free) n
all_in width range free w whole e n h =
    let all = numbers_of width in
    let new = end_moved width range free in
    let new_end = mod_below (range.end + free) all (omega (arith, w.0)) in
    let d = steps_are width range.start range.end w.0 w.1 in
    let far = further all range.start range.end (steps_between width range.start range.end) free w.0 w.1 d (omega (arith, whole, e)) in
    let same = same_distance all range.start new.end _ _ w.0 new_end (steps_are width range.start new.end w.0 new_end) far in
    full_from_reach width new (w.0, new_end) (omega (arith, same, whole, e)) n h

free_counted_by : (width : ℕ) (range : WrappingRange) → AreWithin width range → (free : ℕ) → free_count width range ≡ free
    → AreSoMany (IsFree width range) free
free_counted_by width range w zero e =
    counted (numbers_of width) range.start 0 (IsFree width range) w.0 (omega arith)
    (λ n c. absurd (omega (arith, c.1)))
    (λ n f. absurd (f.1 (none_free width range n w e f.0)))
free_counted_by width range w (suc less) e =
    let all = numbers_of width in
    let free = suc less in
    let whole = free_and_reach width range w in
    let handed = end_handed width range free w (omega arith) (omega (arith, e)) in
    let first = stepped_on width range.end 1 in
    let small = mod_below (range.end + 1) all (omega (arith, w.0)) in
    counted all first free (IsFree width range) small (omega (arith, whole, e))
    (λ n c. let P : ℕ → Type 0 = λ x. IsFree width range x in subst P (sym c.2) (handed.were_free c.0 c.1))
    (λ n f. elim ((handed.members n).0 (all_in width range free w whole e n f.0)) [ inl i ↦ absurd (f.1 i) | inr k ↦ k ])

-- and as many are free as the formula says
pub free_counted : (width : ℕ) (range : WrappingRange) → AreWithin width range
    → AreSoMany (IsFree width range) (free_count width range)
free_counted width range w = free_counted_by width range w (free_count width range) refl
