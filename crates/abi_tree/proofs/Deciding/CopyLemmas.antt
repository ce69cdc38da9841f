-- An element's bytes as a copy of another one's that has the same value.
use Rattle.std.proofs.Common.{◌≡◌, ℕ, zero, suc, ◌+◌, ◌-◌, ◌*◌, ◌<◌, ◌≤◌, ⊎_elim, List, Option, None, length, drop, get_or, arith, refl, sym, ap, ◌∙◌, subst}
use Rattle.std.specs.Prelude.{Bool, true, false, ◌&&◌, ◌||◌, nat_le, nat_lt}
use Rattle.std.specs.Cmp.Derive.{both_true}
use Rattle.std.proofs.lemmas.Bool.{and_left, and_parts, and_right, cases_lt, false_from_ne_true, le-leb, le-ltb, leb-true, lt-ltb, ltb-true, or_cases, or_from, or_parts, true≢false}
use Rattle.std.proofs.lemmas.List.{get_or-drop, get_or-take}
use Rattle.std.proofs.Math.Nat.{mul-le-mul_right}
use Rattle.abi_base.specs.declared.endian.Endian.{Endian}
use Rattle.abi_tree.specs.Bytes.{AreBytes, bytes_at}
use Rattle.abi_tree.specs.Covering.{each_covered, is_byte_at, is_covered}
use Rattle.abi_tree.specs.Deciding.{covering_value, each_value, place_in}
use Rattle.abi_tree.specs.Holding.{HoldEach, Holds, IsAt}
use Rattle.abi_tree.specs.Placed.{Placed, size_of}
use Rattle.abi_tree.specs.Value.{Value, Values, no_values, more_values}
use Rattle.abi_tree.specs.Writing.{IsCopied, IsPutOver, is_spot}
use Rattle.abi_tree.proofs.Deciding.AgreeLemmas.{agree}
use Rattle.abi_tree.proofs.Bytes.BytesLemmas.{AreBytes-bytes_at}
use Rattle.abi_tree.proofs.Deciding.CoverLemmas.{ElementsPut}

-- ---- elements of a list of values

module _ (cover : Value → ℕ → Bool) (P : List ℕ → Value → Type 0) (value : Option ℕ → Value) (n : ℕ) (place : Option ℕ) where
  -- they cover nothing before the first
  each_later : (vs : Values) (o k : ℕ) → k < o → each_covered cover n o vs k ≡ false
  each_later no_values o k lt = refl
  each_later (more_values v vs) o k lt =
      let before : nat_le o k ≡ false = false_from_ne_true (nat_le o k) (λ e. absurd (omega (arith, lt, leb-true o k e))) in
      or_from (is_byte_at o n k && cover v (k - o)) (each_covered cover n (o + n) vs k)
      (and_left (is_byte_at o n k) (cover v (k - o)) (and_left (nat_le o k) (nat_lt (k - o) n) before)) (each_later vs (o + n) k (omega (arith, lt)))

  -- each covers its own bytes
  each_there : (s count o k : ℕ) → s < count → k < n → each_covered cover n o (each_value value n o count place) (o + s * n + k) ≡ cover (value (place_in place (o + s * n) n)) k
  each_there s zero o k lt below = absurd (omega (arith, lt))
  each_there zero (suc count) o k lt below =
      let at : o + 0 * n ≡ o = omega arith in
      let back : o + k - o ≡ k = omega arith in
      let inside : is_byte_at o n (o + k) ≡ true = both_true (le-leb o (o + k) (omega arith)) (lt-ltb (o + k - o) n (omega (arith, below))) in
      let v : Value = value (place_in place o n) in
      let rest : each_covered cover n (o + n) (each_value value n (o + n) count place) (o + k) ≡ false = each_later (each_value value n (o + n) count place) (o + n) (o + k) (omega (arith, below)) in
      let here : ((is_byte_at o n (o + k) && cover v (o + k - o)) || each_covered cover n (o + n) (each_value value n (o + n) count place) (o + k)) ≡ cover v k =
      alone (is_byte_at o n (o + k)) (cover v (o + k - o)) _ inside rest ∙ ap (cover v) back in
      subst (λ i. each_covered cover n o (each_value value n o (suc count) place) (i + k) ≡ cover (value (place_in place i n)) k) (sym at) here
    where
      alone : (a b c : Bool) → a ≡ true → c ≡ false → ((a && b) || c) ≡ b
      alone true true false h none = refl
      alone true false false h none = refl
      alone a b true h none = absurd (true≢false none)
      alone false b false h none = absurd (true≢false (sym h))
  each_there (suc s) (suc count) o k lt below =
      let next : o + n + s * n ≡ o + suc s * n = omega arith in
      let v : Value = value (place_in place o n) in
      let j : ℕ = o + suc s * n + k in
      let past : is_byte_at o n j ≡ false = and_right (nat_le o j) (nat_lt (j - o) n) (le-ltb (j - o) n (omega (arith, next))) in
      let rest = each_there s count (o + n) k (omega (arith, lt)) below in
      ap (λ b. (b && cover v (j - o)) || each_covered cover n (o + n) (each_value value n (o + n) count place) j) past
      ∙ subst (λ i. each_covered cover n (o + n) (each_value value n (o + n) count place) (i + k) ≡ cover (value (place_in place i n)) k) next rest

  -- and is held by them
  each_held : (s count o : ℕ) (b : List ℕ) → s < count → HoldEach P n o b (each_value value n o count place) → IsAt (o + s * n) n (λ slice. P slice (value (place_in place (o + s * n) n))) b
  each_held s zero o b lt h = absurd (omega (arith, lt))
  each_held zero (suc count) o b lt h =
      let at : o ≡ o + 0 * n = omega arith in
      subst (λ i. IsAt i n (λ slice. P slice (value (place_in place i n))) b) at h.0
  each_held (suc s) (suc count) o b lt h =
      let next : o + n + s * n ≡ o + suc s * n = omega arith in
      subst (λ i. IsAt i n (λ slice. P slice (value (place_in place i n))) b) next (each_held s count (o + n) b (omega (arith, lt)) h.1)

-- ---- a copy

module _ (order : Endian) (p : Placed) (place : Option ℕ) (count at : ℕ) (b old : List ℕ) (all : AreBytes b)
    (held : HoldEach (Holds order p) (size_of p) 0 b (each_value (covering_value p) (size_of p) 0 count place)) (blank : (k : ℕ) → k < size_of p * count → get_or old (at + k) 0 ≡ 0) where
  abbrev n : ℕ
  n = size_of p

  abbrev covers : (k : ℕ) → Bool
  covers = each_covered (is_covered p) n 0 (each_value (covering_value p) n 0 count place)

  -- the value of an element that doesn't have the place
  abbrev v : Value
  v = covering_value p None

  module _ (s : ℕ) (lt : s < count) (none : place_in place (s * n) n ≡ None) where
    start : 0 + s * n ≡ s * n
    start = omega arith

    -- what it covers
    covers_it : (k : ℕ) → k < n → covers (s * n + k) ≡ is_covered p v k
    covers_it k below =
        ap (λ i. covers (i + k)) (sym start) ∙ each_there (is_covered p) (Holds order p) (covering_value p) n place s count 0 k lt below
        ∙ ap (λ i. is_covered p (covering_value p (place_in place i n)) k) start ∙ ap (λ o. is_covered p (covering_value p o) k) none

    holds_it : IsAt (s * n) n (λ slice. Holds order p slice v) b
    holds_it =
        subst (λ o. IsAt (s * n) n (λ slice. Holds order p slice (covering_value p o)) b) none
        (subst (λ i. IsAt i n (λ slice. Holds order p slice (covering_value p (place_in place i n))) b) start (each_held (is_covered p) (Holds order p) (covering_value p) n place s count 0 b lt held))

    slice_byte : (k : ℕ) → k < n → get_or (bytes_at b (s * n) n) k 0 ≡ get_or b (s * n + k) 0
    slice_byte k below = get_or-take n (drop (s * n) b) k 0 below ∙ get_or-drop (s * n) b k 0

    inside : s * n + n ≤ n * count
    inside = let more : (s + 1) * n ≤ count * n = mul-le-mul_right n (omega (arith, lt)) in omega (arith, more)

  module _ (i : ℕ) (now : List ℕ) (put : ElementsPut order p place count at b old i now) where
    -- bytes of elements that were put are the list's where they are covered
    put_byte : (k : ℕ) → k < i * n → k < length b → covers k ≡ true → get_or now (at + k) 0 ≡ get_or b k 0
    put_byte k before lt covered =
        let later = each_later (is_covered p) (Holds order p) (covering_value p) n place (each_value (covering_value p) n (i * n) (count - i) place) (i * n) k before in
        put.put.here k lt
        (⊎_elim (λ (here : put.picks k ≡ true). here) (λ rest. absurd (true≢false (sym rest ∙ later)))
        (or_cases (put.picks k) (each_covered (is_covered p) n (i * n) (each_value (covering_value p) n (i * n) (count - i) place) k) (put.whole k ∙ covered)))

    -- and are still 0 where they aren't
    other_byte : (k : ℕ) → k < n * count → covers k ≡ false → get_or now (at + k) 0 ≡ 0
    other_byte k within uncovered =
        let back : at + k - at ≡ k = omega arith in
        let none : put.picks k ≡ false = (or_parts (put.picks k) (each_covered (is_covered p) n (i * n) (each_value (covering_value p) n (i * n) (count - i) place) k) (put.whole k ∙ uncovered)).0 in
        put.put.other (at + k) (and_right (is_byte_at at (length b) (at + k)) (put.picks (at + k - at)) (ap put.picks back ∙ none)) ∙ blank k within

    module _ (lt : i < count) (none_i : place_in place (i * n) n ≡ None) (s : ℕ) (before : s < i) (none_s : place_in place (s * n) n ≡ None) (new : List ℕ) (copy : IsCopied (at + s * n) (at + i * n) n now new) where
      there : s < count
      there = omega (arith, lt, before)

      ends : s * n + n ≤ i * n
      ends = let more : (s + 1) * n ≤ i * n = mul-le-mul_right n (omega (arith, before)) in omega (arith, more)

      -- an element that was copied is put
      pub copy_put : IsPutOver (λ k. is_byte_at (i * n) n k && is_covered p (covering_value p (place_in place (i * n) n)) (k - i * n)) at b now new
      copy_put =
          subst (λ o. IsPutOver (λ k. is_byte_at (i * n) n k && is_covered p (covering_value p o) (k - i * n)) at b now new) (sym none_i) record {
            long = copy.long;
            here = λ k short spot.
                let parts = and_parts (is_byte_at (i * n) n k) (is_covered p v (k - i * n)) spot in
                let bounds = and_parts (nat_le (i * n) k) (nat_lt (k - i * n) n) parts.0 in
                let from : i * n ≤ k = leb-true (i * n) k bounds.0 in
                let below : k - i * n < n = ltb-true (k - i * n) n bounds.1 in
                let e : ℕ = k - i * n in
                let to : at + k ≡ at + i * n + e = omega (arith, from) in
                let source : at + s * n + e ≡ at + (s * n + e) = omega arith in
                let one = holds_it s there none_s in
                let two = holds_it i lt none_i in
                let back : i * n + e ≡ k = omega (arith, from) in
                ap (λ j. get_or new j 0) to ∙ copy.copied e below ∙ ap (λ j. get_or now j 0) source
                ∙ put_byte (s * n + e) (omega (arith, ends, below)) (omega (arith, one.0, below)) (covers_it s there none_s e below ∙ parts.1)
                ∙ sym (slice_byte s there none_s e below)
                ∙ agree order p v (bytes_at b (s * n) n) (bytes_at b (i * n) n) (AreBytes-bytes_at b (s * n) n all) (AreBytes-bytes_at b (i * n) n all) one.1 two.1 e parts.1
                ∙ slice_byte i lt none_i e below ∙ ap (λ j. get_or b j 0) back;
            other = λ k beside.
                ⊎_elim
                (λ (low : k < at + i * n). copy.below k low)
                (λ (from : at + i * n ≤ k).
                ⊎_elim
                (λ (high : k < at + i * n + n).
                let e : ℕ = k - (at + i * n) in
                let below : e < n = omega (arith, from, high) in
                let to : k ≡ at + i * n + e = omega (arith, from) in
                let also : at + i * n + e ≡ at + (i * n + e) = omega arith in
                let source : at + s * n + e ≡ at + (s * n + e) = omega arith in
                let two = holds_it i lt none_i in
                let rest : k - at - i * n ≡ e = omega arith in
                let bare : is_covered p v e ≡ false =
                false_from_ne_true (is_covered p v e)
                (λ c.
                let spot : is_spot (λ j. is_byte_at (i * n) n j && is_covered p v (j - i * n)) at (length b) k ≡ true =
                both_true (both_true (le-leb at k (omega (arith, from))) (lt-ltb (k - at) (length b) (omega (arith, from, high, two.0))))
                (both_true (both_true (le-leb (i * n) (k - at) (omega (arith, from))) (lt-ltb (k - at - i * n) n (omega (arith, below, rest)))) (ap (is_covered p v) rest ∙ c)) in
                true≢false (sym spot ∙ beside)) in
                ap (λ j. get_or new j 0) to ∙ copy.copied e below ∙ ap (λ j. get_or now j 0) source
                ∙ other_byte (s * n + e) (omega (arith, inside s there none_s, below)) (covers_it s there none_s e below ∙ bare)
                ∙ sym (ap (λ j. get_or now j 0) (to ∙ also) ∙ other_byte (i * n + e) (omega (arith, inside i lt none_i, below)) (covers_it i lt none_i e below ∙ bare)))
                (λ (past : at + i * n + n ≤ k). copy.behind k past)
                (cases_lt k (at + i * n + n)))
                (cases_lt k (at + i * n));
          }
