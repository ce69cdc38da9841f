-- Bytes put over others: nothing, one list after another, a part of a list, and one byte more.
use Rattle.std.proofs.Common.{◌≡◌, ℕ, ◌+◌, ◌-◌, ◌<◌, ◌≤◌, ⊎_elim, List, length, drop, get_or, arith, refl, sym, ap, ◌∙◌, subst}
use Rattle.std.specs.Prelude.{Bool, true, false, ◌==◌, ◌&&◌, ◌||◌, ◌≢◌, nat_le, nat_lt}
use Rattle.std.specs.Cmp.Derive.{both_true}
use Rattle.std.proofs.lemmas.Bool.{and_cases, and_left, and_parts, and_right, cases_Bool, cases_eq, cases_lt, eq-eqb, eqb-true, false_from_ne_true, false≢true, le-leb, le-ltb, leb-true, lt-ltb, ltb-true, or_cases, or_from, or_left, or_parts, or_right, true≢false}
use Rattle.std.proofs.lemmas.List.{get_or-drop, get_or-take}
use Rattle.abi_tree.specs.Bytes.{bytes_at}
use Rattle.abi_tree.specs.Covering.{is_byte_at}
use Rattle.abi_tree.specs.Writing.{is_spot, IsPutOver}
use Rattle.abi_tree.proofs.Bytes.HoldLemmas.{length-bytes_at}

-- nothing put
pub put_none : (at : ℕ) (b old : List ℕ) → IsPutOver (λ k. false) at b old old
put_none at b old = record {
  long = refl;
  here = λ k lt place. absurd (false≢true place);
  other = λ k beside. refl;
}

-- another test that picks the same
pub put_like : (p q : ℕ → Bool) (at : ℕ) (b old new : List ℕ) → ((k : ℕ) → p k ≡ q k) → IsPutOver p at b old new → IsPutOver q at b old new
put_like p q at b old new same over = record {
  long = over.long;
  here = λ k lt place. over.here k lt (same k ∙ place);
  other = λ k beside. over.other k (ap (λ t. is_byte_at at (length b) k && t) (same (k - at)) ∙ beside);
}

-- no byte of the first is a spot where the two tests together pick none, nor of the second
beside_both : (s p q : Bool) → (s && (p || q)) ≡ false → ((s && p) ≡ false) × ((s && q) ≡ false)
beside_both s p q none =
    ⊎_elim
    (λ out. (and_left s p out, and_left s q out))
    (λ out. let each = or_parts p q out in (and_right s p each.0, and_right s q each.1))
    (and_cases s (p || q) none)

-- one put after another, both of the same list at one place
pub put_both : (p q : ℕ → Bool) (at : ℕ) (b old mid new : List ℕ) → IsPutOver p at b old mid → IsPutOver q at b mid new → IsPutOver (λ k. p k || q k) at b old new
put_both p q at b old mid new first second = record {
  long = second.long ∙ first.long;
  here = λ k lt place.
      ⊎_elim
      (λ later. second.here k lt later)
      (λ out.
      let back : at + k - at ≡ k = omega arith in
      let earlier : p k ≡ true = ⊎_elim (λ e. e) (λ e. absurd (true≢false (sym e ∙ out))) (or_cases (p k) (q k) place) in
      second.other (at + k) (and_right (is_byte_at at (length b) (at + k)) (q (at + k - at)) (ap q back ∙ out)) ∙ first.here k lt earlier)
      (cases_Bool (q k));
  other = λ k beside.
      let each = beside_both (is_byte_at at (length b) k) (p (k - at)) (q (k - at)) beside in
      second.other k each.1 ∙ first.other k each.0;
}

-- a place that is a spot of the part is one of the whole
spot_of_part : (p : ℕ → Bool) (at offset n m k : ℕ) → offset + n ≤ m → is_spot p (at + offset) n k ≡ true → is_spot (λ j. is_byte_at offset n j && p (j - offset)) at m k ≡ true
spot_of_part p at offset n m k inside spot =
    let parts = and_parts (is_byte_at (at + offset) n k) (p (k - (at + offset))) spot in
    let ends = and_parts (nat_le (at + offset) k) (nat_lt (k - (at + offset)) n) parts.0 in
    let from : at + offset ≤ k = leb-true (at + offset) k ends.0 in
    let below : k - (at + offset) < n = ltb-true (k - (at + offset)) n ends.1 in
    let back : k - at - offset ≡ k - (at + offset) = omega arith in
    both_true
    (both_true (le-leb at k (omega arith)) (lt-ltb (k - at) m (omega arith)))
    (both_true (both_true (le-leb offset (k - at) (omega arith)) (lt-ltb (k - at - offset) n (omega arith))) (ap p back ∙ parts.1))

-- a part of the list, put at its offset
pub put_part : (p : ℕ → Bool) (at offset n : ℕ) (b old new : List ℕ) → offset + n ≤ length b → IsPutOver p (at + offset) (bytes_at b offset n) old new →
    IsPutOver (λ k. is_byte_at offset n k && p (k - offset)) at b old new
put_part p at offset n b old new inside over =
    let long : length (bytes_at b offset n) ≡ n = omega (arith, length-bytes_at b offset n) in
    record {
      long = over.long;
      here = λ k lt place.
          let parts = and_parts (is_byte_at offset n k) (p (k - offset)) place in
          let ends = and_parts (nat_le offset k) (nat_lt (k - offset) n) parts.0 in
          let from : offset ≤ k = leb-true offset k ends.0 in
          let below : k - offset < n = ltb-true (k - offset) n ends.1 in
          let to : at + k ≡ at + offset + (k - offset) = omega arith in
          let back : offset + (k - offset) ≡ k = omega arith in
          ap (λ j. get_or new j 0) to ∙ over.here (k - offset) (omega arith) parts.1
          ∙ get_or-take n (drop offset b) (k - offset) 0 below ∙ get_or-drop offset b (k - offset) 0 ∙ ap (λ j. get_or b j 0) back;
      other = λ k beside.
          over.other k
          (false_from_ne_true (is_spot p (at + offset) (length (bytes_at b offset n)) k)
          (λ spot. true≢false (sym (spot_of_part p at offset n (length b) k inside (subst (λ m. is_spot p (at + offset) m k ≡ true) long spot)) ∙ beside)));
    }

-- one byte put
put_single : (at i : ℕ) (b mid new : List ℕ) → i < length b → length new ≡ length mid → get_or new (at + i) 0 ≡ get_or b i 0 →
    ((k : ℕ) → k ≢ at + i → get_or new k 0 ≡ get_or mid k 0) → IsPutOver (λ k. k == i) at b mid new
put_single at i b mid new lt long here other = record {
  long = long;
  here = λ k below place. let same : k ≡ i = eqb-true k i place in subst (λ j. get_or new (at + j) 0 ≡ get_or b j 0) (sym same) here;
  other = λ k beside.
      other k
      (λ same.
      let back : k - at ≡ i = omega arith in
      true≢false
      (sym (both_true (both_true (le-leb at k (omega arith)) (lt-ltb (k - at) (length b) (omega arith))) (eq-eqb (k - at) i back)) ∙ beside));
}

-- one byte more
pub put_one : (p : ℕ → Bool) (at i : ℕ) (b old mid new : List ℕ) → i < length b → IsPutOver p at b old mid → length new ≡ length mid → get_or new (at + i) 0 ≡ get_or b i 0 →
    ((k : ℕ) → k ≢ at + i → get_or new k 0 ≡ get_or mid k 0) → IsPutOver (λ k. p k || (k == i)) at b old new
put_one p at i b old mid new lt over long here other = put_both p (λ k. k == i) at b old mid new over (put_single at i b mid new lt long here other)

-- the numbers below the next one
pub lt-more : (k i : ℕ) → (nat_lt k i || (k == i)) ≡ nat_lt k (i + 1)
lt-more k i =
    ⊎_elim
    (λ lt. or_left (nat_lt k i) (k == i) (lt-ltb k i lt) ∙ sym (lt-ltb k (i + 1) (omega arith)))
    (λ le.
    ⊎_elim
    (λ same. or_right (nat_lt k i) (k == i) (eq-eqb k i same) ∙ sym (lt-ltb k (i + 1) (omega arith)))
    (λ other.
    let past : i + 1 ≤ k = omega arith in
    or_from (nat_lt k i) (k == i) (le-ltb k i le) (false_from_ne_true (k == i) (λ same. other (eqb-true k i same))) ∙ sym (le-ltb k (i + 1) past))
    (cases_eq k i))
    (cases_lt k i)
