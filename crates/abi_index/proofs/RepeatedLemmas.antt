-- What runs cover that are repeated.
use Rattle.std.proofs.Common.{◌≡◌, ℕ, ◌+◌, ◌-◌, ◌*◌, ◌/◌, ◌%◌, ◌<◌, ◌≤◌, ⊎_elim, List, [], ◌∷◌, Bool, true, false, length, get_or, arith, refl, sym, ap, ◌∙◌, All, le_refl}
use Rattle.std.specs.Prelude.{◌&&◌, ◌||◌, nat_lt, nat_le}
use Rattle.std.specs.Cmp.Derive.{both_true}
use Rattle.std.proofs.Math.Bool.{and-false, and-true, or-false}
use Rattle.std.proofs.lemmas.Bool.{lt-ltb, le-ltb, le-leb, lt-leb, ltb_from_iff, ltb-true, cases_lt}
use Rattle.std.proofs.lemmas.Nat.{mul-le, mul-add-lt, div_below}
use Rattle.std.proofs.lemmas.List.Elements.{All-head, All-tail}
use Rattle.abi_index.specs.RangeSet.{is_in_ranges}
use Rattle.abi_index.specs.Runs.{Adds, moved_to, repeated}
use Rattle.abi_index.proofs.RunsLemmas.{adds_both, adds_same, moved-moved, moved-or, moved-same}

-- runs inside a size cover nothing beyond it
pub covers-beyond : (size : ℕ) (runs : List (ℕ × ℕ)) (k : ℕ) → All (λ run. run.0 + run.1 ≤ size) runs → size ≤ k → is_in_ranges runs k ≡ false
covers-beyond size [] k inside le = refl
covers-beyond size (run ∷ runs) k inside le =
    let out : nat_lt k (run.0 + run.1) ≡ false = le-ltb k (run.0 + run.1) (omega (arith, le, All-head (λ run. run.0 + run.1 ≤ size) run runs inside)) in
    ap (λ b. (nat_le run.0 k && b) || is_in_ranges runs k) out ∙ ap (λ b. b || is_in_ranges runs k) (and-false (nat_le run.0 k))
    ∙ covers-beyond size runs k (All-tail (λ run. run.0 + run.1 ≤ size) run runs inside) le

div_lt : (k count size : ℕ) → 0 < size → nat_lt (k / size) count ≡ nat_lt k (size * count)
div_lt k count size some = ltb_from_iff (
  λ t. let below : k / size < count = ltb-true (k / size) count t in
      let rest : k % size < size = omega arith in
      let split : k ≡ k / size * size + k % size = omega arith in
      omega (arith, split, mul-add-lt (k / size) size (k % size) count below rest),
  λ lt. lt-ltb (k / size) count (div_below k size count some (omega (arith, lt))),
)

-- parts of which each byte is covered
repeated-whole : (size count : ℕ) (c : ℕ → Bool) → 0 < size → ((j : ℕ) → j < size → c j ≡ true) → (k : ℕ) → nat_lt k (size * count) ≡ repeated size count c k
repeated-whole size count c some all k =
    let rest : k % size < size = omega arith in
    sym (div_lt k count size some) ∙ sym (ap (λ b. nat_lt (k / size) count && b) (all (k % size) rest) ∙ and-true (nat_lt (k / size) count))

step : (q r i size k : ℕ) (c : ℕ → Bool) → k ≡ q * size + r → r < size → ((j : ℕ) → size ≤ j → c j ≡ false) →
    ((nat_lt q i && c r) || moved_to (size * i) c k) ≡ (nat_lt q (i + 1) && c r)
step q r i size k c split rest beyond =
    ⊎_elim
    (λ (below : q < i).
    let before : k < size * i = omega (arith, split, mul-add-lt q size r i below rest) in
    ap (λ v. (v && c r) || (nat_le (size * i) k && c (k - size * i))) (lt-ltb q i below)
    ∙ ap (λ v. c r || (v && c (k - size * i))) (lt-leb (size * i) k before) ∙ or-false (c r)
    ∙ sym (ap (λ v. v && c r) (lt-ltb q (i + 1) (omega (arith, below)))))
    (λ (past : i ≤ q).
    ⊎_elim
    (λ (same : q < i + 1).
    let here : q ≡ i = omega (arith, past, same) in
    let at : k ≡ size * i + r = split ∙ ap (λ n. n * size + r) here ∙ (let e : i * size + r ≡ size * i + r = omega arith in e) in
    let place : k - size * i ≡ r = omega (arith, at) in
    ap (λ v. (v && c r) || (nat_le (size * i) k && c (k - size * i))) (le-ltb q i past)
    ∙ ap (λ v. v && c (k - size * i)) (le-leb (size * i) k (omega (arith, at))) ∙ ap c place
    ∙ sym (ap (λ v. v && c r) (lt-ltb q (i + 1) same)))
    (λ (later : i + 1 ≤ q).
    let far : (i + 1) * size ≤ q * size = mul-le (i + 1) size q size later (le_refl size) in
    let out : size ≤ k - size * i = omega (arith, split, far) in
    ap (λ v. (v && c r) || (nat_le (size * i) k && c (k - size * i))) (le-ltb q i past)
    ∙ ap (λ v. nat_le (size * i) k && v) (beyond (k - size * i) out) ∙ and-false (nat_le (size * i) k)
    ∙ sym (ap (λ v. v && c r) (le-ltb q (i + 1) later)))
    (cases_lt q (i + 1)))
    (cases_lt q i)

-- one part more
repeated-more : (size i : ℕ) (c : ℕ → Bool) → 0 < size → ((j : ℕ) → size ≤ j → c j ≡ false) → (k : ℕ) → (repeated size i c k || moved_to (size * i) c k) ≡ repeated size (i + 1) c k
repeated-more size i c some beyond k = step (k / size) (k % size) i size k c (omega arith) (omega arith) beyond

-- one part more behind the others
pub adds_part : (all old new : List (ℕ × ℕ)) (offset size i : ℕ) (c : ℕ → Bool) → 0 < size → ((j : ℕ) → size ≤ j → c j ≡ false) → Adds all old (moved_to offset (repeated size i c))
    → Adds old new (moved_to (offset + size * i) c) → Adds all new (moved_to offset (repeated size (i + 1) c))
adds_part all old new offset size i c some beyond before next =
    adds_same all new (λ k. moved_to offset (repeated size i c) k || moved_to (offset + size * i) c k) (moved_to offset (repeated size (i + 1) c))
    (adds_both all old new (moved_to offset (repeated size i c)) (moved_to (offset + size * i) c) before next)
    (λ k. ap (λ b. moved_to offset (repeated size i c) k || b) (moved-moved offset (size * i) c k) ∙ sym (moved-or offset (repeated size i c) (moved_to (size * i) c) k)
    ∙ moved-same offset (λ j. repeated size i c j || moved_to (size * i) c j) (repeated size (i + 1) c) (repeated-more size i c some beyond) k)

-- all of them as one run
pub adds_whole : (all new : List (ℕ × ℕ)) (offset size count : ℕ) (c : ℕ → Bool) → 0 < size → ((j : ℕ) → j < size → c j ≡ true)
    → Adds all new (moved_to offset (λ k. nat_lt k (size * count))) → Adds all new (moved_to offset (repeated size count c))
adds_whole all new offset size count c some whole adds =
    adds_same all new (moved_to offset (λ k. nat_lt k (size * count))) (moved_to offset (repeated size count c)) adds
    (moved-same offset (λ k. nat_lt k (size * count)) (repeated size count c) (repeated-whole size count c some whole))

-- the first run covers all
pub first_covers : (runs : List (ℕ × ℕ)) (size : ℕ) → 0 < length runs → (d : ℕ × ℕ) → (get_or runs 0 d).0 ≡ 0 → (get_or runs 0 d).1 ≡ size → (j : ℕ) → j < size → is_in_ranges runs j ≡ true
first_covers [] size some d start end j lt = absurd (omega (arith, some))
first_covers (run ∷ runs) size some d start end j lt =
    ap (λ b. b || is_in_ranges runs j) (both_true (le-leb run.0 j (omega (arith, start))) (lt-ltb j (run.0 + run.1) (omega (arith, end, lt))))
