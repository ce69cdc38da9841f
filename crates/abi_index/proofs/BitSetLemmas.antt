-- Steps over the members of a set.
use Rattle.std.proofs.Common.{◌≡◌, ℕ, zero, suc, ◌+◌, ◌-◌, ◌<◌, ◌≤◌, List, [], ◌∷◌, length, Bool, true, false, arith, refl, cond, replicate, nat_lt, ◌∙◌, sym, inl, inr, map, drop, count_by, drop-cons, subst}
use Rattle.std.proofs.lemmas.Bool.{cases_lt, lt-ltb, le-ltb}
use Rattle.std.proofs.lemmas.List.{get_or-replicate, get_or_past, length-replicate, length-map}
use Rattle.std.proofs.lemmas.List.Sums.{length-filter}
use Rattle.std.proofs.Math.ListN.{drop_of_length-le}
use Rattle.std.specs.List.{range_with_len, filter}
use Rattle.abi_index.specs.BitSet.{is_member, members_from, members_of}

range_step : (i n : ℕ) → i < n → range_with_len i (n - i) ≡ i ∷ range_with_len (i + 1) (n - (i + 1))
range_step i n h =
    let e : n - i ≡ suc (n - (i + 1)) = omega arith in
    rw e

pub member_step : (set : List Bool) (i : ℕ) → i < length set → is_member set i ≡ true → members_from set i ≡ i ∷ members_from set (i + 1)
member_step set i h e = rw (range_step i (length set) h, e)

pub other_step : (set : List Bool) (i : ℕ) → i < length set → is_member set i ≡ false → members_from set i ≡ members_from set (i + 1)
other_step set i h e = rw (range_step i (length set) h, e)

pub none_from : (set : List Bool) (i : ℕ) → length set ≤ i → members_from set i ≡ []
none_from set i h =
    let e : length set - i ≡ 0 = omega arith in
    rw e

few_with : (b : Bool) (x : ℕ) (xs : List ℕ) (n : ℕ) → length xs ≤ n → length (cond b (x ∷ xs) xs) ≤ suc n
few_with true x xs n h = omega (arith, h)
few_with false x xs n h = omega (arith, h)

pub few_in : (set : List Bool) (i n : ℕ) → length (filter (is_member set) (range_with_len i n)) ≤ n
few_in set i zero = omega arith
few_in set i (suc n) = few_with (is_member set i) i _ n (few_in set (i + 1) n)

pub few_left : {I : Type 0} (at : ℕ → I) (set : List Bool) (i : ℕ) → length (map at (members_from set i)) ≤ length set - i
few_left at set i = rw length-map (few_in set i (length set - i))

both_with : (b : Bool) (x : ℕ) (xs : List ℕ) (ys : List Bool) → length xs ≡ length ys → length (cond b (x ∷ xs) xs) ≡ length (cond b (b ∷ ys) ys)
both_with true x xs ys e = omega (arith, e)
both_with false x xs ys e = e

count_in : (n : ℕ) (set : List Bool) (i : ℕ) → i + n ≡ length set
    → length (filter (is_member set) (range_with_len i n)) ≡ length (filter (λ b. b) (drop i set))
count_in zero set i e = let past : length set ≤ i = omega arith in rw (drop_of_length-le set past) refl
count_in (suc n) set i e =
    let within : i < length set = omega arith in
    let next : i + 1 + n ≡ length set = omega arith in
    let more : suc i ≡ i + 1 = omega arith in
    let rest : length (filter (is_member set) (range_with_len (i + 1) n)) ≡ length (filter (λ (b : Bool). b) (drop (suc i) set)) =
    subst (λ k. length (filter (is_member set) (range_with_len (i + 1) n)) ≡ length (filter (λ (b : Bool). b) (drop k set))) (sym more) (count_in n set (i + 1) next) in
    rw (drop-cons set i false within) (both_with (is_member set i) i _ _ rest)

pub count_members : (set : List Bool) → count_by (λ b. b) set ≡ length (members_of set)
count_members set =
    let e : length set - 0 ≡ length set = omega arith in
    let whole : 0 + length set ≡ length set = omega arith in
    rw (e, ← length-filter (λ (b : Bool). b) set) (sym (count_in (length set) set 0 whole))

pub all_members : (n k : ℕ) → is_member (replicate n true) k ≡ nat_lt k n
all_members n k =
    elim (cases_lt k n) [
      | inl h ↦ get_or-replicate n k true false h ∙ sym (lt-ltb k n h)
      | inr h ↦ get_or_past (replicate n true) k false (rw length-replicate h) ∙ sym (le-ltb k n h)
    ]
