-- Where a state of a coroutine has its locals.
use Rattle.std.proofs.Common.{◌≡◌, ◌≢◌, ℕ, zero, suc, ◌+◌, ◌<◌, ◌≤◌, ◌⊎◌, All, Bool, true, false, List, [], ◌∷◌, ◌++◌, ap, arith, cond, drop, inl, inr, length, length-drop, not, refl, subst, sym, ◌∙◌}
use Rattle.std.specs.Prelude.{Some, if◌then◌else◌, slice_get, slice_index}
use Rattle.std.proofs.lemmas.List.Elements.{All-head, All-tail}
use Rattle.std.proofs.lemmas.Option.{get_or_from_slice_get, same_Some, slice_get-get_or, slice_get_within}
use Rattle.abi_index.specs.BitSet.{is_member, members_of}
use Rattle.abi_univariant.specs.Apart.{AreApart, IsBeside}
use Rattle.abi_calc.specs.Coroutine.Lists.{own_of, picked}
use Rattle.abi_calc.specs.Coroutine.States.{rank_of, state_offsets}
use Rattle.abi_calc.proofs.CoroutineLemmas.States.{members_below, rank_member}

-- ---- items at places

-- a place in range has an item
pub item_there : {A : Type 0} (xs : List A) (i : ℕ) → i < length xs → (x : A) × (slice_get xs i ≡ Some x)
item_there [] i within = absurd (omega (arith, within))
item_there (x ∷ xs) zero within = (x, refl)
item_there (x ∷ xs) (suc i) within = item_there xs i (omega (arith, within))

-- behind a list stands what stands in the one that follows it
pub item_behind : {A : Type 0} (xs ys : List A) (i : ℕ) → slice_get (xs ++ ys) (length xs + i) ≡ slice_get ys i
item_behind [] ys i = let same : 0 + i ≡ i = omega arith in rw same refl
item_behind (x ∷ xs) ys i = let next : suc (length xs) + i ≡ suc (length xs + i) = omega arith in rw next (item_behind xs ys i)

-- what is left of a list behind a place
pub item_left : {A : Type 0} (xs : List A) (n i : ℕ) → slice_get (drop n xs) i ≡ slice_get xs (n + i)
item_left xs zero i = let same : 0 + i ≡ i = omega arith in rw same refl
item_left [] (suc n) i = refl
item_left (x ∷ xs) (suc n) i = let next : suc n + i ≡ suc (n + i) = omega arith in rw next (item_left xs n i)

-- the items that places name: one for each
pub picked_count : {A : Type 0} (items : List A) (places : List ℕ) → All (λ k. k < length items) places → length (picked items places) ≡ length places
picked_count items [] within = refl
picked_count items (k ∷ places) within =
    let there = item_there items k (All-head (λ k. k < length items) k places within) in
    rw there.1 (ap suc (picked_count items places (All-tail (λ k. k < length items) k places within)))

-- and at each place the item that it names
pub picked_at : {A : Type 0} (items : List A) (places : List ℕ) (q k : ℕ) → All (λ k. k < length items) places → slice_get places q ≡ Some k → slice_get (picked items places) q ≡ slice_get items k
picked_at items [] q k within is = absurd (cc)
picked_at items (l ∷ places) zero k within is =
    let there = item_there items l (All-head (λ k. k < length items) l places within) in
    let same : l ≡ k = same_Some l k is in
    rw there.1 (sym there.1 ∙ ap (slice_get items) same)
picked_at items (l ∷ places) (suc q) k within is =
    let there = item_there items l (All-head (λ k. k < length items) l places within) in
    rw there.1 (picked_at items places q k (All-tail (λ k. k < length items) l places within) is)

-- ---- parts that share no byte

-- two parts share no byte
abbrev pub AreTwoApart : (o m p n : ℕ) → Type 0
AreTwoApart o m p n = (o + m ≤ p) ⊎ (p + n ≤ o)

-- told from the other side
pub two_swap : (o m p n : ℕ) → AreTwoApart o m p n → AreTwoApart p n o m
two_swap o m p n (inl h) = inr h
two_swap o m p n (inr h) = inl h

-- there is a size for each offset
pub apart_count : (w : ℕ) (os ms : List ℕ) → AreApart w os ms → length os ≡ length ms
apart_count w [] [] h = refl
apart_count w [] (m ∷ ms) h = absurd h
apart_count w (o ∷ os) [] h = absurd h
apart_count w (o ∷ os) (m ∷ ms) h = ap suc (apart_count w os ms h.2)

-- a part beside others is beside each of them
pub beside_at : (o m : ℕ) (os ms : List ℕ) (j : ℕ) → j < length os → IsBeside o m os ms → AreTwoApart o m (slice_index os j) (slice_index ms j)
beside_at o m [] [] j low h = absurd (omega (arith, low))
beside_at o m [] (n ∷ ns) j low h = absurd h
beside_at o m (p ∷ os) [] j low h = absurd h
beside_at o m (p ∷ os) (n ∷ ms) zero low h = h.0
beside_at o m (p ∷ os) (n ∷ ms) (suc j) low h = beside_at o m os ms j (omega (arith, low)) h.1

-- each ends inside
pub apart_inside : (w : ℕ) (os ms : List ℕ) (j : ℕ) → j < length os → AreApart w os ms → slice_index os j + slice_index ms j ≤ w
apart_inside w [] [] j low h = absurd (omega (arith, low))
apart_inside w [] (m ∷ ms) j low h = absurd h
apart_inside w (o ∷ os) [] j low h = absurd h
apart_inside w (o ∷ os) (m ∷ ms) zero low h = h.0
apart_inside w (o ∷ os) (m ∷ ms) (suc j) low h = apart_inside w os ms j (omega (arith, low)) h.2

-- two different ones share no byte
pub apart_two : (w : ℕ) (os ms : List ℕ) (i j : ℕ) → i < length os → j < length os → i ≢ j → AreApart w os ms → AreTwoApart (slice_index os i) (slice_index ms i) (slice_index os j) (slice_index ms j)
apart_two w [] [] i j low high other h = absurd (omega (arith, low))
apart_two w [] (m ∷ ms) i j low high other h = absurd h
apart_two w (o ∷ os) [] i j low high other h = absurd h
apart_two w (o ∷ os) (m ∷ ms) zero zero low high other h = absurd (other refl)
apart_two w (o ∷ os) (m ∷ ms) zero (suc j) low high other h = beside_at o m os ms j (omega (arith, high)) h.1
apart_two w (o ∷ os) (m ∷ ms) (suc i) zero low high other h = two_swap o m (slice_index os i) (slice_index ms i) (beside_at o m os ms i (omega (arith, low)) h.1)
apart_two w (o ∷ os) (m ∷ ms) (suc i) (suc j) low high other h = apart_two w os ms i j (omega (arith, low)) (omega (arith, high)) (λ e. other (ap suc e)) h.2

-- the parts at two places
pub apart_at : (w : ℕ) (os ms : List ℕ) (i j o p m n : ℕ) → AreApart w os ms → i ≢ j → slice_get os i ≡ Some o → slice_get os j ≡ Some p → slice_get ms i ≡ Some m → slice_get ms j ≡ Some n → AreTwoApart o m p n
apart_at w os ms i j o p m n h other oi pj mi nj =
    let first : slice_index os i ≡ o = get_or_from_slice_get os i o 0 oi in
    let second : slice_index os j ≡ p = get_or_from_slice_get os j p 0 pj in
    let width : slice_index ms i ≡ m = get_or_from_slice_get ms i m 0 mi in
    let breadth : slice_index ms j ≡ n = get_or_from_slice_get ms j n 0 nj in
    subst (λ x. AreTwoApart x m p n) first
    (subst (λ x. AreTwoApart (slice_index os i) x p n) width
    (subst (λ x. AreTwoApart (slice_index os i) (slice_index ms i) x n) second
    (subst (AreTwoApart (slice_index os i) (slice_index ms i) (slice_index os j)) breadth (apart_two w os ms i j (slice_get_within os i o oi) (slice_get_within os j p pj) other h))))

-- the part at a place ends inside
pub inside_at : (w : ℕ) (os ms : List ℕ) (i o m : ℕ) → AreApart w os ms → slice_get os i ≡ Some o → slice_get ms i ≡ Some m → o + m ≤ w
inside_at w os ms i o m h here there =
    omega (arith, apart_inside w os ms i (slice_get_within os i o here) h, get_or_from_slice_get os i o 0 here, get_or_from_slice_get ms i m 0 there)

-- ---- promoted locals by rank

-- a promoted local stands at its rank among the promoted ones
pub ranked : (promoted : List Bool) (local : ℕ) → is_member promoted local ≡ true → slice_get (members_of promoted) (rank_of promoted local) ≡ Some local
ranked promoted local is =
    slice_get-get_or (members_of promoted) (rank_of promoted local) 0 (rank_member promoted local is 0).0 ∙ ap (λ l. Some l) (rank_member promoted local is 0).1

-- the promoted locals are in range
pub members_within : (promoted : List Bool) (count : ℕ) → length promoted ≡ count → All (λ l. l < count) (members_of promoted)
members_within promoted count size = subst (λ n. All (λ l. l < n) (members_of promoted)) size (members_below promoted)

-- ---- the offsets of a state's locals

-- a promoted local lies where the first list has it
pub promoted_offset : (promoted : List Bool) (shared own state : List ℕ) (place local offset : ℕ) → slice_get state place ≡ Some local → slice_get (state_offsets promoted shared own state) place ≡ Some offset
    → is_member promoted local ≡ true → offset ≡ slice_index shared (rank_of promoted local)
promoted_offset promoted shared own [] place local offset here there is = absurd (cc)
promoted_offset promoted shared own (l ∷ state) zero local offset here there is =
    let same : l ≡ local = same_Some l local here in
    let member : is_member promoted l ≡ true = ap (is_member promoted) same ∙ is in
    let found : Some (slice_index shared (rank_of promoted l)) ≡ Some offset = rw member at there in
    sym (same_Some (slice_index shared (rank_of promoted l)) offset found) ∙ ap (λ k. slice_index shared (rank_of promoted k)) same
promoted_offset promoted shared own (l ∷ state) (suc place) local offset here there is = by (is_member promoted l) there
    (λ later. promoted_offset promoted shared own state place local offset here later is) (λ later. promoted_offset promoted shared (drop 1 own) state place local offset here later is)
  where
    by : (b : Bool) → slice_get (if b then slice_index shared (rank_of promoted l) ∷ state_offsets promoted shared own state else slice_index own 0 ∷ state_offsets promoted shared (drop 1 own) state) (suc place) ≡ Some offset
        → (slice_get (state_offsets promoted shared own state) place ≡ Some offset → offset ≡ slice_index shared (rank_of promoted local))
        → (slice_get (state_offsets promoted shared (drop 1 own) state) place ≡ Some offset → offset ≡ slice_index shared (rank_of promoted local))
        → offset ≡ slice_index shared (rank_of promoted local)
    by true at first second = first at
    by false at first second = second at

-- the first item of a list that has one
first_item : (xs : List ℕ) (n : ℕ) → length xs ≡ suc n → slice_get xs 0 ≡ Some (slice_index xs 0)
first_item [] n size = absurd (omega (arith, size))
first_item (x ∷ xs) n size = refl

-- another lies where the state's own list has it
pub own_offset : (promoted : List Bool) (shared own state : List ℕ) (place local offset : ℕ) → length own ≡ length (own_of promoted state) → slice_get state place ≡ Some local
    → slice_get (state_offsets promoted shared own state) place ≡ Some offset → is_member promoted local ≡ false
    → (q : ℕ) × (slice_get (own_of promoted state) q ≡ Some local) × (slice_get own q ≡ Some offset)
own_offset promoted shared own [] place local offset size here there is = absurd (cc)
own_offset promoted shared own (l ∷ state) zero local offset size here there is =
    let same : l ≡ local = same_Some l local here in
    let other : is_member promoted l ≡ false = ap (is_member promoted) same ∙ is in
    let found : Some (slice_index own 0) ≡ Some offset = rw other at there in
    let long : length own ≡ suc (length (own_of promoted state)) = rw other at size in
    rw other (0, here, first_item own (length (own_of promoted state)) long ∙ found)
own_offset promoted shared own (l ∷ state) (suc place) local offset size here there is =
    by (is_member promoted l) size there (λ rest long later. own_offset promoted shared rest state place local offset long here later is)
  where
    by : (b : Bool) → length own ≡ length (cond (not b) (l ∷ own_of promoted state) (own_of promoted state))
        → slice_get (if b then slice_index shared (rank_of promoted l) ∷ state_offsets promoted shared own state else slice_index own 0 ∷ state_offsets promoted shared (drop 1 own) state) (suc place) ≡ Some offset
        → ((rest : List ℕ) → length rest ≡ length (own_of promoted state) → slice_get (state_offsets promoted shared rest state) place ≡ Some offset
        → (q : ℕ) × (slice_get (own_of promoted state) q ≡ Some local) × (slice_get rest q ≡ Some offset))
        → (q : ℕ) × (slice_get (cond (not b) (l ∷ own_of promoted state) (own_of promoted state)) q ≡ Some local) × (slice_get own q ≡ Some offset)
    by true long at later = later own long at
    by false long at later =
        let found = later (drop 1 own) (omega (arith, long, length-drop 1 own)) at in
        let next : 1 + found.0 ≡ suc found.0 = omega arith in
        (suc found.0, found.1, ap (slice_get own) (sym next) ∙ sym (item_left own 1 found.0) ∙ found.2)
