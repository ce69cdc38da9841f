-- Where the locals of a coroutine's states lie.
use Rattle.std.proofs.Common.{◌≡◌, ◌≢◌, ℕ, ◌+◌, ◌-◌, ◌<◌, ◌≤◌, Bool, true, false, cond, List, [], ◌∷◌, ◌++◌, Option, None, Some, ◌∙◌, ap, ap₂, arith, drop, get_or, length, map, refl, set, subst, suc, sym, take, zero, ⊎_elim}
use Rattle.std.specs.Prelude.{◌==◌, All, IfSome, IsPermutation, filter, flat_map, not, slice_index, slice_index_or, if◌then◌else◌}
use Rattle.std.specs.List.{AllPairs, list_any, range_with_len}
use Rattle.std.specs.Option.{option_to_list}
use Rattle.std.proofs.lemmas.Bool.{cases_eq, cases_lt, eq-eqb, eqb-true, ne_eqb}
use Rattle.std.proofs.lemmas.Bool.Decides.{Decides-eqb}
use Rattle.std.proofs.lemmas.List.Folds.{Any-from_list_any}
use Rattle.std.proofs.lemmas.Map.Made.{IsDistinct-from_AllPairs}
use Rattle.std.proofs.lemmas.Map.Steps.{length-le_from_distinct_below}
use Rattle.std.proofs.Math.Dec.{eqb}
use Rattle.std.proofs.lemmas.List.{append-nil, append_assoc, flat_map_more, get_or_default, get_or-drop, get_or-map, get_or-set_other, get_or-set_same, get_or_at, length-append, map-append, map_more, take-append-drop, take_more}
use Rattle.std.proofs.lemmas.List.Elements.{All-append, All-filter, All-get_or, All-head, All-tail, filter-append, filter_passes}
use Rattle.std.proofs.lemmas.List.Kept.{AllPairs-cons, AllPairs-filter}
use Rattle.std.proofs.lemmas.List.FromFn.{fill_by_all, get_or-map-range_with_len, get_or-range_with_len, length-map-range_with_len, length-range_with_len}
use Rattle.std.proofs.lemmas.List.Sorted.{length_permutation}
use Rattle.abi_index.specs.BitSet.{is_member, members_of}
use Rattle.abi_univariant.specs.Placement.{source_order}
use Rattle.abi_calc.specs.Coroutine.Lists.{own_of}
use Rattle.abi_calc.specs.Coroutine.States.{joined_places, own_places, places_with, rank_of, state_offsets, state_order}
use Rattle.abi_calc.proofs.CoroutineLemmas.Lists.{kept_more, own_next}

-- ---- ranks

-- of one promoted local more
pub rank_more : (promoted : List Bool) (n : ℕ) (b : Bool) → is_member promoted n ≡ b → rank_of promoted (n + 1) ≡ rank_of promoted n + cond b 1 0
rank_more promoted n true e = ap length (kept_more (is_member promoted) n true e) ∙ length-append (filter (is_member promoted) (range_with_len 0 n)) (n ∷ [])
rank_more promoted n false e = ap length (kept_more (is_member promoted) n false e) ∙ length-append (filter (is_member promoted) (range_with_len 0 n)) []

-- a member is below the set's size
pub member_below : (promoted : List Bool) (l : ℕ) → is_member promoted l ≡ true → l < length promoted
member_below [] l e = absurd (cc)
member_below (b ∷ bs) zero e = omega arith
member_below (b ∷ bs) (suc l) e = omega (arith, member_below bs l e)

-- the numbers from one on, up to another and from there
pub range_split : (a n m : ℕ) → range_with_len a (n + m) ≡ range_with_len a n ++ range_with_len (a + n) m
range_split a zero m =
    let start : a ≡ a + 0 = omega arith in
    let count : 0 + m ≡ m = omega arith in
    ap₂ range_with_len start count
range_split a (suc n) m =
    let e : suc n + m ≡ suc (n + m) = omega arith in
    let f : a + 1 + n ≡ a + suc n = omega arith in
    ap (range_with_len a) e ∙ ap (λ xs. a ∷ xs) (range_split (a + 1) n m ∙ ap (λ k. range_with_len (a + 1) n ++ range_with_len k m) f)

-- a promoted local stands among the members at its rank
pub rank_member : (promoted : List Bool) (l : ℕ) → is_member promoted l ≡ true → (d : ℕ) → (rank_of promoted l < length (members_of promoted)) × (get_or (members_of promoted) (rank_of promoted l) d ≡ l)
rank_member promoted l e d =
    let low : l < length promoted = member_below promoted l e in
    let rest : List ℕ = range_with_len (l + 1) (length promoted - (l + 1)) in
    let cut : length promoted - 0 ≡ l + suc (length promoted - (l + 1)) = omega (arith, low) in
    let zl : 0 + l ≡ l = omega arith in
    let all : range_with_len 0 (length promoted - 0) ≡ range_with_len 0 l ++ (l ∷ rest)
    = ap (range_with_len 0) cut ∙ range_split 0 l (suc (length promoted - (l + 1))) ∙ ap (λ k. range_with_len 0 l ++ range_with_len k (suc (length promoted - (l + 1)))) zl in
    let kept : filter (is_member promoted) (l ∷ rest) ≡ l ∷ filter (is_member promoted) rest = ap (λ b. cond b (l ∷ filter (is_member promoted) rest) (filter (is_member promoted) rest)) e in
    let whole : members_of promoted ≡ filter (is_member promoted) (range_with_len 0 l) ++ (l ∷ filter (is_member promoted) rest)
    = ap (filter (is_member promoted)) all ∙ filter-append (is_member promoted) (range_with_len 0 l) (l ∷ rest) ∙ ap (λ xs. filter (is_member promoted) (range_with_len 0 l) ++ xs) kept in
    let long = length-append (filter (is_member promoted) (range_with_len 0 l)) (l ∷ filter (is_member promoted) rest) in (
      omega (arith, ap length whole, long),
      ap (λ xs. get_or xs (rank_of promoted l) d) whole ∙ get_or_at (filter (is_member promoted) (range_with_len 0 l)) l (filter (is_member promoted) rest) d (rank_of promoted l) refl,
    )

-- the members ascend
members_ascend : (promoted : List Bool) → AllPairs (λ a b. a < b) (members_of promoted)
members_ascend promoted = AllPairs-filter (λ a b. a < b) (is_member promoted) (range_with_len 0 (length promoted - 0)) (λ i j d low short.
    let many : j < length promoted - 0 = omega (arith, short, length-range_with_len 0 (length promoted - 0)) in
    let first = get_or-range_with_len 0 (length promoted - 0) i d (omega (arith, low, many)) in
    let second = get_or-range_with_len 0 (length promoted - 0) j d many in
    omega (arith, first, second, low))

-- the member at a place is promoted, and the place is its rank
pub member_rank : (promoted : List Bool) (r : ℕ) → r < length (members_of promoted) → (is_member promoted (get_or (members_of promoted) r 0) ≡ true) × (rank_of promoted (get_or (members_of promoted) r 0) ≡ r)
member_rank promoted r short =
    let m : ℕ = get_or (members_of promoted) r 0 in
    let is : is_member promoted m ≡ true = All-get_or (λ x. is_member promoted x ≡ true) (members_of promoted) r 0 short (filter_passes (is_member promoted) (range_with_len 0 (length promoted - 0))) in
    let own = rank_member promoted m is 0 in
    let up = members_ascend promoted in (
      is,
      ⊎_elim (λ (low : rank_of promoted m < r). absurd (omega (arith, up (rank_of promoted m) r 0 low short, own.1)))
          (λ (high : r ≤ rank_of promoted m). ⊎_elim (λ (more : r < rank_of promoted m). absurd (omega (arith, up r (rank_of promoted m) 0 more own.0, own.1)))
          (λ (same : rank_of promoted m ≤ r). omega (arith, high, same)) (cases_lt r (rank_of promoted m)))
          (cases_lt (rank_of promoted m) r),
    )

-- ---- a state's locals, by place

-- the local at a place
pub name_at : {L : Type 0} (number : L → ℕ) (state : List L) (i : ℕ) (local : L) → i < length state → local ≡ get_or state i local → slice_index (map number state) i ≡ number local
name_at number state i local short is = get_or-map number state i local 0 short ∙ ap number (sym is)

-- how many of a state's locals aren't promoted, after one that isn't
pub own_count : {L : Type 0} (number : L → ℕ) (promoted : List Bool) (state : List L) (i : ℕ) (local : L) (b : Bool) → i < length state → local ≡ get_or state i local → not (is_member promoted (number local)) ≡ b
    → length (own_of promoted (map number (take (i + 1) state))) ≡ length (own_of promoted (map number (take i state))) + length (cond b (number local ∷ []) [])
own_count number promoted state i local b short is e =
    ap length (own_next number promoted state i local b short is e) ∙ length-append (own_of promoted (map number (take i state))) (cond b (number local ∷ []) [])

-- those before a place are no more than all
pub own_count_most : {L : Type 0} (number : L → ℕ) (promoted : List Bool) (state : List L) (n : ℕ) → length (own_of promoted (map number (take n state))) ≤ length (own_of promoted (map number state))
own_count_most number promoted state n =
    let all : map number state ≡ map number (take n state) ++ map number (drop n state) = ap (map number) (sym (take-append-drop n state)) ∙ map-append number (take n state) (drop n state) in
    let split : own_of promoted (map number state) ≡ own_of promoted (map number (take n state)) ++ own_of promoted (map number (drop n state))
    = ap (own_of promoted) all ∙ filter-append (λ local. not (is_member promoted local)) (map number (take n state)) (map number (drop n state)) in
    let long = length-append (own_of promoted (map number (take n state))) (own_of promoted (map number (drop n state))) in
    omega (arith, ap length split, long)

-- ---- offsets

-- where a state's next local lies
abbrev pub offset_after : (promoted : List Bool) (shared own state : List ℕ) (l : ℕ) → ℕ
offset_after promoted shared own state l =
    if is_member promoted l then slice_index shared (rank_of promoted l) else slice_index own (length (own_of promoted state))

offsets_none : (b : Bool) (x y : ℕ) (xs ys : List ℕ) → xs ≡ [] → ys ≡ [] → (if b then x ∷ xs else y ∷ ys) ≡ (if b then x else y) ∷ []
offsets_none true x y xs ys e f = ap (λ zs. x ∷ zs) e
offsets_none false x y xs ys e f = ap (λ zs. y ∷ zs) f

offsets_cons : (promoted : List Bool) (shared own : List ℕ) (x : ℕ) (state : List ℕ) (l : ℕ) (b : Bool) → is_member promoted x ≡ b
    → ((o : List ℕ) → state_offsets promoted shared o (state ++ l ∷ []) ≡ state_offsets promoted shared o state ++ offset_after promoted shared o state l ∷ [])
    → state_offsets promoted shared own (x ∷ (state ++ l ∷ [])) ≡ state_offsets promoted shared own (x ∷ state) ++ offset_after promoted shared own (x ∷ state) l ∷ []
offsets_cons promoted shared own x state l true e more =
    rw e (ap (λ xs. slice_index shared (rank_of promoted x) ∷ xs) (more own))
offsets_cons promoted shared own x state l false e more =
    let next : slice_index (drop 1 own) (length (own_of promoted state)) ≡ slice_index own (suc (length (own_of promoted state)))
    = get_or-drop 1 own (length (own_of promoted state)) 0 ∙ ap (slice_index own) (omega arith) in
    rw e (ap (λ xs. slice_index own 0 ∷ xs) (more (drop 1 own) ∙ ap (λ n. state_offsets promoted shared (drop 1 own) state ++ (if is_member promoted l then slice_index shared (rank_of promoted l) else n) ∷ []) next))

offsets_push : (promoted : List Bool) (shared own state : List ℕ) (l : ℕ)
    → state_offsets promoted shared own (state ++ l ∷ []) ≡ state_offsets promoted shared own state ++ offset_after promoted shared own state l ∷ []
offsets_push promoted shared own [] l = offsets_none (is_member promoted l) (slice_index shared (rank_of promoted l)) (slice_index own 0) [] [] refl refl
offsets_push promoted shared own (x ∷ state) l = offsets_cons promoted shared own x state l (is_member promoted x) refl (λ o. offsets_push promoted shared o state l)

-- with the offset of one more local
pub offsets_more : {L : Type 0} (number : L → ℕ) (promoted : List Bool) (shared own : List ℕ) (state : List L) (i : ℕ) (local : L) (offset : ℕ) → i < length state → local ≡ get_or state i local
    → offset ≡ offset_after promoted shared own (map number (take i state)) (number local)
    → state_offsets promoted shared own (map number (take (i + 1) state)) ≡ state_offsets promoted shared own (map number (take i state)) ++ offset ∷ []
offsets_more number promoted shared own state i local offset short is e =
    ap (state_offsets promoted shared own) (map_more number state i local short ∙ ap (λ l. map number (take i state) ++ number l ∷ []) (sym is))
    ∙ offsets_push promoted shared own (map number (take i state)) (number local) ∙ ap (λ o. state_offsets promoted shared own (map number (take i state)) ++ o ∷ []) (sym e)

-- of a promoted local
pub offset_shared : (promoted : List Bool) (shared own state : List ℕ) (l : ℕ) → is_member promoted l ≡ true → offset_after promoted shared own state l ≡ slice_index shared (rank_of promoted l)
offset_shared promoted shared own state l e = ap (λ b. if b then slice_index shared (rank_of promoted l) else slice_index own (length (own_of promoted state))) e

-- of another
pub offset_own : (promoted : List Bool) (shared own state : List ℕ) (l : ℕ) → is_member promoted l ≡ false → offset_after promoted shared own state l ≡ slice_index own (length (own_of promoted state))
offset_own promoted shared own state l e = ap (λ b. if b then slice_index shared (rank_of promoted l) else slice_index own (length (own_of promoted state))) e

-- ---- the places of promoted locals in a state

-- which of the state's places before one name the member at a rank
abbrev pub places_before : (promoted : List Bool) (state : List ℕ) (rank n : ℕ) → List ℕ
places_before promoted state rank n = filter (λ k. slice_index state k == slice_index (members_of promoted) rank) (range_with_len 0 n)

-- the table says of each rank the place before this one that names its member
abbrev pub IsHeldBefore : (promoted : List Bool) (state : List ℕ) (held : List (Option ℕ)) (n : ℕ) → Type 0
IsHeldBefore promoted state held n = (rank : ℕ) → rank < length (members_of promoted) → option_to_list (get_or held rank None) ≡ places_before promoted state rank n

-- none is kept of numbers that fail
pub none_kept : (p : ℕ → Bool) (n : ℕ) → ((k : ℕ) → k < n → p k ≡ false) → filter p (range_with_len 0 n) ≡ []
none_kept p zero all = refl
none_kept p (suc n) all =
    let e : suc n ≡ n + 1 = omega arith in
    ap (λ k. filter p (range_with_len 0 k)) e ∙ kept_more p n false (all n (omega arith)) ∙ append-nil (filter p (range_with_len 0 n)) ∙ none_kept p n (λ k low. all k (omega (arith, low)))

-- a place that names another local
pub held_same : (promoted : List Bool) (state : List ℕ) (held : List (Option ℕ)) (n : ℕ) → is_member promoted (slice_index state n) ≡ false → IsHeldBefore promoted state held n → IsHeldBefore promoted state held (n + 1)
held_same promoted state held n other h rank short =
    let differ : slice_index state n ≡ slice_index (members_of promoted) rank → ⊥ = λ same. (let yes = (member_rank promoted rank short).0 in let no : is_member promoted (slice_index (members_of promoted) rank) ≡ false = ap (is_member promoted) (sym same) ∙ other in cc) in
    h rank short ∙ sym (kept_more (λ k. slice_index state k == slice_index (members_of promoted) rank) n false (ne_eqb (slice_index state n) (slice_index (members_of promoted) rank) differ)
    ∙ append-nil (places_before promoted state rank n))

-- a place that names a promoted local
pub held_set : (promoted : List Bool) (state : List ℕ) (held : List (Option ℕ)) (n : ℕ) → n < length state → AllPairs (λ a b. a ≢ b) state → length held ≡ length (members_of promoted)
    → is_member promoted (slice_index state n) ≡ true → IsHeldBefore promoted state held n → IsHeldBefore promoted state (set held (rank_of promoted (slice_index state n)) (Some n)) (n + 1)
held_set promoted state held n short once long is h rank low =
    ⊎_elim here there (cases_eq rank (rank_of promoted (slice_index state n)))
  where
    here : rank ≡ rank_of promoted (slice_index state n) → option_to_list (get_or (set held (rank_of promoted (slice_index state n)) (Some n)) rank None) ≡ places_before promoted state rank (n + 1)
    here e =
        let own = rank_member promoted (slice_index state n) is 0 in
        let named : slice_index (members_of promoted) rank ≡ slice_index state n = ap (slice_index (members_of promoted)) e ∙ own.1 in
        let none : places_before promoted state rank n ≡ [] = none_kept (λ k. slice_index state k == slice_index (members_of promoted) rank) n (λ k less. ne_eqb (slice_index state k) (slice_index (members_of promoted) rank) (λ same. once k n 0 less short (same ∙ named))) in
        ap (λ x. option_to_list (get_or (set held (rank_of promoted (slice_index state n)) (Some n)) x None)) e
        ∙ ap option_to_list (get_or-set_same held (rank_of promoted (slice_index state n)) (Some n) None (omega (arith, own.0, long)))
        ∙ sym (kept_more (λ k. slice_index state k == slice_index (members_of promoted) rank) n true (eq-eqb (slice_index state n) (slice_index (members_of promoted) rank) (sym named)) ∙ ap (λ xs. xs ++ n ∷ []) none)

    there : (rank ≡ rank_of promoted (slice_index state n) → ⊥) → option_to_list (get_or (set held (rank_of promoted (slice_index state n)) (Some n)) rank None) ≡ places_before promoted state rank (n + 1)
    there other =
        let differ : slice_index state n ≡ slice_index (members_of promoted) rank → ⊥ = λ same. other (sym (ap (rank_of promoted) same ∙ (member_rank promoted rank low).1)) in
        ap option_to_list (get_or-set_other held (rank_of promoted (slice_index state n)) rank (Some n) None other)
        ∙ h rank low ∙ sym (kept_more (λ k. slice_index state k == slice_index (members_of promoted) rank) n false (ne_eqb (slice_index state n) (slice_index (members_of promoted) rank) differ)
        ∙ append-nil (places_before promoted state rank n))

-- ---- reading the tables

-- what holds of all holds of the item at a place
pub item_in : {A : Type 0} (P : A → Type 0) (xs : List A) (i : ℕ) (x : A) → All P xs → i < length xs → x ≡ get_or xs i x → P x
item_in P xs i x all short is = subst P (sym is) (all i x short)

-- the table of ranks has a rank for each local
pub rank_read : (promoted : List Bool) (below : List ℕ) (l : ℕ) → below ≡ map (rank_of promoted) (source_order (length promoted)) → l < length promoted → (l < length below) × (slice_index below l ≡ rank_of promoted l)
rank_read promoted below l e low = (
  omega (arith, low, ap length e, length-map-range_with_len (rank_of promoted) 0 (length promoted)),
  ap (λ xs. slice_index xs l) e ∙ get_or-map-range_with_len (rank_of promoted) 0 (length promoted) l l 0 low (omega arith),
)

-- ---- places in an order

-- as many places of a state name locals that aren't promoted as there are such locals
pub kept_map : {A B : Type 0} (p : B → Bool) (f : A → B) (xs : List A) → length (filter p (map f xs)) ≡ length (filter (λ x. p (f x)) xs)
kept_map p f [] = refl
kept_map p f (x ∷ xs) = by (p (f x)) (kept_map p f xs)
  where
    by : (b : Bool) → length (filter p (map f xs)) ≡ length (filter (λ y. p (f y)) xs) → length (cond b (f x ∷ filter p (map f xs)) (filter p (map f xs))) ≡ length (cond b (x ∷ filter (λ y. p (f y)) xs) (filter (λ y. p (f y)) xs))
    by true e = ap suc e
    by false e = e

pub count_own_places : (promoted : List Bool) (state : List ℕ) → length (own_places promoted state) ≡ length (own_of promoted state)
count_own_places promoted state =
    let same : state ≡ map (slice_index state) (source_order (length state)) = fill_by_all (slice_index state) state (length state) 0 refl (λ k low. refl) in
    sym (kept_map (λ l. not (is_member promoted l)) (slice_index state) (source_order (length state))) ∙ ap (λ s. length (own_of promoted s)) (sym same)

-- distinct lists that share nothing are distinct together
pub pairs_append : {A : Type 0} (R : A → A → Type 0) (xs ys : List A) → AllPairs R xs → AllPairs R ys → All (λ x. All (R x) ys) xs → AllPairs R (xs ++ ys)
pairs_append R [] ys hx hy cross = hy
pairs_append R (x ∷ xs) ys hx hy cross =
    AllPairs-cons R x (xs ++ ys)
    (All-append (R x) xs ys (λ k d short. hx 0 (suc k) d (omega arith) (omega (arith, short))) (All-head (λ z. All (R z) ys) x xs cross))
    (pairs_append R xs ys (λ i j d low short. hx (suc i) (suc j) d (omega (arith, low)) (omega (arith, short))) hy (All-tail (λ z. All (R z) ys) x xs cross))

-- a number that a list has is below what all are
pub found_below : (xs : List ℕ) (n q : ℕ) → All (λ x. x < n) xs → list_any (eqb q) xs ≡ true → q < n
found_below xs n q all found =
    let some = Any-from_list_any (eqb q) xs found in
    let e : q ≡ some.1 = eqb-true q some.1 some.4 in
    let same = some.3 in
    let low = all some.0 some.1 some.2 in
    omega (arith, e, same, low)

-- the members are below the set's size
pub members_below : (promoted : List Bool) → All (λ l. l < length promoted) (members_of promoted)
members_below promoted i d short =
    member_below promoted (get_or (members_of promoted) i d) (All-get_or (λ x. is_member promoted x ≡ true) (members_of promoted) i d short (filter_passes (is_member promoted) (range_with_len 0 (length promoted - 0))))

-- the members of a set and those of a state's locals that it hasn't are no more than it might have
pub members_and_own : (promoted : List Bool) (state : List ℕ) → AllPairs (λ a b. a ≢ b) state → All (λ l. l < length promoted) state → length (members_of promoted) + length (own_of promoted state) ≤ length promoted
members_and_own promoted state once within =
    let first : AllPairs (λ a b. a ≢ b) (members_of promoted) = λ i j d low short. (λ same. (let less = members_ascend promoted i j d low short in omega (arith, same, less))) in
    let second : AllPairs (λ a b. a ≢ b) (own_of promoted state) = AllPairs-filter (λ a b. a ≢ b) (λ l. not (is_member promoted l)) state once in
    let cross : All (λ x. All (λ y. x ≢ y) (own_of promoted state)) (members_of promoted)
    = λ i d low k e short. (λ same.
    (let yes = All-get_or (λ x. is_member promoted x ≡ true) (members_of promoted) i d low (filter_passes (is_member promoted) (range_with_len 0 (length promoted - 0))) in
    let no : not (is_member promoted (get_or (own_of promoted state) k e)) ≡ true = All-get_or (λ x. not (is_member promoted x) ≡ true) (own_of promoted state) k e short (filter_passes (λ l. not (is_member promoted l)) state) in
    cc)) in
    let below : All (λ l. l < length promoted) (members_of promoted ++ own_of promoted state)
    = All-append (λ l. l < length promoted) (members_of promoted) (own_of promoted state)
    (members_below promoted)
    (All-filter (λ l. not (is_member promoted l)) (λ l. l < length promoted) state within) in
    let distinct = IsDistinct-from_AllPairs Decides-eqb (members_of promoted ++ own_of promoted state) (pairs_append (λ a b. a ≢ b) (members_of promoted) (own_of promoted state) first second cross) in
    let few = length-le_from_distinct_below (members_of promoted ++ own_of promoted state) (length promoted) distinct (λ q found. found_below (members_of promoted ++ own_of promoted state) (length promoted) q below found) in
    let long = length-append (members_of promoted) (own_of promoted state) in
    omega (arith, few, long)

-- so there are no more members than that
pub members_few : (promoted : List Bool) → length (members_of promoted) ≤ length promoted
members_few promoted =
    omega (arith, members_and_own promoted [] (λ i j d low short. absurd (omega (arith, short))) (λ k d short. absurd (omega (arith, short))))

-- ranks that follow one another alike
pub same_flat : {A : Type 0} (f h : ℕ → List A) (n : ℕ) (xs : List ℕ) → All (λ x. x < n) xs → ((k : ℕ) → k < n → f k ≡ h k) → flat_map f xs ≡ flat_map h xs
same_flat f h n [] all e = refl
same_flat f h n (x ∷ xs) all e = ap₂ (λ a b. a ++ b) (e x (All-head (λ k. k < n) x xs all)) (same_flat f h n xs (All-tail (λ k. k < n) x xs all) e)

-- one more of the places that are held
pub flat_next : {A : Type 0} (f : ℕ → List A) (xs : List ℕ) (i x : ℕ) → i < length xs → x ≡ get_or xs i x → flat_map f (take (i + 1) xs) ≡ flat_map f (take i xs) ++ f x
flat_next f xs i x short is =
    ap (flat_map f) (take_more xs i x short ∙ ap (λ y. take i xs ++ y ∷ []) (sym is)) ∙ sym (flat_map_more f [] (take i xs) x)

-- ---- the joined places, as indices that `at` makes

module _ {F : Type 0} (at : ℕ → F) (held : List (Option ℕ)) (ranks : List ℕ) where
  -- the places of the ranks before one
  abbrev pub held_before : (i : ℕ) → List ℕ
  held_before i = flat_map (λ rank. option_to_list (slice_index_or held rank None)) (take i ranks)

  -- with a place that is held
  pub joined_kept : (list : List F) (i place : ℕ) → i < length ranks → get_or held (get_or ranks i 0) None ≡ Some place → list ≡ map at (held_before i) → list ++ at place ∷ [] ≡ map at (held_before (i + 1))
  joined_kept list i place short is before =
      let more : held_before (i + 1) ≡ held_before i ++ place ∷ []
      = flat_next (λ rank. option_to_list (slice_index_or held rank None)) ranks i (get_or ranks i 0) short (get_or_default ranks i 0 (get_or ranks i 0) short) ∙ ap (λ found. held_before i ++ option_to_list found) is in
      ap (λ xs. xs ++ at place ∷ []) before ∙ sym (ap (map at) more ∙ map-append at (held_before i) (place ∷ []))

  -- or with none
  pub joined_left : (list : List F) (i : ℕ) → i < length ranks → get_or held (get_or ranks i 0) None ≡ None → list ≡ map at (held_before i) → list ≡ map at (held_before (i + 1))
  joined_left list i short is before =
      let more : held_before (i + 1) ≡ held_before i ++ []
      = flat_next (λ rank. option_to_list (slice_index_or held rank None)) ranks i (get_or ranks i 0) short (get_or_default ranks i 0 (get_or ranks i 0) short) ∙ ap (λ found. held_before i ++ option_to_list found) is in
      before ∙ sym (ap (map at) (more ∙ append-nil (held_before i)))

-- with the place that one more index names
pub joined_more : {F : Type 0} (at : ℕ → F) (number : F → ℕ) (before places : List ℕ) (own : List F) (list : List F) (i : ℕ) (index : F) → i < length own → index ≡ get_or own i index
    → list ≡ map at (before ++ map (slice_index places) (map number (take i own))) → list ++ at (slice_index places (number index)) ∷ [] ≡ map at (before ++ map (slice_index places) (map number (take (i + 1) own)))
joined_more at number before places own list i index short is so =
    let more : map (slice_index places) (map number (take (i + 1) own)) ≡ map (slice_index places) (map number (take i own)) ++ slice_index places (number index) ∷ []
    = ap (map (slice_index places)) (map_more number own i index short ∙ ap (λ x. map number (take i own) ++ number x ∷ []) (sym is)) ∙ map-append (slice_index places) (map number (take i own)) (number index ∷ []) in
    ap (λ xs. xs ++ at (slice_index places (number index)) ∷ []) so
    ∙ sym (ap (λ xs. map at (before ++ xs)) more ∙ ap (map at) (sym (append_assoc before (map (slice_index places) (map number (take i own))) (slice_index places (number index) ∷ [])))
    ∙ map-append at (before ++ map (slice_index places) (map number (take i own))) (slice_index places (number index) ∷ []))

-- what is no item is none
pub none_found : {A : Type 0} (found : Option A) → ((x : A) → found ≡ Some x → ⊥) → found ≡ None
none_found None never = refl
none_found (Some x) never = absurd (never x refl)

-- ---- a state's order

-- an order has as many places as it orders
pub order_count : (n : ℕ) (order : List ℕ) → IsPermutation (source_order n) order → length order ≡ n
order_count n order p = length_permutation (source_order n) order p ∙ length-range_with_len 0 n

-- places below a count that an index type names are named by it
pub held_small : (n most : ℕ) (found : Option ℕ) → n ≤ most + 1 → IfSome found (λ place. place < n) → IfSome found (λ place. place ≤ most)
held_small n most None few h = h
held_small n most (Some place) few h = omega (arith, few, h)

-- the joined places are the state's order, where the tables tell what is held and what is the state's own
pub joined_is : (promoted : List Bool) (held : List (Option ℕ)) (ranks places own state : List ℕ) → All (λ rank. rank < length ranks) ranks
    → ((rank : ℕ) → rank < length ranks → option_to_list (slice_index_or held rank None) ≡ places_with state (slice_index (members_of promoted) rank))
    → places ≡ own_places promoted state → joined_places held ranks places own ≡ state_order promoted ranks own state
joined_is promoted held ranks places own state within tag_distinguishes is =
    ap₂ (λ a b. a ++ b)
    (same_flat (λ rank. option_to_list (slice_index_or held rank None)) (λ rank. places_with state (slice_index (members_of promoted) rank)) (length ranks) ranks within tag_distinguishes)
    (ap (λ xs. map (slice_index xs) own) is)
