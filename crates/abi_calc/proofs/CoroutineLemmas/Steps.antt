-- The conflicts of a coroutine's locals, settled one after another.
use Rattle.std.proofs.Common.{◌≡◌, ℕ, ◌+◌, ◌<◌, ◌≤◌, ◌==◌, ◌||◌, All, Bool, true, false, List, [], ◌∷◌, ap, arith, cond, fold, get_or, length, map, nat_lt, not, refl, sym, take, ◌∙◌}
use Rattle.std.specs.List.{list_any, range_with_len}
use Rattle.std.proofs.lemmas.Bool.{lt-ltb}
use Rattle.std.proofs.lemmas.List.{ext_get_or, get_or-map, length-map}
use Rattle.std.proofs.lemmas.List.Elements.{All-filter, All-head, All-map, All-same, All-tail}
use Rattle.std.proofs.lemmas.List.Folds.{list_any_at}
use Rattle.std.proofs.lemmas.List.Filters.{length-filter_more}
use Rattle.std.proofs.lemmas.List.FromFn.{fill_by_all, get_or-map-range_with_len, get_or-range_with_len, length-map-range_with_len, length-range_with_len}
use Rattle.abi_index.specs.BitSet.{is_member}
use Rattle.abi_index.specs.Relation.{Relation, column_count, columns_of, is_entry}
use Rattle.abi_univariant.specs.Placement.{source_order}
use Rattle.abi_calc.specs.Coroutine.Promotion.{holder_of, holders_of, promote, used_count}
use Rattle.abi_calc.proofs.CoroutineLemmas.Holders.{numbers_there}

-- a set to which one more local is added
pub promoted_one : (old new : List Bool) (local : ℕ) → length new ≡ length old → ((k : ℕ) → is_member new k ≡ (is_member old k || (k == local))) → new ≡ promote local old
promoted_one old new local size members = fill_by_all (λ k. is_member old k || (k == local)) new (length old) false size (λ k within. members k)

-- promotion keeps how many locals there are
pub promoted_size : (local : ℕ) (promoted : List Bool) → length (promote local promoted) ≡ length promoted
promoted_size local promoted = length-map-range_with_len (λ k. is_member promoted k || (k == local)) 0 (length promoted)

-- ---- settled conflicts

-- two numbers of a list that is that of the first holders
pub same_holder : (states : List (List ℕ)) (holders : List ℕ) (count row column i j : ℕ) → holders ≡ holders_of states count → i ≡ row → j ≡ column → row < count → column < count
    → (get_or holders i 0 == get_or holders j 0) ≡ (holder_of states row == holder_of states column)
same_holder states holders count row column i j are here there short long =
    let a : get_or holders i 0 ≡ holder_of states row = ap (λ hs. get_or hs i 0) are ∙ ap (λ k. get_or (holders_of states count) k 0) here ∙ get_or-map-range_with_len (holder_of states) 0 count row row 0 short (omega arith) in
    let b : get_or holders j 0 ≡ holder_of states column = ap (λ hs. get_or hs j 0) are ∙ ap (λ k. get_or (holders_of states count) k 0) there ∙ get_or-map-range_with_len (holder_of states) 0 count column column 0 long (omega arith) in
    rw (a, b) refl

-- ---- going over indices

-- the numbers of the indices that have some numbers, none above the greatest that an index has
numbers_back : {I : Type 0} (at : ℕ → I) (number : I → ℕ) (most : ℕ) → ((i : ℕ) → i ≤ most → number (at i) ≡ i) → (xs : List ℕ) → All (λ i. i ≤ most) xs → map number (map at xs) ≡ xs
numbers_back at number most law [] within = refl
numbers_back at number most law (x ∷ xs) within =
    rw (law x (All-head (λ i. i ≤ most) x xs within)) (ap (λ ys. x ∷ ys) (numbers_back at number most law xs (All-tail (λ i. i ≤ most) x xs within)))

-- each of these indices is in range where their numbers are
pub left_within : {I : Type 0} (at : ℕ → I) (number : I → ℕ) (most count : ℕ) → ((i : ℕ) → i ≤ most → number (at i) ≡ i) → (left : List I) (xs : List ℕ) → left ≡ map at xs → count ≤ most + 1
    → All (λ i. i < count) xs → All (λ c. number c < count) left
left_within at number most count law left xs is few within =
    All-same (λ c. number c < count) left (map at xs) is
    (All-map (λ c. number c < count) at xs (λ k d short. let here : get_or xs k d < count = within k d short in omega (arith, here, law (get_or xs k d) (omega (arith, here, few)))))

-- to go over the indices is to go over their numbers
pub left_start : {I : Type 0} (at : ℕ → I) (number : I → ℕ) (most count : ℕ) → ((i : ℕ) → i ≤ most → number (at i) ≡ i) → (left : List I) (xs : List ℕ) (step : List Bool → ℕ → List Bool) (now : List Bool)
    → left ≡ map at xs → count ≤ most + 1 → All (λ i. i < count) xs → fold step now (map number left) ≡ fold step now xs
left_start at number most count law left xs step now is few within =
    ap (λ ys. fold step now (map number ys)) is
    ∙ ap (fold step now) (numbers_back at number most law xs (λ k d short. let here : get_or xs k d < count = within k d short in omega (arith, here, few)))

-- one index further
pub left_step : {I : Type 0} (number : I → ℕ) (step : List Bool → ℕ → List Bool) (now next whole : List Bool) (left later : List I) (item : I) → left ≡ item ∷ later → next ≡ step now (number item)
    → fold step now (map number left) ≡ whole → fold step next (map number later) ≡ whole
left_step number step now next whole left later item split is before =
    ap (λ set. fold step set (map number later)) is ∙ (rw split at before)

-- none is left
pub left_end : {I : Type 0} (number : I → ℕ) (step : List Bool → ℕ → List Bool) (now whole : List Bool) (left : List I) → left ≡ [] → fold step now (map number left) ≡ whole → now ≡ whole
left_end number step now whole left none before = rw none at before

-- the columns of a row are in range
pub columns_within : (conflicts : Relation) (row count : ℕ) → column_count conflicts ≡ count → All (λ c. c < count) (columns_of conflicts row)
columns_within conflicts row count square =
    All-filter (is_entry conflicts row) (λ c. c < count) (range_with_len 0 (column_count conflicts)) (below_all (column_count conflicts) count square)
  where
    below_all : (n m : ℕ) → n ≡ m → All (λ c. c < m) (range_with_len 0 n)
    below_all n m same k d short =
        let size : length (range_with_len 0 n) ≡ n = length-range_with_len 0 n in
        let within : k < n = omega (arith, short, size) in
        omega (arith, get_or-range_with_len 0 n k d within, within, same)

-- and so are the rows
pub rows_within : (count : ℕ) → All (λ r. r < count) (source_order count)
rows_within count k d short =
    let size : length (range_with_len 0 count) ≡ count = length-range_with_len 0 count in
    let within : k < count = omega (arith, short, size) in
    omega (arith, get_or-range_with_len 0 count k d within, within)

-- ---- states in use

-- a local that isn't promoted
pub used_here : {A : Type 0} (number : A → ℕ) (promoted : List Bool) (state : List A) (i : ℕ) (item : A) → i < length state → item ≡ get_or state i item → is_member promoted (number item) ≡ false
    → true ≡ list_any (λ local. not (is_member promoted local)) (map number state)
used_here number promoted state i item within is other =
    let there : get_or (map number state) i 0 ≡ number item = get_or-map number state i item 0 within ∙ ap number (sym is) in
    sym (list_any_at (λ local. not (is_member promoted local)) (map number state) i 0 (omega (arith, within, length-map state number)) (rw (there, other) refl))

-- one state more
pub used_more : {A : Type 0} (number : A → ℕ) (promoted : List Bool) (states : List (List A)) (i count next : ℕ) (item shown : List A) (b : Bool) → i < length states → item ≡ get_or states i item → shown ≡ item
    → count ≡ used_count (take i (map (map number) states)) promoted → b ≡ list_any (λ local. not (is_member promoted local)) (map number shown) → next ≡ count + cond b 1 0
    → next ≡ used_count (take (i + 1) (map (map number) states)) promoted
used_more number promoted states i count next item shown b within is same before test after =
    let there : get_or (map (map number) states) i [] ≡ map number shown = sym (numbers_there number states i item shown within is same) in
    let more : used_count (take (i + 1) (map (map number) states)) promoted ≡ used_count (take i (map (map number) states)) promoted + cond b 1 0
    = length-filter_more (λ state. list_any (λ local. not (is_member promoted local)) state) (map (map number) states) i [] (omega (arith, within, length-map states (map number))) ∙ rw (there, ← test) refl in
    after ∙ ap (λ n. n + cond b 1 0) before ∙ sym more

-- ---- the end

-- a set that has all members that another may have
pub promoted_all : (old new : List Bool) → length new ≡ length old → ((k : ℕ) → is_member new k ≡ nat_lt k (length old)) → new ≡ map (λ (local : Bool). true) old
promoted_all old new size members =
    ext_get_or false new (map (λ (local : Bool). true) old) (size ∙ sym (length-map old (λ (local : Bool). true)))
    (λ k within. let short : k < length old = omega (arith, within, size) in members k ∙ lt-ltb k (length old) short ∙ sym (get_or-map (λ (local : Bool). true) old k false false short))
