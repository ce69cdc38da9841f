-- Lists that are longer than an index can name.
use Rattle.std.proofs.Common.{◌≡◌, ℕ, zero, suc, Bool, ◌<◌, ◌≤◌, ◌∙◌, List, [], ◌∷◌, true, false, length, map, take, get_or, arith, refl, sym, ap, subst}
use Rattle.std.specs.Prelude.{Vec, nat_lt, ◌||◌}
use Rattle.std.specs.List.{list_any}
use Rattle.std.specs.declared.alloc.Global.{Global}
use Rattle.std.proofs.lemmas.Bool.{lt-ltb, le-ltb, or_right}
use Rattle.std.proofs.lemmas.List.{take_all, length-map}
use Rattle.std.proofs.lemmas.Simd.{map-map}
use Rattle.std.proofs.lemmas.List.Folds.{list_any_at}
use Rattle.rustc_abi.specs.Laying.{most_fields, has_bad_index}

any_long : {A B : Type 0} (xs : List (List A)) (ys : List (List B)) → map length xs ≡ map length ys →
    list_any (λ x. nat_lt most_fields (length x)) xs ≡ list_any (λ y. nat_lt most_fields (length y)) ys
any_long [] [] same = refl
any_long [] (y ∷ ys) same = absurd (cc)
any_long (x ∷ xs) [] same = absurd (cc)
any_long {A} {B} (x ∷ xs) (y ∷ ys) same =
    let here : length x ≡ length y = cc in
    let later : map length xs ≡ map length ys = cc in
    ap (λ n. nat_lt most_fields n || list_any (λ (z : List A). nat_lt most_fields (length z)) xs) here
    ∙ ap (λ b. nat_lt most_fields (length y) || b) (any_long xs ys later)

-- whether indices can name lists and their items is given by how many there are
bad_index_by : {A B : Type 0} (xs : List (List A)) (ys : List (List B)) → map length xs ≡ map length ys → has_bad_index xs ≡ has_bad_index ys
bad_index_by {A} xs ys same =
    let many : length xs ≡ length ys = sym (length-map xs length) ∙ ap length same ∙ length-map ys length in
    ap (λ n. nat_lt most_fields n || list_any (λ (z : List A). nat_lt most_fields (length z)) xs) many
    ∙ ap (λ b. nat_lt most_fields (length ys) || b) (any_long xs ys same)

in_items : {T : Type 0} (lists : List (Vec T Global)) → list_any (λ xs. nat_lt most_fields (length xs)) (map (λ list. list.items) lists) ≡ list_any (λ list. nat_lt most_fields (length list.items)) lists
in_items [] = refl
in_items (l ∷ ls) = ap (λ b. nat_lt most_fields (length l.items) || b) (in_items ls)

-- they are given by the lists as vectors
bad_index_of : {T : Type 0} (lists : List (Vec T Global)) →
    has_bad_index (map (λ list. list.items) lists) ≡ (nat_lt most_fields (length lists) || list_any (λ list. nat_lt most_fields (length list.items)) lists)
bad_index_of {T} lists =
    ap (λ n. nat_lt most_fields n || list_any (λ (xs : List T). nat_lt most_fields (length xs)) (map (λ list. list.items) lists)) (length-map lists (λ list. list.items))
    ∙ ap (λ b. nat_lt most_fields (length lists) || b) (in_items lists)

-- whatever types they are
pub told_by_counts : {T A : Type 0} (lists : List (Vec T Global)) (all : List (List A)) → map length all ≡ map (λ list. length list.items) lists →
    has_bad_index (map (λ list. list.items) lists) ≡ has_bad_index all
told_by_counts lists all same = bad_index_by (map (λ list. list.items) lists) all (map-map length (λ list. list.items) lists ∙ sym same)

-- a list has too many items
pub has_long : {T : Type 0} (lists : List (Vec T Global)) (i : ℕ) (list : Vec T Global) → i < length lists → list ≡ get_or lists i list → most_fields < length list.items →
    true ≡ has_bad_index (map (λ list. list.items) lists)
has_long lists i list lt at long =
    let test : nat_lt most_fields (length (get_or lists i list).items) ≡ true = ap (λ v. nat_lt most_fields (length v.items)) (sym at) ∙ lt-ltb most_fields (length list.items) long in
    let some = list_any_at (λ v. nat_lt most_fields (length v.items)) lists i list lt test in
    sym (bad_index_of lists ∙ or_right (nat_lt most_fields (length lists)) _ some)

-- neither the lists nor the items of one are too many
pub has_no_long : {T : Type 0} (lists : List (Vec T Global)) (i : ℕ) → length lists ≤ i → length lists ≤ most_fields →
    list_any (λ list. nat_lt most_fields (length list.items)) (take i lists) ≡ false → false ≡ has_bad_index (map (λ list. list.items) lists)
has_no_long lists i end few none =
    let all : take i lists ≡ lists = take_all i lists end in
    let here : list_any (λ list. nat_lt most_fields (length list.items)) lists ≡ false = subst (λ ls. list_any (λ list. nat_lt most_fields (length list.items)) ls ≡ false) all none in
    sym (bad_index_of lists ∙ ap (λ b. b || list_any (λ list. nat_lt most_fields (length list.items)) lists) (le-ltb most_fields (length lists) few) ∙ here)

true_or : (a b : Bool) → true ≡ b → true ≡ (a || b)
true_or true b h = refl
true_or false b h = h

-- some list passes a test
pub any_items : {T : Type 0} (test : List T → Bool) (lists : List (Vec T Global)) (i : ℕ) (list : Vec T Global) → i < length lists → list ≡ get_or lists i list → test list.items ≡ true →
    true ≡ list_any test (map (λ list. list.items) lists)
any_items test [] i list lt at h = absurd (omega (arith, lt))
any_items test (l ∷ ls) zero list lt at h =
    let here : test l.items ≡ true = ap (λ (v : Vec _ Global). test v.items) (sym at) ∙ h in
    sym (ap (λ b. b || list_any test (map (λ list. list.items) ls)) here)
any_items test (l ∷ ls) (suc i) list lt at h = true_or (test l.items) _ (any_items test ls i list (omega (arith, lt)) at h)
