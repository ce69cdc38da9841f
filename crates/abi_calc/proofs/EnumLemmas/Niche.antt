-- A niche of one variant, and the others beside it.
use Rattle.std.proofs.Common.{◌≡◌, ℕ, zero, suc, ◌+◌, ◌<◌, ◌≤◌, Bool, true, false, List, [], ◌∷◌, ◌++◌, add-one, append_assoc, ap, arith, drop, get_or, length, map, refl, set, subst, sym, take, ◌∙◌}
use Rattle.std.specs.Prelude.{◌==◌, ◌&&◌, ◌||◌, MatchOption, None, Option, Some, filter, if◌then◌else◌, nat_le, not, option_map}
use Rattle.std.specs.List.{list_any}
use Rattle.std.proofs.lemmas.Bool.{leb-true, leb-false}
use Rattle.std.proofs.lemmas.List.{append-nil, drop-drop, drop-map, drop-set-lt, drop_all, get_or-map, get_or-take, length-drop, length-map, length-take-le, take_all, take_more, take_more_set}
use Rattle.std.proofs.lemmas.List.Folds.{list_any-append}
use Rattle.abi_scalar.specs.declared.layout_data.LayoutData.{LayoutData}
use Rattle.abi_scalar.specs.declared.variants.VariantLayout.{VariantLayout}
use Rattle.abi_scalar.specs.Variant.{variant_of}
use Rattle.abi_calc.specs.declared.enums.niche.Room.{Room}
use Rattle.abi_univariant.specs.Placement.{source_order}
use Rattle.abi_univariant.proofs.Views.ViewLemmas.{bulky_else, bulky_then}
use Rattle.abi_calc.specs.Enums.Niche.{beside_niche, last_greatest, last_or, needing_numbers, others_empty, span_of, variants_from, with_first}
use Rattle.abi_calc.specs.Enums.EnumStrategy.{is_absent, variant_at}
use Rattle.abi_calc.proofs.AtIndex.{left_at}
use Rattle.abi_calc.proofs.EnumLemmas.EnumStrategy.{variant_read}

-- ---- the untagged variant

-- of two tests the second one holds
reached_or : (b c : Bool) → c ≡ true → (b || (c || false)) ≡ true
reached_or true c holds = refl
reached_or false true holds = refl
reached_or false false holds = absurd (cc)

-- a number is reached by some of these numbers and the last one where the last one is no less
reached : (m n : ℕ) (ns : List ℕ) → nat_le m n ≡ true → list_any (λ k. nat_le m k) (ns ++ n ∷ []) ≡ true
reached m n ns holds = list_any-append (λ k. nat_le m k) ns (n ∷ []) ∙ reached_or (list_any (λ k. nat_le m k) ns) (nat_le m n) holds

-- a number that none of the others reaches is greater than the first and than none of the rest
none_first : (b c : Bool) → (b || c) ≡ false → (b ≡ false) × (c ≡ false)
none_first true c none = absurd (cc)
none_first false c none = (refl, none)

-- of two numbers in order the test says so
pub le_true : (m n : ℕ) → m ≤ n → nat_le m n ≡ true
le_true m n fits = by (nat_le m n) refl
  where
    by : (b : Bool) → nat_le m n ≡ b → b ≡ true
    by true is = refl
    by false is = absurd (omega (arith, leb-false m n is))

-- behind smaller numbers a greater one is the last of the greatest
last_of : (m n : ℕ) (ns : List ℕ) → list_any (λ k. nat_le m k) ns ≡ false → nat_le m n ≡ true → last_greatest (ns ++ n ∷ []) ≡ length ns
last_of m n [] none here = refl
last_of m n (k ∷ ns) none here =
    let two = none_first (nat_le m k) (list_any (λ j. nat_le m j) ns) none in
    let below : k ≤ n = omega (arith, leb-false m k two.0, leb-true m n here) in
    ap (λ (b : Bool). if b then last_greatest (ns ++ n ∷ []) + 1 else 0) (reached k n ns (le_true k n below))
    ∙ ap (λ (i : ℕ). i + 1) (last_of m n ns two.1 here) ∙ add-one (length ns)

-- one more number behind those of which the first one is reached, or isn't
push_by : (any last : Bool) (m n old new : ℕ) (ns : List ℕ) → new ≡ (if nat_le (get_or ns old 0) n then length ns else old) → (any ≡ false → last ≡ true → new ≡ length ns) → nat_le m n ≡ last
    → (if any || (last || false) then new + 1 else 0) ≡ (if nat_le (get_or (m ∷ ns) (if any then old + 1 else 0) 0) n then length (m ∷ ns) else (if any then old + 1 else 0))
push_by true last m n old new ns before top is = rw (add-one new, add-one old, before) (by (nat_le (get_or ns old 0) n))
  where
    by : (b : Bool) → suc (if b then length ns else old) ≡ (if b then suc (length ns) else suc old)
    by true = refl
    by false = refl
push_by false true m n old new ns before top is = rw (is, add-one) (ap suc (top refl refl))
push_by false false m n old new ns before top is = rw is refl

-- the same, for a list and what holds of its rest
push_more : (m n : ℕ) (ns : List ℕ) → (0 < length ns → last_greatest (ns ++ n ∷ []) ≡ (if nat_le (get_or ns (last_greatest ns) 0) n then length ns else last_greatest ns))
    → last_greatest (m ∷ (ns ++ n ∷ [])) ≡ (if nat_le (get_or (m ∷ ns) (last_greatest (m ∷ ns)) 0) n then length (m ∷ ns) else last_greatest (m ∷ ns))
push_more m n [] before = by (nat_le m n)
  where
    by : (b : Bool) → (if b || false then 0 + 1 else 0) ≡ (if b then 1 else 0)
    by true = refl
    by false = refl
push_more m n (k ∷ ns) before =
    let rest : List ℕ = k ∷ ns in
    ap (λ (b : Bool). if b then last_greatest (rest ++ n ∷ []) + 1 else 0) (list_any-append (λ j. nat_le m j) rest (n ∷ []))
    ∙ push_by (list_any (λ j. nat_le m j) rest) (nat_le m n) m n (last_greatest rest) (last_greatest (rest ++ n ∷ [])) rest (before (omega arith)) (last_of m n rest) refl

-- the last of the greatest, with one more number behind: the new one, where it is no less
greatest_push : (n : ℕ) (ns : List ℕ) → 0 < length ns → last_greatest (ns ++ n ∷ []) ≡ (if nat_le (get_or ns (last_greatest ns) 0) n then length ns else last_greatest ns)
greatest_push n [] some = absurd (omega arith)
greatest_push n (m ∷ ns) some = push_more m n ns (greatest_push n ns)

-- the size of the list at a place
size_at : {F V : Type 0} (lists : List (LayoutData F V)) (i : ℕ) (list : LayoutData F V) → i < length lists → list ≡ get_or lists i list → get_or (map (λ l. l.size) lists) i 0 ≡ list.size
size_at lists i list short is = get_or-map (λ l. l.size) lists i list 0 short ∙ ap (λ l. l.size) (sym is)

-- of the first list alone, or of none, the first is the untagged one
pub untagged_start : {F V : Type 0} (lists : List (LayoutData F V)) → 0 ≡ last_greatest (take 1 (map (λ l. l.size) lists))
untagged_start [] = refl
untagged_start (list ∷ lists) = refl

-- one more list: the untagged one so far, or the new one where it is no smaller
pub untagged_step : {F V : Type 0} (lists : List (LayoutData F V)) (i u : ℕ) (list other : LayoutData F V) (b : Bool) (next : ℕ) → i < length lists → u < i → list ≡ get_or lists i list → other ≡ get_or lists u other
    → u ≡ last_greatest (take i (map (λ l. l.size) lists)) → nat_le other.size list.size ≡ b → next ≡ (if b then i else u) → next ≡ last_greatest (take (i + 1) (map (λ l. l.size) lists))
untagged_step lists i u list other b next short before is at greatest test so =
    let sizes : List ℕ = map (λ l. l.size) lists in
    let count : length sizes ≡ length lists = length-map lists (λ l. l.size) in
    let fits : i < length sizes = omega arith in
    let len : length (take i sizes) ≡ i = length-take-le i sizes (omega arith) in
    let more : take (i + 1) sizes ≡ take i sizes ++ list.size ∷ [] = take_more sizes i 0 fits ∙ ap (λ n. take i sizes ++ n ∷ []) (size_at lists i list short is) in
    let there : get_or (take i sizes) (last_greatest (take i sizes)) 0 ≡ other.size =
    ap (λ (k : ℕ). get_or (take i sizes) k 0) (sym greatest) ∙ get_or-take i sizes u 0 before ∙ size_at lists u other (omega arith) at in
    so ∙ ap (λ (c : Bool). if c then i else u) (sym test)
    ∙ sym (ap last_greatest more ∙ greatest_push list.size (take i sizes) (omega arith)
    ∙ ap (λ (n : ℕ). if nat_le n list.size then length (take i sizes) else last_greatest (take i sizes)) there
    ∙ ap (λ (n : ℕ). if nat_le other.size list.size then n else last_greatest (take i sizes)) len
    ∙ ap (λ (n : ℕ). if nat_le other.size list.size then i else n) (sym greatest))

-- past the last list the untagged one is that of them all
pub untagged_end : {F V : Type 0} (lists : List (LayoutData F V)) (i u : ℕ) → length lists ≤ i → u ≡ last_greatest (take i (map (λ l. l.size) lists)) → u ≡ last_greatest (map (λ l. l.size) lists)
untagged_end lists i u far greatest =
    let e : length (map (λ l. l.size) lists) ≡ length lists = length-map lists (λ l. l.size) in
    greatest ∙ ap last_greatest (take_all i (map (λ l. l.size) lists) (omega arith))

-- ---- the variants that need a number

-- the variant at the place needs a number
abbrev pub needs_number : {F V : Type 0} → (untagged : ℕ) → (variants : List (List (LayoutData F V))) → ℕ → Bool
needs_number untagged variants i = not (i == untagged) && not (is_absent (variant_at variants i))

-- the last of some places with one more behind them is that one
last_more : (i j : ℕ) (places : List ℕ) → last_or j (places ++ i ∷ []) ≡ i
last_more i j [] = refl
last_more i j (k ∷ places) = last_more i k places

-- the first stays where it is
pub span_more : (places : List ℕ) (first last i : ℕ) → span_of places ≡ Some (first, last) → Some (first, i) ≡ span_of (places ++ i ∷ [])
span_more [] first last i is = absurd (cc)
span_more (j ∷ places) first last i is =
    let pair : ◌≡◌ {A = ℕ × ℕ} (j, last_or j places) (first, last) = cc in
    let same : j ≡ first = ap (λ p. p.0) pair in
    ap (λ (k : ℕ). Some (k, i)) (sym same) ∙ ap (λ (k : ℕ). Some (j, k)) (sym (last_more i j places))

-- where there was none, the new one is the first and the last
pub span_first : (places : List ℕ) (i : ℕ) → span_of places ≡ None → Some (i, i) ≡ span_of (places ++ i ∷ [])
span_first [] i is = refl
span_first (j ∷ places) i is = absurd (cc)

-- the test of the variant that was read
pub needs_read : {F V H : Type 0} (layout_of : H → LayoutData F V) (untagged : ℕ) (variants : List (List H)) (i : ℕ) (item fields : List H) (b : Bool) → i < length variants
    → item ≡ get_or variants i item → fields ≡ item → (not (i == untagged) && not (is_absent (map layout_of fields))) ≡ b → needs_number untagged (map (map layout_of) variants) i ≡ b
needs_read layout_of untagged variants i item fields b short is same here =
    ap (λ ls. not (i == untagged) && not (is_absent ls)) (variant_read layout_of variants i item fields short is same) ∙ here

-- a variant that needs a number is one more place
pub span_then : (test : ℕ → Bool) (i : ℕ) (now more next : Option (ℕ × ℕ)) → now ≡ span_of (filter test (source_order i)) → test i ≡ true
    → ((places : List ℕ) → now ≡ span_of places → more ≡ span_of (places ++ i ∷ [])) → next ≡ more → next ≡ span_of (filter test (source_order (i + 1)))
span_then test i now more next so holds push same =
    same ∙ push (filter test (source_order i)) so ∙ ap span_of (bulky_then test i (filter test (source_order i)) (filter test (source_order i) ++ i ∷ []) refl holds refl)

-- one that needs none isn't
pub span_else : (test : ℕ → Bool) (i : ℕ) (now next : Option (ℕ × ℕ)) → now ≡ span_of (filter test (source_order i)) → test i ≡ false → next ≡ now
    → next ≡ span_of (filter test (source_order (i + 1)))
span_else test i now next so fails same =
    same ∙ so ∙ ap span_of (bulky_else test i (filter test (source_order i)) (filter test (source_order i)) refl fails refl)

-- past the last variant they are all
pub span_end : {F V H : Type 0} (layout_of : H → LayoutData F V) (untagged : ℕ) (variants : List (List H)) (i : ℕ) → i ≡ length variants
    → filter (needs_number untagged (map (map layout_of) variants)) (source_order i) ≡ needing_numbers untagged (map (map layout_of) variants)
span_end layout_of untagged variants i all =
    ap (λ (n : ℕ). filter (needs_number untagged (map (map layout_of) variants)) (source_order n)) (all ∙ sym (length-map variants (map layout_of)))

-- ---- the variants beside the niche

-- a variant that has a place, and those behind it
placed_step : {A : Type 0} (done : List A) (x : A) (here : Option A) (later whole : Option (List A)) → option_map (λ more. done ++ more) (with_first here later) ≡ whole → Some x ≡ here
    → option_map (λ more. (done ++ x ∷ []) ++ more) later ≡ whole
placed_step done x None later whole before is = absurd (cc)
placed_step done x (Some y) None whole before is = before
placed_step done x (Some y) (Some ys) whole before is =
    let same : x ≡ y = cc in
    ap (λ more. Some more) (append_assoc done (x ∷ []) ys ∙ ap (λ z. done ++ z ∷ ys) same) ∙ before

-- a variant that has a place, if there is one, takes it, and those behind it follow
pub place_step : {A : Type 0} (xs : List A) (i : ℕ) (y : A) (here : Option A) (later whole : Option (List A)) (has_room : Bool) → i < length xs
    → MatchOption here (has_room ≡ false) (λ x. (has_room ≡ true) × (y ≡ x)) → has_room ≡ true
    → option_map (λ more. take i xs ++ more) (with_first here later) ≡ whole → option_map (λ more. take (i + 1) (set xs i y) ++ more) later ≡ whole
place_step xs i y None later whole has_room short tag_distinguishes is before = absurd (cc)
place_step xs i y (Some x) later whole has_room short tag_distinguishes is before =
    subst (λ done. option_map (λ more. done ++ more) later ≡ whole) (sym (take_more_set xs i y short)) (placed_step (take i xs) y (Some x) later whole before (ap (λ z. Some z) (tag_distinguishes.1)))

-- where one has no place, there are no variants
pub place_none : {A : Type 0} (done : List A) (y : A) (here : Option A) (later whole : Option (List A)) (has_room : Bool) → MatchOption here (has_room ≡ false) (λ x. (has_room ≡ true) × (y ≡ x))
    → has_room ≡ false → option_map (λ more. done ++ more) (with_first here later) ≡ whole → None ≡ whole
place_none done y None later whole has_room tag_distinguishes is_not before = before
place_none done y (Some x) later whole has_room tag_distinguishes is_not before = absurd (cc (tag_distinguishes.0))

-- behind the last one there are all
pub place_last : {F V : Type 0} (room : Room) (untagged i : ℕ) (xs : List (VariantLayout F)) (lists : List (LayoutData F V)) (whole : Option (List (VariantLayout F))) → length lists ≤ i → length xs ≤ i
    → option_map (λ more. take i xs ++ more) (variants_from room untagged i (drop i lists)) ≡ whole → Some xs ≡ whole
place_last room untagged i xs lists whole past far all =
    sym (ap (λ ls. option_map (λ more. take i xs ++ more) (variants_from room untagged i ls)) (drop_all i lists past)
    ∙ ap (λ done. Some done) (append-nil (take i xs) ∙ take_all i xs far)) ∙ all

-- the list whose variant stands at an index
pub list_behind : {F V : Type 0} (xs : List (VariantLayout F)) (lists : List (LayoutData F V)) (i : ℕ) (d : VariantLayout F) → i < length xs → drop i xs ≡ map variant_of (drop i lists)
    → (list : LayoutData F V) × (list ≡ get_or lists i list) × (get_or xs i d ≡ variant_of list)
list_behind [] lists i d short left = absurd (omega arith)
list_behind (x ∷ xs) [] zero d short left = absurd (cc)
list_behind (x ∷ xs) (l ∷ lists) zero d short left = (l, refl, ap (λ vs. get_or vs 0 d) left)
list_behind (x ∷ xs) [] (suc i) d short left = absurd (omega (arith, short, ap length left, length-drop i xs))
list_behind (x ∷ xs) (l ∷ lists) (suc i) d short left = list_behind xs lists i d (omega (arith, short)) left

-- what is told of a variant is told of the list that it belongs to
pub told_of_list : {F V : Type 0} (room : Room) (own : Bool) (align : ℕ) (v y : VariantLayout F) (list : LayoutData F V) (has_room : Bool) → v ≡ variant_of list → align ≡ list.align.abi
    → MatchOption (if own then Some v else beside_niche room align v) (has_room ≡ false) (λ placed. (has_room ≡ true) × (y ≡ placed))
    → MatchOption (if own then Some (variant_of list) else beside_niche room list.align.abi (variant_of list)) (has_room ≡ false) (λ placed. (has_room ≡ true) × (y ≡ placed))
told_of_list room own align v y list has_room same beside tag_distinguishes =
    subst (λ a. MatchOption (if own then Some (variant_of list) else beside_niche room a (variant_of list)) (has_room ≡ false) (λ placed. (has_room ≡ true) × (y ≡ placed))) beside
    (subst (λ w. MatchOption (if own then Some w else beside_niche room align w) (has_room ≡ false) (λ placed. (has_room ≡ true) × (y ≡ placed))) same tag_distinguishes)

-- what its list gives at that place, and the lists behind it
pub placed_next : {F V : Type 0} (room : Room) (untagged i : ℕ) (done : List (VariantLayout F)) (lists : List (LayoutData F V)) (list : LayoutData F V) (whole : Option (List (VariantLayout F))) → i < length lists → list ≡ get_or lists i list
    → option_map (λ more. done ++ more) (variants_from room untagged i (drop i lists)) ≡ whole
    → option_map (λ more. done ++ more) (with_first (if i == untagged then Some (variant_of list) else beside_niche room list.align.abi (variant_of list)) (variants_from room untagged (i + 1) (drop (i + 1) lists))) ≡ whole
placed_next room untagged i done lists list whole short is all =
    sym (ap (λ ls. option_map (λ more. done ++ more) (variants_from room untagged i ls)) (left_at lists i list short is)) ∙ all

-- it is followed by the lists of those behind it
pub lists_behind : {F V : Type 0} (xs : List (VariantLayout F)) (lists : List (LayoutData F V)) (i : ℕ) (y : VariantLayout F) → drop i xs ≡ map variant_of (drop i lists)
    → drop (i + 1) (set xs i y) ≡ map variant_of (drop (i + 1) lists)
lists_behind xs lists i y left =
    drop-set-lt (i + 1) xs i y (omega arith) ∙ sym (drop-drop 1 i xs) ∙ ap (drop 1) left ∙ drop-map variant_of 1 (drop i lists) ∙ ap (map variant_of) (drop-drop 1 i lists)

-- ---- the others have no bytes

-- the variant at the index and those behind it
others_step : {F : Type 0} (untagged : ℕ) (variants : List (VariantLayout F)) (i : ℕ) (variant : VariantLayout F) → i < length variants → variant ≡ get_or variants i variant
    → others_empty untagged i (drop i variants) ≡ (((i == untagged) || (variant.size == 0)) && others_empty untagged (i + 1) (drop (i + 1) variants))
others_step untagged variants i variant short is = ap (others_empty untagged i) (left_at variants i variant short is)

-- one with bytes settles it
pub others_stop : {F : Type 0} (untagged : ℕ) (variants : List (VariantLayout F)) (i : ℕ) (variant : VariantLayout F) → i < length variants → variant ≡ get_or variants i variant
    → ((i == untagged) || (variant.size == 0)) ≡ false → false ≡ others_empty untagged i (drop i variants)
others_stop untagged variants i variant short is fails =
    sym (others_step untagged variants i variant short is ∙ ap (λ b. b && others_empty untagged (i + 1) (drop (i + 1) variants)) fails)

-- one without bytes leaves it to those behind it
pub others_next : {F : Type 0} (untagged : ℕ) (variants : List (VariantLayout F)) (i : ℕ) (variant : VariantLayout F) → i < length variants → variant ≡ get_or variants i variant
    → ((i == untagged) || (variant.size == 0)) ≡ true → others_empty untagged (i + 1) (drop (i + 1) variants) ≡ others_empty untagged i (drop i variants)
others_next untagged variants i variant short is holds =
    sym (others_step untagged variants i variant short is ∙ ap (λ b. b && others_empty untagged (i + 1) (drop (i + 1) variants)) holds)
