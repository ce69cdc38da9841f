-- The variants that are present, met one after another.
use Rattle.std.proofs.Common.{◌≡◌, ℕ, zero, suc, ◌+◌, ◌-◌, ◌<◌, ◌≤◌, List, [], ◌∷◌, Bool, true, false, cond, get_or, refl, sym, ap, ◌∙◌, arith}
use Rattle.std.specs.Prelude.{Option, None, Some, filter, length, map, slice_index_or}
use Rattle.std.proofs.lemmas.List.{get_or-map, get_or_default, length-map}
use Rattle.std.specs.List.{find, range_with_len}
use Rattle.abi_univariant.specs.Placement.{source_order}
use Rattle.abi_calc.specs.declared.enums.strategy.EnumStrategy.TheVariants.{NoValue, OneList, Several}
use Rattle.abi_scalar.specs.declared.layout_data.LayoutData.{LayoutData}
use Rattle.abi_scalar.specs.declared.repr.ReprOptions.{ReprOptions}
use Rattle.abi_calc.specs.Enums.EnumStrategy.{is_free, is_present, strategy_among, strategy_of, present_of, variant_at}

-- from a place within the list on, the place and those after it
pub range_split : (i n : ℕ) → i < n → range_with_len i (n - i) ≡ i ∷ range_with_len (i + 1) (n - (i + 1))
range_split i n short = let e : n - i ≡ suc (n - (i + 1)) = omega arith in ap (range_with_len i) e

-- what is sought is found at a place where it is
pub find_here : (p : ℕ → Bool) (i n : ℕ) → i < n → p i ≡ true → find p (range_with_len i (n - i)) ≡ Some i
find_here p i n short here =
    ap (find p) (range_split i n short) ∙ ap (λ b. cond b (Some i) (find p (range_with_len (i + 1) (n - (i + 1))))) here

-- where a place hasn't it, it is sought in those after it
pub find_next : (p : ℕ → Bool) (i n : ℕ) → i < n → p i ≡ false → find p (range_with_len i (n - i)) ≡ find p (range_with_len (i + 1) (n - (i + 1)))
find_next p i n short other =
    ap (find p) (range_split i n short) ∙ ap (λ b. cond b (Some i) (find p (range_with_len (i + 1) (n - (i + 1))))) other

-- past the last place there is none
pub find_end : (p : ℕ → Bool) (i n : ℕ) → n ≤ i → find p (range_with_len i (n - i)) ≡ None
find_end p i n past = let e : n - i ≡ 0 = omega arith in ap (λ (k : ℕ). find p (range_with_len i k)) e

-- where none is found, none is left
none_of : (p : ℕ → Bool) (a n : ℕ) (b : Bool) → cond b (Some a) (find p (range_with_len (a + 1) n)) ≡ None
    → (find p (range_with_len (a + 1) n) ≡ None → filter p (range_with_len (a + 1) n) ≡ [])
    → cond b (a ∷ filter p (range_with_len (a + 1) n)) (filter p (range_with_len (a + 1) n)) ≡ []
none_of p a n true none later = absurd (cc)
none_of p a n false none later = later none

-- the same over a whole range
pub filter_none : (p : ℕ → Bool) (a n : ℕ) → find p (range_with_len a n) ≡ None → filter p (range_with_len a n) ≡ []
filter_none p a zero none = refl
filter_none p a (suc n) none = none_of p a n (p a) none (filter_none p (a + 1) n)

-- what is found lies within
within_of : (p : ℕ → Bool) (a n i : ℕ) (b : Bool) → cond b (Some a) (find p (range_with_len (a + 1) n)) ≡ Some i
    → (find p (range_with_len (a + 1) n) ≡ Some i → i < a + 1 + n) → i < a + suc n
within_of p a n i true found later = let e : a ≡ i = cc in omega arith
within_of p a n i false found later = let below : i < a + 1 + n = later found in omega arith

-- the same over a whole range
pub found_within : (p : ℕ → Bool) (a n i : ℕ) → find p (range_with_len a n) ≡ Some i → i < a + n
found_within p a zero i found = absurd (cc)
found_within p a (suc n) i found = within_of p a n i (p a) found (found_within p (a + 1) n i)

-- of the places that have it, the first is the one that is found, and the others come after it
some_of : (p : ℕ → Bool) (a n i : ℕ) (b : Bool) → cond b (Some a) (find p (range_with_len (a + 1) n)) ≡ Some i
    → (find p (range_with_len (a + 1) n) ≡ Some i → filter p (range_with_len (a + 1) n) ≡ i ∷ filter p (range_with_len (i + 1) (a + 1 + n - (i + 1))))
    → cond b (a ∷ filter p (range_with_len (a + 1) n)) (filter p (range_with_len (a + 1) n)) ≡ i ∷ filter p (range_with_len (i + 1) (a + suc n - (i + 1)))
some_of p a n i true found later =
    let same : a ≡ i = cc in
    let count : n ≡ a + suc n - (i + 1) = omega arith in
    let tail : filter p (range_with_len (a + 1) n) ≡ filter p (range_with_len (i + 1) (a + suc n - (i + 1))) =
    ap (λ (k : ℕ). filter p (range_with_len (k + 1) n)) same ∙ ap (λ (k : ℕ). filter p (range_with_len (i + 1) k)) count in
    cc
some_of p a n i false found later =
    let count : a + 1 + n - (i + 1) ≡ a + suc n - (i + 1) = omega arith in
    later found ∙ ap (λ (k : ℕ). i ∷ filter p (range_with_len (i + 1) k)) count

-- the same over a whole range
pub filter_some : (p : ℕ → Bool) (a n i : ℕ) → find p (range_with_len a n) ≡ Some i
    → filter p (range_with_len a n) ≡ i ∷ filter p (range_with_len (i + 1) (a + n - (i + 1)))
filter_some p a zero i found = absurd (cc)
filter_some p a (suc n) i found = some_of p a n i (p a) found (filter_some p (a + 1) n i)

-- the fields of the variant at a place, read as layouts
pub variant_read : {H L : Type 0} (layout_of : H → L) (variants : List (List H)) (i : ℕ) (item fields : List H) → i < length variants
    → item ≡ get_or variants i item → fields ≡ item → slice_index_or (map (map layout_of) variants) i [] ≡ map layout_of fields
variant_read layout_of variants i item fields short is same =
    let long : i < length (map (map layout_of) variants) = let e = length-map variants (map layout_of) in omega (arith, e) in
    get_or_default (map (map layout_of) variants) i [] (map layout_of item) long
    ∙ get_or-map (map layout_of) variants i item (map layout_of item) short ∙ ap (map layout_of) (sym is ∙ sym same)

-- ---- which way an enum is laid out, by what is found

-- the first variant that is present, from a place on
abbrev pub found_from : {F V H : Type 0} → (layout_of : H → LayoutData F V) → ReprOptions → List (List H) → ℕ → Option ℕ
found_from layout_of repr variants from =
    find (λ i. is_present repr (variant_at (map (map layout_of) variants) i)) (range_with_len from (length variants - from))

-- a variant that is present is the first one from its place on
pub present_here : {F V H : Type 0} (layout_of : H → LayoutData F V) (repr : ReprOptions) (variants : List (List H)) (i : ℕ) (item fields : List H) → i < length variants
    → item ≡ get_or variants i item → fields ≡ item → is_present repr (map layout_of fields) ≡ true → Some i ≡ found_from layout_of repr variants i
present_here layout_of repr variants i item fields short is same here =
    sym (find_here (λ i. is_present repr (variant_at (map (map layout_of) variants) i)) i (length variants) short
    (ap (λ ls. is_present repr ls) (variant_read layout_of variants i item fields short is same) ∙ here))

-- after a variant that is absent, the first one that is present comes from the next place on
pub absent_here : {F V H : Type 0} (layout_of : H → LayoutData F V) (repr : ReprOptions) (variants : List (List H)) (i : ℕ) (item fields : List H) → i < length variants
    → item ≡ get_or variants i item → fields ≡ item → is_present repr (map layout_of fields) ≡ false
    → found_from layout_of repr variants (i + 1) ≡ found_from layout_of repr variants i
absent_here layout_of repr variants i item fields short is same other =
    sym (find_next (λ i. is_present repr (variant_at (map (map layout_of) variants) i)) i (length variants) short
    (ap (λ ls. is_present repr ls) (variant_read layout_of variants i item fields short is same) ∙ other))

-- from the start on, all variants are sought through
from_start : {F V H : Type 0} (layout_of : H → LayoutData F V) (repr : ReprOptions) (variants : List (List H))
    → found_from layout_of repr variants 0
    ≡ find (λ i. is_present repr (variant_at (map (map layout_of) variants) i)) (source_order (length (map (map layout_of) variants)))
from_start layout_of repr variants =
    let e : length variants - 0 ≡ length (map (map layout_of) variants) = omega (arith, length-map variants (map layout_of)) in
    ap (λ (k : ℕ). find (λ i. is_present repr (variant_at (map (map layout_of) variants) i)) (range_with_len 0 k)) e

-- after the first one that is found, the others are those after it
present_after : {F V H : Type 0} (layout_of : H → LayoutData F V) (repr : ReprOptions) (variants : List (List H)) (i : ℕ)
    → found_from layout_of repr variants 0 ≡ Some i
    → present_of repr (map (map layout_of) variants)
    ≡ i ∷ filter (λ i. is_present repr (variant_at (map (map layout_of) variants) i)) (range_with_len (i + 1) (length variants - (i + 1)))
present_after layout_of repr variants i found =
    let ls = map (map layout_of) variants in
    let e : 0 + length ls - (i + 1) ≡ length variants - (i + 1) = omega (arith, length-map variants (map layout_of)) in
    filter_some (λ i. is_present repr (variant_at ls i)) 0 (length ls) i (sym (from_start layout_of repr variants) ∙ found)
    ∙ ap (λ (k : ℕ). i ∷ filter (λ i. is_present repr (variant_at ls i)) (range_with_len (i + 1) k)) e

-- the first one that is found is one of the variants
pub first_within : {F V H : Type 0} (layout_of : H → LayoutData F V) (repr : ReprOptions) (variants : List (List H)) (i : ℕ)
    → found_from layout_of repr variants 0 ≡ Some i → i < length variants
first_within layout_of repr variants i found =
    let below = found_within (λ i. is_present repr (variant_at (map (map layout_of) variants) i)) 0 (length variants - 0) i found in
    omega (arith, below)

-- no variant is present
pub path_nowhere : {F V H : Type 0} (layout_of : H → LayoutData F V) (repr : ReprOptions) (variants : List (List H)) (is_enum : Bool) → is_enum ≡ true
    → found_from layout_of repr variants 0 ≡ None → strategy_of is_enum repr (map (map layout_of) variants) ≡ NoValue
path_nowhere layout_of repr variants false enum none = absurd (cc)
path_nowhere layout_of repr variants true enum none =
    let ls = map (map layout_of) variants in
    ap (strategy_among (is_free repr)) (filter_none (λ i. is_present repr (variant_at ls i)) 0 (length ls) (sym (from_start layout_of repr variants) ∙ none))

-- the layout is free, and no variant is present after the first one
one_free : (free : Bool) (i : ℕ) → free ≡ true → strategy_among free (i ∷ []) ≡ OneList i
one_free true i free = refl
one_free false i free = absurd (cc)

-- so an enum is laid out as that variant's list
pub path_one : {F V H : Type 0} (layout_of : H → LayoutData F V) (repr : ReprOptions) (variants : List (List H)) (is_enum : Bool) (i : ℕ) → is_enum ≡ true
    → is_free repr ≡ true → found_from layout_of repr variants 0 ≡ Some i → found_from layout_of repr variants (i + 1) ≡ None
    → strategy_of is_enum repr (map (map layout_of) variants) ≡ OneList i
path_one layout_of repr variants false i enum free found none = absurd (cc)
path_one layout_of repr variants true i enum free found none =
    let p : ℕ → Bool = λ i. is_present repr (variant_at (map (map layout_of) variants) i) in
    ap (strategy_among (is_free repr)) (present_after layout_of repr variants i found ∙ ap (λ more. i ∷ more) (filter_none p (i + 1) (length variants - (i + 1)) none))
    ∙ one_free (is_free repr) i free

-- another variant is present after the first one
several_free : (free : Bool) (i j : ℕ) (more : List ℕ) → strategy_among free (i ∷ j ∷ more) ≡ Several
several_free true i j more = refl
several_free false i j more = refl

-- so an enum has a tag or a niche
pub path_several : {F V H : Type 0} (layout_of : H → LayoutData F V) (repr : ReprOptions) (variants : List (List H)) (is_enum : Bool) (i j : ℕ) → is_enum ≡ true
    → found_from layout_of repr variants 0 ≡ Some i → found_from layout_of repr variants (i + 1) ≡ Some j
    → strategy_of is_enum repr (map (map layout_of) variants) ≡ Several
path_several layout_of repr variants false i j enum found more = absurd (cc)
path_several layout_of repr variants true i j enum found more =
    let p : ℕ → Bool = λ i. is_present repr (variant_at (map (map layout_of) variants) i) in
    ap (strategy_among (is_free repr))
    (present_after layout_of repr variants i found ∙ ap (λ rest. i ∷ rest) (filter_some p (i + 1) (length variants - (i + 1)) j more))
    ∙ several_free (is_free repr) i j (filter p (range_with_len (j + 1) (i + 1 + (length variants - (i + 1)) - (j + 1))))

-- a variant is present, and the layout isn't free
fixed_among : (free : Bool) (i : ℕ) (more : List ℕ) → free ≡ false → strategy_among free (i ∷ more) ≡ Several
fixed_among true i more fixed = absurd (cc)
fixed_among false i [] fixed = refl
fixed_among false i (j ∷ more) fixed = refl

-- so an enum has a tag
pub path_fixed : {F V H : Type 0} (layout_of : H → LayoutData F V) (repr : ReprOptions) (variants : List (List H)) (is_enum : Bool) (i : ℕ) → is_enum ≡ true
    → is_free repr ≡ false → found_from layout_of repr variants 0 ≡ Some i → strategy_of is_enum repr (map (map layout_of) variants) ≡ Several
path_fixed layout_of repr variants false i enum fixed found = absurd (cc)
path_fixed layout_of repr variants true i enum fixed found =
    ap (strategy_among (is_free repr)) (present_after layout_of repr variants i found) ∙ fixed_among (is_free repr) i _ fixed
