-- The integer that the tag of an enum is asked for holds the discriminants, and distinguishes them.
use Rattle.std.proofs.Common.{◌≡◌, ◌≢◌, ℕ, suc, ◌+◌, ◌-◌, ◌*◌, ◌<◌, ◌≤◌, Bool, true, false, List, [], ◌∷◌, arith, ap, cond, inl, inr, get_or, length, map, not, refl, subst, sym, ◌∙◌}
use Rattle.std.specs.Prelude.{◌%◌, ◌^◌, ◌⊎◌, ◌||◌, ◌&&◌, ◌==◌, All, filter, ℤ, pos, negsuc, neg_ℤ, ◌≤ℤ◌, ◌<ℤ◌, ◌-ℤ◌, None, Option, Some, find, min, option_map, nat_le, nat_lt, unwrap_or}
use Rattle.std.proofs.lemmas.Int.{ints}
use Rattle.std.proofs.lemmas.Bool.{and_from, and_parts, eqb-false, le-leb, le-ltb, leb-true, lt-ltb, ltb-true, or_cases, or_right, or_parts, true≢false}
use Rattle.std.proofs.lemmas.List.Elements.{All-cons, All-contains, All-filter, All-head, All-map, All-nil, All-tail}
use Rattle.std.proofs.lemmas.List.Kept.{AllPairs-cons, AllPairs-filter}
use Rattle.std.proofs.lemmas.Nat.{pow_pos}
use Rattle.std.proofs.lemmas.List.Sorted.{IsPermutation-refl}
use Rattle.std.specs.List.{AllPairs, list_all, list_any, range_with_len}
use Rattle.std.specs.List.Sorted.{IsPermutation}
use Rattle.abi_base.specs.declared.data_layout.TargetDataLayout.{TargetDataLayout}
use Rattle.abi_base.specs.declared.integer.Integer.{Integer}
use Rattle.abi_base.specs.declared.integer.Integer.TheVariants.{I8, I16, I32, I64, I128}
use Rattle.abi_base.specs.declared.integer.IntegerType.{IntegerType}
use Rattle.abi_base.specs.declared.integer.IntegerType.TheVariants.{Pointer}
use Rattle.abi_base.specs.DataLayout.{IsLawfulDataLayout, IsPointerWidth, index_integer}
use Rattle.abi_base.specs.Integer.{HoldsSigned, integer_size, integers}
use Rattle.abi_base.specs.IntegerType.{integer_of_type, is_signed_type}
use Rattle.abi_base.specs.Size.{signed_value}
use Rattle.abi_scalar.specs.declared.repr.ReprOptions.{ReprOptions}
use Rattle.abi_scalar.specs.declared.variants.RangeFrom.{RangeFrom}
use Rattle.abi_scalar.specs.declared.variants.RangeToInclusive.{RangeToInclusive}
use Rattle.abi_scalar.specs.Range.{numbers_of}
use Rattle.abi_scalar.specs.Repr.{discr_type_of, is_c}
use Rattle.abi_calc.specs.Enums.Answer.{HasOneEach}
use Rattle.abi_calc.specs.Enums.Discriminants.{IsAskedWith, counted_discriminants, counts, discr_bits, inhabited_of, meant_by}
use Rattle.abi_calc.specs.Enums.EnumStrategy.{has_no_value, variant_at}
use Rattle.abi_calc.specs.Enums.Several.{AreWellFormedTags, IsLawfulTag}
use Rattle.abi_scalar.specs.Layout.{Layout}
use Rattle.rustc_abi.specs.Enums.{IsTagIntegerAnswer, has_equal, holds_both, is_discriminant, is_negative, least_integer, least_tag, numbered_from, tag_integer}

-- ---- each variant has a discriminant

indices_of : (from : ℕ) (numbers : List ℕ) → range_with_len from (length numbers) ≡ map (λ item. item.0) (numbered_from from numbers)
indices_of from [] = refl
indices_of from (n ∷ ns) = ap (λ is. from ∷ is) (indices_of (from + 1) ns)

-- the numbered discriminants have each index below their count once
pub one_each : (numbers : List ℕ) (count : ℕ) → length numbers ≡ count → HasOneEach (λ i. i) count (numbered_from 0 numbers)
one_each numbers count long =
    subst (IsPermutation (range_with_len 0 count)) (ap (range_with_len 0) (sym long) ∙ indices_of 0 numbers) (IsPermutation-refl (range_with_len 0 count))

-- ---- there is one integer

-- the question for the tag's integer has an answer, whatever the ends
pub tag_integer_total : (dl : TargetDataLayout) (repr : ReprOptions) (from : RangeFrom ℤ) (to : RangeToInclusive ℕ) → (x : Integer × Bool) × IsTagIntegerAnswer dl repr from to x
tag_integer_total dl repr from to = (tag_integer dl repr from.start to.last, refl)

-- and only one
pub tag_integer_one : (dl : TargetDataLayout) (repr : ReprOptions) (from : RangeFrom ℤ) (to : RangeToInclusive ℕ) (x y : Integer × Bool)
    → IsTagIntegerAnswer dl repr from to x → IsTagIntegerAnswer dl repr from to y → x ≡ y
tag_integer_one dl repr from to x y h k = h ∙ sym k

-- ---- numbers of 128 bits, cut to fewer

-- a number of 128 bits in two's complement that the signed integer holds
abbrev IsSignedIn : Integer → ℕ → Type 0
IsSignedIn i n =
    (n < 2 ^ 128) × ((n < 2 ^ (integer_size i * 8 - 1)) ⊎ (2 ^ 128 - 2 ^ (integer_size i * 8 - 1) ≤ n))

numbers_are : (i : Integer) → numbers_of (integer_size i) ≡ 2 ^ (integer_size i * 8)
numbers_are I8 = refl
numbers_are I16 = refl
numbers_are I32 = refl
numbers_are I64 = refl
numbers_are I128 = refl

-- one that isn't negative is kept
low_kept : (i : Integer) (n : ℕ) → n < 2 ^ (integer_size i * 8 - 1) → n % 2 ^ (integer_size i * 8) ≡ n
low_kept I8 n low = omega arith
low_kept I16 n low = omega arith
low_kept I32 n low = omega arith
low_kept I64 n low = omega arith
low_kept I128 n low = omega arith

-- one that is negative moves by whole turns
high_moved : (i : Integer) (n : ℕ) → n < 2 ^ 128 → 2 ^ 128 - 2 ^ (integer_size i * 8 - 1) ≤ n → n % 2 ^ (integer_size i * 8) + 2 ^ 128 ≡ n + 2 ^ (integer_size i * 8)
high_moved I8 n short high = omega arith
high_moved I16 n short high = omega arith
high_moved I32 n short high = omega arith
high_moved I64 n short high = omega arith
high_moved I128 n short high = omega arith

-- unsigned numbers of the integer stay apart
differ_plain : (i : Integer) (a b : ℕ) → a < 2 ^ (integer_size i * 8) → b < 2 ^ (integer_size i * 8) → a ≢ b → a % 2 ^ (integer_size i * 8) ≢ b % 2 ^ (integer_size i * 8)
differ_plain I8 a b p q apart same = omega arith
differ_plain I16 a b p q apart same = omega arith
differ_plain I32 a b p q apart same = omega arith
differ_plain I64 a b p q apart same = omega arith
differ_plain I128 a b p q apart same = omega arith

half_below : (i : Integer) → 2 ^ (integer_size i * 8 - 1) + 2 ^ (integer_size i * 8 - 1) ≡ 2 ^ (integer_size i * 8)
half_below I8 = refl
half_below I16 = refl
half_below I32 = refl
half_below I64 = refl
half_below I128 = refl

whole_below : (i : Integer) → 2 ^ (integer_size i * 8) ≤ 2 ^ 128
whole_below I8 = omega arith
whole_below I16 = omega arith
whole_below I32 = omega arith
whole_below I64 = omega arith
whole_below I128 = omega arith

-- signed numbers of the integer stay apart
differ_signed : (i : Integer) (a b : ℕ) → IsSignedIn i a → IsSignedIn i b → a ≢ b → a % 2 ^ (integer_size i * 8) ≢ b % 2 ^ (integer_size i * 8)
differ_signed i a b (p, inl low) (q, inl down) apart same = omega (arith, low_kept i a low, low_kept i b down, same, apart)
differ_signed i a b (p, inl low) (q, inr high) apart same = omega (arith, low_kept i a low, high_moved i b q high, half_below i, whole_below i, same, low, high)
differ_signed i a b (p, inr high) (q, inl low) apart same = omega (arith, low_kept i b low, high_moved i a p high, half_below i, whole_below i, same, low, high)
differ_signed i a b (p, inr high) (q, inr up) apart same = omega (arith, high_moved i a p high, high_moved i b q up, same, apart)

-- what it stands for, where it isn't negative
meant_low : (i : Integer) (n : ℕ) → n < 2 ^ (integer_size i * 8 - 1) → signed_value (integer_size i * 8) (n % 2 ^ (integer_size i * 8)) ≡ pos n
meant_low i n low =
    let kept : n % 2 ^ (integer_size i * 8) ≡ n = low_kept i n low in
    rw kept (ap (λ b. cond b (pos n) (pos n -ℤ pos (2 ^ (integer_size i * 8)))) (lt-ltb n (2 ^ (integer_size i * 8 - 1)) low))

-- and where it is
meant_high : (i : Integer) (n : ℕ) → n < 2 ^ 128 → 2 ^ 128 - 2 ^ (integer_size i * 8 - 1) ≤ n → signed_value (integer_size i * 8) (n % 2 ^ (integer_size i * 8)) ≡ negsuc (2 ^ 128 - 1 - n)
meant_high i n short high =
    let moved = high_moved i n short high in
    let cut : ℕ = n % 2 ^ (integer_size i * 8) in
    ap (λ b. cond b (pos cut) (pos cut -ℤ pos (2 ^ (integer_size i * 8)))) (le-ltb cut (2 ^ (integer_size i * 8 - 1)) (omega (arith, moved, half_below i, whole_below i, high)))
    ∙ negative cut (2 ^ (integer_size i * 8)) n (omega (arith, moved)) short
  where
    negative : (cut whole n : ℕ) → cut + 2 ^ 128 ≡ n + whole → n < 2 ^ 128 → pos cut -ℤ pos whole ≡ negsuc (2 ^ 128 - 1 - n)
    negative cut whole n moved short = omega (arith, ints)

-- ---- the least integer

-- the number fits between the ends that the integer was chosen by
abbrev IsHeld : (least : ℤ) → Integer → ℕ → Type 0
IsHeld (pos l) i n = n < 2 ^ (integer_size i * 8)
IsHeld (negsuc l) i n = IsSignedIn i n

differ_held : (least : ℤ) (i : Integer) (a b : ℕ) → IsHeld least i a → IsHeld least i b → a ≢ b → a % 2 ^ (integer_size i * 8) ≢ b % 2 ^ (integer_size i * 8)
differ_held (pos l) i a b p q apart = differ_plain i a b p q apart
differ_held (negsuc l) i a b p q apart = differ_signed i a b p q apart

low_held : (least : ℤ) (greatest n : ℕ) (i : Integer) → n < 2 ^ 128 → pos n ≤ℤ pos greatest → holds_both least greatest i ≡ true → IsHeld least i n
low_held (pos l) greatest n i short below holds =
    let most : n ≤ greatest = omega (arith, ints) in
    omega (arith, most, ltb-true greatest (2 ^ (integer_size i * 8)) holds)
low_held (negsuc l) greatest n i short below holds =
    let most : n ≤ greatest = omega (arith, ints) in
    let parts = and_parts (nat_lt l (2 ^ (integer_size i * 8 - 1))) (nat_lt greatest (2 ^ (integer_size i * 8 - 1))) holds in
    (short, inl (omega (arith, most, ltb-true greatest (2 ^ (integer_size i * 8 - 1)) parts.1)))

high_held : (least : ℤ) (greatest n : ℕ) (i : Integer) → n < 2 ^ 128 → least ≤ℤ negsuc (2 ^ 128 - 1 - n) → holds_both least greatest i ≡ true → IsHeld least i n
high_held (pos l) greatest n i short above holds = absurd above.le
high_held (negsuc l) greatest n i short above holds =
    let most : 2 ^ 128 - 1 - n ≤ l = backwards l (2 ^ 128 - 1 - n) above in
    let parts = and_parts (nat_lt l (2 ^ (integer_size i * 8 - 1))) (nat_lt greatest (2 ^ (integer_size i * 8 - 1))) holds in
    (short, inr (omega (arith, most, short, ltb-true l (2 ^ (integer_size i * 8 - 1)) parts.0)))
  where
    backwards : (l m : ℕ) → negsuc l ≤ℤ negsuc m → m ≤ l
    backwards l m h = omega (arith, ints)

-- a number whose meaning lies between the ends is held
held : (least : ℤ) (greatest n : ℕ) (t i : Integer) → IsSignedIn t n → least ≤ℤ signed_value (integer_size t * 8) (n % 2 ^ (integer_size t * 8))
    → signed_value (integer_size t * 8) (n % 2 ^ (integer_size t * 8)) ≤ℤ pos greatest → holds_both least greatest i ≡ true → IsHeld least i n
held least greatest n t i (short, inl low) above below holds = low_held least greatest n i short (subst (λ z. z ≤ℤ pos greatest) (meant_low t n low) below) holds
held least greatest n t i (short, inr high) above below holds = high_held least greatest n i short (subst (λ z. least ≤ℤ z) (meant_high t n short high) above) holds

natural_within : (half n : ℕ) → n < half → (neg_ℤ (pos half) ≤ℤ pos n) × (pos n <ℤ pos half)
natural_within half n low = (omega (arith, ints), omega (arith, ints))

-- what it stands for is a number of the signed type
meant_within : (t : Integer) (n : ℕ) → IsSignedIn t n → HoldsSigned t (signed_value (integer_size t * 8) (n % 2 ^ (integer_size t * 8)))
meant_within t n (short, inl low) = subst (HoldsSigned t) (sym (meant_low t n low)) (natural_within (2 ^ (integer_size t * 8 - 1)) n low)
meant_within t n (short, inr high) =
    subst (HoldsSigned t) (sym (meant_high t n short high)) (negative_within (2 ^ (integer_size t * 8 - 1)) (2 ^ 128 - 1 - n) (omega (arith, short, high, half_below t, whole_below t)))
  where
    negative_within : (half m : ℕ) → m < half → (neg_ℤ (pos half) ≤ℤ negsuc m) × (negsuc m <ℤ pos half)
    negative_within half m low = (omega (arith, ints), omega (arith, ints))

natural_below : (half n : ℕ) → pos n <ℤ pos half → n < half
natural_below half n h = omega (arith, ints)

negative_below : (half n : ℕ) → neg_ℤ (pos half) ≤ℤ negsuc n → n < half
negative_below half n h = omega (arith, ints)

-- the type holds both ends
type_holds : (t : Integer) (least : ℤ) (greatest : ℕ) → HoldsSigned t least → HoldsSigned t (pos greatest) → holds_both least greatest t ≡ true
type_holds t (pos l) greatest low high =
    lt-ltb greatest (2 ^ (integer_size t * 8)) (omega (arith, natural_below (2 ^ (integer_size t * 8 - 1)) greatest high.1, half_below t))
type_holds t (negsuc l) greatest low high =
    and_from (nat_lt l (2 ^ (integer_size t * 8 - 1))) (nat_lt greatest (2 ^ (integer_size t * 8 - 1)))
    (lt-ltb l (2 ^ (integer_size t * 8 - 1)) (negative_below (2 ^ (integer_size t * 8 - 1)) l low.0))
    (lt-ltb greatest (2 ^ (integer_size t * 8 - 1)) (natural_below (2 ^ (integer_size t * 8 - 1)) greatest high.1))

-- the first of some integers that passes a test, where one of them does: it passes, and is no wider
abbrev IsFirstOf : (Integer → Bool) → Integer → List Integer → Type 0
IsFirstOf p t is = (integer_size (unwrap_or (find p is) I128) ≤ integer_size t) × (p (unwrap_or (find p is) I128) ≡ true)

first_here : (p : Integer → Bool) (t : Integer) (is : List Integer) → p t ≡ true → IsFirstOf p t (t ∷ is)
first_here p t is passes =
    let here : t ≡ unwrap_or (find p (t ∷ is)) I128 = ap (λ b. unwrap_or (cond b (Some t) (find p is)) I128) (sym passes) in
    subst (λ i. (integer_size i ≤ integer_size t) × (p i ≡ true)) here (omega arith, passes)

first_later : (p : Integer → Bool) (i t : Integer) (is : List Integer) → integer_size i ≤ integer_size t → IsFirstOf p t is → IsFirstOf p t (i ∷ is)
first_later p i t is narrow later = by (p i) refl
  where
    by : (b : Bool) → p i ≡ b → IsFirstOf p t (i ∷ is)
    by true passes =
        let here : i ≡ unwrap_or (find p (i ∷ is)) I128 = ap (λ b. unwrap_or (cond b (Some i) (find p is)) I128) (sym passes) in
        subst (λ j. (integer_size j ≤ integer_size t) × (p j ≡ true)) here (narrow, passes)
    by false fails =
        let there : unwrap_or (find p is) I128 ≡ unwrap_or (find p (i ∷ is)) I128 = ap (λ b. unwrap_or (cond b (Some i) (find p is)) I128) (sym fails) in
        subst (λ j. (integer_size j ≤ integer_size t) × (p j ≡ true)) there later

abbrev beyond_64 : List Integer
beyond_64 = I128 ∷ []

abbrev beyond_32 : List Integer
beyond_32 = I64 ∷ beyond_64

abbrev beyond_16 : List Integer
beyond_16 = I32 ∷ beyond_32

abbrev beyond_8 : List Integer
beyond_8 = I16 ∷ beyond_16

first_beyond_32 : (p : Integer → Bool) (t : Integer) → 8 ≤ integer_size t → p t ≡ true → IsFirstOf p t beyond_32
first_beyond_32 p I8 wide h = absurd (omega arith)
first_beyond_32 p I16 wide h = absurd (omega arith)
first_beyond_32 p I32 wide h = absurd (omega arith)
first_beyond_32 p I64 wide h = first_here p I64 beyond_64 h
first_beyond_32 p I128 wide h = first_later p I64 I128 beyond_64 (omega arith) (first_here p I128 [] h)

first_beyond_8 : (p : Integer → Bool) (t : Integer) → 2 ≤ integer_size t → p t ≡ true → IsFirstOf p t beyond_8
first_beyond_8 p I8 wide h = absurd (omega arith)
first_beyond_8 p I16 wide h = first_here p I16 beyond_16 h
first_beyond_8 p I32 wide h = first_later p I16 I32 beyond_16 (omega arith) (first_here p I32 beyond_32 h)
first_beyond_8 p I64 wide h = first_later p I16 I64 beyond_16 (omega arith) (first_later p I32 I64 beyond_32 (omega arith) (first_beyond_32 p I64 (omega arith) h))
first_beyond_8 p I128 wide h = first_later p I16 I128 beyond_16 (omega arith) (first_later p I32 I128 beyond_32 (omega arith) (first_beyond_32 p I128 (omega arith) h))

first_integer : (p : Integer → Bool) (t : Integer) → p t ≡ true → IsFirstOf p t integers
first_integer p I8 h = first_here p I8 beyond_8 h
first_integer p I16 h = first_later p I8 I16 beyond_8 (omega arith) (first_beyond_8 p I16 (omega arith) h)
first_integer p I32 h = first_later p I8 I32 beyond_8 (omega arith) (first_beyond_8 p I32 (omega arith) h)
first_integer p I64 h = first_later p I8 I64 beyond_8 (omega arith) (first_beyond_8 p I64 (omega arith) h)
first_integer p I128 h = first_later p I8 I128 beyond_8 (omega arith) (first_beyond_8 p I128 (omega arith) h)

-- so the least integer holds both ends and is no wider than one that is wide enough and holds them
least_holds : (bytes : ℕ) (least : ℤ) (greatest : ℕ) (t : Integer) → bytes ≤ integer_size t → holds_both least greatest t ≡ true
    → (integer_size (least_integer bytes least greatest) ≤ integer_size t) × (holds_both least greatest (least_integer bytes least greatest) ≡ true)
least_holds bytes least greatest t wide holds =
    let test : Integer → Bool = λ i. nat_le bytes (integer_size i) && holds_both least greatest i in
    let first = first_integer test t (and_from (nat_le bytes (integer_size t)) (holds_both least greatest t) (le-leb bytes (integer_size t) wide) holds) in
    (first.0, (and_parts (nat_le bytes (integer_size (least_integer bytes least greatest))) (holds_both least greatest (least_integer bytes least greatest)) first.1).1)

-- ---- the discriminants that are listed

-- what holds of each number holds of each that is numbered
all_numbered : (P : ℕ → Type 0) (from : ℕ) (numbers : List ℕ) → All P numbers → All (λ item. P item.1) (numbered_from from numbers)
all_numbered P from [] all = All-nil (λ item. P item.1)
all_numbered P from (n ∷ ns) all =
    All-cons (λ item. P item.1) (from, n) (numbered_from (from + 1) ns) (All-head P n ns all) (all_numbered P (from + 1) ns (All-tail P n ns all))

none_equal : (n : ℕ) (ns : List ℕ) → list_any (λ m. n == m) ns ≡ false → All (λ m. n ≢ m) ns
none_equal n [] none = All-nil (λ m. n ≢ m)
none_equal n (m ∷ ms) none =
    let parts = or_parts (n == m) (list_any (λ m. n == m) ms) none in
    All-cons (λ m. n ≢ m) m ms (eqb-false n m parts.0) (none_equal n ms parts.1)

-- numbers that are all different stay so
numbers_apart : (from : ℕ) (numbers : List ℕ) → has_equal numbers ≡ false → AllPairs (λ x y. x.1 ≢ y.1) (numbered_from from numbers)
numbers_apart from [] apart = λ i j d before short. absurd (omega arith)
numbers_apart from (n ∷ ns) apart =
    let parts = or_parts (list_any (λ m. n == m) ns) (has_equal ns) apart in
    AllPairs-cons (λ x y. x.1 ≢ y.1) (from, n) (numbered_from (from + 1) ns)
    (all_numbered (λ m. n ≢ m) (from + 1) ns (none_equal n ns parts.0)) (numbers_apart (from + 1) ns parts.1)

narrower_by : {X : Type 0} (P : X → Type 0) (b c : Bool) (x : X) (kept more : List X) → (b ≡ true → c ≡ true) → (All P more → All P kept)
    → All P (cond c (x ∷ more) more) → All P (cond b (x ∷ kept) kept)
narrower_by P true true x kept more so later h = All-cons P x kept (All-head P x more h) (later (All-tail P x more h))
narrower_by P true false x kept more so later h = absurd (true≢false (sym (so refl)))
narrower_by P false true x kept more so later h = later (All-tail P x more h)
narrower_by P false false x kept more so later h = later h

-- what holds of each that a test keeps holds of each that a narrower test keeps
narrower : {X : Type 0} (P : X → Type 0) (p q : X → Bool) → ((x : X) → p x ≡ true → q x ≡ true) → (xs : List X) → All P (filter q xs) → All P (filter p xs)
narrower P p q implies [] all = all
narrower P p q implies (x ∷ xs) all = narrower_by P (p x) (q x) x (filter p xs) (filter q xs) (implies x) (narrower P p q implies xs) all

-- what holds of each value holds of what it is made of
all_under : {X Y : Type 0} (P : Y → Type 0) (f : X → Y) (xs : List X) → All P (map f xs) → All (λ x. P (f x)) xs
all_under P f [] all = All-nil (λ x. P (f x))
all_under P f (x ∷ xs) all = All-cons (λ x. P (f x)) x xs (All-head P (f x) (map f xs) all) (all_under P f xs (All-tail P (f x) (map f xs) all))

all_pairs_mapped : {X Y : Type 0} (R : Y → Y → Type 0) (f : X → Y) (xs : List X) → AllPairs (λ x y. R (f x) (f y)) xs → AllPairs R (map f xs)
all_pairs_mapped R f [] pairs = λ i j d before short. absurd (omega arith)
all_pairs_mapped R f (x ∷ xs) pairs =
    AllPairs-cons R (f x) (map f xs) (All-map (R (f x)) f xs (λ k d short. pairs 0 (suc k) d (omega arith) (omega arith)))
    (all_pairs_mapped R f xs (λ i j d before short. pairs (suc i) (suc j) d (omega arith) (omega arith)))

-- half of an integer's numbers are no more than all of 128 bits
half_whole : (i : Integer) → 2 ^ (integer_size i * 8 - 1) ≤ 2 ^ 128
half_whole I8 = omega arith
half_whole I16 = omega arith
half_whole I32 = omega arith
half_whole I64 = omega arith
half_whole I128 = omega arith

-- ---- the discriminants of one enum

module _ (dl : TargetDataLayout) (repr : ReprOptions) where
  -- the type of the discriminants
  abbrev type_of : Integer
  type_of = integer_of_type dl (discr_type_of repr)

  -- a discriminant of a signed type
  signed_discriminant : (n : ℕ) → is_signed_type (discr_type_of repr) ≡ true → is_discriminant dl repr n ≡ true → IsSignedIn type_of n
  signed_discriminant n sign fits =
      let low = nat_lt n (2 ^ (discr_bits dl repr - 1)) in
      let high = nat_le (2 ^ 128 - 2 ^ (discr_bits dl repr - 1)) n in
      let short = nat_lt n (2 ^ 128) in
      let either : (low || (high && short)) ≡ true = sym (ap (λ b. cond b (low || (high && short)) (nat_lt n (2 ^ discr_bits dl repr))) sign) ∙ fits in
      elim (or_cases low (high && short) either) [
        | inl h ↦
            let small : n < 2 ^ (discr_bits dl repr - 1) = ltb-true n (2 ^ (discr_bits dl repr - 1)) h in
            (omega (arith, small, half_whole type_of), inl small)
        | inr h ↦
            let both = and_parts high short h in
            (ltb-true n (2 ^ 128) both.1, inr (leb-true (2 ^ 128 - 2 ^ (discr_bits dl repr - 1)) n both.0))
      ]

  -- one of an unsigned type
  plain_discriminant : (n : ℕ) → is_signed_type (discr_type_of repr) ≡ false → is_discriminant dl repr n ≡ true → n < 2 ^ (integer_size type_of * 8)
  plain_discriminant n sign fits =
      let low = nat_lt n (2 ^ (discr_bits dl repr - 1)) in
      let high = nat_le (2 ^ 128 - 2 ^ (discr_bits dl repr - 1)) n && nat_lt n (2 ^ 128) in
      ltb-true n (2 ^ discr_bits dl repr) (sym (ap (λ b. cond b (low || high) (nat_lt n (2 ^ discr_bits dl repr))) sign) ∙ fits)

  -- what it stands for
  meant_signed : (n : ℕ) → is_signed_type (discr_type_of repr) ≡ true → meant_by dl repr n ≡ signed_value (integer_size type_of * 8) (n % 2 ^ (integer_size type_of * 8))
  meant_signed n sign = ap (λ b. cond b (signed_value (discr_bits dl repr) (n % 2 ^ discr_bits dl repr)) (pos n)) sign

  all_signed : (numbers : List ℕ) → is_signed_type (discr_type_of repr) ≡ true → list_all (is_discriminant dl repr) numbers ≡ true → All (IsSignedIn type_of) numbers
  all_signed [] sign fits = All-nil (IsSignedIn type_of)
  all_signed (n ∷ ns) sign fits =
      let parts = and_parts (is_discriminant dl repr n) (list_all (is_discriminant dl repr) ns) fits in
      All-cons (IsSignedIn type_of) n ns (signed_discriminant n sign parts.0) (all_signed ns sign parts.1)

  all_plain : (numbers : List ℕ) → is_signed_type (discr_type_of repr) ≡ false → list_all (is_discriminant dl repr) numbers ≡ true → All (λ n. n < 2 ^ (integer_size type_of * 8)) numbers
  all_plain [] sign fits = All-nil (λ n. n < 2 ^ (integer_size type_of * 8))
  all_plain (n ∷ ns) sign fits =
      let parts = and_parts (is_discriminant dl repr n) (list_all (is_discriminant dl repr) ns) fits in
      All-cons (λ n. n < 2 ^ (integer_size type_of * 8)) n ns (plain_discriminant n sign parts.0) (all_plain ns sign parts.1)

  module _ (layouts : List (List Layout)) (numbers : List ℕ) where
    -- what holds of each discriminant holds of each that counts
    all_counting : (P : ℕ → Type 0) → All P numbers → All P (counted_discriminants (λ i. i) repr layouts (numbered_from 0 numbers))
    all_counting P all =
        let items = numbered_from 0 numbers in
        All-map P (λ item. item.1) (filter (counts (λ i. i) repr layouts) items) (All-filter (counts (λ i. i) repr layouts) (λ item. P item.1) items (all_numbered P 0 numbers all))

    -- and of each of a variant that may have values
    all_inhabited : (P : ℕ → Type 0) → All P numbers → All P (inhabited_of (λ i. i) layouts (numbered_from 0 numbers))
    all_inhabited P all =
        let items = numbered_from 0 numbers in
        let test : ℕ × ℕ → Bool = λ item. not (has_no_value (variant_at layouts item.0)) in
        All-map P (λ item. item.1) (filter test items) (All-filter test (λ item. P item.1) items (all_numbered P 0 numbers all))

    -- where a variant may have values, its discriminant counts
    counting_inhabited : (P : ℕ → Type 0) → All P (counted_discriminants (λ i. i) repr layouts (numbered_from 0 numbers)) → All P (inhabited_of (λ i. i) layouts (numbered_from 0 numbers))
    counting_inhabited P all =
        let items = numbered_from 0 numbers in
        let test : ℕ × ℕ → Bool = λ item. not (has_no_value (variant_at layouts item.0)) in
        All-map P (λ item. item.1) (filter test items)
        (narrower (λ item. P item.1) test (counts (λ i. i) repr layouts) (λ item there. or_right (is_c repr) (test item) there) items
        (all_under P (λ item. item.1) (filter (counts (λ i. i) repr layouts) items) all))

    -- the discriminants of the variants that may have values are different
    inhabited_apart : has_equal numbers ≡ false → AllPairs (λ a b. a ≢ b) (inhabited_of (λ i. i) layouts (numbered_from 0 numbers))
    inhabited_apart apart =
        let items = numbered_from 0 numbers in
        let test : ℕ × ℕ → Bool = λ item. not (has_no_value (variant_at layouts item.0)) in
        all_pairs_mapped (λ a b. a ≢ b) (λ item. item.1) (filter test items)
        (AllPairs-filter (λ x y. x.1 ≢ y.1) test items (numbers_apart 0 numbers apart))

    -- and so they stay where the integer distinguishes them
    differ_by : (i : Integer) (P : ℕ → Type 0) → ((a b : ℕ) → P a → P b → a ≢ b → a % 2 ^ (integer_size i * 8) ≢ b % 2 ^ (integer_size i * 8)) → has_equal numbers ≡ false
        → All P (inhabited_of (λ i. i) layouts (numbered_from 0 numbers))
        → AllPairs (λ v w. v % numbers_of (integer_size i) ≢ w % numbers_of (integer_size i)) (inhabited_of (λ i. i) layouts (numbered_from 0 numbers))
    differ_by i P is_state_tag apart all = λ j k d before short.
        let values = inhabited_of (λ i. i) layouts (numbered_from 0 numbers) in
        subst (λ whole. get_or values j d % whole ≢ get_or values k d % whole) (sym (numbers_are i))
        (is_state_tag (get_or values j d) (get_or values k d) (all j d (omega (arith, before, short))) (all k d short) (inhabited_apart apart j k d before short))

    -- what each of 0 and what the counted ones stand for is holds of both ends
    end_holds : (P : ℤ → Type 0) (least : ℤ) (greatest : ℕ) → IsAskedWith dl repr (counted_discriminants (λ i. i) repr layouts (numbered_from 0 numbers)) least greatest
        → P (pos 0) → All (λ n. P (meant_by dl repr n)) numbers → P least × P (pos greatest)
    end_holds P least greatest asked none all =
        let values = counted_discriminants (λ i. i) repr layouts (numbered_from 0 numbers) in
        let each : All P (pos 0 ∷ map (meant_by dl repr) values) =
        All-cons P (pos 0) (map (meant_by dl repr) values) none (All-map P (meant_by dl repr) values (all_counting (λ n. P (meant_by dl repr n)) all)) in
        (All-contains P (pos 0 ∷ map (meant_by dl repr) values) least each asked.0.0, All-contains P (pos 0 ∷ map (meant_by dl repr) values) (pos greatest) each asked.1.0)

    -- the discriminants of variants that may have values lie between the ends
    inhabited_between : (least : ℤ) (greatest : ℕ) → IsAskedWith dl repr (counted_discriminants (λ i. i) repr layouts (numbered_from 0 numbers)) least greatest
        → All (λ n. (least ≤ℤ meant_by dl repr n) × (meant_by dl repr n ≤ℤ pos greatest)) (inhabited_of (λ i. i) layouts (numbered_from 0 numbers))
    inhabited_between least greatest asked =
        let values = counted_discriminants (λ i. i) repr layouts (numbered_from 0 numbers) in
        let low : All (λ n. least ≤ℤ meant_by dl repr n) values =
        all_under (λ z. least ≤ℤ z) (meant_by dl repr) values (All-tail (λ z. least ≤ℤ z) (pos 0) (map (meant_by dl repr) values) asked.0.1) in
        let high : All (λ n. meant_by dl repr n ≤ℤ pos greatest) values =
        all_under (λ z. z ≤ℤ pos greatest) (meant_by dl repr) values (All-tail (λ z. z ≤ℤ pos greatest) (pos 0) (map (meant_by dl repr) values) asked.1.1) in
        counting_inhabited (λ n. (least ≤ℤ meant_by dl repr n) × (meant_by dl repr n ≤ℤ pos greatest)) (λ k d short. (low k d short, high k d short))

    module _ (apart : has_equal numbers ≡ false) (fits : list_all (is_discriminant dl repr) numbers ≡ true) where
      -- the type of the discriminants is a lawful integer for the tag
      type_lawful : IsLawfulTag dl repr (inhabited_of (λ i. i) layouts (numbered_from 0 numbers)) type_of
      type_lawful = record { most = omega arith; differ = by (is_signed_type (discr_type_of repr)) refl }
        where
          by : (b : Bool) → is_signed_type (discr_type_of repr) ≡ b
              → AllPairs (λ v w. v % numbers_of (integer_size type_of) ≢ w % numbers_of (integer_size type_of)) (inhabited_of (λ i. i) layouts (numbered_from 0 numbers))
          by true sign = differ_by type_of (IsSignedIn type_of) (differ_signed type_of) apart (all_inhabited (IsSignedIn type_of) (all_signed numbers sign fits))
          by false sign =
              differ_by type_of (λ n. n < 2 ^ (integer_size type_of * 8)) (differ_plain type_of) apart
              (all_inhabited (λ n. n < 2 ^ (integer_size type_of * 8)) (all_plain numbers sign fits))

      -- so is the least that holds both ends, where the type is signed and wide enough
      least_lawful : (bytes : ℕ) (least : ℤ) (greatest : ℕ) → is_signed_type (discr_type_of repr) ≡ true → bytes ≤ integer_size type_of
          → IsAskedWith dl repr (counted_discriminants (λ i. i) repr layouts (numbered_from 0 numbers)) least greatest
          → IsLawfulTag dl repr (inhabited_of (λ i. i) layouts (numbered_from 0 numbers)) (least_integer bytes least greatest)
      least_lawful bytes least greatest sign wide asked =
          let i : Integer = least_integer bytes least greatest in
          let signed : All (IsSignedIn type_of) numbers = all_signed numbers sign fits in
          let meant : (n : ℕ) → signed_value (integer_size type_of * 8) (n % 2 ^ (integer_size type_of * 8)) ≡ meant_by dl repr n = λ n. sym (meant_signed n sign) in
          let ends : HoldsSigned type_of least × HoldsSigned type_of (pos greatest) =
          end_holds (HoldsSigned type_of) least greatest asked (natural_within (2 ^ (integer_size type_of * 8 - 1)) 0 (pow_pos (integer_size type_of * 8 - 1)))
          (λ k d within. subst (HoldsSigned type_of) (meant (get_or numbers k d)) (meant_within type_of (get_or numbers k d) (signed k d within))) in
          let found = least_holds bytes least greatest type_of wide (type_holds type_of least greatest ends.0 ends.1) in
          let values = inhabited_of (λ i. i) layouts (numbered_from 0 numbers) in
          let there : All (IsSignedIn type_of) values = all_inhabited (IsSignedIn type_of) signed in
          let between = inhabited_between least greatest asked in
          let all_held : All (IsHeld least i) values = λ k d within.
          let n : ℕ = get_or values k d in
          held least greatest n type_of i (there k d within) (subst (λ z. least ≤ℤ z) (meant_signed n sign) (between k d within).0)
          (subst (λ z. z ≤ℤ pos greatest) (meant_signed n sign) (between k d within).1) found.1 in
          record { most = found.0; differ = differ_by i (IsHeld least i) (differ_held least i) apart all_held }

-- ---- the integer of the tag

index_size : (bytes : ℕ) → IsPointerWidth bytes → integer_size (index_integer bytes) ≡ bytes
index_size bytes (inl e) = rw e refl
index_size bytes (inr (inl e)) = rw e refl
index_size bytes (inr (inr e)) = rw e refl

some_bytes : (bytes : ℕ) → IsPointerWidth bytes → 1 ≤ bytes
some_bytes bytes (inl e) = omega (arith, e)
some_bytes bytes (inr (inl e)) = omega (arith, e)
some_bytes bytes (inr (inr e)) = omega (arith, e)

at_most_index : (c : Bool) (enum index : ℕ) → 1 ≤ index → cond c (min enum index) 1 ≤ index
at_most_index true enum index some = omega arith
at_most_index false enum index some = omega arith

-- the answer by the integer that is named, if one is
abbrev answer_by : TargetDataLayout → ReprOptions → (least : ℤ) → (greatest : ℕ) → Option IntegerType → Integer × Bool
answer_by dl repr least greatest int =
    unwrap_or (option_map (λ type. (integer_of_type dl type, is_signed_type type)) int) (least_integer (least_tag dl repr) least greatest, is_negative least)

-- Each answer to the question for the tag's integer is a lawful one, where the discriminants are all of their type and all different.
pub lawful_tags : (dl : TargetDataLayout) → IsLawfulDataLayout dl → (repr : ReprOptions) (numbers : List ℕ) (layouts : List (List Layout))
    → has_equal numbers ≡ false → list_all (is_discriminant dl repr) numbers ≡ true
    → AreWellFormedTags (λ i. i) dl repr (IsTagIntegerAnswer dl repr) layouts (numbered_from 0 numbers)
lawful_tags dl law repr numbers layouts apart fits asked signed (least, greatest, ends, is) = by repr.int refl
  where
    answer : (o : Option IntegerType) → repr.int ≡ o → asked ≡ (answer_by dl repr least greatest o).0
    answer o e = ap (λ (x : Integer × Bool). x.0) (is ∙ ap (answer_by dl repr least greatest) e)

    by : (o : Option IntegerType) → repr.int ≡ o → IsLawfulTag dl repr (inhabited_of (λ i. i) layouts (numbered_from 0 numbers)) asked
    by (Some type) e =
        let named : discr_type_of repr ≡ type = ap (λ o. unwrap_or o (Pointer true)) e in
        subst (IsLawfulTag dl repr (inhabited_of (λ i. i) layouts (numbered_from 0 numbers))) (ap (integer_of_type dl) named ∙ sym (answer (Some type) e))
        (type_lawful dl repr layouts numbers apart fits)
    by None e =
        let free : discr_type_of repr ≡ Pointer true = ap (λ o. unwrap_or o (Pointer true)) e in
        let index : ℕ = dl.default_address_space_pointer_spec.pointer_offset in
        let size : integer_size (integer_of_type dl (discr_type_of repr)) ≡ index = ap (λ type. integer_size (integer_of_type dl type)) free ∙ index_size index law.index in
        let narrow : least_tag dl repr ≤ index = at_most_index (is_c repr) (integer_size dl.c_enum_min_size) index (some_bytes index law.index) in
        subst (IsLawfulTag dl repr (inhabited_of (λ i. i) layouts (numbered_from 0 numbers))) (sym (answer None e))
        (least_lawful dl repr layouts numbers apart fits (least_tag dl repr) least greatest (ap is_signed_type free) (omega (arith, size, narrow)) ends)
