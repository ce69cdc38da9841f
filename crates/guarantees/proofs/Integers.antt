-- The integer that has each number of an enum, as its tag is asked for.
use Rattle.std.proofs.Common.{◌≡◌, ℕ, ◌+◌, ◌-◌, ◌*◌, ◌%◌, ◌^◌, ◌<◌, ◌≤◌, Bool, true, false, List, [], ◌∷◌, ◌++◌, Some, cond, get_or, refl, sym, ap, ◌∙◌, subst, arith, lit≤, inl, inr}
use Rattle.std.specs.Prelude.{◌&&◌, ◌||◌, ◌⊎◌, ⊤, All, find, nat_le, nat_lt, unwrap_or, ℤ, pos, negsuc, ◌≤ℤ◌, ◌-ℤ◌}
use Rattle.std.specs.List.{list_any}
use Rattle.std.proofs.lemmas.Bool.{and_from, and_parts, le-leb, le-ltb, leb-true, lt-ltb, ltb-true, or_cases}
use Rattle.std.proofs.lemmas.Int.{ints}
use Rattle.std.proofs.lemmas.List.Elements.{All-cons, All-contains, All-head, All-nil, All-tail}
use Rattle.std.proofs.lemmas.Nat.{pow_pos}
use Rattle.abi_base.specs.declared.data_layout.TargetDataLayout.{TargetDataLayout}
use Rattle.abi_base.specs.declared.integer.Integer.{Integer}
use Rattle.abi_base.specs.declared.integer.Integer.TheVariants.{I8, I16, I32, I64, I128}
use Rattle.abi_base.specs.Integer.{integer_size, integers}
use Rattle.abi_base.specs.Size.{signed_value}
use Rattle.abi_calc.specs.Enums.Discriminants.{IsGreatestOf, IsLeastOf}
use Rattle.rustc_abi.specs.Enums.{holds_both, is_negative, least_integer}
use Rattle.guarantees.specs.EnumInC.{HasEach, HasNumber, IsIntegerOfEnum, least_enum}

-- ---- what a number of 128 bits stands for

abbrev pub bits : Integer → ℕ
bits i = integer_size i * 8

-- a number of the signed integer, in two's complement of 128 bits
abbrev pub IsSignedIn : Integer → ℕ → Type 0
IsSignedIn i n = (n < 2 ^ 128) × ((n < 2 ^ (bits i - 1)) ⊎ (2 ^ 128 - 2 ^ (bits i - 1) ≤ n))

abbrev pub meaning : Integer → ℕ → ℤ
meaning i n = signed_value (bits i) (n % 2 ^ bits i)

low_kept : (i : Integer) (n : ℕ) → n < 2 ^ (bits i - 1) → n % 2 ^ bits i ≡ n
low_kept I8 n low = omega arith
low_kept _ n low = omega arith

high_moved : (i : Integer) (n : ℕ) → n < 2 ^ 128 → 2 ^ 128 - 2 ^ (bits i - 1) ≤ n → n % 2 ^ bits i + 2 ^ 128 ≡ n + 2 ^ bits i
high_moved I8 n short high = omega arith
high_moved _ n short high = omega arith

pub half_below : (i : Integer) → 2 ^ (bits i - 1) + 2 ^ (bits i - 1) ≡ 2 ^ bits i
half_below I8 = refl
half_below _ = refl

pub whole_below : (i : Integer) → 2 ^ bits i ≤ 2 ^ 128
whole_below I8 = omega arith
whole_below _ = omega arith

pub signed_by : (i : Integer) (n : ℕ) → (nat_lt n (2 ^ (bits i - 1)) || (nat_le (2 ^ 128 - 2 ^ (bits i - 1)) n && nat_lt n (2 ^ 128))) ≡ true → IsSignedIn i n
signed_by i n is =
    let half : ℕ = 2 ^ (bits i - 1) in
    elim (or_cases (nat_lt n half) (nat_le (2 ^ 128 - half) n && nat_lt n (2 ^ 128)) is) [
      | inl h ↦
          let small : n < half = ltb-true n half h in (omega (arith, small, half_below i, whole_below i), inl small)
      | inr h ↦
          let both = and_parts (nat_le (2 ^ 128 - half) n) (nat_lt n (2 ^ 128)) h in
          (ltb-true n (2 ^ 128) both.1, inr (leb-true (2 ^ 128 - half) n both.0))
    ]

pub meant_low : (i : Integer) (n : ℕ) → n < 2 ^ (bits i - 1) → meaning i n ≡ pos n
meant_low i n low =
    let kept : n % 2 ^ bits i ≡ n = low_kept i n low in
    rw kept (ap (λ b. cond b (pos n) (pos n -ℤ pos (2 ^ bits i))) (lt-ltb n (2 ^ (bits i - 1)) low))

negative : (low whole n : ℕ) → low + 2 ^ 128 ≡ n + whole → n < 2 ^ 128 → pos low -ℤ pos whole ≡ negsuc (2 ^ 128 - 1 - n)
negative low whole n moved short = omega (arith, ints)

pub meant_high : (i : Integer) (n : ℕ) → n < 2 ^ 128 → 2 ^ 128 - 2 ^ (bits i - 1) ≤ n → meaning i n ≡ negsuc (2 ^ 128 - 1 - n)
meant_high i n short high =
    let moved = high_moved i n short high in
    let low : ℕ = n % 2 ^ bits i in
    ap (λ b. cond b (pos low) (pos low -ℤ pos (2 ^ bits i))) (le-ltb low (2 ^ (bits i - 1)) (omega (arith, moved, half_below i, whole_below i, high)))
    ∙ negative low (2 ^ bits i) n (omega (arith, moved)) short

-- in 128 bits it stands for the same
whole_kept : (n : ℕ) → n < 2 ^ 128 → n % 2 ^ 128 ≡ n
whole_kept n short = omega arith

in_whole : (n : ℕ) → n < 2 ^ 128 → meaning I128 n ≡ signed_value 128 n
in_whole n short = ap (signed_value 128) (whole_kept n short)

pub same_meaning : (i : Integer) (n : ℕ) → IsSignedIn i n → meaning i n ≡ signed_value 128 n
same_meaning i n (short, inl low) =
    meant_low i n low ∙ sym (meant_low I128 n (omega (arith, low, half_below i, whole_below i))) ∙ in_whole n short
same_meaning i n (short, inr high) =
    meant_high i n short high ∙ sym (meant_high I128 n short (omega (arith, high, half_below i, whole_below i))) ∙ in_whole n short

pub has_meaning : (i : Integer) (n : ℕ) → IsSignedIn i n → HasNumber true (bits i) (meaning i n)
has_meaning i n (short, inl low) = subst (HasNumber true (bits i)) (sym (meant_low i n low)) low
has_meaning i n (short, inr high) =
    subst (HasNumber true (bits i)) (sym (meant_high i n short high)) (omega (arith, short, high, half_below i, whole_below i))

-- ---- the first of the integers that passes a test

abbrev pub IsFirstOf : (Integer → Bool) → Integer → List Integer → Type 0
IsFirstOf p t is = (integer_size (unwrap_or (find p is) I128) ≤ integer_size t) × (p (unwrap_or (find p is) I128) ≡ true)

-- none of these is wider
abbrev AreNarrow : Integer → List Integer → Type 0
AreNarrow t [] = ⊤
AreNarrow t (i ∷ is) = (integer_size i ≤ integer_size t) × AreNarrow t is

first_by : (p : Integer → Bool) (t i : Integer) (is : List Integer) (b : Bool) → p i ≡ b → integer_size i ≤ integer_size t → (b ≡ false → IsFirstOf p t is)
    → IsFirstOf p t (i ∷ is)
first_by p t i is true passes narrow later =
    let here : i ≡ unwrap_or (find p (i ∷ is)) I128 = ap (λ b. unwrap_or (cond b (Some i) (find p is)) I128) (sym passes) in
    subst (λ j. (integer_size j ≤ integer_size t) × (p j ≡ true)) here (narrow, passes)
first_by p t i is false fails narrow later =
    let there : unwrap_or (find p is) I128 ≡ unwrap_or (find p (i ∷ is)) I128 = ap (λ b. unwrap_or (cond b (Some i) (find p is)) I128) (sym fails) in
    subst (λ j. (integer_size j ≤ integer_size t) × (p j ≡ true)) there (later refl)

first_of : (p : Integer → Bool) (t : Integer) (before rest : List Integer) → AreNarrow t before → p t ≡ true → IsFirstOf p t (before ++ t ∷ rest)
first_of p t [] rest narrow passes = first_by p t t rest true passes (omega arith) (λ no. absurd (cc))
first_of p t (i ∷ before) rest narrow passes =
    first_by p t i (before ++ t ∷ rest) (p i) refl narrow.0 (λ fails. first_of p t before rest narrow.1 passes)

pub first_integer : (p : Integer → Bool) (t : Integer) → p t ≡ true → IsFirstOf p t integers
first_integer p I8 h = first_of p I8 [] (I16 ∷ I32 ∷ I64 ∷ I128 ∷ []) tt h
first_integer p I16 h = first_of p I16 (I8 ∷ []) (I32 ∷ I64 ∷ I128 ∷ []) (lit≤ tt, tt) h
first_integer p I32 h = first_of p I32 (I8 ∷ I16 ∷ []) (I64 ∷ I128 ∷ []) (lit≤ tt, (lit≤ tt, tt)) h
first_integer p I64 h = first_of p I64 (I8 ∷ I16 ∷ I32 ∷ []) (I128 ∷ []) (lit≤ tt, (lit≤ tt, (lit≤ tt, tt))) h
first_integer p I128 h = first_of p I128 (I8 ∷ I16 ∷ I32 ∷ I64 ∷ []) [] (lit≤ tt, (lit≤ tt, (lit≤ tt, (lit≤ tt, tt)))) h

-- ---- between the least number and the greatest

-- an integer with room for both has what lies between
between : (i : Integer) (least z : ℤ) (greatest : ℕ) → least ≤ℤ z → z ≤ℤ pos greatest → holds_both least greatest i ≡ true → HasNumber (is_negative least) (bits i) z
between i (pos l) (pos n) greatest low high holds =
    let most : n ≤ greatest = omega (arith, ints) in
    omega (arith, most, ltb-true greatest (2 ^ bits i) holds)
between i (pos l) (negsuc n) greatest low high holds = absurd low.le
between i (negsuc l) (pos n) greatest low high holds =
    let parts = and_parts (nat_lt l (2 ^ (bits i - 1))) (nat_lt greatest (2 ^ (bits i - 1))) holds in
    let most : n ≤ greatest = omega (arith, ints) in
    omega (arith, most, ltb-true greatest (2 ^ (bits i - 1)) parts.1)
between i (negsuc l) (negsuc n) greatest low high holds =
    let parts = and_parts (nat_lt l (2 ^ (bits i - 1))) (nat_lt greatest (2 ^ (bits i - 1))) holds in
    let most : n ≤ l = omega (arith, ints) in
    omega (arith, most, ltb-true l (2 ^ (bits i - 1)) parts.0)

-- an integer that has both has room for them, with a sign where that is more than is asked for
both : (i : Integer) (least : ℤ) (greatest : ℕ) → HasNumber (is_negative least) (bits i) least → HasNumber (is_negative least) (bits i) (pos greatest) → holds_both least greatest i ≡ true
both i (pos l) greatest low high = lt-ltb greatest (2 ^ bits i) high
both i (negsuc l) greatest low high =
    and_from (nat_lt l (2 ^ (bits i - 1))) (nat_lt greatest (2 ^ (bits i - 1))) (lt-ltb l (2 ^ (bits i - 1)) low) (lt-ltb greatest (2 ^ (bits i - 1)) high)

both_signed : (i : Integer) (least : ℤ) (greatest : ℕ) → HasNumber true (bits i) least → HasNumber true (bits i) (pos greatest) → holds_both least greatest i ≡ true
both_signed i (pos l) greatest low high = lt-ltb greatest (2 ^ bits i) (omega (arith, high, half_below i))
both_signed i (negsuc l) greatest low high = both i (negsuc l) greatest low high

-- an integer has 0
has_zero : (signed : Bool) (i : Integer) → HasNumber signed (bits i) (pos 0)
has_zero true i = pow_pos (bits i - 1)
has_zero false i = pow_pos (bits i)

-- the least of some numbers and 0 is negative exactly where one of them is
none_below : (l : ℕ) (zs : List ℤ) → All (λ z. pos l ≤ℤ z) zs → list_any is_negative zs ≡ false
none_below l [] all = refl
none_below l (pos n ∷ zs) all = none_below l zs (All-tail (λ z. pos l ≤ℤ z) (pos n) zs all)
none_below l (negsuc n ∷ zs) all = absurd (All-head (λ z. pos l ≤ℤ z) (negsuc n) zs all).le

not_any : (zs : List ℤ) → list_any is_negative zs ≡ false → All (λ z. is_negative z ≡ false) zs
not_any [] none = All-nil (λ z. is_negative z ≡ false)
not_any (pos n ∷ zs) none = All-cons (λ z. is_negative z ≡ false) (pos n) zs refl (not_any zs none)
not_any (negsuc n ∷ zs) none = absurd (cc none)

module _ (zs : List ℤ) (least : ℤ) (greatest : ℕ) (lowest : IsLeastOf (pos 0 ∷ zs) least) (highest : IsGreatestOf (pos 0 ∷ zs) (pos greatest)) where
  by_sign : (z : ℤ) (any : Bool) → z ≡ least → list_any is_negative zs ≡ any → is_negative z ≡ any
  by_sign (pos l) true is some =
      let none = none_below l zs (All-tail (λ z. pos l ≤ℤ z) (pos 0) zs (subst (λ y. All (λ z. y ≤ℤ z) (pos 0 ∷ zs)) (sym is) lowest.1)) in
      absurd (let no : true ≡ false = sym some ∙ none in cc)
  by_sign (pos l) false is none = refl
  by_sign (negsuc l) true is some = refl
  by_sign (negsuc l) false is none =
      let own = All-contains (λ z. is_negative z ≡ false) (pos 0 ∷ zs) least (All-cons (λ z. is_negative z ≡ false) (pos 0) zs refl (not_any zs none)) lowest.0 in
      ap is_negative is ∙ own

  pub sign_is : is_negative least ≡ list_any is_negative zs
  sign_is = by_sign least (list_any is_negative zs) refl refl

  ends : (P : ℤ → Type 0) → P (pos 0) → All P zs → P least × P (pos greatest)
  ends P zero each =
      let all = All-cons P (pos 0) zs zero each in
      (All-contains P (pos 0 ∷ zs) least all lowest.0, All-contains P (pos 0 ∷ zs) (pos greatest) all highest.0)

  has_each : (i : Integer) → holds_both least greatest i ≡ true → HasEach zs i
  has_each i holds =
      let low = All-tail (λ z. least ≤ℤ z) (pos 0) zs lowest.1 in
      let high = All-tail (λ z. z ≤ℤ pos greatest) (pos 0) zs highest.1 in
      λ k d lt. subst (λ signed. HasNumber signed (bits i) (get_or zs k d)) sign_is (between i least (get_or zs k d) greatest (low k d lt) (high k d lt) holds)

  holds_each : (i : Integer) → HasEach zs i → holds_both least greatest i ≡ true
  holds_each i each =
      let found = ends (HasNumber (is_negative least) (bits i)) (has_zero (is_negative least) i)
      (subst (λ signed. All (HasNumber signed (bits i)) zs) (sym sign_is) each) in
      both i least greatest found.0 found.1

  -- the least of the integers with room for both is the enum's, where some integer that is wide enough has room
  pub least_has_each : (dl : TargetDataLayout) (t : Integer) → least_enum dl ≤ integer_size t → All (HasNumber true (bits t)) zs
      → IsIntegerOfEnum dl zs (least_integer (least_enum dl) least greatest)
  least_has_each dl t wide room =
      let test : Integer → Bool = λ i. nat_le (least_enum dl) (integer_size i) && holds_both least greatest i in
      let passes : (j : Integer) → least_enum dl ≤ integer_size j → holds_both least greatest j ≡ true → test j ≡ true =
      λ j enough holds. and_from (nat_le (least_enum dl) (integer_size j)) (holds_both least greatest j) (le-leb (least_enum dl) (integer_size j) enough) holds in
      let signed = ends (HasNumber true (bits t)) (has_zero true t) room in
      let first = first_integer test t (passes t wide (both_signed t least greatest signed.0 signed.1)) in
      let found : Integer = least_integer (least_enum dl) least greatest in
      let parts = and_parts (nat_le (least_enum dl) (integer_size found)) (holds_both least greatest found) first.1 in
      record {
        enough = leb-true (least_enum dl) (integer_size found) parts.0;
        each = has_each found parts.1;
        least = λ j enough each. (first_integer test j (passes j enough (holds_each j each))).0;
      }
