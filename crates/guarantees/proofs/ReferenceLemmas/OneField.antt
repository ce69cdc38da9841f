-- Fields in a row of which one at most has bytes or is aligned to more than one: where that lies, and where the row ends.
use Rattle.std.proofs.Common.{◌≡◌, ℕ, zero, suc, ◌+◌, ◌*◌, ◌^◌, ◌<◌, ◌≤◌, Bool, true, false, List, [], ◌∷◌, None, cond, refl, sym, ap, ◌∙◌, subst, arith, inl, inr, ⊎_elim}
use Rattle.std.specs.Prelude.{◌==◌, ◌&&◌, ◌⊎◌, All, count_by, not}
use Rattle.std.specs.Int.{◌∣◌, next_multiple_of}
use Rattle.std.specs.Int.RustNames.{bit_and}
use Rattle.std.proofs.lemmas.Bool.{cases_lt, eqb-false, eqb-true}
use Rattle.std.proofs.lemmas.List.Elements.{All-cons, All-head, All-nil, All-tail}
use Rattle.std.proofs.lemmas.List.Sums.{sum_by-cons}
use Rattle.std.proofs.lemmas.Nat.{and_assoc, and_le_r, and_or_apart, pow-add, pow_pos}
use Rattle.std.proofs.Math.Pow.{pow_mono}
use Rattle.std.proofs.lemmas.Nat.Gcd.{dvd-zero, dvd_of_mod-eq-zero}
use Rattle.abi_scalar.specs.declared.repr.ReprOptions.{ReprOptions}
use Rattle.abi_scalar.specs.Repr.{is_abi_fixed, is_c, is_simd}
use Rattle.abi_univariant.specs.declared.part.Part.{Part}
use Rattle.rustc_abi.specs.Laying.{with_randomize_flag}
use Rattle.abi_univariant.proofs.Offsets.Rounding.{round_multiple}
use Rattle.guarantees.proofs.ReferenceLemmas.Rows.{InARow, row_end}

dvd_one : (n : ℕ) → 2 ^ 0 ∣ n
dvd_one n = dvd_of_mod-eq-zero 1 (omega arith)

-- ---- the fields that count, in a row

-- the part has bytes, or is aligned to more than one
abbrev pub is_bulky : ℕ × Part → Bool
is_bulky x = not ((x.1.size == 0) && (x.1.align == 0))

empty_by : (b c : Bool) → not (b && c) ≡ false → (b ≡ true) × (c ≡ true)
empty_by true true e = (refl, refl)
empty_by true false e = absurd (cc)
empty_by false c e = absurd (cc)

no_bytes : (x : ℕ × Part) → is_bulky x ≡ false → (x.1.size ≡ 0) × (x.1.align ≡ 0)
no_bytes x e =
    let both = empty_by (x.1.size == 0) (x.1.align == 0) e in
    (eqb-true x.1.size 0 both.0, eqb-true x.1.align 0 both.1)

pub counted : (x : ℕ × Part) (row : List (ℕ × Part)) → count_by is_bulky (x ∷ row) ≡ cond (is_bulky x) 1 0 + count_by is_bulky row
counted x row = sum_by-cons (λ y. cond (is_bulky y) 1 0) x row

-- parts that don't count take no room
pub no_room : (from : ℕ) (row : List (ℕ × Part)) → count_by is_bulky row ≡ 0 → InARow None from row → row_end from row ≡ from
no_room from [] none h = refl
no_room from (x ∷ row) none h = by (is_bulky x) refl (λ rest. no_room (x.0 + x.1.size) row rest h.1)
  where
    by : (b : Bool) → is_bulky x ≡ b → (count_by is_bulky row ≡ 0 → row_end (x.0 + x.1.size) row ≡ x.0 + x.1.size) → row_end from (x ∷ row) ≡ from
    by true is later =
        let one : cond {A = ℕ} (is_bulky x) 1 0 ≡ 1 = ap (λ (b : Bool). cond {A = ℕ} b 1 0) is in
        absurd (omega (arith, counted x row))
    by false is later =
        let own = no_bytes x is in
        let at : x.0 ≡ from = h.0 ∙ ap (λ a. next_multiple_of from (2 ^ a)) own.1 ∙ round_multiple from 0 (dvd_one from) in
        let next : x.0 + x.1.size ≡ from = omega (arith, at, own.0) in
        let rest : count_by is_bulky row ≡ 0 = omega (arith, counted x row) in
        later rest ∙ next

-- one that doesn't count at 0 leaves the next there, and the one that counts to the others
passed : (x : ℕ × Part) (row : List (ℕ × Part)) → is_bulky x ≡ false → count_by is_bulky (x ∷ row) ≡ 1 → InARow None 0 (x ∷ row) → (x.0 + x.1.size ≡ 0) × (count_by is_bulky row ≡ 1)
passed x row is one h =
    let none : cond {A = ℕ} (is_bulky x) 1 0 ≡ 0 = ap (λ (b : Bool). cond {A = ℕ} b 1 0) is in
    let own = no_bytes x is in
    let at : x.0 ≡ 0 = h.0 ∙ round_multiple 0 x.1.align (dvd-zero (2 ^ x.1.align)) in
    (omega (arith, at, own.0), omega (arith, counted x row))

-- where one counts, all end where that does, which begins at 0
pub one_room : (size : ℕ) (row : List (ℕ × Part)) → All (λ x. is_bulky x ≡ true → x.1.size ≡ size) row → count_by is_bulky row ≡ 1
    → InARow None 0 row → row_end 0 row ≡ size
one_room size [] each one h = absurd (omega (arith, one))
one_room size (x ∷ row) each one h = by (is_bulky x) refl (λ all rest here. one_room size row all rest here)
  where
    by : (b : Bool) → is_bulky x ≡ b
        → (All (λ x. is_bulky x ≡ true → x.1.size ≡ size) row → count_by is_bulky row ≡ 1 → InARow None 0 row → row_end 0 row ≡ size)
        → row_end 0 (x ∷ row) ≡ size
    by true is later =
        let counts : cond {A = ℕ} (is_bulky x) 1 0 ≡ 1 = ap (λ (b : Bool). cond {A = ℕ} b 1 0) is in
        let at : x.0 ≡ 0 = h.0 ∙ round_multiple 0 x.1.align (dvd-zero (2 ^ x.1.align)) in
        let rest : count_by is_bulky row ≡ 0 = omega (arith, counted x row) in
        let own : x.1.size ≡ size = All-head (λ x. is_bulky x ≡ true → x.1.size ≡ size) x row each is in
        let next : x.0 + x.1.size ≡ size = omega (arith, at, own) in
        no_room (x.0 + x.1.size) row rest h.1 ∙ next
    by false is later =
        let past = passed x row is one h in
        ap (λ n. row_end n row) past.0
        ∙ later (All-tail (λ x. is_bulky x ≡ true → x.1.size ≡ size) x row each) past.1 (subst (λ n. InARow None n row) past.0 h.1)

-- ---- where the one that counts lies

abbrev pub IsFirst : ℕ × Part → Type 0
IsFirst x = is_bulky x ≡ true → x.0 ≡ 0

none_counts : (row : List (ℕ × Part)) → count_by is_bulky row ≡ 0 → All IsFirst row
none_counts [] none = All-nil IsFirst
none_counts (x ∷ row) none = by (is_bulky x) refl (λ rest. none_counts row rest)
  where
    by : (b : Bool) → is_bulky x ≡ b → (count_by is_bulky row ≡ 0 → All IsFirst row) → All IsFirst (x ∷ row)
    by true is later =
        let one : cond {A = ℕ} (is_bulky x) 1 0 ≡ 1 = ap (λ (b : Bool). cond {A = ℕ} b 1 0) is in
        absurd (omega (arith, counted x row))
    by false is later =
        All-cons IsFirst x row (λ counts. absurd (let no : false ≡ true = sym is ∙ counts in cc))
        (later (let own = counted x row in omega (arith, own)))

pub at_first : (row : List (ℕ × Part)) → count_by is_bulky row ≡ 1 → InARow None 0 row → All IsFirst row
at_first [] one h = All-nil IsFirst
at_first (x ∷ row) one h = by (is_bulky x) refl (λ rest here. at_first row rest here)
  where
    by : (b : Bool) → is_bulky x ≡ b → (count_by is_bulky row ≡ 1 → InARow None 0 row → All IsFirst row) → All IsFirst (x ∷ row)
    by true is later =
        let counts : cond {A = ℕ} (is_bulky x) 1 0 ≡ 1 = ap (λ (b : Bool). cond {A = ℕ} b 1 0) is in
        let at : x.0 ≡ 0 = h.0 ∙ round_multiple 0 x.1.align (dvd-zero (2 ^ x.1.align)) in
        let rest : count_by is_bulky row ≡ 0 = omega (arith, counted x row) in
        All-cons IsFirst x row (λ own. at) (none_counts row rest)
    by false is later =
        let past = passed x row is one h in
        All-cons IsFirst x row (λ counts. absurd (let no : false ≡ true = sym is ∙ counts in cc))
        (later past.1 (subst (λ n. InARow None n row) past.0 h.1))

-- exponents of equal alignments
pub same_exponent : (a b : ℕ) → 2 ^ a ≡ 2 ^ b → a ≡ b
same_exponent a b e = ⊎_elim
    (λ (lt : a < b). let up : 2 ^ (1 + a) ≤ 2 ^ b = pow_mono {i = 1 + a} {j = b} (omega (arith, lt)) in
    let twice : 2 ^ (1 + a) ≡ 2 * 2 ^ a = pow-add 2 1 a in
    let some : 0 < 2 ^ a = pow_pos a in absurd (omega (arith, up, twice, some, e)))
    (λ (ge : b ≤ a). ⊎_elim
    (λ (lt : b < a). let up : 2 ^ (1 + b) ≤ 2 ^ a = pow_mono {i = 1 + b} {j = a} (omega (arith, lt)) in
    let twice : 2 ^ (1 + b) ≡ 2 * 2 ^ b = pow-add 2 1 b in
    let some : 0 < 2 ^ b = pow_pos b in absurd (omega (arith, up, twice, some, e)))
    (λ (le : a ≤ b). omega (arith, ge, le)) (cases_lt b a))
    (cases_lt a b)

-- neither C nor a vector: it is passed as its one field
free_flags : (f : ℕ) → (bit_and f 1 == 1) ≡ false → (bit_and f 2 == 2) ≡ false → not (bit_and f 3 == 0) ≡ false
free_flags f c v = by (bit_and f 3) (and_le_r f 3) (and_assoc 1 f 3) (and_assoc 2 f 3)
  where
    by : (x : ℕ) → x ≤ 3 → bit_and x 1 ≡ bit_and f 1 → bit_and x 2 ≡ bit_and f 2 → not (x == 0) ≡ false
    by zero le one two = refl
    by (suc zero) le one two = absurd (eqb-false (bit_and f 1) 1 c (sym one))
    by (suc (suc zero)) le one two = absurd (eqb-false (bit_and f 2) 2 v (sym two))
    by (suc (suc (suc zero))) le one two = absurd (eqb-false (bit_and f 1) 1 c (sym one))
    by (suc (suc (suc (suc n)))) le one two = absurd (omega (arith, le))

pub passed_by : (repr by : ReprOptions) → (by ≡ repr) ⊎ (by ≡ with_randomize_flag repr) → is_c repr ≡ false → is_simd repr ≡ false → is_abi_fixed by ≡ false
passed_by repr by (inl is) c v = ap is_abi_fixed is ∙ free_flags repr.flags.0 c v
passed_by repr by (inr is) c v =
    ap is_abi_fixed is ∙ ap (λ n. not (n == 0)) (and_or_apart 3 repr.flags.0 16 refl) ∙ free_flags repr.flags.0 c v
