-- Operands and operators are joined by strength in one way: around the last of the operators that bind least.
use Rattle.std.proofs.Common.{◌≡◌, ℕ, ◌+◌, ◌≤◌, List, [], ◌∷◌, ◌++◌, length, refl, sym, ap, ap₂, subst, ◌∙◌, arith}
use Rattle.std.specs.Prelude.{Bool, true, false, ⊤, if◌then◌else◌}
use Rattle.std.proofs.lemmas.List.{length-append}
use Rattle.std.proofs.Math.Seq.{drop-append_seam, take-append_seam}
use Rattle.std.specs.Prelude.{drop, take}
use Rattle.rust_source.specs.declared.reader.operators.Waiting.{Waiting}
use Rattle.rust_source.specs.Joining.{BindsFrom, IsJoinedByStrength, Joining, OneJoiningByStrength, least_before, linked, lone, operands_in, operators_in}
use Rattle.rust_source.specs.Operators.{is_comparison, tightness}
use Rattle.rust_source.specs.Syntax.{ExprRead}

-- each of these binds at least so tight
abbrev AllFrom : ℕ → List Waiting → Type 0
AllFrom n [] = ⊤
AllFrom n (w ∷ ws) = (n ≤ tightness w.operator) × AllFrom n ws

all_both : (n : ℕ) (xs ys : List Waiting) → AllFrom n xs → AllFrom n ys → AllFrom n (xs ++ ys)
all_both n [] ys f g = g
all_both n (x ∷ xs) ys f g = (f.0, all_both n xs ys f.1 g)

all_less : (n m : ℕ) → m ≤ n → (xs : List Waiting) → AllFrom n xs → AllFrom m xs
all_less n m less [] f = tt
all_less n m less (x ∷ xs) f = (omega arith, all_less n m less xs f.1)

-- one that stands among them does
among : (n : ℕ) (xs : List Waiting) (w : Waiting) (ys : List Waiting) → AllFrom n (xs ++ w ∷ ys) → n ≤ tightness w.operator
among n [] w ys f = f.0
among n (x ∷ xs) w ys f = among n xs w ys f.1

before_least : (w : Waiting) → tightness w.operator ≤ least_before w.operator
before_least w =
    let P : Bool → Type 0 = λ v. tightness w.operator ≤ (if v then tightness w.operator + 1 else tightness w.operator) in
    elim (is_comparison w.operator) as P [ true ↦ omega arith | false ↦ omega arith ]

binds_less : (n m : ℕ) → m ≤ n → (j : Joining) → BindsFrom n j → BindsFrom m j
binds_less n m less (lone e) b = tt
binds_less n m less (linked l w r) b = omega arith

-- each operator of what binds so tight does
all_bind : (n : ℕ) (j : Joining) → BindsFrom n j → IsJoinedByStrength j → AllFrom n (operators_in j)
all_bind n (lone e) b h = tt
all_bind n (linked l w r) b h =
    let least : tightness w.operator ≤ least_before w.operator = before_least w in
    all_both n (operators_in l) (w ∷ operators_in r)
    (all_bind n l (binds_less (least_before w.operator) n (omega arith) l h.0) h.2)
    (b, all_bind n r (binds_less (tightness w.operator + 1) n (omega arith) r h.1) h.3)

record Same (xs us : List Waiting) (w v : Waiting) (ys vs : List Waiting) : Type 0 where
  before : xs ≡ us
  at : w ≡ v
  behind : ys ≡ vs

abbrev IsNone : List Waiting → Type 0
IsNone [] = ⊤
IsNone (w ∷ ws) = ⊥

abbrev first_or : Waiting → List Waiting → Waiting
first_or w [] = w
first_or w (v ∷ ws) = v

abbrev rest_of : List Waiting → List Waiting
rest_of [] = []
rest_of (w ∷ ws) = ws

none_between : (xs : List Waiting) (w : Waiting) (ys : List Waiting) → [] ≡ xs ++ w ∷ ys → ⊥
none_between [] w ys e = subst IsNone e tt
none_between (x ∷ xs) w ys e = subst IsNone e tt

-- the last of those that bind least is at one place
one_place : (w v : Waiting) (xs us ys vs : List Waiting) → AllFrom (tightness w.operator) xs → AllFrom (tightness w.operator + 1) ys
    → AllFrom (tightness v.operator) us → AllFrom (tightness v.operator + 1) vs → xs ++ w ∷ ys ≡ us ++ v ∷ vs → Same xs us w v ys vs
one_place w v [] [] ys vs a b c d e = record { before = refl; at = ap (first_or w) e; behind = ap rest_of e }
one_place w v [] (u ∷ us) ys vs a b c d e =
    let first : w ≡ u = ap (first_or w) e in
    let later : tightness w.operator + 1 ≤ tightness v.operator = among (tightness w.operator + 1) us v vs (subst (AllFrom (tightness w.operator + 1)) (ap rest_of e) b) in
    let early : tightness v.operator ≤ tightness w.operator = subst (λ x. tightness v.operator ≤ tightness x.operator) (sym first) c.0 in
    absurd (omega arith)
one_place w v (x ∷ xs) [] ys vs a b c d e =
    let first : x ≡ v = ap (first_or x) e in
    let later : tightness v.operator + 1 ≤ tightness w.operator = among (tightness v.operator + 1) xs w ys (subst (AllFrom (tightness v.operator + 1)) (sym (ap rest_of e)) d) in
    let early : tightness w.operator ≤ tightness v.operator = subst (λ y. tightness w.operator ≤ tightness y.operator) first a.0 in
    absurd (omega arith)
one_place w v (x ∷ xs) (u ∷ us) ys vs a b c d e =
    let same : Same xs us w v ys vs = one_place w v xs us ys vs a.1 b c.1 d (ap rest_of e) in
    record { before = ap₂ (λ p q. p ∷ q) (ap (first_or x) e) same.before; at = same.at; behind = same.behind }

-- operands are one more than operators
count : (j : Joining) → length (operands_in j) ≡ length (operators_in j) + 1
count (lone e) = refl
count (linked l w r) =
    let a : length (operands_in l) ≡ length (operators_in l) + 1 = count l in
    let b : length (operands_in r) ≡ length (operators_in r) + 1 = count r in
    let c : length (operands_in l ++ operands_in r) ≡ length (operands_in l) + length (operands_in r) = length-append (operands_in l) (operands_in r) in
    let d : length (operators_in l ++ w ∷ operators_in r) ≡ length (operators_in l) + length (w ∷ operators_in r) = length-append (operators_in l) (w ∷ operators_in r) in
    let f : length (w ∷ operators_in r) ≡ length (operators_in r) + 1 = omega arith in
    omega arith

-- lists that are as long in front are cut alike
cut_alike : (xs us ys vs : List ExprRead) → length xs ≡ length us → xs ++ ys ≡ us ++ vs → (xs ≡ us) × (ys ≡ vs)
cut_alike xs us ys vs n e =
    (sym (take-append_seam xs ys) ∙ ap₂ take n e ∙ take-append_seam us vs, sym (drop-append_seam xs ys) ∙ ap₂ drop n e ∙ drop-append_seam us vs)

abbrev first_expr : ExprRead → List ExprRead → ExprRead
first_expr e [] = e
first_expr e (x ∷ xs) = x

pub one_joining : OneJoiningByStrength
one_joining (lone a) (lone b) h k e f = ap lone (ap (first_expr a) f)
one_joining (lone a) (linked l w r) h k e f = absurd (none_between (operators_in l) w (operators_in r) e)
one_joining (linked l w r) (lone b) h k e f = absurd (none_between (operators_in l) w (operators_in r) (sym e))
one_joining (linked l w r) (linked m v s) h k e f =
    let same : Same (operators_in l) (operators_in m) w v (operators_in r) (operators_in s) =
    one_place w v (operators_in l) (operators_in m) (operators_in r) (operators_in s)
    (all_bind (tightness w.operator) l (binds_less (least_before w.operator) (tightness w.operator) (before_least w) l h.0) h.2)
    (all_bind (tightness w.operator + 1) r h.1 h.3)
    (all_bind (tightness v.operator) m (binds_less (least_before v.operator) (tightness v.operator) (before_least v) m k.0) k.2)
    (all_bind (tightness v.operator + 1) s k.1 k.3) e in
    let cut : (operands_in l ≡ operands_in m) × (operands_in r ≡ operands_in s) =
    cut_alike (operands_in l) (operands_in m) (operands_in r) (operands_in s)
    (count l ∙ ap (λ ws. length ws + 1) same.before ∙ sym (count m)) f in
    ap₂ (λ x y. linked x y r) (one_joining l m h.2 k.2 same.before cut.0) same.at ∙ ap (linked m v) (one_joining r s h.3 k.3 same.behind cut.1)
