-- Cells that make a number, the greatest byte first.
use Rattle.std.proofs.Common.{Some, None, ◌≡◌, ◌↔◌, ℕ, zero, suc, ◌+◌, ◌*◌, ◌/◌, ◌%◌, ◌^◌, ◌<◌, ◌≤◌, List, [], ◌∷◌, arith, refl, sym, ap, ◌∙◌, subst, inl, inr, ⊎_elim}
use Rattle.std.proofs.Math.Nat.{div-div-eq-div-mul, pow-le-pow_right}
use Rattle.std.proofs.lemmas.Bool.{cases_lt}
use Rattle.std.proofs.lemmas.Nat.{pow-add}
use Rattle.std.proofs.lemmas.List.Elements.{All-head, All-tail}
use Rattle.automata.specs.Cell.{Cell, IsCell, AreCells}
use Rattle.automata.specs.Formula.{Formula, any, run, either, Reads}
use Rattle.automata.specs.Nodes.{formula_in}
use Rattle.automata.specs.Formulas.{IsMade}
use Rattle.automata.specs.Number.{AreBytes, IsBig, MakeBig, StartWithBytes}
use Rattle.automata.proofs.NodesLemmas.{Keeps-trans, Keeps-at}

-- ---- bytes

pub no_bytes : (fs0 fs1 : List Formula) (i : ℕ) → IsMade fs0 fs1 any i → AreBytes fs0 fs1 0 i
no_bytes fs0 fs1 i made = record {
  kept = made.kept;
  there = made.there;
  reads = λ w all. (λ h. tt, λ h. (made.same w).1 tt);
}

run_bytes : (f : Formula) (n : ℕ) → ((w : List Cell) → AreCells w → (Reads f w ↔ StartWithBytes n w)) → (w : List Cell) → AreCells w → (Reads (run 0 256 f) w ↔ StartWithBytes (suc n) w)
run_bytes f n reads [] all = (λ h. h, λ h. h)
run_bytes f n reads (None ∷ w) all = (λ h. omega (arith, h.0.1), λ h. absurd h)
run_bytes f n reads (Some b ∷ w) all =
    let rest : AreCells w = All-tail IsCell (Some b) w all in
    let byte : b < 256 = All-head IsCell (Some b) w all in
    (λ h. (reads w rest).0 h.1, λ h. ((omega arith, byte), (reads w rest).1 h))

pub more_bytes : (fs0 fs1 fs2 : List Formula) (n m r i : ℕ) → suc n ≡ m → AreBytes fs0 fs1 n r → IsMade fs1 fs2 (run 0 256 (formula_in fs1 r)) i → AreBytes fs0 fs2 m i
more_bytes fs0 fs1 fs2 n m r i e rest made =
    subst (λ k. AreBytes fs0 fs2 k i) e (record {
      kept = Keeps-trans fs0 fs1 fs2 rest.kept made.kept;
      there = made.there;
      reads = λ w all. (
        λ h. (run_bytes (formula_in fs1 r) n rest.reads w all).0 ((made.same w).0 h),
        λ h. (made.same w).1 ((run_bytes (formula_in fs1 r) n rest.reads w all).1 h),
      );
    })

-- ---- what is left of a number in front of its last n bytes

abbrev front : ℕ → ℕ → ℕ
front t n = t / 2 ^ (8 * n)

front-zero : (t : ℕ) → front t 0 ≡ t
front-zero t = let none : 8 * 0 ≡ 0 = omega arith in ap (λ i. t / 2 ^ i) none ∙ omega arith

front-suc : (t n : ℕ) → front t (suc n) ≡ front t n / 256
front-suc t n =
    let more : 8 * suc n ≡ 8 * n + 8 = omega arith in
    ap (λ i. t / 2 ^ i) more ∙ ap (λ m. t / m) (pow-add 2 (8 * n) 8) ∙ sym (div-div-eq-div-mul t (2 ^ (8 * n)) 256)

bytes_of-big : (n m : ℕ) (P : ℕ → Type 0) (w : List Cell) → MakeBig n P m w → StartWithBytes n w
bytes_of-big zero m P w h = tt
bytes_of-big (suc n) m P [] h = absurd h
bytes_of-big (suc n) m P (None ∷ w) h = absurd h
bytes_of-big (suc n) m P (Some b ∷ w) h = bytes_of-big n (256 * m + b) P w h

-- behind a number below the front all are below
all_below : (n t m : ℕ) (w : List Cell) → AreCells w → m < front t n → StartWithBytes n w → MakeBig n (λ x. x ≤ t) m w
all_below zero t m w all lt h = omega (arith, lt, front-zero t)
all_below (suc n) t m [] all lt h = absurd h
all_below (suc n) t m (None ∷ w) all lt h = absurd h
all_below (suc n) t m (Some b ∷ w) all lt h =
    let byte : b < 256 = All-head IsCell (Some b) w all in
    let e : front t (suc n) ≡ front t n / 256 = front-suc t n in
    all_below n t (256 * m + b) w (All-tail IsCell (Some b) w all) (omega (arith, lt, e, byte)) h

-- and none is from it on
none_from : (n t m : ℕ) (w : List Cell) → AreCells w → m < front t n → MakeBig n (λ x. t ≤ x) m w → ⊥
none_from zero t m w all lt h = omega (arith, lt, h, front-zero t)
none_from (suc n) t m [] all lt h = h
none_from (suc n) t m (None ∷ w) all lt h = h
none_from (suc n) t m (Some b ∷ w) all lt h =
    let byte : b < 256 = All-head IsCell (Some b) w all in
    let e : front t (suc n) ≡ front t n / 256 = front-suc t n in
    none_from n t (256 * m + b) w (All-tail IsCell (Some b) w all) (omega (arith, lt, e, byte)) h

-- behind a number above the front none is below
none_below : (n t m : ℕ) (w : List Cell) → AreCells w → front t n < m → MakeBig n (λ x. x ≤ t) m w → ⊥
none_below zero t m w all lt h = omega (arith, lt, h, front-zero t)
none_below (suc n) t m [] all lt h = h
none_below (suc n) t m (None ∷ w) all lt h = h
none_below (suc n) t m (Some b ∷ w) all lt h =
    let byte : b < 256 = All-head IsCell (Some b) w all in
    let e : front t (suc n) ≡ front t n / 256 = front-suc t n in
    none_below n t (256 * m + b) w (All-tail IsCell (Some b) w all) (omega (arith, lt, e, byte)) h

-- and all are above
all_from : (n t m : ℕ) (w : List Cell) → AreCells w → front t n < m → StartWithBytes n w → MakeBig n (λ x. t ≤ x) m w
all_from zero t m w all lt h = omega (arith, lt, front-zero t)
all_from (suc n) t m [] all lt h = absurd h
all_from (suc n) t m (None ∷ w) all lt h = absurd h
all_from (suc n) t m (Some b ∷ w) all lt h =
    let byte : b < 256 = All-head IsCell (Some b) w all in
    let e : front t (suc n) ≡ front t n / 256 = front-suc t n in
    all_from n t (256 * m + b) w (All-tail IsCell (Some b) w all) (omega (arith, lt, e, byte)) h

module _ (n t d q p : ℕ) (bytes rest : Formula) (is_front : q ≡ front t n) (is_digit : d ≡ q % 256) (is_before : p ≡ q / 256)
    (reads_bytes : (w : List Cell) → AreCells w → (Reads bytes w ↔ StartWithBytes n w)) where
  byte_there : (w : List Cell) (b : ℕ) → AreCells (Some b ∷ w) → b < 256
  byte_there w b all = All-head IsCell (Some b) w all

  up_to_cell : ((w : List Cell) → AreCells w → (Reads rest w ↔ MakeBig n (λ x. x ≤ t) q w)) →
      (w : List Cell) → AreCells w → (Reads (either (run 0 d bytes) (run d (d + 1) rest)) w ↔ MakeBig (suc n) (λ x. x ≤ t) p w)
  up_to_cell reads [] all = (λ h. ⊎_elim (λ x. x) (λ x. x) h, λ h. absurd h)
  up_to_cell reads (None ∷ w) all = (λ h. ⊎_elim (λ x. omega (arith, x.0.1)) (λ x. omega (arith, x.0.1)) h, λ h. absurd h)
  up_to_cell reads (Some b ∷ w) all =
      let tail : AreCells w = All-tail IsCell (Some b) w all in
      let byte : b < 256 = byte_there w b all in
      let here : (b ≡ d) → 256 * p + b ≡ q = λ e. omega (arith, e) in (
        λ h. ⊎_elim
            (λ x. all_below n t (256 * p + b) w tail (omega (arith, x.0.1)) ((reads_bytes w tail).0 x.1))
            (λ x. subst (λ m. MakeBig n (λ x. x ≤ t) m w) (sym (here (omega (arith, x.0.0, x.0.1)))) ((reads w tail).0 x.1))
            h,
        λ h. ⊎_elim
            (λ lt. inl ((omega arith, lt), (reads_bytes w tail).1 (bytes_of-big n (256 * p + b) (λ x. x ≤ t) w h)))
            (λ le. ⊎_elim
            (λ over. absurd (none_below n t (256 * p + b) w tail (omega (arith, over)) h))
            (λ under. inr ((le, omega (arith, under)), (reads w tail).1 (subst (λ m. MakeBig n (λ x. x ≤ t) m w) (here (omega (arith, le, under))) h)))
            (cases_lt d b))
            (cases_lt b d),
      )

  from_cell : ((w : List Cell) → AreCells w → (Reads rest w ↔ MakeBig n (λ x. t ≤ x) q w)) →
      (w : List Cell) → AreCells w → (Reads (either (run d (d + 1) rest) (run (d + 1) 256 bytes)) w ↔ MakeBig (suc n) (λ x. t ≤ x) p w)
  from_cell reads [] all = (λ h. ⊎_elim (λ x. x) (λ x. x) h, λ h. absurd h)
  from_cell reads (None ∷ w) all = (λ h. ⊎_elim (λ x. omega (arith, x.0.1)) (λ x. omega (arith, x.0.1)) h, λ h. absurd h)
  from_cell reads (Some b ∷ w) all =
      let tail : AreCells w = All-tail IsCell (Some b) w all in
      let byte : b < 256 = byte_there w b all in
      let here : (b ≡ d) → 256 * p + b ≡ q = λ e. omega (arith, e) in (
        λ h. ⊎_elim
            (λ x. subst (λ m. MakeBig n (λ x. t ≤ x) m w) (sym (here (omega (arith, x.0.0, x.0.1)))) ((reads w tail).0 x.1))
            (λ x. all_from n t (256 * p + b) w tail (omega (arith, x.0.0)) ((reads_bytes w tail).0 x.1))
            h,
        λ h. ⊎_elim
            (λ lt. absurd (none_from n t (256 * p + b) w tail (omega (arith, lt)) h))
            (λ le. ⊎_elim
            (λ over. inr ((omega (arith, over), byte), (reads_bytes w tail).1 (bytes_of-big n (256 * p + b) (λ x. t ≤ x) w h)))
            (λ under. inl ((le, omega (arith, under)), (reads w tail).1 (subst (λ m. MakeBig n (λ x. t ≤ x) m w) (here (omega (arith, le, under))) h)))
            (cases_lt d b))
            (cases_lt b d),
      )

-- one number is made behind its own front alone
front_of-big : (n t m : ℕ) (w : List Cell) → AreCells w → MakeBig n (λ x. x ≡ t) m w → m ≡ front t n
front_of-big zero t m w all h = h ∙ sym (front-zero t)
front_of-big (suc n) t m [] all h = absurd h
front_of-big (suc n) t m (None ∷ w) all h = absurd h
front_of-big (suc n) t m (Some b ∷ w) all h =
    let byte : b < 256 = All-head IsCell (Some b) w all in
    let e : front t (suc n) ≡ front t n / 256 = front-suc t n in
    let next : 256 * m + b ≡ front t n = front_of-big n t (256 * m + b) w (All-tail IsCell (Some b) w all) h in
    omega (arith, next, e, byte)

number_cell : (n t d q p : ℕ) (rest : Formula) → q ≡ front t n → d ≡ q % 256 → p ≡ q / 256 → ((w : List Cell) → AreCells w → (Reads rest w ↔ MakeBig n (λ x. x ≡ t) q w)) →
    (w : List Cell) → AreCells w → (Reads (run d (d + 1) rest) w ↔ MakeBig (suc n) (λ x. x ≡ t) p w)
number_cell n t d q p rest is_front is_digit is_before reads [] all = (λ h. h, λ h. absurd h)
number_cell n t d q p rest is_front is_digit is_before reads (None ∷ w) all = (λ h. omega (arith, h.0.1, is_digit), λ h. absurd h)
number_cell n t d q p rest is_front is_digit is_before reads (Some b ∷ w) all =
    let tail : AreCells w = All-tail IsCell (Some b) w all in
    let byte : b < 256 = All-head IsCell (Some b) w all in (
      λ h.
          let here : 256 * p + b ≡ q = omega (arith, h.0.0, h.0.1, is_digit, is_before) in
          subst (λ m. MakeBig n (λ x. x ≡ t) m w) (sym here) ((reads w tail).0 h.1),
      λ h.
          let here : 256 * p + b ≡ q = front_of-big n t (256 * p + b) w tail h ∙ sym is_front in
          let same : b ≡ d = omega (arith, here, is_digit, is_before, byte) in
          ((omega (arith, same), omega (arith, same)), (reads w tail).1 (subst (λ m. MakeBig n (λ x. x ≡ t) m w) here h)),
    )

-- ---- the formulas

pub big_number_more : (fs0 fs1 fs2 : List Formula) (n w t d r i : ℕ) → suc n ≡ w → d ≡ t / 2 ^ (8 * n) % 256 → IsBig fs0 fs1 n (λ m. m ≡ t) (t / 2 ^ (8 * n)) r →
    IsMade fs1 fs2 (run d (d + 1) (formula_in fs1 r)) i → IsBig fs0 fs2 w (λ m. m ≡ t) (t / 2 ^ (8 * w)) i
big_number_more fs0 fs1 fs2 n w t d r i long digit rest made =
    let before : front t n / 256 ≡ t / 2 ^ (8 * w) = sym (front-suc t n) ∙ ap (λ k. t / 2 ^ (8 * k)) long in
    let step = number_cell n t d (front t n) (front t n / 256) (formula_in fs1 r) refl digit refl rest.reads in
    subst (λ k. IsBig fs0 fs2 k (λ m. m ≡ t) (t / 2 ^ (8 * w)) i) long
    (subst (λ p. IsBig fs0 fs2 (suc n) (λ m. m ≡ t) p i) before (record {
      kept = Keeps-trans fs0 fs1 fs2 rest.kept made.kept;
      there = made.there;
      reads = λ v all. (λ h. (step v all).0 ((made.same v).0 h), λ h. (made.same v).1 ((step v all).1 h));
    }))

pub big_number_none : (fs0 fs1 : List Formula) (i t w : ℕ) → w ≡ 0 → IsMade fs0 fs1 any i → IsBig fs0 fs1 w (λ m. m ≡ t) (t / 2 ^ (8 * w)) i
big_number_none fs0 fs1 i t w none made =
    subst (λ k. IsBig fs0 fs1 k (λ m. m ≡ t) (t / 2 ^ (8 * k)) i) (sym none)
    (record { kept = made.kept; there = made.there; reads = λ w all. (λ h. front-zero t, λ h. (made.same w).1 tt) })

module _ (fs0 fs1 fs2 fs3 : List Formula) (n w t d r b i : ℕ) (long : suc n ≡ w) (digit : d ≡ t / 2 ^ (8 * n) % 256) (bytes : AreBytes fs1 fs2 n b) where
  before : front t n / 256 ≡ t / 2 ^ (8 * w)
  before = sym (front-suc t n) ∙ ap (λ k. t / 2 ^ (8 * k)) long

  rest_reads : (P : ℕ → Type 0) → IsBig fs0 fs1 n P (front t n) r → (w : List Cell) → AreCells w → (Reads (formula_in fs2 r) w ↔ MakeBig n P (front t n) w)
  rest_reads P rest = subst (λ f. (w : List Cell) → AreCells w → (Reads f w ↔ MakeBig n P (front t n) w)) (sym (Keeps-at fs1 fs2 bytes.kept r rest.there)) rest.reads

  pub up_to_more : IsBig fs0 fs1 n (λ m. m ≤ t) (t / 2 ^ (8 * n)) r →
      IsMade fs2 fs3 (either (run 0 d (formula_in fs2 b)) (run d (d + 1) (formula_in fs2 r))) i → IsBig fs0 fs3 w (λ m. m ≤ t) (t / 2 ^ (8 * w)) i
  up_to_more rest made =
      let step = up_to_cell n t d (front t n) (front t n / 256) (formula_in fs2 b) (formula_in fs2 r) refl digit refl bytes.reads (rest_reads (λ m. m ≤ t) rest) in
      subst (λ k. IsBig fs0 fs3 k (λ m. m ≤ t) (t / 2 ^ (8 * w)) i) long
      (subst (λ p. IsBig fs0 fs3 (suc n) (λ m. m ≤ t) p i) before (record {
        kept = Keeps-trans fs0 fs1 fs3 rest.kept (Keeps-trans fs1 fs2 fs3 bytes.kept made.kept);
        there = made.there;
        reads = λ v all. (λ h. (step v all).0 ((made.same v).0 h), λ h. (made.same v).1 ((step v all).1 h));
      }))

  pub from_more : IsBig fs0 fs1 n (λ m. t ≤ m) (t / 2 ^ (8 * n)) r →
      IsMade fs2 fs3 (either (run d (d + 1) (formula_in fs2 r)) (run (d + 1) 256 (formula_in fs2 b))) i → IsBig fs0 fs3 w (λ m. t ≤ m) (t / 2 ^ (8 * w)) i
  from_more rest made =
      let step = from_cell n t d (front t n) (front t n / 256) (formula_in fs2 b) (formula_in fs2 r) refl digit refl bytes.reads (rest_reads (λ m. t ≤ m) rest) in
      subst (λ k. IsBig fs0 fs3 k (λ m. t ≤ m) (t / 2 ^ (8 * w)) i) long
      (subst (λ p. IsBig fs0 fs3 (suc n) (λ m. t ≤ m) p i) before (record {
        kept = Keeps-trans fs0 fs1 fs3 rest.kept (Keeps-trans fs1 fs2 fs3 bytes.kept made.kept);
        there = made.there;
        reads = λ v all. (λ h. (step v all).0 ((made.same v).0 h), λ h. (made.same v).1 ((step v all).1 h));
      }))

-- no byte is left
pub big_none : (fs0 fs1 : List Formula) (i t w : ℕ) → w ≡ 0 → IsMade fs0 fs1 any i →
    IsBig fs0 fs1 w (λ m. m ≤ t) (t / 2 ^ (8 * w)) i × IsBig fs0 fs1 w (λ m. t ≤ m) (t / 2 ^ (8 * w)) i
big_none fs0 fs1 i t w none made =
    subst (λ k. IsBig fs0 fs1 k (λ m. m ≤ t) (t / 2 ^ (8 * k)) i × IsBig fs0 fs1 k (λ m. t ≤ m) (t / 2 ^ (8 * k)) i) (sym none) (
      record { kept = made.kept; there = made.there; reads = λ w all. (λ h. omega (arith, front-zero t), λ h. (made.same w).1 tt) },
      record { kept = made.kept; there = made.there; reads = λ w all. (λ h. omega (arith, front-zero t), λ h. (made.same w).1 tt) },
    )

-- 1 shifted by so many whole bytes
pub digit_is : (t k w : ℕ) → suc k ≡ w → w ≤ 16 → t / (1 * 2 ^ (8 * k) % 340282366920938463463374607431768211456) % 256 ≡ t / 2 ^ (8 * k) % 256
digit_is t k w e le =
    let bits : 8 * k ≤ 120 = omega arith in
    let pos : 0 < 2 = omega arith in
    let small : 2 ^ (8 * k) ≤ 2 ^ 120 = pow-le-pow_right pos bits in
    let same : 1 * 2 ^ (8 * k) % 340282366920938463463374607431768211456 ≡ 2 ^ (8 * k) = omega (arith, small) in
    ap (λ m. t / m % 256) same
