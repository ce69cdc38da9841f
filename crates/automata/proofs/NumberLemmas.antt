-- Cells that make a number.
use Rattle.std.proofs.Common.{Some, None, ◌≡◌, ℕ, zero, suc, ◌+◌, ◌*◌, ◌<◌, ◌≤◌, List, [], ◌∷◌, length, arith, refl, sym, subst, inl, inr, ⊎_elim}
use Rattle.std.proofs.lemmas.Bool.{cases_lt}
use Rattle.std.proofs.lemmas.List.Elements.{All-head, All-tail}
use Rattle.automata.specs.Cell.{Cell, IsCell, AreCells}
use Rattle.automata.specs.Formula.{Formula, any, never, run, either, Reads, Same}
use Rattle.automata.specs.Nodes.{formula_in}
use Rattle.automata.specs.Formulas.{Keeps, IsMade}
use Rattle.automata.specs.Number.{MakeLittle, ReadsLittle, IsLittle, IsBelow, IsAbove}
use Rattle.automata.specs.declared.numbers.Bound.{Bound}
use Rattle.automata.proofs.NodesLemmas.{Keeps-trans, Keeps-at, Keeps-there}

-- another fact that is true of the same numbers
make_like : (n : ℕ) (P Q : ℕ → Type 0) (w : List Cell) → ((m : ℕ) → P m → Q m) → MakeLittle n P w → MakeLittle n Q w
make_like zero P Q w f h = f 0 h
make_like (suc n) P Q [] f h = h
make_like (suc n) P Q (None ∷ w) f h = h
make_like (suc n) P Q (Some b ∷ w) f h = make_like n (λ r. P (b + 256 * r)) (λ r. Q (b + 256 * r)) w (λ r. f (b + 256 * r)) h

-- a formula that is split at a byte: for bytes below it the rest is in A, for others in B, and each means P of the whole
module _ (n at : ℕ) (below from : Formula) (A B P : ℕ → Type 0) (small : at ≤ 256) (reads_below : ReadsLittle below n A) (reads_from : ReadsLittle from n B)
    (to_below : (b r : ℕ) → b < at → A r → P (b + 256 * r)) (of_below : (b r : ℕ) → b < at → P (b + 256 * r) → A r)
    (to_from : (b r : ℕ) → at ≤ b → b < 256 → B r → P (b + 256 * r)) (of_from : (b r : ℕ) → at ≤ b → b < 256 → P (b + 256 * r) → B r) where
  pub split_reads : ReadsLittle (either (run 0 at below) (run at 256 from)) (suc n) P
  split_reads [] all = (λ h. ⊎_elim (λ x. x) (λ x. x) h, λ h. absurd h)
  split_reads (None ∷ w) all = (λ h. ⊎_elim (λ x. omega (arith, x.0.1, small)) (λ x. omega (arith, x.0.1)) h, λ h. absurd h)
  split_reads (Some b ∷ w) all =
      let rest : AreCells w = All-tail IsCell (Some b) w all in
      let byte : b < 256 = All-head IsCell (Some b) w all in (
        λ h. ⊎_elim
            (λ x. make_like n A (λ r. P (b + 256 * r)) w (λ r. to_below b r x.0.1) ((reads_below w rest).0 x.1))
            (λ x. make_like n B (λ r. P (b + 256 * r)) w (λ r. to_from b r x.0.0 x.0.1) ((reads_from w rest).0 x.1))
            h,
        λ h. ⊎_elim
            (λ lt. inl ((omega arith, lt), (reads_below w rest).1 (make_like n (λ r. P (b + 256 * r)) A w (λ r. of_below b r lt) h)))
            (λ le. inr ((le, byte), (reads_from w rest).1 (make_like n (λ r. P (b + 256 * r)) B w (λ r. of_from b r le byte) h)))
            (cases_lt b at),
      )

reads_same : (f g : Formula) (n : ℕ) (P : ℕ → Type 0) → Same f g → ReadsLittle g n P → ReadsLittle f n P
reads_same f g n P same reads w all = (λ h. (reads w all).0 ((same w).0 h), λ h. (same w).1 ((reads w all).1 h))

module _ (fs0 fs1 fs2 fs3 : List Formula) (n t high digit : ℕ) (rest : Bound) (s l : ℕ) (is : t ≡ digit + 256 * high) (small : digit < 256) where
  moved : (i : ℕ) (P : ℕ → Type 0) → Keeps fs1 fs2 → i < length fs1 → ReadsLittle (formula_in fs1 i) n P → ReadsLittle (formula_in fs2 i) n P
  moved i P kept there h = subst (λ f. ReadsLittle f n P) (sym (Keeps-at fs1 fs2 kept i there)) h

  -- the numbers below, by those of one byte less
  pub below_more : IsBelow fs0 fs1 n high rest →
      IsMade fs1 fs2 (either (run 0 digit (formula_in fs1 rest.loose)) (run digit 256 (formula_in fs1 rest.strict))) s →
      IsMade fs2 fs3 (either (run 0 (digit + 1) (formula_in fs2 rest.loose)) (run (digit + 1) 256 (formula_in fs2 rest.strict))) l →
      IsBelow fs0 fs3 (suc n) t (record { strict = s; loose = l })
  below_more inner one two = record {
    kept = Keeps-trans fs0 fs1 fs3 inner.kept (Keeps-trans fs1 fs2 fs3 one.kept two.kept);
    strict_there = Keeps-there fs2 fs3 two.kept s one.there;
    loose_there = two.there;
    strict = subst (λ f. ReadsLittle f (suc n) (λ m. m < t)) (sym (Keeps-at fs2 fs3 two.kept s one.there))
        (reads_same (formula_in fs2 s) (either (run 0 digit (formula_in fs1 rest.loose)) (run digit 256 (formula_in fs1 rest.strict))) (suc n) (λ m. m < t) one.same
        (split_reads n digit (formula_in fs1 rest.loose) (formula_in fs1 rest.strict) (λ r. r ≤ high) (λ r. r < high) (λ m. m < t) (omega arith) inner.loose inner.strict
        (λ b r lt h. omega arith) (λ b r lt h. omega arith) (λ b r le lt h. omega arith) (λ b r le lt h. omega arith)));
    loose =
        reads_same (formula_in fs3 l) (either (run 0 (digit + 1) (formula_in fs2 rest.loose)) (run (digit + 1) 256 (formula_in fs2 rest.strict))) (suc n) (λ m. m ≤ t) two.same
        (split_reads n (digit + 1) (formula_in fs2 rest.loose) (formula_in fs2 rest.strict) (λ r. r ≤ high) (λ r. r < high) (λ m. m ≤ t) (omega arith)
        (moved rest.loose (λ r. r ≤ high) one.kept inner.loose_there inner.loose) (moved rest.strict (λ r. r < high) one.kept inner.strict_there inner.strict)
        (λ b r lt h. omega arith) (λ b r lt h. omega arith) (λ b r le lt h. omega arith) (λ b r le lt h. omega arith));
  }

  -- the numbers above
  pub above_more : IsAbove fs0 fs1 n high rest →
      IsMade fs1 fs2 (either (run 0 (digit + 1) (formula_in fs1 rest.strict)) (run (digit + 1) 256 (formula_in fs1 rest.loose))) s →
      IsMade fs2 fs3 (either (run 0 digit (formula_in fs2 rest.strict)) (run digit 256 (formula_in fs2 rest.loose))) l →
      IsAbove fs0 fs3 (suc n) t (record { strict = s; loose = l })
  above_more inner one two = record {
    kept = Keeps-trans fs0 fs1 fs3 inner.kept (Keeps-trans fs1 fs2 fs3 one.kept two.kept);
    strict_there = Keeps-there fs2 fs3 two.kept s one.there;
    loose_there = two.there;
    strict = subst (λ f. ReadsLittle f (suc n) (λ m. t < m)) (sym (Keeps-at fs2 fs3 two.kept s one.there))
        (reads_same (formula_in fs2 s) (either (run 0 (digit + 1) (formula_in fs1 rest.strict)) (run (digit + 1) 256 (formula_in fs1 rest.loose))) (suc n) (λ m. t < m) one.same
        (split_reads n (digit + 1) (formula_in fs1 rest.strict) (formula_in fs1 rest.loose) (λ r. high < r) (λ r. high ≤ r) (λ m. t < m) (omega arith) inner.strict inner.loose
        (λ b r lt h. omega arith) (λ b r lt h. omega arith) (λ b r le lt h. omega arith) (λ b r le lt h. omega arith)));
    loose =
        reads_same (formula_in fs3 l) (either (run 0 digit (formula_in fs2 rest.strict)) (run digit 256 (formula_in fs2 rest.loose))) (suc n) (λ m. t ≤ m) two.same
        (split_reads n digit (formula_in fs2 rest.strict) (formula_in fs2 rest.loose) (λ r. high < r) (λ r. high ≤ r) (λ m. t ≤ m) (omega arith)
        (moved rest.strict (λ r. high < r) one.kept inner.strict_there inner.strict) (moved rest.loose (λ r. high ≤ r) one.kept inner.loose_there inner.loose)
        (λ b r lt h. omega arith) (λ b r lt h. omega arith) (λ b r le lt h. omega arith) (λ b r le lt h. omega arith));
  }

-- no byte is left: the number is 0
module _ (fs : List Formula) (i : ℕ) (f : Formula) (P : ℕ → Type 0) (same : Same (formula_in fs i) f) where
  pub reads_any : f ≡ any → P 0 → ReadsLittle (formula_in fs i) 0 P
  reads_any is p w all = (λ h. p, λ h. (same w).1 (subst (λ g. Reads g w) (sym is) tt))

  pub reads_never : f ≡ never → (P 0 → ⊥) → ReadsLittle (formula_in fs i) 0 P
  reads_never is p w all = (λ h. absurd (subst (λ g. Reads g w) is ((same w).0 h)), λ h. absurd (p h))

pub below_some : (fs0 fs1 : List Formula) (i t : ℕ) → 0 < t → IsMade fs0 fs1 any i → IsBelow fs0 fs1 0 t (record { strict = i; loose = i })
below_some fs0 fs1 i t some made = record {
  kept = made.kept;
  strict_there = made.there;
  loose_there = made.there;
  strict = reads_any fs1 i any (λ m. m < t) made.same refl some;
  loose = reads_any fs1 i any (λ m. m ≤ t) made.same refl (omega arith);
}

pub below_none : (fs0 fs1 fs2 : List Formula) (i j t : ℕ) → t ≤ 0 → IsMade fs0 fs1 any i → IsMade fs1 fs2 never j → IsBelow fs0 fs2 0 t (record { strict = j; loose = i })
below_none fs0 fs1 fs2 i j t none one two = record {
  kept = Keeps-trans fs0 fs1 fs2 one.kept two.kept;
  strict_there = two.there;
  loose_there = Keeps-there fs1 fs2 two.kept i one.there;
  strict = reads_never fs2 j never (λ m. m < t) two.same refl (λ h. omega (arith, h, none));
  loose = subst (λ f. ReadsLittle f 0 (λ m. m ≤ t)) (sym (Keeps-at fs1 fs2 two.kept i one.there)) (reads_any fs1 i any (λ m. m ≤ t) one.same refl (omega arith));
}

pub above_some : (fs0 fs1 : List Formula) (i t : ℕ) → 0 < t → IsMade fs0 fs1 never i → IsAbove fs0 fs1 0 t (record { strict = i; loose = i })
above_some fs0 fs1 i t some made = record {
  kept = made.kept;
  strict_there = made.there;
  loose_there = made.there;
  strict = reads_never fs1 i never (λ m. t < m) made.same refl (λ h. omega (arith, h));
  loose = reads_never fs1 i never (λ m. t ≤ m) made.same refl (λ h. omega (arith, h, some));
}

pub above_none : (fs0 fs1 fs2 : List Formula) (i j t : ℕ) → t ≤ 0 → IsMade fs0 fs1 never i → IsMade fs1 fs2 any j → IsAbove fs0 fs2 0 t (record { strict = i; loose = j })
above_none fs0 fs1 fs2 i j t none one two = record {
  kept = Keeps-trans fs0 fs1 fs2 one.kept two.kept;
  strict_there = Keeps-there fs1 fs2 two.kept i one.there;
  loose_there = two.there;
  strict = subst (λ f. ReadsLittle f 0 (λ m. t < m)) (sym (Keeps-at fs1 fs2 two.kept i one.there)) (reads_never fs1 i never (λ m. t < m) one.same refl (λ h. omega (arith, h)));
  loose = reads_any fs2 j any (λ m. t ≤ m) two.same refl none;
}

-- one of two first cells
pub cells_made : (s0 s1 s2 s3 : List Formula) (i j k a b c d next other : ℕ) → other < length s0 → IsMade s0 s1 (run a b (formula_in s0 next)) i → IsMade s1 s2 (run c d (formula_in s1 other)) j →
    IsMade s2 s3 (either (formula_in s2 i) (formula_in s2 j)) k → IsMade s0 s3 (either (run a b (formula_in s0 next)) (run c d (formula_in s0 other))) k
cells_made s0 s1 s2 s3 i j k a b c d next other there one two both =
    let F : Formula = run a b (formula_in s0 next) in
    let G : Formula = run c d (formula_in s0 other) in
    let first : Same (formula_in s2 i) F = subst (λ f. Same f F) (sym (Keeps-at s1 s2 two.kept i one.there)) one.same in
    let second : Same (formula_in s2 j) G = subst (λ f. Same (formula_in s2 j) (run c d f)) (Keeps-at s0 s1 one.kept other there) two.same in
    record {
      kept = Keeps-trans s0 s1 s3 one.kept (Keeps-trans s1 s2 s3 two.kept both.kept);
      there = both.there;
      same = λ w. (
        λ h. ⊎_elim (λ x. inl ((first w).0 x)) (λ x. inr ((second w).0 x)) ((both.same w).0 h),
        λ h. (both.same w).1 (⊎_elim (λ x. inl ((first w).1 x)) (λ x. inr ((second w).1 x)) h),
      );
    }

-- a formula that is split at a byte
pub split_made : (s0 s1 s2 s3 : List Formula) (i j k at below from : ℕ) → from < length s0 → IsMade s0 s1 (run 0 at (formula_in s0 below)) i → IsMade s1 s2 (run at 256 (formula_in s1 from)) j →
    IsMade s2 s3 (either (formula_in s2 i) (formula_in s2 j)) k → IsMade s0 s3 (either (run 0 at (formula_in s0 below)) (run at 256 (formula_in s0 from))) k
split_made s0 s1 s2 s3 i j k at below from there one two both = cells_made s0 s1 s2 s3 i j k 0 at at 256 below from there one two both

-- ---- one number

made_some : (n : ℕ) (P : ℕ → Type 0) (w : List Cell) → MakeLittle n P w → (r : ℕ) × P r
made_some zero P w h = (0, h)
made_some (suc n) P [] h = absurd h
made_some (suc n) P (None ∷ w) h = absurd h
made_some (suc n) P (Some b ∷ w) h =
    let r = made_some n (λ r. P (b + 256 * r)) w h in
    (b + 256 * r.0, r.1)

number_cell : (f : Formula) (n digit high t : ℕ) → t ≡ digit + 256 * high → digit < 256 → ReadsLittle f n (λ r. r ≡ high) → ReadsLittle (run digit (digit + 1) f) (suc n) (λ m. m ≡ t)
number_cell f n digit high t is small reads [] all = (λ h. h, λ h. absurd h)
number_cell f n digit high t is small reads (None ∷ w) all = (λ h. omega (arith, h.0.1, small), λ h. absurd h)
number_cell f n digit high t is small reads (Some b ∷ w) all =
    let rest : AreCells w = All-tail IsCell (Some b) w all in
    let byte : b < 256 = All-head IsCell (Some b) w all in (
      λ h. make_like n (λ r. r ≡ high) (λ r. b + 256 * r ≡ t) w (λ r e. omega (arith, e, is, h.0.0, h.0.1)) ((reads w rest).0 h.1),
      λ h.
          let some = made_some n (λ r. b + 256 * r ≡ t) w h in
          let same : b ≡ digit = omega (arith, some.1, is, byte, small) in
          ((omega (arith, same), omega (arith, same)), (reads w rest).1 (make_like n (λ r. b + 256 * r ≡ t) (λ r. r ≡ high) w (λ r e. omega (arith, e, is, same)) h)),
    )

pub number_more : (fs0 fs1 fs2 : List Formula) (n digit high t r i : ℕ) → t ≡ digit + 256 * high → digit < 256 → IsLittle fs0 fs1 n (λ m. m ≡ high) r →
    IsMade fs1 fs2 (run digit (digit + 1) (formula_in fs1 r)) i → IsLittle fs0 fs2 (suc n) (λ m. m ≡ t) i
number_more fs0 fs1 fs2 n digit high t r i is small rest made = record {
  kept = Keeps-trans fs0 fs1 fs2 rest.kept made.kept;
  there = made.there;
  reads = reads_same (formula_in fs2 i) (run digit (digit + 1) (formula_in fs1 r)) (suc n) (λ m. m ≡ t) made.same (number_cell (formula_in fs1 r) n digit high t is small rest.reads);
}

pub number_zero : (fs0 fs1 : List Formula) (i t : ℕ) → t ≤ 0 → IsMade fs0 fs1 any i → IsLittle fs0 fs1 0 (λ m. m ≡ t) i
number_zero fs0 fs1 i t none made = record { kept = made.kept; there = made.there; reads = reads_any fs1 i any (λ m. m ≡ t) made.same refl (omega (arith, none)) }

pub number_none : (fs0 fs1 : List Formula) (i t : ℕ) → 0 < t → IsMade fs0 fs1 never i → IsLittle fs0 fs1 0 (λ m. m ≡ t) i
number_none fs0 fs1 i t some made = record { kept = made.kept; there = made.there; reads = reads_never fs1 i never (λ m. m ≡ t) made.same refl (λ h. omega (arith, h, some)) }
