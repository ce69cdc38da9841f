-- What formulas read.
use Rattle.std.proofs.Common.{Bool, true, false, MatchBool, ◌≡◌, ◌↔◌, ℕ, zero, suc, ◌+◌, ◌-◌, ◌<◌, ◌≤◌, List, [], ◌∷◌, drop, length, arith, refl, sym, ap, ◌∙◌, subst, inl, inr, ⊎_elim}
use Rattle.std.proofs.lemmas.List.{drop-drop}
use Rattle.automata.specs.Cell.{Cell, letter_of}
use Rattle.automata.specs.Formula.{Formula, any, never, run, both, either, gap, each, HoldsEach, IsOn, Reads, Same}
use Rattle.automata.specs.Nodes.{formula_in}
use Rattle.automata.specs.Formulas.{IsMade, IsShared}
use Rattle.automata.specs.Derivative.{IsBehind, IsDerivative}
use Rattle.automata.specs.declared.derivative.Derivative.{Derivative}
use Rattle.automata.specs.declared.formulas.SharedGap.{SharedGap}
use Rattle.automata.proofs.NodesLemmas.{Keeps-refl, Keeps-trans, Keeps-at, Keeps-there}

-- ---- formulas that read the same

pub same_refl : (f : Formula) → Same f f
same_refl f w = (λ h. h, λ h. h)

pub same_equal : (f g : Formula) → f ≡ g → Same f g
same_equal f g e = subst (Same f) e (same_refl f)

-- no letter lies there
pub run_none : (start end : ℕ) (f : Formula) → end ≤ start → Same never (run start end f)
run_none start end f le [] = (λ h. h, λ h. h)
run_none start end f le (c ∷ w) = (λ h. absurd h, λ h. omega (arith, h.0.0, h.0.1))

pub run_never : (start end : ℕ) (f : Formula) → f ≡ never → Same never (run start end f)
run_never start end f e = subst (λ g. Same never (run start end g)) (sym e) never_run
  where
    never_run : Same never (run start end never)
    never_run [] = (λ h. h, λ h. h)
    never_run (c ∷ w) = (λ h. absurd h, λ h. h.1)

pub both_alike : (f : Formula) → Same f (both f f)
both_alike f w = (λ h. (h, h), λ h. h.0)

pub both_any-right : (f g : Formula) → g ≡ any → Same f (both f g)
both_any-right f g e = subst (λ g. Same f (both f g)) (sym e) (λ w. (λ h. (h, tt), λ h. h.0))

pub both_any-left : (f g : Formula) → f ≡ any → Same g (both f g)
both_any-left f g e = subst (λ f. Same g (both f g)) (sym e) (λ w. (λ h. (tt, h), λ h. h.1))

pub both_never-left : (f g : Formula) → f ≡ never → Same f (both f g)
both_never-left f g e = subst (λ f. Same f (both f g)) (sym e) (λ w. (λ h. absurd h, λ h. h.0))

pub both_never-right : (f g : Formula) → g ≡ never → Same g (both f g)
both_never-right f g e = subst (λ g. Same g (both f g)) (sym e) (λ w. (λ h. absurd h, λ h. h.1))

pub either_alike : (f : Formula) → Same f (either f f)
either_alike f w = (λ h. inl h, λ h. ⊎_elim (λ x. x) (λ x. x) h)

pub either_never-right : (f g : Formula) → g ≡ never → Same f (either f g)
either_never-right f g e = subst (λ g. Same f (either f g)) (sym e) (λ w. (λ h. inl h, λ h. ⊎_elim (λ x. x) (λ x. absurd x) h))

pub either_never-left : (f g : Formula) → f ≡ never → Same g (either f g)
either_never-left f g e = subst (λ f. Same g (either f g)) (sym e) (λ w. (λ h. inr h, λ h. ⊎_elim (λ x. absurd x) (λ x. x) h))

pub either_any-left : (f g : Formula) → f ≡ any → Same f (either f g)
either_any-left f g e = subst (λ f. Same f (either f g)) (sym e) (λ w. (λ h. inl h, λ h. tt))

pub either_any-right : (f g : Formula) → g ≡ any → Same g (either f g)
either_any-right f g e = subst (λ g. Same g (either f g)) (sym e) (λ w. (λ h. inr h, λ h. tt))

pub gap_none : (n : ℕ) (f : Formula) → n ≡ 0 → Same f (gap n f)
gap_none n f e = subst (λ n. Same f (gap n f)) (sym e) (λ w. (λ h. h, λ h. h))

pub gap_any : (n : ℕ) (f : Formula) → f ≡ any → Same f (gap n f)
gap_any n f e = subst (λ f. Same f (gap n f)) (sym e) (λ w. (λ h. tt, λ h. tt))

pub gap_never : (n : ℕ) (f : Formula) → f ≡ never → Same f (gap n f)
gap_never n f e = subst (λ f. Same f (gap n f)) (sym e) (λ w. (λ h. h, λ h. h))

pub each_none : (n size : ℕ) (f : Formula) → n ≡ 0 → Same any (each n size f)
each_none n size f e = subst (λ n. Same any (each n size f)) (sym e) (λ w. (λ h. tt, λ h. tt))

pub each_one : (n size : ℕ) (f : Formula) → n ≡ 1 → Same f (each n size f)
each_one n size f e = subst (λ n. Same f (each n size f)) (sym e) (λ w. (λ h. (h, tt), λ h. h.0))

each_at : (P : List Cell → Type 0) (n : ℕ) (w : List Cell) → P w → HoldsEach P n 0 w
each_at P zero w h = tt
each_at P (suc n) w h = (h, each_at P n w h)

pub each_still : (n size : ℕ) (f : Formula) → (n ≡ 0 → ⊥) → size ≡ 0 → Same f (each n size f)
each_still n size f some e = subst (λ size. Same f (each n size f)) (sym e) (still n some)
  where
    still : (n : ℕ) → (n ≡ 0 → ⊥) → Same f (each n 0 f)
    still zero some w = absurd (some refl)
    still (suc n) some w = (λ h. each_at (Reads f) (suc n) w h, λ h. h.0)

each_any_at : (n size : ℕ) (w : List Cell) → HoldsEach (Reads any) n size w
each_any_at zero size w = tt
each_any_at (suc n) size w = (tt, each_any_at n size (drop size w))

pub each_any : (n size : ℕ) (f : Formula) → f ≡ any → Same f (each n size f)
each_any n size f e = subst (λ f. Same f (each n size f)) (sym e) (λ w. (λ h. each_any_at n size w, λ h. tt))

-- ---- derivatives

-- the derivative of a formula that is there: itself, for each letter
pub derivative_any : (fs : List Formula) (f i first end : ℕ) (x : Formula) → i < length fs → formula_in fs i ≡ x → first < end →
    ((c : Cell) → IsBehind x x c) → IsDerivative fs fs (formula_in fs i) first end (record { formula = i; end = end })
derivative_any fs f i first end x there is lt same = record {
  kept = Keeps-refl fs;
  there = there;
  some = lt;
  within = omega arith;
  behind = λ c from to. subst (λ y. IsBehind y y c) (sym is) (same c);
}

-- that of a run, before it, in it and behind it
pub derivative_run-off : (old new : List Formula) (f i first past start end : ℕ) (x : Formula) → formula_in old f ≡ run start end x → IsMade old new never i → (past' : ℕ) → first < past' → past' ≤ past →
    ((l : ℕ) → first ≤ l → l < past' → IsOn start end l → ⊥) → IsDerivative old new (formula_in old f) first past (record { formula = i; end = past' })
derivative_run-off old new f i first past start end x is made past' lt le off = record {
  kept = made.kept;
  there = made.there;
  some = lt;
  within = le;
  behind = λ c from to w. subst (λ y. Reads (formula_in new i) w ↔ Reads y (c ∷ w)) (sym is) (λ h. absurd ((made.same w).0 h), λ h. absurd (off (letter_of c) from to h.0));
}

pub derivative_run-on : (fs : List Formula) (f i first past start end : ℕ) → i < length fs → formula_in fs f ≡ run start end (formula_in fs i) → (past' : ℕ) → first < past' → past' ≤ past →
    start ≤ first → past' ≤ end → IsDerivative fs fs (formula_in fs f) first past (record { formula = i; end = past' })
derivative_run-on fs f i first past start end there is past' lt le from_start to_end = record {
  kept = Keeps-refl fs;
  there = there;
  some = lt;
  within = le;
  behind = λ c from to w. subst (λ y. Reads (formula_in fs i) w ↔ Reads y (c ∷ w)) (sym is) (λ h. ((omega arith, omega arith), h), λ h. h.1);
}

-- those of two formulas, one after the other
module _ (fs0 fs1 fs2 fs3 : List Formula) (f g h first past k : ℕ) (one two : Derivative) (g_there : g < length fs0) (h_there : h < length fs0)
    (d1 : IsDerivative fs0 fs1 (formula_in fs0 g) first past one) (d2 : IsDerivative fs1 fs2 (formula_in fs1 h) first one.end two) where
  second : (c : Cell) → first ≤ letter_of c → letter_of c < two.end → IsBehind (formula_in fs0 h) (formula_in fs2 two.formula) c
  second c from to = subst (λ x. IsBehind x (formula_in fs2 two.formula) c) (Keeps-at fs0 fs1 d1.kept h h_there) (d2.behind c from to)

  first_one : (c : Cell) → first ≤ letter_of c → letter_of c < two.end → IsBehind (formula_in fs0 g) (formula_in fs2 one.formula) c
  first_one c from to = subst (λ x. IsBehind (formula_in fs0 g) x c) (sym (Keeps-at fs1 fs2 d2.kept one.formula d1.there)) (d1.behind c from (omega (arith, d2.within)))

  derivative_of : (whole behind : Formula) → formula_in fs0 f ≡ whole → IsMade fs2 fs3 behind k → ((c : Cell) → first ≤ letter_of c → letter_of c < two.end → IsBehind whole behind c) →
      IsDerivative fs0 fs3 (formula_in fs0 f) first past (record { formula = k; end = two.end })
  derivative_of whole behind is made step = record {
    kept = Keeps-trans fs0 fs2 fs3 (Keeps-trans fs0 fs1 fs2 d1.kept d2.kept) made.kept;
    there = made.there;
    some = d2.some;
    within = omega (arith, d1.within, d2.within);
    behind = λ c from to. subst (λ x. IsBehind x (formula_in fs3 k) c) (sym is)
        (λ w. (λ r. (step c from to w).0 ((made.same w).0 r), λ r. (made.same w).1 ((step c from to w).1 r)));
  }

  pub derivative_both : formula_in fs0 f ≡ both (formula_in fs0 g) (formula_in fs0 h) → IsMade fs2 fs3 (both (formula_in fs2 one.formula) (formula_in fs2 two.formula)) k →
      IsDerivative fs0 fs3 (formula_in fs0 f) first past (record { formula = k; end = two.end })
  derivative_both is made = derivative_of _ _ is made (λ c from to w. (
    λ b. ((first_one c from to w).0 b.0, (second c from to w).0 b.1),
    λ b. ((first_one c from to w).1 b.0, (second c from to w).1 b.1),
  ))

  pub derivative_either : formula_in fs0 f ≡ either (formula_in fs0 g) (formula_in fs0 h) → IsMade fs2 fs3 (either (formula_in fs2 one.formula) (formula_in fs2 two.formula)) k →
      IsDerivative fs0 fs3 (formula_in fs0 f) first past (record { formula = k; end = two.end })
  derivative_either is made = derivative_of _ _ is made (λ c from to w. (
    λ r. ⊎_elim (λ x. inl ((first_one c from to w).0 x)) (λ x. inr ((second c from to w).0 x)) r,
    λ r. ⊎_elim (λ x. inl ((first_one c from to w).1 x)) (λ x. inr ((second c from to w).1 x)) r,
  ))

-- that of a gap
pub derivative_gap : (old new : List Formula) (f g k first end count less : ℕ) → formula_in old f ≡ gap count (formula_in old g) → count ≡ suc less → first < end →
    IsMade old new (gap less (formula_in old g)) k → IsDerivative old new (formula_in old f) first end (record { formula = k; end = end })
derivative_gap old new f g k first end count less is count_is lt made = record {
  kept = made.kept;
  there = made.there;
  some = lt;
  within = omega arith;
  behind = λ c from to. subst (λ x. IsBehind x (formula_in new k) c) (sym (is ∙ ap (λ n. gap n (formula_in old g)) count_is)) (λ w. made.same w);
}

pub derivative_gap-none : (old new : List Formula) (f g first end count : ℕ) (d : Derivative) → formula_in old f ≡ gap count (formula_in old g) → count ≡ 0 →
    IsDerivative old new (formula_in old g) first end d → IsDerivative old new (formula_in old f) first end d
derivative_gap-none old new f g first end count d is none made =
    record {
      kept = made.kept;
      there = made.there;
      some = made.some;
      within = made.within;
      behind = λ c from to. subst (λ x. IsBehind x (formula_in new d.formula) c) (sym (is ∙ ap (λ n. gap n (formula_in old g)) none)) (λ w. (made.behind c from to) w);
    }

-- that of something repeated
pub derivative_each : (fs0 fs1 fs2 fs3 fs4 : List Formula) (f e others behind k first past count size less left : ℕ) (one : Derivative) → e < length fs0 →
    formula_in fs0 f ≡ each count size (formula_in fs0 e) → count ≡ suc less → size ≡ suc left → IsDerivative fs0 fs1 (formula_in fs0 e) first past one →
    IsMade fs1 fs2 (each less size (formula_in fs1 e)) others → IsMade fs2 fs3 (gap left (formula_in fs2 others)) behind →
    IsMade fs3 fs4 (both (formula_in fs3 one.formula) (formula_in fs3 behind)) k → IsDerivative fs0 fs4 (formula_in fs0 f) first past (record { formula = k; end = one.end })
derivative_each fs0 fs1 fs2 fs3 fs4 f e others behind k first past count size less left one there is count_is size_is d1 m2 m3 m4 =
    let E : Formula = formula_in fs0 e in
    let same_e : formula_in fs1 e ≡ E = Keeps-at fs0 fs1 d1.kept e there in
    let D : Formula = formula_in fs1 one.formula in
    let same_d : formula_in fs3 one.formula ≡ D = Keeps-at fs1 fs3 (Keeps-trans fs1 fs2 fs3 m2.kept m3.kept) one.formula d1.there in
    let rest : (w : List Cell) → (Reads (formula_in fs3 behind) w ↔ HoldsEach (Reads E) less size (drop left w)) = λ w. (
      λ h. subst (λ x. HoldsEach (Reads x) less size (drop left w)) same_e ((m2.same (drop left w)).0 ((m3.same w).0 h)),
      λ h. (m3.same w).1 ((m2.same (drop left w)).1 (subst (λ x. HoldsEach (Reads x) less size (drop left w)) (sym same_e) h)),
    ) in
    record {
      kept = Keeps-trans fs0 fs1 fs4 d1.kept (Keeps-trans fs1 fs2 fs4 m2.kept (Keeps-trans fs2 fs3 fs4 m3.kept m4.kept));
      there = m4.there;
      some = d1.some;
      within = d1.within;
      behind = λ c from to. subst (λ x. IsBehind x (formula_in fs4 k) c) (sym (is ∙ ap (λ n. each n size E) count_is)) (λ w. (
        λ h.
            let b = (m4.same w).0 h in (
              ((d1.behind c from to) w).0 (subst (λ x. Reads x w) same_d b.0),
              subst (λ s. HoldsEach (Reads E) less size (drop s (c ∷ w))) (sym size_is) ((rest w).0 b.1),
            ),
        λ h. (m4.same w).1 (
          subst (λ x. Reads x w) (sym same_d) (((d1.behind c from to) w).1 h.0),
          (rest w).1 (subst (λ s. HoldsEach (Reads E) less size (drop s (c ∷ w))) size_is h.1),
        ),
      ));
    }

-- ---- where no cell is left

drop_none : (n : ℕ) (w : List Cell) → length w ≡ 0 → drop n w ≡ w
drop_none zero w e = refl
drop_none (suc n) [] e = refl
drop_none (suc n) (c ∷ w) e = absurd (omega arith)

each_end : (P : List Cell → Type 0) (n size : ℕ) → P [] → HoldsEach P n size []
each_end P zero size h = tt
each_end P (suc n) size h = (h, subst (HoldsEach P n size) (sym (drop_none size [] refl)) (each_end P n size h))

pub each_first : (P : List Cell → Type 0) (n size : ℕ) (w : List Cell) → 0 < n → HoldsEach P n size w → P w
each_first P zero size w some h = absurd (omega arith)
each_first P (suc n) size w some h = h.0

pub end_each : (x f : Formula) (n size : ℕ) (r : Bool) → x ≡ each n size f → 0 < n → MatchBool r (Reads f []) (Reads f [] → ⊥) → MatchBool r (Reads x []) (Reads x [] → ⊥)
end_each x f n size true is some h = subst (λ y. Reads y []) (sym is) (each_end (Reads f) n size h)
end_each x f n size false is some h = λ r. h (each_first (Reads f) n size [] some (subst (λ y. Reads y []) is r))

-- ---- gaps that two formulas share

gap_split : (n m k : ℕ) (f : Formula) → n ≡ m + k → Same (gap n f) (gap m (gap k f))
gap_split n m k f e w =
    let same : drop k (drop m w) ≡ drop n w = drop-drop k m w ∙ ap (λ i. drop i w) (omega (arith, e)) in
    (λ h. subst (Reads f) (sym same) h, λ h. subst (Reads f) same h)

gap_same : (n : ℕ) (f g : Formula) → Same f g → Same (gap n f) (gap n g)
gap_same n f g same w = same (drop n w)

same_trans : (f g h : Formula) → Same f g → Same g h → Same f h
same_trans f g h one two w = (λ r. (two w).0 ((one w).0 r), λ r. (one w).1 ((two w).1 r))

same_sym : (f g : Formula) → Same f g → Same g f
same_sym f g one w = ((one w).1, (one w).0)

-- two gaps, taken as the lesser and the rest of each
pub shared_gaps : (s0 s1 s2 : List Formula) (f g x y n m k i j : ℕ) → x < length s0 → y < length s0 → formula_in s0 f ≡ gap n (formula_in s0 x) → formula_in s0 g ≡ gap m (formula_in s0 y) →
    k ≤ n → k ≤ m → IsMade s0 s1 (gap (n - k) (formula_in s0 x)) i → IsMade s1 s2 (gap (m - k) (formula_in s1 y)) j → IsShared s0 s2 f g (record { count = k; first = i; second = j })
shared_gaps s0 s1 s2 f g x y n m k i j x_there y_there is_f is_g le_n le_m one two = record {
  kept = Keeps-trans s0 s1 s2 one.kept two.kept;
  first_there = Keeps-there s1 s2 two.kept i one.there;
  second_there = two.there;
  first =
      let X : Formula = formula_in s0 x in
      let inner : Same (gap (n - k) X) (formula_in s2 i) =
      subst (λ z. Same (gap (n - k) X) z) (sym (Keeps-at s1 s2 two.kept i one.there)) (same_sym (formula_in s1 i) (gap (n - k) X) one.same) in
      subst (λ z. Same z (gap k (formula_in s2 i))) (sym is_f)
      (same_trans (gap n X) (gap k (gap (n - k) X)) (gap k (formula_in s2 i)) (gap_split n k (n - k) X (omega (arith, le_n))) (gap_same k (gap (n - k) X) (formula_in s2 i) inner));
  second =
      let Y : Formula = formula_in s0 y in
      let same_y : formula_in s1 y ≡ Y = Keeps-at s0 s1 one.kept y y_there in
      let inner : Same (gap (m - k) Y) (formula_in s2 j) =
      subst (λ z. Same (gap (m - k) z) (formula_in s2 j)) same_y (same_sym (formula_in s2 j) (gap (m - k) (formula_in s1 y)) two.same) in
      subst (λ z. Same z (gap k (formula_in s2 j))) (sym is_g)
      (same_trans (gap m Y) (gap k (gap (m - k) Y)) (gap k (formula_in s2 j)) (gap_split m k (m - k) Y (omega (arith, le_m))) (gap_same k (gap (m - k) Y) (formula_in s2 j) inner));
}

-- no gap is shared
pub shared_none : (fs : List Formula) (f g : ℕ) → f < length fs → g < length fs → IsShared fs fs f g (record { count = 0; first = f; second = g })
shared_none fs f g f_there g_there = record {
  kept = Keeps-refl fs;
  first_there = f_there;
  second_there = g_there;
  first = gap_none 0 (formula_in fs f) refl;
  second = gap_none 0 (formula_in fs g) refl;
}

-- what two formulas say, behind the gap that they share
module _ (s0 s1 s2 s3 : List Formula) (f g i k : ℕ) (s : SharedGap) (shared : IsShared s0 s1 f g s) where
  pub both_shared : IsMade s1 s2 (both (formula_in s1 s.first) (formula_in s1 s.second)) i → IsMade s2 s3 (gap s.count (formula_in s2 i)) k → IsMade s0 s3 (both (formula_in s0 f) (formula_in s0 g)) k
  both_shared inner made = record {
    kept = Keeps-trans s0 s1 s3 shared.kept (Keeps-trans s1 s2 s3 inner.kept made.kept);
    there = made.there;
    same = λ w. (
      λ h. let r = (inner.same (drop s.count w)).0 ((made.same w).0 h) in ((shared.first w).1 r.0, (shared.second w).1 r.1),
      λ h. (made.same w).1 ((inner.same (drop s.count w)).1 ((shared.first w).0 h.0, (shared.second w).0 h.1)),
    );
  }

  pub either_shared : IsMade s1 s2 (either (formula_in s1 s.first) (formula_in s1 s.second)) i → IsMade s2 s3 (gap s.count (formula_in s2 i)) k → IsMade s0 s3 (either (formula_in s0 f) (formula_in s0 g)) k
  either_shared inner made = record {
    kept = Keeps-trans s0 s1 s3 shared.kept (Keeps-trans s1 s2 s3 inner.kept made.kept);
    there = made.there;
    same = λ w. (
      λ h. ⊎_elim (λ x. inl ((shared.first w).1 x)) (λ x. inr ((shared.second w).1 x)) ((inner.same (drop s.count w)).0 ((made.same w).0 h)),
      λ h. (made.same w).1 ((inner.same (drop s.count w)).1 (⊎_elim (λ x. inl ((shared.first w).0 x)) (λ x. inr ((shared.second w).0 x)) h)),
    );
  }
