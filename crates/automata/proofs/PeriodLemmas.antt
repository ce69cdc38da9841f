-- How far formulas look, and repetitions that fall into periods.
use Rattle.std.proofs.Common.{Option, Some, None, IfSome, ◌≡◌, ◌↔◌, ℕ, zero, suc, ◌+◌, ◌-◌, ◌*◌, ◌<◌, ◌≤◌, List, [], ◌∷◌, ◌++◌, length, take, drop, arith, sym, ap, ◌∙◌, subst, inl, inr, ⊎_elim, length-append, append_assoc, length-take, length-drop}
use Rattle.std.proofs.Math.Nat.{suc-mul}
use Rattle.std.proofs.Math.Seq.{drop-append_seam, take-append_seam}
use Rattle.std.proofs.lemmas.List.{append-nil, drop-drop, drop-take}
use Rattle.std.proofs.lemmas.List.Elements.{All-append, All-drop, All-nil, All-take}
use Rattle.automata.specs.Cell.{Cell, IsCell, AreCells}
use Rattle.automata.specs.Formula.{Formula, any, never, run, both, either, gap, each, HoldsEach, Reads, Same}
use Rattle.automata.specs.Inclusion.{Includes, IsDecided, IsInclusion, IsOnlyIn}
use Rattle.automata.specs.Reach.{ArePeriods, IsOfPeriods, copies, reach}
use Rattle.automata.specs.declared.inclusion.Inclusion.{Inclusion}
use Rattle.automata.specs.declared.inclusion.Inclusion.TheVariants.{Included, Missing, TooLarge}
use Rattle.automata.specs.declared.periods.Periods.{Periods}
use Rattle.automata.specs.declared.periods.Repeated.{Repeated}

-- ---- a formula reads by the first cells that it looks at

-- the rest of the first cells
drop_first : (n m : ℕ) (w : List Cell) → m ≤ n → drop m (take n w) ≡ take (n - m) (drop m w)
drop_first n m w le =
    let e : n ≡ m + (n - m) = omega arith in
    ap (λ i. drop m (take i w)) e ∙ drop-take m (n - m) w

-- the formula reads by so many first cells as it looks at
abbrev IsLocal : Formula → Type 0
IsLocal f = (n : ℕ) (w : List Cell) → reach f ≤ n → n ≤ length w → (Reads f w ↔ Reads f (take n w))

each_first : (f : Formula) → IsLocal f → (count size n : ℕ) (w : List Cell) → reach (each count size f) ≤ n → n ≤ length w →
    (HoldsEach (Reads f) count size w ↔ HoldsEach (Reads f) count size (take n w))
each_first f local zero size n w le long = (λ h. tt, λ h. tt)
each_first f local (suc zero) size n w le long =
    let first = local n w (omega (arith, le)) long in
    (λ h. (first.0 h.0, tt), λ h. (first.1 h.0, tt))
each_first f local (suc (suc count)) size n w le long =
    let more = suc-mul count size in
    let first = local n w (omega (arith, le)) long in
    let rest = each_first f local (suc count) size (n - size) (drop size w) (omega (arith, le, more)) (omega (arith, long, le, more, length-drop size w)) in
    let same = drop_first n size w (omega (arith, le, more)) in (
      λ h. (first.0 h.0, subst (HoldsEach (Reads f) (suc count) size) (sym same) (rest.0 h.1)),
      λ h. (first.1 h.0, rest.1 (subst (HoldsEach (Reads f) (suc count) size) same h.1)),
    )

pub reads_first : (f : Formula) (n : ℕ) (w : List Cell) → reach f ≤ n → n ≤ length w → (Reads f w ↔ Reads f (take n w))
reads_first any n w le long = (λ h. h, λ h. h)
reads_first never n w le long = (λ h. h, λ h. h)
reads_first (run start end f) zero w le long = absurd (omega (arith, le))
reads_first (run start end f) (suc n) [] le long = absurd (omega (arith, long))
reads_first (run start end f) (suc n) (c ∷ w) le long =
    let rest = reads_first f n w (omega (arith, le)) (omega (arith, long)) in
    (λ h. (h.0, rest.0 h.1), λ h. (h.0, rest.1 h.1))
reads_first (both f g) n w le long =
    let first = reads_first f n w (omega (arith, le)) long in
    let second = reads_first g n w (omega (arith, le)) long in
    (λ h. (first.0 h.0, second.0 h.1), λ h. (first.1 h.0, second.1 h.1))
reads_first (either f g) n w le long =
    let first = reads_first f n w (omega (arith, le)) long in
    let second = reads_first g n w (omega (arith, le)) long in (
      λ h. ⊎_elim (λ x. inl (first.0 x)) (λ x. inr (second.0 x)) h,
      λ h. ⊎_elim (λ x. inl (first.1 x)) (λ x. inr (second.1 x)) h,
    )
reads_first (gap m f) n w le long =
    let rest = reads_first f (n - m) (drop m w) (omega (arith, le)) (omega (arith, long, le, length-drop m w)) in
    let same = drop_first n m w (omega (arith, le)) in
    (λ h. subst (Reads f) (sym same) (rest.0 h), λ h. rest.1 (subst (Reads f) same h))
reads_first (each count size f) n w le long = each_first f (λ m v. reads_first f m v) count size n w le long

-- ---- repetitions of repetitions

each_split : (P : List Cell → Type 0) (a b size : ℕ) (w : List Cell) → (HoldsEach P (a + b) size w ↔ (HoldsEach P a size w × HoldsEach P b size (drop (a * size) w)))
each_split P zero b size w =
    let none : zero + b ≡ b = omega arith in
    let still : zero * size ≡ zero = omega arith in
    let start : drop (zero * size) w ≡ w = ap (λ k. drop k w) still in (
      λ h. (tt, subst (HoldsEach P b size) (sym start) (subst (λ k. HoldsEach P k size w) none h)),
      λ h. subst (λ k. HoldsEach P k size w) (sym none) (subst (HoldsEach P b size) start h.1),
    )
each_split P (suc a) b size w =
    let more : suc a + b ≡ suc (a + b) = omega arith in
    let rest = each_split P a b size (drop size w) in
    let behind : drop (a * size) (drop size w) ≡ drop (suc a * size) w = drop-drop (a * size) size w ∙ ap (λ k. drop k w) (omega (arith, suc-mul a size)) in (
      λ h.
          let x = subst (λ k. HoldsEach P k size w) more h in
          let y = rest.0 x.1 in
          ((x.0, y.0), subst (HoldsEach P b size) behind y.1),
      λ h. subst (λ k. HoldsEach P k size w) (sym more) (h.0.0, rest.1 (h.0.1, subst (HoldsEach P b size) (sym behind) h.1)),
    )

pub each_nested : (P : List Cell → Type 0) (k q size : ℕ) (w : List Cell) → (HoldsEach P (k * q) size w ↔ HoldsEach (HoldsEach P q size) k (q * size) w)
each_nested P zero q size w =
    let none : zero * q ≡ zero = omega arith in
    (λ h. tt, λ h. subst (λ n. HoldsEach P n size w) (sym none) tt)
each_nested P (suc k) q size w =
    let more : suc k * q ≡ q + k * q = omega (arith, suc-mul k q) in
    let split = each_split P q (k * q) size w in
    let rest = each_nested P k q size (drop (q * size) w) in (
      λ h. let x = split.0 (subst (λ n. HoldsEach P n size w) more h) in (x.0, rest.0 x.1),
      λ h. subst (λ n. HoldsEach P n size w) (sym more) (split.1 (h.0, rest.1 h.1)),
    )

-- what one period says, all say
each_period : (A B : List Cell → Type 0) (p : ℕ) → ((v : List Cell) → AreCells v → p ≤ length v → A v → B v) →
    (k : ℕ) (w : List Cell) → AreCells w → k * p ≤ length w → HoldsEach A k p w → HoldsEach B k p w
each_period A B p step zero w all long h = tt
each_period A B p step (suc k) w all long h =
    let more = suc-mul k p in (
      step w all (omega (arith, long, more)) h.0,
      each_period A B p step k (drop p w) (All-drop IsCell p w all) (omega (arith, long, more, length-drop p w)) h.1,
    )

reach_each : (q size : ℕ) (f : Formula) → reach f ≤ size → reach (each q size f) ≤ q * size
reach_each zero size f le = omega arith
reach_each (suc q) size f le = omega (arith, le, suc-mul q size)

pub included : (left right : Repeated) (p : Periods) (f g one other : Formula) (size : ℕ) → ArePeriods left right p → size ≡ p.count * p.size → reach f ≤ left.size → reach g ≤ right.size →
    Same one (each p.left left.size f) → Same other (each p.right right.size g) → Includes one other p.size → Includes (each left.count left.size f) (each right.count right.size g) size
included left right p f g one other size are long within_left within_right same_one same_other inside w all len h =
    let A : List Cell → Type 0 = HoldsEach (Reads f) p.left left.size in
    let B : List Cell → Type 0 = HoldsEach (Reads g) p.right right.size in
    let step : (v : List Cell) → AreCells v → p.size ≤ length v → A v → B v = λ v cells enough x.
    let low = reads_first (each p.left left.size f) p.size v (omega (arith, reach_each p.left left.size f within_left, are.left_size)) enough in
    let high = reads_first (each p.right right.size g) p.size v (omega (arith, reach_each p.right right.size g within_right, are.right_size)) enough in
    high.1 ((same_other (take p.size v)).0 (inside (take p.size v) (All-take IsCell p.size v cells) (omega (arith, length-take p.size v, enough)) ((same_one (take p.size v)).1 (low.0 x)))) in
    let first = (each_nested (Reads f) p.count p.left left.size w).0 (subst (λ n. HoldsEach (Reads f) n left.size w) are.left_count h) in
    let through = each_period A B p.size step p.count w all (omega (arith, len, long)) (subst (λ n. HoldsEach A p.count n w) (sym are.left_size) first) in
    subst (λ n. HoldsEach (Reads g) n right.size w) (sym are.right_count)
    ((each_nested (Reads g) p.count p.right right.size w).1 (subst (λ n. HoldsEach B p.count n w) are.right_size through))

-- ---- cells, so often one behind another

pub copies_more : (n : ℕ) (w : List Cell) → copies n w ++ w ≡ copies (suc n) w
copies_more zero w = sym (append-nil w)
copies_more (suc n) w = append_assoc w (copies n w) w ∙ ap (λ v. w ++ v) (copies_more n w)

copies_length : (n p : ℕ) (w : List Cell) → length w ≡ p → length (copies n w) ≡ n * p
copies_length zero p w e = omega arith
copies_length (suc n) p w e = omega (arith, length-append w (copies n w), e, copies_length n p w e, suc-mul n p)

copies_cells : (n : ℕ) (w : List Cell) → AreCells w → AreCells (copies n w)
copies_cells zero w all = All-nil IsCell
copies_cells (suc n) w all = All-append IsCell w (copies n w) all (copies_cells n w all)

take_one : (p : ℕ) (w v : List Cell) → length w ≡ p → take p (w ++ v) ≡ w
take_one p w v e = ap (λ n. take n (w ++ v)) (sym e) ∙ take-append_seam w v

drop_one : (p : ℕ) (w v : List Cell) → length w ≡ p → drop p (w ++ v) ≡ v
drop_one p w v e = ap (λ n. drop n (w ++ v)) (sym e) ∙ drop-append_seam w v

-- what reads some cells reads them in front of others, and the other way round
one_first : (f : Formula) (p : ℕ) (w v : List Cell) → reach f ≤ p → length w ≡ p → (Reads f (w ++ v) ↔ Reads f w)
one_first f p w v le e =
    let long : p ≤ length (w ++ v) = omega (arith, length-append w v, e) in
    let first = reads_first f p (w ++ v) le long in
    let same = take_one p w v e in
    (λ h. subst (Reads f) same (first.0 h), λ h. first.1 (subst (Reads f) (sym same) h))

each_copy : (f : Formula) (p : ℕ) (w : List Cell) → reach f ≤ p → length w ≡ p → Reads f w → (n : ℕ) → HoldsEach (Reads f) n p (copies n w)
each_copy f p w le e h zero = tt
each_copy f p w le e h (suc n) =
    ((one_first f p w (copies n w) le e).1 h, subst (HoldsEach (Reads f) n p) (sym (drop_one p w (copies n w) e)) (each_copy f p w le e h n))

first_copy : (f : Formula) (p : ℕ) (w : List Cell) → reach f ≤ p → length w ≡ p → (n : ℕ) → 0 < n → HoldsEach (Reads f) n p (copies n w) → Reads f w
first_copy f p w le e zero some h = absurd (omega arith)
first_copy f p w le e (suc n) some h = (one_first f p w (copies n w) le e).0 h.0

pub apart : (left right : Repeated) (p : Periods) (f g one other : Formula) (size : ℕ) → ArePeriods left right p → size ≡ p.count * p.size → 0 < p.count → reach f ≤ left.size → reach g ≤ right.size →
    Same one (each p.left left.size f) → Same other (each p.right right.size g) → (own : List Cell) → IsOnlyIn one other p.size own →
    IsOnlyIn (each left.count left.size f) (each right.count right.size g) size (copies p.count own)
apart left right p f g one other size are long some within_left within_right same_one same_other own (cells, len, held, none) =
    let a : Formula = each p.left left.size f in
    let b : Formula = each p.right right.size g in
    let low : reach a ≤ p.size = omega (arith, reach_each p.left left.size f within_left, are.left_size) in
    let high : reach b ≤ p.size = omega (arith, reach_each p.right right.size g within_right, are.right_size) in
    let all = copies p.count own in (
      copies_cells p.count own cells,
      omega (arith, copies_length p.count p.size own len, long),
      subst (λ n. HoldsEach (Reads f) n left.size all) (sym are.left_count)
          ((each_nested (Reads f) p.count p.left left.size all).1
          (subst (λ n. HoldsEach (Reads a) p.count n all) are.left_size (each_copy a p.size own low len ((same_one own).0 held) p.count))),
      λ h.
          let nested = (each_nested (Reads g) p.count p.right right.size all).0 (subst (λ n. HoldsEach (Reads g) n right.size all) are.right_count h) in
          none ((same_other own).1 (first_copy b p.size own high len p.count some (subst (λ n. HoldsEach (Reads b) p.count n all) (sym are.right_size) nested))),
    )

-- what one period says is so of all
pub of_periods : (left right : Repeated) (p : Periods) (f g one other : Formula) (size : ℕ) (inclusion all : Inclusion) → ArePeriods left right p → size ≡ p.count * p.size → 0 < p.count →
    reach f ≤ left.size → reach g ≤ right.size → Same one (each p.left left.size f) → Same other (each p.right right.size g) → IsInclusion one other p.size inclusion → IsOfPeriods p.count inclusion all →
    IsDecided (each left.count left.size f) (each right.count right.size g) size all
of_periods left right p f g one other size Included Included are long some within_left within_right same_one same_other is of_it =
    included left right p f g one other size are long within_left within_right same_one same_other is
of_periods left right p f g one other size (Missing own) (Missing cells) are long some within_left within_right same_one same_other is of_it =
    subst (IsOnlyIn (each left.count left.size f) (each right.count right.size g) size) (sym of_it)
    (apart left right p f g one other size are long some within_left within_right same_one same_other own.items is)
of_periods left right p f g one other size Included (Missing cells) are long some within_left within_right same_one same_other is of_it = absurd of_it
of_periods left right p f g one other size Included TooLarge are long some within_left within_right same_one same_other is of_it = absurd of_it
of_periods left right p f g one other size (Missing own) Included are long some within_left within_right same_one same_other is of_it = absurd of_it
of_periods left right p f g one other size (Missing own) TooLarge are long some within_left within_right same_one same_other is of_it = absurd of_it
of_periods left right p f g one other size TooLarge all are long some within_left within_right same_one same_other is of_it = absurd of_it

pub decided_is : (f g : Formula) (size : ℕ) (answer : Inclusion) → IsDecided f g size answer → IsInclusion f g size answer
decided_is f g size Included is = is
decided_is f g size (Missing cells) is = is
decided_is f g size TooLarge is = tt

pub decided_small : (f g : Formula) (size : ℕ) (answer : Inclusion) → IsDecided f g size answer → answer ≡ TooLarge → ⊥
decided_small f g size answer is e = subst (IsDecided f g size) e is

pub of_found : (o : Option Inclusion) (P Q : Inclusion → Type 0) → ((answer : Inclusion) → P answer → Q answer) → IfSome o P → IfSome o Q
of_found None P Q step h = tt
of_found (Some answer) P Q step h = step answer h
