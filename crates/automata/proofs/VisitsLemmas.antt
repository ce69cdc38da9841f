-- What a search has visited, as it goes on.
use Rattle.std.proofs.Common.{Some, None, All, ◌≡◌, ℕ, zero, suc, ◌+◌, ◌<◌, ◌≤◌, List, [], ◌∷◌, ◌++◌, length, get_or, reverse, arith, sym, ap, ◌∙◌, subst, inl, inr, append_assoc, length-append, ⊎_elim}
use Rattle.std.proofs.lemmas.List.{append-nil, get_or_append_left, get_or_push, get_or_default, reverse-append}
use Rattle.std.proofs.lemmas.List.Elements.{All-nil, All-cons, All-head, All-tail, All-weaker, All-push}
use Rattle.std.proofs.lemmas.Bool.{cases_lt}
use borrow.Author.Count.{below_more}
use Rattle.automata.specs.Cell.{Cell, IsCell, AreCells, letter_of}
use Rattle.automata.specs.Formula.{Formula, Reads}
use Rattle.automata.specs.Nodes.{formula_in}
use Rattle.automata.specs.Formulas.{Keeps}
use Rattle.automata.specs.Derivative.{IsBehind, IsDerivative}
use Rattle.automata.specs.Inclusion.{Includes, IsOnlyIn}
use Rattle.automata.specs.declared.derivative.Derivative.{Derivative}
use Rattle.automata.specs.declared.visits.Visit.{Visit}
use Rattle.automata.specs.Visits.{SomeOf, left_of, right_of, IsAlike, IsVisited, IsThere, IsStep, AreSteps, Leads, Sees, IsPlainBehind, IsFollowed, EndsToo, IsMissed, IsDone, IsPrefix, AreVisits, Follows, FollowsRun, IsRoot, IsFirst}
use Rattle.automata.proofs.NodesLemmas.{Keeps-refl, Keeps-trans, Keeps-at, Keeps-there}

-- ---- some of a list

module _ {X : Type 0} (P : X → Type 0) where
  SomeOf-left : (xs ys : List X) → SomeOf P xs → SomeOf P (xs ++ ys)
  SomeOf-left [] ys h = absurd h
  SomeOf-left (x ∷ xs) ys (inl h) = inl h
  SomeOf-left (x ∷ xs) ys (inr h) = inr (SomeOf-left xs ys h)

  SomeOf-right : (xs ys : List X) → SomeOf P ys → SomeOf P (xs ++ ys)
  SomeOf-right [] ys h = h
  SomeOf-right (x ∷ xs) ys h = inr (SomeOf-right xs ys h)

  pub SomeOf-at : (xs : List X) (i : ℕ) (d : X) → i < length xs → P (get_or xs i d) → SomeOf P xs
  SomeOf-at [] i d lt h = absurd (omega arith)
  SomeOf-at (x ∷ xs) zero d lt h = inl h
  SomeOf-at (x ∷ xs) (suc i) d lt h = inr (SomeOf-at xs i d (omega arith) h)

  SomeOf-index : (xs : List X) → SomeOf P xs → (i : ℕ) × (i < length xs) × ((d : X) → P (get_or xs i d))
  SomeOf-index [] h = absurd h
  SomeOf-index (x ∷ xs) (inl h) = (0, omega arith, λ d. h)
  SomeOf-index (x ∷ xs) (inr h) = let k = SomeOf-index xs h in (suc k.0, omega arith, λ d. k.2 d)

SomeOf-weaker : {X : Type 0} (P Q : X → Type 0) → ((x : X) → P x → Q x) → (xs : List X) → SomeOf P xs → SomeOf Q xs
SomeOf-weaker P Q f [] h = h
SomeOf-weaker P Q f (x ∷ xs) (inl h) = inl (f x h)
SomeOf-weaker P Q f (x ∷ xs) (inr h) = inr (SomeOf-weaker P Q f xs h)

SomeOf-both : {X : Type 0} (R P Q : X → Type 0) → ((x : X) → R x → P x → Q x) → (xs : List X) → All R xs → SomeOf P xs → SomeOf Q xs
SomeOf-both R P Q f [] all h = h
SomeOf-both R P Q f (x ∷ xs) all (inl h) = inl (f x (All-head R x xs all) h)
SomeOf-both R P Q f (x ∷ xs) all (inr h) = inr (SomeOf-both R P Q f xs (All-tail R x xs all) h)

All-at : {X : Type 0} (P : X → Type 0) (xs : List X) (i : ℕ) (d : X) → All P xs → i < length xs → P (get_or xs i d)
All-at P [] i d all lt = absurd (omega arith)
All-at P (x ∷ xs) zero d all lt = All-head P x xs all
All-at P (x ∷ xs) (suc i) d all lt = All-at P xs i d (All-tail P x xs all) (omega arith)

-- ---- the cells that led somewhere

-- one more cell in front
pub leads_more : (fs : List Formula) (visits : List Visit) (i j k : ℕ) (cells new : List Cell) (d : Visit) → AreSteps fs visits → 0 < i → i < length visits →
    k ≡ (get_or visits i d).from → k < length visits → new ≡ cells ++ (get_or visits i d).cell ∷ [] → Leads fs visits i j (reverse cells) → Leads fs visits k j (reverse new)
leads_more fs visits i j k cells new d steps pos lt k_is k_lt is leads =
    let v : Visit = get_or visits i d in
    let c : Cell = v.cell in
    let from : IsStep fs (get_or visits k d) v = subst (λ k. IsStep fs (get_or visits k d) v) (sym k_is) (steps i d pos lt) in
    let w : List Cell = reverse cells in
    subst (λ w. Leads fs visits k j w) (sym (ap reverse is ∙ reverse-append cells (c ∷ []))) (record {
      cells = All-cons IsCell c w from.cell leads.cells;
      place = λ e.
          let far = leads.place d in
          let near = from.place in
          subst (λ x. (get_or visits j e).place ≡ x.place + suc (length w)) (get_or_default visits k d e k_lt)
          (omega (arith, leads.place e, ap (λ x. x.place) (get_or_default visits i e d lt), near));
      left = λ e u h.
          let here : Reads (left_of fs v) (w ++ u) = subst (λ x. Reads (left_of fs x) (w ++ u)) (get_or_default visits i e d lt) (leads.left e u h) in
          subst (λ x. Reads (left_of fs x) (c ∷ (w ++ u))) (get_or_default visits k d e k_lt) ((from.left (w ++ u)).0 here);
      right = λ e u h.
          let there : Reads (right_of fs (get_or visits k d)) (c ∷ (w ++ u)) = subst (λ x. Reads (right_of fs x) (c ∷ (w ++ u))) (get_or_default visits k e d k_lt) h in
          let here : Reads (right_of fs v) (w ++ u) = (from.right (w ++ u)).1 there in
          leads.right e u (subst (λ x. Reads (right_of fs x) (w ++ u)) (get_or_default visits i d e lt) here);
    })

pub leads_none : (fs : List Formula) (visits : List Visit) (i : ℕ) → Leads fs visits i i []
leads_none fs visits i = record { cells = All-nil IsCell; place = λ d. omega arith; left = λ d u h. h; right = λ d u h. h }

-- ---- more formulas, and a visit behind the others

module _ (fs gs : List Formula) (kept : Keeps fs gs) where
  left-more : (v : Visit) → IsThere fs v → left_of gs v ≡ left_of fs v
  left-more v there = Keeps-at fs gs kept v.left there.0

  right-more : (v : Visit) → IsThere fs v → right_of gs v ≡ right_of fs v
  right-more v there = Keeps-at fs gs kept v.right there.1

  there-more : (v : Visit) → IsThere fs v → IsThere gs v
  there-more v there = (Keeps-there fs gs kept v.left there.0, Keeps-there fs gs kept v.right there.1)

  step-more : (v u : Visit) → IsThere fs v → IsThere fs u → IsStep fs v u → IsStep gs v u
  step-more v u v_there u_there s = record {
    cell = s.cell;
    place = s.place;
    left = subst (λ x. IsBehind x (left_of gs u) u.cell) (sym (left-more v v_there)) (subst (λ y. IsBehind (left_of fs v) y u.cell) (sym (left-more u u_there)) s.left);
    right = subst (λ x. IsBehind x (right_of gs u) u.cell) (sym (right-more v v_there)) (subst (λ y. IsBehind (right_of fs v) y u.cell) (sym (right-more u u_there)) s.right);
  }

  pub visits-more : (visits : List Visit) → AreVisits fs visits → AreVisits gs visits
  visits-more visits all = record {
    there = All-weaker (IsThere fs) (IsThere gs) there-more visits all.there;
    ordered = all.ordered;
    steps = λ k d pos lt.
        let before = all.ordered k d pos lt in
        step-more (get_or visits (get_or visits k d).from d) (get_or visits k d) (All-at (IsThere fs) visits (get_or visits k d).from d all.there (omega (arith, before)))
        (All-at (IsThere fs) visits k d all.there lt) (all.steps k d pos lt);
  }

  sees-more : (visits : List Visit) (v : Visit) (c : Cell) → All (IsThere fs) visits → IsThere fs v → Sees fs visits v c → Sees gs visits v c
  sees-more visits v c all there h =
      SomeOf-both (IsThere fs) (λ u. (u.place ≡ v.place + 1) × IsBehind (left_of fs v) (left_of fs u) c × IsBehind (right_of fs v) (right_of fs u) c)
      (λ u. (u.place ≡ v.place + 1) × IsBehind (left_of gs v) (left_of gs u) c × IsBehind (right_of gs v) (right_of gs u) c)
      (λ u is p. (
        p.0,
        subst (λ x. IsBehind x (left_of gs u) c) (sym (left-more v there)) (subst (λ y. IsBehind (left_of fs v) y c) (sym (left-more u is)) p.1),
        subst (λ x. IsBehind x (right_of gs u) c) (sym (right-more v there)) (subst (λ y. IsBehind (right_of fs v) y c) (sym (right-more u is)) p.2),
      )) visits all h

  plain-more : (v : Visit) (c : Cell) → IsThere fs v → IsPlainBehind fs v c → IsPlainBehind gs v c
  plain-more v c there h w r = subst (λ x. Reads x (c ∷ w)) (sym (right-more v there)) (h w (subst (λ x. Reads x (c ∷ w)) (left-more v there) r))

  followed-more : (old new : List Visit) (v : Visit) (c : Cell) → All (IsThere fs) old → IsThere fs v → IsPrefix old new → IsFollowed fs old v c → IsFollowed gs new v c
  followed-more old new v c all there more h =
      ⊎_elim (λ p. inl (plain-more v c there p))
      (λ s.
      let P : Visit → Type 0 = λ u. (u.place ≡ v.place + 1) × IsBehind (left_of gs v) (left_of gs u) c × IsBehind (right_of gs v) (right_of gs u) c in
      inr (subst (SomeOf P) (sym more.1) (SomeOf-left P old more.0 (sees-more old v c all there s))))
      h

  done-more : (old new : List Visit) (size : ℕ) (v : Visit) → All (IsThere fs) old → IsThere fs v → IsPrefix old new → IsDone fs old size v → IsDone gs new size v
  done-more old new size v all there more done = record {
    end = λ e h. subst (λ x. Reads x []) (sym (right-more v there)) (done.end e (subst (λ x. Reads x []) (left-more v there) h));
    next = λ lt c cell. followed-more old new v c all there more (done.next lt c cell);
  }

pub get_or-prefix : (old new : List Visit) (k : ℕ) (d : Visit) → IsPrefix old new → k < length old → get_or new k d ≡ get_or old k d
get_or-prefix old new k d more lt = ap (λ vs. get_or vs k d) more.1 ∙ get_or_append_left old more.0 d k lt

IsPrefix-trans : (xs ys zs : List Visit) → IsPrefix xs ys → IsPrefix ys zs → IsPrefix xs zs
IsPrefix-trans xs ys zs h k = (h.0 ++ k.0, k.1 ∙ ap (λ vs. vs ++ k.0) h.1 ∙ append_assoc xs h.0 k.0)

IsPrefix-refl : (xs : List Visit) → IsPrefix xs xs
IsPrefix-refl xs = ([], sym (append-nil xs))

pub IsPrefix-length : (xs ys : List Visit) → IsPrefix xs ys → length xs ≤ length ys
IsPrefix-length xs ys h = omega (arith, ap length h.1, length-append xs h.0)

-- a visit behind the others
module _ (fs : List Formula) (old new : List Visit) (v : Visit) (is : new ≡ old ++ v ∷ []) (all : AreVisits fs old) (there : IsThere fs v) (from : v.from < length old)
    (step : (d : Visit) → IsStep fs (get_or old v.from d) v) where
  before : (k : ℕ) (d : Visit) → k < length old → get_or new k d ≡ get_or old k d
  before k d lt = ap (λ vs. get_or vs k d) is ∙ get_or_append_left old (v ∷ []) d k lt

  last : (k : ℕ) (d : Visit) → length old ≡ k → get_or new k d ≡ v
  last k d e = ap (λ vs. get_or vs k d) is ∙ get_or_push old v d k e

  long : length new ≡ length old + 1
  long = ap length is ∙ length-append old (v ∷ [])

  pub visits-push : AreVisits fs new
  visits-push = record {
    there = subst (All (IsThere fs)) (sym is) (All-push (IsThere fs) old v all.there there);
    ordered = λ k d pos lt.
        ⊎_elim
        (λ less. subst (λ u. u.from < k) (sym (before k d less)) (all.ordered k d pos less))
        (λ past. let at : length old ≡ k = omega (arith, long) in subst (λ u. u.from < k) (sym (last k d at)) (omega (arith, from)))
        (cases_lt k (length old));
    steps = λ k d pos lt.
        ⊎_elim
        (λ less.
        let from_less = all.ordered k d pos less in
        subst (λ u. IsStep fs (get_or new u.from d) u) (sym (before k d less))
        (subst (λ x. IsStep fs x (get_or old k d)) (sym (before (get_or old k d).from d (omega (arith, from_less)))) (all.steps k d pos less)))
        (λ past.
        let at : length old ≡ k = omega (arith, long) in
        subst (λ u. IsStep fs (get_or new u.from d) u) (sym (last k d at))
        (subst (λ x. IsStep fs x v) (sym (before v.from d from)) (step d)))
        (cases_lt k (length old));
  }

-- ---- one run of letters, and all letters

module _ (fs gs hs : List Formula) (old new : List Visit) (at letter : ℕ) (one two : Derivative) (v u : Visit) (there : at < length old) (all : AreVisits fs old) (v_is : v ≡ get_or old at v)
    (d1 : IsDerivative fs gs (left_of fs v) letter 257 one) (d2 : IsDerivative gs hs (formula_in gs v.right) letter one.end two)
    (left : u.left ≡ one.formula) (right : u.right ≡ two.formula) (place : u.place ≡ v.place + 1) (from : u.from ≡ at) (cell : IsCell u.cell) (letter_is : letter_of u.cell ≡ letter) where
  v_old : (d : Visit) → v ≡ get_or old at d
  v_old d = v_is ∙ get_or_default old at v d there

  v_there : IsThere fs v
  v_there = subst (IsThere fs) (sym v_is) (All-at (IsThere fs) old at v all.there there)

  kept : Keeps fs hs
  kept = Keeps-trans fs gs hs d1.kept d2.kept

  pub u_there : IsThere hs u
  u_there = (subst (λ i. i < length hs) (sym left) (Keeps-there gs hs d2.kept one.formula d1.there), subst (λ i. i < length hs) (sym right) d2.there)

  left_behind : (c : Cell) → letter ≤ letter_of c → letter_of c < two.end → IsBehind (left_of hs v) (left_of hs u) c
  left_behind c low high =
      subst (λ x. IsBehind x (left_of hs u) c) (sym (left-more fs hs kept v v_there))
      (subst (λ i. IsBehind (left_of fs v) (formula_in hs i) c) (sym left)
      (subst (λ y. IsBehind (left_of fs v) y c) (sym (Keeps-at gs hs d2.kept one.formula d1.there)) (d1.behind c low (omega (arith, d2.within)))))

  right_behind : (c : Cell) → letter ≤ letter_of c → letter_of c < two.end → IsBehind (right_of hs v) (right_of hs u) c
  right_behind c low high =
      subst (λ x. IsBehind x (right_of hs u) c) (sym (Keeps-at gs hs d2.kept v.right (Keeps-there fs gs d1.kept v.right v_there.1)))
      (subst (λ i. IsBehind (formula_in gs v.right) (formula_in hs i) c) (sym right) (d2.behind c low high))

  step : (d : Visit) → IsStep hs (get_or old u.from d) u
  step d =
      subst (λ k. IsStep hs (get_or old k d) u) (sym from) (subst (λ x. IsStep hs x u) (v_old d) (record {
        cell = cell;
        place = place;
        left = left_behind u.cell (omega (arith, letter_is)) (omega (arith, letter_is, d2.some));
        right = right_behind u.cell (omega (arith, letter_is)) (omega (arith, letter_is, d2.some));
      }))

  made : (new : List Visit) → IsPrefix old new → AreVisits hs new →
      ((c : Cell) → letter ≤ letter_of c → letter_of c < two.end → IsFollowed hs new v c) → FollowsRun fs hs old new at letter two.end
  made new prefix visits followed = record {
    some = d2.some;
    within = omega (arith, d1.within, d2.within);
    follows = record {
      grows = record { kept = kept; prefix = prefix; visits = visits };
      followed = λ c d on. subst (λ x. IsFollowed hs new x c) (v_old d) (followed c on.0 on.1);
    };
  }

  pub run_made : IsVisited hs old new u → FollowsRun fs hs old new at letter two.end
  run_made (inl seen) =
      subst (λ new. FollowsRun fs hs old new at letter two.end) (sym seen.0)
      (made old (IsPrefix-refl old) (visits-more fs hs kept old all) (λ c low high. ⊎_elim
      (λ plain. inl (λ w r. ((right_behind c low high) w).0 (plain w (((left_behind c low high) w).1 r))))
      (λ same. inr (SomeOf-weaker (IsAlike u) (λ x. (x.place ≡ v.place + 1) × IsBehind (left_of hs v) (left_of hs x) c × IsBehind (right_of hs v) (right_of hs x) c)
      (λ x e. (
        e.2 ∙ place,
        subst (λ i. IsBehind (left_of hs v) (formula_in hs i) c) (sym e.0) (left_behind c low high),
        subst (λ i. IsBehind (right_of hs v) (formula_in hs i) c) (sym e.1) (right_behind c low high),
      )) old same))
      seen.1))
  run_made (inr put) =
      let P : Cell → Visit → Type 0 = λ c x. (x.place ≡ v.place + 1) × IsBehind (left_of hs v) (left_of hs x) c × IsBehind (right_of hs v) (right_of hs x) c in
      made new (u ∷ [], put) (visits-push hs old new u put (visits-more fs hs kept old all) u_there (subst (λ k. k < length old) (sym from) there) step)
      (λ c low high. inr (subst (SomeOf (P c)) (sym put) (SomeOf-right (P c) old (u ∷ []) (inl (place, left_behind c low high, right_behind c low high)))))

-- letters before, and a run behind them
pub follows_more : (fs gs hs : List Formula) (old cur new : List Visit) (at first end : ℕ) → at < length old → All (IsThere gs) cur → Follows fs gs old cur at (λ l. l < first) →
    FollowsRun gs hs cur new at first end → Follows fs hs old new at (λ l. l < end)
follows_more fs gs hs old cur new at first end there all before run =
    let here = IsPrefix-length old cur before.grows.prefix in
    record {
      grows = record {
        kept = Keeps-trans fs gs hs before.grows.kept run.follows.grows.kept;
        prefix = IsPrefix-trans old cur new before.grows.prefix run.follows.grows.prefix;
        visits = run.follows.grows.visits;
      };
      followed = λ c d on.
          ⊎_elim
          (λ less.
          followed-more gs hs run.follows.grows.kept cur new (get_or old at d) c all
          (subst (IsThere gs) (get_or-prefix old cur at d before.grows.prefix there) (All-at (IsThere gs) cur at d all (omega (arith, here)))) run.follows.grows.prefix (before.followed c d less))
          (λ past. subst (λ x. IsFollowed hs new x c) (get_or-prefix old cur at d before.grows.prefix there) (run.follows.followed c d (past, on)))
          (cases_lt (letter_of c) first);
    }

pub follows_none : (fs : List Formula) (old : List Visit) (at : ℕ) → AreVisits fs old → Follows fs fs old old at (λ l. l < 0)
follows_none fs old at all = record { grows = record { kept = Keeps-refl fs; prefix = IsPrefix-refl old; visits = all }; followed = λ c d on. absurd (omega (arith, on)) }

letter_small : (c : Cell) → IsCell c → letter_of c < 257
letter_small (Some b) lt = omega arith
letter_small None lt = omega arith

-- ---- a visit that is done

pub done_more : (fs gs : List Formula) (visits new : List Visit) (i size : ℕ) (v : Visit) → i < length visits → v ≡ get_or visits i v → AreVisits fs visits → Keeps fs gs → IsPrefix visits new →
    IsDone gs new size v → ((n : ℕ) (d : Visit) → n < i → IsDone fs visits size (get_or visits n d)) → (n : ℕ) (d : Visit) → n < i + 1 → IsDone gs new size (get_or new n d)
done_more fs gs visits new i size v there is all kept prefix here done n d less =
    below_more (λ n. IsDone gs new size (get_or new n d)) i
    (λ n lt. subst (IsDone gs new size) (sym (get_or-prefix visits new n d prefix (omega arith)))
    (done-more fs gs kept visits new size (get_or visits n d) all.there (All-at (IsThere fs) visits n d all.there (omega arith)) prefix (done n d lt)))
    (subst (IsDone gs new size) (is ∙ get_or_default visits i v d there ∙ sym (get_or-prefix visits new i d prefix there)) here)
    n less

-- behind all cells
pub done_end : (fs : List Formula) (visits : List Visit) (size : ℕ) (v : Visit) → (v.place ≡ size → EndsToo fs v) → (v.place < size → ⊥) → IsDone fs visits size v
done_end fs visits size v ends past = record { end = ends; next = λ lt c cell. absurd (past lt) }

-- before that
pub done_inside : (fs gs : List Formula) (visits new : List Visit) (i size : ℕ) (v : Visit) → v ≡ get_or visits i v → v.place < size → Follows fs gs visits new i (λ l. l < 257) → IsDone gs new size v
done_inside fs gs visits new i size v is lt follows = record {
  end = λ e h. absurd (omega (arith, e, lt));
  next = λ lt c cell. subst (λ x. IsFollowed gs new x c) (sym is) (follows.followed c v (letter_small c cell));
}

-- where each visit is done, the right reads what the left reads
all_read : (fs : List Formula) (visits : List Visit) (size : ℕ) (d : Visit) → ((k : ℕ) (d : Visit) → k < length visits → IsDone fs visits size (get_or visits k d)) →
    (w : List Cell) → AreCells w → (k : ℕ) → k < length visits → (get_or visits k d).place + length w ≡ size → Reads (left_of fs (get_or visits k d)) w → Reads (right_of fs (get_or visits k d)) w
all_read fs visits size d done [] cells k lt e h = (done k d lt).end (omega (arith, e)) h
all_read fs visits size d done (c ∷ w) cells k lt e h =
    let v : Visit = get_or visits k d in
    ⊎_elim
    (λ plain. plain w h)
    (λ sees.
    let n = SomeOf-index (λ u. (u.place ≡ v.place + 1) × IsBehind (left_of fs v) (left_of fs u) c × IsBehind (right_of fs v) (right_of fs u) c) visits sees in
    let u = n.2 d in
    ((u.2) w).0 (all_read fs visits size d done w (All-tail IsCell c w cells) n.0 n.1 (omega (arith, u.0, e)) (((u.1) w).1 h)))
    ((done k d lt).next (omega (arith, e)) c (All-head IsCell c w cells))

pub included : (fs gs : List Formula) (visits : List Visit) (left right size : ℕ) (d : Visit) → Keeps fs gs → left < length fs → right < length fs → IsRoot left right visits →
    ((k : ℕ) (d : Visit) → k < length visits → IsDone gs visits size (get_or visits k d)) → Includes (formula_in fs left) (formula_in fs right) size
included fs gs visits left right size d kept l_there r_there root done w cells long h =
    subst (λ x. Reads x w) (ap (formula_in gs) (root.right d) ∙ Keeps-at fs gs kept right r_there)
    (all_read gs visits size d done w cells 0 root.some (omega (arith, root.place d, long)) (subst (λ x. Reads x w) (sym (ap (formula_in gs) (root.left d) ∙ Keeps-at fs gs kept left l_there)) h))

-- a visit behind all cells that the left reads, and the right doesn't
pub missed : (fs gs : List Formula) (visits : List Visit) (i left right size : ℕ) (w : List Cell) (v : Visit) → Keeps fs gs → left < length fs → right < length fs → Leads gs visits 0 i w →
    IsRoot left right visits → v ≡ get_or visits i v → v.place ≡ size → IsMissed gs v → IsOnlyIn (formula_in fs left) (formula_in fs right) size w
missed fs gs visits i left right size w v kept l_there r_there leads root is at miss = (
  leads.cells,
  omega (arith, leads.place v, root.place v, at, ap (λ x. x.place) is),
  subst (λ x. Reads x w) (ap (formula_in gs) (root.left v) ∙ Keeps-at fs gs kept left l_there)
      (subst (Reads (left_of gs (get_or visits 0 v))) (append-nil w) (leads.left v [] (subst (λ x. Reads (left_of gs x) []) is miss.0))),
  λ h.
      let from : Reads (right_of gs (get_or visits 0 v)) (w ++ []) =
      subst (λ x. Reads x (w ++ [])) (sym (ap (formula_in gs) (root.right v) ∙ Keeps-at fs gs kept right r_there)) (subst (Reads (formula_in fs right)) (sym (append-nil w)) h) in
      miss.1 (subst (λ x. Reads (right_of gs x) []) (sym is) (leads.right v [] from)),
)

-- the first visit
pub root_first : (f g : ℕ) (visits : List Visit) → IsFirst f g visits → IsRoot f g visits
root_first f g visits first = subst (IsRoot f g) (sym first.1) (record { some = omega arith; left = λ d. first.2; right = λ d. first.3; place = λ d. first.4 })

pub visits_first : (fs : List Formula) (f g : ℕ) (visits : List Visit) → f < length fs → g < length fs → IsFirst f g visits → AreVisits fs visits
visits_first fs f g visits f_there g_there first = subst (AreVisits fs) (sym first.1) (record {
  there = All-cons (IsThere fs) first.0 [] (subst (λ i. i < length fs) (sym first.2) f_there, subst (λ i. i < length fs) (sym first.3) g_there) (All-nil (IsThere fs));
  ordered = λ k d pos lt. absurd (omega arith);
  steps = λ k d pos lt. absurd (omega arith);
})

pub root_more : (f g : ℕ) (old new : List Visit) → IsPrefix old new → IsRoot f g old → IsRoot f g new
root_more f g old new prefix root = record {
  some = omega (arith, root.some, IsPrefix-length old new prefix);
  left = λ d. ap (λ x. x.left) (get_or-prefix old new 0 d prefix root.some) ∙ root.left d;
  right = λ d. ap (λ x. x.right) (get_or-prefix old new 0 d prefix root.some) ∙ root.right d;
  place = λ d. ap (λ x. x.place) (get_or-prefix old new 0 d prefix root.some) ∙ root.place d;
}

-- a visit that is found among these
pub seen_at : (list now : List Visit) (k : ℕ) (v u : Visit) → list ≡ now → u ≡ get_or list k u → k < length list → IsAlike v u → SomeOf (IsAlike v) now
seen_at list now k v u same is lt alike = subst (SomeOf (IsAlike v)) same (SomeOf-at (IsAlike v) list k u lt (subst (IsAlike v) is alike))

-- ---- a search, as it goes on: the first i visits are done
pub record IsSearched (fs gs : List Formula) (visits : List Visit) (f g size i : ℕ) : Type 0 where
  pub kept : Keeps fs gs
  pub visited : AreVisits gs visits
  pub root : IsRoot f g visits
  pub count : i ≤ length visits
  pub done : (k : ℕ) (d : Visit) → k < i → IsDone gs visits size (get_or visits k d)

pub searched_none : (fs : List Formula) (visits : List Visit) (f g size : ℕ) → f < length fs → g < length fs → IsFirst f g visits → IsSearched fs fs visits f g size 0
searched_none fs visits f g size f_there g_there first = record {
  kept = Keeps-refl fs;
  visited = visits_first fs f g visits f_there g_there first;
  root = root_first f g visits first;
  count = omega arith;
  done = λ k d lt. absurd (omega arith);
}

module _ (fs gs : List Formula) (visits : List Visit) (f g size i : ℕ) (v : Visit) (so_far : IsSearched fs gs visits f g size i) (there : i < length visits) (is : v ≡ get_or visits i v) where
  pub searched_inside : (hs : List Formula) (new : List Visit) → v.place < size → Follows gs hs visits new i (λ l. l < 257) → IsSearched fs hs new f g size (i + 1)
  searched_inside hs new lt follows = record {
    kept = Keeps-trans fs gs hs so_far.kept follows.grows.kept;
    visited = follows.grows.visits;
    root = root_more f g visits new follows.grows.prefix so_far.root;
    count = omega (arith, there, IsPrefix-length visits new follows.grows.prefix);
    done = done_more gs hs visits new i size v there is so_far.visited follows.grows.kept follows.grows.prefix (done_inside gs hs visits new i size v is lt follows) so_far.done;
  }

  pub searched_end : (v.place ≡ size → EndsToo gs v) → (v.place < size → ⊥) → IsSearched fs gs visits f g size (i + 1)
  searched_end ends past = record {
    kept = so_far.kept;
    visited = so_far.visited;
    root = so_far.root;
    count = omega (arith, there);
    done = done_more gs gs visits visits i size v there is so_far.visited (Keeps-refl gs) (IsPrefix-refl visits) (done_end gs visits size v ends past) so_far.done;
  }
