-- The first letters of what formulas read.
use Rattle.std.proofs.Common.{◌≡◌, Option, Some, None, ℕ, suc, ◌<◌, ◌≤◌, List, [], ◌∷◌, ◌++◌, take, length, get_or, arith, refl, sym, ap, ◌∙◌, subst, ⊎_elim, length-append, length-take, min, max}
use Rattle.std.proofs.lemmas.Bool.{cases_lt}
use Rattle.std.proofs.lemmas.List.{get_or_append_left, get_or_push, get_or_past, get_or-take}
use Rattle.automata.specs.Cell.{letter_of}
use Rattle.automata.specs.First.{BeginsOn, BeginsBeside, HasFirst, HaveFirsts}
use Rattle.automata.specs.Formula.{Formula, never, run, both, either, each, IsOn, Reads}
use Rattle.automata.specs.Formulas.{IsMade}
use Rattle.automata.specs.Nodes.{IsNode, formula_in, formulas_in, meaning}
use Rattle.automata.specs.Derivative.{IsDerivative}
use Rattle.automata.specs.declared.first.Letters.{Letters}
use Rattle.automata.specs.declared.node.FormulaNode.{FormulaNode}
use Rattle.automata.proofs.NodesLemmas.{formulas_in-push, formulas_length, node_there}
use Rattle.automata.proofs.ReadsLemmas.{each_first}

pub begins_run : (start end : ℕ) (f : Formula) → BeginsOn start end (run start end f)
begins_run start end f [] h = h
begins_run start end f (c ∷ w) h = (h.0, tt)

pub begins_both : (a b c d : ℕ) (f g : Formula) → BeginsOn a b f → BeginsOn c d g → BeginsOn (max a c) (min b d) (both f g)
begins_both a b c d f g one other [] h = absurd (one [] h.0)
begins_both a b c d f g one other (x ∷ w) h =
    let l = one (x ∷ w) h.0 in
    let r = other (x ∷ w) h.1 in
    ((omega (arith, l.0.0, r.0.0), omega (arith, l.0.1, r.0.1)), tt)

pub begins_either : (a b c d : ℕ) (f g : Formula) → BeginsOn a b f → BeginsOn c d g → BeginsOn (min a c) (max b d) (either f g)
begins_either a b c d f g one other [] h = absurd (⊎_elim (λ x. one [] x) (λ x. other [] x) h)
begins_either a b c d f g one other (x ∷ w) h =
    ⊎_elim
    (λ y. let l = one (x ∷ w) y in ((omega (arith, l.0.0), omega (arith, l.0.1)), tt))
    (λ y. let r = other (x ∷ w) y in ((omega (arith, r.0.0), omega (arith, r.0.1)), tt))
    h

pub begins_each : (a b n size : ℕ) (f : Formula) → 0 < n → BeginsOn a b f → BeginsOn a b (each n size f)
begins_each a b n size f some one w h = one w (each_first (Reads f) n size w some h)

pub first_each : (n size : ℕ) (f : Formula) (o : Option Letters) → 0 < n → HasFirst f o → HasFirst (each n size f) o
first_each n size f None some h = tt
first_each n size f (Some on) some h = begins_each on.start on.end n size f some h

-- letters beside those that the first cells have
pub beside_letters : (a b first past : ℕ) (f : Formula) → BeginsOn a b f → ((l : ℕ) → first ≤ l → l < past → IsOn a b l → ⊥) → BeginsBeside first past f
beside_letters a b first past f on off [] h k = k
beside_letters a b first past f on off (c ∷ w) h k = off (letter_of c) k.0.0 k.0.1 (on (c ∷ w) h).0

-- behind such letters no cells are left
pub derivative_beside : (old new : List Formula) (f i first past end : ℕ) → BeginsBeside first past (formula_in old f) → IsMade old new never i → first < past → past ≤ end →
    IsDerivative old new (formula_in old f) first end (record { formula = i; end = past })
derivative_beside old new f i first past end off made lt le = record {
  kept = made.kept;
  there = made.there;
  some = lt;
  within = le;
  behind = λ c from to w. (λ h. absurd ((made.same w).0 h), λ h. absurd (off (c ∷ w) h ((from, to), tt)));
}

-- ---- what is kept of all formulas

pub firsts_take : (fs : List Formula) (firsts : List (Option Letters)) (n : ℕ) → HaveFirsts fs firsts → HaveFirsts fs (take n firsts)
firsts_take fs firsts n have i d lt =
    let long = length-take n firsts in
    subst (HasFirst (formula_in fs i)) (sym (get_or-take n firsts i d (omega (arith, lt, long)))) (have i d (omega (arith, lt, long)))

-- what is known of a formula that isn't there yet
pub firsts_push : (fs : List Formula) (firsts : List (Option Letters)) (first : Option Letters) → HaveFirsts fs firsts → HasFirst (formula_in fs (length firsts)) first → HaveFirsts fs (firsts ++ first ∷ [])
firsts_push fs firsts first have new i d lt =
    let long = length-append firsts (first ∷ []) in
    ⊎_elim
    (λ old. subst (HasFirst (formula_in fs i)) (sym (get_or_append_left firsts (first ∷ []) d i old)) (have i d old))
    (λ le.
    let e : i ≡ length firsts = omega (arith, le, lt, long) in
    subst (λ k. HasFirst (formula_in fs k) (get_or (firsts ++ first ∷ []) k d)) (sym e)
    (subst (HasFirst (formula_in fs (length firsts))) (sym (get_or_push firsts first d (length firsts) refl)) new))
    (cases_lt i (length firsts))

first_never : (first : Option Letters) → HasFirst never first
first_never None = tt
first_never (Some on) = λ w h. absurd h

pub firsts_ahead : (fs : List Formula) (firsts : List (Option Letters)) (first : Option Letters) → length fs ≤ length firsts → HaveFirsts fs firsts → HaveFirsts fs (firsts ++ first ∷ [])
firsts_ahead fs firsts first le have = firsts_push fs firsts first have (subst (λ f. HasFirst f first) (sym (get_or_past fs (length firsts) never le)) (first_never first))

-- and of one that is put behind the others
pub firsts_put : (fs : List Formula) (firsts : List (Option Letters)) (f : Formula) (first : Option Letters) → length fs ≡ length firsts → HaveFirsts fs firsts → HasFirst f first →
    HaveFirsts (fs ++ f ∷ []) (firsts ++ first ∷ [])
firsts_put fs firsts f first e have new =
    firsts_push (fs ++ f ∷ []) firsts first
    (λ i d lt. subst (λ g. HasFirst g (get_or firsts i d)) (sym (get_or_append_left fs (f ∷ []) never i (omega (arith, lt, e)))) (have i d lt))
    (subst (λ g. HasFirst g first) (sym (get_or_push fs f never (length firsts) e)) new)

-- what is kept of the formula at a place
pub first_kept : (inside now : List FormulaNode) (firsts : List (Option Letters)) (i : ℕ) (first : Option Letters) → inside ≡ now → i < length (formulas_in now) → length inside ≤ length firsts →
    HaveFirsts (formulas_in inside) firsts → first ≡ get_or firsts i first → HasFirst (formula_in (formulas_in now) i) first
first_kept inside now firsts i first same there long have is =
    subst (λ xs. HasFirst (formula_in (formulas_in xs) i) first) same
    (subst (HasFirst (formula_in (formulas_in inside) i)) (sym is) (have i first (omega (arith, node_there inside now i same there, long))))

-- behind the formulas that there are, what was known of others is dropped, and the first letters of a next one are put there
module _ (ns now : List FormulaNode) (firsts cut pushed : List (Option Letters)) (n : FormulaNode) (first : Option Letters) (place : ℕ) (same : ns ≡ now) (place_is : place ≡ length ns)
    (long : length ns ≤ length firsts) (have : HaveFirsts (formulas_in ns) firsts) (cut_is : cut ≡ take place firsts) where
  cut_length : length cut ≡ length ns
  cut_length = omega (arith, ap length cut_is, length-take place firsts, place_is, long)

  cut_have : HaveFirsts (formulas_in ns) cut
  cut_have = subst (HaveFirsts (formulas_in ns)) (sym cut_is) (firsts_take (formulas_in ns) firsts place have)

  pub cut_node : IsNode (length (formulas_in now)) n → IsNode (length cut) n
  cut_node is = subst (λ k. IsNode k n) (formulas_length now ∙ ap length (sym same) ∙ sym cut_length) is

  module _ (pushed_is : pushed ≡ cut ++ first ∷ []) where
    pub pushed_length : length pushed ≡ suc (length ns)
    pushed_length = omega (arith, ap length pushed_is, length-append cut (first ∷ []), cut_length)

    pub pushed_ahead : HaveFirsts (formulas_in ns) pushed
    pushed_ahead =
        subst (HaveFirsts (formulas_in ns)) (sym pushed_is)
        (firsts_ahead (formulas_in ns) cut first (omega (arith, formulas_length ns, cut_length)) cut_have)

    pub pushed_put : (new : List FormulaNode) → new ≡ ns ++ n ∷ [] → ((fs : List Formula) → HaveFirsts fs cut → HasFirst (meaning fs n) first) → HaveFirsts (formulas_in new) pushed
    pushed_put new is gives =
        subst (λ fs. HaveFirsts fs pushed) (sym (ap formulas_in is ∙ formulas_in-push ns n))
        (subst (HaveFirsts (formulas_in ns ++ meaning (formulas_in ns) n ∷ [])) (sym pushed_is)
        (firsts_put (formulas_in ns) cut (meaning (formulas_in ns) n) first (omega (arith, formulas_length ns, cut_length)) cut_have (gives (formulas_in ns) cut_have)))
