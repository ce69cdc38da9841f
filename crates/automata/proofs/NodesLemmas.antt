-- What nodes mean.
use Rattle.std.proofs.Common.{◌≡◌, ℕ, zero, suc, ◌+◌, ◌<◌, ◌≤◌, ◌-◌, List, [], ◌∷◌, ◌++◌, length, get_or, arith, refl, sym, ap, ◌∙◌, subst, length-append, append_assoc, ⊎_elim}
use Rattle.std.proofs.lemmas.List.{get_or_append_left, get_or_push, append-nil}
use Rattle.std.proofs.lemmas.Bool.{cases_lt}
use Rattle.automata.specs.Formula.{Formula, never, run, both, either, gap, each, Same}
use Rattle.automata.specs.Nodes.{formula_in, meaning, meanings, formulas_in, IsNode, AreNodes}
use Rattle.automata.specs.Formulas.{Keeps, IsMade}
use Rattle.automata.specs.declared.node.FormulaNode.{FormulaNode}
use Rattle.automata.specs.declared.node.FormulaNode.TheVariants.{Any, Never, Run, Both, Either, Gap, Each}

meanings-length : (done : List Formula) (ns : List FormulaNode) → length (meanings done ns) ≡ length done + length ns
meanings-length done [] = omega arith
meanings-length done (n ∷ ns) = omega (arith, meanings-length (done ++ meaning done n ∷ []) ns, length-append done (meaning done n ∷ []))

pub formulas_length : (ns : List FormulaNode) → length (formulas_in ns) ≡ length ns
formulas_length ns = omega (arith, meanings-length [] ns)

meanings-first : (done : List Formula) (ns : List FormulaNode) (i : ℕ) → i < length done → formula_in (meanings done ns) i ≡ formula_in done i
meanings-first done [] i lt = refl
meanings-first done (m ∷ ns) i lt =
    let x = meaning done m in
    meanings-first (done ++ x ∷ []) ns i (omega (arith, length-append done (x ∷ []))) ∙ get_or_append_left done (x ∷ []) never i lt

-- a node that names formulas that are there means the same after more of them
meaning-more : (old new : List Formula) (n : FormulaNode) → ((i : ℕ) → i < length old → formula_in new i ≡ formula_in old i) → IsNode (length old) n → meaning new n ≡ meaning old n
meaning-more old new Any same is = refl
meaning-more old new Never same is = refl
meaning-more old new (Run start end next) same is = ap (run start end) (same next is)
meaning-more old new (Both f g) same is = ap (λ x. both x (formula_in new g)) (same f is.0) ∙ ap (both (formula_in old f)) (same g is.1)
meaning-more old new (Either f g) same is = ap (λ x. either x (formula_in new g)) (same f is.0) ∙ ap (either (formula_in old f)) (same g is.1)
meaning-more old new (Gap count f) same is = ap (gap count) (same f is)
meaning-more old new (Each count size f) same is = ap (each count size) (same f is.0)

meanings-at : (done : List Formula) (ns : List FormulaNode) (i : ℕ) (d : FormulaNode) → ((k : ℕ) (d : FormulaNode) → k < length ns → IsNode (length done + k) (get_or ns k d)) → i < length ns →
    formula_in (meanings done ns) (length done + i) ≡ meaning (meanings done ns) (get_or ns i d)
meanings-at done [] i d well lt = absurd (omega arith)
meanings-at done (m ∷ ns) zero d well lt =
    let x = meaning done m in
    let more : List Formula = done ++ x ∷ [] in
    let here : formula_in (meanings more ns) (length done) ≡ x = meanings-first more ns (length done) (omega (arith, length-append done (x ∷ []))) ∙ get_or_push done x never (length done) refl in
    let same : (i : ℕ) → i < length done → formula_in (meanings more ns) i ≡ formula_in done i =
    λ i lt. meanings-first more ns i (omega (arith, lt, length-append done (x ∷ []))) ∙ get_or_append_left done (x ∷ []) never i lt in
    let is : IsNode (length done) m = subst (λ k. IsNode k m) (omega arith) (well 0 d (omega arith)) in
    ap (formula_in (meanings more ns)) (omega arith) ∙ here ∙ sym (meaning-more done (meanings more ns) m same is)
meanings-at done (m ∷ ns) (suc i) d well lt =
    let x = meaning done m in
    let more : List Formula = done ++ x ∷ [] in
    let long = length-append done (x ∷ []) in
    ap (formula_in (meanings more ns)) (omega (arith, long))
    ∙ meanings-at more ns i d (λ k e lt. subst (λ j. IsNode j (get_or ns k e)) (omega (arith, long)) (well (suc k) e (omega (arith, lt)))) (omega arith)

-- what the node at a place means
pub formula-at : (ns : List FormulaNode) → AreNodes ns → (i : ℕ) (d : FormulaNode) → i < length ns → formula_in (formulas_in ns) i ≡ meaning (formulas_in ns) (get_or ns i d)
formula-at ns well i d lt = ap (formula_in (formulas_in ns)) (omega arith) ∙ meanings-at [] ns i d (λ k d lt. subst (λ j. IsNode j (get_or ns k d)) (omega arith) (well k d lt)) lt

meanings-append : (done : List Formula) (ns : List FormulaNode) (n : FormulaNode) → meanings done (ns ++ n ∷ []) ≡ meanings done ns ++ meaning (meanings done ns) n ∷ []
meanings-append done [] n = refl
meanings-append done (m ∷ ns) n = meanings-append (done ++ meaning done m ∷ []) ns n

pub formulas_in-push : (ns : List FormulaNode) (n : FormulaNode) → formulas_in (ns ++ n ∷ []) ≡ formulas_in ns ++ meaning (formulas_in ns) n ∷ []
formulas_in-push ns n = meanings-append [] ns n

pub AreNodes-push : (ns new : List FormulaNode) (n : FormulaNode) → new ≡ ns ++ n ∷ [] → IsNode (length ns) n → AreNodes ns → AreNodes new
AreNodes-push ns new n is here well i d lt =
    ⊎_elim
    (λ before. subst (IsNode i) (sym (ap (λ xs. get_or xs i d) is ∙ get_or_append_left ns (n ∷ []) d i before)) (well i d before))
    (λ past.
    let at : length ns ≡ i = omega (arith, ap length is, length-append ns (n ∷ [])) in
    subst (IsNode i) (sym (ap (λ xs. get_or xs i d) is ∙ get_or_push ns n d i at)) (subst (λ k. IsNode k n) at here))
    (cases_lt i (length ns))

-- ---- formulas behind others

pub Keeps-refl : (fs : List Formula) → Keeps fs fs
Keeps-refl fs = ([], sym (append-nil fs))

pub Keeps-trans : (xs ys zs : List Formula) → Keeps xs ys → Keeps ys zs → Keeps xs zs
Keeps-trans xs ys zs h k = (h.0 ++ k.0, k.1 ∙ ap (λ vs. vs ++ k.0) h.1 ∙ append_assoc xs h.0 k.0)

pub Keeps-at : (xs ys : List Formula) → Keeps xs ys → (i : ℕ) → i < length xs → formula_in ys i ≡ formula_in xs i
Keeps-at xs ys h i lt = ap (λ vs. formula_in vs i) h.1 ∙ get_or_append_left xs h.0 never i lt

pub Keeps-there : (xs ys : List Formula) → Keeps xs ys → (i : ℕ) → i < length xs → i < length ys
Keeps-there xs ys h i lt = omega (arith, ap length h.1, length-append xs h.0)

pub IsMade-refl : (fs : List Formula) (f : Formula) (i : ℕ) → i < length fs → Same (formula_in fs i) f → IsMade fs fs f i
IsMade-refl fs f i lt same = record { kept = Keeps-refl fs; there = lt; same = same }

pub IsMade-equal : (fs : List Formula) (f : Formula) (i : ℕ) → i < length fs → formula_in fs i ≡ f → IsMade fs fs f i
IsMade-equal fs f i lt same = IsMade-refl fs f i lt (λ w. subst (λ g. Same (formula_in fs i) g) same (λ w. (λ h. h, λ h. h)) w)

pub IsMade-put : (old new : List Formula) (f : Formula) (i : ℕ) → new ≡ old ++ f ∷ [] → i ≡ length old → IsMade old new f i
IsMade-put old new f i is at = record {
  kept = (f ∷ [], is);
  there = omega (arith, at, ap length is, length-append old (f ∷ []));
  same = subst (λ g. Same g f) (sym (ap (λ fs. formula_in fs i) is ∙ get_or_push old f never i (sym at))) (λ w. (λ h. h, λ h. h));
}

pub IsMade-same : (old new : List Formula) (f g : Formula) (i : ℕ) → Same f g → IsMade old new f i → IsMade old new g i
IsMade-same old new f g i same is = record {
  kept = is.kept;
  there = is.there;
  same = λ w. (λ h. (same w).0 ((is.same w).0 h), λ h. (is.same w).1 ((same w).1 h));
}

-- ---- nodes as they are kept

module _ (inside now : List FormulaNode) (same : inside ≡ now) (well : AreNodes inside) (i : ℕ) (n : FormulaNode) (lt : i < length (formulas_in now)) (is : n ≡ get_or inside i n) where
  there : i < length inside
  there = omega (arith, lt, formulas_length now, ap length same)

  pub node_means : formula_in (formulas_in now) i ≡ meaning (formulas_in now) n
  node_means = subst (λ xs. formula_in (formulas_in xs) i ≡ meaning (formulas_in xs) n) same (formula-at inside well i n there ∙ ap (meaning (formulas_in inside)) (sym is))

  pub node_earlier : IsNode i n
  node_earlier = subst (IsNode i) (sym is) (well i n there)

pub node_there : (inside now : List FormulaNode) (i : ℕ) → inside ≡ now → i < length (formulas_in now) → i < length inside
node_there inside now i same lt = omega (arith, lt, formulas_length now, ap length same)

pub node_found : (inside now : List FormulaNode) (at k : ℕ) → inside ≡ now → 0 < at → at ≤ k → k ≡ length inside → at - 1 < length (formulas_in now)
node_found inside now at k same pos le is = omega (arith, pos, le, is, formulas_length now, ap length same)

pub node_put : (inside now new : List FormulaNode) (n : FormulaNode) (i : ℕ) → inside ≡ now → new ≡ inside ++ n ∷ [] → i ≡ length inside →
    IsMade (formulas_in now) (formulas_in new) (meaning (formulas_in now) n) i
node_put inside now new n i same is at =
    subst (λ xs. IsMade (formulas_in xs) (formulas_in new) (meaning (formulas_in xs) n) i) same
    (IsMade-put (formulas_in inside) (formulas_in new) (meaning (formulas_in inside) n) i (ap formulas_in is ∙ formulas_in-push inside n) (at ∙ sym (formulas_length inside)))

pub nodes_put : (inside now new : List FormulaNode) (n : FormulaNode) → inside ≡ now → new ≡ inside ++ n ∷ [] → IsNode (length (formulas_in now)) n → AreNodes inside → AreNodes new
nodes_put inside now new n same is here well = AreNodes-push inside new n is (subst (λ k. IsNode k n) (formulas_length now ∙ ap length (sym same)) here) well
