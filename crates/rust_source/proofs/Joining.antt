-- The law of operators: what waits while an expression is read are joinings, of which each operator binds tighter than the one before.
use Rattle.std.proofs.Common.{◌≡◌, ℕ, zero, suc, ◌+◌, ◌≤◌, Bool, true, false, List, [], ◌∷◌, ◌++◌, Option, None, Some, Result, Ok, Err, refl, sym, ap, ap₂, subst, ◌∙◌, map, arith}
use Rattle.std.specs.Prelude.{◌==◌, ◌&&◌, ⊤, nat_le, if◌then◌else◌}
use Rattle.std.proofs.lemmas.Bool.Decides.{nat_tests}
use Rattle.std.proofs.lemmas.List.{append_assoc, append-nil}
use Rattle.rust_source.specs.declared.fault.SourceFault.{SourceFault}
use Rattle.rust_source.specs.declared.fault.SourceFaultKind.TheVariants.{ExpectedExpression, TooDeep}
use Rattle.rust_source.specs.declared.reader.cursor.Cursor.{Cursor}
use Rattle.rust_source.specs.declared.reader.operators.Waiting.{Waiting}
use Rattle.rust_source.specs.declared.syntax.Binary.{Binary}
use Rattle.rust_source.specs.Cursor.{fault, passed, place}
use Rattle.rust_source.specs.Joining.{AreRead, BindsFrom, IsJoinedByStrength, Joining, OperatorsBindByStrength, expression_of, least_before, linked, lone, operands_in, operators_in}
use Rattle.rust_source.specs.Operators.{all_joined, joined_tighter, last_binds, last_compares, last_operand, next_operator, operator_put, tightness}
use Rattle.rust_source.specs.Reading.{Reading, after_by, read_as}
use Rattle.rust_source.specs.Syntax.{ExprRead}
use Rattle.rust_source.specs.Simple.{most_nested}
use Rattle.rust_source.specs.Terms.{Known, Readers, expr_from, expr_on, expr_with, operand}
use Rattle.rust_source.proofs.Operators.{none_tighter, tighter_twice}

-- the last of the operators that wait binds less than this
abbrev Below : ℕ → List Waiting → Type 0
Below least [] = ⊤
Below least (w ∷ ws) = tightness w.operator + 1 ≤ least

-- the last of the joinings binds so tight
abbrev TopBinds : ℕ → List Joining → Type 0
TopBinds least [] = ⊤
TopBinds least (j ∷ js) = BindsFrom least j

-- joinings and the operators that wait between them, both the last first
abbrev Stands : List Waiting → List Joining → Type 0
Stands [] (j ∷ []) = IsJoinedByStrength j
Stands (w ∷ ws) (j ∷ k ∷ js) =
    (IsJoinedByStrength j × BindsFrom (tightness w.operator + 1) j × BindsFrom (least_before w.operator) k × Below (tightness w.operator) ws) × Stands ws (k ∷ js)
Stands _ _ = ⊥

-- the operands of all joinings, from left to right
abbrev operands_all : List Joining → List ExprRead
operands_all [] = []
operands_all (j ∷ js) = operands_all js ++ operands_in j

-- and the operators within them and between
abbrev operators_all : List Waiting → List Joining → List Waiting
operators_all ws [] = ws
operators_all [] (j ∷ js) = operators_in j
operators_all (w ∷ ws) (j ∷ js) = operators_all ws js ++ (w ∷ operators_in j)

-- two joinings are joined by the operator between them
stands_joined : (w : Waiting) (ws : List Waiting) (j k : Joining) (js : List Joining) → Stands (w ∷ ws) (j ∷ k ∷ js) → Stands ws (linked k w j ∷ js)
stands_joined w [] j k [] h = (h.0.2, h.0.1, h.1, h.0.0)
stands_joined w [] j k (l ∷ js) h = absurd h.1
stands_joined w (v ∷ ws) j k [] h = absurd h.1
stands_joined w (v ∷ ws) j k (l ∷ js) h =
    (((h.0.2, h.0.1, h.1.0.0, h.0.0), h.0.3, h.1.0.2, h.1.0.3), h.1.1)

same_operators : (w : Waiting) (ws : List Waiting) (j k : Joining) (js : List Joining) → Stands (w ∷ ws) (j ∷ k ∷ js) → operators_all ws (linked k w j ∷ js) ≡ operators_all (w ∷ ws) (j ∷ k ∷ js)
same_operators w [] j k js h = refl
same_operators w (v ∷ ws) j k js h = sym (append_assoc (operators_all ws js) (v ∷ operators_in k) (w ∷ operators_in j))

-- what stands once all is joined that binds so tight
record Joins (least : ℕ) (js : List Joining) (ws : List Waiting) : Type 0 where
  made : List Joining
  left : List Waiting
  is : (map expression_of made, left) ≡ joined_tighter least (map expression_of js) ws
  stands : Stands left made
  top : TopBinds least made
  below : Below least left
  operands : operands_all made ≡ operands_all js
  operators : operators_all left made ≡ operators_all ws js

joins : (least : ℕ) (ws : List Waiting) (js : List Joining) → Stands ws js → TopBinds least js → Joins least js ws
joins least [] js h t = record { made = js; left = []; is = refl; stands = h; top = t; below = tt; operands = refl; operators = refl }
joins least (w ∷ ws) [] h t = absurd h
joins least (w ∷ ws) (j ∷ []) h t = absurd h
joins least (w ∷ ws) (j ∷ k ∷ js) h t =
    let P : Bool → Type 0 = λ v. nat_le least (tightness w.operator) ≡ v → Joins least (j ∷ k ∷ js) (w ∷ ws) in
    (elim (nat_le least (tightness w.operator)) as P [
      | true ↦ λ e.
          let tight : least ≤ tightness w.operator = grind (arith, nat_tests) in
          let more : Joins least (linked k w j ∷ js) ws = joins least ws (linked k w j ∷ js) (stands_joined w ws j k js h) tight in
          record {
            made = more.made;
            left = more.left;
            is = more.is ∙ rw e refl;
            stands = more.stands;
            top = more.top;
            below = more.below;
            operands = more.operands ∙ sym (append_assoc (operands_all js) (operands_in k) (operands_in j));
            operators = more.operators ∙ same_operators w ws j k js h;
          }
      | false ↦ λ e. record {
        made = j ∷ k ∷ js;
        left = w ∷ ws;
        is = rw e refl;
        stands = h;
        top = t;
        below = grind (arith, nat_tests);
        operands = refl;
        operators = refl;
      }
    ]) refl

-- ---- an operator more

below_less : (n : ℕ) (ws : List Waiting) → (n == 2) ≡ true → Below (n + 1) ws → last_compares ws ≡ false → Below n ws
below_less n [] two b e = tt
below_less n (w ∷ ws) two b e = grind (arith, nat_tests)

none_binds : (n : ℕ) (ws : List Waiting) → Below n ws → last_binds n ws ≡ false
none_binds n [] b = refl
none_binds n (w ∷ ws) b = grind (arith, nat_tests)

ok_of : {A E : Type 0} (a b : A) → ◌≡◌ {A = Result A E} (Ok a) (Ok b) → a ≡ b
ok_of a b e = cc

abbrev IsOkAt : {A E : Type 0} → Result A E → Type 0
IsOkAt (Ok a) = ⊤
IsOkAt (Err e) = ⊥

no_ok : {A E : Type 0} (x : E) (b : A) → Err x ≡ Ok b → ⊥
no_ok x b e = subst IsOkAt (sym e) tt

-- what stands once an operator is put behind
record Puts (by : Waiting) (js : List Joining) (ws : List Waiting) (s : List ExprRead × List Waiting) : Type 0 where
  made : List Joining
  left : List Waiting
  is : (map expression_of made, by ∷ left) ≡ s
  stands : Stands left made
  top : TopBinds (least_before by.operator) made
  below : Below (tightness by.operator) left
  operands : operands_all made ≡ operands_all js
  operators : operators_all left made ≡ operators_all ws js

module _ (c : Cursor) (by : Waiting) (ws : List Waiting) (js : List Joining) (s : List ExprRead × List Waiting) (h : Stands ws js) (t : (n : ℕ) → TopBinds n js) where
  -- those that bind as tight are joined
  puts_joined : (least_before by.operator ≡ tightness by.operator) → (let all = joined_tighter (tightness by.operator) (map expression_of js) ws in (all.0, by ∷ all.1)) ≡ s → Puts by js ws s
  puts_joined least is =
      let m : Joins (tightness by.operator) js ws = joins (tightness by.operator) ws js h (t (tightness by.operator)) in
      record {
        made = m.made;
        left = m.left;
        is = ap (λ p. (p.0, by ∷ p.1)) m.is ∙ is;
        stands = m.stands;
        top = subst (λ n. TopBinds n m.made) (sym least) m.top;
        below = m.below;
        operands = m.operands;
        operators = m.operators;
      }

  -- beside a comparison nothing is left that binds alike
  puts_comparison : (tightness by.operator == 2) ≡ true → (least_before by.operator ≡ tightness by.operator + 1)
      → last_compares (joined_tighter (tightness by.operator + 1) (map expression_of js) ws).1 ≡ false
      → (let all = joined_tighter (tightness by.operator) (map expression_of js) ws in (all.0, by ∷ all.1)) ≡ s → Puts by js ws s
  puts_comparison two least alone is =
      let m : Joins (tightness by.operator + 1) js ws = joins (tightness by.operator + 1) ws js h (t (tightness by.operator + 1)) in
      let below : Below (tightness by.operator) m.left = below_less (tightness by.operator) m.left two m.below (ap (λ p. last_compares p.1) m.is ∙ alone) in
      let same : (map expression_of m.made, m.left) ≡ joined_tighter (tightness by.operator) (map expression_of js) ws =
      sym (none_tighter (tightness by.operator) (map expression_of m.made) m.left (none_binds (tightness by.operator) m.left below))
      ∙ ap (λ p. joined_tighter (tightness by.operator) p.0 p.1) m.is
      ∙ tighter_twice (tightness by.operator) (map expression_of js) ws in
      record {
        made = m.made;
        left = m.left;
        is = ap (λ p. (p.0, by ∷ p.1)) same ∙ is;
        stands = m.stands;
        top = subst (λ n. TopBinds n m.made) (sym least) m.top;
        below = below;
        operands = m.operands;
        operators = m.operators;
      }

  puts : operator_put c (map expression_of js) ws by ≡ Ok s → Puts by js ws s
  unfolding operator_put
  puts is =
      let all : List ExprRead × List Waiting = joined_tighter (tightness by.operator) (map expression_of js) ws in
      let beside : Bool = last_compares (joined_tighter (tightness by.operator + 1) (map expression_of js) ws).1 in
      let P : Bool → Type 0 = λ v. (tightness by.operator == 2) ≡ v → (if v && beside then Err (fault c ExpectedExpression) else Ok (all.0, by ∷ all.1)) ≡ Ok s → Puts by js ws s in
      let Q : Bool → Type 0 = λ v. beside ≡ v → (tightness by.operator == 2) ≡ true → (if v then Err (fault c ExpectedExpression) else Ok (all.0, by ∷ all.1)) ≡ Ok s → Puts by js ws s in
      (elim (tightness by.operator == 2) as P [
        | true ↦ λ two all_is. (elim beside as Q [
          | true ↦ λ _ _ wrong. absurd (no_ok (fault c ExpectedExpression) s wrong)
          | false ↦ λ alone is_two right. puts_comparison is_two (rw is_two refl) alone (ok_of (all.0, by ∷ all.1) s right)
        ]) refl two all_is
        | false ↦ λ other right. puts_joined (rw other refl) (ok_of (all.0, by ∷ all.1) s right)
      ]) refl is

-- ---- the reading of an expression

-- joinings and operators once an operator is put, which waits for its operand
abbrev Pending : List Waiting → List Joining → Type 0
Pending [] [] = ⊤
Pending (w ∷ ws) (k ∷ js) = BindsFrom (least_before w.operator) k × Below (tightness w.operator) ws × Stands ws (k ∷ js)
Pending _ _ = ⊥

abbrev operators_pending : List Waiting → List Joining → List Waiting
operators_pending [] js = []
operators_pending (w ∷ ws) js = operators_all ws js ++ w ∷ []

stands_operand : (ws : List Waiting) (js : List Joining) (e : ExprRead) → Pending ws js → Stands ws (lone e ∷ js)
stands_operand [] [] e h = tt
stands_operand [] (j ∷ js) e h = absurd h
stands_operand (w ∷ ws) [] e h = absurd h
stands_operand (w ∷ ws) (k ∷ js) e h = ((tt, tt, h.0, h.1), h.2)

operators_operand : (ws : List Waiting) (js : List Joining) (e : ExprRead) → operators_all ws (lone e ∷ js) ≡ operators_pending ws js
operators_operand [] js e = refl
operators_operand (w ∷ ws) js e = refl

pending : (w : Waiting) (ws : List Waiting) (js : List Joining) → TopBinds (least_before w.operator) js → Below (tightness w.operator) ws → Stands ws js → Pending (w ∷ ws) js
pending w [] [] top below h = absurd h
pending w (v ∷ ws) [] top below h = absurd h
pending w ws (k ∷ js) top below h = (top, below, h)

last_one : (ws : List Waiting) (js : List Joining) → Below 0 ws → Stands ws js → (j : Joining) × (js ≡ j ∷ []) × (ws ≡ []) × IsJoinedByStrength j
last_one [] [] b h = absurd h
last_one [] (j ∷ []) b h = (j, refl, refl, h)
last_one [] (j ∷ k ∷ js) b h = absurd h
last_one (w ∷ ws) js b h = absurd (omega arith)

-- what is read from here on, behind joinings and operators, is joined with them by strength
record Law (R : Readers) (ws : List Waiting) (js : List Joining) (c d : Cursor) (names known : Known) (e : ExprRead) : Type 0 where
  operators : List Waiting
  operands : List ExprRead
  joining : Joining
  is : expression_of joining ≡ e
  read : AreRead R operators operands c names d known
  strong : IsJoinedByStrength joining
  all_operands : operands_in joining ≡ operands_all js ++ operands
  all_operators : operators_in joining ≡ operators_pending ws js ++ operators

module _ (R : Readers) (d : Cursor) (known : Known) (e : ExprRead) where
  abbrev Goes : (limit : ℕ) → Type 0
  Goes limit = (ws : List Waiting) (js : List Joining) (c : Cursor) (names : Known) → Pending ws js
      → expr_from R limit (map expression_of js) ws c names ≡ (Ok (e, d), known) → Law R ws js c d names known e

  module _ (ws : List Waiting) (js : List Joining) (c : Cursor) (names : Known) (h : Pending ws js) (e0 : ExprRead) (d0 : Cursor) (ns : Known) (at : operand R c names ≡ (Ok (e0, d0), ns)) where
    -- no operator stands behind the operand
    law_end : next_operator d0 ≡ None → ◌≡◌ {A = Reading (ExprRead × Cursor)} (read_as (λ x. (x, d0)) (all_joined d0 (e0 ∷ map expression_of js) ws), ns) (Ok (e, d), known) → Law R ws js c d names known e
    unfolding all_joined
    law_end none is =
        let m : Joins 0 (lone e0 ∷ js) ws = joins 0 ws (lone e0 ∷ js) (stands_operand ws js e0 h) tt in
        let one : (j : Joining) × (m.made ≡ j ∷ []) × (m.left ≡ []) × IsJoinedByStrength j = last_one m.left m.made m.below m.stands in
        let joined : all_joined d0 (e0 ∷ map expression_of js) ws ≡ Ok (expression_of one.0) =
        ap (λ p. last_operand d0 p.0) (sym m.is) ∙ ap (λ xs. last_operand d0 (map expression_of xs)) one.1 in
        let all : ◌≡◌ {A = Reading (ExprRead × Cursor)} (Ok (expression_of one.0, d0), ns) (Ok (e, d), known) = ap (λ r. (read_as (λ x. (x, d0)) r, ns)) (sym joined) ∙ is in
        let both : ◌≡◌ {A = ExprRead × Cursor} (expression_of one.0, d0) (e, d) = ok_of (expression_of one.0, d0) (e, d) (ap (λ p. p.0) all) in
        let end : d0 ≡ d = ap (λ p. p.1) both in
        let last : ns ≡ known = ap (λ p. p.1) all in
        record {
          operators = [];
          operands = e0 ∷ [];
          joining = one.0;
          is = ap (λ p. p.0) both;
          read = (subst (λ k. operand R c names ≡ (Ok (e0, d), k)) last (subst (λ x. operand R c names ≡ (Ok (e0, x), ns)) end at), ap next_operator (sym end) ∙ none);
          strong = one.3;
          all_operands = ap operands_all (sym one.1) ∙ m.operands;
          all_operators = ap₂ operators_all (sym one.2) (sym one.1) ∙ m.operators ∙ operators_operand ws js e0 ∙ sym (append-nil (operators_pending ws js));
        }

    -- an operator stands behind it, and is put
    law_put : (limit : ℕ) → Goes limit → (o : Binary × ℕ) → next_operator d0 ≡ Some o
        → (r : Result (List ExprRead × List Waiting) SourceFault) → operator_put d0 (e0 ∷ map expression_of js) ws (record { operator = o.0; at = place d0 }) ≡ r
        → after_by (λ s ms. expr_from R limit s.0 s.1 (passed d0 o.1) ms) r ns ≡ (Ok (e, d), known) → Law R ws js c d names known e
    law_put limit go o next (Err f) put is = absurd (no_ok f (e, d) (ap (λ p. p.0) is))
    law_put limit go o next (Ok s) put is =
        let by : Waiting = record { operator = o.0; at = place d0 } in
        let p : Puts by (lone e0 ∷ js) ws s = puts d0 by ws (lone e0 ∷ js) s (stands_operand ws js e0 h) (λ n. tt) put in
        let l : Law R (by ∷ p.left) p.made (passed d0 o.1) d ns known e =
        go (by ∷ p.left) p.made (passed d0 o.1) ns (pending by p.left p.made p.top p.below p.stands)
        (ap (λ s. expr_from R limit s.0 s.1 (passed d0 o.1) ns) p.is ∙ is) in
        record {
          operators = by ∷ l.operators;
          operands = e0 ∷ l.operands;
          joining = l.joining;
          is = l.is;
          read = (d0, ns, o.1, at, next, refl, l.read);
          strong = l.strong;
          all_operands = l.all_operands ∙ ap (λ xs. xs ++ l.operands) p.operands ∙ append_assoc (operands_all js) (e0 ∷ []) l.operands;
          all_operators = l.all_operators ∙ ap (λ xs. (xs ++ by ∷ []) ++ l.operators) (p.operators ∙ operators_operand ws js e0)
              ∙ append_assoc (operators_pending ws js) (by ∷ []) l.operators;
        }

    law_on : (limit : ℕ) → Goes limit → (o : Option (Binary × ℕ)) → next_operator d0 ≡ o
        → expr_on (expr_from R limit) (e0 ∷ map expression_of js) ws d0 o ns ≡ (Ok (e, d), known) → Law R ws js c d names known e
    law_on limit go None next is = law_end next is
    law_on limit go (Some o) next is =
        law_put limit go o next (operator_put d0 (e0 ∷ map expression_of js) ws (record { operator = o.0; at = place d0 })) refl is

  law_by : (limit : ℕ) → Goes limit → (ws : List Waiting) (js : List Joining) (c : Cursor) (names : Known) → Pending ws js
      → (r : Result (ExprRead × Cursor) SourceFault) (ns : Known) → operand R c names ≡ (r, ns)
      → after_by (λ (x : ExprRead × Cursor) ms. expr_on (expr_from R limit) (x.0 ∷ map expression_of js) ws x.1 (next_operator x.1) ms) r ns ≡ (Ok (e, d), known)
      → Law R ws js c d names known e
  law_by limit go ws js c names h (Err f) ns at is = absurd (no_ok f (e, d) (ap (λ p. p.0) is))
  law_by limit go ws js c names h (Ok x) ns at is = law_on ws js c names h x.0 x.1 ns at limit go (next_operator x.1) refl is

  law : (limit : ℕ) → Goes limit
  law zero ws js c names h is = absurd (no_ok (fault c TooDeep) (e, d) (ap (λ p. p.0) is))
  law (suc limit) ws js c names h is = law_by limit (law limit) ws js c names h (operand R c names).0 (operand R c names).1 refl is

pub bind_by_strength : OperatorsBindByStrength
unfolding expr_with
bind_by_strength R c d names known e is =
    let l : Law R [] [] c d names known e = law R d known e most_nested [] [] c names tt is in (
      l.joining,
      l.is,
      subst (λ os. AreRead R os (operands_in l.joining) c names d known) (sym l.all_operators)
          (subst (λ es. AreRead R l.operators es c names d known) (sym l.all_operands) l.read),
      l.strong,
    )
