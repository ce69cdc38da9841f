-- Operands joined, and the operators before one.
use Rattle.std.proofs.Common.{◌≡◌, ℕ, ◌+◌, Bool, true, false, List, [], ◌∷◌, ◌++◌, refl, sym, ap, ◌∙◌, arith}
use Rattle.std.specs.Prelude.{nat_le}
use Rattle.std.proofs.lemmas.Bool.Decides.{nat_tests}
use Rattle.rust_source.specs.declared.place.Place.{Place}
use Rattle.rust_source.specs.declared.reader.operators.Waiting.{Waiting}
use Rattle.rust_source.specs.declared.syntax.Unary.{Unary}
use Rattle.rust_source.specs.Syntax.{ExprRead, unary}
use Rattle.rust_source.specs.Operators.{joined, joined_tighter, last_binds, with_operators, tightness}

-- the last of the operators before an operand is the nearest
pub signed_last : (e more : ExprRead) (all front : List (Unary × Place)) (sign : Unary) (at : Place) → more ≡ unary sign e at → all ≡ front ++ (sign, at) ∷ [] → with_operators more front ≡ with_operators e all
signed_last e more all [] sign at same is = same ∙ ap (with_operators e) (sym is)
signed_last e more all (t ∷ front) sign at same is =
    ap (λ x. unary t.0 x t.1) (signed_last e more (front ++ (sign, at) ∷ []) front sign at same refl) ∙ ap (with_operators e) (sym is)

-- nothing is joined where the last operator binds less
pub none_tighter : (least : ℕ) (os : List ExprRead) (ws : List Waiting) → last_binds least ws ≡ false → joined_tighter least os ws ≡ (os, ws)
none_tighter least os [] less = refl
none_tighter least os (w ∷ ws) less = rw less refl

-- what is joined first
pub one_tighter : (least : ℕ) (os : List ExprRead) (w : Waiting) (ws : List Waiting) → last_binds least (w ∷ ws) ≡ true → joined_tighter least (joined os w) ws ≡ joined_tighter least os (w ∷ ws)
one_tighter least os w ws binds = rw binds refl

-- what binds tighter may be joined before
pub tighter_twice : (least : ℕ) (os : List ExprRead) (ws : List Waiting) → (let some = joined_tighter (least + 1) os ws in joined_tighter least some.0 some.1) ≡ joined_tighter least os ws
tighter_twice least os [] = refl
tighter_twice least os (w ∷ ws) =
    let P : Bool → Type 0 = λ v. nat_le (least + 1) (tightness w.operator) ≡ v → (let some = joined_tighter (least + 1) os (w ∷ ws) in joined_tighter least some.0 some.1) ≡ joined_tighter least os (w ∷ ws) in
    (elim (nat_le (least + 1) (tightness w.operator)) as P [
      | true ↦ λ e.
          let t : nat_le least (tightness w.operator) ≡ true = grind (arith, nat_tests) in
          rw (e, t) (tighter_twice least (joined os w) ws)
      | false ↦ λ e. rw e refl
    ]) refl
