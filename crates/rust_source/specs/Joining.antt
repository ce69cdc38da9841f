-- The law of operators: an expression is the operands and the operators that are read, joined so that each operator takes what binds
-- tighter, and from left to right what binds alike.
use Rattle.std.specs.Prelude.{◌≡◌, ℕ, ◌+◌, ◌≤◌, List, [], ◌∷◌, ◌++◌, None, Some, Ok, ⊤, if◌then◌else◌}
use Rattle.rust_source.specs.declared.reader.cursor.Cursor.{Cursor}
use Rattle.rust_source.specs.declared.reader.operators.Waiting.{Waiting}
use Rattle.rust_source.specs.declared.syntax.Binary.{Binary}
use Rattle.rust_source.specs.Cursor.{passed, place}
use Rattle.rust_source.specs.Operators.{is_comparison, next_operator, tightness}
use Rattle.rust_source.specs.Syntax.{ExprRead, binary}
use Rattle.rust_source.specs.Terms.{Known, Readers, expr_with, operand}

-- a way to join operands: one alone, or two joinings with an operator between them
pub data Joining : Type 0 where
  lone : ExprRead → Joining
  linked : Joining → Waiting → Joining → Joining

-- the expression that it is
abbrev pub expression_of : Joining → ExprRead
expression_of (lone e) = e
expression_of (linked l w r) = binary w.operator (expression_of l) (expression_of r) w.at

-- its operands, from left to right
abbrev pub operands_in : Joining → List ExprRead
operands_in (lone e) = e ∷ []
operands_in (linked l w r) = operands_in l ++ operands_in r

-- its operators, from left to right
abbrev pub operators_in : Joining → List Waiting
operators_in (lone e) = []
operators_in (linked l w r) = operators_in l ++ w ∷ operators_in r

-- it is an operand alone, or its operator binds at least so tight
abbrev pub BindsFrom : (least : ℕ) → Joining → Type 0
BindsFrom least (lone e) = ⊤
BindsFrom least (linked l w r) = least ≤ tightness w.operator

-- how tight what stands before an operator binds at least: as tight as it, and tighter than a comparison
abbrev pub least_before : Binary → ℕ
least_before o = if is_comparison o then tightness o + 1 else tightness o

-- before each operator stands what binds no less tight, and behind it what binds tighter; no two comparisons stand side by side
abbrev pub IsJoinedByStrength : Joining → Type 0
IsJoinedByStrength (lone e) = ⊤
IsJoinedByStrength (linked l w r) =
    BindsFrom (least_before w.operator) l × BindsFrom (tightness w.operator + 1) r × IsJoinedByStrength l × IsJoinedByStrength r

module _ (R : Readers) where
  -- these operands and the operators between them are read one behind another, and no operator stands behind the last
  abbrev pub AreRead : List Waiting → List ExprRead → Cursor → Known → (end : Cursor) → (known : Known) → Type 0
  AreRead [] (e ∷ []) c names end known = (operand R c names ≡ (Ok (e, end), known)) × (next_operator end ≡ None)
  AreRead (w ∷ ws) (e ∷ es) c names end known =
      (d : Cursor) × (ns : Known) × (tokens : ℕ) × (operand R c names ≡ (Ok (e, d), ns)) × (next_operator d ≡ Some (w.operator, tokens))
      × (w.at ≡ place d) × AreRead ws es (passed d tokens) ns end known
  AreRead _ _ c names end known = ⊥

-- each expression that is read is its operands and operators, as they are read, joined by strength
abbrev pub OperatorsBindByStrength : Type 0
OperatorsBindByStrength =
    (R : Readers) (c d : Cursor) (names known : Known) (e : ExprRead) → expr_with R c names ≡ (Ok (e, d), known)
    → (j : Joining) × (expression_of j ≡ e) × AreRead R (operators_in j) (operands_in j) c names d known × IsJoinedByStrength j

-- and there is no other way to join these operands and operators so
abbrev pub OneJoiningByStrength : Type 0
OneJoiningByStrength =
    (i j : Joining) → IsJoinedByStrength i → IsJoinedByStrength j → operators_in i ≡ operators_in j → operands_in i ≡ operands_in j → i ≡ j
