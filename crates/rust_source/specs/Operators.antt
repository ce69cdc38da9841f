-- Operators: which is next, and the expression that they make of the operands around them.
use Rattle.std.specs.Prelude.{ℕ, ◌+◌, ◌==◌, ◌&&◌, Bool, false, List, [], ◌∷◌, map, nat_le, reverse, Option, None, Some, Result, Ok, Err, if◌then◌else◌}
use Rattle.rust_source.specs.declared.fault.SourceFault.{SourceFault}
use Rattle.rust_source.specs.declared.fault.SourceFaultKind.TheVariants.{ExpectedExpression}
use Rattle.rust_source.specs.declared.place.Place.{Place}
use Rattle.rust_source.specs.declared.reader.cursor.Cursor.{Cursor}
use Rattle.rust_source.specs.declared.reader.operators.Waiting.{Waiting}
use Rattle.rust_source.specs.declared.syntax.Binary.{Binary}
use Rattle.rust_source.specs.declared.syntax.Binary.TheVariants as operator
use Rattle.rust_source.specs.declared.syntax.Expr.{Expr}
use Rattle.rust_source.specs.declared.syntax.Unary.{Unary}
use Rattle.rust_source.specs.declared.tokens.token.TokenKind.{TokenKind}
use Rattle.rust_source.specs.declared.tokens.token.TokenKind.TheVariants as kind
use Rattle.rust_source.specs.Cursor.{fault, is_pair, next_kind}
use Rattle.rust_source.specs.Syntax.{ExprRead, binary, expr_of, unary}

-- the operators of two characters, as they are written
unfoldable pub pairs : List (ℕ × ℕ × Binary)
pairs =
    (60, 60, operator.Shl) ∷
    (62, 62, operator.Shr) ∷
    (61, 61, operator.Equal) ∷
    (33, 61, operator.NotEqual) ∷
    (60, 61, operator.LessOrEqual) ∷
    (62, 61, operator.GreaterOrEqual) ∷
    (38, 38, operator.And) ∷
    (124, 124, operator.Or) ∷
    []

-- the first of these that the next two tokens are, with nothing between
abbrev pub pair_in : List (ℕ × ℕ × Binary) → Cursor → Option Binary
pair_in [] c = None
pair_in (p ∷ ps) c = if is_pair c p.0 p.1 then Some p.2 else pair_in ps c

-- the operator of one character
abbrev pub of_one : ℕ → Option Binary
of_one b =
    if b == 43 then Some operator.Add
    else (if b == 45 then Some operator.Sub
    else (if b == 42 then Some operator.Mul
    else (if b == 47 then Some operator.Div
    else (if b == 37 then Some operator.Rem
    else (if b == 38 then Some operator.BitAnd
    else (if b == 124 then Some operator.BitOr
    else (if b == 94 then Some operator.BitXor
    else (if b == 60 then Some operator.Less
    else (if b == 62 then Some operator.Greater else None)))))))))

-- an operator of so many tokens
abbrev pub of_length : (tokens : ℕ) → Option Binary → Option (Binary × ℕ)
of_length tokens None = None
of_length tokens (Some o) = Some (o, tokens)

-- the operator that a token is by itself
abbrev pub operator_of : Option TokenKind → Option (Binary × ℕ)
operator_of (Some (kind.Punct b)) = of_length 1 (of_one b)
operator_of _ = None

-- the operator of two characters, or else the other one
abbrev pub pair_or : Option Binary → (other : Option (Binary × ℕ)) → Option (Binary × ℕ)
pair_or None other = other
pair_or (Some o) other = Some (o, 2)

-- the operator that is next, and how many tokens it has
unfoldable pub next_operator : Cursor → Option (Binary × ℕ)
next_operator c = pair_or (pair_in pairs c) (operator_of (next_kind c))

-- how tight an operator binds: the greater the tighter
abbrev pub tightness : Binary → ℕ
tightness operator.Mul = 8
tightness operator.Div = 8
tightness operator.Rem = 8
tightness operator.Add = 7
tightness operator.Sub = 7
tightness operator.Shl = 6
tightness operator.Shr = 6
tightness operator.BitAnd = 5
tightness operator.BitXor = 4
tightness operator.BitOr = 3
tightness operator.Equal = 2
tightness operator.NotEqual = 2
tightness operator.Less = 2
tightness operator.LessOrEqual = 2
tightness operator.Greater = 2
tightness operator.GreaterOrEqual = 2
tightness operator.And = 1
tightness operator.Or = 0

-- an operator compares: it stands beside no other one that does
abbrev pub is_comparison : Binary → Bool
is_comparison o = tightness o == 2

-- operands, the last first
abbrev pub operands_of : List Expr → List ExprRead
operands_of es = reverse (map expr_of es)

-- the last two operands joined by the operator between them
abbrev pub joined : List ExprRead → Waiting → List ExprRead
joined [] by = []
joined (r ∷ []) by = []
joined (r ∷ l ∷ os) by = binary by.operator l r by.at ∷ os

-- the last of the operators that wait binds at least so tight
abbrev pub last_binds : (least : ℕ) → List Waiting → Bool
last_binds least [] = false
last_binds least (w ∷ ws) = nat_le least (tightness w.operator)

-- the operands and the operators between them, both the last first, once those at the end are joined that bind so tight
abbrev pub joined_tighter : (least : ℕ) → List ExprRead → List Waiting → List ExprRead × List Waiting
joined_tighter least os [] = (os, [])
joined_tighter least os (w ∷ ws) =
    if nat_le least (tightness w.operator) then joined_tighter least (joined os w) ws else (os, w ∷ ws)

-- the last of the operators that wait compares
abbrev pub last_compares : List Waiting → Bool
last_compares [] = false
last_compares (w ∷ ws) = is_comparison w.operator

-- an operator would make two comparisons stand side by side
abbrev pub stands_beside : Binary → List ExprRead → List Waiting → Bool
stands_beside by os ws = is_comparison by && last_compares (joined_tighter (tightness by + 1) os ws).1

-- the operands and operators with an operator more, once those before it are joined that bind as tight: so operators that
-- bind alike go from left to right; the fault at the next token where two comparisons stand side by side
unfoldable pub operator_put : Cursor → List ExprRead → List Waiting → Waiting → Result (List ExprRead × List Waiting) SourceFault
operator_put c os ws by =
    if stands_beside by.operator os ws then Err (fault c ExpectedExpression)
    else (let all = joined_tighter (tightness by.operator) os ws in Ok (all.0, by ∷ all.1))

-- the last of the operands
abbrev pub last_operand : Cursor → List ExprRead → Result ExprRead SourceFault
last_operand c [] = Err (fault c ExpectedExpression)
last_operand c (o ∷ os) = Ok o

-- the expression that the operands and the operators between them make
unfoldable pub all_joined : Cursor → List ExprRead → List Waiting → Result ExprRead SourceFault
all_joined c os ws = last_operand c (joined_tighter 0 os ws).0

-- an operand with the operators before it, of which the last is the nearest
abbrev pub with_operators : ExprRead → List (Unary × Place) → ExprRead
with_operators e [] = e
with_operators e (s ∷ ss) = unary s.0 (with_operators e ss) s.1
