-- The letters that the first cells may have of what formulas read.
use Rattle.std.specs.Prelude.{ℕ, ◌<◌, List, Option, IfSome, length, get_or, ⊤}
use Rattle.automata.specs.Cell.{Cell}
use Rattle.automata.specs.Formula.{Formula, FirstIs, IsOn, Reads}
use Rattle.automata.specs.Nodes.{formula_in}
use Rattle.automata.specs.declared.first.Letters.{Letters}

-- the formula reads only cells of which the first one's letter lies from the start to below the end
abbrev pub BeginsOn : (start end : ℕ) → Formula → Type 0
BeginsOn start end f = (w : List Cell) → Reads f w → FirstIs (IsOn start end) (λ v. ⊤) w

-- it reads none of which it lies there
abbrev pub BeginsBeside : (start end : ℕ) → Formula → Type 0
BeginsBeside start end f = (w : List Cell) → Reads f w → FirstIs (IsOn start end) (λ v. ⊤) w → ⊥

-- what is known of a formula's first letters is so
abbrev pub HasFirst : Formula → Option Letters → Type 0
HasFirst f first = IfSome first (λ on. BeginsOn on.start on.end f)

-- it is so of each of the first formulas
abbrev pub HaveFirsts : List Formula → List (Option Letters) → Type 0
HaveFirsts fs firsts = (i : ℕ) (d : Option Letters) → i < length firsts → HasFirst (formula_in fs i) (get_or firsts i d)
