-- Formulas as nodes, each of which names only earlier ones.
use Rattle.std.specs.Prelude.{ℕ, ◌<◌, List, [], ◌∷◌, ◌++◌, get_or, length, ⊤}
use Rattle.automata.specs.Formula.{Formula, any, never, run, both, either, gap, each}
use Rattle.automata.specs.declared.node.FormulaNode.{FormulaNode}
use Rattle.automata.specs.declared.node.FormulaNode.TheVariants.{Any, Never, Run, Both, Either, Gap, Each}

-- the formula at this place
abbrev pub formula_in : List Formula → ℕ → Formula
formula_in done i = get_or done i never

-- what a node means, after those before it
abbrev pub meaning : List Formula → FormulaNode → Formula
meaning done Any = any
meaning done Never = never
meaning done (Run start end next) = run start end (formula_in done next)
meaning done (Both f g) = both (formula_in done f) (formula_in done g)
meaning done (Either f g) = either (formula_in done f) (formula_in done g)
meaning done (Gap count f) = gap count (formula_in done f)
meaning done (Each count size f) = each count size (formula_in done f)

-- the meanings of all nodes, after those that are done
abbrev pub meanings : List Formula → List FormulaNode → List Formula
meanings done [] = done
meanings done (n ∷ ns) = meanings (done ++ meaning done n ∷ []) ns

abbrev pub formulas_in : List FormulaNode → List Formula
formulas_in ns = meanings [] ns

-- a node at this place: it names only earlier ones, and repeats something that has cells
abbrev pub IsNode : ℕ → FormulaNode → Type 0
IsNode i Any = ⊤
IsNode i Never = ⊤
IsNode i (Run start end next) = next < i
IsNode i (Both f g) = (f < i) × (g < i)
IsNode i (Either f g) = (f < i) × (g < i)
IsNode i (Gap count f) = f < i
IsNode i (Each count size f) = (f < i) × (0 < count) × (0 < size)

-- each node is one at its place
abbrev pub AreNodes : List FormulaNode → Type 0
AreNodes ns = (i : ℕ) (d : FormulaNode) → i < length ns → IsNode i (get_or ns i d)
