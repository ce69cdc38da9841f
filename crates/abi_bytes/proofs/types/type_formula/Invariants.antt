use Rattle.std.proofs.Common.{◌≡◌, length}
use Rattle.automata.specs.Formulas.{Keeps}
use Rattle.automata.specs.Nodes.{formulas_in}
use Rattle.abi_bytes.specs.Formulas.{AreMade}
use Rattle.abi_bytes.proofs.types.type_formula.Given as goal

abbrev pub invariant-loop-node : goal.invariant-loop-node
invariant-loop-node l =
    Keeps (formulas_in l.initial.formulas) (formulas_in l.formulas) × (length l.made.items ≡ l.node) × AreMade (formulas_in l.formulas) l.order l.nodes l.made.items
