use Rattle.std.proofs.Common.{List, ℕ, ap, subst, sym, ◌∙◌, arith}
use Rattle.automata.specs.Cell.{Cell}
use Rattle.automata.specs.Nodes.{formula_in, formulas_in}
use Rattle.abi_scalar.specs.Layout.{Layout}
use Rattle.abi_tree.specs.Nodes.{placed_at}
use Rattle.abi_tree.specs.Placed.{size_of}
use Rattle.abi_bytes.specs.Formulas.{ReadsFirst}
use Rattle.abi_bytes.specs.Holding.{HoldCells}
use Rattle.abi_bytes.proofs.NodeLemmas.{elements_made, elements_none}
use Rattle.abi_bytes.proofs.nodes.elements_formula.Goals as goal

pub returns-then-count-size : goal.returns-then-count-size
returns-then-count-size c =
    let p = placed_at c.args.walk.nodes.now c.args.element in
    let Q : List Cell → Type 0 = HoldCells c.args.walk.order p in
    let size : ℕ = size_of p in
    let fs = formulas_in c.args.formulas.now in
    elements_made fs (formulas_in c.repetition.new.self) c.index.result.now size c.bytes-size.result c.in_ok-place.place c.args.whole c.args.count Q
    (c.bytes-size.ensures ∙ ap (λ (l : Layout). l.size) c.layout.ensures)
    (subst (λ f. ReadsFirst (formula_in fs f) size Q) (sym c.index.ensures) (c.requires.made c.args.element c.index.result.now c.requires.done).reads)
    c.if-count-size.true c.in_ok-place.ensures

pub returns : goal.returns
returns c =
    let p = placed_at c.args.walk.nodes.now c.args.element in
    let Q : List Cell → Type 0 = HoldCells c.args.walk.order p in
    elements_none (formulas_in c.args.formulas.now) (formulas_in c.no_cells.new.self) (size_of p) c.bytes-size.result c.in_ok-place-2.place c.args.whole c.args.count Q
    (c.bytes-size.ensures ∙ ap (λ (l : Layout). l.size) c.layout.ensures) (omega (arith, c.if-count-size.false)) c.in_ok-place-2.ensures
