use Rattle.std.proofs.Common.{List, ℕ, ap, subst, sym, ◌∙◌}
use Rattle.automata.specs.Cell.{Cell}
use Rattle.automata.specs.Nodes.{formula_in, formulas_in}
use Rattle.abi_scalar.specs.Layout.{Layout}
use Rattle.abi_tree.specs.Nodes.{placed_at}
use Rattle.abi_tree.specs.Placed.{size_of}
use Rattle.abi_bytes.specs.Formulas.{ReadsFirst}
use Rattle.abi_bytes.specs.Holding.{HoldCells}
use Rattle.abi_bytes.proofs.PartLemmas.{part_made}
use Rattle.abi_bytes.proofs.parts.part_formula.Goals as goal

pub returns : goal.returns
returns c =
    let ns = c.args.walk.nodes.now in
    let made : List ℕ = c.args.walk.made.now.items in
    let Q : List Cell → Type 0 = HoldCells c.args.walk.order (placed_at ns c.args.node) in
    let size : ℕ = size_of (placed_at ns c.args.node) in
    let fs = formulas_in c.args.formulas.now in
    part_made fs (formulas_in c.piece_formula.new.formulas) c.index.result.now size _ c.in_ok-place.place c.args.whole c.args.offset
    Q (c.bytes.ensures ∙ ap (λ (l : Layout). l.size) c.layout.ensures)
    (subst (λ f. ReadsFirst (formula_in fs f) size Q) (sym c.index.ensures) (c.requires.made c.args.node c.index.result.now c.requires.done).reads)
    c.in_ok-place.ensures.inside c.in_ok-place.ensures.outside
