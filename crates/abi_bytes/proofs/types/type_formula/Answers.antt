use Rattle.std.proofs.Common.{arith, ap, length, length-append, [], ◌∷◌, List, ℕ}
use Rattle.automata.specs.Nodes.{formulas_in}
use Rattle.automata.proofs.NodesLemmas.{Keeps-trans}
use Rattle.abi_bytes.proofs.TypeLemmas.{AreMade-push}
use Rattle.abi_bytes.proofs.types.type_formula.Goals as goal

pub loop-node-preserved : goal.loop-node-preserved
loop-node-preserved c =
    let s0 = formulas_in c.args.formulas.now in
    let s1 = formulas_in c.loop-node.formulas in
    let s2 = formulas_in c.node_formula.new.formulas in
    let made : List ℕ = c.loop-node.made.items in
    let kept = c.loop-node.invariant in (
      Keeps-trans s0 s1 s2 kept.0 c.in_ok-place.ensures.kept,
      omega (arith, ap length c.in_ok-push.ensures.items, length-append made (c.in_ok-place.place ∷ []), kept.1),
      AreMade-push s1 s2 c.endian-order.result c.nodes-nodes.result.now made c.push.new.self.items c.loop-node.node c.in_ok-place.place kept.2 c.in_ok-place.ensures (omega (arith, kept.1)) c.in_ok-push.ensures.items,
    )
