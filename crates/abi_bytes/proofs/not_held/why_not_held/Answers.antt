use Rattle.std.proofs.Common.{◌≡◌, ◌-◌, List, length, ap, ◌∙◌}
use Rattle.std.proofs.lemmas.Result.{IfOk-weaker}
use Rattle.abi_tree.specs.Nodes.{placed_at, root_of}
use Rattle.abi_tree.specs.declared.node.Node.{Node}
use Rattle.abi_bytes.specs.GoesInto.{stored_of}
use Rattle.abi_bytes.proofs.WrongLemmas.{why_found}
use Rattle.abi_bytes.proofs.not_held.why_not_held.Goals as goal

pub returns-clause-why : goal.returns-clause-why
returns-clause-why c =
    let ns : List Node = c.nodes-nodes.result.now in
    let last : c.len.result - 1 ≡ length ns - 1 = ap (λ k. k - 1) c.len.ensures in
    IfOk-weaker c.node_wrong.result _ _
    (λ found h. why_found (stored_of c.args.laid.now) c.args.cells.now _ _ _ found c.endian.ensures (ap (placed_at ns) last ∙ ap root_of c.nodes-nodes.ensures.same) h)
    c.node_wrong.ensures
