use Rattle.std.proofs.Common.{◌≡◌, ◌+◌, ℕ, Bool, drop, get_or, arith, sym, ap, ◌∙◌}
use Rattle.std.specs.Prelude.{false, true, ◌||◌}
use Rattle.abi_tree.specs.Nodes.{lent_node}
use Rattle.abi_tree.specs.declared.node.Node.{Node}
use Rattle.abi_bytes.specs.Answers.{has_pointer_node, is_pointer_node}
use Rattle.abi_bytes.proofs.AnswerLemmas.{pointer_end, pointer_from}
use Rattle.abi_bytes.proofs.answers.has_pointer_node.Goals as goal

pub returns-then-is_pointer_node : goal.returns-then-is_pointer_node
returns-then-is_pointer_node c =
    let ns = c.args.nodes.now in
    let i : ℕ = c.loop-i.i in
    let d : Node = lent_node c.node.result in
    let rest : Bool = has_pointer_node (drop (i + 1) ns) in
    let flag : is_pointer_node (get_or ns i d).shape ≡ true = ap (λ (n : Node). is_pointer_node n.shape) (sym c.node.ensures) ∙ sym c.is_pointer_node.ensures ∙ c.if-is_pointer_node.true in
    sym (c.loop-i.invariant ∙ pointer_from ns i d (omega arith) ∙ ap (λ b. b || rest) flag)

pub loop-i-preserved : goal.loop-i-preserved
loop-i-preserved c =
    let ns = c.args.nodes.now in
    let i : ℕ = c.loop-i.i in
    let d : Node = lent_node c.node.result in
    let rest : Bool = has_pointer_node (drop (i + 1) ns) in
    let flag : is_pointer_node (get_or ns i d).shape ≡ false = ap (λ (n : Node). is_pointer_node n.shape) (sym c.node.ensures) ∙ sym c.is_pointer_node.ensures ∙ c.if-is_pointer_node.false in
    c.loop-i.invariant ∙ pointer_from ns i d (omega arith) ∙ ap (λ b. b || rest) flag

pub returns : goal.returns
returns c = sym (c.loop-i.invariant ∙ pointer_end c.args.nodes.now c.loop-i.i (omega arith))
