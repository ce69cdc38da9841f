use Rattle.std.proofs.Common.{List, arith, sym, ap, ◌∙◌}
use Rattle.std.proofs.lemmas.List.{drop_all}
use Rattle.abi_tree.specs.declared.node.Node.{Node}
use Rattle.abi_tree.specs.Deciding.{are_inhabited}
use Rattle.abi_tree.proofs.Meaning.InhabitedLemmas.{inhabited_from, flagged_from}
use Rattle.abi_tree.proofs.laid.Laid.all_inhabited.Goals as goal

pub loop-i-preserved : goal.loop-i-preserved
loop-i-preserved c =
    let ns : List Node = c.args.self.now.nodes in
    c.loop-i.invariant ∙ inhabited_from ns c.loop-i.i (omega arith) (ap (λ l. l.uninhabited) (sym c.layout.ensures) ∙ c.if-layout.false)

pub returns-then-layout : goal.returns-then-layout
returns-then-layout c =
    let ns : List Node = c.args.self.now.nodes in
    sym (c.loop-i.invariant ∙ flagged_from ns c.loop-i.i (omega arith) (ap (λ l. l.uninhabited) (sym c.layout.ensures) ∙ c.if-layout.true))

pub returns : goal.returns
returns c = sym (c.loop-i.invariant ∙ ap are_inhabited (drop_all c.loop-i.i c.args.self.now.nodes (omega arith)))
