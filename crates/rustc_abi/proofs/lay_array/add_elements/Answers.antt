use Rattle.std.proofs.Common.{sym}
use Rattle.std.proofs.lemmas.Result.{IfOk-weaker}
use Rattle.abi_tree.specs.Nodes.{types_in}
use Rattle.rustc_abi.proofs.Places.LawsLemmas.{elements_laws}
use Rattle.rustc_abi.proofs.Trees.LayLemmas.{IsAdded-elements}
use Rattle.rustc_abi.proofs.Sizes.CountLemmas.{both_ok, own_put}
use Rattle.rustc_abi.proofs.lay_array.add_elements.Goals as goal

pub add-requires-clause-laws : goal.add-requires-clause-laws
add-requires-clause-laws c =
    elements_laws c.args.dl.now (types_in c.args.nodes.now) c.args.element c.args.count c.in_ok-layout.layout (sym c.in_ok-layout.ensures.exact)

pub returns-clause-ok : goal.returns-clause-ok
returns-clause-ok c =
    IfOk-weaker c.add.result _ _
    (λ i put t laid fits. IsAdded-elements _ _ _ i _ c.args.count _ t (sym c.in_ok-layout.ensures.exact) c.in_ok-layout.ensures.lawful put laid fits)
    c.add.ensures.ok

pub returns-clause-own : goal.returns-clause-own
returns-clause-own c =
    both_ok c.add.result _ _ _ c.add.ensures.ok c.add.ensures.count
    (λ i put count. own_put c.args.nodes.now c.args.nodes.now c.add.new.nodes i _ put count)
