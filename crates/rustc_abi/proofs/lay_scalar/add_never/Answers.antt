use Rattle.std.proofs.Common.{refl, subst}
use Rattle.std.proofs.lemmas.Result.{IfOk-weaker}
use Rattle.abi_scalar.specs.Lawful.{IsLawfulLayout}
use Rattle.abi_tree.specs.declared.mark.Mark.TheVariants.{Never}
use Rattle.abi_tree.specs.Placed.{never as placed_never}
use Rattle.abi_tree.specs.Well.{IsPut}
use Rattle.rustc_abi.proofs.Values.EmptyLemmas.{Fits-never}
use Rattle.rustc_abi.proofs.Trees.LayLemmas.{IsAdded-put}
use Rattle.rustc_abi.proofs.Sizes.CountLemmas.{both_ok, own_put}
use Rattle.rustc_abi.proofs.lay_scalar.add_never.Goals as goal

pub returns-clause-ok : goal.returns-clause-ok
returns-clause-ok c =
    let dl = c.args.dl.now in
    let lawful = subst (IsLawfulLayout dl) c.never_type.ensures.exact (c.never_type.ensures.lawful c.requires) in
    IfOk-weaker c.add.result _ _
    (λ i put. IsAdded-put dl _ _ i _ _ (subst (λ l. IsPut c.args.nodes.now c.add.new.nodes i (placed_never l Never)) c.never_type.ensures.exact put) refl (Fits-never dl lawful))
    c.add.ensures.ok

pub returns-clause-own : goal.returns-clause-own
returns-clause-own c =
    both_ok c.add.result _ _ _ c.add.ensures.ok c.add.ensures.count
    (λ i put count. own_put c.args.nodes.now c.args.nodes.now c.add.new.nodes i _ put count)
