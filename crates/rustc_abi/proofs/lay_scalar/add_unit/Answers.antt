use Rattle.std.proofs.Common.{refl, subst}
use Rattle.std.proofs.lemmas.Result.{IfOk-weaker}
use Rattle.abi_scalar.specs.Lawful.{IsLawfulLayout}
use Rattle.abi_scalar.specs.Shape.{listed_offsets}
use Rattle.abi_tree.specs.declared.mark.Mark.TheVariants.{Unit}
use Rattle.abi_tree.specs.Placed.{fields}
use Rattle.abi_tree.specs.Nodes.{parts_at}
use Rattle.abi_tree.specs.Well.{IsPut, all_at}
use Rattle.rustc_abi.proofs.Values.EmptyLemmas.{Fits-unit}
use Rattle.rustc_abi.proofs.Trees.LayLemmas.{IsAdded-put}
use Rattle.rustc_abi.proofs.Sizes.CountLemmas.{both_ok, own_put}
use Rattle.rustc_abi.proofs.lay_scalar.add_unit.Goals as goal

pub returns-clause-ok : goal.returns-clause-ok
returns-clause-ok c =
    let dl = c.args.cx.dl.now in
    let lawful = subst (IsLawfulLayout dl) c.unit.ensures.exact (c.unit.ensures.lawful c.requires) in
    IfOk-weaker c.add.result _ _
    (λ i put. IsAdded-put dl _ _ i _ _
    (subst (λ l. IsPut c.args.nodes.now c.add.new.nodes i (fields l Unit (parts_at (listed_offsets l.fields) (all_at c.args.nodes.now c.new.result.items)))) c.unit.ensures.exact put) refl (Fits-unit dl lawful))
    c.add.ensures.ok

pub returns-clause-own : goal.returns-clause-own
returns-clause-own c =
    both_ok c.add.result _ _ _ c.add.ensures.ok c.add.ensures.count
    (λ i put count. own_put c.args.nodes.now c.args.nodes.now c.add.new.nodes i _ put count)
