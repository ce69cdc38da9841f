use Rattle.std.proofs.Common.{◌≡◌, ◌-◌, List, ap, arith, length, subst, sym, ◌∙◌}
use Rattle.std.proofs.lemmas.Result.{IfOk-weaker}
use Rattle.abi_tree.specs.declared.node.Node.{Node}
use Rattle.abi_tree.specs.Nodes.{placed_at}
use Rattle.abi_tree.specs.Needed.{AreNeeded}
use Rattle.abi_tree.specs.Places.{is_data_place}
use Rattle.abi_tree.proofs.runs_of.data_places.Goals as goal

pub returns : goal.returns
returns c =
    let ns : List Node = c.args.nodes.nodes.now in
    let slice : c.deref.result.now ≡ c.in_ok-kept.kept.items = c.deref.ensures.value in
    let last : length c.deref.result.now - 1 ≡ c.args.node = omega (arith, ap length slice, c.in_ok-kept.ensures.long) in
    IfOk-weaker c.joined_runs.result _ _
    (λ set same k. same ns (subst (AreNeeded ns) (sym slice) c.in_ok-kept.ensures.needed) k ∙ ap (λ i. is_data_place (placed_at ns i) k) last)
    c.joined_runs.ensures
