use Rattle.std.proofs.Common.{◌≡◌, length, arith, subst, sym, true}
use Rattle.abi_tree.specs.Well.{is_node}
use Rattle.abi_tree.proofs.Meaning.NodesLemmas.{IsPut-push}
use Rattle.rustc_abi.proofs.Sizes.CountLemmas.{more_one}
use Rattle.rustc_abi.proofs.node.add.Goals as goal

pub returns-clause-ok : goal.returns-clause-ok
returns-clause-ok c =
    let at : c.len-node.result ≡ length c.args.nodes.now = omega arith in
    rw c.in_ok-push.ensures.ok (IsPut-push c.args.nodes.now _ c.len-node.result (subst (λ i. is_node i c.args.shape ≡ true) (sym c.len-node.ensures) c.requires.earlier) c.requires.laws c.requires.widths at)

pub returns-clause-count : goal.returns-clause-count
returns-clause-count c = more_one c.args.nodes.now _ _ c.in_ok-push.ensures.ok
