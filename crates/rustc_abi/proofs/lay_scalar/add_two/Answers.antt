use Rattle.std.proofs.Common.{false, ◌∙◌, arith, subst}
use Rattle.std.specs.Cmp.Derive.{both_true}
use Rattle.std.proofs.lemmas.Bool.{lt-ltb}
use Rattle.std.proofs.lemmas.Result.{IfOk-weaker}
use Rattle.abi_scalar.specs.Lawful.{IsLawfulLayout}
use Rattle.abi_tree.specs.declared.node.Shape.TheVariants.{Pair}
use Rattle.abi_tree.specs.Nodes.{meaning, types_in}
use Rattle.abi_tree.specs.Well.{IsPut}
use Rattle.abi_tree.proofs.Meaning.NodesLemmas.{length-types_in}
use Rattle.rustc_abi.proofs.Places.LawsLemmas.{pair_laws}
use Rattle.rustc_abi.proofs.Trees.LayLemmas.{IsAdded-pair}
use Rattle.rustc_abi.proofs.Sizes.CountLemmas.{both_ok, more_both, own_put}
use Rattle.rustc_abi.proofs.Trees.StillLemmas.{still_after}
use Rattle.rustc_abi.proofs.lay_scalar.add_two.Goals as goal

pub add-requires-clause-laws : goal.add-requires-clause-laws
add-requires-clause-laws c =
    let dl = c.args.dl.now in
    let a = c.args.a in
    let b = c.args.b in
    let first = c.in_ok-first.ensures.ok in
    let second = c.in_ok-second.ensures.ok in
    let one = second.kept.same c.in_ok-first.first (omega (arith, first.last, length-types_in c.add_faultless_scalar.new.nodes)) ∙ first.meant in
    pair_laws dl (types_in c.add_faultless_scalar-2.new.nodes) c.in_ok-first.first c.in_ok-second.second a b c.args.layout one second.meant c.requires.exact c.requires.lawful

pub add-requires-clause-earlier : goal.add-requires-clause-earlier
add-requires-clause-earlier c =
    let first = c.in_ok-first.ensures.ok in
    let second = c.in_ok-second.ensures.ok in
    both_true (lt-ltb c.in_ok-first.first _ (omega (arith, first.last, second.last, second.kept.longer, length-types_in c.add_faultless_scalar.new.nodes, length-types_in c.add_faultless_scalar-2.new.nodes)))
    (lt-ltb c.in_ok-second.second _ (omega (arith, second.last)))

pub returns-clause-ok : goal.returns-clause-ok
returns-clause-ok c =
    let dl = c.args.dl.now in
    let a = c.args.a in
    let b = c.args.b in
    let lawful = subst (IsLawfulLayout dl) c.requires.exact c.requires.lawful in
    IfOk-weaker c.add.result _ _
    (λ i put. IsAdded-pair dl _ _ _ _ c.in_ok-first.first c.in_ok-second.second i a b c.requires.first c.requires.second c.requires.below c.add_faultless_scalar.ensures.lawful c.add_faultless_scalar-2.ensures.lawful lawful
    c.in_ok-first.ensures.ok c.in_ok-second.ensures.ok
    (subst (λ l. IsPut c.add_faultless_scalar-2.new.nodes c.add.new.nodes i (meaning (types_in c.add_faultless_scalar-2.new.nodes) l (Pair c.in_ok-first.first c.in_ok-second.second))) c.requires.exact put))
    c.add.ensures.ok

pub returns-clause-own : goal.returns-clause-own
returns-clause-own c =
    both_ok c.add.result _ _ _ c.add.ensures.ok c.add.ensures.count
    (λ i put count. own_put c.args.nodes.now c.add_faultless_scalar-2.new.nodes c.add.new.nodes i _ put (more_both 2 1 false _ _ _ _ (more_both 1 1 false false _ _ _ c.in_ok-first.ensures.count c.in_ok-second.ensures.count) count))

pub returns-in_err-second-clause-behind : goal.returns-in_err-second-clause-behind
returns-in_err-second-clause-behind c = still_after _ _ _ c.in_ok-first.ensures.behind c.in_err-second.ensures.behind

pub returns-clause-behind : goal.returns-clause-behind
returns-clause-behind c = still_after _ _ _ c.in_ok-first.ensures.behind (still_after _ _ _ c.in_ok-second.ensures.behind c.add.ensures.behind)
