use Rattle.std.proofs.Common.{◌≡◌, ℕ, List, None, get_or, subst, sym, ◌∙◌}
use Rattle.std.specs.Prelude.{IfSome}
use Rattle.std.proofs.lemmas.List.{get_or_default}
use Rattle.abi_index.specs.RangeSet.{AreMaximalRuns, is_in_ranges}
use Rattle.abi_tree.specs.declared.node.Node.{Node}
use Rattle.abi_tree.specs.Nodes.{lent_node, meaning}
use Rattle.abi_tree.specs.Places.{is_data_place}
use Rattle.abi_tree.specs.Placed.{Placed}
use Rattle.abi_tree.specs.Needed.{IsMadeOf}
use Rattle.abi_tree.proofs.Places.MadeLemmas.{entry_made, made_next}
use Rattle.abi_tree.proofs.runs_of.sets_of.Goals as goal

pub next_set-requires : goal.next_set-requires
next_set-requires c =
    let ns : List Node = c.requires.0 in
    let at : get_or c.args.kept.now c.loop-at.at None ≡ c.index-kept-at.result = get_or_default c.args.kept.now c.loop-at.at None c.index-kept-at.result c.loop-at-test.true ∙ sym c.index-kept-at.is in
    rw c.deref.ensures.value
    (entry_made ns c.args.kept.now c.requires.1 c.loop-at.at c.loop-at.done.items (c.loop-at.invariant ns c.requires.1) c.loop-at-test.true c.index-kept-at.result at)

pub loop-at-preserved : goal.loop-at-preserved
loop-at-preserved c = λ ns needed.
    let at : get_or c.args.kept.now c.loop-at.at None ≡ c.index-kept-at.result = get_or_default c.args.kept.now c.loop-at.at None c.index-kept-at.result c.loop-at-test.true ∙ sym c.index-kept-at.is in
    made_next ns c.args.kept.now needed c.loop-at.at c.loop-at.done.items (c.loop-at.invariant ns needed) c.loop-at-test.true c.index-kept-at.result at c.in_ok-set.set c.push.new.self.items
    c.in_ok-push.ensures.items (subst (AreMaximalRuns 0) c.as_slice-runs.ensures.runs c.as_slice-runs.ensures.maximal)
    (subst (λ d. IfSome c.index-kept-at.result (λ n. (types : List Placed) → IsMadeOf types (lent_node n) d → (k : ℕ) → is_in_ranges c.in_ok-set.set k ≡ is_data_place (meaning types n.layout.now n.shape.now) k))
    c.deref.ensures.value c.in_ok-set.ensures)
