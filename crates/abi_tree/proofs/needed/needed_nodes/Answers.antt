use Rattle.std.proofs.Common.{◌≡◌, ◌+◌, ◌-◌, ◌<◌, ℕ, List, Bool, Some, true, false, ap, arith, drop, get_or, length, refl, set, subst, sym, ◌∙◌}
use Rattle.std.proofs.lemmas.List.{get_or_default, take_at}
use Rattle.abi_tree.specs.declared.node.Node.{Node}
use Rattle.abi_tree.specs.Needed.{MarksPlaces, named_by}
use Rattle.abi_tree.proofs.Places.NeededLemmas.{AreRead, named_first, read_all, read_bare, read_first, read_more, read_skip}
use Rattle.abi_tree.proofs.needed.needed_nodes.Goals.{then-bytes-gt0, else-bytes-gt0}
use Rattle.abi_tree.specs.Nodes.{lent_node}
use Rattle.abi_tree.proofs.needed.needed_nodes.Goals as goal

pub loop-at-init : goal.loop-at-init
loop-at-init c = record {
  same = refl;
  read =
      read_first c.args.nodes.nodes.now c.args.root c.in_ok-needed.needed.items c.in_ok-kept.kept.items c.args.nodes.visits c.requires.none
      (c.in_ok-needed.ensures.items_if_clones_equal (λ x h. h)) c.in_ok-kept.ensures c.requires.room;
}

pub mark_named-requires : goal.mark_named-requires
mark_named-requires c = λ k d lt.
    let ns : List Node = c.args.nodes.nodes.now in
    let i : ℕ = c.loop-at.at - 1 in
    let there : i < length ns = omega (arith, c.loop-at.auto.at, c.loop-at-test.true, c.requires.there) in
    let at : lent_node c.visit-node.result ≡ get_or ns i (lent_node c.visit-node.result) = c.visit-node.ensures.node ∙ ap (λ nodes. get_or nodes.now i (lent_node c.visit-node.result)) c.loop-at.invariant.same in
    omega (arith, named_first ns c.requires.well c.requires.laws i (lent_node c.visit-node.result) there at k d lt, ap length c.deref_mut.ensures.value, c.loop-at.invariant.read.marks, c.loop-at.auto.at)

pub loop-at-preserved-then-index : goal.loop-at-preserved-then-index
loop-at-preserved-then-index c =
    let ns : List Node = c.args.nodes.nodes.now in
    let i : ℕ = c.loop-at.at - 1 in
    let next : c.loop-at.at ≡ i + 1 = omega (arith, c.loop-at-test.true) in
    let read : AreRead ns c.args.root (i + 1) c.loop-at.needed.items c.loop-at.kept.items c.loop-at.nodes.visits =
    subst (λ at. AreRead ns c.args.root at c.loop-at.needed.items c.loop-at.kept.items c.loop-at.nodes.visits) next c.loop-at.invariant.read in
    let below : i < c.args.root + 1 = omega (arith, c.loop-at.auto.at, c.loop-at-test.true) in
    let marked : get_or c.loop-at.needed.items i false ≡ true =
    get_or_default c.loop-at.needed.items i false c.index.result.now (omega (arith, below, c.loop-at.invariant.read.marks)) ∙ sym c.index.ensures ∙ c.if-index.true in
    let now = c.visit-node.new.self.visits in
    let node = c.visit-node.result in
    let at : lent_node node ≡ get_or ns i (lent_node node) = c.visit-node.ensures.node ∙ ap (λ nodes. get_or nodes.now i (lent_node node)) c.loop-at.invariant.same in
    let kept = set c.loop-at.kept.items i (Some node) in
    record {
      same = c.visit-node.ensures.same ∙ c.loop-at.invariant.same;
      read =
          elim c.if-bytes-gt0.branch as (λ _. AreRead ns c.args.root i c.if-bytes-gt0.needed.items kept now) [
            | then-bytes-gt0 w ↦
                let marks : MarksPlaces c.loop-at.needed.items w.mark_named.new.needed (named_by node.layout.now node.shape.now) =
                subst (λ old. MarksPlaces old w.mark_named.new.needed (named_by node.layout.now node.shape.now)) w.deref_mut.ensures.value w.mark_named.ensures in
                let new : List Bool = w.mark_named.new.needed in
                let some : 0 < node.layout.now.size = omega (arith, c.bytes.ensures, w.if-bytes-gt0.true) in
                let long : length new ≡ c.loop-at.needed.len = w.mark_named.ensures.0 ∙ w.deref_mut.ensures.len in
                subst (λ new. AreRead ns c.args.root i new kept now) (sym (ap (λ v. v.items) w.needed-is ∙ take_at new (drop (length new) c.loop-at.needed.items) c.loop-at.needed.len long))
                (read_more ns c.args.root i c.loop-at.needed.items c.loop-at.kept.items c.loop-at.nodes.visits read c.requires.well c.requires.laws c.requires.there marked node at below
                w.mark_named.new.needed now c.visit-node.ensures.visits some marks)
            | else-bytes-gt0 w ↦
                let bare : (0 < node.layout.now.size → ⊥) = λ some. omega (arith, some, c.bytes.ensures, w.if-bytes-gt0.false) in
                subst (λ new. AreRead ns c.args.root i new kept now) (sym (ap (λ v. v.items) w.needed-is))
                (read_bare ns c.args.root i c.loop-at.needed.items c.loop-at.kept.items c.loop-at.nodes.visits read c.requires.well c.requires.laws c.requires.there marked node at below
                now c.visit-node.ensures.visits bare)
          ];
    }

pub loop-at-preserved : goal.loop-at-preserved
loop-at-preserved c =
    let ns : List Node = c.args.nodes.nodes.now in
    let i : ℕ = c.loop-at.at - 1 in
    let next : c.loop-at.at ≡ i + 1 = omega (arith, c.loop-at-test.true) in
    let read : AreRead ns c.args.root (i + 1) c.loop-at.needed.items c.loop-at.kept.items c.loop-at.nodes.visits =
    subst (λ at. AreRead ns c.args.root at c.loop-at.needed.items c.loop-at.kept.items c.loop-at.nodes.visits) next c.loop-at.invariant.read in
    let below : i < c.args.root + 1 = omega (arith, c.loop-at.auto.at, c.loop-at-test.true) in
    let unmarked_bytes : get_or c.loop-at.needed.items i false ≡ false =
    get_or_default c.loop-at.needed.items i false c.index.result.now (omega (arith, below, c.loop-at.invariant.read.marks)) ∙ sym c.index.ensures ∙ c.if-index.false in
    record {
      same = c.loop-at.invariant.same;
      read = read_skip ns c.args.root i c.loop-at.needed.items c.loop-at.kept.items c.loop-at.nodes.visits c.requires.there below read unmarked_bytes;
    }

pub returns-clause-needed : goal.returns-clause-needed
returns-clause-needed c =
    let none : c.loop-at.at ≡ 0 = omega (arith, c.loop-at-test.false) in
    read_all c.args.nodes.nodes.now c.args.root c.loop-at.needed.items c.loop-at.kept.items c.loop-at.nodes.visits c.requires.well c.requires.laws c.requires.there
    (subst (λ at. AreRead c.args.nodes.nodes.now c.args.root at c.loop-at.needed.items c.loop-at.kept.items c.loop-at.nodes.visits) none c.loop-at.invariant.read)
