use Rattle.std.proofs.Common.{◌≡◌, ◌+◌, ℕ, true, List, drop, get_or, arith, sym, ap, ◌∙◌}
use Rattle.std.specs.Prelude.{◌||◌}
use Rattle.abi_tree.specs.Placed.{Placed, is_flagged, layout_of, nothing}
use Rattle.abi_tree.specs.Nodes.{parts_at}
use Rattle.abi_tree.specs.Well.{all_at}
use Rattle.abi_tree.proofs.Found.NamedLemmas.{child_is, count_children, flagged_end, flagged_from}
use Rattle.abi_tree.proofs.value.named.is_flagged.Goals.{else-i-offsets-via-then-i-offsets+else-layout, else-i-offsets-via-else-i-offsets}
use Rattle.abi_tree.proofs.value.named.is_flagged.Goals as goal

pub returns-then-layout : goal.returns-then-layout
returns-then-layout c =
    let ns = c.args.nodes.now in
    let os : List ℕ = c.own_parts.result.0.now in
    let ps : List Placed = all_at ns c.own_parts.result.1.now in
    let i : ℕ = c.loop-i.i in
    let rest = is_flagged (parts_at (drop (i + 1) os) (drop (i + 1) ps)) in
    let flag : true ≡ (layout_of (get_or ps i nothing)).uninhabited = sym (ap (λ p. (layout_of p).uninhabited) (child_is ns c.own_parts.result.1.now i (omega arith)) ∙ ap (λ l. l.uninhabited) (sym c.layout.ensures) ∙ c.if-layout.true) in
    ap (λ b. b || rest) flag ∙ sym (ap is_flagged c.own_parts.ensures.parts ∙ c.loop-i.invariant ∙ flagged_from os ps i c.if-i-offsets.true (omega (arith, count_children ns c.own_parts.result.1.now)))

pub loop-i-preserved : goal.loop-i-preserved
loop-i-preserved c =
    let ns = c.args.nodes.now in
    let os : List ℕ = c.own_parts.result.0.now in
    let ps : List Placed = all_at ns c.own_parts.result.1.now in
    let i : ℕ = c.loop-i.i in
    let many = count_children ns c.own_parts.result.1.now in
    let rest = is_flagged (parts_at (drop (i + 1) os) (drop (i + 1) ps)) in
    elim c.else-i-offsets.branch [
      | else-i-offsets-via-then-i-offsets+else-layout w ↦
          c.loop-i.invariant ∙ flagged_from os ps i w.if-i-offsets.true (omega (arith, many))
          ∙ ap (λ b. b || rest) (ap (λ p. (layout_of p).uninhabited) (child_is ns c.own_parts.result.1.now i (omega arith)) ∙ ap (λ l. l.uninhabited) (sym w.layout.ensures) ∙ w.if-layout.false)
      | else-i-offsets-via-else-i-offsets w ↦
          c.loop-i.invariant ∙ flagged_end os ps i (omega (arith, w.if-i-offsets.false)) ∙ sym (flagged_end os ps (i + 1) (omega (arith, w.if-i-offsets.false)))
    ]

pub returns : goal.returns
returns c =
    let ns = c.args.nodes.now in
    let os : List ℕ = c.own_parts.result.0.now in
    let ps : List Placed = all_at ns c.own_parts.result.1.now in
    sym (ap is_flagged c.own_parts.ensures.parts ∙ c.loop-i.invariant ∙ flagged_end os ps c.loop-i.i (omega (arith, count_children ns c.own_parts.result.1.now, c.loop-i-test.false)))
