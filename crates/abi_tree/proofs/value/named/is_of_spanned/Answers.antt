use Rattle.std.proofs.Common.{◌≡◌, ◌<◌, ◌≤◌, arith, sym, ap, ◌∙◌, ⊎_elim}
use Rattle.std.proofs.lemmas.Bool.{cases_lt}
use Rattle.abi_tree.specs.Tag.{IsSpanned, niche_number}
use Rattle.abi_tree.proofs.Found.NamedLemmas.{none_but_last, none_untagged, told_by_same}
use Rattle.abi_tree.proofs.value.named.is_of_spanned.Goals.{else-i-untagged-via-then-i-untagged+else-tag-niche_number, else-i-untagged-via-else-i-untagged, else-first-last-via-then-first-last+else-last-untagged, else-first-last-via-else-first-last}
use Rattle.abi_tree.proofs.value.named.is_of_spanned.Goals as goal

pub loop-i-init : goal.loop-i-init
loop-i-init c = λ j spanned lt same. absurd (omega (arith, spanned.0, lt))

pub loop-i-preserved : goal.loop-i-preserved
loop-i-preserved c = λ j spanned lt same.
    ⊎_elim (λ (below : j < c.loop-i.i). c.loop-i.invariant j spanned below same)
    (λ (end : c.loop-i.i ≤ j).
    let here : j ≡ c.loop-i.i = omega (arith, end, lt) in
    elim c.else-i-untagged.branch [
      | else-i-untagged-via-then-i-untagged+else-tag-niche_number w ↦
          w.if-tag-niche_number.false (same ∙ ap (niche_number c.args.width c.args.span.first c.args.span.start) here ∙ sym w.niche_number.ensures)
      | else-i-untagged-via-else-i-untagged w ↦ spanned.2 (here ∙ w.if-i-untagged.false)
    ])
    (cases_lt j c.loop-i.i)

pub returns-then-last-untagged : goal.returns-then-last-untagged
returns-then-last-untagged c =
    let spanned : IsSpanned c.args.span.untagged c.args.span.first c.args.span.last c.args.span.last = (c.if-first-last.true, omega arith, c.if-last-untagged.true) in
    told_by_same c.args.tag c.niche_number-then-last-untagged.result _ _ (λ same. (c.args.span.last, spanned, same ∙ c.niche_number-then-last-untagged.ensures))
    (λ other.
    none_but_last c.args.width c.args.span.untagged c.args.span.first c.args.span.last c.args.span.start c.args.tag
    (λ j of lt. c.loop-i.invariant j of (omega (arith, lt, c.loop-i-test.false))) (λ same. other (same ∙ sym c.niche_number-then-last-untagged.ensures)))

pub returns-else-first-last : goal.returns-else-first-last
returns-else-first-last c = λ j spanned same.
    elim c.else-first-last.branch [
      | else-first-last-via-then-first-last+else-last-untagged w ↦
          none_untagged c.args.width c.args.span.untagged c.args.span.first c.args.span.last c.args.span.start c.args.tag
          (λ k of lt. c.loop-i.invariant k of (omega (arith, lt, c.loop-i-test.false))) w.if-last-untagged.false j spanned same
      | else-first-last-via-else-first-last w ↦ absurd (omega (arith, spanned.0, spanned.1, w.if-first-last.false))
    ]
