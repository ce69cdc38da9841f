use Rattle.std.proofs.Common.{◌≡◌, ℕ, ◌+◌, ◌<◌, length, get_or, true, arith, refl, sym, ap, ◌∙◌, subst}
use Rattle.std.proofs.lemmas.List.{get_or-set_same, get_or-set_other}
use Rattle.abi_index.specs.RangeSet.{is_in_ranges}
use Rattle.abi_tree.proofs.Bytes.PutPlacesLemmas.{PutBefore, PutBefore-first, PutBefore-skip, PutBefore-more, PutBefore-there, PutBefore-all, left-before, left-free, left-inside, AreLeft-more, left-none}
use Rattle.abi_tree.proofs.value.write.put_places.Goals as goal
use Rattle.abi_tree.proofs.value.write.put_places.Goals.{then-next-content, else-next-content}

pub loop-run-init : goal.loop-run-init
loop-run-init c =
    (0, record { later = c.requires.maximal; beside = λ k le. refl }, PutBefore-first (is_in_ranges c.args.runs.now) c.args.at c.args.size c.args.content.now c.args.bytes.now)

pub loop-k-init : goal.loop-k-init
loop-k-init c =
    let left = c.loop-run.invariant in
    PutBefore-skip (is_in_ranges c.args.runs.now) c.args.at c.args.size c.args.content.now c.args.bytes.now c.loop-run.bytes c.loop-run.next left.0 (get_or c.args.runs.now c.loop-run.run-index (0, 0)).0
    (left-before c.args.runs.now c.loop-run.run-index left.0 (0, 0) left.1 c.loop-run-test.true) (left-free c.args.runs.now c.loop-run.run-index left.0 (0, 0) left.1 c.loop-run-test.true) left.2

pub loop-k-preserved : goal.loop-k-preserved
loop-k-preserved c =
    let k = c.loop-k.k in
    let here = left-inside c.args.runs.now c.loop-run.run-index c.loop-run.invariant.0 (0, 0) c.loop-run.invariant.1 c.loop-run-test.true c.args.size k
    (c.requires.inside c.loop-run.run-index (0, 0) c.loop-run-test.true) c.loop-k.auto.k c.loop-k-test.true in
    let there : c.args.at + k < length c.loop-k.bytes = omega (arith, here.1, c.requires.fits, c.loop-k.auto.bytes, c.loop-run.auto.bytes) in
    elim c.if-next-content.branch as (λ _. PutBefore (is_in_ranges c.args.runs.now) c.args.at c.args.size c.args.content.now c.args.bytes.now c.if-next-content.bytes c.if-next-content.next (k + 1)) [
      | then-next-content w ↦
          subst
          (λ n. PutBefore (is_in_ranges c.args.runs.now) c.args.at c.args.size c.args.content.now c.args.bytes.now c.if-next-content.bytes n (k + 1)) (sym w.next-is)
          (PutBefore-more (is_in_ranges c.args.runs.now) c.args.at c.args.size c.args.content.now c.args.bytes.now c.loop-k.bytes c.loop-k.next k here.0 here.1 c.loop-k.invariant c.if-next-content.bytes
          c.if-next-content.auto.bytes
          (ap (λ bytes. get_or bytes (c.args.at + k) 0) w.bytes-is ∙ get_or-set_same c.loop-k.bytes (c.args.at + k) _ 0 there)
          (λ j other. ap (λ bytes. get_or bytes j 0) w.bytes-is ∙ get_or-set_other c.loop-k.bytes (c.args.at + k) j _ 0 other))
      | else-next-content w ↦
          subst
          (λ n. PutBefore (is_in_ranges c.args.runs.now) c.args.at c.args.size c.args.content.now c.args.bytes.now c.if-next-content.bytes n (k + 1)) (sym w.next-is)
          (PutBefore-there (is_in_ranges c.args.runs.now) c.args.at c.args.size c.args.content.now c.args.bytes.now c.loop-k.bytes c.loop-k.next k here.0 here.1 c.loop-k.invariant c.if-next-content.bytes
          (omega arith))
    ]

pub loop-run-preserved : goal.loop-run-preserved
loop-run-preserved c =
    let run : ℕ × ℕ = get_or c.args.runs.now c.loop-run.run-index (0, 0) in
    let end : c.loop-k.k ≡ run.0 + run.1 = omega (arith, c.loop-k-test.false, c.loop-k.auto.k-end) in
    (run.0 + run.1, AreLeft-more c.args.runs.now c.loop-run.run-index c.loop-run.invariant.0 (0, 0) c.loop-run.invariant.1 c.loop-run-test.true, subst (PutBefore (is_in_ranges c.args.runs.now) c.args.at c.args.size c.args.content.now c.args.bytes.now c.loop-k.bytes c.loop-k.next) end c.loop-k.invariant)

pub returns-clause-put : goal.returns-clause-put
returns-clause-put c =
    let left = c.loop-run.invariant in
    PutBefore-all (is_in_ranges c.args.runs.now) c.args.at c.args.size c.args.content.now c.args.bytes.now c.loop-run.bytes c.loop-run.next left.0
    (left-none c.args.runs.now c.loop-run.run-index left.0 left.1 (omega arith)) left.2
