use Rattle.std.proofs.Common.{◌≡◌, ℕ, ◌-◌, ◌<◌, ◌≤◌, ap, arith, subst, get_or, length}
use Rattle.abi_scalar.specs.declared.wrapping_range.WrappingRange.{WrappingRange}
use Rattle.abi_scalar.specs.Range.{numbers_of}
use Rattle.abi_scalar.proofs.LeastLemmas.{IsBestSoFar, best_kept, best_taken, around_gap, least_from_best}
use Rattle.abi_scalar.proofs.least_range.least_of_ascending.Goals as goal
use Rattle.abi_scalar.proofs.least_range.least_of_ascending.Goals.{then-end-start+then-reach-fewest, then-end-start+else-reach-fewest, else-end-start}

pub loop-k-preserved : goal.loop-k-preserved
loop-k-preserved c =
    let xs = c.args.values.now in
    let all = numbers_of c.args.size in
    let k = c.loop-k.k in
    let best = c.loop-k.best in
    let new = c.if-end-start.best in
    let some : 1 ≤ k = c.loop-k.auto.k in
    let within : k < length xs = c.loop-k-test.true in
    let start : get_or xs k 0 < all = c.requires.within k 0 within in
    let end : get_or xs (k - 1) 0 < all = c.requires.within (k - 1) 0 (omega (arith, within, some)) in
    elim c.if-end-start.branch [
      | then-end-start+then-reach-fewest w ↦
          let reach = around_gap c.args.size (get_or xs k 0) (get_or xs (k - 1) 0) start end w.if-end-start.true in
          let s = ap (λ (b : WrappingRange). b.start) w.best-is in
          let e = ap (λ (b : WrappingRange). b.end) w.best-is in
          best_taken all xs k best.start best.end c.loop-k.fewest new.start new.end c.if-end-start.fewest some within c.loop-k.invariant
          s e (omega (arith, s, e, w.if-end-start.true)) (omega (arith, s, e, w.fewest-is, w.steps-reach.ensures, reach))
          (omega (arith, w.fewest-is, w.if-reach-fewest.true))
      | then-end-start+else-reach-fewest w ↦
          let reach = around_gap c.args.size (get_or xs k 0) (get_or xs (k - 1) 0) start end w.if-end-start.true in
          rw (w.best-is, w.fewest-is) (best_kept all xs k best.start best.end c.loop-k.fewest c.requires.ascending some within c.loop-k.invariant
          (λ up. omega (arith, w.if-reach-fewest.false, w.steps-reach.ensures, reach)))
      | else-end-start w ↦
          rw (w.best-is, w.fewest-is) (best_kept all xs k best.start best.end c.loop-k.fewest c.requires.ascending some within c.loop-k.invariant
          (λ up. absurd (omega (arith, up, w.if-end-start.false))))
    ]

pub returns : goal.returns
returns c =
    let xs = c.args.values.now in
    let e : c.loop-k.k ≡ length xs = omega (arith, c.loop-k-test.false, c.loop-k.auto.k-end, c.requires.any) in
    let P : ℕ → Type 0 = λ k. IsBestSoFar (numbers_of c.args.size) xs k c.loop-k.best.start c.loop-k.best.end c.loop-k.fewest in
    least_from_best c.args.size xs c.loop-k.best c.loop-k.fewest c.requires.ascending c.requires.any c.requires.within
    (subst P e c.loop-k.invariant)
