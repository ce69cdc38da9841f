use Rattle.std.proofs.Common.{◌∙◌, sym, ap, arith, ◌||◌}
use Rattle.abi_index.specs.RangeSet.{is_in_ranges}
use Rattle.abi_index.proofs.UncutLemmas.{cuts_passed, one_more_passed, run_fits, step_within, step_over_end}
use Rattle.abi_index.proofs.uncut.add_uncut.Goals as goal

pub loop-next-init : goal.loop-next-init
loop-next-init c = record {
  ascend = c.requires.ascend;
  passed = c.requires.passed;
  bytes = λ k. ap (λ left. left || is_in_ranges c.args.made.now k) (sym (cuts_passed k c.args.from c.args.to c.args.first c.args.cuts.now c.requires.passed));
}

pub overflow_add-cut : goal.overflow_add-cut
overflow_add-cut c = omega (arith, run_fits _ _ (0, 0) c.loop-next-test.true c.requires.maximal)

pub returns-then-to-cut-clause-bytes : goal.returns-then-to-cut-clause-bytes
returns-then-to-cut-clause-bytes c k =
    let kept = c.loop-next.invariant in
    rw (c.in_ok-add_range.ensures.bytes k, c.saturating_sub.ensures, c.min.ensures)
    (step_over_end k _ _ _ _ (0, 0) _ c.loop-next-test.true kept.ascend c.if-to-cut.true c.requires.maximal ∙ kept.bytes k)

pub loop-next-preserved : goal.loop-next-preserved
loop-next-preserved c =
    let kept = c.loop-next.invariant in
    record {
      ascend = omega (arith, c.max-start.ensures);
      passed = one_more_passed _ _ _ _ (0, 0) c.loop-next-test.true kept.passed (omega (arith, c.max-start.ensures)) (omega (arith, c.max-start.ensures));
      bytes = λ k. rw (c.in_ok-add_range.ensures.bytes k, c.saturating_sub.ensures, c.min.ensures, c.max-start.ensures)
          (step_within k _ _ _ _ (0, 0) _ c.loop-next-test.true kept.ascend c.if-to-cut.false c.requires.maximal ∙ kept.bytes k);
    }
