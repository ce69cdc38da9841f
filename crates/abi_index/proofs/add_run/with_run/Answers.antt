use Rattle.std.proofs.Common.{◌≡◌, ◌++◌, ◌-◌, ◌||◌, sym, ◌∙◌, subst, arith, ap, take, drop, length}
use Rattle.abi_index.specs.RangeSet.{is_in_ranges, is_in_run, AreMaximalRuns}
use Rattle.abi_index.proofs.RangeSetLemmas.{bytes_added, maximal_added, step_after, step_joins, maximal_rest, first_fits, none_left, rest_left}
use Rattle.abi_index.proofs.add_run.with_run.Goals as goal
use Rattle.abi_index.proofs.add_run.with_run.Goals.{then-first-size+in_ok-push-2, else-first-size}

pub returns-clause-maximal : goal.returns-clause-maximal
returns-clause-maximal c =
    let whole = c.in_ok-push-3.ensures.items ∙ none_left _ _ _ _ _ c.loop-i-test.false ∙ c.loop-i.invariant.3 in
    subst (λ runs. AreMaximalRuns 0 runs) (sym whole) (maximal_added _ _ 0 _ c.requires.some c.ranges.to.fits (omega arith) c.requires.maximal)

pub returns-clause-bytes : goal.returns-clause-bytes
returns-clause-bytes c k =
    let whole = c.in_ok-push-3.ensures.items ∙ none_left _ _ _ _ _ c.loop-i-test.false ∙ c.loop-i.invariant.3 in
    subst (λ runs. is_in_ranges runs k ≡ (is_in_run k (c.args.from, c.args.to - c.args.from) || is_in_ranges c.args.runs.now k)) (sym whole)
    (bytes_added _ _ _ k c.requires.some)

pub returns-then-end-first-clause-maximal : goal.returns-then-end-first-clause-maximal
returns-then-end-first-clause-maximal c =
    let whole = c.in_ok-extend_from_slice.ensures.items
    ∙ ap (λ xs. xs ++ take (length c.args.runs.now - c.loop-i.i) (drop c.loop-i.i c.args.runs.now)) c.in_ok-push.ensures.items
    ∙ rest_left _ _ _ _ _ (0, 0) c.loop-i-test.true c.if-end-first.true ∙ c.loop-i.invariant.3 in
    subst (λ runs. AreMaximalRuns 0 runs) (sym whole) (maximal_added _ _ 0 _ c.requires.some c.ranges.to.fits (omega arith) c.requires.maximal)

pub returns-then-end-first-clause-bytes : goal.returns-then-end-first-clause-bytes
returns-then-end-first-clause-bytes c k =
    let whole = c.in_ok-extend_from_slice.ensures.items
    ∙ ap (λ xs. xs ++ take (length c.args.runs.now - c.loop-i.i) (drop c.loop-i.i c.args.runs.now)) c.in_ok-push.ensures.items
    ∙ rest_left _ _ _ _ _ (0, 0) c.loop-i-test.true c.if-end-first.true ∙ c.loop-i.invariant.3 in
    subst (λ runs. is_in_ranges runs k ≡ (is_in_run k (c.args.from, c.args.to - c.args.from) || is_in_ranges c.args.runs.now k)) (sym whole)
    (bytes_added _ _ _ k c.requires.some)

pub loop-i-preserved : goal.loop-i-preserved
loop-i-preserved c =
    let kept = c.loop-i.invariant in
    let within = c.loop-i-test.true in
    elim c.if-first-size.branch [
      | then-first-size+in_ok-push-2 w ↦ (
        rw (w.start-is, w.end-is) kept.0,
        rw w.end-is kept.1,
        maximal_rest _ _ (0, 0) within kept.2,
        rw (w.start-is, w.end-is, w.made-is, w.in_ok-push-2.ensures.items)
            (sym (step_after _ _ _ _ _ (0, 0) within c.if-end-first.false w.if-first-size.true) ∙ kept.3),
      )
      | else-first-size w ↦ (
        omega (arith, w.start-is, w.end-is, w.min-start.ensures, w.max-end.ensures, kept.0),
        omega (arith, w.end-is, w.max-end.ensures, kept.1, first_fits _ _ (0, 0) within kept.2),
        maximal_rest _ _ (0, 0) within kept.2,
        rw (w.start-is, w.end-is, w.made-is, w.min-start.ensures, w.max-end.ensures)
            (sym (step_joins _ _ _ _ _ (0, 0) within c.if-end-first.false w.if-first-size.false) ∙ kept.3),
      )
    ]
