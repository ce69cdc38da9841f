use Rattle.std.proofs.Common.{ℕ, List, arith, sym, ap, ◌∙◌}
use Rattle.std.proofs.lemmas.List.{drop_all}
use Rattle.abi_index.specs.RangeSet.{is_in_ranges}
use Rattle.abi_tree.proofs.Deciding.CoverLemmas.{in_this_run, past_this_run}
use Rattle.abi_tree.proofs.value.decide.has_byte.Goals as goal

pub loop-run-preserved : goal.loop-run-preserved
loop-run-preserved c =
    let runs : List (ℕ × ℕ) = c.as_slice-runs.result.now in
    let i : ℕ = c.loop-run.run-index in
    c.loop-run.invariant
    ∙ past_this_run runs i (0, 0) c.args.k c.loop-run-test.true (sym c.is_in_run.ensures ∙ c.if-is_in_run.false)

pub returns-then-is_in_run : goal.returns-then-is_in_run
returns-then-is_in_run c =
    let runs : List (ℕ × ℕ) = c.as_slice-runs.result.now in
    let i : ℕ = c.loop-run.run-index in
    sym (ap (λ rs. is_in_ranges rs c.args.k) (sym c.as_slice-runs.ensures.runs) ∙ c.loop-run.invariant
    ∙ in_this_run runs i (0, 0) c.args.k c.loop-run-test.true (sym c.is_in_run.ensures ∙ c.if-is_in_run.true))

pub returns : goal.returns
returns c = sym (ap (λ rs. is_in_ranges rs c.args.k) (sym c.as_slice-runs.ensures.runs) ∙ c.loop-run.invariant ∙ ap (λ rs. is_in_ranges rs c.args.k) (drop_all c.loop-run.run-index c.as_slice-runs.result.now (omega arith)))
