use Rattle.std.proofs.Common.{◌∙◌, ap, arith}
use Rattle.std.proofs.lemmas.List.{take_all}
use Rattle.abi_index.specs.RangeSet.{is_in_ranges}
use Rattle.abi_index.proofs.UncutLemmas.{run_fits}
use Rattle.abi_map.proofs.CoverLemmas.{each_once, name_in_each, puts_same}
use Rattle.std.specs.Prelude.{[], ◌∷◌, if◌then◌else◌}
use Rattle.abi_map.proofs.covering.put_part.Goals as goal

pub put_run-requires-clause-fits : goal.put_run-requires-clause-fits
put_run-requires-clause-fits c = run_fits _ _ (0, 0) c.loop-run-test.true c.as_slice-run-items.ensures.maximal

pub returns : goal.returns
returns c =
    let runs = c.as_slice-run-items.result.now in
    let name = c.args.part.now.name in
    puts_same c.args.starts.now c.args.names.now.items c.loop-run.names.items _ _ c.loop-run.invariant
    (λ k. ap (λ rs. name_in_each name rs k) (take_all c.loop-run.run-index runs (omega arith)) ∙ each_once name k 0 runs c.as_slice-run-items.ensures.maximal
    ∙ ap (λ rs. if is_in_ranges rs k then name ∷ [] else []) c.as_slice-run-items.ensures.runs)
