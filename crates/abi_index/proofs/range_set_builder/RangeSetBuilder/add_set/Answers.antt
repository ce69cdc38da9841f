use Rattle.std.proofs.Common.{arith, ap, ◌∙◌}
use Rattle.std.specs.Prelude.{◌||◌}
use Rattle.std.proofs.lemmas.List.{take_all}
use Rattle.abi_index.specs.RangeSet.{is_in_ranges}
use Rattle.abi_index.specs.Runs.{moved_to}
use Rattle.abi_index.proofs.RunsLemmas.{adds_next, extends_twice}
use Rattle.abi_index.proofs.range_set_builder.RangeSetBuilder.add_set.Goals as goal

pub loop-run-preserved : goal.loop-run-preserved
loop-run-preserved c = record {
  bytes = adds_next c.args.self.now c.loop-run.self c.add_range.new.self c.args.offset c.as_slice-run-items.result.now c.loop-run.run-index (0, 0) c.loop-run.invariant.bytes c.loop-run-test.true
      c.in_ok-add_range.ensures.bytes;
  kept = extends_twice c.args.self.now c.loop-run.self c.add_range.new.self c.loop-run.invariant.kept c.in_ok-add_range.ensures.kept;
}

pub returns-clause-bytes : goal.returns-clause-bytes
returns-clause-bytes c = λ k.
    let runs = c.as_slice-run-items.result.now in
    c.loop-run.invariant.bytes k
    ∙ ap (λ rs. is_in_ranges c.args.self.now k || moved_to c.args.offset (is_in_ranges rs) k) (take_all c.loop-run.run-index runs (omega arith) ∙ c.as_slice-run-items.ensures.runs)
