use Rattle.std.proofs.Common.{◌≡◌, ◌+◌, ◌-◌, ◌*◌, ◌<◌, length, arith, ap, sym, All}
use Rattle.std.specs.Prelude.{◌^◌}
use Rattle.std.proofs.lemmas.Grind.{common_steps}
use Rattle.std.proofs.lemmas.Result.{on_ok_weaker}
use Rattle.abi_index.specs.RangeSet.{is_in_ranges}
use Rattle.abi_index.proofs.RunsLemmas.{extends_twice}
use Rattle.abi_index.proofs.RepeatedLemmas.{adds_part, adds_whole, covers-beyond, first_covers}
use Rattle.abi_index.proofs.range_set_builder.RangeSetBuilder.add_repeated.Goals as goal

pub add_range-requires : goal.add_range-requires
add_range-requires c =
    let some_runs : 0 < length c.as_slice-runs.result.now = grind (arith, common_steps) in
    let some_parts : c.args.count ≡ c.args.count - 1 + 1 = omega (arith, c.if-count-eq0.false) in
    let whole : c.args.stride * c.args.count ≡ c.args.stride * (c.args.count - 1 + 1) = ap (λ n. c.args.stride * n) some_parts in
    let fits : All (λ run. c.args.offset + c.args.stride * (c.args.count - 1) + (run.0 + run.1) < 2 ^ 64) c.as_slice-runs.result.now = rw c.as_slice-runs.ensures.runs c.requires.fits in
    omega (arith, whole, fits 0 (0, 0) some_runs, c.if-runs-eq0.true, c.if-runs-stride.true)

pub returns-then-runs-stride-clause-bytes : goal.returns-then-runs-stride-clause-bytes
returns-then-runs-stride-clause-bytes c =
    let some_runs : 0 < length c.as_slice-runs.result.now = grind (arith, common_steps) in
    on_ok_weaker c.add_range.result
    (λ put. adds_whole c.args.self.now c.add_range.new.self c.args.offset c.args.stride c.args.count (is_in_ranges c.args.set.now) c.requires.some
    (rw (sym c.as_slice-runs.ensures.runs) (first_covers c.as_slice-runs.result.now c.args.stride some_runs (0, 0) c.if-runs-eq0.true c.if-runs-stride.true)) put)
    c.add_range.ensures.bytes

pub loop-i-preserved : goal.loop-i-preserved
loop-i-preserved c = record {
  bytes = adds_part c.args.self.now c.loop-i.self c.add_set.new.self c.args.offset c.args.stride c.loop-i.i (is_in_ranges c.args.set.now) c.requires.some
      (λ j le. covers-beyond c.args.stride c.args.set.now j c.requires.inside le) c.loop-i.invariant.bytes c.in_ok-add_set.ensures.bytes;
  kept = extends_twice c.args.self.now c.loop-i.self c.add_set.new.self c.loop-i.invariant.kept c.in_ok-add_set.ensures.kept;
}
