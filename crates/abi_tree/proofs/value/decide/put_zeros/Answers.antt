use Rattle.std.proofs.Common.{◌≡◌, ℕ, ◌+◌, ◌<◌, length, get_or, true, arith, refl, subst}
use Rattle.std.proofs.lemmas.List.{get_or-set_same, get_or-set_other, length-set}
use Rattle.abi_index.specs.RangeSet.{is_in_ranges}
use Rattle.abi_tree.proofs.Deciding.CoverLemmas.{ZerosBefore, zeros_all, zeros_first, zeros_more, zeros_skip}
use Rattle.abi_tree.proofs.Bytes.PutPlacesLemmas.{left-before, left-free, left-inside, AreLeft-more, left-none}
use Rattle.abi_tree.proofs.value.decide.put_zeros.Goals as goal

pub loop-run-init : goal.loop-run-init
loop-run-init c = (0, record { later = c.requires.maximal; beside = λ k le. refl }, zeros_first (is_in_ranges c.args.runs.now) c.args.at c.args.size c.args.bytes.now)

pub loop-k-init : goal.loop-k-init
loop-k-init c =
    let left = c.loop-run.invariant in
    zeros_skip (is_in_ranges c.args.runs.now) c.args.at c.args.size c.args.bytes.now c.loop-run.bytes left.0 (get_or c.args.runs.now c.loop-run.run-index (0, 0)).0
    (left-before c.args.runs.now c.loop-run.run-index left.0 (0, 0) left.1 c.loop-run-test.true) (left-free c.args.runs.now c.loop-run.run-index left.0 (0, 0) left.1 c.loop-run-test.true) left.2

pub loop-k-preserved : goal.loop-k-preserved
loop-k-preserved c =
    let here = left-inside c.args.runs.now c.loop-run.run-index c.loop-run.invariant.0 (0, 0) c.loop-run.invariant.1 c.loop-run-test.true c.args.size c.loop-k.k
    (c.requires.inside c.loop-run.run-index (0, 0) c.loop-run-test.true) c.loop-k.auto.k c.loop-k-test.true in
    let there : c.args.at + c.loop-k.k < length c.loop-k.bytes = omega (arith, here.1, c.requires.fits, c.loop-k.auto.bytes, c.loop-run.auto.bytes) in
    zeros_more (is_in_ranges c.args.runs.now) c.args.at c.args.size c.args.bytes.now c.loop-k.bytes c.loop-k.k here.0 here.1 c.loop-k.invariant _
    (length-set c.loop-k.bytes (c.args.at + c.loop-k.k) 0) (get_or-set_same c.loop-k.bytes (c.args.at + c.loop-k.k) 0 0 there) (λ j other. get_or-set_other c.loop-k.bytes (c.args.at + c.loop-k.k) j 0 0 other)

pub loop-run-preserved : goal.loop-run-preserved
loop-run-preserved c =
    let run : ℕ × ℕ = get_or c.args.runs.now c.loop-run.run-index (0, 0) in
    let end : c.loop-k.k ≡ run.0 + run.1 = omega (arith, c.loop-k-test.false, c.loop-k.auto.k-end) in
    (run.0 + run.1, AreLeft-more c.args.runs.now c.loop-run.run-index c.loop-run.invariant.0 (0, 0) c.loop-run.invariant.1 c.loop-run-test.true, subst (ZerosBefore (is_in_ranges c.args.runs.now) c.args.at c.args.size c.args.bytes.now c.loop-k.bytes) end c.loop-k.invariant)

pub returns-clause-put : goal.returns-clause-put
returns-clause-put c =
    let left = c.loop-run.invariant in
    zeros_all (is_in_ranges c.args.runs.now) c.args.at c.args.size c.args.bytes.now c.loop-run.bytes left.0
    (left-none c.args.runs.now c.loop-run.run-index left.0 left.1 (omega arith)) left.2
