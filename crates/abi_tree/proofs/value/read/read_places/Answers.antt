use Rattle.std.proofs.Common.{ℕ, List, ◌++◌, take, arith, sym, ap, ◌∙◌}
use Rattle.std.proofs.lemmas.List.{take_all}
use Rattle.abi_tree.proofs.Bytes.TakenLemmas.{taken, taken_more, taken-picked}
use Rattle.abi_tree.proofs.value.read.read_places.Goals as goal

pub returns-in-None : goal.returns-in-None
returns-in-None c =
    let end = c.requires.inside c.loop-run.run-index (0, 0) c.loop-run-test.true in
    absurd (c.in-None.ensures (omega (arith, end)))

pub loop-run-preserved : goal.loop-run-preserved
loop-run-preserved c =
    let i : ℕ = c.loop-run.run-index in
    let b : List ℕ = c.args.bytes.now in
    c.in_ok-extend_from_slice-in-Some.ensures.items ∙ ap (λ xs. xs ++ c.in-Some.part.now) c.loop-run.invariant
    ∙ ap (λ part. taken (take i c.args.runs.now) b ++ part) c.in-Some.ensures.1
    ∙ sym (taken_more c.args.runs.now i (0, 0) b c.loop-run-test.true)

pub returns : goal.returns
returns c =
    let b : List ℕ = c.args.bytes.now in
    c.loop-run.invariant ∙ ap (λ rs. taken rs b) (take_all c.loop-run.run-index c.args.runs.now (omega arith))
    ∙ taken-picked c.args.runs.now 0 b c.requires.maximal c.requires.inside
