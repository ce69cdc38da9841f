-- The choice with one version more.
use Rattle.std.proofs.Common.{◌+◌, subst, sym, take}
use Rattle.cargo_manifest.proofs.ChoiceLemmas.{IsSoFar, next_at, over}
use Rattle.cargo_manifest.proofs.choice.greatest_match.Goals as goal

pub loop-at-preserved : goal.loop-at-preserved
loop-at-preserved c =
    let cs = c.args.requirement.now.comparators.items in
    let vs = c.args.versions.now in
    let n = c.loop-at.at in
    record {
      far = subst (IsSoFar cs vs (take (n + 1) vs)) (sym c.next_choice-chosen.ensures) (next_at cs vs c.loop-at.chosen n c.loop-at-test.true c.loop-at.invariant.far);
    }

pub returns : goal.returns
returns c =
    over c.args.requirement.now.comparators.items c.args.versions.now c.loop-at.chosen c.loop-at.at c.loop-at-test.false c.loop-at.invariant.far
