use Rattle.std.proofs.Common.{true, false, arith, refl, sym, ◌∙◌}
use Rattle.abi_calc.proofs.AtIndex.{found_there, still_below, still_within}
use Rattle.abi_calc.proofs.EnumLemmas.Niche.{untagged_end, untagged_start, untagged_step}
use Rattle.abi_calc.proofs.enums.niche.untagged_of.Goals as goal
use Rattle.abi_calc.proofs.enums.niche.untagged_of.Goals.{then-reaches, else-reaches}

pub loop-index-init : goal.loop-index-init
loop-index-init g c = record { before = omega arith; greatest = untagged_start c.args.lists.now }

pub loop-index-preserved : goal.loop-index-preserved
loop-index-preserved g c = elim c.if-reaches.branch [
  | then-reaches w ↦
      record {
        before = omega (arith, w.untagged-is);
        greatest = untagged_step c.args.lists.now c.loop-index.index c.loop-index.untagged c.at.result c.at-in-loop-index.result true c.if-reaches.untagged (still_below _ _ _ _ refl c.len-index-end.ensures c.loop-index-test.true)
            c.loop-index.invariant.before (found_there c.args.lists.now c.loop-index.index c.at.result c.at.ensures) (found_there c.args.lists.now c.loop-index.untagged c.at-in-loop-index.result c.at-in-loop-index.ensures) c.loop-index.invariant.greatest (sym c.reaches.ensures ∙ w.if-reaches.true) w.untagged-is;
      }
  | else-reaches w ↦
      record {
        before = omega (arith, w.untagged-is, c.loop-index.invariant.before);
        greatest = untagged_step c.args.lists.now c.loop-index.index c.loop-index.untagged c.at.result c.at-in-loop-index.result false c.if-reaches.untagged (still_below _ _ _ _ refl c.len-index-end.ensures c.loop-index-test.true)
            c.loop-index.invariant.before (found_there c.args.lists.now c.loop-index.index c.at.result c.at.ensures) (found_there c.args.lists.now c.loop-index.untagged c.at-in-loop-index.result c.at-in-loop-index.ensures) c.loop-index.invariant.greatest (sym c.reaches.ensures ∙ w.if-reaches.false) w.untagged-is;
      }
]

pub returns : goal.returns
returns g c = untagged_end c.args.lists.now c.loop-index.index c.loop-index.untagged (still_within _ _ _ _ c.len-index-end.ensures refl c.loop-index-test.false) c.loop-index.invariant.greatest
