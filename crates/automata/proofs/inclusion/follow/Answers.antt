use Rattle.std.proofs.Common.{arith}
use Rattle.automata.specs.Nodes.{formulas_in}
use Rattle.automata.proofs.VisitsLemmas.{follows_more}
use Rattle.automata.proofs.inclusion.follow.Goals as goal

pub loop-letter-preserved : goal.loop-letter-preserved
loop-letter-preserved c = (
  c.in_ok-letter.ensures.within,
  follows_more (formulas_in c.args.formulas.now) (formulas_in c.loop-letter.formulas) (formulas_in c.follow_run.new.formulas) c.args.visits.now c.loop-letter.visits c.follow_run.new.visits c.args.at
      c.loop-letter.letter c.in_ok-letter.letter c.requires.there c.loop-letter.invariant.1.grows.visits.there c.loop-letter.invariant.1 c.in_ok-letter.ensures,
)

pub returns : goal.returns
returns c = record { grows = c.loop-letter.invariant.1.grows; followed = λ k d on. c.loop-letter.invariant.1.followed k d (omega (arith, on, c.loop-letter-test.false)) }
