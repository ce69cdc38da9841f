-- The next space or comment ends the loop, or is added to what has been found.
use Rattle.std.proofs.Common.{sym, ◌∙◌, rules, arith}
use Rattle.std.proofs.lemmas.Grind.{common_steps}
use Rattle.rust_source.specs.Blanks.{blank_length}
use Rattle.rust_source.proofs.Steps.{blank_ends, blank_goes_on, blank_open}
use Rattle.rust_source.proofs.tokens.blank.blank_length.Goals as goal

pub returns-in-Some-eq0-clause-same : goal.returns-in-Some-eq0-clause-same
unfolding blank_length
returns-in-Some-eq0-clause-same c =
    sym (blank_ends c.args.rest.now c.bytes_after.result.now c.loop-byte._byte-index c.loop-byte.length (search rules) c.bytes_after.ensures c.in-Some-eq0.field-0 c.in-Some-eq0.ensures.same (search rules)) ∙ c.loop-byte.invariant.same

pub returns-in-None-clause-same : goal.returns-in-None-clause-same
unfolding blank_length
returns-in-None-clause-same c =
    sym (blank_open c.args.rest.now c.bytes_after.result.now c.loop-byte._byte-index c.loop-byte.length (search rules) c.bytes_after.ensures (search rules)) ∙ c.loop-byte.invariant.same

pub loop-byte-preserved : goal.loop-byte-preserved
loop-byte-preserved c = record {
  same = sym (blank_goes_on c.args.rest.now c.bytes_after.result.now c.loop-byte._byte-index c.loop-byte.length (search rules) c.bytes_after.ensures c.in-Some.more c.in-Some.ensures.same (search rules)) ∙ c.loop-byte.invariant.same;
  within = grind (arith, common_steps);
}
