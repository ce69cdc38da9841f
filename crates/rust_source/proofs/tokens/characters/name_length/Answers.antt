-- The next character ends the name, or is added to it.
use Rattle.std.proofs.Common.{sym, ◌∙◌, rules, arith}
use Rattle.std.proofs.lemmas.Grind.{common_steps}
use Rattle.rust_source.proofs.Steps.{name_by, name_ends, name_goes_on}
use Rattle.rust_source.proofs.tokens.characters.name_length.Goals as goal

pub returns-then-more-eq0-clause-same : goal.returns-then-more-eq0-clause-same
returns-then-more-eq0-clause-same c =
    name_by c.args.rest.now c.name_start-length.result c.loop-byte.length c.name_start-length.ensures.same (search rules)
    (sym (name_ends c.args.rest.now c.bytes_after.result.now c.loop-byte._byte-index c.loop-byte.length (search rules) c.bytes_after.ensures c.name_more-more.result c.name_more-more.ensures.same (search rules)) ∙ c.loop-byte.invariant.same)

pub loop-byte-preserved : goal.loop-byte-preserved
loop-byte-preserved c = record {
  same = sym (name_goes_on c.args.rest.now c.bytes_after.result.now c.loop-byte._byte-index c.loop-byte.length (search rules) c.bytes_after.ensures c.name_more-more.result c.name_more-more.ensures.same (search rules)) ∙ c.loop-byte.invariant.same;
  within = grind (arith, common_steps);
}
