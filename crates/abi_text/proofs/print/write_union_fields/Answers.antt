use Rattle.std.proofs.Common.{◌∙◌, ◌<◌, rules}
use Rattle.abi_text.proofs.Fields.{line_written}
use Rattle.abi_text.proofs.print.write_union_fields.Goals as goal

pub loop-index-preserved : goal.loop-index-preserved
loop-index-preserved c =
    let more : c.loop-index.index < c.args.count = search rules in
    line_written _ _ c.args.count c.loop-index.index more c.in_ok-write_two_numbered.ensures ∙ c.loop-index.invariant
