use Rattle.std.proofs.Common.{subst}
use Rattle.abi_map.specs.Numbers.{AddsBelow}
use Rattle.abi_tree.specs.Parts.{kept_part}
use Rattle.abi_map.specs.Starts.{changes}
use Rattle.abi_map.proofs.StartLemmas.{starts_more}
use Rattle.abi_map.proofs.starts.start_set.Goals as goal

pub loop-part-preserved : goal.loop-part-preserved
loop-part-preserved c =
    starts_more c.args.size c.args.parts.now c.loop-part.part-index c.part-item.result c.loop-part.runs c.put_changes.new.runs c.loop-part-test.true c.loop-part.invariant
    (subst (λ p. AddsBelow c.args.size c.loop-part.runs c.put_changes.new.runs (changes (kept_part p))) c.part-item.is c.in_ok-put_changes.ensures)
