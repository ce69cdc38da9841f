-- What was there stays in front, and the next item is read.
use Rattle.std.proofs.Common.{rules}
use Rattle.rust_source.specs.Items.{items_as_read}
use Rattle.rust_source.specs.Names.{texts}
use Rattle.rust_source.proofs.Growth.{keeps_more}
use Rattle.rust_source.proofs.ModuleTurns.{all_more}
use Rattle.rust_source.proofs.reader.items.+modules.Goals as goal

pub read_all-loop-turn-preserved : goal.read_all-loop-turn-preserved
read_all-loop-turn-preserved t c =
    let e = all_more c.saturating_sub-turns.result c.loop-turn.turn c.args.rules.now c.args.«module».depth_left c.args.«module».number c.loop-turn.cursor (texts c.loop-turn.names, items_as_read c.loop-turn.items) c.loop-turn-test.true in
    record {
      kept = keeps_more _ _ _ c.loop-turn.invariant.kept c.read_or_pass.ensures.kept;
      same = search (rules, e);
    }
