-- What was there stays in front, and the next item is read.
use Rattle.std.proofs.Common.{rules}
use Rattle.rust_source.specs.Items.{items_as_read}
use Rattle.rust_source.specs.Names.{texts}
use Rattle.rust_source.proofs.Growth.{keeps_more}
use Rattle.rust_source.proofs.ModuleTurns.{own_more}
use Rattle.rust_source.proofs.reader.constants.read_own_items.Goals as goal

pub loop-turn-preserved : goal.loop-turn-preserved
loop-turn-preserved c =
    let e = own_more c.saturating_sub-turns.result c.loop-turn.turn c.args.rules.now c.args.block.«module» c.args.block.owner c.loop-turn.inside (texts c.loop-turn.names, items_as_read c.loop-turn.items) c.loop-turn-test.true in
    record {
      kept = keeps_more _ _ _ c.loop-turn.invariant.kept c.read_own_item.ensures.kept;
      same = search (rules, e);
    }
