-- What was there stays in front, and the next of the group is read.
use Rattle.std.proofs.Common.{map, rules}
use Rattle.rust_source.specs.Items.{use_of}
use Rattle.rust_source.specs.Names.{texts}
use Rattle.rust_source.proofs.Growth.{begins_more}
use Rattle.rust_source.proofs.UseTurns.{group_more}
use Rattle.rust_source.proofs.reader.uses.+uses.Goals as goal

pub read_group-loop-turn-preserved : goal.read_group-loop-turn-preserved
read_group-loop-turn-preserved t c =
    let e = group_more c.saturating_sub-turns.result c.loop-turn.turn c.args.context.depth_left c.args.context.place c.args.path.now c.loop-turn.inside (texts c.loop-turn.names, map use_of c.loop-turn.uses.items) c.loop-turn-test.true in
    record {
      kept = begins_more _ _ _ c.loop-turn.invariant.kept c.read_tree.ensures.kept;
      same = search (rules, e);
    }
