-- A group within another is read one level deeper, what was there stays in front, and what is read goes on to the whole.
use Rattle.std.proofs.Common.{◌≡◌, ◌+◌, ◌-◌, ◌*◌, map}
use Rattle.rust_source.specs.Growth.{BeginsWith}
use Rattle.rust_source.specs.Items.{use_of}
use Rattle.rust_source.specs.Names.{texts}
use Rattle.rust_source.specs.Uses.{group_from, group_read, tree_read}
use Rattle.rust_source.proofs.reader.uses.+uses.Given as goal

abbrev pub decreases-read_tree : goal.decreases-read_tree
decreases-read_tree l = 4 * l.context.depth_left

abbrev pub decreases-read_group : goal.decreases-read_group
decreases-read_group l = 4 * l.context.depth_left + 1

abbrev pub decreases-read_glob_or_group : goal.decreases-read_glob_or_group
decreases-read_glob_or_group l = 4 * l.context.depth_left + 2

abbrev pub decreases-read_one_tree : goal.decreases-read_one_tree
decreases-read_one_tree l = 4 * l.context.depth_left + 3

abbrev pub invariant-read_group-loop-turn : goal.invariant-read_group-loop-turn
invariant-read_group-loop-turn l = record {
  kept : BeginsWith l.uses.items l.initial.uses.items;
  same : group_from (tree_read l.context.depth_left) (l.turns - l.turn) l.context.place l.path l.inside (texts l.names, map use_of l.uses.items)
      ≡ group_read (tree_read l.context.depth_left) l.context.place l.path l.fn.inside (texts l.fn.names, map use_of l.fn.uses.items);
}
