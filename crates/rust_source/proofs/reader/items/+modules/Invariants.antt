-- A module within another is read one level deeper, what was there stays in front, and what is read goes on to the whole.
use Rattle.std.proofs.Common.{◌≡◌, ◌+◌, ◌-◌, ◌*◌}
use Rattle.rust_source.specs.Growth.{KeepsItems}
use Rattle.rust_source.specs.Items.{items_as_read}
use Rattle.rust_source.specs.Modules.{all_from, all_read, module_within}
use Rattle.rust_source.specs.Names.{texts}
use Rattle.rust_source.proofs.reader.items.+modules.Given as goal

abbrev pub decreases-read_module_items : goal.decreases-read_module_items
decreases-read_module_items l = 8 * l.«module».depth_left

abbrev pub decreases-read_within : goal.decreases-read_within
decreases-read_within l = 8 * l.named.now.depth_left + 1

abbrev pub decreases-read_named_module : goal.decreases-read_named_module
decreases-read_named_module l = 8 * l.named.now.depth_left + 2

abbrev pub decreases-read_module : goal.decreases-read_module
decreases-read_module l = 8 * l.context.now.depth_left + 3

abbrev pub decreases-read_call : goal.decreases-read_call
decreases-read_call l = 8 * l.context.now.depth_left + 3

abbrev pub decreases-read_in_context : goal.decreases-read_in_context
decreases-read_in_context l = 8 * l.context.now.depth_left + 4

abbrev pub decreases-read_one : goal.decreases-read_one
decreases-read_one l = 8 * l.«module».depth_left + 5

abbrev pub decreases-read_or_pass : goal.decreases-read_or_pass
decreases-read_or_pass l = 8 * l.«module».depth_left + 6

abbrev pub decreases-read_all : goal.decreases-read_all
decreases-read_all l = 8 * l.«module».depth_left + 7

abbrev pub invariant-read_all-loop-turn : goal.invariant-read_all-loop-turn
invariant-read_all-loop-turn l = record {
  kept : KeepsItems l.initial.items l.items;
  same : all_from l.rules (module_within l.rules l.«module».depth_left) (l.turns - l.turn) l.«module».number l.cursor (texts l.names, items_as_read l.items)
      ≡ all_read l.rules (module_within l.rules l.«module».depth_left) l.«module».number l.fn.cursor (texts l.fn.names, items_as_read l.fn.items);
}
