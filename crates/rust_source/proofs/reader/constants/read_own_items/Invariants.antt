-- What was there stays in front, and what is read so far goes on to the whole.
use Rattle.std.proofs.Common.{◌≡◌, ◌-◌}
use Rattle.rust_source.specs.Constants.{own_from, own_items}
use Rattle.rust_source.specs.Growth.{KeepsItems}
use Rattle.rust_source.specs.Items.{items_as_read}
use Rattle.rust_source.specs.Names.{texts}
use Rattle.rust_source.proofs.reader.constants.read_own_items.Given as goal

abbrev pub invariant-loop-turn : goal.invariant-loop-turn
invariant-loop-turn l = record {
  kept : KeepsItems l.initial.items l.items;
  same : own_from l.rules (l.turns - l.turn) l.block.«module» l.block.owner l.inside (texts l.names, items_as_read l.items)
      ≡ own_items l.rules l.block.«module» l.block.owner l.fn.inside (texts l.fn.names, items_as_read l.fn.items);
}
