-- The states before the index are placed, and they and those that the lists from it on give are all; from the index on variants are
-- still as in their lists.
use Rattle.std.proofs.Common.{◌≡◌, ◌++◌, drop, length, map, take}
use Rattle.abi_scalar.specs.Variant.{variant_of}
use Rattle.abi_calc.specs.Coroutine.States.{state_layouts}
use Rattle.abi_calc.proofs.coroutine.layout.state_layouts.Given as goal

abbrev pub invariant-loop-at : goal.invariant-loop-at
invariant-loop-at g l = record {
  all : take l.at l.variant-items ++ state_layouts g.FieldIdx.Idx.at g.FieldIdx.Idx.number l.fn.before l.fn.saved.promoted.now l.fn.first (map (map g.LocalIdx.Idx.number) (drop l.at l.fn.saved.states.now)) (drop l.at l.fn.lists)
      ≡ state_layouts g.FieldIdx.Idx.at g.FieldIdx.Idx.number l.fn.before l.fn.saved.promoted.now l.fn.first (map (map g.LocalIdx.Idx.number) l.fn.saved.states.now) l.fn.lists;
  left : drop l.at l.variant-items ≡ map variant_of (drop l.at l.fn.lists);
  count : length l.variant-items ≡ length l.fn.lists;
}
