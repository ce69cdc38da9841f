-- The states before have their lists, with no more fields than the index type can name.
use Rattle.std.proofs.Common.{◌+◌, ◌≤◌, length, map, take}
use Rattle.std.specs.Prelude.{All}
use Rattle.abi_calc.specs.Coroutine.Lists.{default_repr}
use Rattle.abi_calc.specs.Coroutine.Sizes.{own_lists}
use Rattle.abi_calc.specs.Enums.Lists.{AreGoodLists}
use Rattle.abi_calc.proofs.calculator.LayoutCalculator.lists_of_own.Given as goal

abbrev pub invariant-loop-state : goal.invariant-loop-state
invariant-loop-state g l = record {
  good : AreGoodLists g.F.LayoutHandle.layout_of g.FieldIdx.Idx.at (g.VariantIdx.Idx.at 0) (g.Cx.HasDataLayout.target l.self.cx) default_repr l.kind
      (own_lists l.locals l.promoted (map (map g.LocalIdx.Idx.number) (take l.state-index l.states))) l.lists;
  within : All (λ own. length own ≤ g.FieldIdx.Idx.MAX_INDEX + 1) (own_lists l.locals l.promoted (map (map g.LocalIdx.Idx.number) (take l.state-index l.states)));
}
