-- Each field before takes no room.
use Rattle.std.proofs.Common.{◌≡◌, map, drop}
use Rattle.std.specs.List.{list_all}
use Rattle.abi_calc.specs.Enums.EnumStrategy.{takes_no_room}
use Rattle.abi_calc.proofs.enums.strategy.all_take_no_room.Given as goal

abbrev pub invariant-loop-field : goal.invariant-loop-field
invariant-loop-field g l =
    list_all takes_no_room (map g.F.LayoutHandle.layout_of (drop l.field-index l.fields)) ≡ list_all takes_no_room (map g.F.LayoutHandle.layout_of l.fields)
