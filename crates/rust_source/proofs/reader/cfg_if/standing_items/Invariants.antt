-- No branch before holds, and what is left goes on to the whole.
use Rattle.std.proofs.Common.{◌≡◌, ◌-◌}
use Rattle.rust_source.specs.CfgIf.{standing_from, standing_items}
use Rattle.rust_source.specs.Names.{texts}
use Rattle.rust_source.proofs.reader.cfg_if.standing_items.Given as goal

abbrev pub invariant-loop-turn : goal.invariant-loop-turn
invariant-loop-turn l =
    standing_from l.target (l.turns - l.turn) l.ahead (texts l.names, l.unknown.items)
    ≡ standing_items l.target l.branches (texts l.fn.names, l.fn.unknown.items)
