-- What is said so far.
use Rattle.std.proofs.Common.{◌≡◌, ◌-◌}
use Rattle.rust_source.specs.Attributes.{attributes_from, attributes_said}
use Rattle.rust_source.specs.Names.{texts}
use Rattle.rust_source.proofs.reader.attributes.read_all_said.Given as goal

abbrev pub invariant-loop-turn : goal.invariant-loop-turn
invariant-loop-turn l =
    attributes_from l.rules (l.turns - l.turn) l.said l.cursor (texts l.names, l.unknown.items)
    ≡ attributes_said l.rules l.fn.cursor (texts l.fn.names, l.fn.unknown.items)
