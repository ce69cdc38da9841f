-- The names so far.
use Rattle.std.proofs.Common.{◌≡◌, ◌-◌}
use Rattle.rust_source.specs.Names.{texts}
use Rattle.rust_source.specs.Uses.{path_names_from, names_read}
use Rattle.rust_source.proofs.reader.uses.read_names.Given as goal

abbrev pub invariant-loop-turn : goal.invariant-loop-turn
invariant-loop-turn l =
    path_names_from (l.turns - l.turn) l.path.items l.cursor (texts l.names) ≡ names_read l.fn.path.items l.fn.cursor (texts l.fn.names)
