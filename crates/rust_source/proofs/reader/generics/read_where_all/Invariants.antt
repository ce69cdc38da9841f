-- What was asked so far.
use Rattle.std.proofs.Common.{◌≡◌, ◌-◌, map}
use Rattle.rust_source.specs.Generics.{where_all, where_from}
use Rattle.rust_source.specs.Items.{parameter_of}
use Rattle.rust_source.specs.Names.{texts}
use Rattle.rust_source.proofs.reader.generics.read_where_all.Given as goal

abbrev pub invariant-loop-turn : goal.invariant-loop-turn
invariant-loop-turn l =
    where_from (l.turns - l.turn) (map parameter_of l.all.items) l.cursor (texts l.names)
    ≡ where_all (map parameter_of l.fn.all.items) l.fn.cursor (texts l.fn.names)
