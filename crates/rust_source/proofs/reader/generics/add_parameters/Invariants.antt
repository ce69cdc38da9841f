-- The parameters so far.
use Rattle.std.proofs.Common.{◌≡◌, ◌-◌, map}
use Rattle.rust_source.specs.Generics.{parameters_from, parameters_in}
use Rattle.rust_source.specs.Items.{parameter_of}
use Rattle.rust_source.specs.Names.{texts}
use Rattle.rust_source.proofs.reader.generics.add_parameters.Given as goal

abbrev pub invariant-loop-turn : goal.invariant-loop-turn
invariant-loop-turn l =
    parameters_from (l.turns - l.turn) (map parameter_of l.all.items) l.cursor (texts l.names)
    ≡ parameters_in (map parameter_of l.fn.all.items) l.fn.cursor (texts l.fn.names)
