-- The parameters so far.
use Rattle.std.proofs.Common.{◌≡◌, ◌-◌, map}
use Rattle.rust_source.specs.Functions.{value_parameters, value_parameters_from}
use Rattle.rust_source.specs.Items.{parameter_of}
use Rattle.rust_source.specs.Names.{texts}
use Rattle.rust_source.proofs.reader.functions.read_value_parameters.Given as goal

abbrev pub invariant-loop-turn : goal.invariant-loop-turn
invariant-loop-turn l =
    value_parameters_from (l.turns - l.turn) (map parameter_of l.all.items) l.inside (texts l.names) ≡ value_parameters l.fn.inside (texts l.fn.names)
