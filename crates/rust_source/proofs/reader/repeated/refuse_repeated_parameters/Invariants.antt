-- None of the names so far stands twice.
use Rattle.std.proofs.Common.{◌≡◌, drop, map}
use Rattle.rust_source.specs.Items.{parameter_of}
use Rattle.rust_source.specs.Repeated.{none_again, none_twice, parameter_names}
use Rattle.rust_source.proofs.reader.repeated.refuse_repeated_parameters.Given as goal

abbrev pub invariant-loop-parameter : goal.invariant-loop-parameter
invariant-loop-parameter l =
    none_again l.seen.keys (parameter_names (map parameter_of (drop l.parameter-index l.all))) ≡ none_twice (parameter_names (map parameter_of l.all))
