-- What all come to is what those that are left come to.
use Rattle.std.proofs.Common.{◌≡◌, drop, false}
use Rattle.abi_rust.specs.Resolving.{most_deep}
use Rattle.abi_rust.specs.Types.{where_of}
use Rattle.abi_rust.specs.WrittenNames.{each_checked, parameter_kind_named, parameters_named, type_named}
use Rattle.abi_rust.proofs.written_names.check_parameters.Given as goal

abbrev pub invariant-loop-parameter : goal.invariant-loop-parameter
invariant-loop-parameter l =
    each_checked (λ p. parameter_kind_named l.cx (where_of l.env) (type_named l.cx (where_of l.env) most_deep false) p.kind) (drop l.parameter-index l.parameters)
    ≡ parameters_named l.cx (where_of l.env) (type_named l.cx (where_of l.env) most_deep false) l.parameters
