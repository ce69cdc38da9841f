use Rattle.std.proofs.Common.{◌≡◌, drop}
use Rattle.abi_rust.specs.ParameterFree.{is_among}
use Rattle.abi_rust.proofs.parameter_free.is_among.Given as goal

-- none before has the name
abbrev pub invariant-loop-parameter : goal.invariant-loop-parameter
invariant-loop-parameter l = is_among l.is_type l.name.0 (drop l.parameter-index l.parameters) ≡ is_among l.is_type l.name.0 l.parameters
