use Rattle.std.proofs.Common.{◌≡◌, drop}
use Rattle.std.specs.List.{find}
use Rattle.abi_types.specs.ExternAbi.{has_name}
use Rattle.abi_types.proofs.extern_abi.text.first_named.Given as goal

abbrev pub invariant-loop-abi : goal.invariant-loop-abi
invariant-loop-abi l = find (has_name l.text) (drop l.abi-index l.abis) ≡ find (has_name l.text) l.abis
