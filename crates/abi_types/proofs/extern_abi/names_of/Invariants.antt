use Rattle.std.proofs.Common.{◌≡◌, map, take}
use Rattle.abi_types.specs.ExternAbi.{abi_name}
use Rattle.abi_types.proofs.extern_abi.names_of.Given as goal

abbrev pub invariant-loop-abi : goal.invariant-loop-abi
invariant-loop-abi l = map (λ name. name.now) l.names.items ≡ map abi_name (take l.abi-index l.abis)
