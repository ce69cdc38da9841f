use Rattle.std.proofs.Common.{◌≡◌, drop}
use Rattle.abi_rust.specs.Kinds.{number_from}
use Rattle.abi_rust.proofs.kind.number_named.Given as goal

-- none before has the name
abbrev pub invariant-loop-index : goal.invariant-loop-index
invariant-loop-index l = number_from l.index l.name (drop l.index l.item.parameters.items) ≡ number_from 0 l.name l.item.parameters.items
