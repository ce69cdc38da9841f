use Rattle.std.proofs.Common.{◌≡◌, drop}
use Rattle.abi_rust.specs.Imports.{repeated_from, repeated_import}
use Rattle.abi_rust.proofs.imports.repeated_import.Given as goal

-- none before has a fault
abbrev pub invariant-loop-number : goal.invariant-loop-number
invariant-loop-number l = repeated_from l.items l.scope l.number (drop l.number l.items.uses.items) ≡ repeated_import l.items l.scope
