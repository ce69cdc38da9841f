-- No `let` before has the name.
use Rattle.std.proofs.Common.{◌≡◌, drop, map}
use Rattle.abi_rust.specs.Kinds.{local_named}
use Rattle.abi_rust.specs.Types.{local_read}
use Rattle.abi_rust.proofs.kind.local_named.Given as goal

abbrev pub invariant-loop-local : goal.invariant-loop-local
invariant-loop-local l = local_named (map local_read (drop l.local-index l.locals)) l.name.0 ≡ local_named (map local_read l.locals) l.name.0
