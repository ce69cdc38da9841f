use Rattle.std.proofs.Common.{◌≡◌, drop, map}
use Rattle.abi_rust.specs.Formed.{sized_but_last}
use Rattle.abi_rust.specs.Types.{ty_of, types}
use Rattle.abi_rust.proofs.formed.sized_but_last.Given as goal

-- all have a size, but the last, where those that are left have
abbrev pub invariant-loop-index : goal.invariant-loop-index
invariant-loop-index l = sized_but_last l.cx (types (map ty_of (drop l.index l.parts))) ≡ sized_but_last l.cx (types (map ty_of l.parts))
