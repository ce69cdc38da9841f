use Rattle.std.proofs.Common.{◌≡◌, drop}
use Rattle.abi_rust.specs.Known.{known_at}
use Rattle.abi_rust.specs.Types.{where_of}
use Rattle.abi_rust.proofs.budget.size_at.Given as goal

-- none before is the one that is looked for
abbrev pub invariant-loop-one : goal.invariant-loop-one
invariant-loop-one l =
    known_at (drop l.one-index l.known) l.at (where_of l.env) l.ty ≡ known_at l.known l.at (where_of l.env) l.ty
