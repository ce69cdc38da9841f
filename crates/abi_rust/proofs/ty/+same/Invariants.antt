use Rattle.std.proofs.Common.{◌≡◌, drop, map}
use Rattle.abi_rust.specs.Known.{same_givens, same_tys}
use Rattle.abi_rust.specs.Types.{given_of, givens, ty_of, types}
use Rattle.abi_rust.proofs.ty.+same.Given as goal

-- the lists are the same where what is left of them is
abbrev pub invariant-same_givens-loop-index : goal.invariant-same_givens-loop-index
invariant-same_givens-loop-index l =
    same_givens (givens (map given_of (drop l.index l.a))) (givens (map given_of (drop l.index l.b)))
    ≡ same_givens (givens (map given_of l.a)) (givens (map given_of l.b))

abbrev pub invariant-same_tys-loop-index : goal.invariant-same_tys-loop-index
invariant-same_tys-loop-index l =
    same_tys (types (map ty_of (drop l.index l.a))) (types (map ty_of (drop l.index l.b)))
    ≡ same_tys (types (map ty_of l.a)) (types (map ty_of l.b))
