use Rattle.std.proofs.Common.{◌≡◌, drop, map}
use Rattle.abi_rust.specs.Formed.{sizes_given}
use Rattle.abi_rust.specs.Types.{given_of, givens}
use Rattle.abi_rust.proofs.formed.sizes_given.Given as goal

-- all are given sizes where those that are left are
abbrev pub invariant-loop-index : goal.invariant-loop-index
invariant-loop-index l =
    sizes_given l.cx (drop l.index l.parameters) (givens (map given_of (drop l.index l.given))) ≡ sizes_given l.cx l.parameters (givens (map given_of l.given))
