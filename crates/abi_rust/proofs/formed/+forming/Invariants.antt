use Rattle.std.proofs.Common.{◌≡◌, drop, map}
use Rattle.abi_rust.specs.Formed.{all_formed, all_given_formed}
use Rattle.abi_rust.specs.Types.{given_of, givens, ty_of, types}
use Rattle.abi_rust.proofs.formed.+forming.Given as goal

-- all are formed where those that are left are
abbrev pub invariant-all_formed-loop-part : goal.invariant-all_formed-loop-part
invariant-all_formed-loop-part l = all_formed l.cx (types (map ty_of (drop l.part-index l.parts))) ≡ all_formed l.cx (types (map ty_of l.parts))

abbrev pub invariant-all_given_formed-loop-one : goal.invariant-all_given_formed-loop-one
invariant-all_given_formed-loop-one l =
    all_given_formed l.cx (givens (map given_of (drop l.one-index l.given))) ≡ all_given_formed l.cx (givens (map given_of l.given))
