use Rattle.std.proofs.Common.{◌≡◌, take, map}
use Rattle.abi_rust.specs.Types.{given_of, ty_of}
use Rattle.abi_rust.proofs.budget.+copying.Given as goal

-- so many are copied
abbrev pub invariant-tys_copied-loop-part : goal.invariant-tys_copied-loop-part
invariant-tys_copied-loop-part l = map ty_of l.copies.items ≡ map ty_of (take l.part-index l.parts)

abbrev pub invariant-copies_of-loop-one : goal.invariant-copies_of-loop-one
invariant-copies_of-loop-one l = map given_of l.copies.items ≡ map given_of (take l.one-index l.given)
