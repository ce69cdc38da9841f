use Rattle.std.proofs.Common.{◌≡◌, take}
use Rattle.abi_tree.proofs.same_layout.are_same_variants.Given as goal

-- Those before are the same.
abbrev pub invariant-loop-i : goal.invariant-loop-i
invariant-loop-i l = take l.i l.a ≡ take l.i l.b
