use Rattle.std.proofs.Common.{◌≡◌, List, ℕ, length}
use Rattle.std.specs.Prelude.{nat_lt}
use Rattle.abi_tree.specs.Bytes.{AreBytes, number_of}
use Rattle.abi_tree.specs.Writing.{IsPutOver}
use Rattle.abi_tree.proofs.value.write.put_number.Given as goal

abbrev pub invariant-loop-i : goal.invariant-loop-i
invariant-loop-i l = (b : List ℕ) → AreBytes b → length b ≡ l.width → l.number ≡ number_of l.order b → IsPutOver (λ k. nat_lt k l.i) l.at b l.fn.bytes l.bytes
