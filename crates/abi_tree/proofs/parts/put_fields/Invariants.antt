use Rattle.std.proofs.Common.{List}
use Rattle.abi_tree.specs.Needed.{ArePartsMade}
use Rattle.abi_tree.specs.Placed.{Placed}
use Rattle.abi_tree.proofs.Places.PartsLemmas.{FieldsArePut}
use Rattle.abi_tree.proofs.parts.put_fields.Given as goal

abbrev pub invariant-loop-i : goal.invariant-loop-i
invariant-loop-i l =
    (types : List Placed) → ArePartsMade types l.sets.done.now l.layout.size l.offsets l.children → FieldsArePut types l.variant l.offsets l.children l.fn.parts.items l.parts.items l.i
