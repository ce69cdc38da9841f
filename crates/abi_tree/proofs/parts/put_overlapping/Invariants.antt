use Rattle.std.proofs.Common.{◌<◌, ℕ, List, None, get_or, length, map}
use Rattle.abi_tree.specs.Needed.{IsPartMade}
use Rattle.abi_tree.specs.Nodes.{placed_in}
use Rattle.abi_tree.specs.Placed.{Placed}
use Rattle.abi_tree.proofs.Places.PartsLemmas.{FieldsArePut}
use Rattle.abi_tree.proofs.parts.put_overlapping.Given as goal

abbrev pub invariant-loop-i : goal.invariant-loop-i
invariant-loop-i l =
    (types : List Placed) → ((i : ℕ) → i < length l.children → IsPartMade types l.sets.done.now l.size 0 (get_or l.children i 0)) →
    FieldsArePut types None (map (λ (p : Placed). 0) (map (placed_in types) l.children)) l.children l.fn.parts.items l.parts.items l.i
