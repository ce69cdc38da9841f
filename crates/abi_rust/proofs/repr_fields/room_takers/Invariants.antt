use Rattle.std.proofs.Common.{◌≡◌, ◌≤◌, drop, map}
use Rattle.abi_tree.specs.Tree.{tree_of}
use Rattle.abi_rust.specs.Measure.{IsMeasure, Measure, each_meant, room_takers}
use Rattle.abi_rust.proofs.Measures.{counted_on}
use Rattle.abi_rust.proofs.repr_fields.room_takers.Given as goal

-- so many take room, and those that are left
abbrev pub invariant-loop-field : goal.invariant-loop-field
invariant-loop-field l = record {
  counted : l.count ≤ l.field-index;
  same : (m : Measure) → IsMeasure l.cx.dl.now m → counted_on l.count (each_meant m (map tree_of (drop l.field-index l.fields))) ≡ room_takers m (map tree_of l.fields);
}
