use Rattle.std.proofs.Common.{◌≡◌}
use Rattle.abi_types.specs.Ty.Walks.{is_single_vector}
use Rattle.abi_types.proofs.ty.vector.walk_vector.Given as goal

abbrev pub invariant-wrappers : goal.invariant-wrappers
invariant-wrappers g l = record {
  valid : g.W.Walk.is_valid l.at;
  same : is_single_vector l.expected_size (g.W.Walk.typed_of l.at) ≡ is_single_vector l.expected_size (g.W.Walk.typed_of l.fn.this);
}

abbrev pub decreases-wrappers : goal.decreases-wrappers
decreases-wrappers g l = g.W.Walk.depth_of l.at
