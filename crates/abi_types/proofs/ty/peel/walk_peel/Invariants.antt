use Rattle.std.proofs.Common.{◌≡◌}
use Rattle.abi_types.specs.Ty.Walks.{peel}
use Rattle.abi_types.proofs.ty.peel.walk_peel.Given as goal

abbrev pub invariant-wrappers : goal.invariant-wrappers
invariant-wrappers g l = record {
  valid : g.W.Walk.is_valid l.at;
  same : peel (g.W.Walk.typed_of l.at) ≡ peel (g.W.Walk.typed_of l.fn.this);
}

abbrev pub decreases-wrappers : goal.decreases-wrappers
decreases-wrappers g l = g.W.Walk.depth_of l.at
