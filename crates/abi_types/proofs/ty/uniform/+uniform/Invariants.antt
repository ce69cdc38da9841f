-- A walk goes from a type to its fields and variants, and for one type from the first of these functions to the last.
use Rattle.std.proofs.Common.{◌+◌, ◌*◌}
use Rattle.abi_types.specs.Homogeneous.{AllRun, register_of}
use Rattle.abi_types.specs.Uniform.{FieldsRun}
use Rattle.abi_types.proofs.UniformWalkLemmas.{IsLeftListed, IsLeftOfUnion, IsLeftOfVariants, IsSameRun}
use Rattle.abi_types.proofs.ty.uniform.+uniform.Given as goal

abbrev pub decreases-uniform : goal.decreases-uniform
decreases-uniform g l = 5 * g.W.Walk.depth_of l.this + 4

abbrev pub decreases-uniform_parts : goal.decreases-uniform_parts
decreases-uniform_parts g l = 5 * g.W.Walk.depth_of l.this + 3

abbrev pub decreases-run_all : goal.decreases-run_all
decreases-run_all g l = 5 * g.W.Walk.depth_of l.this + 2

abbrev pub decreases-run_fields : goal.decreases-run_fields
decreases-run_fields g l = 5 * g.W.Walk.depth_of l.this + 1

abbrev pub decreases-run_listed : goal.decreases-run_listed
decreases-run_listed g l = 5 * g.W.Walk.depth_of l.this

abbrev pub decreases-run_union : goal.decreases-run_union
decreases-run_union g l = 5 * g.W.Walk.depth_of l.this

abbrev pub invariant-run_listed-loop-i : goal.invariant-run_listed-loop-i
invariant-run_listed-loop-i g l = IsSameRun (FieldsRun (g.W.Walk.typed_of l.fn.this) l.start) (IsLeftListed (g.W.Walk.typed_of l.fn.this) l.i (register_of l.found) l.end)

abbrev pub invariant-run_union-loop-i : goal.invariant-run_union-loop-i
invariant-run_union-loop-i g l = IsSameRun (FieldsRun (g.W.Walk.typed_of l.this) l.start) (IsLeftOfUnion (g.W.Walk.typed_of l.this) l.i (register_of l.found) l.end)

abbrev pub invariant-run_all-loop-v : goal.invariant-run_all-loop-v
invariant-run_all-loop-v g l = IsSameRun (AllRun (g.W.Walk.typed_of l.this)) (IsLeftOfVariants (g.W.Walk.typed_of l.this) l.shared_end l.v (register_of l.found) l.end)
