use Rattle.std.proofs.Common.{◌≡◌}
use Rattle.abi_types.specs.Ty.Walks.{has_variant_dependent_padding}
use Rattle.abi_types.proofs.VariantPaddingLemmas.{has_from}
use Rattle.abi_types.proofs.ty.variant_padding.+walk_variant_padding.Given as goal

abbrev pub decreases-walk_variant_padding : goal.decreases-walk_variant_padding
decreases-walk_variant_padding g l = g.W.Walk.depth_of l.this

abbrev pub invariant-loop-i : goal.invariant-loop-i
invariant-loop-i g l = has_variant_dependent_padding (g.W.Walk.typed_of l.this) ≡ has_from (g.W.Walk.typed_of l.this) l.i l.i-end
