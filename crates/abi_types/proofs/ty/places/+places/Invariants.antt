-- A walk goes from a type to its fields and variants, and for one type from the first of these functions to the last.
use Rattle.std.proofs.Common.{◌+◌, ◌*◌}
use Rattle.abi_index.specs.Runs.{Adds, moved_to}
use Rattle.abi_types.specs.Ty.Runs.{first_cover}
use Rattle.abi_types.proofs.PlacesLemmas.{first_variants}
use Rattle.abi_types.proofs.ty.places.+places.Given as goal

abbrev pub decreases-put_elements : goal.decreases-put_elements
decreases-put_elements g l = 6 * g.W.Walk.depth_of l.element + 5

abbrev pub decreases-element_places : goal.decreases-element_places
decreases-element_places g l = 6 * g.W.Walk.depth_of l.element + 4

abbrev pub decreases-places_of : goal.decreases-places_of
decreases-places_of g l = 6 * g.W.Walk.depth_of l.this + 3

abbrev pub decreases-put_places : goal.decreases-put_places
decreases-put_places g l = 6 * g.W.Walk.depth_of l.this + 2

abbrev pub decreases-put_fields : goal.decreases-put_fields
decreases-put_fields g l = 6 * g.W.Walk.depth_of l.this + 1

abbrev pub decreases-put_listed : goal.decreases-put_listed
decreases-put_listed g l = 6 * g.W.Walk.depth_of l.this

abbrev pub decreases-put_variants : goal.decreases-put_variants
decreases-put_variants g l = 6 * g.W.Walk.depth_of l.this

abbrev pub invariant-put_listed-loop-i : goal.invariant-put_listed-loop-i
invariant-put_listed-loop-i g l = Adds l.fn.all l.all (moved_to l.offset (first_cover (g.W.Walk.typed_of l.this) l.i))

abbrev pub invariant-put_variants-loop-v : goal.invariant-put_variants-loop-v
invariant-put_variants-loop-v g l = Adds l.fn.all l.all (moved_to l.offset (first_variants (g.W.Walk.typed_of l.this) l.v))
