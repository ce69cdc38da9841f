-- Each of these looks within less room, or within the same room what stands lower.
use Rattle.std.proofs.Common.{◌≡◌, ◌+◌, ◌*◌, drop}
use Rattle.abi_rust.specs.Aligned.{aligning, any_aligned}
use Rattle.abi_rust.proofs.repr_fields.+aligning.Given as goal

abbrev pub decreases-has_aligned : goal.decreases-has_aligned
decreases-has_aligned l = 2 * l.depth_left

abbrev pub decreases-is_aligned : goal.decreases-is_aligned
decreases-is_aligned l = 2 * l.depth_left

abbrev pub decreases-is_item_aligned : goal.decreases-is_item_aligned
decreases-is_item_aligned l = 2 * l.depth_left

abbrev pub decreases-any_aligned : goal.decreases-any_aligned
decreases-any_aligned l = 2 * l.depth_left + 1

abbrev pub decreases-is_aligned_with : goal.decreases-is_aligned_with
decreases-is_aligned_with l = 2 * l.depth_left + 1

abbrev pub decreases-is_item_aligned_with : goal.decreases-is_item_aligned_with
decreases-is_item_aligned_with l = 2 * l.depth_left + 1

-- one of the fields that are left is aligned where one of all is
abbrev pub invariant-any_aligned-loop-field : goal.invariant-any_aligned-loop-field
invariant-any_aligned-loop-field l =
    any_aligned l.cx (aligning l.cx l.depth_left) l.inside (drop l.field-index l.fields) ≡ any_aligned l.cx (aligning l.cx l.depth_left) l.inside l.fields
