-- Each of these looks at types within less room, or within the same room at what stands lower.
use Rattle.std.proofs.Common.{◌≡◌, ◌+◌, ◌*◌, drop, map}
use Rattle.abi_rust.specs.CopyTypes.{fields_lack, lacks_copy, parts_lack, variants_lack}
use Rattle.abi_rust.specs.Types.{ty_of, types, where_of}
use Rattle.abi_rust.proofs.copy_types.+copies.Given as goal

abbrev pub decreases-lacks_copy : goal.decreases-lacks_copy
decreases-lacks_copy l = 8 * l.depth_left

abbrev pub decreases-parts_lack : goal.decreases-parts_lack
decreases-parts_lack l = 8 * l.depth_left + 1

abbrev pub decreases-written_lacks : goal.decreases-written_lacks
decreases-written_lacks l = 8 * l.depth_left + 1

abbrev pub decreases-fields_lack : goal.decreases-fields_lack
decreases-fields_lack l = 8 * l.depth_left + 2

abbrev pub decreases-variants_lack : goal.decreases-variants_lack
decreases-variants_lack l = 8 * l.depth_left + 3

abbrev pub decreases-kind_lacks : goal.decreases-kind_lacks
decreases-kind_lacks l = 8 * l.depth_left + 4

abbrev pub decreases-item_lacks : goal.decreases-item_lacks
decreases-item_lacks l = 8 * l.depth_left + 5

abbrev pub decreases-lacks_copy_with : goal.decreases-lacks_copy_with
decreases-lacks_copy_with l = 8 * l.depth_left + 6

-- one of all isn't `Copy` where one of those that are left isn't
abbrev pub invariant-parts_lack-loop-part : goal.invariant-parts_lack-loop-part
invariant-parts_lack-loop-part l =
    parts_lack l.cx (lacks_copy l.cx l.depth_left) (types (map ty_of (drop l.part-index l.parts))) ≡ parts_lack l.cx (lacks_copy l.cx l.depth_left) (types (map ty_of l.parts))

abbrev pub invariant-fields_lack-loop-field : goal.invariant-fields_lack-loop-field
invariant-fields_lack-loop-field l =
    fields_lack l.cx (lacks_copy l.cx l.depth_left) (where_of l.inside) (drop l.field-index l.fields)
    ≡ fields_lack l.cx (lacks_copy l.cx l.depth_left) (where_of l.inside) l.fields

abbrev pub invariant-variants_lack-loop-variant : goal.invariant-variants_lack-loop-variant
invariant-variants_lack-loop-variant l =
    variants_lack l.cx (lacks_copy l.cx l.depth_left) (where_of l.inside) (drop l.variant-index l.variants)
    ≡ variants_lack l.cx (lacks_copy l.cx l.depth_left) (where_of l.inside) l.variants
