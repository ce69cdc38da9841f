-- Each of these resolves within less room, or within the same room what stands lower.
use Rattle.std.proofs.Common.{◌≡◌, ◌+◌, ◌*◌, drop, [], map}
use Rattle.rust_source.specs.declared.syntax.Segment.{out-Segment}
use Rattle.abi_rust.specs.Resolving.{give_from, inner, tuple_from}
use Rattle.abi_rust.specs.Types.{all_given, ty_of, where_of}
use Rattle.abi_rust.proofs.resolve.+resolving.Given as goal

abbrev pub decreases-resolve : goal.decreases-resolve
decreases-resolve l = 8 * l.env.depth_left

abbrev pub decreases-resolve_item : goal.decreases-resolve_item
decreases-resolve_item l = 8 * l.env.depth_left

abbrev pub decreases-type_given_by : goal.decreases-type_given_by
decreases-type_given_by l = 8 * l.env.depth_left + 1

abbrev pub decreases-given_by_default : goal.decreases-given_by_default
decreases-given_by_default l = 8 * l.inside.depth_left + 1

abbrev pub decreases-item_under : goal.decreases-item_under
decreases-item_under l = 8 * l.depth_left + 1

abbrev pub decreases-resolve_tuple : goal.decreases-resolve_tuple
decreases-resolve_tuple l = 8 * l.env.depth_left + 1

abbrev pub decreases-give_one : goal.decreases-give_one
decreases-give_one l = 8 * l.env.depth_left + 2

abbrev pub decreases-give : goal.decreases-give
decreases-give l = 8 * l.env.depth_left + 3

abbrev pub decreases-instantiate : goal.decreases-instantiate
decreases-instantiate l = 8 * l.env.depth_left + 4

abbrev pub decreases-resolve_named : goal.decreases-resolve_named
decreases-resolve_named l = 8 * l.env.depth_left + 1

abbrev pub decreases-resolve_path : goal.decreases-resolve_path
decreases-resolve_path l = 8 * l.env.depth_left + 2

abbrev pub decreases-resolve_kind : goal.decreases-resolve_kind
decreases-resolve_kind l = 8 * l.env.depth_left + 3

-- the types that are left, behind those that are made, make the tuple that all make
abbrev pub invariant-resolve_tuple-loop-part : goal.invariant-resolve_tuple-loop-part
invariant-resolve_tuple-loop-part l =
    tuple_from l.cx (inner l.cx l.env.depth_left) (where_of l.env) (map ty_of l.resolved.items) (drop l.part-index l.parts)
    ≡ tuple_from l.cx (inner l.cx l.env.depth_left) (where_of l.env) [] l.parts

-- the parameters that are left are given the same behind those that are given so much
abbrev pub invariant-give-loop-index : goal.invariant-give-loop-index
invariant-give-loop-index l =
    give_from l.cx (inner l.cx l.env.depth_left) (where_of l.env) l.named.number l.named.item.now l.named.last.now (all_given l.given.items) (drop l.index l.named.item.now.parameters.items) (drop l.index (out-Segment l.named.last.now).arguments.items)
    ≡ give_from l.cx (inner l.cx l.env.depth_left) (where_of l.env) l.named.number l.named.item.now l.named.last.now [] l.named.item.now.parameters.items (out-Segment l.named.last.now).arguments.items
