-- Each of these goes through types within less room, or within the same room through what stands lower.
use Rattle.std.proofs.Common.{◌≡◌, ◌+◌, ◌*◌, drop, false}
use Rattle.abi_rust.specs.Types.{where_of}
use Rattle.abi_rust.specs.WrittenNames.{argument_named, each_checked, segment_named, type_named, types_named}
use Rattle.abi_rust.proofs.written_names.+naming.Given as goal

abbrev pub decreases-check_type : goal.decreases-check_type
decreases-check_type l = 8 * l.depth_left

abbrev pub decreases-check_argument : goal.decreases-check_argument
decreases-check_argument l = 8 * l.depth_left + 1

abbrev pub decreases-check_types : goal.decreases-check_types
decreases-check_types l = 8 * l.depth_left + 1

abbrev pub decreases-check_arguments : goal.decreases-check_arguments
decreases-check_arguments l = 8 * l.depth_left + 2

abbrev pub decreases-check_segments : goal.decreases-check_segments
decreases-check_segments l = 8 * l.depth_left + 3

abbrev pub decreases-check_whole_path : goal.decreases-check_whole_path
decreases-check_whole_path l = 8 * l.depth_left + 4

abbrev pub decreases-check_type_with : goal.decreases-check_type_with
decreases-check_type_with l = 8 * l.depth_left + 5

-- what all come to is what those that are left come to
abbrev pub invariant-check_types-loop-one : goal.invariant-check_types-loop-one
invariant-check_types-loop-one l =
    each_checked (type_named l.cx (where_of l.env) l.depth_left false) (drop l.one-index l.all) ≡ types_named l.cx (where_of l.env) l.depth_left l.all

abbrev pub invariant-check_segments-loop-segment : goal.invariant-check_segments-loop-segment
invariant-check_segments-loop-segment l =
    each_checked (segment_named l.cx (where_of l.env) (type_named l.cx (where_of l.env) l.depth_left)) (drop l.segment-index l.segments)
    ≡ each_checked (segment_named l.cx (where_of l.env) (type_named l.cx (where_of l.env) l.depth_left)) l.segments

abbrev pub invariant-check_arguments-loop-argument : goal.invariant-check_arguments-loop-argument
invariant-check_arguments-loop-argument l =
    each_checked (argument_named l.cx (where_of l.env) (type_named l.cx (where_of l.env) l.depth_left)) (drop l.argument-index l.arguments)
    ≡ each_checked (argument_named l.cx (where_of l.env) (type_named l.cx (where_of l.env) l.depth_left)) l.arguments
