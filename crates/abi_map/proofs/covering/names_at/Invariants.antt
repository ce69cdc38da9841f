use Rattle.std.proofs.Common.{map, take}
use Rattle.abi_map.specs.Covering.{HaveNames}
use Rattle.abi_tree.specs.Parts.{kept_part}
use Rattle.abi_map.proofs.covering.names_at.Given as goal

abbrev pub invariant-loop-part : goal.invariant-loop-part
invariant-loop-part l = HaveNames (map kept_part (take l.part-index l.parts)) l.starts l.names.items
