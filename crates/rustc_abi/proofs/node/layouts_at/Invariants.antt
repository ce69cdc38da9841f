use Rattle.std.proofs.Common.{◌≡◌, map, take}
use Rattle.abi_tree.specs.Placed.{layout_of}
use Rattle.abi_tree.specs.Well.{all_at}
use Rattle.rustc_abi.proofs.node.layouts_at.Given as goal

abbrev pub invariant-loop-child : goal.invariant-loop-child
invariant-loop-child l = map (λ lent. lent.now) l.layouts ≡ map layout_of (all_at l.nodes (take l.child-index l.children))
