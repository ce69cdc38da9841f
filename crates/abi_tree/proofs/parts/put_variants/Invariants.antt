use Rattle.std.proofs.Common.{All, List}
use Rattle.abi_tree.specs.declared.node.Node.{Node}
use Rattle.abi_tree.specs.Needed.{HaveSets, IsKept}
use Rattle.abi_tree.specs.Nodes.{types_in}
use Rattle.abi_tree.proofs.Places.PartsLemmas.{VariantsArePut}
use Rattle.abi_tree.proofs.parts.put_variants.Given as goal

abbrev pub invariant-loop-v : goal.invariant-loop-v
invariant-loop-v l =
    (ns : List Node) → HaveSets ns l.sets.kept.now l.sets.done.now → All (λ v. IsKept l.sets.kept.now v.1) l.variants → VariantsArePut (types_in ns) l.variants l.fn.parts.items l.parts.items l.v
