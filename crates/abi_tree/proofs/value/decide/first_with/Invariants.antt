use Rattle.std.proofs.Common.{◌≡◌, drop}
use Rattle.abi_tree.specs.Deciding.{first_with}
use Rattle.abi_tree.specs.Nodes.{tagged_variants_in, types_in}
use Rattle.abi_tree.proofs.value.decide.first_with.Given as goal

abbrev pub invariant-loop-i : goal.invariant-loop-i
invariant-loop-i l =
    first_with (tagged_variants_in (types_in l.cover.nodes.now) l.variants) l.k 0 l.otherwise
    ≡ first_with (tagged_variants_in (types_in l.cover.nodes.now) (drop l.i l.variants)) l.k l.i l.otherwise
