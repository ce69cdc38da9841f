-- The variants before have their nodes, one each, behind those that were there, and the fields of the others are left.
use Rattle.std.specs.Prelude.{◌≡◌, ◌++◌, length, map, take, false}
use Rattle.std.specs.Vec.Iter.{into_iter_items, into_iter_len}
use Rattle.abi_scalar.specs.Variant.{variants_of}
use Rattle.rustc_abi.specs.Adding.{AreTaggedVariants, AreStillThere, variants_in}
use Rattle.rustc_abi.specs.Count.{HasMore}
use Rattle.rustc_abi.proofs.Enums.TaggedVariantNodesLemmas.{tagged_variants_up_to}
use Rattle.rustc_abi.proofs.lay_enum.add_variants.Given as goal

abbrev pub invariant-loop-fields : goal.invariant-loop-fields
invariant-loop-fields l =
    (l.yielded ++ into_iter_items l.fields-iterator ≡ l.fn.children.items)
    × (into_iter_len l.fields-iterator ≡ length (into_iter_items l.fields-iterator))
    × (length l.variants.items ≡ length l.yielded)
    × AreTaggedVariants l.fn.nodes l.nodes (map (λ v. v.size) (take (length l.variants.items) (variants_of l.layout.variants))) l.variants.items
    (tagged_variants_up_to l.layout l.mark (length l.variants.items) (variants_of l.layout.variants) l.numbers
    (variants_in l.fn.nodes l.fn.children.items))
    × HasMore (length l.variants.items) false l.fn.nodes l.nodes
    × AreStillThere l.fn.nodes l.nodes
