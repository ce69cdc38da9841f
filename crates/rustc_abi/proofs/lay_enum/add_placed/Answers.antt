use Rattle.std.proofs.Common.{ap, arith, length, refl, sym, ◌∙◌}
use Rattle.abi_scalar.specs.declared.variants.Variants.TheVariants.{Single as OneVariant}
use Rattle.rustc_abi.proofs.Enums.EnumPlacesLemmas.{single_keeps}
use Rattle.rustc_abi.proofs.Enums.TaggedVariantNodesLemmas.{one_before}
use Rattle.rustc_abi.proofs.Sizes.CountLemmas.{both_ok, own_put}
use Rattle.rustc_abi.proofs.lay_enum.add_placed.Goals as goal

pub add-requires-in-Single-clause-laws : goal.add-requires-in-Single-clause-laws
add-requires-in-Single-clause-laws c =
    let there = rw c.in-Single.is at c.requires.variants in
    let places = rw c.in-Single.is at c.requires.places in
    single_keeps c.args.nodes.now c.args.layout c.of-mark.result c.args.variant_nodes.children.items c.as_usize.result c.swap_remove-fields.result c.swap_remove-fields.result
    (c.in-Single.is ∙ ap OneVariant (sym c.as_usize.ensures)) (rw c.as_usize.ensures places) (omega arith) c.swap_remove-fields.ensures.value refl

pub add-requires-in-Single-clause-earlier : goal.add-requires-in-Single-clause-earlier
add-requires-in-Single-clause-earlier c =
    let there = rw c.in-Single.is at c.requires.variants in
    one_before (length c.args.nodes.now) _ c.args.variant_nodes.children.items c.as_usize.result c.swap_remove-fields.result c.swap_remove-fields.result.items
    (omega arith) (omega arith) c.swap_remove-fields.ensures.value refl c.requires.there

pub returns-in-Empty-clause-own : goal.returns-in-Empty-clause-own
returns-in-Empty-clause-own c =
    both_ok c.add.result _ _ _ c.add.ensures.ok c.add.ensures.count (λ i put count. own_put c.args.nodes.now c.args.nodes.now c.add.new.nodes i _ put count)

pub returns-in-Single-clause-own : goal.returns-in-Single-clause-own
returns-in-Single-clause-own c =
    both_ok c.add-in-Single.result _ _ _ c.add-in-Single.ensures.ok c.add-in-Single.ensures.count
    (λ i put count. own_put c.args.nodes.now c.args.nodes.now c.add-in-Single.new.nodes i _ put count)
