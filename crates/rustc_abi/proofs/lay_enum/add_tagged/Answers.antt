use Rattle.std.proofs.Common.{length, map, arith, subst, false}
use Rattle.std.proofs.lemmas.Result.{IfOk-weaker}
use Rattle.abi_scalar.specs.Variant.{variants_of}
use Rattle.rustc_abi.specs.Laying.{one_scalar}
use Rattle.rustc_abi.specs.Enums.{tagged_variants_at}
use Rattle.abi_tree.specs.Well.{IsPut}
use Rattle.rustc_abi.specs.Adding.{AreTaggedVariants}
use Rattle.rustc_abi.specs.Count.{HasMore}
use Rattle.abi_tree.proofs.Meaning.NodesLemmas.{length-types_in}
use Rattle.rustc_abi.proofs.Enums.TaggedVariantNodesLemmas.{IsPut-tagged, tagged_before, tagged_keeps, there_within, variants_in-kept}
use Rattle.rustc_abi.proofs.Values.NarrowLemmas.{scalar_width, tag_width}
use Rattle.rustc_abi.proofs.Sizes.CountLemmas.{tagged_variants_listed, both_ok, more_tagged_variants, own_put}
use Rattle.abi_tree.specs.Nodes.{types_in}
use Rattle.rustc_abi.proofs.Trees.StillLemmas.{still_after}
use Rattle.rustc_abi.proofs.lay_enum.add_tagged.Goals as goal

pub add-requires-clause-widths : goal.add-requires-clause-widths
add-requires-clause-widths c = scalar_width c.args.cx.dl.now c.args.tag c.scalar.result c.scalar.ensures.exact c.requires.tag

pub add_variants-requires-clause-there : goal.add_variants-requires-clause-there
add_variants-requires-clause-there c =
    let put = c.in_ok-tag.ensures.ok in
    there_within (length c.args.nodes.now) _ (omega (arith, put.kept.longer, length-types_in c.args.nodes.now, length-types_in c.add.new.nodes)) c.args.variant_nodes.children.items c.requires.there

pub add_variants-requires-clause-inside : goal.add_variants-requires-clause-inside
add_variants-requires-clause-inside c =
    let there = c.requires.there in
    rw (variants_in-kept c.args.nodes.now c.add.new.nodes c.in_ok-tag.ensures.ok.kept c.args.variant_nodes.children.items there) c.requires.inside

pub add-requires-2-clause-laws : goal.add-requires-2-clause-laws
add-requires-2-clause-laws c =
    let put : IsPut c.args.nodes.now c.add.new.nodes c.in_ok-tag.tag (one_scalar c.args.cx.dl.now c.args.tag) = rw c.scalar.ensures.exact at c.in_ok-tag.ensures.ok in
    tagged_keeps c.add.new.nodes c.add_variants.new.nodes c.in_ok-tag.tag (one_scalar c.args.cx.dl.now c.args.tag) c.in_ok-variants.variants _ c.args.layout c.args.mark _
    (omega (arith, put.last)) put.meant c.in_ok-variants.ensures.ok c.requires.places c.requires.inside

pub add-requires-2-clause-widths : goal.add-requires-2-clause-widths
add-requires-2-clause-widths c =
    let put : IsPut c.args.nodes.now c.add.new.nodes c.in_ok-tag.tag (one_scalar c.args.cx.dl.now c.args.tag) = rw c.scalar.ensures.exact at c.in_ok-tag.ensures.ok in
    tag_width c.args.cx.dl.now c.args.tag c.args.nodes.now c.add.new.nodes c.add_variants.new.nodes c.in_ok-tag.tag c.requires.tag put c.in_ok-variants.ensures.ok.kept

pub add-requires-2-clause-earlier : goal.add-requires-2-clause-earlier
add-requires-2-clause-earlier c =
    let put = c.in_ok-tag.ensures.ok in
    tagged_before c.add.new.nodes c.add_variants.new.nodes c.in_ok-tag.tag _ c.in_ok-variants.variants _ _ c.args.mark (omega (arith, put.last)) (omega arith) c.in_ok-variants.ensures.ok

pub returns-clause-ok : goal.returns-clause-ok
returns-clause-ok c =
    let old = c.args.nodes.now in
    let one = c.add.new.nodes in
    let two = c.add_variants.new.nodes in
    let put = c.in_ok-tag.ensures.ok in
    let there = c.requires.there in
    let same = variants_in-kept old one put.kept c.args.variant_nodes.children.items there in
    let layout = c.args.layout in
    let tagged_variants =
    subst (λ vs. AreTaggedVariants one two (map (λ l. l.size) (variants_of layout.variants)) c.in_ok-variants.variants.items
    (tagged_variants_at layout c.args.mark 0 (variants_of layout.variants) c.args.variant_nodes.numbers.now vs)) same c.in_ok-variants.ensures.ok in
    let tag : IsPut old one c.in_ok-tag.tag (one_scalar c.args.cx.dl.now c.args.tag) = rw c.scalar.ensures.exact at put in
    IfOk-weaker c.add-2.result _ _
    (λ i last. IsPut-tagged old one two _ c.in_ok-tag.tag i (one_scalar c.args.cx.dl.now c.args.tag) c.in_ok-variants.variants _ _ c.args.layout c.args.mark tag tagged_variants last)
    c.add-2.ensures.ok

pub returns-clause-own : goal.returns-clause-own
returns-clause-own c =
    let two = c.add_variants.new.nodes in
    let tagged_variants = tagged_variants_listed (types_in two) c.in_ok-variants.variants.items in
    let tag : HasMore 1 false c.args.nodes.now c.add.new.nodes = rw c.scalar.ensures.exact at c.in_ok-tag.ensures.count in
    both_ok c.add-2.result _ _ _ c.add-2.ensures.ok c.add-2.ensures.count
    (λ i put count. own_put c.args.nodes.now two c.add-2.new.nodes i _ put (more_tagged_variants _ _ _ _ _ _ _ tag c.in_ok-variants.ensures.count count tagged_variants))

pub returns-in_err-variants-clause-behind : goal.returns-in_err-variants-clause-behind
returns-in_err-variants-clause-behind c = still_after _ _ _ c.in_ok-tag.ensures.behind c.in_err-variants.ensures.behind

pub returns-clause-behind : goal.returns-clause-behind
returns-clause-behind c = still_after _ _ _ c.in_ok-tag.ensures.behind (still_after _ _ _ c.in_ok-variants.ensures.behind c.add-2.ensures.behind)
