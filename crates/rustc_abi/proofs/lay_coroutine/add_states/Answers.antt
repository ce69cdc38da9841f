use Rattle.std.proofs.Common.{◌≡◌, ℕ, ◌<◌, ◌∙◌, false, All, List, ap, arith, length, map, subst, sym}
use Rattle.std.specs.Prelude.{Vec}
use Rattle.std.specs.declared.alloc.Global.{Global}
use Rattle.std.proofs.lemmas.List.{length-map}
use Rattle.std.proofs.lemmas.List.Elements.{All-weaker}
use Rattle.std.proofs.lemmas.Result.{IfOk-weaker}
use Rattle.abi_scalar.specs.Variant.{variants_of}
use Rattle.abi_univariant.specs.Placement.{source_order}
use Rattle.abi_tree.specs.Nodes.{placed_in, types_in}
use Rattle.abi_tree.specs.declared.mark.Mark.TheVariants.{Plain}
use Rattle.rustc_abi.specs.Enums.{tagged_variants_at}
use Rattle.rustc_abi.specs.Laying.{most_fields, one_scalar}
use Rattle.abi_tree.specs.Well.{IsPut, all_at}
use Rattle.rustc_abi.specs.Adding.{AreTaggedVariants, variants_in}
use Rattle.rustc_abi.specs.Count.{HasMore}
use Rattle.abi_tree.proofs.Meaning.NodesLemmas.{length-types_in}
use Rattle.rustc_abi.proofs.Enums.TaggedVariantNodesLemmas.{variants_in-kept}
use Rattle.rustc_abi.proofs.Coroutines.StateNodesLemmas.{IsPut-states, as_many_each, each_few, each_means, each_there, states_keep, states_before, states_told}
use Rattle.rustc_abi.proofs.Values.NarrowLemmas.{scalar_width, tag_width}
use Rattle.rustc_abi.proofs.Sizes.CountLemmas.{tagged_variants_listed, both_ok, more_tagged_variants, own_put}
use Rattle.rustc_abi.proofs.Trees.StillLemmas.{still_after}
use Rattle.rustc_abi.proofs.lay_coroutine.add_states.Goals as goal

pub add-requires-clause-widths : goal.add-requires-clause-widths
add-requires-clause-widths c = scalar_width c.args.cx.dl.now c.args.tag c.scalar.result c.scalar.ensures.exact c.requires.tag

pub add_each_state-requires-clause-each : goal.add_each_state-requires-clause-each
add_each_state-requires-clause-each c =
    let many = as_many_each c.args.state_nodes.locals.now c.args.state_nodes.states.now c.in_ok-children.children.items c.in_ok-children.ensures in
    c.requires.each ∙ sym many

pub add_each_state-requires-clause-few : goal.add_each_state-requires-clause-few
add_each_state-requires-clause-few c =
    let many = as_many_each c.args.state_nodes.locals.now c.args.state_nodes.states.now c.in_ok-children.children.items c.in_ok-children.ensures in
    rw many c.requires.few

pub add_each_state-requires-clause-there : goal.add_each_state-requires-clause-there
add_each_state-requires-clause-there c =
    let old = c.args.nodes.now in
    let one = c.add.new.nodes in
    let put = c.in_ok-tag.ensures.ok in
    let longer = put.kept.longer in
    let there : All (λ child. child < length one) c.args.state_nodes.locals.now =
    All-weaker (λ child. child < length old) (λ child. child < length one) (λ child lt. omega (arith, lt, longer, length-types_in old, length-types_in one)) c.args.state_nodes.locals.now c.requires.there in
    each_there (length one) c.args.state_nodes.locals.now c.args.state_nodes.states.now c.in_ok-children.children.items there c.requires.known c.in_ok-children.ensures

pub add_each_state-requires-clause-few_each : goal.add_each_state-requires-clause-few_each
add_each_state-requires-clause-few_each c =
    each_few most_fields c.args.state_nodes.locals.now c.args.state_nodes.states.now c.in_ok-children.children.items c.requires.few_each c.in_ok-children.ensures

pub add_each_state-requires-clause-inside : goal.add_each_state-requires-clause-inside
add_each_state-requires-clause-inside c =
    let old = c.args.nodes.now in
    let one = c.add.new.nodes in
    let children : List (Vec ℕ Global) = c.in_ok-children.children.items in
    let there : All (λ child. child < length old) c.args.state_nodes.locals.now = c.requires.there in
    let same =
    variants_in-kept old one c.in_ok-tag.ensures.ok.kept children (each_there (length old) c.args.state_nodes.locals.now c.args.state_nodes.states.now children there c.requires.known c.in_ok-children.ensures)
    ∙ each_means old c.args.state_nodes.locals.now c.args.state_nodes.states.now children c.requires.known c.in_ok-children.ensures in
    rw same c.requires.inside

pub add-requires-2-clause-laws : goal.add-requires-2-clause-laws
add-requires-2-clause-laws c =
    let old = c.args.nodes.now in
    let one = c.add.new.nodes in
    let two = c.add_each_state.new.nodes in
    let put : IsPut old one c.in_ok-tag.tag (one_scalar c.args.cx.dl.now c.args.tag) = rw c.scalar.ensures.exact at c.in_ok-tag.ensures.ok in
    let prefix : All (λ child. child < length old) c.args.prefix.items = c.requires.prefix in
    states_keep old one two c.in_ok-tag.tag (one_scalar c.args.cx.dl.now c.args.tag) c.args.prefix c.in_ok-states.states _ c.args.layout _ put c.in_ok-states.ensures.ok prefix c.requires.places c.requires.inside

pub add-requires-2-clause-widths : goal.add-requires-2-clause-widths
add-requires-2-clause-widths c =
    let put : IsPut c.args.nodes.now c.add.new.nodes c.in_ok-tag.tag (one_scalar c.args.cx.dl.now c.args.tag) = rw c.scalar.ensures.exact at c.in_ok-tag.ensures.ok in
    tag_width c.args.cx.dl.now c.args.tag c.args.nodes.now c.add.new.nodes c.add_each_state.new.nodes c.in_ok-tag.tag c.requires.tag put c.in_ok-states.ensures.ok.kept

pub add-requires-2-clause-earlier : goal.add-requires-2-clause-earlier
add-requires-2-clause-earlier c =
    let old = c.args.nodes.now in
    let there : All (λ child. child < length old) c.args.prefix.items = c.requires.prefix in
    states_before old c.add.new.nodes c.add_each_state.new.nodes c.in_ok-tag.tag _ _ c.args.prefix c.in_ok-states.states _ _ c.in_ok-tag.ensures.ok (omega arith) c.in_ok-states.ensures.ok there

pub returns-clause-ok : goal.returns-clause-ok
returns-clause-ok c =
    let old = c.args.nodes.now in
    let one = c.add.new.nodes in
    let two = c.add_each_state.new.nodes in
    let locals : List ℕ = c.args.state_nodes.locals.now in
    let all : List (Vec ℕ Global) = c.args.state_nodes.states.now in
    let children : List (Vec ℕ Global) = c.in_ok-children.children.items in
    let put = c.in_ok-tag.ensures.ok in
    let prefix : All (λ child. child < length old) c.args.prefix.items = c.requires.prefix in
    let there : All (λ child. child < length old) locals = c.requires.there in
    let same : variants_in one children ≡ map (λ ks. map (placed_in (all_at old locals)) ks.items) all =
    variants_in-kept old one put.kept children (each_there (length old) locals all children there c.requires.known c.in_ok-children.ensures)
    ∙ each_means old locals all children c.requires.known c.in_ok-children.ensures in
    let count : length children ≡ length all =
    as_many_each locals all children c.in_ok-children.ensures in
    let layout = c.args.layout in
    let sizes = map (λ l. l.size) (variants_of layout.variants) in
    let own : AreTaggedVariants one two sizes c.in_ok-states.states.items
    (tagged_variants_at layout Plain 0 (variants_of layout.variants) (source_order (length all))
    (variants_in one children)) =
    subst (λ n. AreTaggedVariants one two sizes c.in_ok-states.states.items
    (tagged_variants_at layout Plain 0 (variants_of layout.variants) (source_order n) (variants_in one children))) count
    c.in_ok-states.ensures.ok in
    let tagged_variants =
    subst (λ vs. AreTaggedVariants one two sizes c.in_ok-states.states.items
    (tagged_variants_at layout Plain 0 (variants_of layout.variants) (source_order (length all)) vs)) same own in
    let tag : IsPut old one c.in_ok-tag.tag (one_scalar c.args.cx.dl.now c.args.tag) = rw c.scalar.ensures.exact at put in
    let tag_distinguishes = states_told c.args.layout (all_at old c.args.prefix.items) c.args.prefix.items (one_scalar c.args.cx.dl.now c.args.tag) (variants_of c.args.layout.variants) (all_at old locals) all
    (length-map c.args.prefix.items (placed_in (types_in old))) in
    IfOk-weaker c.add-2.result _ _
    (λ i last. subst (IsPut old c.add-2.new.nodes i) tag_distinguishes
    (IsPut-states old one two _ c.in_ok-tag.tag i (one_scalar c.args.cx.dl.now c.args.tag) c.args.prefix c.in_ok-states.states _ _ c.args.layout tag tagged_variants last prefix))
    c.add-2.ensures.ok

pub returns-clause-own : goal.returns-clause-own
returns-clause-own c =
    let two = c.add_each_state.new.nodes in
    let tagged_variants = tagged_variants_listed (types_in two) c.in_ok-states.states.items in
    let tag : HasMore 1 false c.args.nodes.now c.add.new.nodes = rw c.scalar.ensures.exact at c.in_ok-tag.ensures.count in
    both_ok c.add-2.result _ _ _ c.add-2.ensures.ok c.add-2.ensures.count
    (λ i put count. own_put c.args.nodes.now two c.add-2.new.nodes i _ put (more_tagged_variants _ _ _ _ _ _ _ tag c.in_ok-states.ensures.count count tagged_variants))

pub returns-in_err-states-clause-behind : goal.returns-in_err-states-clause-behind
returns-in_err-states-clause-behind c = still_after _ _ _ c.in_ok-tag.ensures.behind c.in_err-states.ensures.behind

pub returns-clause-behind : goal.returns-clause-behind
returns-clause-behind c = still_after _ _ _ c.in_ok-tag.ensures.behind (still_after _ _ _ c.in_ok-states.ensures.behind c.add-2.ensures.behind)
