use Rattle.std.proofs.Common.{◌≡◌, ◌<◌, ◌++◌, [], ◌∷◌, ◌+◌, false, true, List, ap, append-nil, append_assoc, arith, get_or, length, refl, subst, sym, ◌∙◌}
use Rattle.std.specs.Prelude.{◌&&◌}
use Rattle.std.specs.Vec.Iter.{into_iter_items}
use Rattle.std.proofs.lemmas.List.{length-append, length-map, take_all}
use Rattle.abi_scalar.specs.Variant.{variants_of}
use Rattle.abi_tree.specs.Well.{all_at}
use Rattle.rustc_abi.specs.Adding.{variants_in}
use Rattle.rustc_abi.proofs.Enums.TaggedVariantNodesLemmas.{AreTaggedVariants-more, fields_before, own_flag, own_keeps}
use Rattle.rustc_abi.proofs.Sizes.CountLemmas.{more_absorbed, more_as, more_both}
use Rattle.rustc_abi.proofs.Trees.MovedLemmas.{moved_from, moved_within, none_moved}
use Rattle.rustc_abi.proofs.Trees.StillLemmas.{still_after}
use Rattle.rustc_abi.proofs.lay_enum.add_variants.Goals as goal

pub add-requires-clause-earlier : goal.add-requires-clause-earlier
add-requires-clause-earlier c =
    let first = c.args.nodes.now in
    let at = c.loop-fields in
    let x = c.in-Some.fields in
    let rest = into_iter_items c.next.new.self in
    let steps : into_iter_items at.fields-iterator ≡ x ∷ rest = c.in-Some.ensures.steps.0 in
    rw c.in_ok-own.ensures.shape
    (fields_before first at.nodes _ at.variants.items _ _ c.args.children.items (length at.variants.items) x x.items at.invariant.3 (omega arith)
    (moved_within at.yielded rest c.args.children.items _ x at.invariant.0 steps at.variants.items at.invariant.2)
    (moved_from at.yielded rest c.args.children.items _ x at.invariant.0 steps at.variants.items at.invariant.2) refl c.requires.there)

pub add-requires-clause-laws : goal.add-requires-clause-laws
add-requires-clause-laws c =
    let first = c.args.nodes.now in
    let parent = c.args.layout.now in
    let at = c.loop-fields in
    let x = c.in-Some.fields in
    let rest = into_iter_items c.next.new.self in
    let steps : into_iter_items at.fields-iterator ≡ x ∷ rest = c.in-Some.ensures.steps.0 in
    let at_is : c.len-at.result ≡ length at.variants.items = omega (arith, c.len-at.ensures) in
    let made = rw (c.from_usize.ensures, at_is) at c.in_ok-own.ensures.layout in
    rw c.in_ok-own.ensures.shape
    (own_keeps first at.nodes _ at.variants.items _ parent c.in_ok-own.own.layout c.args.mark (variants_of parent.variants) c.args.children.items (length at.variants.items) _ x x at.invariant.3
    (moved_within at.yielded rest c.args.children.items _ x at.invariant.0 steps at.variants.items at.invariant.2) c.requires.inside made
    (moved_from at.yielded rest c.args.children.items _ x at.invariant.0 steps at.variants.items at.invariant.2) refl c.requires.there c.requires.few_each)

pub loop-fields-preserved : goal.loop-fields-preserved
loop-fields-preserved c =
    let first = c.args.nodes.now in
    let parent = c.args.layout.now in
    let at = c.loop-fields in
    let x = c.in-Some.fields in
    let rest = into_iter_items c.next.new.self in
    let steps : into_iter_items at.fields-iterator ≡ x ∷ rest = c.in-Some.ensures.steps.0 in
    let within = moved_within at.yielded rest c.args.children.items _ x at.invariant.0 steps at.variants.items at.invariant.2 in
    let from = moved_from at.yielded rest c.args.children.items _ x at.invariant.0 steps at.variants.items at.invariant.2 in
    let at_is : c.len-at.result ≡ length at.variants.items = omega (arith, c.len-at.ensures) in
    let made = rw (c.from_usize.ensures, at_is) at c.in_ok-own.ensures.layout in
    let put = rw c.in_ok-own.ensures.shape at c.in_ok-node.ensures.ok in
    let number = ap (λ k. get_or c.args.numbers.now k 0) at_is in
    let more =
    AreTaggedVariants-more first at.nodes c.add.new.nodes parent (variants_of parent.variants)
    c.args.numbers.now c.args.children.items at.variants.items (length at.variants.items) _ c.in_ok-node.node
    c.in_ok-own.own.layout c.args.mark x within c.requires.variants c.requires.each c.requires.there
    made number x from refl at.invariant.3 put in
    let flag = own_flag first parent c.in_ok-own.own.layout (variants_of parent.variants) c.args.children.items (length at.variants.items) _
    x within c.requires.inside made from c.requires.there in
    let own = more_absorbed 1 c.in_ok-own.own.layout.uninhabited at.nodes c.add.new.nodes
    (λ set. at.invariant.4.1 ∙ ap (λ b. b && true) (flag set)) c.in_ok-node.ensures.count in
    let longer = sym (ap length c.in_ok-push.ensures.items ∙ length-append at.variants.items (_ ∷ [])) in (
      append_assoc at.yielded (x ∷ []) _ ∙ rw (← steps) at.invariant.0,
      omega (arith, at.invariant.1, c.in-Some.ensures.steps.1, ap length steps),
      omega (arith, longer, at.invariant.2, length-append at.yielded (x ∷ [])),
      rw (c.in_ok-push.ensures.items, length-append at.variants.items (_ ∷ [])) more,
      more_as (length at.variants.items + 1) _ false _ _ longer (more_both (length at.variants.items) 1 false false _ _ _ at.invariant.4 own),
      still_after _ _ _ at.invariant.5 c.in_ok-node.ensures.behind,
    )

pub returns-clause-ok : goal.returns-clause-ok
returns-clause-ok c =
    let at = c.loop-fields in
    let none = c.in-None.ensures.steps in
    let all = none_moved at.yielded c.args.children.items _ at.invariant.0 (sym at.invariant.1 ∙ none.0) in
    let count : length at.variants.items ≡ length c.args.children.items = at.invariant.2 ∙ ap length all in
    let layouts = variants_of c.args.layout.now.variants in
    let variants = variants_in c.args.nodes.now c.args.children.items in
    let as_many : length variants ≡ length c.args.children.items = length-map c.args.children.items (λ fields. all_at c.args.nodes.now fields.items) in
    rw (
      take_all (length at.variants.items) layouts (omega (arith, count, c.requires.variants)),
      take_all (length at.variants.items) c.args.numbers.now (omega (arith, count, c.requires.each)),
      take_all (length at.variants.items) variants (omega (arith, count, as_many)),
    ) at at.invariant.3

pub returns-in_err-node-clause-behind : goal.returns-in_err-node-clause-behind
returns-in_err-node-clause-behind c = still_after _ _ _ c.loop-fields.invariant.5 c.in_err-node.ensures.behind

pub returns-in_err-push-clause-behind : goal.returns-in_err-push-clause-behind
returns-in_err-push-clause-behind c = still_after _ _ _ c.loop-fields.invariant.5 c.in_ok-node.ensures.behind
