use Rattle.std.proofs.Common.{◌≡◌, ◌+◌, ◌++◌, ◌∷◌, [], arith, ap, sym, ◌∙◌, subst, take, map, length, get_or}
use Rattle.std.proofs.lemmas.List.{take_more, map-append}
use Rattle.std.proofs.lemmas.Result.{IfOk-weaker, IfErr-weaker}
use Rattle.abi_tree.specs.Tree.{tree_of, trees}
use Rattle.rustc_abi.specs.Laying.{AreLaying}
use Rattle.rustc_abi.specs.Adding.{tree_size, trees_size}
use Rattle.rustc_abi.proofs.Trees.TreeLemmas.{tree_of-Array, tree_of-Enum, tree_of-Never, tree_of-Pair, tree_of-Scalar, tree_of-Unit, tree_of-Vector, tree_of-Struct, tree_of-Ordered, tree_of-Union, tree_of-Coroutine, trees_size-at, variants_size-at, falls-Enum}
use Rattle.rustc_abi.proofs.Trees.LayLemmas.{EachFits-lawful, VariantsFit-lawful, AreAdded-more, IsAdded-after, AreAdded-after, struct_refused, ordered_tree_refused}
use Rattle.rustc_abi.proofs.Faults.RefusalLemmas.{each_refused, variants_refused, enum_refused}
use Rattle.rustc_abi.proofs.Enums.VariantsLemmas.{AreVariantsAdded-after, AreVariantsAdded-more, numbers_of_nodes}
use Rattle.rustc_abi.proofs.Enums.AddedEnumLemmas.{enum_tree_refused}
use Rattle.rustc_abi.specs.Error.{IsRefused}
use Rattle.rustc_abi.proofs.Coroutines.AddedCoroutineLemmas.{AreAdded-later, coroutine_tree_refused}
use Rattle.rustc_abi.proofs.Unions.TogetherLemmas.{union_tree_refused}
use Rattle.rustc_abi.proofs.Trees.ListLemmas.{passed_on}
use Rattle.rustc_abi.proofs.Trees.StillLemmas.{still_after}
use Rattle.rustc_abi.proofs.Sizes.CountLemmas.{alone_counted, array_counted, both_ok, coroutine_counted, counted_more, enum_counted, struct_counted, union_counted, variants_counted_more, vector_counted}
use Rattle.rustc_abi.proofs.lay_tree.+lay.Goals as goal

pub lay_each-lay_tree-requires : goal.lay_each-lay_tree-requires
lay_each-lay_tree-requires t c =
    let item : c.field-item.result ≡ get_or c.args.fields.now c.loop-field.field-index c.field-item.result = c.field-item.is in
    let size = trees_size-at c.args.fields.now c.loop-field.field-index c.field-item.result (omega arith) in
    (omega (arith, c.decreases, size, ap (λ x. tree_size (tree_of x)) item), c.requires)

pub lay_each-returns-in_err-child-clause-err : goal.lay_each-returns-in_err-child-clause-err
lay_each-returns-in_err-child-clause-err t c =
    let item : c.field-item.result ≡ get_or c.args.fields.now c.loop-field.field-index c.field-item.result = c.field-item.is in
    passed_on _ _ _ c.from_residual-in_err-child.ensures.1
    (each_refused c.args.cx.dl.now c.args.fields.now c.loop-field.field-index c.field-item.result _ _ (omega arith) item c.loop-field.invariant.0.exact c.in_err-child.ensures.err)

pub lay_each-loop-field-preserved : goal.lay_each-loop-field-preserved
lay_each-loop-field-preserved t c =
    let more : take (c.loop-field.field-index + 1) c.args.fields.now ≡ take c.loop-field.field-index c.args.fields.now ++ c.field-item.result ∷ [] =
    take_more c.args.fields.now c.loop-field.field-index c.field-item.result (omega arith)
    ∙ ap (λ x. take c.loop-field.field-index c.args.fields.now ++ x ∷ []) (sym c.field-item.is) in
    let mapped : map tree_of (take (c.loop-field.field-index + 1) c.args.fields.now) ≡ map tree_of (take c.loop-field.field-index c.args.fields.now) ++ tree_of c.field-item.result ∷ [] =
    ap (map tree_of) more ∙ map-append tree_of (take c.loop-field.field-index c.args.fields.now) (c.field-item.result ∷ []) in (
      rw (mapped, c.in_ok-push.ensures.items) (AreAdded-more _ _ _ _ _ _ _ _ c.loop-field.invariant.0 c.in_ok-child.ensures.ok),
      rw mapped (counted_more c.args.cx.dl.now _ _ _ (map tree_of (take c.loop-field.field-index c.args.fields.now)) _ c.loop-field.invariant.1 c.in_ok-child.ensures.counted),
      still_after _ _ _ c.loop-field.invariant.2 c.in_ok-child.ensures.behind,
    )

pub lay_tree-add_union-requires-clause-lawful : goal.lay_tree-add_union-requires-clause-lawful
lay_tree-add_union-requires-clause-lawful t c = EachFits-lawful _ _ _ c.in_ok-children-in-Union.ensures.ok.fits

pub lay_tree-returns-in_ok-element-in-Vector-clause-ok : goal.lay_tree-returns-in_ok-element-in-Vector-clause-ok
lay_tree-returns-in_ok-element-in-Vector-clause-ok t c =
    let before = c.in_ok-element-in-Vector.ensures.ok in
    let same = ap tree_of c.in-Vector.is ∙ tree_of-Vector c.in-Vector.lanes c.in-Vector.packed c.in-Vector.element in
    rw same
    (IfOk-weaker c.add_vector.result _ _
    (λ i h. rw c.deref-in-Vector.ensures at (IsAdded-after _ _ _ _ _ i _ _ before (h _ before.exact before.fits))) c.add_vector.ensures.ok)

pub lay_tree-returns-in_ok-children-in-Union-clause-ok : goal.lay_tree-returns-in_ok-children-in-Union-clause-ok
lay_tree-returns-in_ok-children-in-Union-clause-ok t c =
    let before = c.in_ok-children-in-Union.ensures.ok in
    let same = ap tree_of c.in-Union.is ∙ tree_of-Union c.in-Union.repr c.in-Union.fields in
    rw same
    (IfOk-weaker c.add_union.result _ _
    (λ i h. rw c.deref-in-Union.ensures.value at (AreAdded-after _ _ _ _ _ _ i _ before (h _ before.exact before.fits))) c.add_union.ensures.ok)

pub lay_tree-returns-in_ok-children-in-Union-clause-err : goal.lay_tree-returns-in_ok-children-in-Union-clause-err
lay_tree-returns-in_ok-children-in-Union-clause-err t c =
    let before = c.in_ok-children-in-Union.ensures.ok in
    let same = ap tree_of c.in-Union.is ∙ tree_of-Union c.in-Union.repr c.in-Union.fields in
    let exact = rw c.deref-in-Union.ensures.value at before.exact in
    rw same (IfErr-weaker c.add_union.result _ _ (λ e refused. union_tree_refused c.args.cx.dl.now c.in-Union.repr _ _ e exact refused) c.add_union.ensures.err)

pub lay_variants-lay_each-requires : goal.lay_variants-lay_each-requires
lay_variants-lay_each-requires t c =
    let item : c.variant-item.result ≡ get_or c.args.all.now c.loop-variant.variant-index c.variant-item.result = c.variant-item.is in
    let size = variants_size-at c.args.all.now c.loop-variant.variant-index c.variant-item.result (omega arith) in
    let lent : c.deref.result.now ≡ c.variant-item.result.1.items = c.deref.ensures.value in (
      omega (
        arith,
        c.decreases,
        size,
        ap (λ ts. trees_size (trees (map tree_of ts))) lent,
        ap (λ x. trees_size (trees (map tree_of x.1.items))) item,
      ),
      c.requires,
    )

pub lay_variants-returns-in_err-fields-clause-err : goal.lay_variants-returns-in_err-fields-clause-err
lay_variants-returns-in_err-fields-clause-err t c =
    let item : c.variant-item.result ≡ get_or c.args.all.now c.loop-variant.variant-index c.variant-item.result = c.variant-item.is in
    let lent : c.deref.result.now ≡ c.variant-item.result.1.items = c.deref.ensures.value in
    let refused = subst (λ ts. IsRefused (AreLaying c.args.cx.dl.now (trees (map tree_of ts))) c.in_err-fields.field-0.0) lent c.in_err-fields.ensures.err in
    passed_on _ _ _ c.from_residual-in_err-fields.ensures.1
    (variants_refused c.args.cx.dl.now c.args.all.now c.loop-variant.variant-index c.variant-item.result _ _ (omega arith) item c.loop-variant.invariant.0.exact refused)

pub lay_variants-loop-variant-preserved : goal.lay_variants-loop-variant-preserved
lay_variants-loop-variant-preserved t c =
    let item : c.variant-item.result ≡ get_or c.args.all.now c.loop-variant.variant-index c.variant-item.result = c.variant-item.is in
    let lent : c.deref.result.now ≡ c.variant-item.result.1.items = c.deref.ensures.value in
    let more : take (c.loop-variant.variant-index + 1) c.args.all.now ≡ take c.loop-variant.variant-index c.args.all.now ++ c.variant-item.result ∷ [] =
    take_more c.args.all.now c.loop-variant.variant-index c.variant-item.result (omega arith)
    ∙ ap (λ x. take c.loop-variant.variant-index c.args.all.now ++ x ∷ []) (sym c.variant-item.is) in (
      rw c.in_ok-push.ensures.items
          (AreVariantsAdded-more c.args.cx.dl.now _ _ _ _ _ c.args.all.now c.loop-variant.variant-index c.variant-item.result _ (omega arith) item lent c.loop-variant.invariant.0 c.in_ok-fields.ensures.ok),
      rw more
          (variants_counted_more c.args.cx.dl.now _ _ _ (take c.loop-variant.variant-index c.args.all.now) c.variant-item.result c.loop-variant.invariant.1
          (rw lent at c.in_ok-fields.ensures.counted)),
      still_after _ _ _ c.loop-variant.invariant.2 c.in_ok-fields.ensures.behind,
    )

pub lay_tree-returns-in_ok-element-in-Array-clause-ok : goal.lay_tree-returns-in_ok-element-in-Array-clause-ok
lay_tree-returns-in_ok-element-in-Array-clause-ok t c =
    let before = c.in_ok-element-in-Array.ensures.ok in
    let same = ap tree_of c.in-Array.is ∙ tree_of-Array c.in-Array.count c.in-Array.element in
    rw same
    (IfOk-weaker c.add_elements.result _ _
    (λ i h. rw c.deref.ensures at (IsAdded-after _ _ _ _ _ i _ _ before (h _ before.exact before.fits))) c.add_elements.ensures.ok)

pub lay_tree-returns-in-Scalar-clause-counted : goal.lay_tree-returns-in-Scalar-clause-counted
lay_tree-returns-in-Scalar-clause-counted t c =
    rw (ap tree_of c.in-Scalar.is ∙ tree_of-Scalar c.in-Scalar.value)
    (both_ok c.add_scalar.result _ _ _ c.add_scalar.ensures.ok c.add_scalar.ensures.own
    (λ i added own. alone_counted c.args.cx.dl.now _ _ i _ added own))

pub lay_tree-returns-in-Pair-clause-counted : goal.lay_tree-returns-in-Pair-clause-counted
lay_tree-returns-in-Pair-clause-counted t c =
    rw (ap tree_of c.in-Pair.is ∙ tree_of-Pair c.in-Pair.a c.in-Pair.b)
    (both_ok c.add_pair.result _ _ _ c.add_pair.ensures.ok c.add_pair.ensures.own
    (λ i added own. alone_counted c.args.cx.dl.now _ _ i _ added own))

pub lay_tree-returns-in-Never-clause-counted : goal.lay_tree-returns-in-Never-clause-counted
lay_tree-returns-in-Never-clause-counted t c =
    rw (ap tree_of c.in-Never.is ∙ tree_of-Never)
    (both_ok c.add_never.result _ _ _ c.add_never.ensures.ok c.add_never.ensures.own
    (λ i added own. alone_counted c.args.cx.dl.now _ _ i _ added own))

pub lay_tree-returns-in-Unit-clause-counted : goal.lay_tree-returns-in-Unit-clause-counted
lay_tree-returns-in-Unit-clause-counted t c =
    rw (ap tree_of c.in-Unit.is ∙ tree_of-Unit)
    (both_ok c.add_unit.result _ _ _ c.add_unit.ensures.ok c.add_unit.ensures.own
    (λ i added own. alone_counted c.args.cx.dl.now _ _ i _ added own))

pub lay_tree-returns-in_ok-element-in-Array-clause-counted : goal.lay_tree-returns-in_ok-element-in-Array-clause-counted
lay_tree-returns-in_ok-element-in-Array-clause-counted t c =
    let before = c.in_ok-element-in-Array.ensures.ok in
    let same = ap tree_of c.in-Array.is ∙ tree_of-Array c.in-Array.count c.in-Array.element in
    rw same
    (both_ok c.add_elements.result _ _ _ c.add_elements.ensures.ok c.add_elements.ensures.own
    (λ i h own. rw c.deref.ensures at (array_counted c.args.cx.dl.now _ _ _ i _ _ c.in_ok-element-in-Array.ensures.counted (h _ before.exact before.fits) own)))

pub lay_tree-returns-in_ok-element-in-Vector-clause-counted : goal.lay_tree-returns-in_ok-element-in-Vector-clause-counted
lay_tree-returns-in_ok-element-in-Vector-clause-counted t c =
    let before = c.in_ok-element-in-Vector.ensures.ok in
    let same = ap tree_of c.in-Vector.is ∙ tree_of-Vector c.in-Vector.lanes c.in-Vector.packed c.in-Vector.element in
    rw same
    (both_ok c.add_vector.result _ _ _ c.add_vector.ensures.ok c.add_vector.ensures.own
    (λ i h own. rw c.deref-in-Vector.ensures at (vector_counted c.args.cx.dl.now _ _ _ i _ _ _ c.in_ok-element-in-Vector.ensures.counted (h _ before.exact before.fits) own)))

pub lay_tree-returns-in_ok-children-in-Union-clause-counted : goal.lay_tree-returns-in_ok-children-in-Union-clause-counted
lay_tree-returns-in_ok-children-in-Union-clause-counted t c =
    let before = c.in_ok-children-in-Union.ensures.ok in
    let same = ap tree_of c.in-Union.is ∙ tree_of-Union c.in-Union.repr c.in-Union.fields in
    rw same
    (both_ok c.add_union.result _ _ _ c.add_union.ensures.ok c.add_union.ensures.own
    (λ i h own. rw c.deref-in-Union.ensures.value at (union_counted c.args.cx.dl.now _ _ _ i _ _ c.in_ok-children-in-Union.ensures.counted (h _ before.exact before.fits) own)))

pub lay_each-returns-in_err-child-clause-behind : goal.lay_each-returns-in_err-child-clause-behind
lay_each-returns-in_err-child-clause-behind t c = still_after _ _ _ c.loop-field.invariant.2 c.in_err-child.ensures.behind

pub lay_each-returns-in_err-push-clause-behind : goal.lay_each-returns-in_err-push-clause-behind
lay_each-returns-in_err-push-clause-behind t c = still_after _ _ _ c.loop-field.invariant.2 c.in_ok-child.ensures.behind

pub lay_variants-returns-in_err-fields-clause-behind : goal.lay_variants-returns-in_err-fields-clause-behind
lay_variants-returns-in_err-fields-clause-behind t c = still_after _ _ _ c.loop-variant.invariant.2 c.in_err-fields.ensures.behind

pub lay_variants-returns-in_err-push-clause-behind : goal.lay_variants-returns-in_err-push-clause-behind
lay_variants-returns-in_err-push-clause-behind t c = still_after _ _ _ c.loop-variant.invariant.2 c.in_ok-fields.ensures.behind

-- ---- types with one type in them, and unions

pub lay_tree-returns-in_ok-element-in-Array-clause-behind : goal.lay_tree-returns-in_ok-element-in-Array-clause-behind
lay_tree-returns-in_ok-element-in-Array-clause-behind t c = still_after _ _ _ c.in_ok-element-in-Array.ensures.behind c.add_elements.ensures.behind

pub lay_tree-returns-in_ok-element-in-Vector-clause-behind : goal.lay_tree-returns-in_ok-element-in-Vector-clause-behind
lay_tree-returns-in_ok-element-in-Vector-clause-behind t c = still_after _ _ _ c.in_ok-element-in-Vector.ensures.behind c.add_vector.ensures.behind

pub lay_tree-returns-in_ok-children-in-Union-clause-behind : goal.lay_tree-returns-in_ok-children-in-Union-clause-behind
lay_tree-returns-in_ok-children-in-Union-clause-behind t c = still_after _ _ _ c.in_ok-children-in-Union.ensures.behind c.add_union.ensures.behind

-- ---- structs

pub lay_tree-returns-in-Struct-clause-ok : goal.lay_tree-returns-in-Struct-clause-ok
lay_tree-returns-in-Struct-clause-ok t c =
    rw (ap tree_of c.in-Struct.is ∙ tree_of-Struct c.in-Struct.repr c.in-Struct.always_sized c.in-Struct.fields) (rw c.deref-in-Struct.ensures.value at c.lay_struct.ensures.ok)

pub lay_tree-returns-in-Struct-clause-counted : goal.lay_tree-returns-in-Struct-clause-counted
lay_tree-returns-in-Struct-clause-counted t c =
    rw (ap tree_of c.in-Struct.is ∙ tree_of-Struct c.in-Struct.repr c.in-Struct.always_sized c.in-Struct.fields) (rw c.deref-in-Struct.ensures.value at c.lay_struct.ensures.counted)

pub lay_tree-returns-in-Struct-clause-err : goal.lay_tree-returns-in-Struct-clause-err
lay_tree-returns-in-Struct-clause-err t c =
    rw (ap tree_of c.in-Struct.is ∙ tree_of-Struct c.in-Struct.repr c.in-Struct.always_sized c.in-Struct.fields) (rw c.deref-in-Struct.ensures.value at c.lay_struct.ensures.err)

pub lay_tree-returns-in-Ordered-clause-ok : goal.lay_tree-returns-in-Ordered-clause-ok
lay_tree-returns-in-Ordered-clause-ok t c =
    rw (ap tree_of c.in-Ordered.is ∙ tree_of-Ordered c.in-Ordered.repr c.in-Ordered.always_sized c.in-Ordered.order c.in-Ordered.fields) (rw c.deref-in-Ordered.ensures.value at c.lay_struct-in-Ordered.ensures.ok)

pub lay_tree-returns-in-Ordered-clause-counted : goal.lay_tree-returns-in-Ordered-clause-counted
lay_tree-returns-in-Ordered-clause-counted t c =
    rw (ap tree_of c.in-Ordered.is ∙ tree_of-Ordered c.in-Ordered.repr c.in-Ordered.always_sized c.in-Ordered.order c.in-Ordered.fields) (rw c.deref-in-Ordered.ensures.value at c.lay_struct-in-Ordered.ensures.counted)

pub lay_tree-returns-in-Ordered-clause-err : goal.lay_tree-returns-in-Ordered-clause-err
lay_tree-returns-in-Ordered-clause-err t c =
    rw (ap tree_of c.in-Ordered.is ∙ tree_of-Ordered c.in-Ordered.repr c.in-Ordered.always_sized c.in-Ordered.order c.in-Ordered.fields) (rw c.deref-in-Ordered.ensures.value at c.lay_struct-in-Ordered.ensures.err)

pub lay_struct-add_fields-requires-clause-lawful : goal.lay_struct-add_fields-requires-clause-lawful
lay_struct-add_fields-requires-clause-lawful t c = EachFits-lawful _ _ _ c.in_ok-children.ensures.ok.fits

pub lay_struct-add_ordered-requires-clause-lawful : goal.lay_struct-add_ordered-requires-clause-lawful
lay_struct-add_ordered-requires-clause-lawful t c = EachFits-lawful _ _ _ c.in_ok-children.ensures.ok.fits

pub lay_struct-returns-in-None-clause-ok : goal.lay_struct-returns-in-None-clause-ok
lay_struct-returns-in-None-clause-ok t c =
    let before = c.in_ok-children.ensures.ok in
    rw c.in-None.is
    (IfOk-weaker c.add_fields.result _ _
    (λ i h. AreAdded-after _ _ _ _ _ _ i _ before (h _ before.exact before.fits)) c.add_fields.ensures.ok)

pub lay_struct-returns-in-None-clause-counted : goal.lay_struct-returns-in-None-clause-counted
lay_struct-returns-in-None-clause-counted t c =
    let before = c.in_ok-children.ensures.ok in
    rw c.in-None.is
    (both_ok c.add_fields.result _ _ _ c.add_fields.ensures.ok c.add_fields.ensures.own
    (λ i h own. struct_counted c.args.cx.dl.now _ _ _ i _ _ _ _ c.in_ok-children.ensures.counted (h _ before.exact before.fits) own))

pub lay_struct-returns-in-None-clause-err : goal.lay_struct-returns-in-None-clause-err
lay_struct-returns-in-None-clause-err t c =
    let before = c.in_ok-children.ensures.ok in
    rw c.in-None.is
    (IfErr-weaker c.add_fields.result _ _ (λ e refused. struct_refused c.args.cx.dl.now c.args.repr.now c.args.always_sized _ _ e before.exact refused) c.add_fields.ensures.err)

pub lay_struct-returns-in-None-clause-behind : goal.lay_struct-returns-in-None-clause-behind
lay_struct-returns-in-None-clause-behind t c = still_after _ _ _ c.in_ok-children.ensures.behind c.add_fields.ensures.behind

pub lay_struct-returns-in-Some-clause-ok : goal.lay_struct-returns-in-Some-clause-ok
lay_struct-returns-in-Some-clause-ok t c =
    let before = c.in_ok-children.ensures.ok in
    let tag_distinguishes = rw c.deref.ensures.value at c.add_ordered.ensures.ok in
    rw c.in-Some.is
    (IfOk-weaker c.add_ordered.result _ _
    (λ i h. AreAdded-after _ _ _ _ _ _ i _ before (h _ before.exact before.fits)) tag_distinguishes)

pub lay_struct-returns-in-Some-clause-counted : goal.lay_struct-returns-in-Some-clause-counted
lay_struct-returns-in-Some-clause-counted t c =
    let before = c.in_ok-children.ensures.ok in
    let tag_distinguishes = rw c.deref.ensures.value at c.add_ordered.ensures.ok in
    rw c.in-Some.is
    (both_ok c.add_ordered.result _ _ _ tag_distinguishes c.add_ordered.ensures.own
    (λ i h own. struct_counted c.args.cx.dl.now _ _ _ i _ _ _ _ c.in_ok-children.ensures.counted (h _ before.exact before.fits) own))

pub lay_struct-returns-in-Some-clause-err : goal.lay_struct-returns-in-Some-clause-err
lay_struct-returns-in-Some-clause-err t c =
    let before = c.in_ok-children.ensures.ok in
    let tag_distinguishes = rw c.deref.ensures.value at c.add_ordered.ensures.err in
    rw c.in-Some.is
    (IfErr-weaker c.add_ordered.result _ _ (λ e refused. ordered_tree_refused c.args.cx.dl.now c.args.repr.now c.args.always_sized _ _ _ e before.exact refused) tag_distinguishes)

pub lay_struct-returns-in-Some-clause-behind : goal.lay_struct-returns-in-Some-clause-behind
lay_struct-returns-in-Some-clause-behind t c = still_after _ _ _ c.in_ok-children.ensures.behind c.add_ordered.ensures.behind

-- ---- enums

pub lay_tree-lay_enum-requires : goal.lay_tree-lay_enum-requires
lay_tree-lay_enum-requires t c =
    let falls = falls-Enum c.args.tree.now c.in-Enum.repr c.in-Enum.variants c.in-Enum.is in
    (rw c.deref-in-Enum.ensures.value (omega (arith, c.decreases, falls)), c.requires)

pub lay_tree-returns-in-Enum-clause-ok : goal.lay_tree-returns-in-Enum-clause-ok
lay_tree-returns-in-Enum-clause-ok t c =
    rw (ap tree_of c.in-Enum.is ∙ tree_of-Enum c.in-Enum.repr c.in-Enum.variants) (rw c.deref-in-Enum.ensures.value at c.lay_enum.ensures.ok)

pub lay_tree-returns-in-Enum-clause-counted : goal.lay_tree-returns-in-Enum-clause-counted
lay_tree-returns-in-Enum-clause-counted t c =
    rw (ap tree_of c.in-Enum.is ∙ tree_of-Enum c.in-Enum.repr c.in-Enum.variants) (rw c.deref-in-Enum.ensures.value at c.lay_enum.ensures.counted)

pub lay_tree-returns-in-Enum-clause-err : goal.lay_tree-returns-in-Enum-clause-err
lay_tree-returns-in-Enum-clause-err t c =
    rw (ap tree_of c.in-Enum.is ∙ tree_of-Enum c.in-Enum.repr c.in-Enum.variants) (rw c.deref-in-Enum.ensures.value at c.lay_enum.ensures.err)

pub lay_enum-returns-in_err-children-clause-err : goal.lay_enum-returns-in_err-children-clause-err
lay_enum-returns-in_err-children-clause-err t c =
    passed_on _ _ _ c.from_residual-in_err-children.ensures.1 (enum_refused c.args.cx.dl.now c.args.repr.now _ _ c.in_err-children.ensures.err)

pub lay_enum-add_enum-requires-clause-each : goal.lay_enum-add_enum-requires-clause-each
lay_enum-add_enum-requires-clause-each t c =
    ap length (c.deref.ensures.value ∙ c.in_ok-numbers.ensures) ∙ numbers_of_nodes c.args.cx.dl.now c.requires _ _ _ _ c.in_ok-children.ensures.ok

pub lay_enum-add_enum-requires-clause-lawful : goal.lay_enum-add_enum-requires-clause-lawful
lay_enum-add_enum-requires-clause-lawful t c = VariantsFit-lawful c.args.cx.dl.now _ _ c.in_ok-children.ensures.ok.fits

pub lay_enum-returns-clause-ok : goal.lay_enum-returns-clause-ok
lay_enum-returns-clause-ok t c =
    let before = c.in_ok-children.ensures.ok in
    let tag_distinguishes = c.add_enum.ensures.ok in
    IfOk-weaker c.add_enum.result _ _
    (λ i h. AreVariantsAdded-after c.args.cx.dl.now _ _ _ _ _ i _ before (h _ (c.deref.ensures.value ∙ c.in_ok-numbers.ensures) before.exact before.fits)) tag_distinguishes

pub lay_enum-returns-clause-counted : goal.lay_enum-returns-clause-counted
lay_enum-returns-clause-counted t c =
    let before = c.in_ok-children.ensures.ok in
    let tag_distinguishes = c.add_enum.ensures.ok in
    both_ok c.add_enum.result _ _ _ tag_distinguishes c.add_enum.ensures.own
    (λ i h own. enum_counted c.args.cx.dl.now _ _ _ i _ _ c.in_ok-children.ensures.counted
    (h _ (c.deref.ensures.value ∙ c.in_ok-numbers.ensures) before.exact before.fits) own)

pub lay_enum-returns-clause-err : goal.lay_enum-returns-clause-err
lay_enum-returns-clause-err t c =
    let before = c.in_ok-children.ensures.ok in
    let tag_distinguishes = rw (c.deref.ensures.value ∙ c.in_ok-numbers.ensures) at c.add_enum.ensures.err in
    IfErr-weaker c.add_enum.result _ _ (λ e refused. enum_tree_refused c.args.cx.dl.now c.args.repr.now _ _ e before.exact refused) tag_distinguishes

pub lay_enum-returns-clause-behind : goal.lay_enum-returns-clause-behind
lay_enum-returns-clause-behind t c = still_after _ _ _ c.in_ok-children.ensures.behind c.add_enum.ensures.behind

-- ---- coroutines

pub lay_tree-returns-in-Coroutine-clause-ok : goal.lay_tree-returns-in-Coroutine-clause-ok
lay_tree-returns-in-Coroutine-clause-ok t c =
    rw (ap tree_of c.in-Coroutine.is ∙ tree_of-Coroutine c.in-Coroutine.prefix c.in-Coroutine.locals c.in-Coroutine.states c.in-Coroutine.conflicts) (rw (c.deref-in-Coroutine.ensures.value, c.deref-in-Coroutine-2.ensures.value, c.deref-in-Coroutine-3.ensures.value, c.deref-in-Coroutine-4.ensures.value) at c.lay_coroutine.ensures.ok)

pub lay_tree-returns-in-Coroutine-clause-counted : goal.lay_tree-returns-in-Coroutine-clause-counted
lay_tree-returns-in-Coroutine-clause-counted t c =
    rw (ap tree_of c.in-Coroutine.is ∙ tree_of-Coroutine c.in-Coroutine.prefix c.in-Coroutine.locals c.in-Coroutine.states c.in-Coroutine.conflicts) (rw (c.deref-in-Coroutine.ensures.value, c.deref-in-Coroutine-2.ensures.value, c.deref-in-Coroutine-3.ensures.value, c.deref-in-Coroutine-4.ensures.value) at c.lay_coroutine.ensures.counted)

pub lay_tree-returns-in-Coroutine-clause-err : goal.lay_tree-returns-in-Coroutine-clause-err
lay_tree-returns-in-Coroutine-clause-err t c =
    rw (ap tree_of c.in-Coroutine.is ∙ tree_of-Coroutine c.in-Coroutine.prefix c.in-Coroutine.locals c.in-Coroutine.states c.in-Coroutine.conflicts) (rw (c.deref-in-Coroutine.ensures.value, c.deref-in-Coroutine-2.ensures.value, c.deref-in-Coroutine-3.ensures.value, c.deref-in-Coroutine-4.ensures.value) at c.lay_coroutine.ensures.err)

pub lay_coroutine-add_coroutine-requires-clause-before : goal.lay_coroutine-add_coroutine-requires-clause-before
lay_coroutine-add_coroutine-requires-clause-before t c =
    let first = AreAdded-later c.args.cx.dl.now _ _ _ _ _ _ _ c.in_ok-prefix.ensures.ok c.in_ok-locals.ensures.ok in
    first.there

pub lay_coroutine-add_coroutine-requires-clause-prefix : goal.lay_coroutine-add_coroutine-requires-clause-prefix
lay_coroutine-add_coroutine-requires-clause-prefix t c =
    let first = AreAdded-later c.args.cx.dl.now _ _ _ _ _ _ _ c.in_ok-prefix.ensures.ok c.in_ok-locals.ensures.ok in
    EachFits-lawful _ _ _ first.fits

pub lay_coroutine-add_coroutine-requires-clause-locals : goal.lay_coroutine-add_coroutine-requires-clause-locals
lay_coroutine-add_coroutine-requires-clause-locals t c = rw c.deref.ensures.value (EachFits-lawful _ _ _ c.in_ok-locals.ensures.ok.fits)

pub lay_coroutine-returns-clause-ok : goal.lay_coroutine-returns-clause-ok
lay_coroutine-returns-clause-ok t c =
    let first = AreAdded-later c.args.cx.dl.now _ _ _ _ _ _ _ c.in_ok-prefix.ensures.ok c.in_ok-locals.ensures.ok in
    let own = c.in_ok-locals.ensures.ok in
    let tag_distinguishes = rw c.deref.ensures.value at c.add_coroutine.ensures.ok in
    IfOk-weaker c.add_coroutine.result _ _ (λ i h. AreAdded-after _ _ _ _ _ _ i _ first (h _ _ first.exact own.exact first.fits own.fits)) tag_distinguishes

pub lay_coroutine-returns-clause-counted : goal.lay_coroutine-returns-clause-counted
lay_coroutine-returns-clause-counted t c =
    let first = AreAdded-later c.args.cx.dl.now _ _ _ _ _ _ _ c.in_ok-prefix.ensures.ok c.in_ok-locals.ensures.ok in
    let own = c.in_ok-locals.ensures.ok in
    let tag_distinguishes = rw c.deref.ensures.value at c.add_coroutine.ensures.ok in
    both_ok c.add_coroutine.result _ _ _ tag_distinguishes c.add_coroutine.ensures.own
    (λ i h put. coroutine_counted c.args.cx.dl.now _ _ _ _ i _ _ _ _ c.in_ok-prefix.ensures.counted c.in_ok-locals.ensures.counted (h _ _ first.exact own.exact first.fits own.fits) put)

pub lay_coroutine-returns-clause-err : goal.lay_coroutine-returns-clause-err
lay_coroutine-returns-clause-err t c =
    let first = AreAdded-later c.args.cx.dl.now _ _ _ _ _ _ _ c.in_ok-prefix.ensures.ok c.in_ok-locals.ensures.ok in
    let tag_distinguishes = rw c.deref.ensures.value at c.add_coroutine.ensures.err in
    IfErr-weaker c.add_coroutine.result _ _
    (λ e refused. coroutine_tree_refused c.args.cx.dl.now _ _ (map (λ state. state.items) c.args.states.now) c.args.conflicts.now _ _ e first.exact c.in_ok-locals.ensures.ok.exact refused) tag_distinguishes

pub lay_coroutine-returns-clause-behind : goal.lay_coroutine-returns-clause-behind
lay_coroutine-returns-clause-behind t c =
    still_after _ _ _ c.in_ok-prefix.ensures.behind (still_after _ _ _ c.in_ok-locals.ensures.behind c.add_coroutine.ensures.behind)

pub lay_coroutine-returns-in_err-locals-clause-behind : goal.lay_coroutine-returns-in_err-locals-clause-behind
lay_coroutine-returns-in_err-locals-clause-behind t c = still_after _ _ _ c.in_ok-prefix.ensures.behind c.in_err-locals.ensures.behind
