use Rattle.std.proofs.Common.{◌≡◌, map, length, All, sym, ap, ◌∙◌, subst, inl, inr, ⊎_elim}
use Rattle.std.proofs.lemmas.List.{length-map, map-id}
use Rattle.std.proofs.lemmas.List.Elements.{All-map}
use Rattle.abi_index.specs.Slice.{items_of}
use Rattle.abi_univariant.specs.Apart.{AreApart}
use Rattle.abi_univariant.specs.Placement.{IsNonEmptyIfUnsized}
use Rattle.abi_scalar.specs.Lawful.{IsLawfulLayout}
use Rattle.abi_scalar.specs.Shape.{listed_offsets}
use Rattle.abi_tree.specs.Nodes.{placed_in, types_in}
use Rattle.abi_tree.specs.Placed.{layout_of}
use Rattle.abi_tree.specs.Well.{all_at}
use Rattle.rustc_abi.specs.Error.{IsRefused}
use Rattle.rustc_abi.specs.Laying.{IsListedInOrder}
use Rattle.rustc_abi.proofs.Trees.ListLemmas.{All-from_map, ordered_err, ordered_ok, passed_on, sizes_by}
use Rattle.rustc_abi.proofs.Trees.OrderLemmas.{some_listed, unknown_field}
use Rattle.rustc_abi.proofs.lay_ordered.ordered_layout.Goals as goal

pub returns-in_err-order-clause-err : goal.returns-in_err-order-clause-err
returns-in_err-order-clause-err c =
    let ps = all_at c.args.nodes.now c.args.children.now in
    let as_many : length (map layout_of ps) ≡ length c.args.children.now = length-map ps layout_of ∙ length-map c.args.children.now (placed_in (types_in c.args.nodes.now)) in
    let P = IsRefused (IsListedInOrder c.args.cx.dl.now c.args.repr.now c.args.kind c.args.order.now (map layout_of ps)) in
    passed_on P _ _ c.from_residual.ensures.1
    (⊎_elim (λ memory. inl memory)
    (λ bad. subst P (sym bad.0) (inr (unknown_field c.args.cx.dl.now c.args.repr.now c.args.kind c.args.order.now (length c.args.children.now) (map layout_of ps) as_many bad.1)))
    c.in_err-order.ensures.err)

pub layout_of_univariant_in_order-answer-requires-clause-fields : goal.layout_of_univariant_in_order-answer-requires-clause-fields
layout_of_univariant_in_order-answer-requires-clause-fields c =
    let ps = all_at c.args.nodes.now c.args.children.now in
    let lent : map (λ r. r.now) (items_of c.as_slice.result) ≡ map layout_of ps =
    ap (map (λ r. r.now)) c.as_slice.ensures ∙ c.in_ok-layouts.ensures in
    rw c.new.ensures
    (All-from_map (IsLawfulLayout c.args.cx.dl.now) (λ r. r.now) (items_of c.as_slice.result)
    (subst (All (IsLawfulLayout c.args.cx.dl.now)) (sym lent) (All-map (IsLawfulLayout c.args.cx.dl.now) layout_of ps c.requires.lawful)))

pub layout_of_univariant_in_order-answer-requires-clause-tail : goal.layout_of_univariant_in_order-answer-requires-clause-tail
layout_of_univariant_in_order-answer-requires-clause-tail c =
    let ps = all_at c.args.nodes.now c.args.children.now in
    let lent : map (λ r. r.now) (items_of c.as_slice.result) ≡ map layout_of ps =
    ap (map (λ r. r.now)) c.as_slice.ensures ∙ c.in_ok-layouts.ensures in
    let as_many : length c.args.children.now ≡ length (items_of c.as_slice.result) =
    sym (length-map ps layout_of ∙ length-map c.args.children.now (placed_in (types_in c.args.nodes.now))) ∙ sym (ap length lent) ∙ length-map (items_of c.as_slice.result) (λ r. r.now) in
    subst (IsNonEmptyIfUnsized c.args.kind) as_many (some_listed c.args.kind (length c.args.children.now) c.requires.kind)

pub returns-clause-ok : goal.returns-clause-ok
returns-clause-ok c =
    let lent = ap (map (λ r. r.now)) c.as_slice.ensures ∙ c.in_ok-layouts.ensures in
    let exact = rw (c.new.ensures, c.deref.ensures.value, map-id, c.in_ok-order.ensures.ok) at c.in_ok-answer.ensures.exact in
    ordered_ok (λ r. r.now) c.args.cx.dl.now c.args.repr.now c.args.kind c.args.order.now (items_of c.as_slice.result) _ _ lent exact

pub returns-in_err-answer-clause-err : goal.returns-in_err-answer-clause-err
returns-in_err-answer-clause-err c =
    let lent = ap (map (λ r. r.now)) c.as_slice.ensures ∙ c.in_ok-layouts.ensures in
    let exact = rw (c.new.ensures, c.deref.ensures.value, map-id, c.in_ok-order.ensures.ok) at c.in_err-answer.ensures.exact in
    passed_on _ _ _ c.from_residual-in_err-answer.ensures.1
    (ordered_err (λ r. r.now) c.args.cx.dl.now c.args.repr.now c.args.kind c.args.order.now (items_of c.as_slice.result) _ _ lent exact)

pub returns-clause-apart : goal.returns-clause-apart
returns-clause-apart c =
    let ps = all_at c.args.nodes.now c.args.children.now in
    let hs = items_of c.as_slice.result in
    let lent : map (λ r. r.now) hs ≡ map layout_of ps =
    ap (map (λ r. r.now)) c.as_slice.ensures ∙ c.in_ok-layouts.ensures in
    subst (AreApart c.in_ok-answer.field-0.size (listed_offsets c.in_ok-answer.field-0.fields)) (sizes_by (λ r. r.now) hs ps lent) c.in_ok-answer.ensures.good.apart
