use Rattle.std.proofs.Common.{◌≡◌, map, All, sym, ap, ◌∙◌, subst}
use Rattle.std.specs.Prelude.{IfSome}
use Rattle.std.proofs.lemmas.List.Elements.{All-map}
use Rattle.abi_index.specs.Slice.{items_of}
use Rattle.abi_univariant.specs.Apart.{AreApart}
use Rattle.abi_univariant.specs.ListNiche.{IsNicheOfPart}
use Rattle.abi_scalar.specs.Lawful.{IsLawfulLayout}
use Rattle.abi_scalar.specs.Shape.{listed_offsets}
use Rattle.abi_tree.specs.Placed.{layout_of}
use Rattle.abi_tree.specs.Well.{all_at}
use Rattle.rustc_abi.proofs.Trees.ListLemmas.{listed_ok, listed_err, All-from_map, passed_on, sizes_by}
use Rattle.rustc_abi.proofs.lay_fields.fields_layout.Goals as goal

pub layout_of_univariant-answer-requires-clause-fields : goal.layout_of_univariant-answer-requires-clause-fields
layout_of_univariant-answer-requires-clause-fields c =
    let ps = all_at c.args.nodes.now c.args.children.now in
    let lent : map (λ r. r.now) (items_of c.as_slice.result) ≡ map layout_of ps =
    ap (map (λ r. r.now)) c.as_slice.ensures ∙ c.in_ok-layouts.ensures in
    rw c.new.ensures
    (All-from_map (IsLawfulLayout c.args.cx.dl.now) (λ r. r.now) (items_of c.as_slice.result)
    (subst (All (IsLawfulLayout c.args.cx.dl.now)) (sym lent) (All-map (IsLawfulLayout c.args.cx.dl.now) layout_of ps c.requires.lawful)))

pub returns-clause-ok : goal.returns-clause-ok
returns-clause-ok c =
    let lent = ap (map (λ r. r.now)) c.as_slice.ensures ∙ c.in_ok-layouts.ensures in
    let exact = rw c.new.ensures at c.in_ok-answer.ensures.exact in
    listed_ok (λ r. r.now) c.args.cx.dl.now c.args.repr.now c.args.kind (items_of c.as_slice.result) _ _ lent exact

pub returns-in_err-answer-clause-err : goal.returns-in_err-answer-clause-err
returns-in_err-answer-clause-err c =
    let lent = ap (map (λ r. r.now)) c.as_slice.ensures ∙ c.in_ok-layouts.ensures in
    let exact = rw c.new.ensures at c.in_err-answer.ensures.exact in
    passed_on _ _ _ c.from_residual-in_err-answer.ensures.1 (listed_err (λ r. r.now) c.args.cx.dl.now c.args.repr.now c.args.kind (items_of c.as_slice.result) _ _ lent exact)

pub returns-clause-apart : goal.returns-clause-apart
returns-clause-apart c =
    let ps = all_at c.args.nodes.now c.args.children.now in
    let hs = items_of c.as_slice.result in
    let lent : map (λ r. r.now) hs ≡ map layout_of ps =
    ap (map (λ r. r.now)) c.as_slice.ensures ∙ c.in_ok-layouts.ensures in
    subst (AreApart c.in_ok-answer.field-0.size (listed_offsets c.in_ok-answer.field-0.fields)) (sizes_by (λ r. r.now) hs ps lent) c.in_ok-answer.ensures.good.apart

pub returns-clause-niche : goal.returns-clause-niche
returns-clause-niche c =
    let lent = ap (map (λ r. r.now)) c.as_slice.ensures ∙ c.in_ok-layouts.ensures in
    subst (λ layouts. IfSome c.in_ok-answer.field-0.largest_niche (IsNicheOfPart (listed_offsets c.in_ok-answer.field-0.fields) layouts)) lent c.in_ok-answer.ensures.good.niche
