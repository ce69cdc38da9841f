use Rattle.std.proofs.Common.{◌≡◌, map, All, sym, ap, ◌∙◌, subst}
use Rattle.std.proofs.lemmas.List.Elements.{All-map}
use Rattle.abi_index.specs.Slice.{items_of}
use Rattle.abi_univariant.specs.Union.{only_of}
use Rattle.abi_scalar.specs.Lawful.{IsLawfulLayout}
use Rattle.abi_tree.specs.Placed.{layout_of}
use Rattle.abi_tree.specs.Well.{all_at}
use Rattle.rustc_abi.proofs.Trees.ListLemmas.{All-from_map, passed_on}
use Rattle.rustc_abi.proofs.Unions.CalcLemmas.{united_ok, united_err}
use Rattle.rustc_abi.proofs.lay_union.union_layout.Goals as goal

pub layout_of_union-answer-requires-clause-fields : goal.layout_of_union-answer-requires-clause-fields
layout_of_union-answer-requires-clause-fields c =
    let ps = all_at c.args.nodes.now c.args.children.now in
    let hs = only_of (items_of c.new-2.result) in
    let lent : map (λ r. r.now) hs ≡ map layout_of ps = ap (λ v. map (λ r. r.now) (only_of v)) c.new-2.ensures ∙ c.in_ok-layouts_at.ensures in
    rw c.new.ensures
    (All-from_map (IsLawfulLayout c.args.cx.dl.now) (λ r. r.now) hs
    (subst (All (IsLawfulLayout c.args.cx.dl.now)) (sym lent) (All-map (IsLawfulLayout c.args.cx.dl.now) layout_of ps c.requires.lawful)))

pub layout_of_union-answer-requires-clause-align : goal.layout_of_union-answer-requires-clause-align
layout_of_union-answer-requires-clause-align c = c.requires.aligns.align

pub returns-clause-ok : goal.returns-clause-ok
returns-clause-ok c =
    let hs = only_of (items_of c.new-2.result) in
    let lent = ap (λ v. map (λ r. r.now) (only_of v)) c.new-2.ensures ∙ c.in_ok-layouts_at.ensures in
    let exact = rw c.new.ensures at c.in_ok-answer.ensures.exact in
    united_ok (λ r. r.now) c.args.cx.dl.now c.args.repr.now hs _ _ lent exact

pub returns-in_err-answer-clause-err : goal.returns-in_err-answer-clause-err
returns-in_err-answer-clause-err c =
    let hs = only_of (items_of c.new-2.result) in
    let lent = ap (λ v. map (λ r. r.now) (only_of v)) c.new-2.ensures ∙ c.in_ok-layouts_at.ensures in
    let exact = rw c.new.ensures at c.in_err-answer.ensures.exact in
    passed_on _ _ _ c.from_residual-in_err-answer.ensures.1 (united_err (λ r. r.now) c.args.cx.dl.now c.args.repr.now hs _ _ lent exact)
