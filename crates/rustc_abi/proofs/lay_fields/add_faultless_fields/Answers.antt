use Rattle.std.proofs.Common.{◌≡◌, ⊎_elim, inl, inr, Ok, map, length, arith, ◌∙◌, subst}
use Rattle.std.proofs.lemmas.List.{length-map}
use Rattle.std.proofs.lemmas.Result.{IfOk-weaker}
use Rattle.abi_tree.specs.Placed.{layout_of}
use Rattle.abi_tree.specs.Nodes.{placed_in, types_in}
use Rattle.rustc_abi.specs.Laying.{IsLaidList}
use Rattle.rustc_abi.specs.Error.{IsRefused}
use Rattle.abi_tree.specs.Well.{all_at}
use Rattle.rustc_abi.proofs.Trees.LayLemmas.{IsAdded-fields, faultless_few, faultless_aligns, kind_cases, fields_refused}
use Rattle.rustc_abi.proofs.Places.LawsLemmas.{list_places}
use Rattle.rustc_abi.proofs.Trees.ListLemmas.{all_below, passed_on}
use Rattle.rustc_abi.proofs.Sizes.CountLemmas.{both_ok, own_put}
use Rattle.rustc_abi.proofs.lay_fields.add_faultless_fields.Goals as goal

pub fields_layout-requires-clause-kind : goal.fields_layout-requires-clause-kind
fields_layout-requires-clause-kind c =
    let ps = all_at c.args.nodes.now c.args.children.items in
    let as_many : length ps ≡ length c.args.children.items = length-map c.args.children.items (placed_in (types_in c.args.nodes.now)) in
    let kind = c.kind_of-kind.ensures ps (rw c.deref.ensures.value as_many) in
    ⊎_elim (λ e. inl (kind ∙ e)) (λ h. inr (kind ∙ h.0, rw c.deref-2.ensures.value (omega (arith, h.1, as_many)))) (kind_cases c.args.always_sized ps)

pub fields_layout-requires-clause-aligns : goal.fields_layout-requires-clause-aligns
fields_layout-requires-clause-aligns c = faultless_aligns c.args.repr.now _ c.requires.faultless

pub fields_layout-requires-clause-count : goal.fields_layout-requires-clause-count
fields_layout-requires-clause-count c =
    let ps = all_at c.args.nodes.now c.args.children.items in
    let as_many : length ps ≡ length c.args.children.items = length-map c.args.children.items (placed_in (types_in c.args.nodes.now)) in
    rw c.deref-2.ensures.value (omega (arith, faultless_few c.args.repr.now ps c.requires.faultless, as_many))

pub fields_layout-requires-clause-lawful : goal.fields_layout-requires-clause-lawful
fields_layout-requires-clause-lawful c = rw c.deref-2.ensures.value c.requires.lawful

pub add-requires-clause-laws : goal.add-requires-clause-laws
add-requires-clause-laws c =
    let dl = c.args.cx.dl.now in
    let ns = c.args.nodes.now in
    let ps = all_at ns c.args.children.items in
    let as_many : length ps ≡ length c.args.children.items = length-map c.args.children.items (placed_in (types_in ns)) in
    let tag_distinguishes = rw c.deref-2.ensures.value at c.in_ok-layout.ensures.ok in
    let apart = rw c.deref-2.ensures.value at c.in_ok-layout.ensures.apart in
    list_places dl c.args.repr.now _ (types_in ns) _ _ c.in_ok-layout.layout c.args.children.items tag_distinguishes.2 apart (omega (arith, faultless_few c.args.repr.now ps c.requires.faultless, as_many))

pub add-requires-clause-earlier : goal.add-requires-clause-earlier
add-requires-clause-earlier c = all_below _ c.args.children.items c.requires.there

pub returns-clause-ok : goal.returns-clause-ok
returns-clause-ok c =
    let dl = c.args.cx.dl.now in
    let ps = all_at c.args.nodes.now c.args.children.items in
    let as_many : length ps ≡ length c.args.children.items = length-map c.args.children.items (placed_in (types_in c.args.nodes.now)) in
    let kind = c.kind_of-kind.ensures ps (rw c.deref.ensures.value as_many) in
    let tag_distinguishes = rw c.deref-2.ensures.value at c.in_ok-layout.ensures.ok in
    let listed = subst (λ k. IsLaidList dl c.args.repr.now k (map layout_of ps) (Ok c.in_ok-layout.layout)) kind tag_distinguishes in
    let apart = rw c.deref-2.ensures.value at c.in_ok-layout.ensures.apart in
    let niche = rw c.deref-2.ensures.value at c.in_ok-layout.ensures.niche in
    IfOk-weaker c.add.result _ _
    (λ i put ts laid fits. IsAdded-fields dl _ _ i c.args.repr.now c.args.always_sized ps _ ts c.requires.faultless listed c.in_ok-layout.ensures.lawful niche apart put laid fits)
    (rw c.of.ensures at c.add.ensures.ok)

pub returns-in_err-layout-clause-err : goal.returns-in_err-layout-clause-err
returns-in_err-layout-clause-err c =
    let dl = c.args.cx.dl.now in
    let ps = all_at c.args.nodes.now c.args.children.items in
    let as_many : length ps ≡ length c.args.children.items = length-map c.args.children.items (placed_in (types_in c.args.nodes.now)) in
    let kind = c.kind_of-kind.ensures ps (rw c.deref.ensures.value as_many) in
    let tag_distinguishes = rw c.deref-2.ensures.value at c.in_err-layout.ensures.err in
    let refused = subst (λ k. IsRefused (IsLaidList dl c.args.repr.now k (map layout_of ps)) c.in_err-layout.field-0.0) kind tag_distinguishes in
    passed_on _ _ _ c.from_residual.ensures.1 (fields_refused dl c.args.repr.now c.args.always_sized ps _ c.requires.faultless refused)

pub returns-clause-own : goal.returns-clause-own
returns-clause-own c =
    both_ok c.add.result _ _ _ c.add.ensures.ok c.add.ensures.count
    (λ i put count. own_put c.args.nodes.now c.args.nodes.now c.add.new.nodes i _ put count)
