use Rattle.std.proofs.Common.{◌≡◌, length, arith}
use Rattle.std.proofs.lemmas.List.{length-map}
use Rattle.std.proofs.lemmas.Result.{IfOk-weaker}
use Rattle.abi_tree.specs.Nodes.{placed_in, types_in}
use Rattle.abi_tree.specs.Well.{all_at}
use Rattle.rustc_abi.proofs.Trees.LayLemmas.{faultless_few, faultless_aligns}
use Rattle.rustc_abi.proofs.Unions.TogetherLemmas.{IsAdded-union, union_refused}
use Rattle.rustc_abi.proofs.Places.LawsLemmas.{union_places}
use Rattle.rustc_abi.proofs.Trees.ListLemmas.{all_below, passed_on}
use Rattle.rustc_abi.proofs.Sizes.CountLemmas.{both_ok, own_put}
use Rattle.rustc_abi.proofs.lay_union.add_faultless_union.Goals as goal

pub union_layout-requires-clause-aligns : goal.union_layout-requires-clause-aligns
union_layout-requires-clause-aligns c = faultless_aligns c.args.repr.now _ c.requires.faultless

pub union_layout-requires-clause-count : goal.union_layout-requires-clause-count
union_layout-requires-clause-count c =
    let ps = all_at c.args.nodes.now c.args.children.items in
    let as_many : length ps ≡ length c.args.children.items = length-map c.args.children.items (placed_in (types_in c.args.nodes.now)) in
    rw c.deref.ensures.value (omega (arith, faultless_few c.args.repr.now ps c.requires.faultless, as_many))

pub union_layout-requires-clause-lawful : goal.union_layout-requires-clause-lawful
union_layout-requires-clause-lawful c = rw c.deref.ensures.value c.requires.lawful

pub add-requires-clause-laws : goal.add-requires-clause-laws
add-requires-clause-laws c =
    let ns = c.args.nodes.now in
    let ps = all_at ns c.args.children.items in
    let as_many : length ps ≡ length c.args.children.items = length-map c.args.children.items (placed_in (types_in ns)) in
    let united = rw c.deref.ensures.value at c.in_ok-layout.ensures.ok in
    union_places c.args.cx.dl.now c.args.repr.now (types_in ns) c.in_ok-layout.layout c.args.children.items united (omega (arith, faultless_few c.args.repr.now ps c.requires.faultless, as_many))

pub add-requires-clause-earlier : goal.add-requires-clause-earlier
add-requires-clause-earlier c = all_below _ c.args.children.items c.requires.there

pub returns-clause-ok : goal.returns-clause-ok
returns-clause-ok c =
    let united = rw c.deref.ensures.value at c.in_ok-layout.ensures.ok in
    IfOk-weaker c.add.result _ _
    (λ i put ts laid fits. IsAdded-union c.args.cx.dl.now _ _ i c.args.repr.now _ _ ts c.requires.faultless united c.in_ok-layout.ensures.lawful put laid fits)
    (rw c.of.ensures at c.add.ensures.ok)

pub returns-in_err-layout-clause-err : goal.returns-in_err-layout-clause-err
returns-in_err-layout-clause-err c =
    let refused = rw c.deref.ensures.value at c.in_err-layout.ensures.err in
    passed_on _ _ _ c.from_residual.ensures.1 (union_refused c.args.cx.dl.now c.args.repr.now _ _ c.requires.faultless refused)

pub returns-clause-own : goal.returns-clause-own
returns-clause-own c =
    both_ok c.add.result _ _ _ c.add.ensures.ok c.add.ensures.count
    (λ i put count. own_put c.args.nodes.now c.args.nodes.now c.add.new.nodes i _ put count)
