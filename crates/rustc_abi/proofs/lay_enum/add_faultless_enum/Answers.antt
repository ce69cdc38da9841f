use Rattle.std.proofs.Common.{◌≡◌, List, arith, length, subst}
use Rattle.std.proofs.lemmas.List.{length-map}
use Rattle.std.proofs.lemmas.Result.{IfOk-weaker}
use Rattle.abi_tree.specs.Placed.{Placed}
use Rattle.abi_tree.specs.Well.{all_at}
use Rattle.rustc_abi.specs.Adding.{HasVariants, variants_in}
use Rattle.rustc_abi.proofs.Enums.AddedEnumLemmas.{IsAdded-enum-as, enum_refused, enumed_nodes}
use Rattle.rustc_abi.proofs.Enums.EnumPlacesLemmas.{enum_places, few_nodes}
use Rattle.rustc_abi.proofs.Faults.FaultlessLemmas.{few_fields, few_variants}
use Rattle.rustc_abi.proofs.Trees.ListLemmas.{passed_on}
use Rattle.rustc_abi.proofs.lay_enum.add_faultless_enum.Goals as goal

pub enum_layout-requires-clause-lawful : goal.enum_layout-requires-clause-lawful
enum_layout-requires-clause-lawful c = rw c.deref.ensures.value c.requires.lawful

pub add_placed-requires-clause-tag : goal.add_placed-requires-clause-tag
add_placed-requires-clause-tag c =
    let ns = c.args.nodes.now in
    let variants : List (List Placed) = variants_in ns c.args.children.items in
    let long : length c.args.numbers.now ≡ length variants = omega (arith, c.requires.each, length-map c.args.children.items (λ fields. all_at ns fields.items)) in
    let enumed = rw c.deref.ensures.value at c.in_ok-layout.ensures.ok in
    (enumed_nodes c.args.cx.dl.now c.requires.data_layout c.args.repr.now c.args.numbers.now variants c.in_ok-layout.layout c.requires.faultless long c.requires.lawful enumed).1

pub add_placed-requires-clause-variants : goal.add_placed-requires-clause-variants
add_placed-requires-clause-variants c =
    let ns = c.args.nodes.now in
    let variants : List (List Placed) = variants_in ns c.args.children.items in
    let count : length variants ≡ length c.args.children.items = length-map c.args.children.items (λ fields. all_at ns fields.items) in
    let long : length c.args.numbers.now ≡ length variants = omega (arith, c.requires.each, count) in
    let enumed = rw c.deref.ensures.value at c.in_ok-layout.ensures.ok in
    subst (λ n. HasVariants n c.in_ok-layout.layout.variants) count
    (enumed_nodes c.args.cx.dl.now c.requires.data_layout c.args.repr.now c.args.numbers.now variants c.in_ok-layout.layout c.requires.faultless long c.requires.lawful enumed).0

pub add_placed-requires-clause-few : goal.add_placed-requires-clause-few
add_placed-requires-clause-few c =
    let ns = c.args.nodes.now in
    let few = few_variants c.args.cx.dl.now c.args.repr.now c.args.numbers.now (variants_in ns c.args.children.items) c.requires.faultless in
    omega (arith, few, length-map c.args.children.items (λ fields. all_at ns fields.items))

pub add_placed-requires-clause-few_each : goal.add_placed-requires-clause-few_each
add_placed-requires-clause-few_each c =
    let ns = c.args.nodes.now in
    few_nodes ns c.args.children.items (few_fields c.args.cx.dl.now c.args.repr.now c.args.numbers.now (variants_in ns c.args.children.items) c.requires.faultless)

pub add_placed-requires-clause-places : goal.add_placed-requires-clause-places
add_placed-requires-clause-places c =
    let ns = c.args.nodes.now in
    let variants : List (List Placed) = variants_in ns c.args.children.items in
    let long : length c.args.numbers.now ≡ length variants = omega (arith, c.requires.each, length-map c.args.children.items (λ fields. all_at ns fields.items)) in
    let enumed = rw c.deref.ensures.value at c.in_ok-layout.ensures.ok in
    enum_places c.args.cx.dl.now c.requires.data_layout c.args.repr.now c.args.numbers.now variants c.requires.faultless long c.requires.lawful c.in_ok-layout.layout enumed

pub returns-clause-ok : goal.returns-clause-ok
returns-clause-ok c =
    let ns = c.args.nodes.now in
    let variants : List (List Placed) = variants_in ns c.args.children.items in
    let enumed = rw c.deref.ensures.value at c.in_ok-layout.ensures.ok in
    IfOk-weaker c.add_placed.result _ _
    (λ i put all is exact fits. IsAdded-enum-as c.args.cx.dl.now c.requires.data_layout _ _ i c.args.repr.now c.args.numbers.now variants c.in_ok-layout.layout all is c.requires.faultless enumed put exact fits)
    c.add_placed.ensures.ok

pub returns-in_err-layout-clause-err : goal.returns-in_err-layout-clause-err
returns-in_err-layout-clause-err c =
    let refused = rw c.deref.ensures.value at c.in_err-layout.ensures.err in
    passed_on _ _ _ c.from_residual.ensures.1 (enum_refused c.args.cx.dl.now c.args.repr.now c.args.numbers.now _ _ c.requires.faultless refused)
