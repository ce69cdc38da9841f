use Rattle.std.proofs.Common.{◌≡◌, arith, ℕ, List, Option, length, map, sym, ap, subst, ◌∙◌}
use Rattle.abi_base.specs.DataLayout.{size_bound}
use Rattle.abi_univariant.specs.declared.fields_repr.FieldsRepr.{FieldsRepr}
use Rattle.abi_univariant.specs.declared.order.NicheBias.TheVariants.{Start}
use Rattle.abi_univariant.specs.declared.part.Part.{Part}
use Rattle.abi_base.specs.declared.data_layout.TargetDataLayout.{TargetDataLayout}
use Rattle.abi_scalar.specs.declared.layout_data.LayoutData.{LayoutData}
use Rattle.abi_scalar.specs.declared.niche.Niche.{Niche}
use Rattle.abi_univariant.specs.Part.{parts_of}
use Rattle.abi_univariant.specs.Placement.{IsWellFormedRepr, IsNonEmptyIfUnsized}
use Rattle.abi_univariant.specs.Run.{IsFaultOf, IsInOrder, IsNamedLayout}
use Rattle.abi_univariant.proofs.Promised.DeepLemmas.{in_order_of}
use Rattle.abi_univariant.proofs.Layouts.ListLemmas.{error_exact, fault_named, length-parts, parts_lawful, repr_lawful}
use Rattle.abi_univariant.proofs.Placed.RunLemmas.{biased_of}
use Rattle.abi_univariant.proofs.list.list_of_slice.Goals as goal

-- a list that was laid out in a named order lies in an allowed one
laid_in_order : {F V H : Type 0} (layout_of : H → LayoutData F V) (dl : TargetDataLayout) (list : FieldsRepr) (hs : List H) (parts : List Part) (order offsets : List ℕ) (size align : ℕ) (niche : Option Niche)
    → parts ≡ parts_of dl (map layout_of hs) → IsNonEmptyIfUnsized list.kind (length hs) → IsNamedLayout dl list parts order offsets size align niche
    → IsInOrder dl list (parts_of dl (map layout_of hs)) order offsets size align niche
laid_in_order layout_of dl list hs parts order offsets size align niche read some named =
    let all = parts_of dl (map layout_of hs) in
    let tail = subst (IsNonEmptyIfUnsized list.kind) (sym (length-parts layout_of dl hs)) some in
    in_order_of dl list all order offsets size align niche tail (biased_of dl list all order offsets size align niche
    (subst (λ (ps : List Part). IsNamedLayout dl list ps order offsets size align niche) read named))

pub layout_of_parts-requires-clause-lawful : goal.layout_of_parts-requires-clause-lawful
layout_of_parts-requires-clause-lawful g c =
    rw c.new-parts.ensures (parts_lawful g.F.LayoutHandle.layout_of c.args.dl.now c.args.fields.now c.requires.fields)

pub layout_of_parts-requires-clause-repr : goal.layout_of_parts-requires-clause-repr
layout_of_parts-requires-clause-repr g c =
    let many : length c.new-parts.result ≡ length c.args.fields.now = ap length (c.new-parts.ensures) ∙ length-parts g.F.LayoutHandle.layout_of c.args.dl.now c.args.fields.now in
    let all = repr_lawful c.args.dl.now c.args.repr.now c.args.list.now.kind (length c.args.fields.now) c.requires.data_layout c.requires.repr c.requires.prefix c.requires.tail in
    subst (λ (n : ℕ). IsWellFormedRepr c.args.list.now n (size_bound c.args.dl.now)) (sym many)
    (subst (λ (r : FieldsRepr). IsWellFormedRepr r (length c.args.fields.now) (size_bound c.args.dl.now)) (sym c.requires.list) all)

pub error_of-requires : goal.error_of-requires
error_of-requires g c =
    let many : length c.new-parts.result ≡ length c.args.fields.now = ap length (c.new-parts.ensures) ∙ length-parts g.F.LayoutHandle.layout_of c.args.dl.now c.args.fields.now in
    let tail : IsNonEmptyIfUnsized c.args.list.now.kind (length c.new-parts.result) = rw many c.requires.tail in
    rw (← many) (fault_named c.args.list.now c.args.dl.now c.new-parts.result c.in-Err.fault tail c.in-Err.ensures.fault)

pub returns-in-Err-clause-exact : goal.returns-in-Err-clause-exact
returns-in-Err-clause-exact g c =
    let read : c.new-parts.result ≡ parts_of c.args.dl.now (map g.F.LayoutHandle.layout_of c.args.fields.now) = c.new-parts.ensures in
    let many : length (parts_of c.args.dl.now (map g.F.LayoutHandle.layout_of c.args.fields.now)) ≡ length c.args.fields.now = length-parts g.F.LayoutHandle.layout_of c.args.dl.now c.args.fields.now in
    let tail : IsNonEmptyIfUnsized c.args.list.now.kind (length (parts_of c.args.dl.now (map g.F.LayoutHandle.layout_of c.args.fields.now))) = subst (IsNonEmptyIfUnsized c.args.list.now.kind) (sym many) c.requires.tail in
    let fault : IsFaultOf c.args.dl.now c.args.list.now Start (parts_of c.args.dl.now (map g.F.LayoutHandle.layout_of c.args.fields.now)) c.in-Err.fault = subst (λ (ps : List Part). IsFaultOf c.args.dl.now c.args.list.now Start ps c.in-Err.fault) read c.in-Err.ensures.fault in
    error_exact g.F.LayoutHandle.layout_of c.args.dl.now c.args.repr.now c.args.list.now.kind c.args.list.now c.args.fields.now c.in-Err.fault c.error_of.result fault c.error_of.ensures c.requires.list

pub list_of_placed-requires-clause-placed : goal.list_of_placed-requires-clause-placed
list_of_placed-requires-clause-placed g c = laid_in_order g.F.LayoutHandle.layout_of c.args.dl.now c.args.list.now c.args.fields.now c.new-parts.result c.in-Ok.placed.order c.in-Ok.placed.offsets.items c.in-Ok.placed.size c.in-Ok.placed.align c.in-Ok.placed.largest_niche c.new-parts.ensures c.requires.tail c.in-Ok.ensures.named

pub layout_of_parts-requires-clause-count : goal.layout_of_parts-requires-clause-count
layout_of_parts-requires-clause-count g c =
    let many : length c.new-parts.result ≡ length c.args.fields.now = ap length (c.new-parts.ensures) ∙ length-parts g.F.LayoutHandle.layout_of c.args.dl.now c.args.fields.now in
    omega (arith, many, c.requires.count)

pub returns-clause-exact : goal.returns-clause-exact
returns-clause-exact g c =
    let named = subst (λ (r : FieldsRepr). IsNamedLayout c.args.dl.now r (parts_of c.args.dl.now (map g.F.LayoutHandle.layout_of c.args.fields.now)) c.in-Ok.placed.order c.in-Ok.placed.offsets.items c.in-Ok.placed.size c.in-Ok.placed.align c.in-Ok.placed.largest_niche) c.requires.list
    (subst (λ (ps : List Part). IsNamedLayout c.args.dl.now c.args.list.now ps c.in-Ok.placed.order c.in-Ok.placed.offsets.items c.in-Ok.placed.size c.in-Ok.placed.align c.in-Ok.placed.largest_niche) c.new-parts.ensures c.in-Ok.ensures.named) in
    let made = c.list_of_placed.ensures in (
      c.in-Ok.placed.order,
      c.in-Ok.placed.offsets.items,
      record {
        named = rw (made.size, made.align, made.niche) named;
        shape = made.shape;
        variants = made.variants;
        view = made.view;
        uninhabited = made.uninhabited;
        max_repr_align = made.max_repr_align;
        unadjusted_abi_align = made.unadjusted;
        repr_c = made.repr_c;
        seed = made.seed;
      },
    )
