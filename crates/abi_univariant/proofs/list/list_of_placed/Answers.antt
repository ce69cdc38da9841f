use Rattle.std.proofs.Common.{arith, ◌≡◌, ◌^◌, ◌≤◌, length, map, sym, ap, ap₂, subst, ◌∙◌, refl}
use Rattle.std.specs.Int.{next_multiple_of}
use Rattle.abi_base.specs.DataLayout.{size_bound}
use Rattle.abi_scalar.specs.declared.fields_shape.FieldsShape.TheVariants.{Arbitrary}
use Rattle.abi_univariant.specs.declared.fields_repr.FieldsRepr.{FieldsRepr}
use Rattle.abi_univariant.specs.List.{unadjusted_of}
use Rattle.abi_univariant.specs.Part.{parts_of}
use Rattle.abi_univariant.specs.Placement.{IsWellFormedRepr, IsNonEmptyIfUnsized, align_of, end_from, in_order, start_of}
use Rattle.abi_univariant.proofs.Views.LawfulList.{made_lawful}
use Rattle.abi_univariant.proofs.Sorted.Least.{align_small}
use Rattle.abi_univariant.proofs.Layouts.ListLemmas.{seed_same, view_same, length-parts, parts_lawful, repr_lawful}
use Rattle.abi_univariant.proofs.Promised.OrderedLemmas.{ordered_index, ordered_inside}
use Rattle.abi_univariant.proofs.Placed.RunLemmas.{aligned_parts}
use Rattle.abi_univariant.proofs.list.list_of_placed.Goals as goal

pub list_view-view-requires-clause-parts : goal.list_view-view-requires-clause-parts
list_view-view-requires-clause-parts g c = rw c.new-parts.ensures (parts_lawful g.F.LayoutHandle.layout_of c.args.dl.now c.args.fields.now c.requires.fields)

pub list_view-view-requires-clause-count : goal.list_view-view-requires-clause-count
list_view-view-requires-clause-count g c = ap length c.deref.ensures.value ∙ c.requires.placed.placed.count ∙ sym (ap length c.new-parts.ensures)

pub from_raw-offsets-requires : goal.from_raw-offsets-requires
from_raw-offsets-requires g c =
    let many : length (parts_of c.args.dl.now (map g.F.LayoutHandle.layout_of c.args.fields.now)) ≡ length c.args.fields.now = length-parts g.F.LayoutHandle.layout_of c.args.dl.now c.args.fields.now in
    let long : length c.args.placed.offsets.items ≡ length c.args.fields.now = c.requires.placed.placed.count ∙ many in
    omega (arith, long, c.requires.count)

pub returns-clause-shape : goal.returns-clause-shape
returns-clause-shape g c = ap₂ (λ os fields. Arbitrary os fields) c.from_raw-offsets.ensures c.into_fields.ensures

pub returns-clause-view : goal.returns-clause-view
returns-clause-view g c =
    c.list_view-view.ensures
    ∙ view_same c.args.dl.now c.inhibit_newtype_abi_optimization-fixed.result _ c.args.placed.size c.args.placed.align c.args.placed.align c.new-parts.result (parts_of c.args.dl.now (map g.F.LayoutHandle.layout_of c.args.fields.now)) c.deref.result.now c.args.placed.offsets.items
    c.inhibit_newtype_abi_optimization-fixed.ensures refl (c.new-parts.ensures) c.deref.ensures.value

pub returns-clause-unadjusted : goal.returns-clause-unadjusted
returns-clause-unadjusted g c =
    c.unadjusted_align-unadjusted_abi_align.ensures
    ∙ (λ i. unadjusted_of c.args.dl.now c.args.repr.now c.args.list.now.kind c.args.placed.size c.args.placed.align (c.new-parts.ensures i))

pub returns-clause-seed : goal.returns-clause-seed
returns-clause-seed g c = c.seed_with.ensures ∙ seed_same g.F.LayoutHandle.layout_of c.args.repr.now c.args.list.now.kind c.args.fields.now c.movable_front.result.now c.movable_front.ensures

pub returns-clause-lawful : goal.returns-clause-lawful
returns-clause-lawful g c =
    let many : length (parts_of c.args.dl.now (map g.F.LayoutHandle.layout_of c.args.fields.now)) ≡ length c.args.fields.now = length-parts g.F.LayoutHandle.layout_of c.args.dl.now c.args.fields.now in
    let tail : IsNonEmptyIfUnsized c.args.list.now.kind (length (parts_of c.args.dl.now (map g.F.LayoutHandle.layout_of c.args.fields.now))) = subst (IsNonEmptyIfUnsized c.args.list.now.kind) (sym many) c.requires.tail in
    let b = c.requires.placed in
    let law = parts_lawful g.F.LayoutHandle.layout_of c.args.dl.now c.args.fields.now c.requires.fields in
    let all = repr_lawful c.args.dl.now c.args.repr.now c.args.list.now.kind (length (parts_of c.args.dl.now (map g.F.LayoutHandle.layout_of c.args.fields.now))) c.requires.data_layout c.requires.repr c.requires.prefix tail in
    let listed = subst (λ (r : FieldsRepr). IsWellFormedRepr r (length (parts_of c.args.dl.now (map g.F.LayoutHandle.layout_of c.args.fields.now))) (size_bound c.args.dl.now)) (sym c.requires.list) all in
    let small : align_of c.args.list.now (parts_of c.args.dl.now (map g.F.LayoutHandle.layout_of c.args.fields.now)) ≤ 29 = align_small c.args.list.now (parts_of c.args.dl.now (map g.F.LayoutHandle.layout_of c.args.fields.now)) (length (parts_of c.args.dl.now (map g.F.LayoutHandle.layout_of c.args.fields.now))) (size_bound c.args.dl.now) (aligned_parts c.args.dl.now (parts_of c.args.dl.now (map g.F.LayoutHandle.layout_of c.args.fields.now)) law) listed in
    let least : c.args.placed.align ≤ 29 = omega (arith, b.placed.alignment, small) in
    let size : c.args.placed.size ≡ next_multiple_of (end_from c.args.list.now.pack (start_of c.args.list.now.pack c.args.list.now.kind) (in_order (parts_of c.args.dl.now (map g.F.LayoutHandle.layout_of c.args.fields.now)) c.args.placed.order)) (2 ^ c.args.placed.align)
    = b.placed.extent ∙ ap (λ a. next_multiple_of (end_from c.args.list.now.pack (start_of c.args.list.now.pack c.args.list.now.kind) (in_order (parts_of c.args.dl.now (map g.F.LayoutHandle.layout_of c.args.fields.now)) c.args.placed.order)) (2 ^ a)) (sym b.placed.alignment) in
    let view = c.list_view-view.ensures ∙ view_same c.args.dl.now c.inhibit_newtype_abi_optimization-fixed.result c.inhibit_newtype_abi_optimization-fixed.result c.args.placed.size c.args.placed.align c.args.placed.align c.new-parts.result (parts_of c.args.dl.now (map g.F.LayoutHandle.layout_of c.args.fields.now)) c.deref.result.now c.args.placed.offsets.items
    refl refl (c.new-parts.ensures) c.deref.ensures.value in
    made_lawful c.args.dl.now _ c.new.result _ c.args.placed.align c.inhibit_newtype_abi_optimization-fixed.result (parts_of c.args.dl.now (map g.F.LayoutHandle.layout_of c.args.fields.now)) c.args.placed.offsets.items
    law refl least size c.requires.fits
    (ordered_inside c.args.dl.now c.args.list.now (parts_of c.args.dl.now (map g.F.LayoutHandle.layout_of c.args.fields.now)) c.args.placed.order c.args.placed.offsets.items c.args.placed.size c.args.placed.align c.args.placed.largest_niche law b)
    (ordered_index c.args.dl.now c.args.list.now (parts_of c.args.dl.now (map g.F.LayoutHandle.layout_of c.args.fields.now)) c.args.placed.order c.args.placed.offsets.items c.args.placed.size c.args.placed.align c.args.placed.largest_niche b) view refl
