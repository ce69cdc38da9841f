use Rattle.std.proofs.Common.{◌≡◌, ℕ, List, Option, length, map, sym, ap, subst, ◌∙◌}
use Rattle.std.specs.Prelude.{IsPermutation}
use Rattle.std.proofs.lemmas.List.{length-map}
use Rattle.abi_base.specs.DataLayout.{size_bound}
use Rattle.abi_scalar.specs.declared.fields_shape.FieldsShape.TheVariants.{Arbitrary}
use Rattle.abi_univariant.specs.declared.fields_repr.FieldsRepr.{FieldsRepr}
use Rattle.abi_univariant.specs.declared.order.NicheBias.TheVariants.{Start}
use Rattle.abi_univariant.specs.declared.part.Part.{Part}
use Rattle.abi_base.specs.declared.data_layout.TargetDataLayout.{TargetDataLayout}
use Rattle.abi_scalar.specs.declared.layout_data.LayoutData.{LayoutData}
use Rattle.abi_scalar.specs.declared.niche.Niche.{Niche}
use Rattle.abi_univariant.specs.Part.{parts_of}
use Rattle.abi_univariant.specs.Placement.{IsAllowed, IsWellFormedRepr, source_order}
use Rattle.abi_univariant.specs.Run.{IsInOrder, IsPlacedIn}
use Rattle.abi_univariant.proofs.Promised.InOrderLemmas.{error_in_order, fault_placed}
use Rattle.abi_univariant.proofs.Sorted.Least.{allowed_permutes}
use Rattle.abi_univariant.proofs.Layouts.ListLemmas.{length-parts, parts_lawful, repr_lawful}
use Rattle.abi_univariant.proofs.in_order.list_in_order.Goals as goal

-- a list that was laid out in an allowed order lies in it
laid_in_order : {F V H : Type 0} (layout_of : H → LayoutData F V) (dl : TargetDataLayout) (list : FieldsRepr) (hs : List H) (parts : List Part) (asked order offsets : List ℕ) (size align : ℕ) (niche : Option Niche)
    → parts ≡ parts_of dl (map layout_of hs) → IsAllowed list (length hs) asked → order ≡ asked → IsPlacedIn dl list Start parts asked offsets size align niche
    → IsInOrder dl list (parts_of dl (map layout_of hs)) order offsets size align niche
laid_in_order layout_of dl list hs parts asked order offsets size align niche read allowed same placed =
    rw same (record {
      allowed = subst (λ (n : ℕ). IsAllowed list n asked) (sym (length-parts layout_of dl hs)) allowed;
      bias = Start;
      placed = subst (λ (ps : List Part). IsPlacedIn dl list Start ps asked offsets size align niche) read placed;
    })

pub placed_in-requires-clause-lawful : goal.placed_in-requires-clause-lawful
placed_in-requires-clause-lawful g c =
    rw c.new-parts.ensures (parts_lawful g.F.LayoutHandle.layout_of c.args.dl.now c.args.fields.now c.requires.fields)

pub placed_in-requires-clause-repr : goal.placed_in-requires-clause-repr
placed_in-requires-clause-repr g c =
    let many : length c.new-parts.result ≡ length c.args.fields.now = ap length (c.new-parts.ensures) ∙ length-parts g.F.LayoutHandle.layout_of c.args.dl.now c.args.fields.now in
    let all = repr_lawful c.args.dl.now c.args.repr.now c.args.list.now.kind (length c.args.fields.now) c.requires.data_layout c.requires.repr c.requires.prefix c.requires.tail in
    subst (λ (n : ℕ). IsWellFormedRepr c.args.list.now n (size_bound c.args.dl.now)) (sym many)
    (subst (λ (r : FieldsRepr). IsWellFormedRepr r (length c.args.fields.now) (size_bound c.args.dl.now)) (sym c.requires.list) all)

pub placed_in-requires-clause-order : goal.placed_in-requires-clause-order
placed_in-requires-clause-order g c =
    let many : length c.new-parts.result ≡ length c.args.fields.now = ap length (c.new-parts.ensures) ∙ length-parts g.F.LayoutHandle.layout_of c.args.dl.now c.args.fields.now in
    subst (λ (n : ℕ). IsPermutation (source_order n) c.args.order) (sym many) (allowed_permutes c.args.list.now (length c.args.fields.now) c.args.order c.requires.order)

pub error_of-requires : goal.error_of-requires
error_of-requires g c =
    let many : length c.new-parts.result ≡ length c.args.fields.now = ap length (c.new-parts.ensures) ∙ length-parts g.F.LayoutHandle.layout_of c.args.dl.now c.args.fields.now in
    let order = subst (λ (n : ℕ). IsPermutation (source_order n) c.args.order) (sym many) (allowed_permutes c.args.list.now (length c.args.fields.now) c.args.order c.requires.order) in
    rw (← many) (fault_placed c.args.list.now c.args.dl.now c.new-parts.result c.args.order c.in-Err.fault order c.in-Err.ensures.fault)

pub returns-in-Err-clause-exact : goal.returns-in-Err-clause-exact
returns-in-Err-clause-exact g c =
    error_in_order g.F.LayoutHandle.layout_of c.args.dl.now c.args.repr.now c.args.list.now.kind c.args.list.now c.args.order c.args.fields.now c.new-parts.result c.in-Err.fault c.error_of.result
    c.new-parts.ensures c.requires.order c.in-Err.ensures.fault c.error_of.ensures c.requires.list

pub list_of_placed-requires-clause-placed : goal.list_of_placed-requires-clause-placed
list_of_placed-requires-clause-placed g c = laid_in_order g.F.LayoutHandle.layout_of c.args.dl.now c.args.list.now c.args.fields.now c.new-parts.result c.args.order c.in-Ok.placed.order c.in-Ok.placed.offsets.items c.in-Ok.placed.size c.in-Ok.placed.align c.in-Ok.placed.largest_niche c.new-parts.ensures c.requires.order c.in-Ok.ensures.same c.in-Ok.ensures.placed

pub returns-clause-exact : goal.returns-clause-exact
returns-clause-exact g c =
    let made = c.list_of_placed.ensures in
    let placed = subst (λ (r : FieldsRepr). IsPlacedIn c.args.dl.now r Start (parts_of c.args.dl.now (map g.F.LayoutHandle.layout_of c.args.fields.now)) c.args.order c.in-Ok.placed.offsets.items c.in-Ok.placed.size c.in-Ok.placed.align c.in-Ok.placed.largest_niche) c.requires.list
    (subst (λ (ps : List Part). IsPlacedIn c.args.dl.now c.args.list.now Start ps c.args.order c.in-Ok.placed.offsets.items c.in-Ok.placed.size c.in-Ok.placed.align c.in-Ok.placed.largest_niche) c.new-parts.ensures c.in-Ok.ensures.placed) in
    let allowed = subst (λ (r : FieldsRepr). IsAllowed r (length c.args.fields.now) c.args.order) c.requires.list c.requires.order in (
      c.in-Ok.placed.offsets.items,
      record {
        named = (rw (length-map c.args.fields.now g.F.LayoutHandle.layout_of) allowed, rw (made.size, made.align, made.niche) placed);
        shape = made.shape ∙ ap (λ os. Arbitrary c.in-Ok.placed.offsets.items (map g.FieldIdx.Idx.at os)) c.in-Ok.ensures.same;
        variants = made.variants;
        view = made.view;
        uninhabited = made.uninhabited;
        max_repr_align = made.max_repr_align;
        unadjusted_abi_align = made.unadjusted;
        repr_c = made.repr_c;
        seed = made.seed;
      },
    )
