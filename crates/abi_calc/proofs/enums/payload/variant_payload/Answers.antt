use Rattle.std.proofs.Common.{◌<◌, ◌∙◌, All, ap, length, rules, subst, sym}
use Rattle.abi_scalar.specs.Lawful.{IsLawfulLayout}
use Rattle.abi_scalar.specs.Shape.{listed_offsets}
use Rattle.abi_calc.proofs.AtIndex.{found_there}
use Rattle.abi_calc.proofs.EnumLemmas.Growth.{list_at, lists_count}
use Rattle.abi_calc.proofs.EnumLemmas.Payload.{payload_there}
use Rattle.abi_calc.proofs.enums.payload.variant_payload.Goals as goal

pub bounds-variants-index : goal.bounds-variants-index
bounds-variants-index g c = subst (λ n. c.args.index < n) (lists_count c.args.variants.now c.args.lists.now c.requires.lists) c.requires.within

pub offset_bounds-variants-index : goal.offset_bounds-variants-index
offset_bounds-variants-index g c =
    let fits : c.args.index < length c.args.variants.now = subst (λ n. c.args.index < n) (lists_count c.args.variants.now c.args.lists.now c.requires.lists) c.requires.within in
    search rules

pub payload_of-requires-clause-fields : goal.payload_of-requires-clause-fields
payload_of-requires-clause-fields g c =
    let fields = c.as_raw-fields.ensures.items ∙ c.as_slice.ensures ∙ c.index-variants-index.is in
    let fits : c.args.index < length c.args.variants.now = subst (λ n. c.args.index < n) (lists_count c.args.variants.now c.args.lists.now c.requires.lists) c.requires.within in
    subst (λ fs. All (λ f. IsLawfulLayout c.args.dl.now (g.F.LayoutHandle.layout_of f)) fs) (sym fields) (c.requires.fields c.args.index c.index-variants-index.result fits)

pub payload_of-requires-clause-count : goal.payload_of-requires-clause-count
payload_of-requires-clause-count g c =
    let fields = c.as_raw-fields.ensures.items ∙ c.as_slice.ensures ∙ c.index-variants-index.is in
    let list = found_there c.args.lists.now c.args.index c.at.result c.at.ensures in
    let offsets = c.offsets.ensures ∙ ap (λ l. listed_offsets l.fields) list in
    ap length offsets ∙ (list_at c.args.variants.now c.args.lists.now c.args.index c.index-variants-index.result c.at.result c.requires.lists c.requires.within).count ∙ ap length (sym fields)

pub returns-clause-value : goal.returns-clause-value
returns-clause-value g c =
    let fields = c.as_raw-fields.ensures.items ∙ c.as_slice.ensures ∙ c.index-variants-index.is in
    let list = found_there c.args.lists.now c.args.index c.at.result c.at.ensures in
    let offsets = c.offsets.ensures ∙ ap (λ l. listed_offsets l.fields) list in
    rw (c.payload_of.ensures.value, fields, offsets)
    (payload_there c.args.dl.now c.args.old c.args.new g.F.LayoutHandle.layout_of c.args.variants.now c.args.lists.now c.args.index c.index-variants-index.result c.at.result c.requires.lists c.requires.within)
