-- The data layout is the calculator's; the lists are those of the variants.
use Rattle.std.proofs.Common.{◌≡◌, ◌+◌, ◌≤◌, ◌∙◌, ap, length, map, refl, subst}
use Rattle.std.specs.Prelude.{◌⊎◌, All, IfErr, IfOk}
use Rattle.abi_base.specs.declared.data_layout.TargetDataLayout.{TargetDataLayout}
use Rattle.abi_base.specs.declared.struct_kind.StructKind.{StructKind}
use Rattle.abi_scalar.specs.declared.error.LayoutCalculatorError.TheVariants.{OutOfMemory}
use Rattle.abi_calc.specs.Enums.Lists.{AreGoodLists, IsFirstListError, behind_tag}
use Rattle.abi_calc.proofs.EnumLemmas.Promised.{HasGoodLists, IsBy, IsWholeFault, by_good, by_lawful, by_no_other, by_refused, by_size, by_too_large, list_no_other, list_refused, list_too_large, placed_by}
use Rattle.abi_calc.proofs.EnumLemmas.Ordered.{if_any}
use Rattle.abi_calc.proofs.EnumLemmas.Tagged.{tagged_answer}
use Rattle.abi_calc.proofs.calculator.LayoutCalculator.layout_of_tagged.Goals as goal

pub layout_of_lists-requires-clause-fields : goal.layout_of_lists-requires-clause-fields
layout_of_lists-requires-clause-fields g c = rw c.data_layout-dl.ensures c.requires.fields

pub layout_of_lists-requires-clause-lawful : goal.layout_of_lists-requires-clause-lawful
layout_of_lists-requires-clause-lawful g c = rw c.data_layout-dl.ensures c.in-Ok.ensures.lawful

pub returns-in-Ok : goal.returns-in-Ok
returns-in-Ok g c =
    let layout_of = g.F.LayoutHandle.layout_of in
    let at = g.FieldIdx.Idx.at in
    let number = g.FieldIdx.Idx.number in
    let first = g.VariantIdx.Idx.at 0 in
    let dl : TargetDataLayout = g.Cx.HasDataLayout.target c.args.self.now.cx in
    let tag_distinguishes : TargetDataLayout = c.data_layout-dl.result.now in
    let same : tag_distinguishes ≡ dl = c.data_layout-dl.ensures in
    let vs = map (map layout_of) c.args.variants.now in
    let behind : StructKind = behind_tag dl c.args.repr.now c.args.tag.integer vs in
    let kind : c.behind_tag-kind.result ≡ behind = ◌∙◌ {b = behind_tag tag_distinguishes c.args.repr.now c.args.tag.integer vs} c.behind_tag-kind.ensures.kind (ap (λ d. behind_tag d c.args.repr.now c.args.tag.integer vs) same) in
    let h : HasGoodLists layout_of at number first dl c.args.repr.now c.args.tag.integer c.args.tag.is_signed c.args.tag.values.now behind c.args.variants.now c.in-Ok.lists = record {
      good = subst (λ k. AreGoodLists layout_of at first dl c.args.repr.now k c.args.variants.now c.in-Ok.lists) kind c.in-Ok.ensures.good;
      some = c.requires.some;
      unpacked = c.requires.unpacked;
    } in
    let by : IfOk c.layout_of_lists.result (IsBy layout_of at number first dl c.args.repr.now c.args.tag.integer c.args.tag.is_signed c.args.tag.values.now behind c.args.variants.now c.in-Ok.lists)
    = subst (λ d. IfOk c.layout_of_lists.result (IsBy layout_of at number first d c.args.repr.now c.args.tag.integer c.args.tag.is_signed c.args.tag.values.now behind c.args.variants.now c.in-Ok.lists)) same c.layout_of_lists.ensures.exact in
    let fault : IfErr c.layout_of_lists.result (IsWholeFault layout_of at number first dl c.args.repr.now c.args.tag.integer c.args.tag.is_signed c.args.tag.values.now behind c.args.variants.now c.in-Ok.lists)
    = subst (λ d. IfErr c.layout_of_lists.result (IsWholeFault layout_of at number first d c.args.repr.now c.args.tag.integer c.args.tag.is_signed c.args.tag.values.now behind c.args.variants.now c.in-Ok.lists)) same c.layout_of_lists.ensures.fault in
    record {
      exact = tagged_answer layout_of at number first dl tag_distinguishes c.args.repr.now c.args.tag.integer c.args.tag.is_signed c.args.tag.values.now c.args.variants.now c.behind_tag-kind.result c.in-Ok.lists c.layout_of_lists.result
          same c.behind_tag-kind.ensures.kind c.in-Ok.ensures.exact c.layout_of_lists.ensures.exact c.layout_of_lists.ensures.fault;
      lawful = by_lawful layout_of at number first dl c.args.repr.now c.args.tag.integer c.args.tag.is_signed c.args.tag.values.now behind c.args.variants.now c.in-Ok.lists g.FieldIdx.Idx.MAX_INDEX g.met.FieldIdx.Idx.number_at c.requires.data_layout refl c.in-Ok.ensures.within c.requires.fields c.in-Ok.ensures.lawful c.layout_of_lists.result h by;
      within = if_any (All (λ fields. length fields ≤ g.FieldIdx.Idx.MAX_INDEX + 1) c.args.variants.now) c.layout_of_lists.result c.in-Ok.ensures.within;
      placed = placed_by layout_of at number first dl c.args.repr.now c.args.tag.integer c.args.tag.is_signed c.args.tag.values.now behind c.args.variants.now c.in-Ok.lists g.FieldIdx.Idx.MAX_INDEX g.met.FieldIdx.Idx.number_at c.requires.data_layout refl c.in-Ok.ensures.within c.layout_of_lists.result h by;
      sized = record {
        good = by_good layout_of at number first dl c.args.repr.now c.args.tag.integer c.args.tag.is_signed c.args.tag.values.now behind c.args.variants.now c.in-Ok.lists c.layout_of_lists.result h;
        size = by_size layout_of at number first dl c.args.repr.now c.args.tag.integer c.args.tag.is_signed c.args.tag.values.now behind c.args.variants.now c.in-Ok.lists c.layout_of_lists.result h by;
        too_large = by_too_large layout_of at number first dl c.args.repr.now c.args.tag.integer c.args.tag.is_signed c.args.tag.values.now behind c.args.variants.now c.in-Ok.lists c.layout_of_lists.result h fault;
        refused = λ sized large. by_refused layout_of at number first dl c.args.repr.now c.args.tag.integer c.args.tag.is_signed c.args.tag.values.now behind c.args.variants.now c.in-Ok.lists c.layout_of_lists.result h by fault large;
        no_other = λ sized. by_no_other layout_of at number first dl c.args.repr.now c.args.tag.integer c.args.tag.is_signed c.args.tag.values.now behind c.args.variants.now c.in-Ok.lists c.layout_of_lists.result fault;
      };
    }

pub returns-in-Err-clause-sized : goal.returns-in-Err-clause-sized
returns-in-Err-clause-sized g c =
    let lo = g.F.LayoutHandle.layout_of in
    let at = g.FieldIdx.Idx.at in
    let first = g.VariantIdx.Idx.at 0 in
    let dl : TargetDataLayout = g.Cx.HasDataLayout.target c.args.self.now.cx in
    let tag_distinguishes : TargetDataLayout = c.data_layout-dl.result.now in
    let repr = c.args.repr.now in
    let variants = c.args.variants.now in
    let vs = map (map lo) variants in
    let behind : StructKind = behind_tag dl repr c.args.tag.integer vs in
    let kind : c.behind_tag-kind.result ≡ behind = ◌∙◌ {b = behind_tag tag_distinguishes repr c.args.tag.integer vs} c.behind_tag-kind.ensures.kind (ap (λ d. behind_tag d repr c.args.tag.integer vs) c.data_layout-dl.ensures) in
    let fault = subst (λ k. IsFirstListError lo at first dl repr k variants c.in-Err.error ⊎ (c.in-Err.error ≡ OutOfMemory)) kind c.in-Err.ensures.fault in
    record {
      good = tt;
      size = tt;
      too_large = list_too_large lo at first dl repr behind variants c.in-Err.error c.requires.fields tt fault;
      refused = λ all large. list_refused lo at first dl repr behind variants c.in-Err.error all tt fault;
      no_other = λ all. list_no_other lo at first dl repr behind variants c.in-Err.error all tt fault;
    }
