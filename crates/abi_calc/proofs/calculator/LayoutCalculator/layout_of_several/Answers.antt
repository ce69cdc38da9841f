-- The discriminants that are listed are those that a whole run gives.
use Rattle.std.proofs.Common.{◌∙◌, inr, length, map, subst, sym, ℕ}
use Rattle.std.specs.Prelude.{Bool, IsSome, ℤ}
use Rattle.std.proofs.lemmas.Bool.{false≢true}
use Rattle.abi_base.specs.declared.data_layout.TargetDataLayout.{TargetDataLayout}
use Rattle.abi_base.specs.declared.integer.Integer.{Integer}
use Rattle.abi_scalar.specs.declared.variants.RangeFrom.{RangeFrom}
use Rattle.abi_scalar.specs.declared.variants.RangeToInclusive.{RangeToInclusive}
use Rattle.abi_calc.specs.Enums.Answer.{HasOneEach}
use Rattle.abi_calc.specs.Enums.Beside.{AreDistinguished}
use Rattle.abi_calc.specs.Enums.Discriminants.{counted_discriminants}
use Rattle.abi_calc.specs.Enums.Several.{AreWellFormedTags, HasEnumSize, IsAlwaysTooLarge, IsAskedTooLarge}
use Rattle.abi_calc.proofs.EnumLemmas.EnumExtent.{each_named, list_given, list_of_each, none_there, whole_if_ok, whole_of_list}
use Rattle.abi_calc.proofs.calculator.LayoutCalculator.layout_of_several.Goals as goal

pub layout_of_enum-requires-clause-named : goal.layout_of_enum-requires-clause-named
layout_of_enum-requires-clause-named g c =
    let asks : RangeFrom ℤ → RangeToInclusive ℕ → Integer × Bool → Type 0 = λ least greatest answer. g.D.Fn.post c.args.discr_range_of_repr (least, (greatest, tt)) answer in
    let vs = map (map g.F.LayoutHandle.layout_of) c.args.variants.now in
    let count = length c.args.variants.now in
    each_named g.VariantIdx.Idx.number count c.deref.result.now
    (list_of_each g.I.Iterator.next_gives c.args.discriminants c.deref.result.now c.in_ok-items.items.items c.deref.ensures.value c.in_ok-items.ensures
    (λ items. HasOneEach g.VariantIdx.Idx.number count items × AreWellFormedTags g.VariantIdx.Idx.number (g.Cx.HasDataLayout.target c.args.self.now.cx) c.args.repr.now asks vs items) c.requires.each).0

pub layout_of_enum-requires-clause-tags : goal.layout_of_enum-requires-clause-tags
layout_of_enum-requires-clause-tags g c =
    let asks : RangeFrom ℤ → RangeToInclusive ℕ → Integer × Bool → Type 0 = λ least greatest answer. g.D.Fn.post c.args.discr_range_of_repr (least, (greatest, tt)) answer in
    let vs = map (map g.F.LayoutHandle.layout_of) c.args.variants.now in
    let count = length c.args.variants.now in
    (list_of_each g.I.Iterator.next_gives c.args.discriminants c.deref.result.now c.in_ok-items.items.items c.deref.ensures.value c.in_ok-items.ensures
    (λ items. HasOneEach g.VariantIdx.Idx.number count items × AreWellFormedTags g.VariantIdx.Idx.number (g.Cx.HasDataLayout.target c.args.self.now.cx) c.args.repr.now asks vs items) c.requires.each).1

pub returns-clause-exact : goal.returns-clause-exact
returns-clause-exact g c =
    let given = list_given g.I.Iterator.next_gives c.args.discriminants c.deref.result.now c.in_ok-items.items.items c.deref.ensures.value c.in_ok-items.ensures in
    inr (inr (none_there c.args.repr.now.pack (sym c.packed.ensures ∙ c.if-packed.false), c.deref.result.now, given, c.layout_of_enum.ensures.exact))

pub returns-clause-tag_distinguishes : goal.returns-clause-tag_distinguishes
returns-clause-tag_distinguishes g c =
    let dl : TargetDataLayout = g.Cx.HasDataLayout.target c.args.self.now.cx in
    let vs = map (map g.F.LayoutHandle.layout_of) c.args.variants.now in
    whole_if_ok g.I.Iterator.next_gives c.args.discriminants c.deref.result.now c.in_ok-items.items.items c.deref.ensures.value c.in_ok-items.ensures
    (λ l items. AreDistinguished dl g.VariantIdx.Idx.number vs items l) c.layout_of_enum.result c.layout_of_enum.ensures.tag_distinguishes

pub returns-clause-sized : goal.returns-clause-sized
returns-clause-sized g c =
    let dl : TargetDataLayout = g.Cx.HasDataLayout.target c.args.self.now.cx in
    let repr = c.args.repr.now in
    let asks : RangeFrom ℤ → RangeToInclusive ℕ → Integer × Bool → Type 0 = λ least greatest answer. g.D.Fn.post c.args.discr_range_of_repr (least, (greatest, tt)) answer in
    let vs = map (map g.F.LayoutHandle.layout_of) c.args.variants.now in
    let sized = c.layout_of_enum.ensures.sized in
    record {
      size = whole_if_ok g.I.Iterator.next_gives c.args.discriminants c.deref.result.now c.in_ok-items.items.items c.deref.ensures.value c.in_ok-items.ensures
          (λ l items. HasEnumSize g.F.LayoutHandle.layout_of g.FieldIdx.Idx.at (g.VariantIdx.Idx.at 0) dl repr asks (counted_discriminants g.VariantIdx.Idx.number repr vs items) c.args.variants.now l.size)
          c.layout_of_enum.result sized.size;
      packed = λ some. absurd (false≢true (subst IsSome (none_there repr.pack (sym c.packed.ensures ∙ c.if-packed.false)) some));
      too_large = λ is. whole_of_list g.I.Iterator.next_gives c.args.discriminants c.deref.result.now c.in_ok-items.items.items c.deref.ensures.value c.in_ok-items.ensures
          (λ items. IsAskedTooLarge dl repr asks (counted_discriminants g.VariantIdx.Idx.number repr vs items) vs) (sized.too_large is);
      refused = λ free all each. sized.refused all
          (list_of_each g.I.Iterator.next_gives c.args.discriminants c.deref.result.now c.in_ok-items.items.items c.deref.ensures.value c.in_ok-items.ensures
          (λ items. IsAlwaysTooLarge dl repr asks (counted_discriminants g.VariantIdx.Idx.number repr vs items) vs) each);
      no_other = λ free. sized.no_other;
    }
