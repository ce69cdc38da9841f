-- The type is laid out by the way that its variants tell: as one list, or as several variants.
use Rattle.std.proofs.Common.{◌≡◌, ◌+◌, ◌∙◌, ◌<◌, ◌≤◌, ℕ, ap, arith, length, map, subst, sym}
use Rattle.std.specs.Prelude.{◌⊎◌, All, Bool, Err, IfErr, IfOk, IsTrue, Ok, ℤ}
use Rattle.std.specs.Iterator.Runs.{EachRunFrom, WholeRun}
use Rattle.abi_base.specs.declared.data_layout.TargetDataLayout.{TargetDataLayout}
use Rattle.abi_base.specs.declared.integer.Integer.{Integer}
use Rattle.abi_index.specs.Slice.{items_of}
use Rattle.abi_scalar.specs.declared.error.LayoutCalculatorError.TheVariants.{OutOfMemory, SizeOverflow}
use Rattle.abi_scalar.specs.declared.variants.RangeFrom.{RangeFrom}
use Rattle.abi_scalar.specs.declared.variants.RangeToInclusive.{RangeToInclusive}
use Rattle.abi_scalar.specs.Lawful.{IsLawfulLayout}
use Rattle.abi_univariant.specs.Answer.{IsAnswer}
use Rattle.abi_univariant.specs.Least.{IsEachOrderTooLarge}
use Rattle.abi_univariant.specs.List.{AreSized}
use Rattle.abi_univariant.specs.Placement.{IsNonEmptyIfUnsized}
use Rattle.abi_calc.specs.Enums.Answer.{HasOneEach, IsGoodSingle}
use Rattle.abi_calc.specs.Enums.Discriminants.{counted_discriminants}
use Rattle.abi_calc.specs.Enums.Made.{HasLeastTag, IsMadeOfLists}
use Rattle.abi_calc.specs.declared.enums.strategy.EnumStrategy.TheVariants.{NoValue, OneList, Several}
use Rattle.abi_calc.specs.Enums.EnumStrategy.{strategy_of}
use Rattle.abi_calc.specs.Enums.Promised.{AreSizedVariants}
use Rattle.abi_calc.specs.Enums.Several.{AreWellFormedTags, IsSeveralAnswer}
use Rattle.abi_calc.proofs.EnumLemmas.Made.{niche_least, niche_made, several_good, several_run, tagged_least, tagged_made}
use Rattle.abi_calc.proofs.EnumLemmas.Seen.{seen_at}
use Rattle.abi_calc.proofs.EnumLemmas.EnumExtent.{IsReadAt, at_listed, fields_hold, good_single, index_within, read_at, several_exact, several_some, single_exact}
use Rattle.abi_calc.proofs.calculator.LayoutCalculator.layout_of_struct_or_enum.Given as given
use Rattle.abi_calc.proofs.calculator.LayoutCalculator.layout_of_struct_or_enum.Goals as goal

-- a type goes one way
one_or_none : (i : ℕ) → OneList i ≡ NoValue → ⊥
one_or_none i is = cc

one_or_several : (i : ℕ) → OneList i ≡ Several → ⊥
one_or_several i is = cc

none_or_several : NoValue ≡ Several → ⊥
none_or_several is = cc

-- ---- no value

pub returns-in-NoValue-clause-promised : goal.returns-in-NoValue-clause-promised
returns-in-NoValue-clause-promised g c =
    let way : strategy_of c.args.is_enum c.args.repr.now (map (map g.F.LayoutHandle.layout_of) (items_of c.args.variants)) ≡ NoValue
    = ap (λ vs. strategy_of c.args.is_enum c.args.repr.now (map (map g.F.LayoutHandle.layout_of) vs)) (sym c.as_raw-all.ensures.items) ∙ sym c.strategy_of.ensures ∙ c.in-NoValue.is in
    record {
      never = λ none. ap (λ l. Ok l) c.never_type.ensures.exact;
      listed = λ i is. absurd (one_or_none i (sym is ∙ way));
      several = λ are. absurd (none_or_several (sym way ∙ are));
    }

-- ---- one list

pub bounds-all-index : goal.bounds-all-index
bounds-all-index g c =
    index_within g.F.LayoutHandle.layout_of c.args.repr.now c.as_raw-all.result.now c.args.is_enum c.in-OneList.index (λ struct. ap length c.as_raw-all.ensures.items ∙ c.requires.one struct)
    (sym c.strategy_of.ensures ∙ c.in-OneList.is)

pub offset_bounds-all-index : goal.offset_bounds-all-index
offset_bounds-all-index g c =
    let below : c.in-OneList.index < length c.as_raw-all.result.now =
    index_within g.F.LayoutHandle.layout_of c.args.repr.now c.as_raw-all.result.now c.args.is_enum c.in-OneList.index (λ struct. ap length c.as_raw-all.ensures.items ∙ c.requires.one struct)
    (sym c.strategy_of.ensures ∙ c.in-OneList.is) in
    omega (arith, below, c.as_raw-all.type_inv)

pub new-requires : goal.new-requires
new-requires g c =
    let below : c.in-OneList.index < length c.as_raw-all.result.now =
    index_within g.F.LayoutHandle.layout_of c.args.repr.now c.as_raw-all.result.now c.args.is_enum c.in-OneList.index (λ struct. ap length c.as_raw-all.ensures.items ∙ c.requires.one struct)
    (sym c.strategy_of.ensures ∙ c.in-OneList.is) in
    omega (arith, below, c.as_raw-all.ensures.within)

pub layout_of_single-requires-clause-fields : goal.layout_of_single-requires-clause-fields
layout_of_single-requires-clause-fields g c =
    let below : c.in-OneList.index < length c.as_raw-all.result.now =
    index_within g.F.LayoutHandle.layout_of c.args.repr.now c.as_raw-all.result.now c.args.is_enum c.in-OneList.index (λ struct. ap length c.as_raw-all.ensures.items ∙ c.requires.one struct)
    (sym c.strategy_of.ensures ∙ c.in-OneList.is) in
    fields_hold (λ f. IsLawfulLayout (g.Cx.HasDataLayout.target c.args.self.now.cx) (g.F.LayoutHandle.layout_of f)) c.as_raw-all.result.now (items_of c.args.variants) c.in-OneList.index c.index-all-index.result (items_of c.as_slice.result)
    c.as_raw-all.ensures.items below c.index-all-index.is c.as_slice.ensures c.requires.fields

-- the fields of the variant at the index are lawful
lawful_fields : (g : given.Over) (c : goal.After-drop-discr_range_of_repr-in-OneList-1 g)
    → All (λ f. IsLawfulLayout (g.Cx.HasDataLayout.target c.args.self.now.cx) (g.F.LayoutHandle.layout_of f)) (items_of c.as_slice.result)
lawful_fields g c =
    let below : c.in-OneList.index < length c.as_raw-all.result.now =
    index_within g.F.LayoutHandle.layout_of c.args.repr.now c.as_raw-all.result.now c.args.is_enum c.in-OneList.index (λ struct. ap length c.as_raw-all.ensures.items ∙ c.requires.one struct)
    (sym c.strategy_of.ensures ∙ c.in-OneList.is) in
    fields_hold (λ f. IsLawfulLayout (g.Cx.HasDataLayout.target c.args.self.now.cx) (g.F.LayoutHandle.layout_of f)) c.as_raw-all.result.now (items_of c.args.variants) c.in-OneList.index c.index-all-index.result (items_of c.as_slice.result)
    c.as_raw-all.ensures.items below c.index-all-index.is c.as_slice.ensures c.requires.fields

-- what was read are the fields of the variant at the index
read : (g : given.Over) (c : goal.After-drop-discr_range_of_repr-in-OneList-1 g)
    → IsReadAt c.args.is_enum c.args.always_sized (items_of c.args.variants) (strategy_of c.args.is_enum c.args.repr.now (map (map g.F.LayoutHandle.layout_of) (items_of c.args.variants))) c.in-OneList.index c.single_kind-kind.result (items_of c.as_slice.result)
read g c =
    let all = c.as_raw-all.result.now in
    let way = sym c.strategy_of.ensures ∙ c.in-OneList.is in
    let below = index_within g.F.LayoutHandle.layout_of c.args.repr.now all c.args.is_enum c.in-OneList.index (λ struct. ap length c.as_raw-all.ensures.items ∙ c.requires.one struct) way in
    read_at c.args.is_enum c.args.always_sized all (items_of c.args.variants) (strategy_of c.args.is_enum c.args.repr.now (map (map g.F.LayoutHandle.layout_of) (items_of c.args.variants))) c.in-OneList.index c.len.result
    c.index-all-index.result (items_of c.as_slice.result) c.single_kind-kind.result
    (ap (λ vs. strategy_of c.args.is_enum c.args.repr.now (map (map g.F.LayoutHandle.layout_of) vs)) (sym c.as_raw-all.ensures.items) ∙ way)
    c.as_raw-all.ensures.items below c.index-all-index.is c.as_slice.ensures c.len.ensures.count c.single_kind-kind.ensures.kind

pub returns-in-OneList-clause-exact : goal.returns-in-OneList-clause-exact
returns-in-OneList-clause-exact g c =
    let asks : RangeFrom ℤ → RangeToInclusive ℕ → Integer × Bool → Type 0 = λ least greatest answer. g.D.Fn.post c.args.discr_range_of_repr (least, (greatest, tt)) answer in
    let vs = items_of c.args.variants in
    single_exact g.F.LayoutHandle.layout_of g.FieldIdx.Idx.at g.FieldIdx.Idx.number g.VariantIdx.Idx.at g.VariantIdx.Idx.number (g.Cx.HasDataLayout.target c.args.self.now.cx) c.args.repr.now vs c.args.is_enum c.args.always_sized
    c.args.niche_optimizations asks (λ items. WholeRun g.I.Iterator.next_gives c.args.discriminants (λ run. items ≡ run.items)) (strategy_of c.args.is_enum c.args.repr.now (map (map g.F.LayoutHandle.layout_of) vs))
    c.layout_of_single.result c.in-OneList.index c.single_kind-kind.result (items_of c.as_slice.result) c.new.result (read g c) c.new.ensures c.layout_of_single.ensures.exact

pub returns-in-OneList-clause-promised : goal.returns-in-OneList-clause-promised
returns-in-OneList-clause-promised g c =
    let lo = g.F.LayoutHandle.layout_of in
    let dl : TargetDataLayout = g.Cx.HasDataLayout.target c.args.self.now.cx in
    let repr = c.args.repr.now in
    let vs = items_of c.args.variants in
    let strategy = strategy_of c.args.is_enum repr (map (map lo) vs) in
    let kind = c.single_kind-kind.result in
    let fields = items_of c.as_slice.result in
    let result = c.layout_of_single.result in
    let count : c.len.result ≡ length fields = c.len.ensures.count ∙ ap length (sym c.as_slice.ensures) in
    let way : strategy ≡ OneList c.in-OneList.index = (read g c).way in
    record {
      never = λ none. absurd (one_or_none c.in-OneList.index (sym way ∙ none));
      listed = λ i is. record {
        good = at_listed (λ k fs. IfOk result (IsGoodSingle lo g.FieldIdx.Idx.at g.FieldIdx.Idx.number dl repr k fs)) c.args.is_enum c.args.always_sized vs strategy c.in-OneList.index kind fields (read g c)
            (good_single lo g.FieldIdx.Idx.at g.FieldIdx.Idx.number dl repr kind fields result
            c.layout_of_single.ensures.apart c.layout_of_single.ensures.placed c.layout_of_single.ensures.least c.layout_of_single.ensures.places c.layout_of_single.ensures.ascending) i is;
        seen = seen_at lo g.FieldIdx.Idx.at g.VariantIdx.Idx.at dl repr vs c.args.is_enum c.args.always_sized c.args.niche_optimizations strategy result c.in-OneList.index kind fields c.new.result (read g c) c.new.ensures
            (lawful_fields g c) (subst (IsNonEmptyIfUnsized kind) count c.single_kind-kind.ensures.tail) c.layout_of_single.ensures.exact i is;
        too_large = at_listed (λ k fs. result ≡ Err SizeOverflow → IsEachOrderTooLarge dl repr k (map lo fs)) c.args.is_enum c.args.always_sized vs strategy c.in-OneList.index kind fields (read g c)
            c.layout_of_single.ensures.too_large i is;
        refused = at_listed (λ k fs. AreSized (map lo fs) → IsEachOrderTooLarge dl repr k (map lo fs) → IsAnswer (Err SizeOverflow) result) c.args.is_enum c.args.always_sized vs strategy c.in-OneList.index kind fields (read g c)
            c.layout_of_single.ensures.refused i is;
        no_other = at_listed (λ k fs. AreSized (map lo fs) → IfErr result (λ e. (e ≡ SizeOverflow) ⊎ (e ≡ OutOfMemory))) c.args.is_enum c.args.always_sized vs strategy c.in-OneList.index kind fields (read g c)
            c.layout_of_single.ensures.no_other i is;
      };
      several = λ are. absurd (one_or_several c.in-OneList.index (sym way ∙ are));
    }

-- ---- several variants

pub layout_of_several-requires-clause-fields : goal.layout_of_several-requires-clause-fields
layout_of_several-requires-clause-fields g c =
    subst (All (All (λ f. IsLawfulLayout (g.Cx.HasDataLayout.target c.args.self.now.cx) (g.F.LayoutHandle.layout_of f)))) (sym c.as_raw-all.ensures.items) c.requires.fields

pub layout_of_several-requires-clause-some : goal.layout_of_several-requires-clause-some
layout_of_several-requires-clause-some g c =
    several_some g.F.LayoutHandle.layout_of c.args.repr.now c.as_raw-all.result.now c.args.is_enum (sym c.strategy_of.ensures ∙ c.in-Several.is)

pub layout_of_several-requires-clause-each : goal.layout_of_several-requires-clause-each
layout_of_several-requires-clause-each g c =
    let asks : RangeFrom ℤ → RangeToInclusive ℕ → Integer × Bool → Type 0 = λ least greatest answer. g.D.Fn.post c.args.discr_range_of_repr (least, (greatest, tt)) answer in
    subst (λ vs. EachRunFrom g.I.Iterator.next_gives c.args.discriminants (λ run. IsTrue run.whole → HasOneEach g.VariantIdx.Idx.number (length vs) run.items
    × AreWellFormedTags g.VariantIdx.Idx.number (g.Cx.HasDataLayout.target c.args.self.now.cx) c.args.repr.now asks (map (map g.F.LayoutHandle.layout_of) vs) run.items))
    (sym c.as_raw-all.ensures.items) c.requires.each

pub returns-in-Several-clause-exact : goal.returns-in-Several-clause-exact
returns-in-Several-clause-exact g c =
    let asks : RangeFrom ℤ → RangeToInclusive ℕ → Integer × Bool → Type 0 = λ least greatest answer. g.D.Fn.post c.args.discr_range_of_repr (least, (greatest, tt)) answer in
    let vs = items_of c.args.variants in
    let way = ap (λ vs. strategy_of c.args.is_enum c.args.repr.now (map (map g.F.LayoutHandle.layout_of) vs)) (sym c.as_raw-all.ensures.items) ∙ sym c.strategy_of.ensures ∙ c.in-Several.is in
    several_exact g.F.LayoutHandle.layout_of g.FieldIdx.Idx.at g.FieldIdx.Idx.number g.VariantIdx.Idx.at g.VariantIdx.Idx.number (g.Cx.HasDataLayout.target c.args.self.now.cx) c.args.repr.now vs c.args.is_enum c.args.always_sized
    c.args.niche_optimizations asks (λ items. WholeRun g.I.Iterator.next_gives c.args.discriminants (λ run. items ≡ run.items)) (strategy_of c.args.is_enum c.args.repr.now (map (map g.F.LayoutHandle.layout_of) vs))
    c.layout_of_several.result c.as_raw-all.result.now way c.as_raw-all.ensures.items c.layout_of_several.ensures.exact

pub returns-in-Several-clause-promised : goal.returns-in-Several-clause-promised
returns-in-Several-clause-promised g c =
    let lo = g.F.LayoutHandle.layout_of in
    let at = g.FieldIdx.Idx.at in
    let number = g.FieldIdx.Idx.number in
    let index = g.VariantIdx.Idx.at in
    let place = g.VariantIdx.Idx.number in
    let dl : TargetDataLayout = g.Cx.HasDataLayout.target c.args.self.now.cx in
    let repr = c.args.repr.now in
    let asks : RangeFrom ℤ → RangeToInclusive ℕ → Integer × Bool → Type 0 = λ least greatest answer. g.D.Fn.post c.args.discr_range_of_repr (least, (greatest, tt)) answer in
    let gives = g.I.Iterator.next_gives in
    let given = c.args.discriminants in
    let vs = items_of c.args.variants in
    let result = c.layout_of_several.result in
    let same : c.as_raw-all.result.now ≡ vs = c.as_raw-all.ensures.items in
    let exact : IsSeveralAnswer lo at number index place dl repr asks vs (λ items. WholeRun gives given (λ run. items ≡ run.items)) result
    = subst (λ vs. IsSeveralAnswer lo at number index place dl repr asks vs (λ items. WholeRun gives given (λ run. items ≡ run.items)) result) same c.layout_of_several.ensures.exact in
    let few : length vs ≤ g.VariantIdx.Idx.MAX_INDEX + 1 = subst (λ vs. length vs ≤ g.VariantIdx.Idx.MAX_INDEX + 1) same c.as_raw-all.ensures.within in
    let first : number (at 0) ≡ 0 = g.met.FieldIdx.Idx.number_at 0 (omega arith) in
    let strategy = strategy_of c.args.is_enum repr (map (map lo) vs) in
    let way : strategy ≡ Several = ap (λ vs. strategy_of c.args.is_enum repr (map (map lo) vs)) (sym same) ∙ sym c.strategy_of.ensures ∙ c.in-Several.is in
    record {
      never = λ none. absurd (none_or_several (sym none ∙ way));
      listed = λ i is. absurd (one_or_several i (sym is ∙ way));
      several = λ are. record {
        good = several_good lo at number index place dl repr asks vs g.FieldIdx.Idx.MAX_INDEX g.met.FieldIdx.Idx.number_at first c.requires.data_layout c.requires.fields c.requires.repr (λ items. WholeRun gives given (λ run. items ≡ run.items)) result exact
            (subst (λ vs. IfOk result (λ l. All (λ fields. length fields ≤ g.FieldIdx.Idx.MAX_INDEX + 1) vs)) same c.layout_of_several.ensures.within);
        tag_distinguishes = rw same at c.layout_of_several.ensures.tag_distinguishes;
        made = several_run lo at number index place dl repr asks vs (λ items l. IsMadeOfLists at number place dl repr asks (counted_discriminants place repr (map (map lo) vs) items) (map (map lo) vs) l)
            (tagged_made lo at number index place dl repr asks vs c.requires.fields) (niche_made lo at number index place dl repr asks vs c.requires.fields g.VariantIdx.Idx.MAX_INDEX g.met.VariantIdx.Idx.number_at few)
            gives given result exact;
        tag = several_run lo at number index place dl repr asks vs (λ items l. HasLeastTag (counted_discriminants place repr (map (map lo) vs) items) l.variants)
            (tagged_least lo at number index place dl repr asks vs) (niche_least lo at number index place dl repr asks vs) gives given result exact;
        sized = subst (λ vs. AreSizedVariants lo at (index 0) place dl repr asks gives given vs result) same c.layout_of_several.ensures.sized;
      };
    }
