use Rattle.std.proofs.Common.{◌∙◌, sym, arith}
use Rattle.abi_calc.proofs.EnumLemmas.EnumStrategy.{first_within, path_fixed, path_nowhere, path_one, path_several}
use Rattle.abi_calc.proofs.enums.strategy.strategy_of.Goals as goal

pub returns-in_default : goal.returns-in_default
returns-in_default g c =
    sym (path_nowhere g.F.LayoutHandle.layout_of _ c.args.variants.now _ c.if-not-is_enum.false (sym c.present_from.ensures ∙ c.in_default.is))

pub returns-then-not-is_free : goal.returns-then-not-is_free
returns-then-not-is_free g c =
    sym (path_fixed g.F.LayoutHandle.layout_of _ c.args.variants.now _ _ c.if-not-is_enum.false (sym c.is_free.ensures ∙ c.if-not-is_free.true) (sym c.present_from.ensures ∙ c.in-Some.is))

pub overflow_add-first : goal.overflow_add-first
overflow_add-first g c =
    let below = first_within g.F.LayoutHandle.layout_of c.args.repr.now c.args.variants.now c.in-Some.first (sym c.present_from.ensures ∙ c.in-Some.is) in
    omega (arith, below)

pub returns-in-None : goal.returns-in-None
returns-in-None g c =
    sym (path_one g.F.LayoutHandle.layout_of _ c.args.variants.now _ _ c.if-not-is_enum.false (sym c.is_free.ensures ∙ c.if-not-is_free.false) (sym c.present_from.ensures ∙ c.in-Some.is) (sym c.present_from-2.ensures ∙ c.in-None.is))

pub returns-in-Some-present_from : goal.returns-in-Some-present_from
returns-in-Some-present_from g c =
    sym (path_several g.F.LayoutHandle.layout_of _ c.args.variants.now _ _ _ c.if-not-is_enum.false (sym c.present_from.ensures ∙ c.in-Some.is) (sym c.present_from-2.ensures ∙ c.in-Some-present_from.is))
