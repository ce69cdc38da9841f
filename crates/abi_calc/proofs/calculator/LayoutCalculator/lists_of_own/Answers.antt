-- The states before have their lists; the first error is that of the state at hand.
use Rattle.std.proofs.Common.{◌≡◌, ◌+◌, ◌<◌, ◌≤◌, arith, length, map, subst, sym, take}
use Rattle.std.proofs.lemmas.List.{take_all}
use Rattle.std.specs.Prelude.{All}
use Rattle.abi_calc.specs.Coroutine.Lists.{default_repr}
use Rattle.abi_calc.specs.Coroutine.Sizes.{own_lists}
use Rattle.abi_calc.specs.Enums.Lists.{AreGoodLists}
use Rattle.abi_calc.proofs.CoroutineLemmas.Lists.{own_all_next, own_error_next, own_good_next}
use Rattle.abi_calc.proofs.calculator.LayoutCalculator.lists_of_own.Goals as goal

pub loop-state-init : goal.loop-state-init
loop-state-init g c = record {
  good = rw c.in_ok-lists.ensures tt;
  within = λ k d short. absurd (omega (arith, short));
}

pub list_of_own-requires-clause-within : goal.list_of_own-requires-clause-within
list_of_own-requires-clause-within g c =
    subst (All (λ l. g.LocalIdx.Idx.number l < length c.args.locals.now)) (sym c.state-item.is) (c.requires.within c.loop-state.state-index c.state-item.result c.loop-state-test.true)

pub returns-in-Err-clause-fault : goal.returns-in-Err-clause-fault
returns-in-Err-clause-fault g c =
    own_error_next g.F.LayoutHandle.layout_of g.FieldIdx.Idx.at (g.VariantIdx.Idx.at 0) (g.Cx.HasDataLayout.target c.args.self.now.cx) c.args.kind.now g.LocalIdx.Idx.number c.args.locals.now c.args.promoted.now c.args.states.now
    c.loop-state.state-index c.loop-state.lists c.state-item.result c.in-Err.error c.loop-state-test.true c.state-item.is c.loop-state.invariant.good c.in-Err.ensures.fault

pub loop-state-preserved : goal.loop-state-preserved
loop-state-preserved g c =
    record {
      good = rw c.in_ok-push.ensures
          (own_good_next g.F.LayoutHandle.layout_of g.FieldIdx.Idx.at (g.VariantIdx.Idx.at 0) (g.Cx.HasDataLayout.target c.args.self.now.cx) c.args.kind.now g.LocalIdx.Idx.number c.args.locals.now c.args.promoted.now c.args.states.now
          c.loop-state.state-index c.loop-state.lists c.state-item.result c.in-Ok.list c.loop-state-test.true c.state-item.is c.loop-state.invariant.good c.in-Ok.ensures.good);
      within = own_all_next g.F.LayoutHandle.layout_of g.FieldIdx.Idx.at (g.VariantIdx.Idx.at 0) (g.Cx.HasDataLayout.target c.args.self.now.cx) c.args.kind.now g.LocalIdx.Idx.number c.args.locals.now c.args.promoted.now c.args.states.now
          (λ own. length own ≤ g.FieldIdx.Idx.MAX_INDEX + 1) c.loop-state.state-index c.state-item.result c.loop-state-test.true c.state-item.is c.loop-state.invariant.within c.in-Ok.ensures.within;
    }

pub returns-clause-good : goal.returns-clause-good
returns-clause-good g c =
    let all : take c.loop-state.state-index c.args.states.now ≡ c.args.states.now = take_all c.loop-state.state-index c.args.states.now c.loop-state-test.false in
    subst (λ states. AreGoodLists g.F.LayoutHandle.layout_of g.FieldIdx.Idx.at (g.VariantIdx.Idx.at 0) (g.Cx.HasDataLayout.target c.args.self.now.cx) default_repr c.args.kind.now
    (own_lists c.args.locals.now c.args.promoted.now (map (map g.LocalIdx.Idx.number) states)) c.loop-state.lists) all c.loop-state.invariant.good

pub returns-clause-within : goal.returns-clause-within
returns-clause-within g c =
    let all : take c.loop-state.state-index c.args.states.now ≡ c.args.states.now = take_all c.loop-state.state-index c.args.states.now c.loop-state-test.false in
    subst (λ states. All (λ own. length own ≤ g.FieldIdx.Idx.MAX_INDEX + 1) (own_lists c.args.locals.now c.args.promoted.now (map (map g.LocalIdx.Idx.number) states))) all c.loop-state.invariant.within
