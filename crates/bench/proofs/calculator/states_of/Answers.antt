use Rattle.std.proofs.Common.{ℕ, List, All, ◌+◌, ◌<◌, ◌≤◌, arith, rules, subst, sym}
use Rattle.std.proofs.lemmas.List.Elements.{All-push, All-weaker}
use Rattle.rustc_abi.specs.Coroutines.{IsHeld}
use Rattle.bench.proofs.calculator.states_of.Goals as goal

pub loop-step-preserved : goal.loop-step-preserved
loop-step-preserved c =
    let locals = c.args.locals in
    let from = c.below-from.result in
    let state : List ℕ = c.in_ok-state_of_eight.field-0 in
    let near : IsHeld (from + 8) state = search rules in
    let room : from + 8 ≤ locals = search rules in
    let held : IsHeld locals state = (All-weaker (λ l. l < from + 8) (λ l. l < locals) (λ l less. omega (arith, less, room)) state near.0, near.1) in
    record {
      count = search rules;
      held = subst (All (IsHeld locals)) (sym c.in_ok-push.ensures.items) (All-push (IsHeld locals) c.loop-step.states.items state c.loop-step.invariant.held held);
    }
