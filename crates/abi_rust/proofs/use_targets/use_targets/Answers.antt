use Rattle.std.proofs.Common.{◌≡◌, ◌∙◌, ◌<◌, ap, arith, sym}
use Rattle.abi_rust.specs.Names.{targets_on, use_target, use_targets}
use Rattle.abi_rust.proofs.TargetLemmas.{round_more, settled}
use Rattle.abi_rust.proofs.use_targets.use_targets.Goals as goal

pub loop-round-init : goal.loop-round-init
unfolding use_targets
loop-round-init c = c.new-known.ensures.items

pub returns-then-are_same-clause-all : goal.returns-then-are_same-clause-all
returns-then-are_same-clause-all c =
    let items = c.args.items.now in
    let scope = c.args.scope.now in
    let known = c.loop-round.known.items in
    let found = c.in_ok-found.found.items in
    let within : c.loop-round.round < c.most_uses-rounds.result = omega (arith, c.loop-round-test.true) in
    let is : found ≡ targets_on (use_target items scope known) 0 items.uses.items =
    c.in_ok-found.ensures.all ∙ ap (λ k. targets_on (use_target items scope k) 0 items.uses.items) c.as_slice.ensures.value in
    let same : found ≡ known =
    sym c.as_slice-in-loop-round.ensures.value ∙ (c.are_same.ensures c.if-are_same.true ∙ c.as_slice-in-loop-round-2.ensures.value) in
    settled items scope c.most_uses-rounds.result c.loop-round.round known found within c.loop-round.invariant is same
    ∙ ap (use_targets items scope) c.most_uses-rounds.ensures

pub loop-round-preserved : goal.loop-round-preserved
loop-round-preserved c =
    let items = c.args.items.now in
    let scope = c.args.scope.now in
    let known = c.loop-round.known.items in
    let found = c.in_ok-found.found.items in
    let is : found ≡ targets_on (use_target items scope known) 0 items.uses.items =
    c.in_ok-found.ensures.all ∙ ap (λ k. targets_on (use_target items scope k) 0 items.uses.items) c.as_slice.ensures.value in
    round_more items scope c.loop-round.round known found c.loop-round.invariant is
