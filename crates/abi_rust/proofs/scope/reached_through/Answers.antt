use Rattle.std.proofs.Common.{◌≡◌, ◌∙◌, ◌<◌, ◌≤◌, Global, List, Vec, ap, arith, length, map}
use Rattle.abi_rust.specs.declared.ways.Glob.{Glob}
use Rattle.abi_rust.specs.declared.ways.Way.{Way}
use Rattle.abi_rust.specs.Globs.{led_to, lists_of}
use Rattle.abi_rust.proofs.GlobLemmas.{reached_all, reached_more}
use Rattle.abi_rust.proofs.scope.reached_through.Goals as goal

pub loop-own-preserved : goal.loop-own-preserved
loop-own-preserved c =
    let items = c.args.items.now in
    let lists = lists_of c.args.direct.now.items in
    let own = c.own-item.result in
    let reached = c.in_ok-reached_by.field-0 in
    let within : c.loop-own.own-index < length c.deref-own-items.result.now = omega arith in
    let one : reached.items ≡ led_to items lists own.items = c.in_ok-reached_by.ensures.all ∙ ap (led_to items lists) c.deref.ensures.value in
    ap (λ (all : List (Vec Way Global)). lists_of all) c.in_ok-push.ensures.items
    ∙ reached_more (led_to items lists) c.deref-own-items.result.now c.loop-own.all.items c.loop-own.own-index own reached within c.own-item.is one c.loop-own.invariant

pub returns-clause-all : goal.returns-clause-all
returns-clause-all c =
    let items = c.args.items.now in
    let lists = lists_of c.args.direct.now.items in
    let done : length c.deref-own-items.result.now ≤ c.loop-own.own-index = omega arith in
    c.loop-own.invariant ∙ (reached_all (led_to items lists) c.deref-own-items.result.now c.loop-own.own-index done
    ∙ ap (λ (own : List (Vec Glob Global)). map (led_to items lists) (lists_of own)) c.deref-own-items.ensures.value)
