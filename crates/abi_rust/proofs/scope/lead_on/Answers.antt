use Rattle.std.proofs.Common.{◌≡◌, ◌∙◌, ◌+◌, ◌-◌, ◌<◌, Some, ap, arith, sym}
use Rattle.std.specs.Prelude.{slice_get}
use Rattle.abi_rust.specs.Globs.{led_from, list_at, lists_of, with_next, with_ways}
use Rattle.abi_rust.specs.Scope.{numbered}
use Rattle.abi_rust.proofs.GlobLemmas.{led_end, led_more}
use Rattle.abi_rust.proofs.scope.lead_on.Goals as goal

pub loop-index-preserved : goal.loop-index-preserved
loop-index-preserved c =
    let items = c.args.items.now in
    let lists = lists_of c.args.direct.now.items in
    let i = c.loop-index.index in
    let n = c.most_ways-turns.result in
    let ways = c.loop-index.ways.items in
    let within : i < n = omega arith in
    let at : with_next items lists i ways (slice_get ways i) ≡ with_ways items ways (Some (numbered i)) (list_at lists c.in-Some.way.glob.target) =
    ap (with_next items lists i ways) (sym c.in-Some.ensures) in
    ap (λ found. led_from items lists (n - (i + 1)) (i + 1) found)
    (c.in_ok-add_ways.ensures.all ∙ (rw (c.numbered.ensures, c.own_globs-globs.ensures) (sym at)))
    ∙ (sym (led_more items lists n i ways within) ∙ c.loop-index.invariant)

pub returns-in_default-clause-all : goal.returns-in_default-clause-all
returns-in_default-clause-all c =
    let items = c.args.items.now in
    let lists = lists_of c.args.direct.now.items in
    let i = c.loop-index.index in
    let n = c.most_ways-turns.result in
    sym (led_end items lists (n - i) i c.loop-index.ways.items (sym c.in_default.ensures))
    ∙ (c.loop-index.invariant ∙ ap (λ k. led_from items lists k 0 c.args.ways.now.items) c.most_ways-turns.ensures)
