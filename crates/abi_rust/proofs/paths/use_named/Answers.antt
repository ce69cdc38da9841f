use Rattle.std.proofs.Common.{◌≡◌, length, map, ◌+◌, ◌<◌, drop, Some, sym, ◌∙◌, arith}
use Rattle.abi_rust.specs.Names.{target_in}
use Rattle.abi_rust.proofs.Rooms.{all_named, names_on, names_past, names_end}
use Rattle.abi_rust.proofs.paths.use_named.Goals as goal

pub loop-name-preserved : goal.loop-name-preserved
loop-name-preserved c =
    let items = c.args.tables.items.now in
    let scope = c.args.tables.scope.now in
    let more : c.loop-name.name-index < length c.in_ok-begin.rest.now = omega arith in
    let e : c.in-Some.fewer + 1 ≡ c.loop-name.left = omega (arith, c.in-Some.ensures) in
    rw (c.named_behind-found.ensures, c.lookup_of-lookup.ensures, c.space_before.ensures)
    (sym (names_on items scope (target_in c.args.tables.targets.now) c.args.used.now.«module» (λ n. n.name) c.in_ok-begin.rest.now _ c.loop-name.name-index c.loop-name.left c.in-Some.fewer c.args.space c.loop-name.found more e) ∙ c.loop-name.invariant)

pub returns-after-loop-name : goal.returns-after-loop-name
returns-after-loop-name c =
    let items = c.args.tables.items.now in
    let scope = c.args.tables.scope.now in
    let brought = target_in c.args.tables.targets.now in
    let e : c.in_ok-left.left + 1 ≡ c.args.count = omega (arith, c.in_ok-left.ensures) in
    all_named items scope brought c.args.used.now.«module» (λ n. n.name) c.args.used.now.path.items c.in_ok-begin.rest.now c.in_ok-begin.begin.now c.args.count c.in_ok-left.left c.loop-name.left
    c.args.used.now.is_global c.args.space (Some c.args.number) c.first-found.result c.loop-name.found (map (λ n. n.name) (drop c.loop-name.name-index c.in_ok-begin.rest.now))
    (sym c.as_slice.ensures.value ∙ c.in_ok-begin.ensures.cases.0) e (rw (← c.space_before-first_space.ensures, ← c.lookup_of-begins.ensures) c.first-found.ensures) c.loop-name.invariant
    (names_end items scope brought c.args.used.now.«module» (λ n. n.name) c.in_ok-begin.rest.now c.loop-name.name-index c.loop-name.left c.args.space c.loop-name.found c.loop-name-test.false)

pub returns-in_default : goal.returns-in_default
returns-in_default c =
    let items = c.args.tables.items.now in
    let scope = c.args.tables.scope.now in
    let brought = target_in c.args.tables.targets.now in
    let e : c.in_ok-left.left + 1 ≡ c.args.count = omega (arith, c.in_ok-left.ensures) in
    let none : c.loop-name.left ≡ 0 = omega (arith, c.in_default.ensures) in
    all_named items scope brought c.args.used.now.«module» (λ n. n.name) c.args.used.now.path.items c.in_ok-begin.rest.now c.in_ok-begin.begin.now c.args.count c.in_ok-left.left c.loop-name.left
    c.args.used.now.is_global c.args.space (Some c.args.number) c.first-found.result c.loop-name.found (map (λ n. n.name) (drop c.loop-name.name-index c.in_ok-begin.rest.now))
    (sym c.as_slice.ensures.value ∙ c.in_ok-begin.ensures.cases.0) e (rw (← c.space_before-first_space.ensures, ← c.lookup_of-begins.ensures) c.first-found.ensures) c.loop-name.invariant
    (names_past items scope brought c.args.used.now.«module» c.loop-name.left c.args.space c.loop-name.found (map (λ n. n.name) (drop c.loop-name.name-index c.in_ok-begin.rest.now)) none)
