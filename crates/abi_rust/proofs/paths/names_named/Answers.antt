use Rattle.std.proofs.Common.{◌≡◌, length, map, ◌+◌, ◌<◌, drop, None, sym, ◌∙◌, arith}
use Rattle.rust_source.specs.declared.syntax.Path.{out-Path}
use Rattle.rust_source.specs.declared.syntax.Segment.{out-Segment}
use Rattle.abi_rust.specs.Names.{target_in}
use Rattle.abi_rust.proofs.Rooms.{all_named, names_on, names_past, names_end}
use Rattle.abi_rust.proofs.paths.names_named.Goals as goal

pub loop-segment-preserved : goal.loop-segment-preserved
loop-segment-preserved c =
    let items = c.args.tables.items.now in
    let scope = c.args.tables.scope.now in
    let more : c.loop-segment.segment-index < length c.in_ok-begin.rest.now = omega arith in
    let e : c.in-Some.fewer + 1 ≡ c.loop-segment.left = omega (arith, c.in-Some.ensures) in
    rw (c.named_behind-found.ensures, c.lookup_of-lookup.ensures, c.space_before.ensures, c.segment-item.is)
    (sym (names_on items scope (target_in c.args.tables.targets.now) c.args.«module» (λ s. (out-Segment s).name) c.in_ok-begin.rest.now c.segment-item.result c.loop-segment.segment-index c.loop-segment.left c.in-Some.fewer c.args.space c.loop-segment.found more e) ∙ c.loop-segment.invariant)

pub returns-after-loop-segment : goal.returns-after-loop-segment
returns-after-loop-segment c =
    let items = c.args.tables.items.now in
    let scope = c.args.tables.scope.now in
    let targets = c.args.tables.targets.now in
    let brought = target_in targets in
    let e : c.in_ok-left.left + 1 ≡ c.args.count = omega (arith, c.in_ok-left.ensures) in
    all_named items scope brought c.args.«module» (λ s. (out-Segment s).name) (out-Path c.args.path.now).segments.items c.in_ok-begin.rest.now c.in_ok-begin.begin.now c.args.count c.in_ok-left.left c.loop-segment.left
    (out-Path c.args.path.now).is_global c.args.space None c.first-found.result c.loop-segment.found (map (λ s. (out-Segment s).name) (drop c.loop-segment.segment-index c.in_ok-begin.rest.now))
    (sym c.as_slice.ensures.value ∙ c.in_ok-begin.ensures.cases.0) e (rw (← c.space_before-first_space.ensures, ← c.lookup_of-begins.ensures) c.first-found.ensures) c.loop-segment.invariant
    (names_end items scope brought c.args.«module» (λ s. (out-Segment s).name) c.in_ok-begin.rest.now c.loop-segment.segment-index c.loop-segment.left c.args.space c.loop-segment.found c.loop-segment-test.false)

pub returns-in_default : goal.returns-in_default
returns-in_default c =
    let items = c.args.tables.items.now in
    let scope = c.args.tables.scope.now in
    let targets = c.args.tables.targets.now in
    let brought = target_in targets in
    let e : c.in_ok-left.left + 1 ≡ c.args.count = omega (arith, c.in_ok-left.ensures) in
    let none : c.loop-segment.left ≡ 0 = omega (arith, c.in_default.ensures) in
    all_named items scope brought c.args.«module» (λ s. (out-Segment s).name) (out-Path c.args.path.now).segments.items c.in_ok-begin.rest.now c.in_ok-begin.begin.now c.args.count c.in_ok-left.left c.loop-segment.left
    (out-Path c.args.path.now).is_global c.args.space None c.first-found.result c.loop-segment.found (map (λ s. (out-Segment s).name) (drop c.loop-segment.segment-index c.in_ok-begin.rest.now))
    (sym c.as_slice.ensures.value ∙ c.in_ok-begin.ensures.cases.0) e (rw (← c.space_before-first_space.ensures, ← c.lookup_of-begins.ensures) c.first-found.ensures) c.loop-segment.invariant
    (names_past items scope brought c.args.«module» c.loop-segment.left c.args.space c.loop-segment.found (map (λ s. (out-Segment s).name) (drop c.loop-segment.segment-index c.in_ok-begin.rest.now)) none)
