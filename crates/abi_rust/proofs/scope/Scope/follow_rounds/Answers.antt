use Rattle.std.proofs.Common.{◌≡◌, arith, length}
use Rattle.abi_rust.specs.Globs.{lists_of}
use Rattle.abi_rust.proofs.GlobLemmas.{begun, names_on, once_more}
use Rattle.abi_rust.proofs.scope.Scope.follow_rounds.Goals as goal

pub loop-round-init : goal.loop-round-init
loop-round-init c =
    let long : c.len.result ≡ length c.args.items.now.modules.items = omega (arith, c.len.ensures) in
    (c.in_ok-keep_ways.ensures.same, begun c.args.items.now c.keep_ways.new.self (lists_of c.in_ok-direct.direct.items) c.len.result c.in_ok-direct.ensures.none long c.in_ok-keep_ways.ensures.leads)

pub loop-round-preserved : goal.loop-round-preserved
loop-round-preserved c =
    let old = c.loop-round.self in
    let new = c.keep_ways-in-loop-round.new.self in (
      names_on c.args.self.now old new c.loop-round.invariant.0 c.in_ok-keep_ways-2.ensures.same,
      once_more c.args.items.now c.loop-round._round (lists_of c.loop-round.direct.items) (lists_of c.add_globs.new.direct.items) old new
          c.loop-round.invariant.1 c.in_ok-keep_ways-2.ensures.same c.in_ok-add_globs.ensures.added c.in_ok-keep_ways-2.ensures.leads,
    )
