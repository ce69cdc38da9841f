use Rattle.std.proofs.Common.{◌∙◌, ◌+◌, ◌<◌, ap, arith, drop, length, sym}
use Rattle.abi_rust.specs.Globs.{with_ways}
use Rattle.abi_rust.proofs.GlobLemmas.{ways_more}
use Rattle.abi_rust.proofs.scope.add_ways.Goals as goal

pub loop-glob-preserved : goal.loop-glob-preserved
loop-glob-preserved c =
    let items = c.args.items.now in
    let before = c.args.before in
    let more : c.loop-glob.glob-index < length c.args.more.now = omega arith in
    ap (λ ways. with_ways items ways before (drop (c.loop-glob.glob-index + 1) c.args.more.now)) c.in_ok-add_way.ensures.all
    ∙ (sym (ways_more items c.loop-glob.ways.items before c.args.more.now c.loop-glob.glob-index _ more) ∙ c.loop-glob.invariant)
