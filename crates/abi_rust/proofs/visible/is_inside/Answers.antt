use Rattle.std.proofs.Common.{◌≡◌, ◌∙◌, ◌<◌, arith, false, nat_eq, rules, sym}
use Rattle.abi_rust.proofs.WayLemmas.{inside_up}
use Rattle.abi_rust.proofs.visible.is_inside.Goals as goal

pub loop-turn-preserved : goal.loop-turn-preserved
loop-turn-preserved c =
    let items = c.args.items.now in
    let n = c.most_modules-turns.result in
    let i = c.loop-turn.turn in
    let m = c.loop-turn.inside in
    let within : i < n = omega arith in
    let other : nat_eq m c.args.outer ≡ false = search rules in
    sym (inside_up n i items c.args.outer m c.in-Some.parent within other (sym c.in-Some.ensures)) ∙ c.loop-turn.invariant
