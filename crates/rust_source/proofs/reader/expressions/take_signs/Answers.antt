-- The next operator goes behind those before it.
use Rattle.std.proofs.Common.{rules}
use Rattle.rust_source.proofs.Turns.{signs_on}
use Rattle.rust_source.proofs.reader.expressions.take_signs.Goals as goal

pub loop-turn-preserved : goal.loop-turn-preserved
loop-turn-preserved c =
    let e = signs_on c.most_nested-turns.result c.loop-turn.turn c.loop-turn.all.items c.loop-turn.cursor c.in-Some.sign c.place-at.result c.loop-turn-test.true c.in-Some.ensures c.place-at.ensures in
    search (rules, e)
