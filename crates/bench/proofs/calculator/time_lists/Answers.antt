use Rattle.std.proofs.Common.{IsTrue, rules}
use Rattle.bench.proofs.calculator.time_lists.Goals as goal

pub time-requires : goal.time-requires
time-requires c =
    let yes : IsTrue c.are_lawful_lists.result = search rules in
    record { at = λ alloc lent at same kept. (c.requires.data_layout, (rw c.deref.ensures.value at (c.are_lawful_lists.ensures yes), c.requires.repr)) }
