use Rattle.std.proofs.Common.{IsTrue, rules}
use Rattle.bench.proofs.calculator.time_coroutine.Goals as goal

pub time-requires : goal.time-requires
time-requires c = record {
  at = λ alloc lent at same kept. record {
    data_layout = c.requires.data_layout;
    prefix = search rules;
    fields = let yes : IsTrue c.are_lawful.result = search rules in rw (c.as_raw.ensures.items, c.as_slice.ensures) at (c.are_lawful.ensures yes);
    few = search rules;
    held = rw c.in_ok-locals.ensures c.in_ok-states.ensures.held;
    some = search rules;
    most = search rules;
    rows = rw c.in_ok-locals.ensures c.in_ok-conflicts.ensures.rows;
    columns = rw c.in_ok-locals.ensures c.in_ok-conflicts.ensures.columns;
  };
}
