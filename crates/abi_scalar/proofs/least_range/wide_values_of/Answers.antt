use Rattle.std.proofs.Common.{refl, true}
use Rattle.std.proofs.iter.runs.Made.{run, to_end}
use Rattle.abi_scalar.proofs.least_range.wide_values_of.Goals as goal

pub returns : goal.returns
returns g c =
    let steps = g.I.Iterator.next_gives in
    let start = c.into_iter-value-iterator.result in
    let all = c.loop-value.yielded in (
      run steps start all true (to_end steps start all (_, (_, c.loop-value.yielded_by, c.in-None.ensures.steps))),
      c.into_iter-value-iterator.ensures.into_iter_gives,
      refl,
      c.loop-value.invariant,
    )
