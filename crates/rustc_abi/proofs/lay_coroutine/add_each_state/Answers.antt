use Rattle.std.proofs.Common.{ap, arith, length, ◌∙◌}
use Rattle.std.proofs.lemmas.List.FromFn.{length-range_with_len}
use Rattle.rustc_abi.proofs.lay_coroutine.add_each_state.Goals as goal

-- there is an index for each state
pub add_variants-requires-clause-each : goal.add_variants-requires-clause-each
add_variants-requires-clause-each c =
    omega (arith, ap length (c.deref.ensures.value ∙ c.in_ok-numbers.ensures), length-range_with_len 0 c.len.result, c.len.ensures)
