use Rattle.std.proofs.Common.{◌-◌, ap, arith, length, ◌∙◌, sym}
use Rattle.std.proofs.lemmas.List.FromFn.{length-map-range_with_len}
use Rattle.abi_index.specs.Indices.{indices_left}
use Rattle.abi_index.specs.Relation.{row_count}
use Rattle.abi_calc.proofs.coroutine.promotion.local_count.Goals as goal

pub loop-row-init : goal.loop-row-init
loop-row-init g c =
    let left = ap length (ap (indices_left g.LocalIdx.Idx.at) c.into_iter-row-iterator.ensures.into_iter_gives ∙ c.rows-row-items.ensures) ∙ length-map-range_with_len g.LocalIdx.Idx.at 0 (row_count c.args.conflicts.now) in
    omega (arith, left)

pub overflow_add-count : goal.overflow_add-count
overflow_add-count g c =
    let all = sym (length-map-range_with_len g.LocalIdx.Idx.at c.rows-row-items.result.next (c.rows-row-items.result.end - c.rows-row-items.result.next)) ∙ ap length c.rows-row-items.ensures
    ∙ length-map-range_with_len g.LocalIdx.Idx.at 0 (row_count c.args.conflicts.now) in
    omega (arith, all, c.rows-row-items.result.within, g.met.LocalIdx.Idx.small, c.loop-row.invariant)

pub loop-row-preserved : goal.loop-row-preserved
loop-row-preserved g c = let less = ap length c.in-Some.ensures.steps in omega (arith, less, c.loop-row.invariant)

pub returns-clause-count : goal.returns-clause-count
returns-clause-count g c = let none = ap length c.in-None.ensures.steps.0 in omega (arith, none, c.loop-row.invariant)

pub returns-clause-within : goal.returns-clause-within
returns-clause-within g c =
    let none = ap length c.in-None.ensures.steps.0 in
    let all = sym (length-map-range_with_len g.LocalIdx.Idx.at c.rows-row-items.result.next (c.rows-row-items.result.end - c.rows-row-items.result.next)) ∙ ap length c.rows-row-items.ensures
    ∙ length-map-range_with_len g.LocalIdx.Idx.at 0 (row_count c.args.conflicts.now) in
    omega (arith, all, none, c.rows-row-items.result.within, c.loop-row.invariant)
