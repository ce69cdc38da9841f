use Rattle.std.proofs.Common.{◌≡◌, ◌<◌, map, ap, sym, ◌∙◌}
use Rattle.std.proofs.lemmas.List.Elements.{All-head, All-rest, All-same}
use Rattle.abi_index.specs.Indices.{indices_left}
use Rattle.abi_index.specs.Relation.{row_count}
use Rattle.abi_univariant.specs.Placement.{source_order}
use Rattle.abi_calc.specs.Coroutine.Promotion.{after_row}
use Rattle.abi_calc.proofs.CoroutineLemmas.Steps.{left_end, left_start, left_step, left_within, rows_within}
use Rattle.abi_calc.proofs.coroutine.promotion.resolve_rows.Goals as goal

pub loop-row-init : goal.loop-row-init
loop-row-init g c =
    let left : indices_left g.LocalIdx.Idx.at c.into_iter-row-iterator.result ≡ map g.LocalIdx.Idx.at (source_order (row_count c.args.conflicts.now))
    = ap (indices_left g.LocalIdx.Idx.at) c.into_iter-row-iterator.ensures.into_iter_gives ∙ c.rows-row-items.ensures in
    let within = rows_within (row_count c.args.conflicts.now) in
    record {
      size = c.requires.size;
      within = left_within g.LocalIdx.Idx.at g.LocalIdx.Idx.number g.LocalIdx.Idx.MAX_INDEX (row_count c.args.conflicts.now) g.met.LocalIdx.Idx.number_at _ _ left c.requires.most within;
      settled = λ states are. left_start g.LocalIdx.Idx.at g.LocalIdx.Idx.number g.LocalIdx.Idx.MAX_INDEX (row_count c.args.conflicts.now) g.met.LocalIdx.Idx.number_at _ _ (after_row states c.args.conflicts.now) c.args.promoted.now left c.requires.most within;
    }

pub resolve_row-requires-clause-row : goal.resolve_row-requires-clause-row
resolve_row-requires-clause-row g c =
    All-head (λ l. g.LocalIdx.Idx.number l < row_count c.args.conflicts.now) c.in-Some.row _ (All-same (λ l. g.LocalIdx.Idx.number l < row_count c.args.conflicts.now) _ _ (sym c.in-Some.ensures.steps) c.loop-row.invariant.within)

pub loop-row-preserved : goal.loop-row-preserved
loop-row-preserved g c = record {
  size = c.resolve_row.ensures.size;
  within = All-rest (λ l. g.LocalIdx.Idx.number l < row_count c.args.conflicts.now) c.in-Some.row _ _ c.in-Some.ensures.steps c.loop-row.invariant.within;
  settled = λ states are. left_step g.LocalIdx.Idx.number (after_row states c.args.conflicts.now) c.loop-row.promoted c.resolve_row.new.promoted _ _ _ c.in-Some.row c.in-Some.ensures.steps
      (c.resolve_row.ensures.settled states are) (c.loop-row.invariant.settled states are);
}

pub returns : goal.returns
returns g c = record {
  size = c.loop-row.invariant.size;
  settled = λ states are. left_end g.LocalIdx.Idx.number (after_row states c.args.conflicts.now) c.loop-row.promoted _ _ c.in-None.ensures.steps.0 (c.loop-row.invariant.settled states are);
}
