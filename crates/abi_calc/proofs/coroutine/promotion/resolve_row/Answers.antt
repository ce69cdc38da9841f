use Rattle.std.proofs.Common.{◌≡◌, ◌<◌, map, ap, sym, ◌∙◌}
use Rattle.std.proofs.lemmas.List.Elements.{All-head, All-rest, All-same}
use Rattle.abi_index.specs.BitRow.{columns_left}
use Rattle.abi_index.specs.Relation.{columns_of, row_count}
use Rattle.abi_calc.specs.Coroutine.Promotion.{after_conflict}
use Rattle.abi_calc.proofs.CoroutineLemmas.Steps.{columns_within, left_end, left_start, left_step, left_within}
use Rattle.abi_calc.proofs.coroutine.promotion.resolve_row.Goals as goal

pub loop-column-init : goal.loop-column-init
loop-column-init g c =
    let row = g.LocalIdx.Idx.number c.args.row in
    let left : columns_left g.LocalIdx.Idx.at c.into_iter-column-iterator.result ≡ map g.LocalIdx.Idx.at (columns_of c.args.conflicts.now (g.LocalIdx.Idx.number c.args.row))
    = ap (columns_left g.LocalIdx.Idx.at) c.into_iter-column-iterator.ensures.into_iter_gives ∙ c.iter-column-items.ensures in
    let within = columns_within c.args.conflicts.now (g.LocalIdx.Idx.number c.args.row) (row_count c.args.conflicts.now) c.requires.square in
    record {
      size = c.requires.size;
      within = left_within g.LocalIdx.Idx.at g.LocalIdx.Idx.number g.LocalIdx.Idx.MAX_INDEX (row_count c.args.conflicts.now) g.met.LocalIdx.Idx.number_at _ _ left c.requires.most within;
      settled = λ states are. left_start g.LocalIdx.Idx.at g.LocalIdx.Idx.number g.LocalIdx.Idx.MAX_INDEX (row_count c.args.conflicts.now) g.met.LocalIdx.Idx.number_at _ _ (after_conflict states c.args.conflicts.now row) c.args.promoted.now left c.requires.most within;
    }

pub resolve_conflict-requires-clause-column : goal.resolve_conflict-requires-clause-column
resolve_conflict-requires-clause-column g c =
    All-head (λ l. g.LocalIdx.Idx.number l < row_count c.args.conflicts.now) c.in-Some.column _ (All-same (λ l. g.LocalIdx.Idx.number l < row_count c.args.conflicts.now) _ _ (sym c.in-Some.ensures.steps) c.loop-column.invariant.within)

pub loop-column-preserved : goal.loop-column-preserved
loop-column-preserved g c = record {
  size = c.resolve_conflict.ensures.size;
  within = All-rest (λ l. g.LocalIdx.Idx.number l < row_count c.args.conflicts.now) c.in-Some.column _ _ c.in-Some.ensures.steps c.loop-column.invariant.within;
  settled = λ states are. left_step g.LocalIdx.Idx.number (after_conflict states c.args.conflicts.now (g.LocalIdx.Idx.number c.args.row)) c.loop-column.promoted c.resolve_conflict.new.promoted _ _ _ c.in-Some.column c.in-Some.ensures.steps
      (c.resolve_conflict.ensures.settled states are) (c.loop-column.invariant.settled states are);
}

pub returns : goal.returns
returns g c = record {
  size = c.loop-column.invariant.size;
  settled = λ states are. rw (← c.contains.ensures, c.if-contains.false) (left_end g.LocalIdx.Idx.number (after_conflict states c.args.conflicts.now (g.LocalIdx.Idx.number c.args.row)) c.loop-column.promoted _ _ c.in-None.ensures.steps.0
      (c.loop-column.invariant.settled states are));
}
