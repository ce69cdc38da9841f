use Rattle.std.proofs.Common.{◌≡◌, ap, arith, fold, length, map, nat_lt, sym, Bool, true, ◌∙◌}
use Rattle.std.specs.Prelude.{if◌then◌else◌}
use Rattle.abi_index.specs.Relation.{row_count}
use Rattle.abi_univariant.specs.Placement.{source_order}
use Rattle.abi_calc.specs.Coroutine.Promotion.{after_row, after_rows, held_by_several, holders_of, used_count}
use Rattle.abi_calc.proofs.CoroutineLemmas.Holders.{holders_size, several_size}
use Rattle.abi_calc.proofs.coroutine.promotion.promoted_locals.Goals as goal

pub held_by_several-requires-clause-count : goal.held_by_several-requires-clause-count
held_by_several-requires-clause-count g c =
    let size = holders_size (map (map g.LocalIdx.Idx.number) c.args.states.now) c.local_count.result c.deref.result.now (c.deref.ensures.value ∙ c.in_ok-holders.ensures) in
    omega (arith, size, c.local_count.ensures.within)

pub held_by_several-requires-clause-within : goal.held_by_several-requires-clause-within
held_by_several-requires-clause-within g c =
    let size = holders_size (map (map g.LocalIdx.Idx.number) c.args.states.now) c.local_count.result c.deref.result.now (c.deref.ensures.value ∙ c.in_ok-holders.ensures) in
    λ k d short i e there. omega (arith, size, c.local_count.ensures.count, c.requires.within k d short i e there)

pub held_by_several-requires-clause-holders : goal.held_by_several-requires-clause-holders
held_by_several-requires-clause-holders g c =
    let states = map (map g.LocalIdx.Idx.number) c.args.states.now in
    let size = holders_size (map (map g.LocalIdx.Idx.number) c.args.states.now) c.local_count.result c.deref.result.now (c.deref.ensures.value ∙ c.in_ok-holders.ensures) in
    c.deref.ensures.value ∙ c.in_ok-holders.ensures ∙ ap (holders_of states) (sym size)

pub resolve_rows-requires-clause-count : goal.resolve_rows-requires-clause-count
resolve_rows-requires-clause-count g c =
    holders_size (map (map g.LocalIdx.Idx.number) c.args.states.now) c.local_count.result c.deref-2.result.now (c.deref-2.ensures.value ∙ c.in_ok-holders.ensures) ∙ c.local_count.ensures.count

pub resolve_rows-requires-clause-size : goal.resolve_rows-requires-clause-size
resolve_rows-requires-clause-size g c =
    ap length c.in_ok-promoted.ensures ∙ several_size (map (map g.LocalIdx.Idx.number) c.args.states.now) (length c.deref.result.now)
    ∙ holders_size (map (map g.LocalIdx.Idx.number) c.args.states.now) c.local_count.result c.deref.result.now (c.deref.ensures.value ∙ c.in_ok-holders.ensures) ∙ c.local_count.ensures.count

pub returns : goal.returns
returns g c =
    let states = map (map g.LocalIdx.Idx.number) c.args.states.now in
    let size = holders_size (map (map g.LocalIdx.Idx.number) c.args.states.now) c.local_count.result c.deref.result.now (c.deref.ensures.value ∙ c.in_ok-holders.ensures) ∙ c.local_count.ensures.count in
    let done : c.resolve_rows.new.promoted ≡ after_rows (map (map g.LocalIdx.Idx.number) c.args.states.now) c.args.conflicts.now
    = c.resolve_rows.ensures.settled states (c.deref-2.ensures.value ∙ c.in_ok-holders.ensures ∙ ap (holders_of states) c.local_count.ensures.count)
    ∙ ap (λ set. fold (after_row states c.args.conflicts.now) set (source_order (row_count c.args.conflicts.now))) (c.in_ok-promoted.ensures ∙ ap (held_by_several states) size) in
    record { exact = c.promote_if_few.ensures ∙ ap (λ d. if nat_lt (used_count states d) 2 then map (λ (local : Bool). true) d else d) done }
