use Rattle.std.proofs.Common.{ℕ, ◌≡◌, ◌%◌, ◌^◌, List, [], ◌∷◌, ◌++◌, ◌∙◌, ap, map, max, min, refl, rules, sym, true}
use Rattle.std.proofs.iter.runs.Made.{run, to_end}
use Rattle.abi_scalar.proofs.EndsLemmas.{ends_next, low_more}
use Rattle.abi_scalar.proofs.least_range.values_of.Goals as goal

pub loop-value-preserved : goal.loop-value-preserved
loop-value-preserved g c =
    let least : c.min-least.result ≡ min c.loop-value.least c.low_half-value.result = search rules in
    let greatest : c.max-greatest.result ≡ max c.loop-value.greatest c.low_half-value.result = search rules in
    let grown = ends_next c.loop-value.list.items c.loop-value.least c.loop-value.greatest c.low_half-value.result c.low_half-value.ensures.narrow c.loop-value.invariant.1 in
    rw (c.in_ok-push.ensures.items, least, greatest) (
      ap (λ (ys : List ℕ). ys ++ c.low_half-value.result ∷ []) c.loop-value.invariant.0
          ∙ ap (λ (v : ℕ). map (λ w. w % 2 ^ 64) c.loop-value.yielded ++ v ∷ []) c.low_half-value.ensures.rest ∙ sym (low_more c.loop-value.yielded c.in-Some.value),
      grown,
    )

pub returns-clause-items : goal.returns-clause-items
returns-clause-items g c =
    let steps = g.I.Iterator.next_gives in
    let start = c.into_iter-value-iterator.result in
    let all = c.loop-value.yielded in (
      run steps start all true (to_end steps start all (_, (_, c.loop-value.yielded_by, c.in-None.ensures.steps))),
      c.into_iter-value-iterator.ensures.into_iter_gives,
      refl,
      c.loop-value.invariant.0,
    )
