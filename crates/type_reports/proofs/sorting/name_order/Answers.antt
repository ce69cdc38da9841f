use Rattle.std.proofs.Common.{rules, slice_get}
use Rattle.std.proofs.lemmas.Fn.{always_returns_same}
use Rattle.type_reports.proofs.sorting.name_order.Goals as goal

pub returns-clause-rising : goal.returns-clause-rising
returns-clause-rising c =
    c.in_ok-sort_by_key.ensures.sorted (λ x. slice_get c.args.names.now x) (always_returns_same _ _ _ (λ a r f h. search rules))

pub returns-clause-ties : goal.returns-clause-ties
returns-clause-ties c =
    rw c.in_ok-order.ensures
    at (c.in_ok-sort_by_key.ensures.stable (λ x. slice_get c.args.names.now x) (always_returns_same _ _ _ (λ a r f h. search rules)))
