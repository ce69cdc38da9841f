use Rattle.std.proofs.Common.{rules, get_or}
use Rattle.std.proofs.lemmas.Fn.{always_returns_same}
use Rattle.type_reports.proofs.sorting.falling_order.Goals as goal

pub returns-clause-falling : goal.returns-clause-falling
returns-clause-falling c =
    c.in_ok-sort_by_key.ensures.sorted (λ x. record { 0 = get_or c.args.numbers.now x 0 }) (always_returns_same _ _ _ (λ a r f h. search rules))

pub returns-clause-ties : goal.returns-clause-ties
returns-clause-ties c =
    rw c.in_ok-order.ensures
    at (c.in_ok-sort_by_key.ensures.stable (λ x. record { 0 = get_or c.args.numbers.now x 0 }) (always_returns_same _ _ _ (λ a r f h. search rules)))
