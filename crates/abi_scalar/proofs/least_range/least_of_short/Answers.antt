use Rattle.std.proofs.Common.{ℕ, ◌-◌, ◌<◌, ◌≤◌, ◌∙◌, List, length, ap, subst, arith, rules}
use Rattle.std.proofs.lemmas.List.Sorted.{All-permutation, IsNonDecreasingBy-from_sort, length_permutation}
use Rattle.abi_scalar.specs.Range.{numbers_of, steps_between}
use Rattle.abi_scalar.specs.LeastRange.{IsLeastRange}
use Rattle.abi_scalar.proofs.EndsLemmas.{ends_ascend, least_of_ends}
use Rattle.abi_scalar.proofs.LeastLemmas.{least_in_order}
use Rattle.abi_scalar.proofs.least_range.least_of_short.Goals as goal

pub returns-then-ends-steps : goal.returns-then-ends-steps
returns-then-ends-steps c =
    let xs = c.args.values.list.items in
    let h = c.requires.ends in
    let some : 0 < length xs = search rules in
    let few : c.args.values.greatest - c.args.values.least ≤ steps_between c.args.size c.args.values.greatest c.args.values.least = rw (c.steps.ensures, c.from.ensures, c.from-2.ensures) at c.if-ends-steps.true in (
      some,
      rw (c.from.ensures, c.from-2.ensures)
          (least_of_ends c.args.size xs (record { start = c.args.values.least; end = c.args.values.greatest }) c.requires.within (h.low some) (h.high some)
          (ends_ascend xs c.args.values.least c.args.values.greatest some h) h.between (omega (arith, few))),
    )

pub least_of_ascending-requires-clause-any : goal.least_of_ascending-requires-clause-any
least_of_ascending-requires-clause-any c =
    let some : 0 < length c.args.values.list.items = search rules in
    let same = c.in_ok-sorted.ensures ∙ c.deref.ensures.value in
    let many = length_permutation c.args.values.list.items c.sort_unstable.new.self.items c.sort_unstable.ensures.permutation in
    omega (arith, ap length c.as_slice.ensures.value, ap length same, many, some)

pub least_of_ascending-requires-clause-within : goal.least_of_ascending-requires-clause-within
least_of_ascending-requires-clause-within c =
    rw (c.as_slice.ensures.value, c.in_ok-sorted.ensures, c.deref.ensures.value)
    (All-permutation (λ v. v < numbers_of c.args.size) c.args.values.list.items c.sort_unstable.new.self.items c.sort_unstable.ensures.permutation c.requires.within)

pub least_of_ascending-requires-clause-ascending : goal.least_of_ascending-requires-clause-ascending
least_of_ascending-requires-clause-ascending c =
    rw (c.as_slice.ensures.value, c.in_ok-sorted.ensures, c.deref.ensures.value)
    (IsNonDecreasingBy-from_sort (λ x. x) c.sort_unstable.new.self.items c.sort_unstable.ensures.sorted)

pub returns : goal.returns
returns c =
    let P : List ℕ → Type 0 = λ xs. IsLeastRange c.args.size xs c.least_of_ascending.result in
    let least : IsLeastRange c.args.size c.args.values.list.items c.least_of_ascending.result =
    least_in_order c.args.size c.args.values.list.items c.sort_unstable.new.self.items c.least_of_ascending.result
    c.sort_unstable.ensures.permutation (subst P (c.as_slice.ensures.value ∙ c.in_ok-sorted.ensures ∙ c.deref.ensures.value) c.least_of_ascending.ensures) in
    (search rules, least)
