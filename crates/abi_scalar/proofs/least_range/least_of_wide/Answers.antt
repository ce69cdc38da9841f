use Rattle.std.proofs.Common.{ℕ, List, subst, sym, All, ◌<◌, rules}
use Rattle.std.specs.List.Sorted.{IsNonDecreasing}
use Rattle.std.proofs.lemmas.List.Sorted.{All-permutation, IsNonDecreasingBy-from_sort}
use Rattle.abi_scalar.specs.Range.{numbers_of}
use Rattle.abi_scalar.specs.LeastRange.{IsLeastRange}
use Rattle.abi_scalar.proofs.LeastLemmas.{least_in_order}
use Rattle.abi_scalar.proofs.least_range.least_of_wide.Goals as goal

pub least_of_ascending-requires-clause-within : goal.least_of_ascending-requires-clause-within
least_of_ascending-requires-clause-within c =
    let P : List ℕ → Type 0 = λ xs. All (λ v. v < numbers_of c.args.size) xs in
    subst P (sym c.as_slice.ensures.value)
    (All-permutation (λ v. v < numbers_of c.args.size) c.args.values.items c.sort_unstable.new.self.items c.sort_unstable.ensures.permutation c.requires.within)

pub least_of_ascending-requires-clause-ascending : goal.least_of_ascending-requires-clause-ascending
least_of_ascending-requires-clause-ascending c =
    let P : List ℕ → Type 0 = λ xs. IsNonDecreasing xs in
    subst P (sym c.as_slice.ensures.value)
    (IsNonDecreasingBy-from_sort (λ x. x) c.sort_unstable.new.self.items c.sort_unstable.ensures.sorted)

pub returns : goal.returns
returns c =
    let P : List ℕ → Type 0 = λ xs. IsLeastRange c.args.size xs c.least_of_ascending.result in
    let least : IsLeastRange c.args.size c.args.values.items c.least_of_ascending.result =
    least_in_order c.args.size c.args.values.items c.sort_unstable.new.self.items c.least_of_ascending.result
    c.sort_unstable.ensures.permutation (subst P c.as_slice.ensures.value c.least_of_ascending.ensures) in
    (search rules, least)
