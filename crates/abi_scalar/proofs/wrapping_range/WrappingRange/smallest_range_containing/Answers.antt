use Rattle.std.proofs.Common.{ℕ, ◌<◌, ◌∙◌, All, List, arith, subst, sym}
use Rattle.abi_scalar.specs.Range.{numbers_of}
use Rattle.abi_scalar.specs.LeastRange.{IsSmallestOf}
use Rattle.abi_scalar.proofs.EndsLemmas.{low_all, narrow_all}
use Rattle.abi_scalar.proofs.wrapping_range.WrappingRange.smallest_range_containing.Goals as goal

pub returns-then-bytes-gt8 : goal.returns-then-bytes-gt8
returns-then-bytes-gt8 g c =
    let run = c.in_ok-all.ensures in
    let P : List ℕ → Type 0 = λ xs. IsSmallestOf c.args.size xs c.least_of_wide.result in
    (c.into_iter-values.result, c.into_iter-values.ensures.into_iter_gives, (run.0, run.1, run.2, subst P run.3 c.least_of_wide.ensures))

pub least_of_short-requires-clause-within : goal.least_of_short-requires-clause-within
least_of_short-requires-clause-within g c =
    let run = c.in_ok-all-2.ensures.items in
    let within = c.requires.within c.into_iter-values.result c.into_iter-values.ensures.into_iter_gives run.0 run.0.seen run.1 in
    let same = run.3 ∙ low_all run.0.items (narrow_all c.args.size run.0.items (omega (arith, c.bytes.ensures, c.if-bytes-gt8.false)) within) in
    subst (λ (xs : List ℕ). All (λ v. v < numbers_of c.args.size) xs) (sym same) within

pub returns : goal.returns
returns g c =
    let run = c.in_ok-all-2.ensures.items in
    let within = c.requires.within c.into_iter-values.result c.into_iter-values.ensures.into_iter_gives run.0 run.0.seen run.1 in
    let same = run.3 ∙ low_all run.0.items (narrow_all c.args.size run.0.items (omega (arith, c.bytes.ensures, c.if-bytes-gt8.false)) within) in
    let P : List ℕ → Type 0 = λ xs. IsSmallestOf c.args.size xs c.in_ok-least_of_short.field-0 in
    (c.into_iter-values.result, c.into_iter-values.ensures.into_iter_gives, (run.0, run.1, run.2, subst P same c.in_ok-least_of_short.ensures))
