use Rattle.std.proofs.Common.{ℕ, ◌<◌, List, sym, ap, subst, ◌∙◌, All}
use Rattle.std.specs.Iterator.Runs.{ItemsAre}
use Rattle.abi_scalar.specs.Range.{numbers_of}
use Rattle.abi_calc.proofs.EnumLemmas.Discriminants.{cut_within, run_within}
use Rattle.abi_calc.proofs.enums.discriminants.tag_range.Goals as goal

pub smallest_range_containing-requires-clause-within : goal.smallest_range_containing-requires-clause-within
smallest_range_containing-requires-clause-within c items given p seen from =
    let all : All (λ v. v < numbers_of c.args.size) c.loop-value.cut.items = subst (All (λ v. v < numbers_of c.args.size)) (sym c.loop-value.invariant) (cut_within c.args.size _) in
    run_within p (λ v. v < numbers_of c.args.size) c.loop-value.cut.items all (subst (λ (xs : List ℕ). ItemsAre p xs) (ap (λ s. s.rest.items) from ∙ given.0) (given.3 p seen))
