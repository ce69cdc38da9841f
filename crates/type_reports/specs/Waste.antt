-- How many bytes no value covers.
use Rattle.std.specs.Prelude.{◌≡◌, ℕ, List, Bool, sum_by}
use Rattle.abi_index.specs.RangeSet.{AreMaximalRuns, is_in_ranges}

-- So many places are among these: they make runs that stand apart, of so many places together.
pub record IsCountOf (is_among : ℕ → Bool) (count : ℕ) : Type 0 where
  pub runs : List (ℕ × ℕ)
  pub apart : AreMaximalRuns 0 runs
  pub same : (k : ℕ) → is_in_ranges runs k ≡ is_among k
  pub sum : count ≡ sum_by (λ run. run.1) runs
