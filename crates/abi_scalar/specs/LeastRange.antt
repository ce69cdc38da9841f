-- The least of all ranges that hold some values.
use Rattle.std.specs.Prelude.{◌≡◌, ℕ, ◌<◌, ◌≤◌, ◌⊎◌, List, [], All, Contains, length, Option, MatchOption}
use Rattle.abi_scalar.specs.declared.wrapping_range.WrappingRange.{WrappingRange}
use Rattle.abi_scalar.specs.Range.{IsIn, AreWithin}
use Rattle.abi_scalar.specs.Count.{AreSoMany}

-- of two ranges with as many numbers: this one does not wrap round, or both do and its end is no greater
abbrev pub IsPreferred : (range other : WrappingRange) → Type 0
IsPreferred range other = (range.start ≤ range.end) ⊎ ((other.end < other.start) × (range.end ≤ other.end))

-- the first range has fewer numbers than the other, or as many and is preferred
abbrev pub IsNoWorse : (width : ℕ) → (range other : WrappingRange) → Type 0
IsNoWorse width range other =
    (few many : ℕ) × AreSoMany (IsIn width range) few × AreSoMany (IsIn width other) many
    × ((few < many) ⊎ ((few ≡ many) × IsPreferred range other))

-- Of all ranges of the width that hold each value, this one is the best.
pub record IsLeastRange (width : ℕ) (values : List ℕ) (range : WrappingRange) : Type 0 where
  pub within : AreWithin width range
  pub holds : All (IsIn width range) values
  pub least : (other : WrappingRange) → AreWithin width other → All (IsIn width other) values → IsNoWorse width range other

-- the least range of the values; nothing where there are none, and only there
abbrev pub IsSmallestOf : (width : ℕ) → (values : List ℕ) → Option WrappingRange → Type 0
IsSmallestOf width values found =
    MatchOption found (values ≡ []) (λ range. (0 < length values) × IsLeastRange width values range)

-- Two of the values, if there are any, between which all of them lie.
pub record HaveLeastAndGreatest (values : List ℕ) (least greatest : ℕ) : Type 0 where
  pub low : 0 < length values → Contains values least
  pub high : 0 < length values → Contains values greatest
  pub between : All (λ v. (least ≤ v) × (v ≤ greatest)) values
