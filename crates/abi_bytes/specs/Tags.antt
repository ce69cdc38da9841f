-- Numbers of a tag in a niche that some variants don't have.
use Rattle.std.specs.Prelude.{ℕ, ◌<◌, ◌≤◌, ◌≢◌, ◌↔◌}
use Rattle.abi_scalar.specs.declared.wrapping_range.WrappingRange.{WrappingRange}
use Rattle.abi_scalar.specs.Range.{AreWithin, IsBetween, numbers_of}
use Rattle.abi_tree.specs.Tag.{niche_number}

-- no variant from one to below the end has this number
abbrev pub IsBeside : (width first start from end tag : ℕ) → Type 0
IsBeside width first start from end tag = (k : ℕ) → from ≤ k → k < end → tag ≢ niche_number width first start k

-- the range has the numbers that none of these has
pub record HasBeside (width first start from end : ℕ) (range : WrappingRange) : Type 0 where
  pub within : AreWithin width range
  pub only : (tag : ℕ) → tag < numbers_of width → (IsBetween range.start range.end tag ↔ IsBeside width first start from end tag)

-- each number is one of theirs
abbrev pub AreAllTaken : (width first start from end : ℕ) → Type 0
AreAllTaken width first start from end = (tag : ℕ) → tag < numbers_of width → IsBeside width first start from end tag → ⊥
