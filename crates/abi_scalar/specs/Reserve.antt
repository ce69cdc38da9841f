-- Which free numbers of a niche are handed out, and on which side of its range they lie.
use Rattle.std.specs.Prelude.{◌≡◌, ℕ, ◌+◌, ◌-◌, ◌%◌, ◌<◌, ◌==◌, ◌&&◌, ◌⊎◌, ◌↔◌, nat_lt, nat_le, Bool, false, not, min, if◌then◌else◌}
use Rattle.abi_base.specs.declared.data_layout.TargetDataLayout.{TargetDataLayout}
use Rattle.abi_scalar.specs.declared.niche.Niche.{Niche}
use Rattle.abi_scalar.specs.declared.scalar.Scalar.{Scalar}
use Rattle.abi_scalar.specs.declared.scalar.Scalar.TheVariants.{Initialized}
use Rattle.abi_scalar.specs.declared.wrapping_range.WrappingRange.{WrappingRange}
use Rattle.abi_scalar.specs.Range.{numbers_of, IsIn, IsFree, AreWithin}
use Rattle.abi_scalar.specs.Niche.{niche_size}

-- the number so many steps further on, in numbers of so many bytes
abbrev pub stepped_on : (width : ℕ) → (n count : ℕ) → ℕ
stepped_on width n count = (n + count) % numbers_of width

-- the number so many steps back, in numbers of so many bytes
abbrev pub stepped_back : (width : ℕ) → (n count : ℕ) → ℕ
stepped_back width n count = (n + numbers_of width - count) % numbers_of width

-- the range whose start is moved so far back
abbrev pub start_moved : (width : ℕ) → WrappingRange → (count : ℕ) → WrappingRange
start_moved width range count = record { start = stepped_back width range.start count; end = range.end }

-- the range whose end is moved so far on
abbrev pub end_moved : (width : ℕ) → WrappingRange → (count : ℕ) → WrappingRange
end_moved width range count = record { start = range.start; end = stepped_on width range.end count }

-- how far a number is from 0 when it is read as signed
abbrev pub magnitude : (width : ℕ) → ℕ → ℕ
magnitude width n = min n (numbers_of width - n)

-- for one number: the number before the start is no further from 0 than the one after the end
abbrev pub start_is_nearer : (width : ℕ) → WrappingRange → Bool
start_is_nearer width range =
    nat_le (magnitude width (stepped_back width range.start 1)) (magnitude width (stepped_on width range.end 1))

-- the end, moved on by so many steps, passes 0 and stops at the old end or before
abbrev pub end_overshoots : (width : ℕ) → WrappingRange → (count : ℕ) → Bool
end_overshoots width range count =
    nat_le 1 (stepped_on width range.end count) && nat_le (stepped_on width range.end count) range.end

-- for several numbers: the end moves where the range wraps round; else the end that is nearer to 0 moves, unless it
-- would pass 0
abbrev pub start_gives_room : (width : ℕ) → WrappingRange → (count : ℕ) → Bool
start_gives_room width range count =
    if nat_lt range.end range.start then false
    else (if nat_le range.start (numbers_of width - 1 - range.end) then nat_le count range.start
    else end_overshoots width range count)

-- whether the start moves; the range of a `bool` is treated as for several numbers
abbrev pub moves_start : (width : ℕ) → WrappingRange → (count : ℕ) → Bool
moves_start width range count =
    if (count == 1) && not ((range.start == 0) && (range.end == 1)) then start_is_nearer width range
    else start_gives_room width range count

-- the first number that is handed out, and the scalar that holds those numbers too
abbrev pub reserved : TargetDataLayout → Niche → (count : ℕ) → ℕ × Scalar
reserved dl niche count =
    if moves_start (niche_size dl niche) niche.valid_range count
    then (
      stepped_back (niche_size dl niche) niche.valid_range.start count,
      Initialized niche.value (start_moved (niche_size dl niche) niche.valid_range count),
    )
    else (
      stepped_on (niche_size dl niche) niche.valid_range.end 1,
      Initialized niche.value (end_moved (niche_size dl niche) niche.valid_range count),
    )

-- The new range has the old one's numbers and `count` more, which are counted from `first` and were free.
pub record HandsOut (width : ℕ) (old new : WrappingRange) (first count : ℕ) : Type 0 where
  pub within : AreWithin width new
  pub were_free : (k : ℕ) → k < count → IsFree width old (stepped_on width first k)
  pub members : (n : ℕ) → IsIn width new n ↔ (IsIn width old n ⊎ ((k : ℕ) × (k < count) × (n ≡ stepped_on width first k)))
