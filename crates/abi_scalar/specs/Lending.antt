-- A scalar that lends its range for writing.
use Rattle.std.specs.Borrow.{Lends, MutBor, Fml}
use Rattle.abi_scalar.specs.declared.scalar.Scalar.{Scalar}
use Rattle.abi_scalar.specs.declared.wrapping_range.WrappingRange.{WrappingRange}
use Rattle.abi_scalar.specs.contracts.scalar.Scalar.{the_row}
use Rattle.abi_scalar.specs.contracts.wrapping_range.WrappingRange as wrapping
use Rattle.abi_scalar.specs.Scalar.{with_range}

-- what is written to the range is written to the scalar
abbrev pub LendsRange : MutBor Scalar → MutBor WrappingRange → Fml
LendsRange scalar range = Lends the_row wrapping.the_row scalar range (with_range scalar.now)
