-- The names of refusals, as they are written.
use Rattle.std.specs.Prelude.{ℕ, List, codes}
use Rattle.abi_base.specs.declared.parse_error.TargetDataLayoutError.{TargetDataLayoutError}
use Rattle.abi_base.specs.declared.parse_error.TargetDataLayoutError.TheVariants as data_layout
use Rattle.abi_base.specs.DataLayoutFault.{Fault as Flaw, bad_space, bad_bits, missing_alignment, bad_alignment, unknown_pointer}
use Rattle.rustc_abi.specs.declared.error.LayError.{LayError}
use Rattle.rustc_abi.specs.declared.error.LayError.TheVariants as lay

-- the name of why a type has no layout
abbrev pub error_name : LayError → List ℕ
error_name lay.UnlawfulDataLayout = codes "UnlawfulDataLayout"
error_name lay.BadIndex = codes "BadIndex"
error_name lay.UnknownSpace = codes "UnknownSpace"
error_name lay.BadRange = codes "BadRange"
error_name lay.BadAlign = codes "BadAlign"
error_name lay.DuplicateDiscriminant = codes "DuplicateDiscriminant"
error_name lay.DiscriminantTooWide = codes "DiscriminantTooWide"
error_name lay.NoState = codes "NoState"
error_name lay.LocalTwice = codes "LocalTwice"
error_name lay.UnexpectedUnsized = codes "UnexpectedUnsized"
error_name lay.SizeOverflow = codes "SizeOverflow"
error_name lay.EmptyUnion = codes "EmptyUnion"
error_name lay.ReprConflict = codes "ReprConflict"
error_name lay.ZeroLengthSimdType = codes "ZeroLengthSimdType"
error_name lay.OversizedSimdType = codes "OversizedSimdType"
error_name lay.NonPrimitiveSimdType = codes "NonPrimitiveSimdType"
error_name lay.BadOrder = codes "BadOrder"
error_name lay.OutOfMemory = codes "OutOfMemory"

-- the name of what is wrong with a data layout string
abbrev pub flaw_name : Flaw → List ℕ
flaw_name (bad_space text cause err) = codes "InvalidAddressSpace"
flaw_name (bad_bits kind text cause err) = codes "InvalidBits"
flaw_name (missing_alignment cause) = codes "MissingAlignment"
flaw_name (bad_alignment cause err) = codes "InvalidAlignment"
flaw_name (unknown_pointer rest) = codes "UnknownPointerSpecification"

-- the same, of the error that tells it
abbrev pub data_layout_error_name : TargetDataLayoutError → List ℕ
data_layout_error_name (data_layout.InvalidAddressSpace text cause err) = codes "InvalidAddressSpace"
data_layout_error_name (data_layout.InvalidBits kind text cause err) = codes "InvalidBits"
data_layout_error_name (data_layout.MissingAlignment cause) = codes "MissingAlignment"
data_layout_error_name (data_layout.InvalidAlignment cause err) = codes "InvalidAlignment"
data_layout_error_name (data_layout.InconsistentTargetArchitecture dl target) = codes "InconsistentTargetArchitecture"
data_layout_error_name (data_layout.InconsistentTargetPointerWidth size target) = codes "InconsistentTargetPointerWidth"
data_layout_error_name (data_layout.InvalidBitsSize err) = codes "InvalidBitsSize"
data_layout_error_name (data_layout.UnknownPointerSpecification rest) = codes "UnknownPointerSpecification"
data_layout_error_name data_layout.OutOfMemory = codes "OutOfMemory"
