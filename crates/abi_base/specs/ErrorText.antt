-- What the errors say, in plain words.
use Rattle.std.specs.Prelude.{ℕ, List, ◌++◌, codes}
use Rattle.std.specs.Fmt.{decimal}
use Rattle.abi_base.specs.Align.{align_error_text}
use Rattle.abi_base.specs.declared.parse_number.NumberError.{NumberError}
use Rattle.abi_base.specs.declared.parse_number.NumberError.TheVariants.{Empty, InvalidDigit, PosOverflow}
use Rattle.abi_base.specs.declared.parse_error.TargetDataLayoutError.{TargetDataLayoutError}
use Rattle.abi_base.specs.declared.parse_error.TargetDataLayoutError.TheVariants as refusal
use Rattle.abi_base.specs.declared.abi_from_str_err.AbiFromStrErr.{AbiFromStrErr}
use Rattle.abi_base.specs.declared.abi_from_str_err.AbiFromStrErr.TheVariants.{Unknown, NoExplicitUnwind}

-- why a text is no number that fits
abbrev pub number_error_text : NumberError → List ℕ
number_error_text Empty = codes "no number"
number_error_text InvalidDigit = codes "not a decimal number"
number_error_text PosOverflow = codes "too large a number"

-- a text in double quotes
abbrev pub quoted : List ℕ → List ℕ
quoted text = codes "\"" ++ text ++ codes "\""

-- why a text is no data layout string: what is wrong, of which spec, and why
abbrev pub data_layout_error_text : TargetDataLayoutError → List ℕ
data_layout_error_text (refusal.InvalidAddressSpace text cause err) =
    codes "address space " ++ quoted text.now ++ codes " of " ++ quoted cause.now ++ codes ": "
    ++ number_error_text err
data_layout_error_text (refusal.InvalidBits kind text cause err) =
    kind.now ++ codes " " ++ quoted text.now ++ codes " of " ++ quoted cause.now ++ codes ": "
    ++ number_error_text err
data_layout_error_text (refusal.MissingAlignment cause) = codes "no alignment of " ++ quoted cause.now
data_layout_error_text (refusal.InvalidAlignment cause err) =
    codes "alignment of " ++ quoted cause.now ++ codes ": " ++ align_error_text err
data_layout_error_text (refusal.InconsistentTargetArchitecture dl target) =
    codes "byte order " ++ dl.now ++ codes ", not " ++ target.now
data_layout_error_text (refusal.InconsistentTargetPointerWidth pointer_size target) =
    codes "pointers of " ++ decimal pointer_size ++ codes ", not " ++ decimal target ++ codes " bits"
data_layout_error_text (refusal.InvalidBitsSize err) = err.now
data_layout_error_text (refusal.UnknownPointerSpecification rest) =
    codes "unknown kind of pointers " ++ quoted rest.now
data_layout_error_text refusal.OutOfMemory = codes "out of memory"

-- why a text names no calling convention
abbrev pub abi_error_text : AbiFromStrErr → List ℕ
abi_error_text Unknown = codes "no calling convention has this name"
abi_error_text NoExplicitUnwind = codes "the calling convention has no variant that unwinds"
