-- Where a number ends, with its fraction, its exponent and its suffix.
use Rattle.std.specs.Prelude.{ℕ, ◌+◌, ◌==◌, ◌&&◌, ◌||◌, Bool, not, List, drop, nat_lt, if◌then◌else◌}
use Rattle.std.specs.Char.{is_ascii_alphabetic, is_ascii_digit}
use Rattle.rust_source.specs.declared.tokens.runs.Run.TheVariants as run
use Rattle.rust_source.specs.Characters.{byte_at}
use Rattle.rust_source.specs.Blanks.{run_length}

-- the point of a fraction: `1.` and `1.5`, but neither `1..2` nor `1.max(2)`
abbrev pub begins_fraction : List ℕ → Bool
begins_fraction bytes =
    let next = byte_at bytes 1 in
    (byte_at bytes 0 == 46) && not (next == 46) && not (next == 95) && not (is_ascii_alphabetic next) && nat_lt next 128

-- `e` or `E`, a sign and a digit
abbrev pub begins_signed_exponent : List ℕ → Bool
begins_signed_exponent bytes =
    ((byte_at bytes 0 == 101) || (byte_at bytes 0 == 69)) && ((byte_at bytes 1 == 43) || (byte_at bytes 1 == 45)) && is_ascii_digit (byte_at bytes 2)

-- how many bytes of an exponent and a suffix the bytes begin with
unfoldable pub tail_length : List ℕ → ℕ
tail_length bytes =
    if begins_signed_exponent bytes then run_length run.Word (drop 2 bytes) + 2 else run_length run.Word bytes

-- how many bytes the digits of a decimal number have, with those of its fraction
unfoldable pub decimal_length : List ℕ → ℕ
decimal_length bytes =
    let whole = run_length run.Digits bytes in
    let behind = drop whole bytes in
    if begins_fraction behind then whole + run_length run.Digits (drop 1 behind) + 1 else whole

-- `0x`, `0o` or `0b`
abbrev pub has_base : List ℕ → Bool
has_base bytes =
    (byte_at bytes 0 == 48) && ((byte_at bytes 1 == 120) || (byte_at bytes 1 == 111) || (byte_at bytes 1 == 98))

-- how many bytes the number has, with its suffix, that the bytes begin with by a digit
unfoldable pub number_length : List ℕ → ℕ
number_length bytes =
    let decimal = decimal_length bytes in
    if has_base bytes then run_length run.Word bytes else decimal + tail_length (drop decimal bytes)
