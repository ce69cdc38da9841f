-- How a range is written.
use Rattle.std.specs.Prelude.{ℕ, List, codes, ◌++◌, nat_lt, if◌then◌else◌}
use Rattle.std.specs.Fmt.{decimal}

-- from its start to its end, in two parts where it wraps round
abbrev pub range_text : (start end : ℕ) → List ℕ
range_text start end =
    if nat_lt end start then codes "(..=" ++ decimal end ++ codes ") | (" ++ decimal start ++ codes "..)"
    else decimal start ++ codes "..=" ++ decimal end
