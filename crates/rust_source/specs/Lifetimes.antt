-- How many lifetimes an item has as parameters, and a name of a path is given: they stand before all others.
use Rattle.std.specs.Prelude.{ℕ, zero, suc, ◌+◌, ◌-◌, ◌^◌, min, Option, Some, None, if◌then◌else◌}
use Rattle.rust_source.specs.declared.reader.cursor.Cursor.{Cursor}
use Rattle.rust_source.specs.declared.tokens.token.Bracket.TheVariants as bracket
use Rattle.rust_source.specs.Cursor.{group_passed, inside, is_lifetime, is_next, next_kind, passed}
use Rattle.rust_source.specs.Passing.{bounds}

-- what follows attributes, of at most so many
abbrev pub hashes_from : (limit : ℕ) → Cursor → Cursor
hashes_from zero c = c
hashes_from (suc limit) c = if is_next c 35 then hashes_from limit (group_passed (passed c 1) (inside (passed c 1) bracket.Square)) else c

-- what follows the attributes of a parameter
unfoldable pub hashes_passed : Cursor → Cursor
hashes_passed c = hashes_from (c.end - c.at) c

-- what follows a lifetime with its bounds, and the `,` behind it, if one is there
abbrev pub comma_behind : Cursor → Cursor
comma_behind c = if is_next c 44 then passed c 1 else c

-- how many lifetimes are next, behind so many, and at most so many more; no more than 2 ^ 32 - 1 are counted
abbrev pub lifetimes_from : (limit count : ℕ) → Cursor → ℕ
lifetimes_from zero n c = n
lifetimes_from (suc limit) n c =
    if is_lifetime (next_kind (hashes_passed c))
    then lifetimes_from limit (min (n + 1) (2 ^ 32 - 1)) (comma_behind (bounds (hashes_passed c)).1)
    else n

-- how many lifetimes are next
unfoldable pub lifetimes_next : Cursor → ℕ
lifetimes_next c = lifetimes_from (c.end - c.at) 0 c

-- how many of the parameters are lifetimes whose `<` is next, if it is
abbrev pub lifetimes_declared : Cursor → ℕ
lifetimes_declared c = if is_next c 60 then lifetimes_next (passed c 1) else 0

-- how many of the arguments are lifetimes that begin there, if they do
abbrev pub lifetimes_given : Option Cursor → ℕ
lifetimes_given None = 0
lifetimes_given (Some c) = lifetimes_next c
