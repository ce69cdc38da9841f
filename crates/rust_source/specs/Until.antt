-- Tokens up to a character, outside of inner groups.
use Rattle.std.specs.Prelude.{ℕ, zero, suc, ◌-◌, ◌||◌, min, if◌then◌else◌}
use Rattle.rust_source.specs.declared.reader.cursor.Cursor.{Cursor}
use Rattle.rust_source.specs.Cursor.{is_done, is_next, tree_passed}

-- where the character stands that is met within so many tokens and groups, or the end
abbrev pub until_from : (limit character : ℕ) → Cursor → Cursor
until_from zero character c = c
until_from (suc limit) character c = if is_done c || is_next c character then c else until_from limit character (tree_passed c)

-- where the character stands that is met first outside of inner groups, or the end
unfoldable pub until : (character : ℕ) → Cursor → Cursor
until character c = until_from (c.end - c.at) character c

-- the tokens up to there
unfoldable pub up_to : (character : ℕ) → Cursor → Cursor
up_to character c = record c { end = min (until character c).at (until character c).end }
