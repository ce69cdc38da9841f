-- A token or a group more up to a character.
use Rattle.std.proofs.Common.{◌≡◌, ℕ, ◌+◌, ◌-◌, ◌<◌, ◌≤◌, ap}
use Rattle.std.specs.Prelude.{◌||◌, if◌then◌else◌}
use Rattle.rust_source.specs.declared.reader.cursor.Cursor.{Cursor}
use Rattle.rust_source.specs.Cursor.{is_done, is_next, tree_passed}
use Rattle.rust_source.specs.Until.{until_from}
use Rattle.rust_source.proofs.Turns.{none_left, turns}

pub until_more : (n i character : ℕ) (c : Cursor) → i < n → until_from (n - i) character c ≡ (if is_done c || is_next c character then c else until_from (n - (i + 1)) character (tree_passed c))
until_more n i character c more = ap (λ k. until_from k character c) (turns n i more)

pub until_done : (n i character : ℕ) (c : Cursor) → n ≤ i → until_from (n - i) character c ≡ c
until_done n i character c past = ap (λ k. until_from k character c) (none_left n i past)
