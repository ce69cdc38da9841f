-- A turn of the loops over attributes that are passed over, and over what an item has, and what stands at their ends.
use Rattle.std.proofs.Common.{◌≡◌, ℕ, ◌+◌, ◌-◌, ◌<◌, ◌≤◌, ap, false, true}
use Rattle.std.specs.Prelude.{if◌then◌else◌}
use Rattle.rust_source.specs.declared.reader.cursor.Cursor.{Cursor}
use Rattle.rust_source.specs.Cursor.{is_next, tree_passed}
use Rattle.rust_source.specs.Unread.{attribute_passed, attributes_from, begins_other, other_from}
use Rattle.rust_source.proofs.Turns.{none_left, turns}

module _ (n i : ℕ) where
  pub more : (c : Cursor) → i < n → attributes_from (n - i) c ≡ (if is_next c 35 then attributes_from (n - (i + 1)) (attribute_passed c) else c)
  more c left = ap (λ k. attributes_from k c) (turns n i left)

  pub other_more : (c : Cursor) → i < n → other_from (n - i) c ≡ (if begins_other c then true else other_from (n - (i + 1)) (tree_passed c))
  other_more c left = ap (λ k. other_from k c) (turns n i left)

  pub other_done : (c : Cursor) → n ≤ i → other_from (n - i) c ≡ false
  other_done c past = ap (λ k. other_from k c) (none_left n i past)

  pub done : (c : Cursor) → n ≤ i → attributes_from (n - i) c ≡ c
  done c past = ap (λ k. attributes_from k c) (none_left n i past)
