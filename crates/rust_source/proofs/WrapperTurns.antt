-- A turn of the loop over the tokens of a source that looks for `macro_use`, and what stands at its end.
use Rattle.std.proofs.Common.{◌≡◌, ℕ, ◌+◌, ◌-◌, ◌<◌, ◌≤◌, ap, false, true}
use Rattle.std.specs.Prelude.{if◌then◌else◌}
use Rattle.rust_source.specs.declared.reader.cursor.Cursor.{Cursor}
use Rattle.rust_source.specs.Cursor.{passed}
use Rattle.rust_source.specs.Wrappers.{is_use_of_modules, use_from}
use Rattle.rust_source.proofs.Turns.{none_left, turns}

module _ (n i : ℕ) where
  pub use_more : (c : Cursor) → i < n → use_from (n - i) c ≡ (if is_use_of_modules c then true else use_from (n - (i + 1)) (passed c 1))
  use_more c left = ap (λ k. use_from k c) (turns n i left)

  pub use_done : (c : Cursor) → n ≤ i → use_from (n - i) c ≡ false
  use_done c past = ap (λ k. use_from k c) (none_left n i past)
