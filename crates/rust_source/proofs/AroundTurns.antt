-- A turn of the loops over the modules around one, and what stands at their ends.
use Rattle.std.proofs.Common.{◌≡◌, ℕ, ◌+◌, ◌-◌, ◌<◌, ◌≤◌, List, None, ap, refl}
use Rattle.rust_source.specs.declared.item.Module.{Module}
use Rattle.rust_source.specs.Outlines.{room_by, room_from}
use Rattle.rust_source.specs.Visibility.{around, child_by, child_from, root_by, root_from}
use Rattle.rust_source.proofs.Turns.{none_left, turns}

module _ (modules : List Module) (n i : ℕ) where
  pub root_more : (number : ℕ) → i < n → root_from modules (n - i) number ≡ root_by (root_from modules (n - (i + 1))) number (around modules number)
  root_more number left = ap (λ k. root_from modules k number) (turns n i left)

  pub root_done : (number : ℕ) → n ≤ i → root_from modules (n - i) number ≡ number
  root_done number past = ap (λ k. root_from modules k number) (none_left n i past)

  pub child_more : (outer number : ℕ) → i < n → child_from modules (n - i) outer number ≡ child_by (child_from modules (n - (i + 1)) outer) outer number (around modules number)
  child_more outer number left = ap (λ k. child_from modules k outer number) (turns n i left)

  pub child_done : (outer number : ℕ) → n ≤ i → child_from modules (n - i) outer number ≡ None
  child_done outer number past = ap (λ k. child_from modules k outer number) (none_left n i past)

  pub room_more : (number : ℕ) → i < n → room_from modules (n - i) number ≡ room_by (n - i) (room_from modules (n - (i + 1))) (around modules number)
  room_more number left = rw (turns n i left) refl

  pub room_done : (number : ℕ) → n ≤ i → room_from modules (n - i) number ≡ 0
  room_done number past = ap (λ k. room_from modules k number) (none_left n i past)
