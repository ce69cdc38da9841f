-- What it means to put bytes over others.
use Rattle.std.specs.Prelude.{◌≡◌, ℕ, ◌+◌, ◌-◌, ◌<◌, ◌≤◌, ◌&&◌, Bool, true, false, List, length, get_or}
use Rattle.abi_tree.specs.Covering.{is_byte_at}

-- byte k is one of the n bytes from the place on, and the test picks it, counted from there
abbrev pub is_spot : (ℕ → Bool) → (at n k : ℕ) → Bool
is_spot picks at n k = is_byte_at at n k && picks (k - at)

-- From the place on, the new bytes are those of the list wherever the test picks one of them; all others are the old ones.
pub record IsPutOver (picks : ℕ → Bool) (at : ℕ) (b old new : List ℕ) : Type 0 where
  pub long : length new ≡ length old
  pub here : (k : ℕ) → k < length b → picks k ≡ true → get_or new (at + k) 0 ≡ get_or b k 0
  pub other : (k : ℕ) → is_spot picks at (length b) k ≡ false → get_or new k 0 ≡ get_or old k 0

-- From one place on, n bytes are those that stood from another place on; all others are the old ones.
pub record IsCopied (from to n : ℕ) (old new : List ℕ) : Type 0 where
  pub long : length new ≡ length old
  pub copied : (k : ℕ) → k < n → get_or new (to + k) 0 ≡ get_or old (from + k) 0
  pub below : (k : ℕ) → k < to → get_or new k 0 ≡ get_or old k 0
  pub behind : (k : ℕ) → to + n ≤ k → get_or new k 0 ≡ get_or old k 0
