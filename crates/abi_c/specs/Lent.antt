-- What a call leaves in the memory that its caller lent.
use Rattle.std.specs.Prelude.{◌≡◌, ℕ, ◌<◌, ◌≤◌, ◌++◌, ◌⊎◌, List, drop, length}
use Rattle.abi_text.specs.Output.{Output, out_of_memory}

-- The text, or numbers, at the front and what was there behind it, or all as it was where they are longer; and their length either way.
pub record Lent {A : Type 0} (old new text : List A) (needed : ℕ) : Type 0 where
  pub needs : needed ≡ length text
  pub written : length text ≤ length old → new ≡ text ++ drop (length text) old
  pub kept : length old < length text → new ≡ old

-- such an output, or that memory was wanting, is lent, and the status is its own
abbrev pub IsLentAnswer : (Output → Type 0) → (status : ℕ) → (old new : List ℕ) → (needed : ℕ) → Type 0
IsLentAnswer P status old new needed =
    (o : Output) × (P o ⊎ (o ≡ out_of_memory)) × (status ≡ o.status) × Lent old new o.text needed
