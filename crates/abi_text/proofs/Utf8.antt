-- What the test for UTF-8 says.
use Rattle.std.proofs.Common.{◌≡◌, ℕ, List, Bool, true, false, refl}
use Rattle.std.specs.Str.{IsUtf8, is_utf8}
use Rattle.std.proofs.lemmas.Str.{IsUtf8-from_is_utf8}

at_false : (bytes : List ℕ) (b : Bool) → is_utf8 bytes ≡ b → (IsUtf8 bytes → ⊥) → false ≡ b
at_false bytes true e bad = absurd (bad (IsUtf8-from_is_utf8 bytes e))
at_false bytes false e bad = refl

pub no_utf8 : (bytes : List ℕ) → (IsUtf8 bytes → ⊥) → false ≡ is_utf8 bytes
no_utf8 bytes bad = at_false bytes (is_utf8 bytes) refl bad
