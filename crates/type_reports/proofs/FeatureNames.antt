-- The names of features, one more.
use Rattle.std.proofs.Common.{◌≡◌, ℕ, ◌+◌, ◌<◌, ◌≤◌, List, [], ◌∷◌, String, Global, length, map, drop, get_or, drop-cons, string_bytes, add-one, refl}
use Rattle.std.proofs.lemmas.List.{drop_all}

pub names_on : (xs : List (String Global)) (i : ℕ) (x : String Global) → i < length xs → x ≡ get_or xs i x
    → map string_bytes (drop i xs) ≡ string_bytes x ∷ map string_bytes (drop (i + 1) xs)
names_on xs i x more is = rw (drop-cons xs i x, ← is, add-one i) refl

pub names_end : (xs : List (String Global)) (i : ℕ) → length xs ≤ i → map string_bytes (drop i xs) ≡ []
names_end xs i done = rw (drop_all i xs done) refl
