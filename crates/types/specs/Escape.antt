-- Text in a page of HTML, by its bytes.
use Rattle.std.specs.Prelude.{ℕ, ◌≢◌, List, [], ◌∷◌, ◌++◌, codes, nat_eq, if◌then◌else◌}

-- what stands for a byte: the five characters that mark up, `&`, `<`, `>` and the quotes, are written by their names
abbrev pub escape_of : ℕ → List ℕ
escape_of b = if nat_eq b 38 then codes "&amp;" else if nat_eq b 60 then codes "&lt;" else if nat_eq b 62 then codes "&gt;"
    else if nat_eq b 34 then codes "&quot;" else if nat_eq b 39 then codes "&#39;" else b ∷ []

abbrev pub escaped : List ℕ → List ℕ
escaped [] = []
escaped (b ∷ bs) = escape_of b ++ escaped bs

-- neither bracket, and neither quote
abbrev pub IsPlain : ℕ → Type 0
IsPlain b = (b ≢ 60) × (b ≢ 62) × (b ≢ 34) × (b ≢ 39)
