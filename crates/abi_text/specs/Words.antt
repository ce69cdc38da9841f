-- How a line falls into words: the runs of bytes other than spaces and parentheses, and each parenthesis by itself.
use Rattle.std.specs.Prelude.{ℕ, ◌==◌, ◌&&◌, not, Bool, false, List, [], ◌∷◌, if◌then◌else◌}

-- part of a longer word
abbrev pub is_plain : (b : ℕ) → Bool
is_plain b = not (b == 32) && not (b == 40) && not (b == 41)

-- the line begins within a word
abbrev pub begins_plain : List ℕ → Bool
begins_plain [] = false
begins_plain (b ∷ bs) = is_plain b

-- the first word, longer by a byte in front
abbrev pub grown : (b : ℕ) → List (List ℕ) → List (List ℕ)
grown b [] = (b ∷ []) ∷ []
grown b (w ∷ ws) = (b ∷ w) ∷ ws

-- the words of a line
abbrev pub words_of : List ℕ → List (List ℕ)
words_of [] = []
words_of (b ∷ bs) =
    if b == 32 then words_of bs
    else (if is_plain b && begins_plain bs then grown b (words_of bs) else (b ∷ []) ∷ words_of bs)
