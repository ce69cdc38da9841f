-- Parts that share no byte.
use Rattle.std.specs.Prelude.{ℕ, ◌+◌, ◌^◌, ◌≤◌, ◌⊎◌, List, [], ◌∷◌, ⊤}
use Rattle.std.specs.Int.{◌∣◌}

-- n bytes at the offset lie before or after each of the parts, which lie at these offsets and have these sizes
abbrev pub IsBeside : (offset n : ℕ) → (offsets sizes : List ℕ) → Type 0
IsBeside offset n [] [] = ⊤
IsBeside offset n (o ∷ offsets) (m ∷ sizes) = ((offset + n ≤ o) ⊎ (o + m ≤ offset)) × IsBeside offset n offsets sizes
IsBeside offset n _ _ = ⊥

-- parts of these sizes lie at these offsets, one offset for each, inside the whole, and no two share a byte
abbrev pub AreApart : (whole : ℕ) → (offsets sizes : List ℕ) → Type 0
AreApart whole [] [] = ⊤
AreApart whole (o ∷ offsets) (m ∷ sizes) = (o + m ≤ whole) × IsBeside o m offsets sizes × AreApart whole offsets sizes
AreApart whole _ _ = ⊥

-- each offset is a multiple of the alignment beside it, which is an exponent of two
abbrev pub AreAligned : (offsets aligns : List ℕ) → Type 0
AreAligned [] [] = ⊤
AreAligned (o ∷ offsets) (a ∷ aligns) = (2 ^ a ∣ o) × AreAligned offsets aligns
AreAligned _ _ = ⊥
