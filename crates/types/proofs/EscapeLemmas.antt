-- What is written for a text marks up nothing.
use Rattle.std.proofs.Common.{◌≡◌, ◌≢◌, ℕ, Bool, true, false, List, [], ◌∷◌, nat_eq, arith, refl, codes}
use Rattle.std.specs.Prelude.{All, if◌then◌else◌}
use Rattle.std.proofs.lemmas.Bool.Decides.{nat_tests}
use Rattle.std.proofs.lemmas.List.Elements.{All-nil, All-cons, All-append}
use Rattle.types.specs.Escape.{IsPlain, escape_of, escaped}

-- whether a byte is neither bracket and neither quote, by testing it
abbrev plain : ℕ → Bool
plain b = if nat_eq b 60 then false else if nat_eq b 62 then false else if nat_eq b 34 then false else if nat_eq b 39 then false else true

abbrev all : List ℕ → Bool
all [] = true
all (b ∷ bs) = if plain b then all bs else false

apart : (b n : ℕ) → nat_eq b n ≡ false → b ≢ n
apart b n h e = grind (arith, nat_tests)

past : (c d : Bool) → (if c then false else d) ≡ true → (c ≡ false) × (d ≡ true)
past false d h = (refl, h)
past true d h = absurd (cc)

both : (c d : Bool) → (if c then d else false) ≡ true → (c ≡ true) × (d ≡ true)
both true d h = (refl, h)
both false d h = absurd (cc)

tested : (b : ℕ) → plain b ≡ true → IsPlain b
tested b h = let (h1, k1) = past (nat_eq b 60) _ h in let (h2, k2) = past (nat_eq b 62) _ k1 in let (h3, k3) = past (nat_eq b 34) _ k2 in
    let (h4, k4) = past (nat_eq b 39) _ k3 in (apart b 60 h1, apart b 62 h2, apart b 34 h3, apart b 39 h4)

all_tested : (w : List ℕ) → all w ≡ true → All IsPlain w
all_tested [] h = All-nil IsPlain
all_tested (b ∷ bs) h = let (p, k) = both (plain b) (all bs) h in All-cons IsPlain b bs (tested b p) (all_tested bs k)

-- a choice of plain texts is one
chosen : (c : Bool) (xs ys : List ℕ) → All IsPlain xs → (c ≡ false → All IsPlain ys) → All IsPlain (if c then xs else ys)
chosen true xs ys h k = h
chosen false xs ys h k = k refl

itself : (b : ℕ) → nat_eq b 60 ≡ false → nat_eq b 62 ≡ false → nat_eq b 34 ≡ false → nat_eq b 39 ≡ false → All IsPlain (b ∷ [])
itself b h1 h2 h3 h4 = All-cons IsPlain b [] (apart b 60 h1, apart b 62 h2, apart b 34 h3, apart b 39 h4) (All-nil IsPlain)

of_byte : (b : ℕ) → All IsPlain (escape_of b)
of_byte b = chosen (nat_eq b 38) (codes "&amp;") _ (all_tested (codes "&amp;") refl) (λ h1.
    chosen (nat_eq b 60) (codes "&lt;") _ (all_tested (codes "&lt;") refl) (λ h2.
    chosen (nat_eq b 62) (codes "&gt;") _ (all_tested (codes "&gt;") refl) (λ h3.
    chosen (nat_eq b 34) (codes "&quot;") _ (all_tested (codes "&quot;") refl) (λ h4.
    chosen (nat_eq b 39) (codes "&#39;") _ (all_tested (codes "&#39;") refl) (λ h5. itself b h2 h3 h4 h5)))))

pub all_plain : (w : List ℕ) → All IsPlain (escaped w)
all_plain [] = All-nil IsPlain
all_plain (b ∷ bs) = All-append IsPlain (escape_of b) (escaped bs) (of_byte b) (all_plain bs)
