-- Items that stay in front, as they are read.
use Rattle.std.proofs.Common.{◌≡◌, ◌∙◌, ℕ, zero, suc, List, [], ◌∷◌, ap, length, map, refl, take}
use Rattle.std.proofs.lemmas.List.{length-map}
use Rattle.rust_source.specs.Growth.{BeginsWith}

-- the first so many, seen in another way
take-map : {A B : Type 0} (view : A → B) (n : ℕ) (xs : List A) → take n (map view xs) ≡ map view (take n xs)
take-map view zero xs = refl
take-map view (suc n) [] = refl
take-map view (suc n) (x ∷ xs) = ap (λ ys. view x ∷ ys) (take-map view n xs)

pub begins_seen : {A B : Type 0} (view : A → B) (whole front : List A) → BeginsWith whole front → BeginsWith (map view whole) (map view front)
begins_seen view whole front begins =
    ap (λ n. take n (map view whole)) (length-map front view) ∙ take-map view (length front) whole ∙ ap (map view) begins
