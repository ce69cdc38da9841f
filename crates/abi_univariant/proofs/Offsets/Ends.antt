-- Where fields end, against the sum of their sizes.
use Rattle.std.proofs.Common.{◌≡◌, ℕ, ◌+◌, ◌^◌, ◌≤◌, List, [], ◌∷◌, ◌++◌, Option, refl, ap, ◌∙◌, arith, sum_by}
use Rattle.std.specs.Int.{◌∣◌, next_multiple_of}
use Rattle.std.proofs.Math.Nat.{dvd-add, dvd_trans, dvd-zero}
use Rattle.std.proofs.lemmas.List.Sums.{sum_by-cons}
use Rattle.abi_univariant.specs.declared.part.Part.{Part}
use Rattle.abi_univariant.specs.Placement.{cut, place_of, end_from}
use Rattle.abi_univariant.proofs.Offsets.Rounding.{rounded_to, pow_dvd, round_multiple, round_mono, round_round, round_add}

-- the sum of the sizes
abbrev pub total : List Part → ℕ
total fields = sum_by (λ field. field.size) fields

-- an exponent that a field's alignment does not exceed, of a power of two that its size is a multiple of
pub record IsGroup (pack : Option ℕ) (g : ℕ) (field : Part) : Type 0 where
  pub aligned : cut pack field.align ≤ g
  pub whole : 2 ^ g ∣ field.size

abbrev pub Grouped : Option ℕ → (Part → ℕ) → List Part → Type 0
Grouped pack g [] = Unit {0}
Grouped pack g (f ∷ fs) = IsGroup pack (g f) f × Grouped pack g fs

abbrev pub FallsFrom : (Part → ℕ) → ℕ → List Part → Type 0
FallsFrom g m [] = Unit {0}
FallsFrom g m (f ∷ fs) = (g f ≤ m) × FallsFrom g (g f) fs

abbrev pub RisesFrom : (Part → ℕ) → ℕ → List Part → Type 0
RisesFrom g m [] = Unit {0}
RisesFrom g m (f ∷ fs) = (m ≤ g f) × RisesFrom g (g f) fs

-- no alignment exceeds `top`
abbrev pub Capped : Option ℕ → ℕ → List Part → Type 0
Capped pack top [] = Unit {0}
Capped pack top (f ∷ fs) = (cut pack f.align ≤ top) × Capped pack top fs

-- no order ends before the sum
pub end_from-above : (pack : Option ℕ) (from : ℕ) (fs : List Part) → from + total fs ≤ end_from pack from fs
end_from-above pack from [] = omega arith
end_from-above pack from (f ∷ fs) =
    let above : from ≤ place_of pack from f = (rounded_to from (cut pack f.align)).above in
    let rest : place_of pack from f + f.size + total fs ≤ end_from pack (place_of pack from f + f.size) fs = end_from-above pack (place_of pack from f + f.size) fs in
    let sum : total (f ∷ fs) ≡ f.size + total fs = sum_by-cons (λ field. field.size) f fs in
    rw sum (omega arith)

-- in falling groups nothing is padded
pub end_from-falling : (pack : Option ℕ) (g : Part → ℕ) (m from : ℕ) (fs : List Part) → Grouped pack g fs → FallsFrom g m fs → 2 ^ m ∣ from
    → end_from pack from fs ≡ from + total fs
end_from-falling pack g m from [] gs falls d = omega arith
end_from-falling pack g m from (f ∷ fs) gs falls d =
    let group_divides : 2 ^ g f ∣ from = dvd_trans (2 ^ g f) (pow_dvd (g f) m falls.0) d in
    let same : place_of pack from f ≡ from = round_multiple from (cut pack f.align) (dvd_trans (2 ^ cut pack f.align) (pow_dvd (cut pack f.align) (g f) gs.0.aligned) group_divides) in
    let rest : end_from pack (from + f.size) fs ≡ from + f.size + total fs = end_from-falling pack g (g f) (from + f.size) fs gs.1 falls.1 (dvd-add (2 ^ g f) group_divides gs.0.whole) in
    let sum : total (f ∷ fs) ≡ f.size + total fs = sum_by-cons (λ field. field.size) f fs in
    rw (same, sum) (rest ∙ omega arith)

-- in rising groups what is left is a multiple of what the next needs
total-rising : (pack : Option ℕ) (g : Part → ℕ) (m : ℕ) (fs : List Part) → Grouped pack g fs → RisesFrom g m fs → 2 ^ m ∣ total fs
total-rising pack g m [] gs rises = dvd-zero (2 ^ m)
total-rising pack g m (f ∷ fs) gs rises =
    let sum : total (f ∷ fs) ≡ f.size + total fs = sum_by-cons (λ field. field.size) f fs in
    rw sum (dvd_trans (2 ^ m) (pow_dvd m (g f) rises.0) (dvd-add (2 ^ g f) gs.0.whole (total-rising pack g (g f) fs gs.1 rises.1)))

-- in rising groups all padding comes to one rounding
pub end_from-rising : (pack : Option ℕ) (g : Part → ℕ) (top m from : ℕ) (fs : List Part) → Grouped pack g fs → RisesFrom g m fs → Capped pack top fs
    → next_multiple_of (end_from pack from fs) (2 ^ top) ≡ next_multiple_of (from + total fs) (2 ^ top)
end_from-rising pack g top m from [] gs rises capped = ap (λ x. next_multiple_of x (2 ^ top)) (omega arith)
end_from-rising pack g top m from (f ∷ fs) gs rises capped =
    let low = cut pack f.align in
    let rest : next_multiple_of (end_from pack (place_of pack from f + f.size) fs) (2 ^ top) ≡ next_multiple_of (place_of pack from f + f.size + total fs) (2 ^ top)
    = end_from-rising pack g top (g f) (place_of pack from f + f.size) fs gs.1 rises.1 capped.1 in
    let whole : 2 ^ g f ∣ f.size + total fs = dvd-add (2 ^ g f) gs.0.whole (total-rising pack g (g f) fs gs.1 rises.1) in
    let moved : place_of pack from f + (f.size + total fs) ≡ next_multiple_of (from + (f.size + total fs)) (2 ^ low)
    = round_add from low (f.size + total fs) (dvd_trans (2 ^ low) (pow_dvd low (g f) gs.0.aligned) whole) in
    let sum : total (f ∷ fs) ≡ f.size + total fs = sum_by-cons (λ field. field.size) f fs in
    rw sum (rest ∙ ap (λ x. next_multiple_of x (2 ^ top)) (omega (arith, moved)) ∙ round_round (from + (f.size + total fs)) low top capped.0)

-- a later start ends no earlier
pub end_from-mono : (pack : Option ℕ) (m n : ℕ) (fs : List Part) → m ≤ n → end_from pack m fs ≤ end_from pack n fs
end_from-mono pack m n [] h = h
end_from-mono pack m n (f ∷ fs) h =
    let at : place_of pack m f ≤ place_of pack n f = round_mono m n (cut pack f.align) h in
    end_from-mono pack (place_of pack m f + f.size) (place_of pack n f + f.size) fs (omega arith)

pub end_from-append : (pack : Option ℕ) (from : ℕ) (xs ys : List Part) → end_from pack from (xs ++ ys) ≡ end_from pack (end_from pack from xs) ys
end_from-append pack from [] ys = refl
end_from-append pack from (f ∷ fs) ys = end_from-append pack (place_of pack from f + f.size) fs ys
