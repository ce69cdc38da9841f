-- The runs of a map follow one another.
use Rattle.std.proofs.Common.{◌≡◌, ℕ, zero, suc, ◌+◌, ◌-◌, ◌<◌, ◌≤◌, List, [], ◌∷◌, Bool, true, false, arith, get_or, inl, inr, map, refl, subst, sym, ap, ◌∙◌}
use Rattle.std.specs.Prelude.{◌&&◌, ◌||◌, ◌==◌, not, cond}
use Rattle.std.specs.List.{filter, list_any, range_with_len}
use Rattle.std.proofs.lemmas.Bool.{cases_lt, le-leb}
use Rattle.abi_tree.specs.declared.parts.PartName.{PartName}
use Rattle.abi_map.specs.Map.{names_at}
use Rattle.abi_tree.specs.Parts.{Part}
use Rattle.abi_map.specs.Runs.{AreRuns}
use Rattle.abi_map.specs.Starts.{changes, had, is_start, starts_of}

-- what doesn't change is as it was
same_bytes : (a b : Bool) → ((a && not b) || (b && not a)) ≡ false → a ≡ b
same_bytes true true e = refl
same_bytes true false e = absurd (cc)
same_bytes false true e = absurd (cc)
same_bytes false false e = refl

neither : (a b : Bool) → (a || b) ≡ false → (a ≡ false) × (b ≡ false)
neither true b e = absurd (cc)
neither false b e = (refl, e)

-- a name before others, where the part has the byte
abbrev with_name : Bool → PartName → List PartName → List PartName
with_name has name names = cond has (name ∷ names) names

names_by : (part : Part) (parts : List Part) (k : ℕ) → names_at (part ∷ parts) k ≡ with_name (part.has k) part.name (names_at parts k)
names_by part parts k = by (part.has k) (filter (λ p. p.has k) parts)
  where
    by : (b : Bool) (rest : List Part) → map (λ (p : Part). p.name) (cond b (part ∷ rest) rest) ≡ with_name b part.name (map (λ (p : Part). p.name) rest)
    by true rest = refl
    by false rest = refl

-- where no part changes the byte has the names of the one before
no_change : (parts : List Part) (j : ℕ) → list_any (λ part. changes part (j + 1)) parts ≡ false → names_at parts (j + 1) ≡ names_at parts j
no_change [] j none = refl
no_change (part ∷ parts) j none =
    let both = neither (changes part (j + 1)) (list_any (λ p. changes p (j + 1)) parts) none in
    let before : had part (j + 1) ≡ part.has j =
    ap (λ b. b && part.has (j + 1 - 1)) (le-leb 1 (j + 1) (omega arith)) ∙ (let same : j + 1 - 1 ≡ j = omega arith in ap part.has same) in
    let here : part.has (j + 1) ≡ part.has j = same_bytes (part.has (j + 1)) (had part (j + 1)) both.0 ∙ before in
    names_by part parts (j + 1) ∙ ap (λ b. with_name b part.name (names_at parts (j + 1))) here ∙ ap (with_name (part.has j) part.name) (no_change parts j both.1)
    ∙ sym (names_by part parts j)

-- A run that began before a byte, and has the same names up to it, goes on up to the next start or the end; and from there on there is
-- one run behind another.
pub record GoesOn (parts : List Part) (size begun from : ℕ) (starts : List ℕ) : Type 0 where
  pub later : from ≤ get_or starts 0 size
  pub same : (k : ℕ) → begun ≤ k → k < get_or starts 0 size → names_at parts k ≡ names_at parts begun
  pub runs : AreRuns parts size (get_or starts 0 size) starts

module _ (parts : List Part) where
  goes_on : (n low begun : ℕ) → begun < low → ((k : ℕ) → begun ≤ k → k < low → names_at parts k ≡ names_at parts begun) → GoesOn parts (low + n) begun low (filter (is_start parts) (range_with_len low n))
  goes_on zero low begun lt same = record { later = omega arith; same = λ k from below. same k from (omega (arith, below)); runs = refl }
  goes_on (suc n) low begun lt same = by (is_start parts low) refl (filter (is_start parts) (range_with_len (low + 1) n)) (goes_on n (low + 1)) (low + 1 + n) (omega arith)
    where
      by : (b : Bool) → is_start parts low ≡ b → (rest : List ℕ)
          → ((other : ℕ) → other < low + 1 → ((k : ℕ) → other ≤ k → k < low + 1 → names_at parts k ≡ names_at parts other) → GoesOn parts (low + 1 + n) other (low + 1) rest)
          → (size : ℕ) → low + 1 + n ≡ low + suc n → GoesOn parts (low + suc n) begun low (cond b (low ∷ rest) rest)
      by true starts rest next size e =
          let on = subst (λ m. GoesOn parts m low (low + 1) rest) e (next low (omega arith) (λ k from below. let only : k ≡ low = omega (arith, from, below) in ap (names_at parts) only)) in
          record { later = omega arith; same = same; runs = (refl, starts, omega (arith, on.later), on.same, on.runs) }
      by false none rest next size e =
          let before : low - 1 + 1 ≡ low = omega (arith, lt) in
          let still : names_at parts low ≡ names_at parts begun =
          ap (names_at parts) (sym before) ∙ no_change parts (low - 1) (ap (λ m. list_any (λ p. changes p m) parts) before ∙ (neither (low == 0) (list_any (λ p. changes p low) parts) none).1)
          ∙ same (low - 1) (omega (arith, lt)) (omega (arith, lt)) in
          let on = subst (λ m. GoesOn parts m begun (low + 1) rest) e (next begun (omega (arith, lt)) (λ k from below. elim (cases_lt k low) [
            | inl earlier ↦ same k from earlier
            | inr here ↦ let only : k ≡ low = omega (arith, below, here) in ap (names_at parts) only ∙ still
          ])) in
          record { later = omega (arith, on.later); same = on.same; runs = on.runs }

-- the runs of a map follow one another from byte 0 on up to the size
pub runs_follow : (parts : List Part) (size : ℕ) → AreRuns parts size 0 (starts_of parts size)
runs_follow parts zero = refl
runs_follow parts (suc n) =
    let one : 0 + 1 + n ≡ suc n = omega arith in
    let on = subst (λ m. GoesOn parts m 0 1 (filter (is_start parts) (range_with_len (0 + 1) n))) one (goes_on parts n (0 + 1) 0 (omega arith) (λ k from below. let only : k ≡ 0 = omega (arith, below) in ap (names_at parts) only)) in
    (refl, refl, omega (arith, on.later), on.same, on.runs)
