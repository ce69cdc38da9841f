-- The parts of a repr, one after another.
use Rattle.std.proofs.Common.{◌≡◌, ℕ, ◌+◌, List, [], ◌∷◌, length, Option, None, Some, refl, sym, ap, ap₂, ◌∙◌, arith, Bool, true, false}
use Rattle.std.specs.Prelude.{◌==◌, ◌&&◌, count_by, is_some, nat_le, if◌then◌else◌}
use Rattle.std.specs.List.{list_all}
use Rattle.std.proofs.lemmas.Bool.Decides.{nat_tests}
use Rattle.std.proofs.lemmas.List.Sums.{sum_by-cons}
use Rattle.abi_text.specs.declared.reader.repr_text.ReprKind.{ReprKind}
use Rattle.abi_text.specs.declared.reader.repr_text.StructRepr.{StructRepr}
use Rattle.abi_text.specs.Pieces.{before, after_byte}
use Rattle.abi_text.specs.Repr.{asked_by, with_part, has_kind, longer, repr_parts, repr_parts_left, repr_part}

-- how much is left
abbrev pub room : Option (List ℕ) → ℕ
room None = 0
room (Some text) = length text + 1

-- a text's first part, and those after it
pub parts_next : (text : List ℕ) → repr_parts text ≡ before 44 text ∷ repr_parts_left (after_byte 44 text)
parts_next [] = refl
parts_next (b ∷ bs) =
    elim (b == 44) as (λ c. (if c then [] ∷ repr_parts bs else longer b (repr_parts bs)) ≡ (if c then [] else b ∷ before 44 bs) ∷ repr_parts_left (if c then Some bs else after_byte 44 bs)) [
      | true ↦ refl
      | false ↦ ap (longer b) (parts_next bs)
    ]

-- all parts are known where the first one and those after it are
pub known_next : (text part : List ℕ) (more : Option (List ℕ)) (k : Bool) → part ≡ before 44 text → more ≡ after_byte 44 text → is_some (repr_part part) ≡ k
    → list_all (λ p. is_some (repr_part p)) (repr_parts text) ≡ (k && list_all (λ p. is_some (repr_part p)) (repr_parts_left more))
known_next text part more k front back is =
    ap (list_all (λ p. is_some (repr_part p))) (parts_next text ∙ ap₂ (λ p m. p ∷ repr_parts_left m) (sym front) (sym back)) ∙ ap (λ b. b && list_all (λ p. is_some (repr_part p)) (repr_parts_left more)) is

-- how often a kind comes, with the first part apart
pub count_next : (kind : ReprKind) (text part : List ℕ) (more : Option (List ℕ)) (k : Bool) → part ≡ before 44 text → more ≡ after_byte 44 text → has_kind kind (repr_part part) ≡ k
    → count_by (λ p. has_kind kind (repr_part p)) (repr_parts text) ≡ (if k then 1 else 0) + count_by (λ p. has_kind kind (repr_part p)) (repr_parts_left more)
count_next kind text part more k front back is =
    ap (count_by (λ p. has_kind kind (repr_part p))) (parts_next text ∙ ap₂ (λ p m. p ∷ repr_parts_left m) (sym front) (sym back))
    ∙ sum_by-cons (λ p. if has_kind kind (repr_part p) then 1 else 0) part (repr_parts_left more) ∙ ap (λ b. (if b then 1 else 0) + count_by (λ p. has_kind kind (repr_part p)) (repr_parts_left more)) is

pub seen_twice : (n : ℕ) (b : Bool) → nat_le (1 + (1 + n)) 1 ≡ b → false ≡ b
seen_twice n b h = let no : nat_le (1 + (1 + n)) 1 ≡ false = grind (arith, nat_tests) in sym no ∙ h

pub seen_once : (n : ℕ) (b : Bool) → nat_le (0 + (1 + n)) 1 ≡ b → nat_le (1 + n) 1 ≡ b
seen_once n b h = let same : 0 + (1 + n) ≡ 1 + n = omega arith in ap (λ m. nat_le m 1) (sym same) ∙ h

pub not_seen : (m n : ℕ) (b : Bool) → nat_le (m + (0 + n)) 1 ≡ b → nat_le (m + n) 1 ≡ b
not_seen m n b h = let same : m + (0 + n) ≡ m + n = omega arith in ap (λ k. nat_le k 1) (sym same) ∙ h

-- what is asked for with the first part, and then with those after it
pub asked_next : (asked : StructRepr) (text part : List ℕ) (more : Option (List ℕ)) → part ≡ before 44 text → more ≡ after_byte 44 text
    → asked_by asked (repr_parts text) ≡ asked_by (with_part asked (repr_part part)) (repr_parts_left more)
asked_next asked text part more front back = ap (asked_by asked) (parts_next text ∙ ap₂ (λ p m. p ∷ repr_parts_left m) (sym front) (sym back))
