-- The parts of a text, one after another.
use Rattle.std.proofs.Common.{◌≡◌, ℕ, ◌+◌, ◌<◌, ◌≤◌, List, [], ◌∷◌, length, Bool, Option, None, Some, refl, sym, ap, ap₂, ◌∙◌, true, false, arith}
use Rattle.std.specs.Prelude.{◌==◌, slice_index, is_some}
use Rattle.std.specs.Option.{option_copied}
use denote.Ref.{Bor}
use Rattle.std.specs.List.{before_first, after_first, position_or_len, onto_first}
use Rattle.std.proofs.lemmas.List.Splits.{slice_split_first}
use Rattle.abi_base.specs.DataLayoutSpec.{has_parts, index_text, spec_parts, spec_parts_left}

-- how much is left
abbrev pub room : Option (List ℕ) → ℕ
room None = 0
room (Some text) = length text + 1

-- the first part, and those after the mark
pub parts_next : (mark : ℕ) (text front back : List ℕ) → (front ≡ before_first (λ b. b == mark) text) × (back ≡ after_first (λ b. b == mark) text) × (position_or_len (λ b. b == mark) text < length text)
    → spec_parts mark text ≡ front ∷ spec_parts mark back
parts_next mark text front back h = slice_split_first (λ c. c == mark) text 0 h.2 ∙ ap₂ (λ p q. p ∷ spec_parts mark q) (sym h.0) (sym h.1)

last_at : (mark b : ℕ) (bs : List ℕ) (here : Bool) → (b == mark) ≡ here → (position_or_len (λ c. c == mark) bs ≡ length bs → spec_parts mark bs ≡ bs ∷ []) → position_or_len (λ c. c == mark) (b ∷ bs) ≡ length (b ∷ bs) → spec_parts mark (b ∷ bs) ≡ (b ∷ bs) ∷ []
last_at mark b bs true e later whole = absurd (omega (arith, rw e at whole))
last_at mark b bs false e later whole = let rest : position_or_len (λ c. c == mark) bs ≡ length bs = omega (arith, rw e at whole) in rw e (ap (onto_first b) (later rest))

-- a text without the mark is one part
pub parts_last : (mark : ℕ) (text : List ℕ) → position_or_len (λ b. b == mark) text ≡ length text → spec_parts mark text ≡ text ∷ []
parts_last mark [] e = refl
parts_last mark (b ∷ bs) e = last_at mark b bs (b == mark) refl (parts_last mark bs) e

part_at : (mark b : ℕ) (bs : List ℕ) (here : Bool) → (b == mark) ≡ here → (p : List ℕ) × (ps : List (List ℕ)) × (spec_parts mark bs ≡ p ∷ ps) → (p : List ℕ) × (ps : List (List ℕ)) × (spec_parts mark (b ∷ bs) ≡ p ∷ ps)
part_at mark b bs true e h = ([], spec_parts mark bs, rw e refl)
part_at mark b bs false e h = (b ∷ h.0, h.1, rw e (ap (onto_first b) h.2))

-- there is a part
pub has_part : (mark : ℕ) (text : List ℕ) → (p : List ℕ) × (ps : List (List ℕ)) × (spec_parts mark text ≡ p ∷ ps)
has_part mark [] = ([], [], refl)
has_part mark (b ∷ bs) = part_at mark b bs (b == mark) refl (has_part mark bs)

pub some_parts : (mark : ℕ) (text : List ℕ) → has_parts (spec_parts mark text) ≡ true
some_parts mark text = let h = has_part mark text in rw h.2 refl

pub has_left : (mark : ℕ) (o : Option (Bor (List ℕ))) → is_some o ≡ has_parts (spec_parts_left mark (option_copied o))
has_left mark None = refl
has_left mark (Some text) = sym (some_parts mark text.now)

-- the first part and the others, of those that are left
pub left_next : (mark : ℕ) (o : Option (Bor (List ℕ))) (text : Bor (List ℕ)) (part : List ℕ) (parts : List (List ℕ)) → o ≡ Some text → spec_parts mark text.now ≡ part ∷ parts → spec_parts_left mark (option_copied o) ≡ part ∷ parts
left_next mark o text part parts is e = rw is e

index_at : (size align preferred index : List ℕ) (parts : List (List ℕ)) → has_parts parts ≡ true → index_text size (align ∷ preferred ∷ index ∷ parts) ≡ size
index_at size align preferred index [] h = absurd (cc)
index_at size align preferred index (p ∷ ps) h = refl

-- more than five parts
pub index_more : (size align preferred index text : List ℕ) → index_text size (align ∷ preferred ∷ index ∷ spec_parts 58 text) ≡ size
index_more size align preferred index text = index_at size align preferred index (spec_parts 58 text) (some_parts 58 text)

pub some_byte : (text : List ℕ) → 0 < slice_index text 0 → 1 ≤ length text
some_byte [] h = absurd (omega arith)
some_byte (b ∷ bs) h = omega arith
