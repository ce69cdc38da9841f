-- The lines of a union's fields.
use Rattle.std.proofs.Common.{◌≡◌, ℕ, suc, ◌+◌, ◌-◌, ◌<◌, List, ◌∷◌, ◌++◌, replicate, ap, sym, ◌∙◌, arith, append_assoc}
use Rattle.std.specs.Prelude.{codes}
use Rattle.std.specs.Fmt.{decimal}
use Rattle.abi_text.specs.Printing.{field_lines}

-- the first of the zeros that are left
replicate_next : (n i : ℕ) → i < n → replicate {A = ℕ} (n - i) 0 ≡ 0 ∷ replicate (n - (i + 1)) 0
replicate_next n i h =
    let more : n - i ≡ suc (n - (i + 1)) = omega arith in
    ap (λ m. replicate {A = ℕ} m 0) more

-- the line of the field of this index
abbrev pub line_at_zero : (index : ℕ) → List ℕ
line_at_zero index = codes "field " ++ (decimal index ++ (codes " offset " ++ (decimal 0 ++ codes "\n")))

-- the lines from this index on begin with it
line_next : (n i : ℕ) → i < n → field_lines i (replicate (n - i) 0) ≡ line_at_zero i ++ field_lines (i + 1) (replicate (n - (i + 1)) 0)
line_next n i h =
    let rest : List ℕ = field_lines (i + 1) (replicate (n - (i + 1)) 0) in
    ap (field_lines i) (replicate_next n i h)
    ∙ ap (λ xs. codes "field " ++ (xs ++ rest))
    (append_assoc (decimal i ++ codes " offset ") (decimal 0) (codes "\n") ∙ append_assoc (decimal i) (codes " offset ") (decimal 0 ++ codes "\n"))

-- with it written, the others are left
pub line_written : (old new : List ℕ) (n i : ℕ) → i < n → new ≡ old ++ line_at_zero i
    → new ++ field_lines (i + 1) (replicate (n - (i + 1)) 0) ≡ old ++ field_lines i (replicate (n - i) 0)
line_written old new n i h wrote =
    ap (λ xs. xs ++ field_lines (i + 1) (replicate (n - (i + 1)) 0)) wrote
    ∙ append_assoc old (line_at_zero i) (field_lines (i + 1) (replicate (n - (i + 1)) 0))
    ∙ ap (λ xs. old ++ xs) (sym (line_next n i h))
