-- One more field in a loop over fields.
use Rattle.std.proofs.Common.{◌≡◌, ℕ, zero, suc, ◌+◌, ◌<◌, List, [], ◌∷◌, ◌++◌, length, drop, get_or, sym, ap, ◌∙◌, arith}
use Rattle.std.specs.List.{range_with_len}
use Rattle.std.proofs.lemmas.List.{drop_more}
use Rattle.abi_univariant.specs.Placement.{source_order}

-- the fields from the k-th on begin with it
pub rest_begins : {H : Type 0} (fields : List H) (k : ℕ) (h : H) → k < length fields → h ≡ get_or fields k h → drop k fields ≡ h ∷ drop (k + 1) fields
rest_begins fields k h short is = drop_more fields k h short ∙ ap (λ x. x ∷ drop (k + 1) fields) (sym is)

pub range-more : (from k : ℕ) → range_with_len from (suc k) ≡ range_with_len from k ++ (from + k) ∷ []
range-more from zero = ap (λ x. x ∷ []) (omega arith)
range-more from (suc k) = ap (λ xs. from ∷ xs) (range-more (from + 1) k ∙ ap (λ x. range_with_len (from + 1) k ++ x ∷ []) (omega arith))

-- the indices of one more field
pub source_more : (n : ℕ) → source_order (n + 1) ≡ source_order n ++ n ∷ []
source_more n =
    let one : n + 1 ≡ suc n = omega arith in
    let same : 0 + n ≡ n = omega arith in
    ap source_order one ∙ range-more 0 n ∙ ap (λ i. source_order n ++ i ∷ []) same
