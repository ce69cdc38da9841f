-- Lists of the same values.
use Rattle.std.proofs.Common.{◌≡◌, ℕ, zero, suc, ◌+◌, ◌<◌, ◌≤◌, List, [], ◌∷◌, length, get_or, drop, refl, arith, ap, sym, ◌∙◌}
use Rattle.std.proofs.lemmas.List.{drop_all, drop_more}
use Rattle.abi_tree.specs.declared.value.Value.{Value as Kept}
use Rattle.abi_tree.specs.Value.{Value, number, Values, no_values, more_values, value_count, value_of, values_of}

-- the value at a place, or 0 past the end
abbrev value_at : Values → ℕ → Value
value_at no_values i = number 0
value_at (more_values v vs) zero = v
value_at (more_values v vs) (suc i) = value_at vs i

value_at-values : (ks : List Kept) (i : ℕ) (d : Kept) → i < length ks → value_at (values_of ks) i ≡ value_of (get_or ks i d)
value_at-values [] i d lt = absurd (omega arith)
value_at-values (k ∷ ks) zero d lt = refl
value_at-values (k ∷ ks) (suc i) d lt = value_at-values ks i d (omega arith)

value_count-values : (ks : List Kept) → value_count (values_of ks) ≡ length ks
value_count-values [] = refl
value_count-values (k ∷ ks) = omega (arith, value_count-values ks)

-- lists of the same values have one length
pub same_length : (xs ys : List Kept) → values_of xs ≡ values_of ys → length xs ≡ length ys
same_length xs ys e = sym (value_count-values xs) ∙ ap value_count e ∙ value_count-values ys

-- and the same value at each place
pub same_at : (xs ys : List Kept) (i : ℕ) (c d : Kept) → i < length xs → i < length ys → values_of xs ≡ values_of ys → value_of (get_or xs i c) ≡ value_of (get_or ys i d)
same_at xs ys i c d first second e = sym (value_at-values xs i c first) ∙ ap (λ vs. value_at vs i) e ∙ value_at-values ys i d second

-- where the values at a place are the same, and those behind it too, so are those from it on
pub same_from : (xs ys : List Kept) (i : ℕ) (c d : Kept) → i < length xs → i < length ys → value_of (get_or xs i c) ≡ value_of (get_or ys i d) →
    values_of (drop (i + 1) xs) ≡ values_of (drop (i + 1) ys) → values_of (drop i xs) ≡ values_of (drop i ys)
same_from xs ys i c d first second e rest =
    ap values_of (drop_more xs i c first)
    ∙ ap (λ v. more_values v (values_of (drop (i + 1) xs))) e
    ∙ ap (more_values (value_of (get_or ys i d))) rest
    ∙ ap values_of (sym (drop_more ys i d second))

-- past the end of both
pub same_end : (xs ys : List Kept) (i : ℕ) → length xs ≤ i → length ys ≤ i → values_of (drop i xs) ≡ values_of (drop i ys)
same_end xs ys i first second = ap values_of (drop_all i xs first ∙ sym (drop_all i ys second))
