-- Values as numbers, one more.
use Rattle.std.proofs.Common.{◌≡◌, ℕ, suc, ◌+◌, ◌<◌, ◌≤◌, ◌++◌, List, [], ◌∷◌, get_or, take, length, map, refl, ap, sym, ◌∙◌}
use Rattle.std.proofs.lemmas.List.{append-nil, append_assoc, map-append, take_all, take_more}
use Rattle.abi_tree.specs.declared.value.Value.{Value as Kept}
use Rattle.abi_tree.specs.Value.{Value, value_of, values, values_of}
use Rattle.abi_c.specs.Numbers.FlatValue.{flat_value, flat_values, values_count}

values_more : (vs : List Value) (v : Value) → flat_values (values (vs ++ v ∷ [])) ≡ flat_values (values vs) ++ flat_value v
values_more [] v = append-nil (flat_value v)
values_more (w ∷ vs) v = ap (λ l. flat_value w ++ l) (values_more vs v) ∙ sym (append_assoc (flat_value w) (flat_values (values vs)) (flat_value v))

-- one value more
pub values_step : (old out new : List ℕ) (vs : List Kept) (i : ℕ) (v : Kept) → i < length vs → v ≡ get_or vs i v → out ≡ old ++ flat_values (values_of (take i vs))
    → new ≡ out ++ flat_value (value_of v) → new ≡ old ++ flat_values (values_of (take (i + 1) vs))
values_step old out new vs i v less is before e =
    e ∙ ap (λ l. l ++ flat_value (value_of v)) before ∙ append_assoc old (flat_values (values_of (take i vs))) (flat_value (value_of v))
    ∙ ap (λ l. old ++ l)
    (
    sym (values_more (map value_of (take i vs)) (value_of v)) ∙ ap (λ l. flat_values (values l)) (sym (map-append value_of (take i vs) (v ∷ [])))
    ∙ ap (λ w. flat_values (values_of (take i vs ++ w ∷ []))) is ∙ ap (λ l. flat_values (values_of l)) (sym (take_more vs i v less))
    )

counted : (vs : List Kept) → length vs ≡ values_count (values_of vs)
counted [] = refl
counted (v ∷ vs) = ap suc (counted vs)

-- all values behind their count
pub values_end : (old pushed out : List ℕ) (vs : List Kept) (i : ℕ) → length vs ≤ i → pushed ≡ old ++ length vs ∷ [] → out ≡ pushed ++ flat_values (values_of (take i vs))
    → out ≡ old ++ (values_count (values_of vs) ∷ flat_values (values_of vs))
values_end old pushed out vs i least first rest =
    rest ∙ ap (λ l. l ++ flat_values (values_of (take i vs))) first ∙ append_assoc old (length vs ∷ []) (flat_values (values_of (take i vs)))
    ∙ ap (λ l. old ++ (length vs ∷ flat_values (values_of l))) (take_all i vs least) ∙ ap (λ k. old ++ (k ∷ flat_values (values_of vs))) (counted vs)
