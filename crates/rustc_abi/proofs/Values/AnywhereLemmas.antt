-- A type that has a value has one however it is laid out.
use Rattle.std.proofs.Common.{◌≡◌, ℕ, zero, suc, ◌<◌, List, [], ◌∷◌, replicate, get_or, arith, refl, ◌∙◌}
use Rattle.std.proofs.lemmas.List.{length-replicate}
use Rattle.std.proofs.lemmas.List.Elements.{All-replicate}
use Rattle.abi_base.specs.declared.data_layout.TargetDataLayout.{TargetDataLayout}
use Rattle.abi_tree.specs.Tree.{Tree, scalar, pair, unit, array, vector, struct, union, enum, coroutine, Trees, no_trees, more_trees, Variants, no_variants, more_variants}
use Rattle.abi_tree.specs.Bytes.{count_picked}
use Rattle.abi_tree.specs.Value.{Value, number, two, list, variant, state, bytes, Values, no_values, more_values, value_count, Each}
use Rattle.abi_tree.specs.Placed.{Placed, Parts, size_of, element_of, parts_in, first_part, more_parts, own_parts}
use Rattle.abi_tree.specs.Places.{is_data_place}
use Rattle.abi_tree.specs.Values.{EachAt, IsValueOf, AreValuesOf, AreValuesOfVariant, IsValueAt}

-- as many values
each_anywhere : (P Q : Value → Type 0) → ((v : Value) → P v → (w : Value) × Q w) → (vs : Values) → Each P vs → (ws : Values) × (value_count ws ≡ value_count vs) × Each Q ws
each_anywhere P Q one no_values h = (no_values, refl, tt)
each_anywhere P Q one (more_values v vs) h =
    let here = one v h.0 in
    let rest = each_anywhere P Q one vs h.1 in
    (more_values here.0 rest.0, omega (arith, rest.1), (here.1, rest.2))

at_anywhere : (P : ℕ → Placed → Value → Type 0) → ((k : ℕ) (p q : Placed) (v : Value) → P k p v → (w : Value) × P k q w) → (ks : List ℕ) (ps qs : Parts) (vs : Values) → EachAt P ks ps vs →
    (ws : Values) × EachAt P ks qs ws
at_anywhere P one [] ps qs no_values h = (no_values, tt)
at_anywhere P one [] ps qs (more_values v vs) h = absurd h
at_anywhere P one (k ∷ ks) ps qs no_values h = absurd h
at_anywhere P one (k ∷ ks) ps qs (more_values v vs) h =
    let here = one k (first_part ps) (first_part qs) v h.0 in
    let rest = at_anywhere P one ks (more_parts ps) (more_parts qs) vs h.1 in
    (more_values here.0 rest.0, (here.1, rest.1))

module _ (dl : TargetDataLayout) where
  mutual
    pub value_anywhere : (t : Tree) (p q : Placed) (v : Value) → IsValueOf dl t p v → (w : Value) × IsValueOf dl t q w
    value_anywhere (scalar s) p q (number n) h = (number n, h)
    value_anywhere (pair a b) p q (two n m) h = (two n m, h)
    value_anywhere unit p q (list no_values) h = (list no_values, tt)
    value_anywhere (array count element) p q (list vs) h =
        let found = each_anywhere (IsValueOf dl element (element_of p)) (IsValueOf dl element (element_of q)) (λ v. value_anywhere element (element_of p) (element_of q) v) vs h.1 in
        (list found.0, (found.1 ∙ h.0, found.2))
    value_anywhere (vector lanes packed element) p q (list vs) h =
        let found = each_anywhere (IsValueOf dl element (element_of (element_of p))) (IsValueOf dl element (element_of (element_of q))) (λ v. value_anywhere element (element_of (element_of p)) (element_of (element_of q)) v) vs h.1 in
        (list found.0, (found.1 ∙ h.0, found.2))
    value_anywhere (struct repr always_sized order fields) p q (list vs) h =
        let found = values_anywhere fields (parts_in p) (parts_in q) vs h in
        (list found.0, found.1)
    value_anywhere (union repr fields) p q v h =
        let n = count_picked (is_data_place q) 0 (size_of q) in
        (bytes (replicate n 0), (All-replicate (λ b. b < 256) n 0 (omega arith), length-replicate n 0))
    value_anywhere (enum repr all) p q (variant i vs) h =
        let found = variant_anywhere all i (own_parts p i) (own_parts q i) vs h in
        (variant i found.0, found.1)
    value_anywhere (coroutine prefix locals states conflicts) p q (state i ps vs) h =
        let first = values_anywhere prefix (parts_in p) (parts_in q) ps h.0 in
        let found = at_anywhere (IsValueAt dl locals) (λ k. at_index locals k) (get_or states i []) (own_parts p i) (own_parts q i) vs h.2 in
        (state i first.0 found.0, (first.1, h.1, found.1))
    value_anywhere _ p q v h = absurd h

    values_anywhere : (ts : Trees) (ps qs : Parts) (vs : Values) → AreValuesOf dl ts ps vs → (ws : Values) × AreValuesOf dl ts qs ws
    values_anywhere no_trees ps qs no_values h = (no_values, tt)
    values_anywhere no_trees ps qs (more_values v vs) h = absurd h
    values_anywhere (more_trees t ts) ps qs no_values h = absurd h
    values_anywhere (more_trees t ts) ps qs (more_values v vs) h =
        let here = value_anywhere t (first_part ps) (first_part qs) v h.0 in
        let rest = values_anywhere ts (more_parts ps) (more_parts qs) vs h.1 in
        (more_values here.0 rest.0, (here.1, rest.1))

    variant_anywhere : (all : Variants) (i : ℕ) (ps qs : Parts) (vs : Values) → AreValuesOfVariant dl all i ps vs → (ws : Values) × AreValuesOfVariant dl all i qs ws
    variant_anywhere no_variants i ps qs vs h = absurd h
    variant_anywhere (more_variants discriminant fields others) zero ps qs vs h = values_anywhere fields ps qs vs h
    variant_anywhere (more_variants discriminant fields others) (suc i) ps qs vs h = variant_anywhere others i ps qs vs h

    at_index : (ts : Trees) (k : ℕ) (p q : Placed) (v : Value) → IsValueAt dl ts k p v → (w : Value) × IsValueAt dl ts k q w
    at_index no_trees k p q v h = absurd h
    at_index (more_trees t ts) zero p q v h = value_anywhere t p q v h
    at_index (more_trees t ts) (suc k) p q v h = at_index ts k p q v h
