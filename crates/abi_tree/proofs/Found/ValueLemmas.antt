-- The program's values as the definitions see them.
use Rattle.std.proofs.Common.{◌≡◌, ℕ, List, [], ◌∷◌, ◌++◌, Vec, refl, ap, sym, ◌∙◌}
use Rattle.std.specs.declared.alloc.Global.{Global}
use Rattle.abi_tree.specs.declared.value.Value.{Value as Kept, Num as NumKept, Pair as PairKept, List as ListKept, Variant as VariantKept, Union as UnionKept, fold-roll-Value}
use Rattle.abi_tree.specs.declared.value.Value.TheVariants.{rolls-List, rolls-Variant}
use Rattle.abi_tree.specs.declared.value.Value.TheOpen as layer
use Rattle.abi_tree.specs.Value.{Value, number, two, list, variant, bytes, Values, no_values, more_values, layer_value, value_of, values_of}

pub value_of-Num : (n : ℕ) → value_of (NumKept n) ≡ number n
unfolding Rattle.abi_tree.specs.declared.value.Value.TheViews.roll-Value denote.Hole.Carrier.roll
value_of-Num n = fold-roll-Value Value layer_value (layer.Num n)

pub value_of-Pair : (n m : ℕ) → value_of (PairKept n m) ≡ two n m
unfolding Rattle.abi_tree.specs.declared.value.Value.TheViews.roll-Value denote.Hole.Carrier.roll
value_of-Pair n m = fold-roll-Value Value layer_value (layer.Pair n m)

pub value_of-List : (vs : Vec Kept Global) → value_of (ListKept vs) ≡ list (values_of vs.items)
value_of-List vs = ap value_of (sym (rolls-List vs)) ∙ fold-roll-Value Value layer_value (layer.List vs)

pub value_of-Variant : (i : ℕ) (vs : Vec Kept Global) → value_of (VariantKept i vs) ≡ variant i (values_of vs.items)
value_of-Variant i vs = ap value_of (sym (rolls-Variant i vs)) ∙ fold-roll-Value Value layer_value (layer.Variant i vs)

pub value_of-Union : (content : Vec ℕ Global) → value_of (UnionKept content) ≡ bytes content.items
unfolding Rattle.abi_tree.specs.declared.value.Value.TheViews.roll-Value denote.Hole.Carrier.roll
value_of-Union content = fold-roll-Value Value layer_value (layer.Union content)

-- values behind others
abbrev pub joined : Values → Values → Values
joined no_values ws = ws
joined (more_values v vs) ws = more_values v (joined vs ws)

pub joined-none : (vs : Values) → joined vs no_values ≡ vs
joined-none no_values = refl
joined-none (more_values v vs) = ap (more_values v) (joined-none vs)

pub joined-push : (ks : List Kept) (k : Kept) (ws : Values) → joined (values_of (ks ++ k ∷ [])) ws ≡ joined (values_of ks) (more_values (value_of k) ws)
joined-push [] k ws = refl
joined-push (j ∷ ks) k ws = ap (more_values (value_of j)) (joined-push ks k ws)
