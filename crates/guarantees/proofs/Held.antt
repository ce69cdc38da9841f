-- What bytes hold, as a caller reads it from the definitions.
use Rattle.std.proofs.Common.{◌≡◌, ℕ, zero, suc, List, [], ◌∷◌, Vec, Option, None, Some, ◌≤◌, length, set, arith, refl, sym, ap, ◌∙◌, subst}
use Rattle.std.specs.Prelude.{MatchOption, slice_get}
use Rattle.std.specs.Option.{option_map}
use Rattle.std.specs.declared.alloc.Global.{Global}
use Rattle.abi_base.specs.declared.data_layout.TargetDataLayout.{TargetDataLayout}
use Rattle.abi_tree.specs.declared.laid.Laid.{Laid}
use Rattle.abi_tree.specs.declared.value.Value.{Value as Kept, List as ListKept, Pair as PairKept, State as StateKept, Variant as VariantKept, fold-roll-Value}
use Rattle.abi_tree.specs.declared.value.Value.TheVariants.{rolls-List, rolls-State, rolls-Variant}
use Rattle.abi_tree.specs.declared.value.Value.TheOpen as layer
use Rattle.abi_tree.specs.Holding.{Holds}
use Rattle.abi_tree.specs.Laid.{endian_of, placed_of}
use Rattle.abi_tree.specs.OfTree.{IsOfTree}
use Rattle.abi_tree.specs.Reading.{KeepsValues}
use Rattle.abi_tree.specs.Tree.{Tree}
use Rattle.abi_tree.specs.Value.{Value, two, list, variant, state, Values, more_values, layer_value, value_of, values_of}
use Rattle.guarantees.specs.Field.{IsValueFound, value_at, with_value}

-- a list as a value
pub value_of-List : (vs : Vec Kept Global) → value_of (ListKept vs) ≡ list (values_of vs.items)
value_of-List vs = ap value_of (sym (rolls-List vs)) ∙ fold-roll-Value Value layer_value (layer.List vs)

-- the value with an index among those of a list
pub value_at-values_of : (ks : List Kept) (i : ℕ) → value_at (values_of ks) i ≡ option_map value_of (slice_get ks i)
value_at-values_of [] i = refl
value_at-values_of (k ∷ ks) zero = refl
value_at-values_of (k ∷ ks) (suc i) = value_at-values_of ks i

-- the program's value is its own answer
answer_of : (o : Option Kept) → IsValueFound o (option_map value_of o)
answer_of None = refl
answer_of (Some k) = refl

pub inj-list : (vs ws : Values) → list vs ≡ list ws → vs ≡ ws
inj-list vs ws e = cc

-- the value with an index in the only value that is held, whose values are these
pub part_answer : (held : Value → Type 0) (only : Value) (ks : List Kept) (i : ℕ) (found : Option Kept) → ((other : Value) → held other → other ≡ only) → found ≡ slice_get ks i →
    (v : Value) (ws : Values) → (v ≡ only → ws ≡ values_of ks) → held v → IsValueFound found (value_at ws i)
part_answer held only ks i found one is v ws parts h =
    let value : value_at ws i ≡ option_map value_of found = ap (λ us. value_at us i) (parts (one v h)) ∙ value_at-values_of ks i ∙ ap (option_map value_of) (sym is) in
    subst (IsValueFound found) (sym value) (answer_of found)

-- the field of the only value that is held
pub field_answer : (laid : Laid) (b : List ℕ) (vs : Vec Kept Global) (i : ℕ) (found : Option Kept) → IsOfTree laid →
    ((dl : TargetDataLayout) (tree : Tree) → KeepsValues dl tree laid → (other : Value) → Holds (endian_of laid) (placed_of laid) b other → other ≡ value_of (ListKept vs)) →
    found ≡ slice_get vs.items i → (ws : Values) → Holds (endian_of laid) (placed_of laid) b (list ws) → IsValueFound found (value_at ws i)
field_answer laid b vs i found kept one is ws held =
    part_answer (Holds (endian_of laid) (placed_of laid) b) (value_of (ListKept vs)) vs.items i found (one kept.dl kept.tree (kept.keeps.values kept.locals)) is (list ws) ws
    (λ e. inj-list ws (values_of vs.items) (e ∙ value_of-List vs)) held

-- a list that was read is held
pub list_held : (laid : Laid) (b : List ℕ) (vs : Vec Kept Global) → Holds (endian_of laid) (placed_of laid) b (value_of (ListKept vs)) →
    ((ws : Values) → Holds (endian_of laid) (placed_of laid) b (list ws) → ⊥) → ⊥
list_held laid b vs held none = none (values_of vs.items) (subst (Holds (endian_of laid) (placed_of laid) b) (value_of-List vs) held)

-- what is held is what was read
pub only_read : (laid : Laid) (b : List ℕ) (k : Kept) → IsOfTree laid →
    ((dl : TargetDataLayout) (tree : Tree) → KeepsValues dl tree laid → (other : Value) → Holds (endian_of laid) (placed_of laid) b other → other ≡ value_of k) →
    (v : Value) → Holds (endian_of laid) (placed_of laid) b v → v ≡ value_of k
only_read laid b k kept one = one kept.dl kept.tree (kept.keeps.values kept.locals)

-- a list with another value in the place of one
pub values_of-set : (ks : List Kept) (i : ℕ) (k : Kept) → values_of (set ks i k) ≡ with_value (values_of ks) i (value_of k)
values_of-set [] i k = refl
values_of-set (j ∷ ks) zero k = refl
values_of-set (j ∷ ks) (suc i) k = ap (more_values (value_of j)) (values_of-set ks i k)

pub value_at_past : (ks : List Kept) (i : ℕ) → length ks ≤ i → value_at (values_of ks) i ≡ None
value_at_past [] i le = refl
value_at_past (k ∷ ks) zero le = absurd (omega arith)
value_at_past (k ∷ ks) (suc i) le = value_at_past ks i (omega arith)

-- ---- variants, pairs and states

-- a variant, a pair and a state as values
pub value_of-Variant : (i : ℕ) (vs : Vec Kept Global) → value_of (VariantKept i vs) ≡ variant i (values_of vs.items)
value_of-Variant i vs = ap value_of (sym (rolls-Variant i vs)) ∙ fold-roll-Value Value layer_value (layer.Variant i vs)

pub value_of-Pair : (n m : ℕ) → value_of (PairKept n m) ≡ two n m
unfolding Rattle.abi_tree.specs.declared.value.Value.TheViews.roll-Value denote.Hole.Carrier.roll
value_of-Pair n m = fold-roll-Value Value layer_value (layer.Pair n m)

pub value_of-State : (i : ℕ) (ps vs : Vec Kept Global) → value_of (StateKept i ps vs) ≡ state i (values_of ps.items) (values_of vs.items)
value_of-State i ps vs = ap value_of (sym (rolls-State i ps vs)) ∙ fold-roll-Value Value layer_value (layer.State i ps vs)

pub inj-variant : (i j : ℕ) (vs ws : Values) → variant i vs ≡ variant j ws → (i ≡ j) × (vs ≡ ws)
inj-variant i j vs ws e = (cc, cc)

pub inj-two : (n m k l : ℕ) → two n m ≡ two k l → (n ≡ k) × (m ≡ l)
inj-two n m k l e = (cc, cc)

pub inj-state : (i j : ℕ) (ps vs qs ws : Values) → state i ps vs ≡ state j qs ws → (i ≡ j) × (vs ≡ ws)
inj-state i j ps vs qs ws e = (cc, cc)

-- no pair is answered where the value is none
pub no_both : (found : Option (ℕ × ℕ)) (v : Value) → MatchOption found ((n m : ℕ) → v ≡ two n m → ⊥) (λ both. v ≡ two both.0 both.1) → ((n m : ℕ) → v ≡ two n m → ⊥) → found ≡ None
no_both None v h none = refl
no_both (Some both) v h none = absurd (none both.0 both.1 h)
