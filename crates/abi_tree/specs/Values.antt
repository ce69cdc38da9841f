-- The values of a type, taken from the tree. Only a union looks at its layout: its values are lists of its data bytes.
use Rattle.std.specs.Prelude.{◌≡◌, ℕ, zero, suc, ◌<◌, List, [], ◌∷◌, length, get_or, ⊤}
use Rattle.abi_base.specs.declared.data_layout.TargetDataLayout.{TargetDataLayout}
use Rattle.abi_scalar.specs.Scalar.{scalar_size, IsNumberOf}
use Rattle.abi_tree.specs.Tree.{Tree, scalar, pair, unit, array, vector, struct, union, enum, coroutine, Trees, no_trees, more_trees, Variants, no_variants, more_variants}
use Rattle.abi_tree.specs.Value.{Value, number, two, list, variant, state, bytes, Values, no_values, more_values, value_count, Each}
use Rattle.abi_tree.specs.Bytes.{AreBytes, count_picked}
use Rattle.abi_tree.specs.Placed.{Placed, Parts, size_of, element_of, parts_in, first_part, more_parts, own_parts}
use Rattle.abi_tree.specs.Places.{is_data_place}

-- one value for each index, with the part at its place
abbrev pub EachAt : ((index : ℕ) → Placed → Value → Type 0) → List ℕ → Parts → Values → Type 0
EachAt P [] parts no_values = ⊤
EachAt P (k ∷ ks) parts (more_values v vs) = P k (first_part parts) v × EachAt P ks (more_parts parts) vs
EachAt P _ parts _ = ⊥

module _ (dl : TargetDataLayout) where
  abbrev mutual
    -- the value is one of the tree's
    pub IsValueOf : Tree → Placed → Value → Type 0
    IsValueOf (scalar s) placed (number n) = IsNumberOf (scalar_size dl s) s n
    IsValueOf (pair a b) placed (two n m) = IsNumberOf (scalar_size dl a) a n × IsNumberOf (scalar_size dl b) b m
    IsValueOf unit placed (list no_values) = ⊤
    IsValueOf (array count element) placed (list vs) =
        (value_count vs ≡ count) × Each (IsValueOf element (element_of placed)) vs
    IsValueOf (vector lanes packed element) placed (list vs) =
        (value_count vs ≡ lanes) × Each (IsValueOf element (element_of (element_of placed))) vs
    IsValueOf (struct repr always_sized order fields) placed (list vs) = AreValuesOf fields (parts_in placed) vs
    IsValueOf (union repr fields) placed (bytes content) =
        AreBytes content × (length content ≡ count_picked (is_data_place placed) 0 (size_of placed))
    IsValueOf (enum repr all) placed (variant i vs) = AreValuesOfVariant all i (own_parts placed i) vs
    IsValueOf (coroutine prefix locals states conflicts) placed (state i ps vs) =
        AreValuesOf prefix (parts_in placed) ps × (i < length states)
        × EachAt (IsValueAt locals) (get_or states i []) (own_parts placed i) vs
    IsValueOf _ placed _ = ⊥

    -- one value for each type
    pub AreValuesOf : Trees → Parts → Values → Type 0
    AreValuesOf no_trees parts no_values = ⊤
    AreValuesOf (more_trees t ts) parts (more_values v vs) = IsValueOf t (first_part parts) v × AreValuesOf ts (more_parts parts) vs
    AreValuesOf _ parts _ = ⊥

    -- one value for each field of the variant with this index
    pub AreValuesOfVariant : Variants → (index : ℕ) → Parts → Values → Type 0
    AreValuesOfVariant no_variants i parts vs = ⊥
    AreValuesOfVariant (more_variants discriminant fields others) zero parts vs = AreValuesOf fields parts vs
    AreValuesOfVariant (more_variants discriminant fields others) (suc i) parts vs = AreValuesOfVariant others i parts vs

    -- a value of the type with this index
    pub IsValueAt : Trees → (index : ℕ) → Placed → Value → Type 0
    IsValueAt no_trees k placed v = ⊥
    IsValueAt (more_trees t ts) zero placed v = IsValueOf t placed v
    IsValueAt (more_trees t ts) (suc k) placed v = IsValueAt ts k placed v

  -- the type has a value, however it is laid out
  abbrev pub HasValue : Tree → Type 0
  HasValue t = (placed : Placed) × (v : Value) × IsValueOf t placed v

  -- each of these trees has a value, however it is laid out
  abbrev pub HaveValues : Trees → Type 0
  HaveValues no_trees = ⊤
  HaveValues (more_trees t ts) = HasValue t × HaveValues ts

  -- Each local of each coroutine in the tree has a value: of other trees nothing is said.
  abbrev mutual
    pub LocalsHaveValues : Tree → Type 0
    LocalsHaveValues (array count element) = LocalsHaveValues element
    LocalsHaveValues (vector lanes packed element) = LocalsHaveValues element
    LocalsHaveValues (struct repr always_sized order fields) = LocalsOfEach fields
    LocalsHaveValues (union repr fields) = LocalsOfEach fields
    LocalsHaveValues (enum repr all) = LocalsOfVariants all
    LocalsHaveValues (coroutine prefix locals states conflicts) = LocalsOfEach prefix × LocalsOfEach locals × HaveValues locals
    LocalsHaveValues _ = ⊤

    -- so has each in these trees
    pub LocalsOfEach : Trees → Type 0
    LocalsOfEach no_trees = ⊤
    LocalsOfEach (more_trees t ts) = LocalsHaveValues t × LocalsOfEach ts

    -- and each in the fields of these variants
    pub LocalsOfVariants : Variants → Type 0
    LocalsOfVariants no_variants = ⊤
    LocalsOfVariants (more_variants discriminant fields others) = LocalsOfEach fields × LocalsOfVariants others

  -- Each vector's element in the tree has a value: of other trees nothing is said.
  abbrev mutual
    pub VectorsHaveValues : Tree → Type 0
    VectorsHaveValues (array count element) = VectorsHaveValues element
    VectorsHaveValues (vector lanes packed element) = VectorsHaveValues element × HasValue element
    VectorsHaveValues (struct repr always_sized order fields) = VectorsOfEach fields
    VectorsHaveValues (union repr fields) = VectorsOfEach fields
    VectorsHaveValues (enum repr all) = VectorsOfVariants all
    VectorsHaveValues (coroutine prefix locals states conflicts) = VectorsOfEach prefix × VectorsOfEach locals
    VectorsHaveValues _ = ⊤

    -- so has each in these trees
    pub VectorsOfEach : Trees → Type 0
    VectorsOfEach no_trees = ⊤
    VectorsOfEach (more_trees t ts) = VectorsHaveValues t × VectorsOfEach ts

    -- and each in the fields of these variants
    pub VectorsOfVariants : Variants → Type 0
    VectorsOfVariants no_variants = ⊤
    VectorsOfVariants (more_variants discriminant fields others) = VectorsOfEach fields × VectorsOfVariants others
