-- What the functions that lay out a tree keep, node by node.
use Rattle.std.specs.Prelude.{◌≡◌, ℕ, ◌+◌, ◌<◌, ◌⊎◌, true, All, List, [], ◌∷◌, length, map, take, Result, Ok, Err, ⊤, Vec}
use Rattle.std.specs.declared.alloc.Global.{Global}
use Rattle.abi_base.specs.declared.data_layout.TargetDataLayout.{TargetDataLayout}
use Rattle.abi_scalar.specs.declared.variants.Variants.{Variants as LayoutVariants}
use Rattle.abi_scalar.specs.declared.variants.Variants.TheVariants.{Empty, Single as OneVariant, Multiple}
use Rattle.abi_scalar.specs.declared.repr.ReprOptions.{ReprOptions}
use Rattle.abi_scalar.specs.Lawful.{IsLawfulLayout}
use Rattle.abi_scalar.specs.Scalar.{IsWellFormed}
use Rattle.rustc_abi.specs.declared.error.LayError.{LayError}
use Rattle.rustc_abi.specs.declared.error.LayError.TheVariants.{OutOfMemory}
use Rattle.abi_tree.specs.declared.node.Node.{Node}
use Rattle.abi_tree.specs.Tree.{Tree, array, vector, struct, union, enum, coroutine, Trees, no_trees, more_trees, trees, Variants, no_variants, more_variants}
use Rattle.abi_tree.specs.Placed.{Placed, layout_of, size_of, TaggedVariants}
use Rattle.abi_scalar.specs.Layout.{Layout}
use Rattle.abi_tree.specs.Fits.{Fits}
use Rattle.abi_tree.specs.Nodes.{types_in, placed_at, tagged_variants_in, Keeps}
use Rattle.abi_tree.specs.Well.{AreWell, all_at}
use Rattle.rustc_abi.specs.Inside.{VariantsInside}
use Rattle.abi_calc.specs.Enums.EnumStrategy.{variant_at}
use Rattle.abi_tree.specs.Laws.{have_lists, have_places, sizes_at}
use Rattle.rustc_abi.specs.Enums.{discriminants_of}
use Rattle.rustc_abi.specs.Laying.{one_scalar, IsLaying, AreLaying, VariantsLaying}

-- memory aside, this is the refusal
abbrev pub IsRefusal : {A : Type 0} → Result A LayError → LayError → Type 0
IsRefusal answer e = (e ≡ OutOfMemory) ⊎ (answer ≡ Err e)

-- The nodes that were there are there, unchanged and in their places, before whatever was put behind them.
abbrev pub AreStillThere : (old new : List Node) → Type 0
AreStillThere old new = take (length old) new ≡ old

-- A node for the tree was put last, and each node that was there kept.
pub record IsAdded (dl : TargetDataLayout) (old new : List Node) (i : ℕ) (tree : Tree) : Type 0 where
  pub kept : Keeps (types_in old) (types_in new)
  pub well : AreWell old → AreWell new
  pub last : i + 1 ≡ length new
  pub exact : IsLaying dl tree (Ok (placed_at new i))
  pub fits : Fits dl tree (placed_at new i)

-- each type fits its tree
abbrev pub EachFits : TargetDataLayout → Trees → List Placed → Type 0
EachFits dl no_trees [] = ⊤
EachFits dl (more_trees t ts) (p ∷ ps) = Fits dl t p × EachFits dl ts ps
EachFits dl _ _ = ⊥

-- each type of each variant fits its tree
abbrev pub VariantsFit : TargetDataLayout → Variants → List (List Placed) → Type 0
VariantsFit dl no_variants [] = ⊤
VariantsFit dl (more_variants discriminant ts others) (ps ∷ rest) = EachFits dl ts ps × VariantsFit dl others rest
VariantsFit dl _ _ = ⊥

-- each of these children is one of so many nodes
abbrev pub AreThere : (count : ℕ) → (children : List ℕ) → Type 0
AreThere count children = All (λ child. child < count) children

-- and so is each child of each variant
abbrev pub AreEachThere : (count : ℕ) → (children : List (Vec ℕ Global)) → Type 0
AreEachThere count children = All (λ fields. AreThere count fields.items) children

-- each of these types has a lawful layout
abbrev pub HaveLawfulLayouts : TargetDataLayout → List Placed → Type 0
HaveLawfulLayouts dl ps = All (λ p. IsLawfulLayout dl (layout_of p)) ps

-- what the nodes of variants' fields mean
abbrev pub variants_in : List Node → List (Vec ℕ Global) → List (List Placed)
variants_in ns children = map (λ fields. all_at ns fields.items) children

-- a node was put for a type that is made of fields of these types: for each such tree, where they fit it
abbrev pub IsTypeAdded : TargetDataLayout → (old new : List Node) → (make : Trees → Tree) → List Placed → (i : ℕ) → Type 0
IsTypeAdded dl old new make fields i = (ts : Trees) → AreLaying dl ts (Ok fields) → EachFits dl ts fields → IsAdded dl old new i (make ts)

-- a node was put for an enum of these discriminants, whose variants have these types: for each such tree, where they fit it
abbrev pub IsEnumAdded : TargetDataLayout → (old new : List Node) → ReprOptions → (numbers : List ℕ) → List (List Placed) → (i : ℕ) → Type 0
IsEnumAdded dl old new repr numbers variants i =
    (all : Variants) → numbers ≡ discriminants_of all → VariantsLaying dl all (Ok variants) → VariantsFit dl all variants →
    IsAdded dl old new i (enum repr all)

-- a node was put for a coroutine whose prefix fields and locals have these types: for each such tree, where they fit it
abbrev pub IsCoroutineAdded : TargetDataLayout → (old new : List Node) → (prefix locals : List Placed) → (states : List (List ℕ)) → (conflicts : List (ℕ × ℕ)) → (i : ℕ) → Type 0
IsCoroutineAdded dl old new prefix locals states conflicts i =
    (pres ts : Trees) → AreLaying dl pres (Ok prefix) → AreLaying dl ts (Ok locals) → EachFits dl pres prefix → EachFits dl ts locals →
    IsAdded dl old new i (coroutine pres ts states conflicts)

-- Nodes for the trees were put, and each node that was there kept.
pub record AreAdded (dl : TargetDataLayout) (old new : List Node) (children : List ℕ) (ts : List Tree) : Type 0 where
  pub kept : Keeps (types_in old) (types_in new)
  pub well : AreWell old → AreWell new
  pub there : All (λ child. child < length new) children
  pub exact : AreLaying dl (trees ts) (Ok (all_at new children))
  pub fits : EachFits dl (trees ts) (all_at new children)

-- Nodes for the fields of variants were put, and each node that was there kept.
pub record AreVariantsAdded (dl : TargetDataLayout) (old new : List Node) (children : List (Vec ℕ Global)) (all : Variants) : Type 0 where
  pub kept : Keeps (types_in old) (types_in new)
  pub well : AreWell old → AreWell new
  pub there : All (λ fields. All (λ child. child < length new) fields.items) children
  pub exact : VariantsLaying dl all (Ok (variants_in new children))
  pub fits : VariantsFit dl all (variants_in new children)

-- A node for each variant beside a tag was put, and each node that was there kept: these variants are the tagged variants, with
-- their layouts and marks, and their nodes have these sizes and list their fields one by one.
pub record AreTaggedVariants (old new : List Node) (sizes : List ℕ) (variants : List (ℕ × ℕ)) (tagged_variants : TaggedVariants) : Type 0 where
  pub kept : Keeps (types_in old) (types_in new)
  pub well : AreWell old → AreWell new
  pub there : All (λ v. v.1 < length new) variants
  pub meant : tagged_variants_in (types_in new) variants ≡ tagged_variants
  pub sized : sizes_at (types_in new) (map (λ v. v.1) variants) ≡ sizes
  pub listed : have_lists (types_in new) (map (λ v. v.1) variants) ≡ true

-- the whole's own fields have their places, and so have those of each variant that a tag distinguishes
abbrev pub HavePlaces : TargetDataLayout → Layout → List (List Placed) → LayoutVariants ℕ ℕ → Type 0
HavePlaces dl layout variants Empty = have_places layout.size layout.fields [] ≡ true
HavePlaces dl layout variants (OneVariant i) = have_places layout.size layout.fields (map size_of (variant_at variants i)) ≡ true
HavePlaces dl layout variants (Multiple tag encoding field layouts) =
    (have_places layout.size layout.fields (size_of (one_scalar dl tag) ∷ []) ≡ true) × VariantsInside layout.size layouts variants

-- the layout's variants are these many: the one that is left is one of them, and those beside a tag are as many
abbrev pub HasVariants : (count : ℕ) → LayoutVariants ℕ ℕ → Type 0
HasVariants count Empty = ⊤
HasVariants count (OneVariant i) = i < count
HasVariants count (Multiple tag encoding field layouts) = length layouts ≡ count

-- the tag, where there is one, can be asked for its numbers
abbrev pub HasWellFormedTag : TargetDataLayout → LayoutVariants ℕ ℕ → Type 0
HasWellFormedTag dl (Multiple tag encoding field layouts) = IsWellFormed dl tag
HasWellFormedTag dl _ = ⊤

abbrev mutual
  -- how many nodes a tree has
  pub tree_size : Tree → ℕ
  tree_size (array count element) = tree_size element + 1
  tree_size (vector lanes packed element) = tree_size element + 1
  tree_size (struct repr always_sized order all) = trees_size all + 1
  tree_size (union repr all) = trees_size all + 1
  tree_size (enum repr all) = variants_size all + 1
  tree_size (coroutine prefix locals states conflicts) = trees_size prefix + trees_size locals + 1
  tree_size _ = 1

  -- how many nodes the types of a list are laid out with
  pub trees_size : Trees → ℕ
  trees_size no_trees = 0
  trees_size (more_trees t ts) = tree_size t + trees_size ts

  -- and those of the fields of variants
  pub variants_size : Variants → ℕ
  variants_size no_variants = 0
  variants_size (more_variants discriminant ts others) = trees_size ts + variants_size others
