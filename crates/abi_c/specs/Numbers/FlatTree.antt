-- Types as numbers, depth first: what each is, its operands, and its types, a count before each list.
use Rattle.std.specs.Prelude.{ℕ, zero, suc, ◌++◌, List, [], ◌∷◌, Some, None, length, ⊤}
use Rattle.abi_tree.specs.Tree.{Tree, scalar, pair, never, unit, array, vector, struct, union, enum, coroutine, Trees, no_trees, more_trees, Variants, no_variants, more_variants}
use Rattle.abi_c.specs.Numbers.Pieces.{flat_bool, flat_wide}
use Rattle.abi_c.specs.Numbers.FlatScalar.{flat_scalar, IsScalar}
use Rattle.abi_c.specs.Numbers.FlatRepr.{flat_repr, IsRepr}

-- how many types there are
abbrev pub count_of_trees : Trees → ℕ
count_of_trees no_trees = 0
count_of_trees (more_trees t ts) = suc (count_of_trees ts)

-- how many variants there are
abbrev pub count_of_variants : Variants → ℕ
count_of_variants no_variants = 0
count_of_variants (more_variants discriminant ts vs) = suc (count_of_variants vs)

-- a list of numbers behind its count
abbrev pub flat_words : List ℕ → List ℕ
flat_words ns = length ns ∷ ns

-- the lists of a list
abbrev pub flat_each : List (List ℕ) → List ℕ
flat_each [] = []
flat_each (s ∷ ss) = flat_words s ++ flat_each ss

-- pairs of numbers
abbrev pub flat_pairs : List (ℕ × ℕ) → List ℕ
flat_pairs [] = []
flat_pairs (p ∷ ps) = p.0 ∷ p.1 ∷ flat_pairs ps

abbrev mutual
  -- the numbers of a type
  pub flat_tree : Tree → List ℕ
  flat_tree (scalar s) = 0 ∷ flat_scalar s
  flat_tree (pair a b) = 1 ∷ flat_scalar a ++ flat_scalar b
  flat_tree never = 2 ∷ []
  flat_tree unit = 3 ∷ []
  flat_tree (array count t) = 4 ∷ count ∷ flat_tree t
  flat_tree (vector lanes packed t) = 5 ∷ lanes ∷ flat_bool packed ∷ flat_tree t
  flat_tree (struct repr sized None ts) = 6 ∷ flat_repr repr ++ flat_bool sized ∷ count_of_trees ts ∷ flat_trees ts
  flat_tree (struct repr sized (Some order) ts) =
      7 ∷ flat_repr repr ++ flat_bool sized ∷ flat_words order ++ count_of_trees ts ∷ flat_trees ts
  flat_tree (union repr ts) = 8 ∷ flat_repr repr ++ count_of_trees ts ∷ flat_trees ts
  flat_tree (enum repr vs) = 9 ∷ flat_repr repr ++ count_of_variants vs ∷ flat_variants vs
  flat_tree (coroutine prefix locals states conflicts) =
      10 ∷ count_of_trees prefix ∷ flat_trees prefix ++ count_of_trees locals ∷ flat_trees locals
      ++ length states ∷ flat_each states ++ length conflicts ∷ flat_pairs conflicts

  -- the numbers of types, one after another
  pub flat_trees : Trees → List ℕ
  flat_trees no_trees = []
  flat_trees (more_trees t ts) = flat_tree t ++ flat_trees ts

  -- the numbers of variants: each one's discriminant, and its fields
  pub flat_variants : Variants → List ℕ
  flat_variants no_variants = []
  flat_variants (more_variants discriminant ts vs) = flat_wide discriminant ++ count_of_trees ts ∷ flat_trees ts ++ flat_variants vs

abbrev mutual
  -- The type stands for one that the program can hold: no type in it is nested in as many others, and its address spaces,
  -- alignments, flags and counts of elements are not too large.
  pub IsReadable : (nested : ℕ) → Tree → Type 0
  IsReadable zero t = ⊥
  IsReadable (suc n) (scalar s) = IsScalar s
  IsReadable (suc n) (pair a b) = IsScalar a × IsScalar b
  IsReadable (suc n) (array count t) = IsReadable n t
  IsReadable (suc n) (vector lanes packed t) = IsReadable n t
  IsReadable (suc n) (struct repr sized order ts) = IsRepr repr × AreReadable n ts
  IsReadable (suc n) (union repr ts) = IsRepr repr × AreReadable n ts
  IsReadable (suc n) (enum repr vs) = IsRepr repr × AreReadableVariants n vs
  IsReadable (suc n) (coroutine prefix locals states conflicts) = AreReadable n prefix × AreReadable n locals
  IsReadable (suc n) _ = ⊤

  -- so does each of these
  pub AreReadable : (nested : ℕ) → Trees → Type 0
  AreReadable n no_trees = ⊤
  AreReadable n (more_trees t ts) = IsReadable n t × AreReadable n ts

  -- so does each field of these variants
  pub AreReadableVariants : (nested : ℕ) → Variants → Type 0
  AreReadableVariants n no_variants = ⊤
  AreReadableVariants n (more_variants discriminant ts vs) = AreReadable n ts × AreReadableVariants n vs
