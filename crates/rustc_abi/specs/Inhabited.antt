-- Which trees have values everywhere: each type in the tree is laid out unflagged, absent variants' fields and locals of no state among
-- them; and each of them has a value.
use Rattle.std.specs.Prelude.{◌≡◌, false, Ok, ⊤}
use Rattle.abi_base.specs.declared.data_layout.TargetDataLayout.{TargetDataLayout}
use Rattle.abi_tree.specs.Tree.{Tree, array, vector, struct, union, enum, coroutine}
use Rattle.abi_tree.specs.Tree.{Trees, no_trees, more_trees, Variants, no_variants, more_variants}
use Rattle.abi_tree.specs.Placed.{Placed, layout_of}
use Rattle.abi_tree.specs.Values.{HasValue}
use Rattle.rustc_abi.specs.Laying.{IsLaying}

module _ (dl : TargetDataLayout) where
  -- the type is laid out, and not flagged as one that has no value
  abbrev pub IsInhabited : Tree → Type 0
  IsInhabited t = (p : Placed) × IsLaying dl t (Ok p) × ((layout_of p).uninhabited ≡ false)

  abbrev mutual
    -- so is it, and so is each type in it
    pub EachInhabited : Tree → Type 0
    EachInhabited (array count element) = EachInhabited element × IsInhabited (array count element)
    EachInhabited (vector lanes packed element) = EachInhabited element × IsInhabited (vector lanes packed element)
    EachInhabited (struct repr always_sized order all) = AreInhabited all × IsInhabited (struct repr always_sized order all)
    EachInhabited (union repr all) = AreInhabited all × IsInhabited (union repr all)
    EachInhabited (enum repr all) = VariantsInhabited all × IsInhabited (enum repr all)
    EachInhabited (coroutine prefix locals states conflicts) =
        AreInhabited prefix × AreInhabited locals × IsInhabited (coroutine prefix locals states conflicts)
    EachInhabited t = IsInhabited t

    -- these types are, and each in them
    pub AreInhabited : Trees → Type 0
    AreInhabited no_trees = ⊤
    AreInhabited (more_trees t ts) = EachInhabited t × AreInhabited ts

    -- the fields of these variants are
    pub VariantsInhabited : Variants → Type 0
    VariantsInhabited no_variants = ⊤
    VariantsInhabited (more_variants discriminant ts others) = AreInhabited ts × VariantsInhabited others

  abbrev mutual
    -- the type has a value, and so has each type in it
    pub EachHasValue : Tree → Type 0
    EachHasValue (array count element) = EachHasValue element × HasValue dl (array count element)
    EachHasValue (vector lanes packed element) = EachHasValue element × HasValue dl (vector lanes packed element)
    EachHasValue (struct repr always_sized order all) = HaveValuesEach all × HasValue dl (struct repr always_sized order all)
    EachHasValue (union repr all) = HaveValuesEach all × HasValue dl (union repr all)
    EachHasValue (enum repr all) = VariantsHaveValues all × HasValue dl (enum repr all)
    EachHasValue (coroutine prefix locals states conflicts) =
        HaveValuesEach prefix × HaveValuesEach locals × HasValue dl (coroutine prefix locals states conflicts)
    EachHasValue t = HasValue dl t

    -- these types have, and each in them
    pub HaveValuesEach : Trees → Type 0
    HaveValuesEach no_trees = ⊤
    HaveValuesEach (more_trees t ts) = EachHasValue t × HaveValuesEach ts

    -- the fields of these variants have
    pub VariantsHaveValues : Variants → Type 0
    VariantsHaveValues no_variants = ⊤
    VariantsHaveValues (more_variants discriminant ts others) = HaveValuesEach ts × VariantsHaveValues others
