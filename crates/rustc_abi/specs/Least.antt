-- How large types are: structs as small as an order of their fields allows, enums and coroutines as their lists allow,
-- others by their rule; and which sizes are refused.
use Rattle.std.specs.Prelude.{◌≡◌, ℕ, true, ◌*◌, ◌≤◌, ◌⊎◌, Bool, List, [], ◌∷◌, length, map, None, Some, Ok, ⊤}
use Rattle.abi_base.specs.declared.data_layout.TargetDataLayout.{TargetDataLayout}
use Rattle.abi_base.specs.DataLayout.{size_bound}
use Rattle.abi_scalar.specs.declared.repr.ReprOptions.{ReprOptions}
use Rattle.abi_scalar.specs.declared.scalar.Scalar.{Scalar}
use Rattle.abi_base.specs.declared.struct_kind.StructKind.TheVariants.{AlwaysSized}
use Rattle.abi_scalar.specs.Pair.{pair_size}
use Rattle.abi_scalar.specs.Scalar.{scalar_size}
use Rattle.abi_calc.specs.Coroutine.Layout.{IsStateTag}
use Rattle.abi_calc.specs.Coroutine.Promotion.{promoted_of}
use Rattle.abi_calc.specs.Coroutine.Sizes.{IsOverlapSize, IsSizeWith, IsTooLargeWith, MayOverlap}
use Rattle.abi_calc.specs.declared.enums.strategy.EnumStrategy.{EnumStrategy}
use Rattle.abi_calc.specs.declared.enums.strategy.EnumStrategy.TheVariants.{NoValue, OneList, Several}
use Rattle.abi_calc.specs.Enums.EnumStrategy.{strategy_of, variant_at}
use Rattle.abi_calc.specs.Enums.Several.{HasEnumSize, IsAskedTooLarge}
use Rattle.abi_univariant.specs.Least.{IsEachOrderTooLarge, IsLeastSize, IsOrderOf, size_by}
use Rattle.abi_univariant.specs.Simd.{IsVectorTooLarge, vector_size}
use Rattle.abi_univariant.specs.Union.{IsUnionTooLarge, union_size}
use Rattle.abi_tree.specs.Tree.{Tree, scalar, pair, never, unit, array, vector, struct, union, enum, coroutine, Trees}
use Rattle.abi_tree.specs.Tree.{no_trees, more_trees, Variants, no_variants, more_variants}
use Rattle.abi_tree.specs.Placed.{Placed, scalar as one_number, pair as two, never as nowhere, elements}
use Rattle.abi_tree.specs.Placed.{vector as lanes_of_vector, fields, union as together, single, tagged}
use Rattle.abi_tree.specs.Placed.{states as placed_states}
use Rattle.abi_tree.specs.Placed.{Parts, no_parts, part, TaggedVariants, nothing_tagged, tagged_variant, element_of, layout_of, size_of}
use Rattle.rustc_abi.specs.ScalarFault.{scalar_fault}
use Rattle.rustc_abi.specs.Coroutines.{conflicts_of}
use Rattle.rustc_abi.specs.Enums.{IsTagIntegerAnswer, counted, discriminants_of, layouts_of}
use Rattle.rustc_abi.specs.Laying.{IsLaying, AreLaying, VariantsLaying, coroutine_fault, enum_fault, fields_fault, kind_of, one_scalar}
use Rattle.rustc_abi.specs.Laying.{ordered_fault, with_randomize_flag}

-- the laid-out fields, as a list
abbrev pub fields_of : Parts → List Placed
fields_of no_parts = []
fields_of (part offset placed parts) = placed ∷ fields_of parts

-- the laid-out fields of variants beside a tag
abbrev pub fields_of_tagged_variants : TaggedVariants → List (List Placed)
fields_of_tagged_variants nothing_tagged = []
fields_of_tagged_variants (tagged_variant number layout mark parts tagged_variants) = fields_of parts ∷ fields_of_tagged_variants tagged_variants

-- several variants with these discriminants have the size that their lists allow: with a niche, where these leave room for one, else
-- behind a tag
abbrev pub IsEnumSized : TargetDataLayout → ReprOptions → (numbers : List ℕ) → List (List Placed) → (size : ℕ) → Type 0
IsEnumSized dl repr numbers variants size =
    HasEnumSize layout_of (λ i. i) 0 dl repr (IsTagIntegerAnswer dl repr) (counted repr numbers variants) variants size

-- variants with these discriminants are too large: the one that is left is in each order of its list, and of several one's list behind
-- the tag is in each order, or the tagged size is
abbrev pub IsTooLargeBy : TargetDataLayout → ReprOptions → (numbers : List ℕ) → List (List Placed) → EnumStrategy → Type 0
IsTooLargeBy dl repr numbers variants NoValue = ⊥
IsTooLargeBy dl repr numbers variants (OneList i) = IsEachOrderTooLarge dl repr AlwaysSized (map layout_of (variant_at variants i))
IsTooLargeBy dl repr numbers variants Several =
    (repr.pack ≡ None) × IsAskedTooLarge dl repr (IsTagIntegerAnswer dl repr) (counted repr numbers variants) (layouts_of variants)

-- an enum is too large, by the way in which it is laid out
abbrev pub IsEnumTooLarge : TargetDataLayout → ReprOptions → (numbers : List ℕ) → List (List Placed) → Type 0
IsEnumTooLarge dl repr numbers variants = IsTooLargeBy dl repr numbers variants (strategy_of true repr (layouts_of variants))

-- a struct of these fields has the least size of its list
abbrev pub IsLeastStruct : TargetDataLayout → ReprOptions → (always_sized : Bool) → List Placed → (size : ℕ) → Type 0
IsLeastStruct dl repr always_sized ps size = IsLeastSize dl repr (kind_of always_sized ps) (map layout_of ps) size

-- it is too large in each order of its list
abbrev pub IsStructTooLarge : TargetDataLayout → ReprOptions → (always_sized : Bool) → List Placed → Type 0
IsStructTooLarge dl repr always_sized ps = IsEachOrderTooLarge dl repr (kind_of always_sized ps) (map layout_of ps)

-- the size of a struct of these fields in an order that is handed in
abbrev pub ordered_size : TargetDataLayout → ReprOptions → (always_sized : Bool) → (order : List ℕ) → List Placed → ℕ
ordered_size dl repr always_sized order ps = size_by dl (with_randomize_flag repr) (kind_of always_sized ps) (map layout_of ps) order

-- the order may be handed in for these fields
abbrev pub IsOrderOfFields : TargetDataLayout → ReprOptions → (always_sized : Bool) → (order : List ℕ) → List Placed → Type 0
IsOrderOfFields dl repr always_sized order ps = IsOrderOf dl (with_randomize_flag repr) (kind_of always_sized ps) (length ps) order

-- a coroutine of these prefix fields, locals, states and conflicts has the size that its lists allow, with those of its
-- locals promoted that its states and conflicts demand: the list of prefix fields, tag and these has its least size, and
-- so has the list of each state's others behind it; the size is the greatest of them, rounded up to the greatest
-- alignment
abbrev pub IsCoroutineSized : TargetDataLayout → (prefix locals : List Placed) → (states : List (List ℕ))
    → (conflicts : List (ℕ × ℕ)) → (size : ℕ) → Type 0
IsCoroutineSized dl prefix locals states conflicts size =
    (tag : Scalar) × IsStateTag (length states) tag
    × IsSizeWith dl (map layout_of prefix) (layout_of (one_scalar dl tag)) (map layout_of locals) states
    (promoted_of states (conflicts_of (length locals) conflicts)) size

-- where the states may share all their bytes, it has the size that this allows: no local is promoted
abbrev pub IsOverlapSized : TargetDataLayout → (prefix locals : List Placed) → (states : List (List ℕ))
    → (conflicts : List (ℕ × ℕ)) → (size : ℕ) → Type 0
IsOverlapSized dl prefix locals states conflicts size =
    MayOverlap (length locals) states (conflicts_of (length locals) conflicts)
    → (tag : Scalar) × IsStateTag (length states) tag
    × IsOverlapSize dl (map layout_of prefix) (layout_of (one_scalar dl tag)) (map layout_of locals) states size

-- a coroutine of these is too large, with those of its locals promoted that its states and conflicts demand: a list is in each order, or
-- the greatest of them is
abbrev pub IsCoroutineTooLarge : TargetDataLayout → (prefix locals : List Placed) → (states : List (List ℕ)) → (conflicts : List (ℕ × ℕ)) → Type 0
IsCoroutineTooLarge dl prefix locals states conflicts =
    (tag : Scalar) × IsStateTag (length states) tag
    × IsTooLargeWith dl (map layout_of prefix) (layout_of (one_scalar dl tag)) (map layout_of locals) states (promoted_of states (conflicts_of (length locals) conflicts))

-- An enum of variants with these discriminants and fields has its size, by the way in which it is laid out: without a
-- value it has no bytes, the one that is left has the least size of its list, and several have the size that their
-- lists allow.
abbrev pub IsLeastEnum : TargetDataLayout → ReprOptions → (numbers : List ℕ) → (variants : List (List Placed)) → EnumStrategy
    → Placed → Type 0
IsLeastEnum dl repr numbers variants NoValue (nowhere layout mark) = layout.size ≡ 0
IsLeastEnum dl repr numbers variants (OneList i) (single layout mark index parts) =
    (index ≡ i) × (fields_of parts ≡ variant_at variants i)
    × IsLeastSize dl repr AlwaysSized (map layout_of (variant_at variants i)) layout.size
IsLeastEnum dl repr numbers variants Several (tagged layout mark offset tag encoding tagged_variants) =
    (fields_of_tagged_variants tagged_variants ≡ variants) × IsEnumSized dl repr numbers variants layout.size
IsLeastEnum dl repr numbers variants _ _ = ⊥

module _ (dl : TargetDataLayout) where
  -- Each type has its size: scalars, pairs, elements, vectors and unions the one that their rule gives, a struct the
  -- least of its list, or that of the order that is handed in; an enum and a coroutine the one that their lists allow.
  -- A type laid out as one of another kind has none.
  abbrev pub IsLeast : Tree → Placed → Type 0
  IsLeast (scalar s) (one_number layout value) = layout.size ≡ scalar_size dl s
  IsLeast (pair a b) (two layout parts) = layout.size ≡ pair_size dl a b
  IsLeast never (nowhere layout mark) = layout.size ≡ 0
  IsLeast unit (fields layout mark parts) = layout.size ≡ 0
  IsLeast (array count element) (elements layout n placed) = layout.size ≡ size_of placed * count
  IsLeast (vector lanes packed element) (lanes_of_vector layout all) =
      layout.size ≡ vector_size dl (layout_of (element_of all)) lanes packed
  IsLeast (struct repr always_sized None all) (fields layout mark parts) =
      IsLeastStruct dl repr always_sized (fields_of parts) layout.size
  IsLeast (struct repr always_sized (Some order) all) (fields layout mark parts) =
      layout.size ≡ ordered_size dl repr always_sized order (fields_of parts)
  IsLeast (union repr all) (together layout mark parts) =
      layout.size ≡ union_size dl repr (map layout_of (fields_of parts))
  IsLeast (enum repr all) placed =
      (variants : List (List Placed)) × VariantsLaying dl all (Ok variants)
      × IsLeastEnum dl repr (discriminants_of all) variants (strategy_of true repr (layouts_of variants)) placed
  IsLeast (coroutine prefix locals all conflicts) (placed_states layout pre offset tag tagged_variants) =
      (ps : List Placed) × AreLaying dl locals (Ok ps)
      × IsCoroutineSized dl (fields_of pre) ps all conflicts layout.size
  IsLeast _ _ = ⊥

  -- a coroutine whose states may share all their bytes has the size that this allows; of other types nothing is said
  abbrev pub HasOverlapSize : Tree → Placed → Type 0
  HasOverlapSize (coroutine prefix locals all conflicts) (placed_states layout pre offset tag tagged_variants) =
      (ps : List Placed) × AreLaying dl locals (Ok ps) × IsOverlapSized dl (fields_of pre) ps all conflicts layout.size
  HasOverlapSize _ placed = ⊤

  abbrev mutual
    -- The first fault is a size: of two scalars, of so many elements, of a struct that is too large in every order, or
    -- in the one that is handed in, of a vector, of a union, of an enum, or of a coroutine.
    pub IsTooLarge : Tree → Type 0
    IsTooLarge (pair a b) = (scalar_fault dl a ≡ None) × (scalar_fault dl b ≡ None) × (size_bound dl ≤ pair_size dl a b)
    IsTooLarge (array count element) =
        IsTooLarge element ⊎ ((p : Placed) × IsLaying dl element (Ok p) × (size_bound dl ≤ size_of p * count))
    IsTooLarge (struct repr always_sized None all) =
        AreTooLarge all ⊎ ((ps : List Placed) × AreLaying dl all (Ok ps) × (fields_fault repr ps ≡ None) × IsStructTooLarge dl repr always_sized ps)
    IsTooLarge (struct repr always_sized (Some order) all) =
        AreTooLarge all ⊎ ((ps : List Placed) × AreLaying dl all (Ok ps) × (ordered_fault repr ps ≡ None)
        × IsOrderOfFields dl repr always_sized order ps × (size_bound dl ≤ ordered_size dl repr always_sized order ps))
    IsTooLarge (vector lanes packed element) =
        IsTooLarge element ⊎ ((p : Placed) × IsLaying dl element (Ok p) × IsVectorTooLarge dl (layout_of p) lanes packed)
    IsTooLarge (union repr all) =
        AreTooLarge all ⊎ ((ps : List Placed) × AreLaying dl all (Ok ps) × (fields_fault repr ps ≡ None) × IsUnionTooLarge dl repr (map layout_of ps))
    IsTooLarge (enum repr all) =
        AreVariantsTooLarge all ⊎ ((variants : List (List Placed)) × VariantsLaying dl all (Ok variants)
        × (enum_fault dl repr (discriminants_of all) variants ≡ None) × IsEnumTooLarge dl repr (discriminants_of all) variants)
    IsTooLarge (coroutine prefix locals states conflicts) =
        AreTooLarge prefix ⊎ ((pres : List Placed) × AreLaying dl prefix (Ok pres)
        × (AreTooLarge locals ⊎ ((ps : List Placed) × AreLaying dl locals (Ok ps)
        × (coroutine_fault (length pres) (length ps) states conflicts ≡ None) × IsCoroutineTooLarge dl pres ps states conflicts)))
    IsTooLarge _ = ⊥

    -- the first fault of these types, one after another
    pub AreTooLarge : Trees → Type 0
    AreTooLarge no_trees = ⊥
    AreTooLarge (more_trees t ts) = IsTooLarge t ⊎ ((p : Placed) × IsLaying dl t (Ok p) × AreTooLarge ts)

    -- the first fault of the fields of variants is a size
    pub AreVariantsTooLarge : Variants → Type 0
    AreVariantsTooLarge no_variants = ⊥
    AreVariantsTooLarge (more_variants discriminant ts others) =
        AreTooLarge ts ⊎ ((ps : List Placed) × AreLaying dl ts (Ok ps) × AreVariantsTooLarge others)
