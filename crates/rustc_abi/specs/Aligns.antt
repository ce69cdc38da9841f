-- How types are aligned, from their parts.
use Rattle.std.specs.Prelude.{◌≡◌, ℕ, ◌*◌, ⊤, Bool, List, None, Ok, Option, Some, length, map, max}
use Rattle.abi_base.specs.declared.data_layout.TargetDataLayout.{TargetDataLayout}
use Rattle.abi_base.specs.declared.integer.Integer.{Integer}
use Rattle.abi_base.specs.declared.struct_kind.StructKind.{StructKind}
use Rattle.abi_base.specs.declared.struct_kind.StructKind.TheVariants.{AlwaysSized}
use Rattle.abi_scalar.specs.declared.repr.ReprOptions.{ReprOptions}
use Rattle.abi_scalar.specs.declared.variants.TagEncoding.{TagEncoding}
use Rattle.abi_scalar.specs.declared.variants.TagEncoding.TheVariants.{Direct, Niche}
use Rattle.abi_scalar.specs.Pair.{pair_align}
use Rattle.abi_scalar.specs.Scalar.{scalar_align}
use Rattle.abi_univariant.specs.Fields.{greatest}
use Rattle.abi_univariant.specs.Least.{align_by}
use Rattle.abi_univariant.specs.Simd.{lanes_align}
use Rattle.abi_univariant.specs.Union.{union_align}
use Rattle.abi_calc.specs.Coroutine.Lists.{first_list}
use Rattle.abi_calc.specs.Coroutine.Promotion.{promoted_of}
use Rattle.abi_calc.specs.Coroutine.Sizes.{align_of_all, own_lists}
use Rattle.abi_calc.specs.Enums.Lists.{behind_tag}
use Rattle.abi_calc.specs.Enums.Several.{IsAskedFor}
use Rattle.abi_tree.specs.Tree.{Tree, scalar, pair, never, unit, array, vector, struct, union, enum, coroutine}
use Rattle.abi_tree.specs.Placed.{Placed, never as nowhere, elements, vector as lanes_of_vector, fields}
use Rattle.abi_tree.specs.Placed.{union as together, single, tagged, states as placed_states}
use Rattle.abi_tree.specs.Placed.{element_of, layout_of, size_of}
use Rattle.rustc_abi.specs.Coroutines.{conflicts_of}
use Rattle.rustc_abi.specs.Enums.{IsTagIntegerAnswer, counted, discriminants_of, layouts_of}
use Rattle.rustc_abi.specs.Laying.{AreLaying, kind_of, with_randomize_flag}
use Rattle.rustc_abi.specs.Least.{fields_of, fields_of_tagged_variants}
use Rattle.rustc_abi.specs.Lists.{types_of}

-- how its type is aligned, as an exponent of two
abbrev pub abi_align_of : Placed → ℕ
abi_align_of placed = (layout_of placed).align.abi

-- the repr of a struct's list: where an order is handed in, one under which fields may lie in any order
abbrev pub repr_with : (order : Option (List ℕ)) → ReprOptions → ReprOptions
repr_with None repr = repr
repr_with (Some order) repr = with_randomize_flag repr

-- several variants with these discriminants are lists of this kind: behind the integer that is asked for, where they
-- have a tag of their own, or always sized beside a niche
abbrev pub IsKindOfVariants : TargetDataLayout → ReprOptions → (numbers : List ℕ) → (variants : List (List Placed))
    → TagEncoding ℕ → StructKind → Type 0
IsKindOfVariants dl repr numbers variants Direct kind =
    (asked : Integer) × (signed : Bool)
    × IsAskedFor dl repr (IsTagIntegerAnswer dl repr) (counted repr numbers variants) asked signed
    × (kind ≡ behind_tag dl repr asked (layouts_of variants))
IsKindOfVariants dl repr numbers variants (Niche untagged span start) kind = kind ≡ AlwaysSized

-- the greatest alignment of variants' lists of this kind, and no less than that of aggregates
abbrev pub variants_align : TargetDataLayout → ReprOptions → StructKind → (variants : List (List Placed)) → ℕ
variants_align dl repr kind variants =
    max dl.aggregate_align (greatest (map (align_by dl repr kind) (layouts_of variants)))

module _ (dl : TargetDataLayout) where
  -- Each type has its alignment: scalars, pairs, vectors and unions the one that their rule gives, an array that of its
  -- element, a struct and an enum of which one variant is left that of the list, other enums and coroutines the
  -- greatest of their lists'; types without values or without fields that of a byte.
  abbrev pub HasAlignOfParts : Tree → Placed → Type 0
  HasAlignOfParts (scalar s) placed = abi_align_of placed ≡ scalar_align dl s
  HasAlignOfParts (pair a b) placed = abi_align_of placed ≡ pair_align dl a b
  HasAlignOfParts never placed = abi_align_of placed ≡ dl.i8_align
  HasAlignOfParts unit placed = abi_align_of placed ≡ dl.i8_align
  HasAlignOfParts (array count element) (elements layout n placed) = layout.align.abi ≡ abi_align_of placed
  HasAlignOfParts (vector lanes packed element) (lanes_of_vector layout all) =
      layout.align.abi ≡ lanes_align dl packed lanes (size_of (element_of all) * lanes)
  HasAlignOfParts (struct repr always_sized order all) (fields layout mark parts) =
      layout.align.abi ≡ align_by dl (repr_with order repr) (kind_of always_sized (fields_of parts)) (types_of parts)
  HasAlignOfParts (union repr all) (together layout mark parts) = layout.align.abi ≡ union_align dl repr (types_of parts)
  HasAlignOfParts (enum repr all) (nowhere layout mark) = layout.align.abi ≡ dl.i8_align
  HasAlignOfParts (enum repr all) (single layout mark index parts) =
      layout.align.abi ≡ align_by dl repr AlwaysSized (types_of parts)
  HasAlignOfParts (enum repr all) (tagged layout mark offset tag encoding tagged_variants) =
      (kind : StructKind) × IsKindOfVariants dl repr (discriminants_of all) (fields_of_tagged_variants tagged_variants) encoding kind
      × (layout.align.abi ≡ variants_align dl repr kind (fields_of_tagged_variants tagged_variants))
  HasAlignOfParts (coroutine prefix locals all conflicts) (placed_states layout pre offset tag tagged_variants) =
      (ps : List Placed) × AreLaying dl locals (Ok ps)
      × (layout.align.abi ≡ align_of_all dl
      (first_list (types_of pre) (layout_of tag) (map layout_of ps) (promoted_of all (conflicts_of (length ps) conflicts)))
      0 (own_lists (map layout_of ps) (promoted_of all (conflicts_of (length ps) conflicts)) all))
  HasAlignOfParts _ placed = ⊤
