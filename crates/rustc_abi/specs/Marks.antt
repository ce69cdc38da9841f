-- What a type says of itself: its mark, and those of its layout.
use Rattle.std.specs.Prelude.{◌≡◌, ⊤, List, None, Ok, false, length, map, true}
use Rattle.abi_base.specs.declared.data_layout.TargetDataLayout.{TargetDataLayout}
use Rattle.abi_base.specs.declared.struct_kind.StructKind.{StructKind}
use Rattle.abi_base.specs.declared.struct_kind.StructKind.TheVariants.{AlwaysSized}
use Rattle.abi_scalar.specs.Layout.{Layout}
use Rattle.abi_calc.specs.Made.{AreFieldLists}
use Rattle.abi_calc.specs.Marks.{HasCoroutineMarks, HasEnumMarks, HasListMarks, HasMarks, HasUnionMarks}
use Rattle.abi_tree.specs.declared.mark.Mark.{Mark}
use Rattle.abi_tree.specs.declared.mark.Mark.TheVariants.{Never, Plain, Unit}
use Rattle.abi_tree.specs.Mark.{mark_of}
use Rattle.abi_tree.specs.Tree.{Tree, never, unit, struct, union, enum, coroutine}
use Rattle.abi_tree.specs.Placed.{Placed, never as nowhere, fields, union as together, single, tagged, TaggedVariants, nothing_tagged}
use Rattle.abi_tree.specs.Placed.{tagged_variant, states as placed_states, layout_of}
use Rattle.rustc_abi.specs.Aligns.{IsKindOfVariants, repr_with}
use Rattle.rustc_abi.specs.Coroutines.{conflicts_of}
use Rattle.rustc_abi.specs.Enums.{discriminants_of, layouts_of}
use Rattle.rustc_abi.specs.Laying.{AreLaying, kind_of}
use Rattle.rustc_abi.specs.Least.{fields_of, fields_of_tagged_variants}
use Rattle.rustc_abi.specs.Lists.{types_of}

-- each variant or state says this of itself
abbrev pub AreMarked : Mark → TaggedVariants → Type 0
AreMarked mark nothing_tagged = ⊤
AreMarked mark (tagged_variant number layout own parts tagged_variants) = (own ≡ mark) × AreMarked mark tagged_variants

module _ (dl : TargetDataLayout) where
  -- A struct or a union says what its repr says: whether it is transparent, and whether it is passed by a pointer;
  -- an enum says the same, and so do its variants. The layout has the marks of its list or union of fields, of the
  -- lists of its variants, or of the coroutine's. Of scalars, pairs, arrays and vectors, which have no repr, nothing is
  -- said.
  abbrev pub HasMarksOfParts : Tree → Placed → Type 0
  HasMarksOfParts never (nowhere layout mark) = (mark ≡ Never) × HasMarks true None dl.i8_align false 0 layout
  HasMarksOfParts unit (fields layout mark parts) = (mark ≡ Unit) × HasMarks false None dl.i8_align false 0 layout
  HasMarksOfParts (struct repr always_sized order all) (fields layout mark parts) =
      (mark ≡ mark_of false repr)
      × HasListMarks dl (repr_with order repr) (kind_of always_sized (fields_of parts)) (types_of parts) layout
  HasMarksOfParts (union repr all) (together layout mark parts) =
      (mark ≡ mark_of false repr) × HasUnionMarks dl repr (types_of parts) layout
  HasMarksOfParts (enum repr all) (nowhere layout mark) =
      (mark ≡ mark_of true repr) × HasMarks true None dl.i8_align false 0 layout
  HasMarksOfParts (enum repr all) (single layout mark index parts) =
      (mark ≡ mark_of true repr) × HasListMarks dl repr AlwaysSized (types_of parts) layout
  HasMarksOfParts (enum repr all) (tagged layout mark offset tag encoding tagged_variants) =
      (mark ≡ mark_of true repr) × AreMarked (mark_of true repr) tagged_variants
      × (kind : StructKind) × IsKindOfVariants dl repr (discriminants_of all) (fields_of_tagged_variants tagged_variants) encoding kind
      × (lists : List Layout) × AreFieldLists (λ i. i) dl repr kind (layouts_of (fields_of_tagged_variants tagged_variants)) lists
      × HasEnumMarks dl repr lists layout
  HasMarksOfParts (coroutine prefix locals all conflicts) (placed_states layout pre offset tag tagged_variants) =
      AreMarked Plain tagged_variants
      × (ps : List Placed) × AreLaying dl locals (Ok ps)
      × HasCoroutineMarks (types_of pre) (map layout_of ps) all (conflicts_of (length ps) conflicts) layout
  HasMarksOfParts _ placed = ⊤
