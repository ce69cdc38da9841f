-- Enums whose layout isn't free: how they are answered, by the lists of their variants.
use Rattle.std.proofs.Common.{◌≡◌, ℕ, ◌+◌, ◌^◌, ◌<◌, Bool, true, false, List, [], ◌∷◌, None, Some, length, map, refl, sym, ap, ap₂, ◌∙◌, subst, arith, inl, inr, Ok, Err, Result}
use Rattle.std.specs.Prelude.{max, not, unwrap_or, ◌||◌, ⊤, nat_lt, if◌then◌else◌}
use Rattle.std.specs.Int.{next_multiple_of}
use Rattle.std.proofs.lemmas.List.{length-map}
use Rattle.abi_base.specs.declared.data_layout.TargetDataLayout.{TargetDataLayout}
use Rattle.abi_base.specs.declared.integer.Integer.{Integer}
use Rattle.abi_base.specs.declared.primitive.Primitive.TheVariants.{Int}
use Rattle.abi_base.specs.declared.niche_optimizations.NicheOptimizations.TheVariants.{Enabled}
use Rattle.abi_base.specs.declared.struct_kind.StructKind.{StructKind}
use Rattle.abi_base.specs.Integer.{integer_size}
use Rattle.abi_scalar.specs.declared.backend_repr.BackendRepr.{BackendRepr}
use Rattle.abi_scalar.specs.declared.error.LayoutCalculatorError.{LayoutCalculatorError}
use Rattle.abi_scalar.specs.declared.repr.ReprOptions.{ReprOptions}
use Rattle.abi_scalar.specs.declared.scalar.Scalar.TheVariants.{Initialized}
use Rattle.abi_scalar.specs.declared.variants.VariantLayout.{VariantLayout}
use Rattle.abi_scalar.specs.declared.wrapping_range.WrappingRange.{WrappingRange}
use Rattle.abi_scalar.specs.Repr.{has_fixed_order}
use Rattle.abi_scalar.specs.Shape.{listed_offsets}
use Rattle.abi_scalar.specs.Simple.{never_layout}
use Rattle.abi_scalar.specs.Variant.{variant_of}
use Rattle.abi_univariant.specs.declared.part.Part.{Part}
use Rattle.abi_univariant.specs.Part.{part_of, parts_of}
use Rattle.abi_univariant.specs.Placement.{end_from, fields_repr, own_align, prefix_align, start_of}
use Rattle.abi_calc.specs.declared.enums.strategy.EnumStrategy.{EnumStrategy}
use Rattle.abi_calc.specs.declared.enums.strategy.EnumStrategy.TheVariants.{Several}
use Rattle.abi_calc.specs.Enums.Answer.{IsTypeAnswer}
use Rattle.abi_calc.specs.Enums.Growth.{grown_tag, grown_variant}
use Rattle.abi_calc.specs.Enums.Lists.{AreListLayouts, behind_tag}
use Rattle.abi_calc.specs.Enums.EnumStrategy.{is_free, strategy_among, strategy_of}
use Rattle.abi_calc.specs.Enums.Payload.{variant_with_view}
use Rattle.abi_calc.specs.Enums.Several.{IsAskedFor, IsSeveralAnswer}
use Rattle.abi_calc.specs.Enums.Tagged.{layout_with_view, lists_align, lists_size, payloads_of}
use Rattle.abi_calc.specs.Enums.Discriminants.{counted_discriminants}
use Rattle.abi_calc.specs.Enums.Payload.{tagged_view}
use Rattle.abi_univariant.specs.List.{IsUnivariantAnswer}
use Rattle.abi_tree.specs.Nodes.{parts_at}
use Rattle.abi_tree.specs.declared.mark.Mark.{Mark}
use Rattle.abi_tree.specs.Mark.{mark_of}
use Rattle.abi_tree.specs.Placed.{Placed, layout_of, never as nowhere}
use Rattle.abi_scalar.specs.Layout.{Layout}
use Rattle.abi_tree.specs.Tree.{Variants, no_variants, more_variants, enum}
use Rattle.rustc_abi.specs.Enums.{IsEnumed, IsTagIntegerAnswer, tagged_variants_at, counted, discriminants_of, layouts_of, numbered_from}
use Rattle.rustc_abi.specs.Laying.{AreLaying, IsLaying, VariantsLaying, enum_fault, placed_enum}
use Rattle.guarantees.proofs.ReferenceLemmas.Answers.{laid_by}
use Rattle.guarantees.specs.Reference.Words.{Extent, HasTaggedVariantForEach, extent_of, extents_of, most_aligned, rounded_up}
use Rattle.rustc_abi.specs.Lists.{offsets_of}
use Rattle.guarantees.specs.Reference.CStruct.{c_end, c_offsets}
use Rattle.guarantees.specs.Reference.FieldEnums.{EachVariant, variant_fields}
use Rattle.guarantees.proofs.ReferenceLemmas.Lists.{LiesInSource, align_same, end_same, extents_for, extents_of-parts_at, lies_in_source, offsets_of-parts_at, offsets_same, part_for_each, rounded}

-- ---- how such an enum is answered

-- The variants' lists behind a tag of the integer that is asked for.
pub record IsTaggedBehind (dl : TargetDataLayout) (repr : ReprOptions) (numbers : List ℕ) (variants : List (List Placed)) (layout : Layout) : Type 0 where
  pub asked : Integer
  pub signed : Bool
  pub range : WrappingRange
  pub for : IsAskedFor dl repr (IsTagIntegerAnswer dl repr) (counted repr numbers variants) asked signed
  pub lists : List Layout
  pub are : AreListLayouts layout_of (λ i. i) 0 dl repr (behind_tag dl repr asked (layouts_of variants)) variants lists
  pub view : BackendRepr
  pub is : layout ≡ layout_with_view 0 dl repr (integer_size asked) (Initialized (Int asked signed) range) (integer_size asked) lists view

abbrev ok : Layout → Result Layout (LayoutCalculatorError Placed)
ok l = Ok l

inj-Ok : (a b : Layout) → ok a ≡ ok b → a ≡ b
inj-Ok a b e = cc

no_error : (a : Layout) (e : LayoutCalculatorError Placed) → ok a ≡ Err e → ⊥
no_error a e is = cc

not_grown : (dl : TargetDataLayout) (free : Bool) (a b : Integer) → free ≡ false → (if free then b else a) ≡ a
not_grown dl true a b e = absurd (cc)
not_grown dl false a b e = refl

-- an enum that isn't free, with some variant, is tagged
several_by : (free more : Bool) (xs : List ℕ) → free ≡ false → strategy_among free (if not free || more then 0 ∷ xs else xs) ≡ Several
several_by true more xs e = absurd (cc)
several_by false more [] e = refl
several_by false more (x ∷ xs) e = refl

pub is_several : (repr : ReprOptions) (v : List Placed) (vs : List (List Placed)) → is_free repr ≡ false
    → strategy_of true repr (layouts_of (v ∷ vs)) ≡ Several
is_several repr v vs free = several_by (is_free repr) _ _ free

pub tagged_by : (dl : TargetDataLayout) (repr : ReprOptions) (numbers : List ℕ) (variants : List (List Placed)) (layout : Layout)
    → is_free repr ≡ false
    → IsSeveralAnswer layout_of (λ i. i) (λ i. i) (λ i. i) (λ i. i) dl repr (IsTagIntegerAnswer dl repr) variants (λ items. items ≡ numbered_from 0 numbers) (Ok layout)
    → IsTaggedBehind dl repr numbers variants layout
tagged_by dl repr numbers variants layout free (inl packed) = absurd (no_error layout _ packed.1)
tagged_by dl repr numbers variants layout free (inr (inl want)) = absurd (no_error layout _ want.1)
tagged_by dl repr numbers variants layout free (inr (inr (none, items, are, inl want))) = absurd (no_error layout _ want)
tagged_by dl repr numbers variants layout free (inr (inr (none, items, are, inr (niche, inr (inl f), tagged, asked, is)))) = absurd (let no : true ≡ false = sym f.0 ∙ free in cc)
tagged_by dl repr numbers variants layout free (inr (inr (none, items, are, inr (niche, inr (inr f), tagged, asked, is)))) = absurd (let no : true ≡ false = sym f.0 ∙ free in cc)
tagged_by dl repr numbers variants layout free (inr (inr (none, items, are, inr (None, inl n, Err e, asked, is)))) = absurd (no_error layout e is)
tagged_by dl repr numbers variants layout free (inr (inr (none, items, are, inr (Some l, inl n, tagged, asked, is)))) = absurd (let no : Some l ≡ None = n.1 in cc)
tagged_by dl repr numbers variants layout free (inr (inr (none, items, are, inr (None, inl n, Ok l, (asked, signed, for, (lists, lay, by)), is)))) =
    let grown : grown_tag dl repr asked _ ≡ asked = not_grown dl (is_free repr) asked _ free in
    let seen = λ (g : Integer). tagged_view dl (Initialized (Int g signed) by.ranged.0) (lists_size dl lists) (lists_align dl lists)
    (payloads_of dl (integer_size asked) (integer_size g) (layouts_of variants) lists) in
    record {
      asked = asked;
      signed = signed;
      range = by.ranged.0;
      for = subst (λ its. IsAskedFor dl repr (IsTagIntegerAnswer dl repr) (counted_discriminants (λ v. v) repr (layouts_of variants) its) asked signed) are for;
      lists = lists;
      are = lay;
      view = seen asked;
      is = inj-Ok layout l is ∙ by.ranged.2
          ∙ ap (λ (g : Integer). layout_with_view 0 dl repr (integer_size asked) (Initialized (Int g signed) by.ranged.0) (integer_size g) lists (seen g)) grown;
    }

-- ---- each variant's list, in the words of the chapter

pub record ListsFrom (dl : TargetDataLayout) (repr : ReprOptions) (from before : ℕ) (ps : List Placed) (layout : Layout) : Type 0 where
  pub count : length (listed_offsets layout.fields) ≡ length ps
  pub offsets : listed_offsets layout.fields ≡ c_offsets from (extents_for repr.pack ps)
  pub size : layout.size ≡ rounded_up (c_end from (extents_for repr.pack ps)) (2 ^ layout.align.abi)
  pub align : 2 ^ layout.align.abi
      ≡ max (2 ^ max (max (own_align dl repr) (unwrap_or repr.align 0)) before) (most_aligned (extents_for repr.pack ps))

lists_from : (dl : TargetDataLayout) (repr : ReprOptions) (kind : StructKind) (ps : List Placed) (layout : Layout)
    → has_fixed_order repr ≡ true → IsUnivariantAnswer layout_of (λ i. i) 0 dl repr kind ps (Ok layout)
    → ListsFrom dl repr (start_of repr.pack kind) (prefix_align repr.pack kind) ps layout
lists_from dl repr kind ps layout fixed (order, offsets, h) =
    let parts : List Part = parts_of dl (map layout_of ps) in
    let from : ℕ = start_of repr.pack kind in
    let s : LiesInSource (fields_repr dl repr kind) parts offsets layout.size layout.align.abi =
    lies_in_source dl (fields_repr dl repr kind) parts order offsets layout.size layout.align.abi layout.largest_niche (ap not fixed) h.named in
    let own : listed_offsets layout.fields ≡ offsets = ap listed_offsets h.shape in
    let begin : ℕ = max (max (own_align dl repr) (unwrap_or repr.align 0)) (prefix_align repr.pack kind) in
    record {
      count = ap length own ∙ s.count ∙ length-map (map layout_of ps) (λ f. part_of dl f) ∙ length-map ps layout_of;
      offsets = own ∙ s.places ∙ offsets_same dl repr.pack from ps;
      size = s.extent ∙ ap (λ a. next_multiple_of (end_from repr.pack from parts) (2 ^ a)) (sym s.alignment)
          ∙ ap (λ n. next_multiple_of n (2 ^ layout.align.abi)) (end_same dl repr.pack from ps)
          ∙ sym (rounded (c_end from (extents_for repr.pack ps)) layout.align.abi);
      align = ap (λ a. 2 ^ a) s.alignment ∙ align_same dl repr.pack begin ps;
    }

-- each variant's offsets
abbrev pub LieFrom : (from : ℕ) → List (VariantLayout ℕ) → List (List Placed) → Type 0
LieFrom from [] [] = ⊤
LieFrom from (l ∷ ls) (ps ∷ variants) =
    (length l.field_offsets ≡ length ps) × (l.field_offsets ≡ c_offsets from (map extent_of ps)) × LieFrom from ls variants
LieFrom from _ _ = ⊥

-- each variant's list by itself
abbrev pub AreListsFrom : TargetDataLayout → ReprOptions → (from before : ℕ) → List (List Placed) → List Layout → Type 0
AreListsFrom dl repr from before [] [] = ⊤
AreListsFrom dl repr from before (ps ∷ variants) (list ∷ lists) =
    ListsFrom dl repr from before ps list × AreListsFrom dl repr from before variants lists
AreListsFrom dl repr from before _ _ = ⊥

pub lists_are : (dl : TargetDataLayout) (repr : ReprOptions) (kind : StructKind) (variants : List (List Placed)) (lists : List Layout)
    → has_fixed_order repr ≡ true → AreListLayouts layout_of (λ i. i) 0 dl repr kind variants lists
    → AreListsFrom dl repr (start_of repr.pack kind) (prefix_align repr.pack kind) variants lists
lists_are dl repr kind [] [] fixed h = tt
lists_are dl repr kind [] (l ∷ lists) fixed h = absurd h
lists_are dl repr kind (ps ∷ variants) [] fixed h = absurd h
lists_are dl repr kind (ps ∷ variants) (l ∷ lists) fixed h =
    (lists_from dl repr kind ps l fixed h.0, lists_are dl repr kind variants lists fixed h.1)

-- a view and a tag that doesn't grow leave the offsets
pub either_keeps : (b : Bool) (v w : VariantLayout ℕ) → v.field_offsets ≡ w.field_offsets → (if b then v else w).field_offsets ≡ w.field_offsets
either_keeps true v w e = e
either_keeps false v w e = refl

stays : (b : Bool) (v w : VariantLayout ℕ) → b ≡ false → (if b then v else w) ≡ w
stays true v w e = absurd (cc)
stays false v w e = refl

abbrev pub seen_from : (old : ℕ) → (view : BackendRepr) → (size : ℕ) → Layout → VariantLayout ℕ
seen_from old view size list = variant_with_view view size (grown_variant old old (variant_of list))

not_less : (n : ℕ) (b : Bool) → nat_lt n n ≡ b → b ≡ false
not_less n true e = absurd (let less : n < n = grind (arith) in omega arith)
not_less n false e = refl

keeps_offsets : (old : ℕ) (view : BackendRepr) (size : ℕ) (list : Layout)
    → (seen_from old view size list).field_offsets ≡ listed_offsets list.fields
keeps_offsets old view size list =
    let own : grown_variant old old (variant_of list) ≡ variant_of list = stays (nat_lt old old) _ (variant_of list) (not_less old (nat_lt old old) refl) in
    either_keeps _ _ (grown_variant old old (variant_of list)) refl ∙ ap (λ (v : VariantLayout ℕ). v.field_offsets) own

pub lie_from : (dl : TargetDataLayout) (repr : ReprOptions) (from before old : ℕ) (view : BackendRepr) (size : ℕ)
    (variants : List (List Placed)) (lists : List Layout) → repr.pack ≡ None → AreListsFrom dl repr from before variants lists
    → LieFrom from (map (seen_from old view size) lists) variants
lie_from dl repr from before old view size [] [] loose h = tt
lie_from dl repr from before old view size [] (l ∷ lists) loose h = absurd h
lie_from dl repr from before old view size (ps ∷ variants) [] loose h = absurd h
lie_from dl repr from before old view size (ps ∷ variants) (l ∷ lists) loose h =
    let own = keeps_offsets old view size l in (
      ap length own ∙ h.0.count,
      own ∙ h.0.offsets ∙ ap (λ pack. c_offsets from (extents_for pack ps)) loose,
      lie_from dl repr from before old view size variants lists loose h.1,
    )

-- ---- the arms

module _ (dl : TargetDataLayout) (whole : Layout) (mark : Mark) (from : ℕ) where
  pub tagged_variant_for_each : (i : ℕ) (all : Variants) (variants : List (List Placed)) (layouts : List (VariantLayout ℕ))
      → VariantsLaying dl all (Ok variants) → LieFrom from layouts variants
      → HasTaggedVariantForEach all (tagged_variants_at whole mark i layouts (discriminants_of all) variants)
  tagged_variant_for_each i no_variants [] [] are lie = tt
  tagged_variant_for_each i no_variants [] (l ∷ layouts) are lie = absurd lie
  tagged_variant_for_each i no_variants (ps ∷ variants) layouts are lie = absurd (cc are)
  tagged_variant_for_each i (more_variants d ts others) variants layouts (inl f) lie = absurd (cc f.2)
  tagged_variant_for_each i (more_variants d ts others) variants layouts (inr (ps, here, inl f)) lie = absurd (cc f.2)
  tagged_variant_for_each i (more_variants d ts others) [] layouts (inr (ps, here, inr (rest, later, is))) lie = absurd (cc)
  tagged_variant_for_each i (more_variants d ts others) (qs ∷ variants) [] (inr (ps, here, inr (rest, later, is))) lie = absurd lie
  tagged_variant_for_each i (more_variants d ts others) (qs ∷ variants) (l ∷ layouts) (inr (ps, here, inr (rest, later, is))) lie =
      let first : ps ≡ qs = cc in
      let more : rest ≡ variants = cc in (
        refl,
        part_for_each dl ts l.field_offsets qs lie.0 (subst (λ xs. AreLaying dl ts (Ok xs)) first here),
        tagged_variant_for_each (i + 1) others variants layouts (subst (λ xs. VariantsLaying dl others (Ok xs)) more later) lie.2,
      )

  pub tagged_variant_fields : (i : ℕ) (numbers : List ℕ) (variants : List (List Placed)) (layouts : List (VariantLayout ℕ))
      → length numbers ≡ length variants → LieFrom from layouts variants
      → variant_fields (tagged_variants_at whole mark i layouts numbers variants) ≡ map (map extent_of) variants
  tagged_variant_fields i numbers [] [] e lie = refl
  tagged_variant_fields i numbers [] (l ∷ layouts) e lie = absurd lie
  tagged_variant_fields i numbers (ps ∷ variants) [] e lie = absurd lie
  tagged_variant_fields i [] (ps ∷ variants) (l ∷ layouts) e lie = absurd (omega (arith, e))
  tagged_variant_fields i (n ∷ numbers) (ps ∷ variants) (l ∷ layouts) e lie =
      ap₂ (λ (es : List Extent) (ess : List (List Extent)). es ∷ ess) (extents_of-parts_at l.field_offsets ps lie.0)
      (tagged_variant_fields (i + 1) numbers variants layouts (omega (arith, e)) lie.2)

  pub each_tagged_variant : (P : List Extent → List ℕ → Type 0) → ((es : List Extent) → P es (c_offsets from es))
      → (i : ℕ) (numbers : List ℕ) (variants : List (List Placed)) (layouts : List (VariantLayout ℕ))
      → length numbers ≡ length variants → LieFrom from layouts variants
      → EachVariant P (tagged_variants_at whole mark i layouts numbers variants)
  each_tagged_variant P each i numbers [] [] e lie = tt
  each_tagged_variant P each i numbers [] (l ∷ layouts) e lie = absurd lie
  each_tagged_variant P each i numbers (ps ∷ variants) [] e lie = absurd lie
  each_tagged_variant P each i [] (ps ∷ variants) (l ∷ layouts) e lie = absurd (omega (arith, e))
  each_tagged_variant P each i (n ∷ numbers) (ps ∷ variants) (l ∷ layouts) e lie =
      let at : offsets_of (parts_at l.field_offsets ps) ≡ c_offsets from (map extent_of ps) =
      offsets_of-parts_at l.field_offsets ps lie.0 ∙ lie.1 in (
        subst (λ os. P (extents_of (parts_at l.field_offsets ps)) os) (sym at)
            (subst (λ es. P es (c_offsets from (map extent_of ps))) (sym (extents_of-parts_at l.field_offsets ps lie.0)) (each (map extent_of ps))),
        each_tagged_variant P each (i + 1) numbers variants layouts (omega (arith, e)) lie.2,
      )

-- ---- what holds of each such enum

pub none_left : (dl : TargetDataLayout) (all : Variants) → VariantsLaying dl all (Ok []) → all ≡ no_variants
none_left dl no_variants h = refl
none_left dl (more_variants d ts others) (inl f) = absurd (cc f.2)
none_left dl (more_variants d ts others) (inr (ps, here, inl f)) = absurd (cc f.2)
none_left dl (more_variants d ts others) (inr (ps, here, inr (rest, later, is))) = absurd (cc)

-- what says nothing where the layout is free, and holds without variants and of each enum with a tag
module _ (dl : TargetDataLayout) (repr : ReprOptions) (all : Variants) (Rule : Placed → Type 0) (vacuous : is_free repr ≡ true → (p : Placed) → Rule p)
    (empty : all ≡ no_variants → Rule (nowhere (never_layout dl) (mark_of true repr)))
    (tagged : (v : List Placed) (vs : List (List Placed)) (layout : Layout) → VariantsLaying dl all (Ok (v ∷ vs)) → enum_fault dl repr (discriminants_of all) (v ∷ vs) ≡ None
    → IsTaggedBehind dl repr (discriminants_of all) (v ∷ vs) layout → Rule (placed_enum dl repr (discriminants_of all) (v ∷ vs) layout)) where
  by_free : (free : Bool) → is_free repr ≡ free → (variants : List (List Placed)) (layout : Layout) → VariantsLaying dl all (Ok variants)
      → enum_fault dl repr (discriminants_of all) variants ≡ None → IsEnumed dl repr (discriminants_of all) variants (Ok layout)
      → Rule (placed_enum dl repr (discriminants_of all) variants layout)
  by_free true is variants layout there none h = vacuous is (placed_enum dl repr (discriminants_of all) variants layout)
  by_free false is [] layout there none h =
      subst (λ (l : Layout). Rule (placed_enum dl repr (discriminants_of all) [] l)) (sym (inj-Ok layout (never_layout dl) h)) (empty (none_left dl all there))
  by_free false is (v ∷ vs) layout there none h =
      tagged v vs layout there none (tagged_by dl repr (discriminants_of all) (v ∷ vs) layout is
      (subst (λ (strategy : EnumStrategy). IsTypeAnswer layout_of (λ i. i) (λ i. i) (λ i. i) (λ i. i) dl repr (v ∷ vs) true true Enabled (IsTagIntegerAnswer dl repr)
      (λ items. items ≡ numbered_from 0 (discriminants_of all)) strategy (Ok layout)) (is_several repr v vs is) h))

  pub of_tagged : (p : Placed) → IsLaying dl (enum repr all) (Ok p) → Rule p
  of_tagged p (inl f) = absurd (cc f.2)
  of_tagged p (inr (variants, there, answer)) =
      let found = laid_by (enum_fault dl repr (discriminants_of all) variants) (IsEnumed dl repr (discriminants_of all) variants)
      (placed_enum dl repr (discriminants_of all) variants) p answer in
      subst Rule found.2 (by_free (is_free repr) refl variants found.0 there found.3 found.1)
