-- Where the layout of an enum has its fields: its tag, and the fields of its variants.
use Rattle.std.proofs.Common.{◌≡◌, ℕ, zero, suc, ◌+◌, ◌<◌, ◌≤◌, List, [], ◌∷◌, Ok, None, true, get_or, ⊎_elim, All, length, map, arith, refl, sym, ap, ◌∙◌, subst}
use Rattle.std.specs.Cmp.Derive.{both_true}
use Rattle.std.proofs.lemmas.Bool.{le-leb}
use Rattle.std.proofs.lemmas.List.{length-map}
use Rattle.std.proofs.lemmas.Simd.{map-map}
use Rattle.std.proofs.lemmas.List.Elements.{All-cons, All-head, All-nil, All-tail}
use Rattle.abi_base.specs.declared.data_layout.TargetDataLayout.{TargetDataLayout}
use Rattle.abi_base.specs.declared.niche_optimizations.NicheOptimizations.TheVariants.{Enabled}
use Rattle.abi_base.specs.declared.struct_kind.StructKind.TheVariants.{AlwaysSized}
use Rattle.abi_base.specs.DataLayout.{IsLawfulDataLayout}
use Rattle.abi_base.specs.Primitive.{primitive_size}
use Rattle.abi_scalar.specs.declared.fields_shape.FieldsShape.TheVariants.{Arbitrary}
use Rattle.abi_scalar.specs.declared.repr.ReprOptions.{ReprOptions}
use Rattle.abi_scalar.specs.declared.variants.VariantLayout.{VariantLayout}
use Rattle.abi_scalar.specs.Lawful.{IsLawfulLayout}
use Rattle.abi_scalar.specs.Scalar.{scalar_size}
use Rattle.abi_scalar.specs.Shape.{listed_offsets}
use Rattle.abi_scalar.specs.Simple.{never_layout}
use Rattle.abi_scalar.specs.Variant.{variants_of}
use Rattle.abi_scalar.specs.declared.variants.Variants.TheVariants.{Single as OneVariant}
use Rattle.abi_univariant.specs.Apart.{AreApart}
use Rattle.abi_calc.specs.declared.enums.strategy.EnumStrategy.{EnumStrategy}
use Rattle.abi_calc.specs.declared.enums.strategy.EnumStrategy.TheVariants.{NoValue, OneList, Several}
use Rattle.abi_calc.specs.Enums.Answer.{IsTypeAnswer}
use Rattle.abi_calc.specs.Enums.Beside.{IsToldByNiche, IsToldByTag}
use Rattle.abi_calc.specs.Enums.EnumStrategy.{strategy_of, variant_at}
use Rattle.abi_calc.specs.Enums.Places.{AreApartBehind}
use Rattle.abi_calc.proofs.EnumLemmas.GoodLists.{good_list}
use Rattle.std.specs.Prelude.{Vec}
use Rattle.std.specs.declared.alloc.Global.{Global}
use Rattle.abi_tree.specs.declared.mark.Mark.{Mark}
use Rattle.abi_tree.specs.declared.node.Node.{Node}
use Rattle.abi_tree.specs.declared.node.Shape.TheVariants.{Single}
use Rattle.abi_tree.specs.Well.{all_at}
use Rattle.rustc_abi.specs.Adding.{variants_in}
use Rattle.abi_tree.specs.Nodes.{placed_in, types_in}
use Rattle.rustc_abi.specs.Enums.{IsEnumed, IsTagIntegerAnswer, layouts_of, numbered_from}
use Rattle.abi_tree.specs.Laws.{have_places, keeps_laws, sizes_at}
use Rattle.rustc_abi.specs.Adding.{HavePlaces}
use Rattle.rustc_abi.specs.Laying.{enum_fault, most_fields}
use Rattle.abi_tree.specs.Placed.{Placed, layout_of, size_of}
use Rattle.abi_scalar.specs.Layout.{Layout}
use Rattle.rustc_abi.proofs.Enums.TaggedVariantsLemmas.{apart_beside}
use Rattle.rustc_abi.proofs.Enums.CalculatedLemmas.{lawful_at, some_variant, tag_distinguishes}
use Rattle.rustc_abi.proofs.Faults.FaultlessLemmas.{few_fields}
use Rattle.rustc_abi.proofs.Places.InsideLemmas.{inside_enum}
use Rattle.rustc_abi.proofs.Trees.LaidLemmas.{aligns_of, each_of, tags_of}
use Rattle.rustc_abi.proofs.Places.LawsLemmas.{places_listed, plain_laws}
use Rattle.rustc_abi.proofs.Enums.NicheEnumLemmas.{niche_of_tagged_variant}

-- a variant has no more fields than each may have
few_at : (variants : List (List Placed)) (i : ℕ) → All (λ fields. length fields ≤ most_fields) variants → length (variant_at variants i) ≤ most_fields
few_at [] i few = omega arith
few_at (ps ∷ variants) zero few = All-head (λ fields. length fields ≤ most_fields) ps variants few
few_at (ps ∷ variants) (suc i) few = few_at variants i (All-tail (λ fields. length fields ≤ most_fields) ps variants few)

-- a tag at the start ends inside
tag_ends : (whole tag : ℕ) (variants : List (List Layout)) (layouts : List (VariantLayout ℕ)) → 0 < length variants → AreApartBehind whole tag variants layouts → 0 + tag ≤ whole
tag_ends whole tag [] layouts some apart = absurd (omega (arith, some))
tag_ends whole tag (ls ∷ variants) [] some apart = absurd apart
tag_ends whole tag (ls ∷ variants) (l ∷ layouts) some apart = apart.0.0

-- one field, at an offset
one_place : (layout : Layout) (offset field size : ℕ) → layout.fields ≡ Arbitrary (offset ∷ []) (field ∷ []) → offset + size ≤ layout.size → have_places layout.size layout.fields (size ∷ []) ≡ true
one_place layout offset field size shape inside =
    ap (λ f. have_places layout.size f (size ∷ [])) shape ∙ both_true (both_true (le-leb (offset + size) layout.size inside) refl) refl

module _ (dl : TargetDataLayout) (law : IsLawfulDataLayout dl) (repr : ReprOptions) (numbers : List ℕ) (variants : List (List Placed)) (none : enum_fault dl repr numbers variants ≡ None)
    (long : length numbers ≡ length variants) (lawful : All (All (λ p. IsLawfulLayout dl (layout_of p))) variants) where
  abbrev Answers : EnumStrategy → Layout → Type 0
  Answers strategy l =
      IsTypeAnswer layout_of (λ i. i) (λ i. i) (λ i. i) (λ i. i) dl repr variants true true Enabled (IsTagIntegerAnswer dl repr) (λ items. items ≡ numbered_from 0 numbers) strategy (Ok l)

  -- the one variant that is left
  places_one : (i : ℕ) (l : Layout) → Answers (OneList i) l → HavePlaces dl l variants l.variants
  places_one i l h =
      let ps : List Placed = variant_at variants i in
      let list : Layout = h.0 in
      let good = good_list layout_of (λ i. i) 0 dl repr AlwaysSized ps list law (lawful_at dl variants i lawful) (aligns_of dl law repr numbers variants none long) tt tt h.1 in
      let made = h.1.2 in
      let offsets : listed_offsets list.fields ≡ h.1.1 = ap listed_offsets made.shape in
      let few = few_at variants i (few_fields dl repr numbers variants none) in
      subst (λ (m : Layout). HavePlaces dl m variants m.variants) (sym h.2)
      (places_listed list h.1.1 (map (λ i. i) h.1.0) (map size_of ps) made.shape (subst (λ os. AreApart list.size os (map size_of ps)) offsets good.apart) (omega (arith, few, length-map ps size_of)))

  -- several variants, behind a tag
  places_by_tag : (l : Layout) → IsEnumed dl repr numbers variants (Ok l) → 0 < length variants → IsToldByTag dl (λ v. v) (layouts_of variants) (numbered_from 0 numbers) l → HavePlaces dl l variants l.variants
  places_by_tag l enumed some t =
      let ends = tag_ends l.size (scalar_size dl t.tag) (layouts_of variants) t.layouts (omega (arith, some, length-map variants (map layout_of))) t.apart in
      subst (HavePlaces dl l variants) (sym t.tag_distinguishes)
      (one_place l 0 t.field (scalar_size dl t.tag) t.place ends, inside_enum dl law repr numbers variants none long lawful l enumed t.tag _ t.field t.layouts t.tag_distinguishes)

  -- several variants, beside a niche
  places_by_niche : (l : Layout) → IsEnumed dl repr numbers variants (Ok l) → IsToldByNiche dl (λ v. v) (layouts_of variants) l → HavePlaces dl l variants l.variants
  places_by_niche l enumed t =
      let each = apart_beside l.size t.niche.offset (scalar_size dl t.tag) t.untagged 0 variants t.layouts t.apart in
      let inside = niche_of_tagged_variant dl l.size t.layouts variants t.untagged t.variant t.niche each lawful t.own t.niche_of in
      let wide = ap (primitive_size dl) t.numbers.value in
      subst (HavePlaces dl l variants) (sym t.tag_distinguishes)
      (one_place l t.niche.offset t.field (scalar_size dl t.tag) t.place (omega (arith, wide, inside)), inside_enum dl law repr numbers variants none long lawful l enumed t.tag _ t.field t.layouts t.tag_distinguishes)

  places_by : (strategy : EnumStrategy) → strategy_of true repr (layouts_of variants) ≡ strategy → (l : Layout) → IsEnumed dl repr numbers variants (Ok l) → Answers strategy l → HavePlaces dl l variants l.variants
  places_by NoValue strategy l enumed h = let same : never_layout dl ≡ l = cc in subst (λ (m : Layout). HavePlaces dl m variants m.variants) same refl
  places_by (OneList i) strategy l enumed h = places_one i l h
  places_by Several strategy l enumed h =
      let aligns = aligns_of dl law repr numbers variants none long in
      let each = each_of dl law repr numbers variants none long in
      let tags = tags_of dl law repr numbers variants none long in
      ⊎_elim (places_by_tag l enumed (some_variant dl law repr numbers variants aligns lawful each tags strategy)) (places_by_niche l enumed)
      (tag_distinguishes dl law repr numbers variants aligns lawful each tags strategy l h)

  -- an enum's fields and those of its variants have their places
  pub enum_places : (l : Layout) → IsEnumed dl repr numbers variants (Ok l) → HavePlaces dl l variants l.variants
  enum_places l h = places_by (strategy_of true repr (layouts_of variants)) refl l h h

-- nodes are as few as what they mean
pub few_nodes : (ns : List Node) (children : List (Vec ℕ Global)) → All (λ fields. length fields ≤ most_fields) (variants_in ns children) → All (λ fields. length fields.items ≤ most_fields) children
few_nodes ns [] few = All-nil (λ fields. length fields.items ≤ most_fields)
few_nodes ns (c ∷ children) few =
    All-cons (λ fields. length fields.items ≤ most_fields) c children
    (omega (arith, All-head (λ fields. length fields ≤ most_fields) (all_at ns c.items) (variants_in ns children) few, length-map c.items (placed_in (types_in ns))))
    (few_nodes ns children (All-tail (λ fields. length fields ≤ most_fields) (all_at ns c.items) (variants_in ns children) few))

-- a variant's fields are what its nodes mean
variant_means : (ns : List Node) (children : List (Vec ℕ Global)) (i : ℕ) (c : Vec ℕ Global) → i < length children → variant_at (variants_in ns children) i ≡ all_at ns (get_or children i c).items
variant_means ns [] i c lt = absurd (omega (arith, lt))
variant_means ns (d ∷ children) zero c lt = refl
variant_means ns (d ∷ children) (suc i) c lt = variant_means ns children i c (omega (arith, lt))

-- the node of the one variant that is left keeps the laws
pub single_keeps : (ns : List Node) (layout : Layout) (mark : Mark) (children : List (Vec ℕ Global)) (i : ℕ) (c fields : Vec ℕ Global) → layout.variants ≡ OneVariant i →
    have_places layout.size layout.fields (map size_of (variant_at (variants_in ns children) i)) ≡ true → i < length children → c ≡ get_or children i c → fields.items ≡ c.items →
    keeps_laws (types_in ns) layout (Single mark fields) ≡ true
single_keeps ns layout mark children i c fields one places lt at same =
    let means : variant_at (variants_in ns children) i ≡ all_at ns fields.items =
    variant_means ns children i c lt ∙ ap (λ (v : Vec ℕ Global). all_at ns v.items) (sym at) ∙ ap (all_at ns) (sym same) in
    let sizes : map size_of (variant_at (variants_in ns children) i) ≡ sizes_at (types_in ns) fields.items = ap (map size_of) means ∙ map-map size_of (placed_in (types_in ns)) fields.items in
    plain_laws layout (have_places layout.size layout.fields (sizes_at (types_in ns) fields.items)) (ap (have_places layout.size layout.fields) (sym sizes) ∙ places) (ap variants_of one)
