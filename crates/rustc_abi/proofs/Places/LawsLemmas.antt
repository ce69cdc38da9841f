-- The laws that nodes keep, as the calculator's layouts give them.
use Rattle.std.proofs.Common.{◌≡◌, ℕ, suc, ◌+◌, ◌*◌, ◌≤◌, List, [], ◌∷◌, true, All, Ok, Option, Some, length, map, arith, refl, sym, ap, ◌∙◌, subst}
use Rattle.std.specs.Prelude.{Bool, ◌&&◌, ◌==◌, nat_le, replicate}
use Rattle.std.specs.List.{list_all}
use Rattle.std.specs.Cmp.Derive.{both_true}
use Rattle.std.proofs.lemmas.Bool.{eq-eqb, le-leb}
use Rattle.std.proofs.lemmas.List.{length-map}
use Rattle.std.proofs.lemmas.List.Elements.{All-head, All-tail}
use Rattle.std.proofs.lemmas.Simd.{map-map}
use Rattle.abi_base.specs.declared.data_layout.TargetDataLayout.{TargetDataLayout}
use Rattle.abi_base.specs.declared.struct_kind.StructKind.{StructKind}
use Rattle.abi_scalar.specs.declared.fields_shape.FieldsShape.TheVariants.{Arbitrary}
use Rattle.abi_scalar.specs.declared.repr.ReprOptions.{ReprOptions}
use Rattle.abi_scalar.specs.declared.scalar.Scalar.{Scalar}
use Rattle.abi_scalar.specs.declared.variants.VariantLayout.{VariantLayout}
use Rattle.abi_scalar.specs.Lawful.{IsLawfulLayout}
use Rattle.abi_scalar.specs.Pair.{pair_layout, second_offset}
use Rattle.abi_scalar.specs.Scalar.{scalar_size}
use Rattle.abi_scalar.specs.Shape.{listed_offsets}
use Rattle.abi_scalar.specs.Variant.{variant_layout, variants_of}
use Rattle.abi_univariant.specs.Apart.{AreApart}
use Rattle.abi_univariant.specs.Array.{array_answer, elements_layout}
use Rattle.abi_univariant.specs.List.{IsListBy}
use Rattle.abi_univariant.specs.Simd.{simd_answer}
use Rattle.abi_scalar.specs.declared.niche.Niche.{Niche}
use Rattle.abi_tree.specs.declared.node.Shape.TheVariants.{Elements, Pair, Vector}
use Rattle.rustc_abi.specs.Error.{named}
use Rattle.rustc_abi.specs.Inside.{EndInside, VariantsInside}
use Rattle.abi_tree.specs.Laws.{end_inside, has_elements, have_lists, have_places, keeps_laws, sizes_at}
use Rattle.rustc_abi.specs.Laying.{IsUnited, one_scalar}
use Rattle.abi_tree.specs.Nodes.{placed_in}
use Rattle.abi_tree.specs.Placed.{Placed, layout_of, size_of}
use Rattle.abi_scalar.specs.Layout.{Layout}
use Rattle.rustc_abi.proofs.Unions.CalcLemmas.{united_layout, vector_made}
use Rattle.rustc_abi.proofs.Trees.ListLemmas.{chosen}
use Rattle.rustc_abi.proofs.Unions.UnionLemmas.{below_greatest}

-- ---- places

-- parts that lie apart end inside
pub ends_apart : (whole : ℕ) (offsets sizes : List ℕ) → AreApart whole offsets sizes → end_inside whole offsets sizes ≡ true
ends_apart whole [] [] h = refl
ends_apart whole [] (m ∷ sizes) h = absurd h
ends_apart whole (o ∷ offsets) [] h = absurd h
ends_apart whole (o ∷ offsets) (m ∷ sizes) h = both_true (le-leb (o + m) whole h.0) (ends_apart whole offsets sizes h.2)

lengths_apart : (whole : ℕ) (offsets sizes : List ℕ) → AreApart whole offsets sizes → length offsets ≡ length sizes
lengths_apart whole [] [] h = refl
lengths_apart whole [] (m ∷ sizes) h = absurd h
lengths_apart whole (o ∷ offsets) [] h = absurd h
lengths_apart whole (o ∷ offsets) (m ∷ sizes) h = ap suc (lengths_apart whole offsets sizes h.2)

-- so do those that are told to
pub ends_in : (whole : ℕ) (offsets sizes : List ℕ) → EndInside whole offsets sizes → end_inside whole offsets sizes ≡ true
ends_in whole [] [] h = refl
ends_in whole [] (m ∷ sizes) h = absurd h
ends_in whole (o ∷ offsets) [] h = absurd h
ends_in whole (o ∷ offsets) (m ∷ sizes) h = both_true (le-leb (o + m) whole h.0) (ends_in whole offsets sizes h.1)

pub lengths_in : (whole : ℕ) (offsets sizes : List ℕ) → EndInside whole offsets sizes → length offsets ≡ length sizes
lengths_in whole [] [] h = refl
lengths_in whole [] (m ∷ sizes) h = absurd h
lengths_in whole (o ∷ offsets) [] h = absurd h
lengths_in whole (o ∷ offsets) (m ∷ sizes) h = ap suc (lengths_in whole offsets sizes h.1)

-- and those that all begin at the start, and are no larger
ends_together : (whole : ℕ) (ps : List Placed) → All (λ p. size_of p ≤ whole) ps → end_inside whole (replicate (length ps) 0) (map size_of ps) ≡ true
ends_together whole [] below = refl
ends_together whole (p ∷ ps) below =
    both_true (le-leb (0 + size_of p) whole (omega (arith, All-head (λ p. size_of p ≤ whole) p ps below))) (ends_together whole ps (All-tail (λ p. size_of p ≤ whole) p ps below))

-- fields that are listed one by one, and lie apart
pub places_listed : (layout : Layout) (offsets order sizes : List ℕ) → layout.fields ≡ Arbitrary offsets order → AreApart layout.size offsets sizes → length sizes ≤ 0xFFFF_FF01 →
    have_places layout.size layout.fields sizes ≡ true
places_listed layout offsets order sizes shape apart few =
    ap (λ f. have_places layout.size f sizes) shape
    ∙ both_true (ends_apart layout.size offsets sizes apart) (le-leb (length offsets) 0xFFFF_FF01 (omega (arith, lengths_apart layout.size offsets sizes apart, few)))

-- ---- nodes

-- no tag distinguishes variants
pub plain_laws : (layout : Layout) (places : Bool) → places ≡ true → variants_of layout.variants ≡ [] → (places && ((length (variants_of layout.variants) == 0) && true)) ≡ true
plain_laws layout places there none = both_true there (ap (λ vs. (length vs == 0) && true) none)

-- a list's fields, as nodes
pub list_places : {Rule : (order offsets : List ℕ) → (size align : ℕ) → Option Niche → Type 0} (dl : TargetDataLayout) (repr : ReprOptions) (kind : StructKind) (done : List Placed)
    (order offsets : List ℕ) (layout : Layout) (children : List ℕ) →
    IsListBy Rule (λ i. i) 0 dl repr kind (map layout_of (map (placed_in done) children)) order offsets layout → AreApart layout.size (listed_offsets layout.fields) (map size_of (map (placed_in done) children)) →
    length children ≤ 0xFFFF_FF01 → (have_places layout.size layout.fields (sizes_at done children) && ((length (variants_of layout.variants) == 0) && true)) ≡ true
list_places dl repr kind done order offsets layout children made apart few =
    let same : listed_offsets layout.fields ≡ offsets = ap listed_offsets made.shape in
    let sizes : map size_of (map (placed_in done) children) ≡ sizes_at done children = map-map size_of (placed_in done) children in
    let own : AreApart layout.size offsets (sizes_at done children) =
    subst (AreApart layout.size offsets) sizes (subst (λ os. AreApart layout.size os (map size_of (map (placed_in done) children))) same apart) in
    plain_laws layout (have_places layout.size layout.fields (sizes_at done children))
    (places_listed layout offsets (map (λ i. i) order) (sizes_at done children) made.shape own (omega (arith, few, length-map children (λ i. size_of (placed_in done i)))))
    (ap variants_of made.variants)

-- a union's fields, as nodes
pub union_places : (dl : TargetDataLayout) (repr : ReprOptions) (done : List Placed) (layout : Layout) (children : List ℕ) →
    IsUnited dl repr (map layout_of (map (placed_in done) children)) (Ok layout) → length children ≤ 0xFFFF_FF01 →
    (have_places layout.size layout.fields (sizes_at done children) && ((length (variants_of layout.variants) == 0) && true)) ≡ true
union_places dl repr done layout children united few =
    let ps : List Placed = map (placed_in done) children in
    let made = (united_layout dl repr (map layout_of ps) layout united).1 in
    let sizes : map size_of ps ≡ sizes_at done children = map-map size_of (placed_in done) children in
    let below = below_greatest ps layout.size (omega (arith, ap (λ l. l.size) made)) in
    let count : length ps ≡ length (map layout_of ps) = sym (length-map ps layout_of) in
    let ends : end_inside layout.size (replicate (length (map layout_of ps)) 0) (sizes_at done children) ≡ true =
    subst (λ n. end_inside layout.size (replicate n 0) (sizes_at done children) ≡ true) count
    (subst (λ ms. end_inside layout.size (replicate (length ps) 0) ms ≡ true) sizes (ends_together layout.size ps below)) in
    plain_laws layout (have_places layout.size layout.fields (sizes_at done children))
    (ap (λ (l : Layout). have_places layout.size l.fields (sizes_at done children)) made
    ∙ both_true ends (le-leb (length (map layout_of ps)) 0xFFFF_FF01 (omega (arith, few, count, length-map children (placed_in done)))))
    (ap (λ (l : Layout). variants_of l.variants) made)

-- elements, of the node that stands there
pub elements_laws : (dl : TargetDataLayout) (done : List Placed) (element count : ℕ) (layout : Layout) →
    named {H = ℕ} (array_answer 0 dl (layout_of (placed_in done element)) (Some count)) ≡ Ok layout → keeps_laws done layout (Elements count element) ≡ true
elements_laws dl done element count layout answer =
    let own : Layout = layout_of (placed_in done element) in
    let made : layout ≡ elements_layout 0 true count own = chosen ℕ _ _ layout answer in
    plain_laws layout (has_elements layout.size layout.fields own.size)
    (ap (λ (l : Layout). has_elements l.size l.fields own.size) made ∙ both_true (le-leb own.size own.size (omega arith)) (le-leb (own.size * count) (own.size * count) (omega arith)))
    (ap (λ (l : Layout). variants_of l.variants) made)

-- a vector, behind the array of its lanes
pub vector_laws : (dl : TargetDataLayout) (done : List Placed) (lanes : ℕ) (element : Layout) (count : ℕ) (packed : Bool) (own layout : Layout) → layout_of (placed_in done lanes) ≡ own →
    named (simd_answer (λ l. l) 0 0 dl element count packed) ≡ Ok layout → named {H = ℕ} (array_answer 0 dl element (Some count)) ≡ Ok own → keeps_laws done layout (Vector lanes) ≡ true
vector_laws dl done lanes element count packed own layout there answer listed =
    let made = vector_made dl element count packed layout answer in
    let array : own ≡ elements_layout 0 true count element = chosen ℕ _ _ own listed in
    let size : size_of (placed_in done lanes) ≡ own.size = ap (λ l. l.size) there in
    let inside : 0 + size_of (placed_in done lanes) ≤ layout.size = omega (arith, size, ap (λ l. l.size) array, made.inside) in
    plain_laws layout (have_places layout.size layout.fields (size_of (placed_in done lanes) ∷ []))
    (ap (λ f. have_places layout.size f (size_of (placed_in done lanes) ∷ [])) made.places ∙ both_true (both_true (le-leb (0 + size_of (placed_in done lanes)) layout.size inside) refl) refl)
    (ap variants_of made.alone)

-- two scalars, of the nodes that stand there
pub pair_laws : (dl : TargetDataLayout) (done : List Placed) (first second : ℕ) (a b : Scalar) (layout : Layout) → placed_in done first ≡ one_scalar dl a → placed_in done second ≡ one_scalar dl b →
    layout ≡ pair_layout 0 0 1 dl a b → IsLawfulLayout dl layout → keeps_laws done layout (Pair first second) ≡ true
pair_laws dl done first second a b layout one two made lawful =
    let seen = subst (IsLawfulLayout dl) made lawful in
    let at : ℕ = second_offset dl a b in
    let size : layout.size ≡ (pair_layout {F = ℕ} {V = ℕ} 0 0 1 dl a b).size = ap (λ (l : Layout). l.size) made in
    let sizes : sizes_at done (first ∷ second ∷ []) ≡ scalar_size dl a ∷ scalar_size dl b ∷ [] =
    ap (λ p. size_of p ∷ size_of (placed_in done second) ∷ []) one ∙ ap (λ p. scalar_size dl a ∷ size_of p ∷ []) two in
    let places : have_places layout.size layout.fields (scalar_size dl a ∷ scalar_size dl b ∷ []) ≡ true =
    ap (λ (l : Layout). have_places layout.size l.fields (scalar_size dl a ∷ scalar_size dl b ∷ [])) made
    ∙ both_true (both_true (le-leb (0 + scalar_size dl a) layout.size (omega (arith, size, seen.view.2, seen.view.3))) (both_true (le-leb (at + scalar_size dl b) layout.size (omega (arith, size, seen.view.3))) refl)) refl in
    plain_laws layout (have_places layout.size layout.fields (sizes_at done (first ∷ second ∷ []))) (ap (have_places layout.size layout.fields) sizes ∙ places) (ap (λ (l : Layout). variants_of l.variants) made)

-- ---- variants

-- the layouts' sizes are no greater than the whole's
pub sizes_inside : (whole : ℕ) (layouts : List (VariantLayout ℕ)) (variants : List (List Placed)) → VariantsInside whole layouts variants → list_all (λ m. nat_le m whole) (map (λ l. l.size) layouts) ≡ true
sizes_inside whole [] [] h = refl
sizes_inside whole [] (ps ∷ variants) h = absurd h
sizes_inside whole (l ∷ layouts) [] h = absurd h
sizes_inside whole (l ∷ layouts) (ps ∷ variants) h = both_true (le-leb l.size whole h.0) (sizes_inside whole layouts variants h.2)

-- a variant by itself, whose fields are nodes
pub own_laws : (done : List Placed) (parent own : Layout) (index : ℕ) (l : VariantLayout ℕ) (children : List ℕ) (ps : List Placed) → own ≡ variant_layout parent index l →
    sizes_at done children ≡ map size_of ps → EndInside l.size l.field_offsets (map size_of ps) → length children ≤ 0xFFFF_FF01 →
    (have_places own.size own.fields (sizes_at done children) && ((length (variants_of own.variants) == 0) && true)) ≡ true
own_laws done parent own index l children ps is sizes inside few =
    let count : length l.field_offsets ≡ length children =
    lengths_in l.size l.field_offsets (map size_of ps) inside ∙ ap length (sym sizes) ∙ length-map children (λ i. size_of (placed_in done i)) in
    let ends : end_inside l.size l.field_offsets (sizes_at done children) ≡ true = ap (end_inside l.size l.field_offsets) sizes ∙ ends_in l.size l.field_offsets (map size_of ps) inside in
    plain_laws own (have_places own.size own.fields (sizes_at done children))
    (ap (λ (o : Layout). have_places o.size o.fields (sizes_at done children)) is ∙ both_true ends (le-leb (length l.field_offsets) 0xFFFF_FF01 (omega (arith, count, few))))
    (ap (λ (o : Layout). variants_of o.variants) is)

-- several variants, each with a node of the size that the layout says
pub several_laws : (done : List Placed) (layout : Layout) (places : Bool) (nodes : List ℕ) (variants : List (List Placed)) → places ≡ true →
    sizes_at done nodes ≡ map (λ l. l.size) (variants_of layout.variants) → have_lists done nodes ≡ true → VariantsInside layout.size (variants_of layout.variants) variants →
    (places && ((length (variants_of layout.variants) == length nodes) && (list_all (λ m. nat_le m layout.size) (sizes_at done nodes) && have_lists done nodes))) ≡ true
several_laws done layout places nodes variants there sizes listed inside =
    let layouts : List (VariantLayout ℕ) = variants_of layout.variants in
    let count : length layouts ≡ length nodes =
    sym (length-map layouts (λ l. l.size)) ∙ ap length (sym sizes) ∙ length-map nodes (λ i. size_of (placed_in done i)) in
    both_true there
    (both_true (eq-eqb (length layouts) (length nodes) count) (both_true (ap (list_all (λ m. nat_le m layout.size)) sizes ∙ sizes_inside layout.size layouts variants inside) listed))
