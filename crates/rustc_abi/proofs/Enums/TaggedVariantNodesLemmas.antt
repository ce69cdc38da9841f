-- Nodes for the variants of an enum.
use Rattle.std.proofs.Common.{◌≡◌, ℕ, zero, suc, ◌+◌, ◌<◌, ◌≤◌, List, [], ◌∷◌, ◌++◌, Bool, Some, true, false, length, map, take, get_or, arith, refl, sym, ap, ◌∙◌, subst}
use Rattle.std.specs.Prelude.{◌&&◌, ◌||◌, Vec, All, nat_lt, slice_get, option_map}
use Rattle.std.specs.List.{list_all, list_any}
use Rattle.std.specs.Cmp.Derive.{both_true}
use Rattle.std.specs.declared.alloc.Global.{Global}
use Rattle.std.proofs.lemmas.Bool.{lt-ltb}
use Rattle.std.proofs.lemmas.List.{map-append, take_more, length-map, length-take-le, get_or-map}
use Rattle.std.proofs.lemmas.List.Elements.{All-nil, All-cons, All-head, All-tail, All-append, All-weaker, All-get_or}
use Rattle.std.proofs.lemmas.List.Folds.{list_all-append}
use Rattle.std.proofs.lemmas.Option.{slice_get-get_or}
use Rattle.std.proofs.lemmas.Simd.{map-map}
use Rattle.abi_scalar.specs.declared.variants.VariantLayout.{VariantLayout}
use Rattle.abi_scalar.specs.Shape.{listed_offsets}
use Rattle.abi_scalar.specs.Variant.{variant_layout, variants_of}
use Rattle.abi_tree.specs.declared.node.Shape.TheVariants.{Fields, Tagged}
use Rattle.abi_tree.specs.declared.node.Node.{Node}
use Rattle.abi_tree.specs.declared.mark.Mark.{Mark}
use Rattle.abi_tree.specs.Placed.{Placed, layout_of, size_of, tagged, Parts, TaggedVariants, nothing_tagged, tagged_variant}
use Rattle.abi_scalar.specs.Layout.{Layout}
use Rattle.abi_tree.specs.Nodes.{placed_in, parts_at, tagged_variants_in, own_tagged_variant, own_fields, own_mark, encoding_of, tag_offset, meaning, types_in, placed_at, Keeps}
use Rattle.rustc_abi.specs.Enums.{tagged_variants_at}
use Rattle.rustc_abi.specs.Inside.{EndInside, IsFlaggedByField, VariantsInside}
use Rattle.abi_tree.specs.Deciding.{are_inhabited}
use Rattle.abi_tree.specs.Laws.{has_list, have_lists, have_places, is_listed, keeps_laws, sizes_at}
use Rattle.abi_tree.specs.Well.{IsPut, all_at, is_node}
use Rattle.rustc_abi.specs.Adding.{AreTaggedVariants, variants_in}
use Rattle.abi_tree.proofs.Meaning.NodesLemmas.{length-types_in, Keeps-trans}
use Rattle.rustc_abi.proofs.Trees.ListLemmas.{all_below}
use Rattle.rustc_abi.proofs.Trees.LayLemmas.{all_at-kept}
use Rattle.rustc_abi.proofs.Places.LawsLemmas.{own_laws, several_laws}
use Rattle.rustc_abi.proofs.Sizes.CountLemmas.{flagged_there}

-- ---- tagged variants

-- tagged variants with one more
abbrev push_tagged_variant : TaggedVariants → (number : ℕ) → Layout → Mark → Parts → TaggedVariants
push_tagged_variant nothing_tagged n layout mark parts = tagged_variant n layout mark parts nothing_tagged
push_tagged_variant (tagged_variant m own tag_distinguishes fields tagged_variants) n layout mark parts = tagged_variant m own tag_distinguishes fields (push_tagged_variant tagged_variants n layout mark parts)

-- with one more, which has a node of its own
abbrev push_own : TaggedVariants → (number : ℕ) → Placed → TaggedVariants
push_own tagged_variants n p = push_tagged_variant tagged_variants n (layout_of p) (own_mark p) (own_fields p)

tagged_variants_in-push : (done : List Placed) (vs : List (ℕ × ℕ)) (v : ℕ × ℕ) →
    tagged_variants_in done (vs ++ v ∷ []) ≡ push_own (tagged_variants_in done vs) v.0 (placed_in done v.1)
tagged_variants_in-push done [] v = refl
tagged_variants_in-push done (u ∷ vs) v = ap (own_tagged_variant u.0 (placed_in done u.1)) (tagged_variants_in-push done vs v)

tagged_variants_at-push : (whole : Layout) (mark : Mark) (first : ℕ) (layouts : List (VariantLayout ℕ)) (numbers : List ℕ)
    (variants : List (List Placed)) (layout : VariantLayout ℕ) (n : ℕ) (fields : List Placed) (index : ℕ) →
    length layouts ≡ length numbers → length layouts ≡ length variants → index ≡ first + length layouts →
    tagged_variants_at whole mark first (layouts ++ layout ∷ []) (numbers ++ n ∷ []) (variants ++ fields ∷ [])
    ≡ push_tagged_variant (tagged_variants_at whole mark first layouts numbers variants) n (variant_layout whole index layout) mark
    (parts_at layout.field_offsets fields)
tagged_variants_at-push whole mark first [] [] [] layout n fields index as_many as_long at =
    let here : first ≡ index = omega arith in
    ap (λ k. tagged_variant n (variant_layout whole k layout) mark (parts_at layout.field_offsets fields) nothing_tagged) here
tagged_variants_at-push whole mark first [] [] (v ∷ variants) layout n fields index as_many as_long at = absurd (omega arith)
tagged_variants_at-push whole mark first [] (m ∷ numbers) variants layout n fields index as_many as_long at = absurd (omega arith)
tagged_variants_at-push whole mark first (l ∷ layouts) [] variants layout n fields index as_many as_long at = absurd (omega arith)
tagged_variants_at-push whole mark first (l ∷ layouts) (m ∷ numbers) [] layout n fields index as_many as_long at =
    absurd (omega arith)
tagged_variants_at-push whole mark first (l ∷ layouts) (m ∷ numbers) (v ∷ variants) layout n fields index as_many as_long at =
    ap (tagged_variant m (variant_layout whole first l) mark (parts_at l.field_offsets v))
    (tagged_variants_at-push whole mark (first + 1) layouts numbers variants layout n fields index
    (omega arith) (omega arith) (omega arith))

-- tagged variants that were there mean the same
tagged_variants_in-kept : (old new : List Node) → Keeps (types_in old) (types_in new) → (vs : List (ℕ × ℕ)) → All (λ v. v.1 < length old) vs →
    tagged_variants_in (types_in new) vs ≡ tagged_variants_in (types_in old) vs
tagged_variants_in-kept old new kept [] there = refl
tagged_variants_in-kept old new kept (v ∷ vs) there =
    let here : placed_in (types_in new) v.1 ≡ placed_in (types_in old) v.1 =
    kept.same v.1 (omega (arith, length-types_in old, All-head (λ v. v.1 < length old) v vs there)) in
    ap (λ p. own_tagged_variant v.0 p (tagged_variants_in (types_in new) vs)) here
    ∙ ap (own_tagged_variant v.0 (placed_in (types_in old) v.1)) (tagged_variants_in-kept old new kept vs (All-tail (λ v. v.1 < length old) v vs there))

-- variants that were there mean the same
pub variants_in-kept : (old new : List Node) → Keeps (types_in old) (types_in new) → (children : List (Vec ℕ Global)) →
    All (λ fields. All (λ child. child < length old) fields.items) children → variants_in new children ≡ variants_in old children
variants_in-kept old new kept [] there = refl
variants_in-kept old new kept (c ∷ children) there =
    let here : all_at new c.items ≡ all_at old c.items =
    all_at-kept old new kept c.items (All-head (λ fields. All (λ child. child < length old) fields.items) c children there) in
    let later : variants_in new children ≡ variants_in old children =
    variants_in-kept old new kept children (All-tail (λ fields. All (λ child. child < length old) fields.items) c children there) in
    ap (λ ps. ps ∷ variants_in new children) here ∙ ap (λ rest. all_at old c.items ∷ rest) later

sizes_kept : (old new : List Node) → Keeps (types_in old) (types_in new) → (vs : List (ℕ × ℕ)) → All (λ v. v.1 < length old) vs →
    sizes_at (types_in new) (map (λ v. v.1) vs) ≡ sizes_at (types_in old) (map (λ v. v.1) vs)
sizes_kept old new kept [] there = refl
sizes_kept old new kept (v ∷ vs) there =
    let here : size_of (placed_in (types_in new) v.1) ≡ size_of (placed_in (types_in old) v.1) =
    ap size_of (kept.same v.1 (omega (arith, All-head (λ v. v.1 < length old) v vs there, length-types_in old))) in
    let later : sizes_at (types_in new) (map (λ v. v.1) vs) ≡ sizes_at (types_in old) (map (λ v. v.1) vs) =
    sizes_kept old new kept vs (All-tail (λ v. v.1 < length old) v vs there) in
    ap (λ m. m ∷ sizes_at (types_in new) (map (λ v. v.1) vs)) here ∙ ap (λ ms. size_of (placed_in (types_in old) v.1) ∷ ms) later

lists_kept : (old new : List Node) → Keeps (types_in old) (types_in new) → (vs : List (ℕ × ℕ)) → All (λ v. v.1 < length old) vs →
    have_lists (types_in new) (map (λ v. v.1) vs) ≡ have_lists (types_in old) (map (λ v. v.1) vs)
lists_kept old new kept [] there = refl
lists_kept old new kept (v ∷ vs) there =
    let here : placed_in (types_in new) v.1 ≡ placed_in (types_in old) v.1 =
    kept.same v.1 (omega (arith, All-head (λ v. v.1 < length old) v vs there, length-types_in old)) in
    ap (λ p. has_list p && have_lists (types_in new) (map (λ v. v.1) vs)) here
    ∙ ap (λ b. has_list (placed_in (types_in old) v.1) && b) (lists_kept old new kept vs (All-tail (λ v. v.1 < length old) v vs there))

-- one tagged variant more
AreTaggedVariants-push : (first old new : List Node) (vs : List (ℕ × ℕ)) (tagged_variants : TaggedVariants) (n i : ℕ) (sizes : List ℕ) (own : Layout) (mark : Mark) (fields : Vec ℕ Global) → AreTaggedVariants first old sizes vs tagged_variants →
    All (λ child. child < length first) fields.items → is_listed own.fields ≡ true → IsPut old new i (meaning (types_in old) own (Fields mark fields)) →
    AreTaggedVariants first new (sizes ++ own.size ∷ []) (vs ++ (n, i) ∷ [])
    (push_tagged_variant tagged_variants n own mark (parts_at (listed_offsets own.fields) (all_at first fields.items)))
AreTaggedVariants-push first old new vs tagged_variants n i sizes own mark fields h there list put =
    let longer : length old ≤ length new = omega (arith, put.kept.longer, length-types_in old, length-types_in new) in
    let same : tagged_variants_in (types_in new) vs ≡ tagged_variants = tagged_variants_in-kept old new put.kept vs h.there ∙ h.meant in
    let offsets = listed_offsets own.fields in
    record {
      kept = Keeps-trans (types_in first) (types_in old) (types_in new) h.kept put.kept;
      well = λ first_well. put.well (h.well first_well);
      there =
          All-append (λ v. v.1 < length new) vs ((n, i) ∷ [])
          (All-weaker (λ v. v.1 < length old) (λ v. v.1 < length new) (λ v lt. omega arith) vs h.there)
          (All-cons (λ v. v.1 < length new) (n, i) [] (omega (arith, put.last)) (All-nil (λ v. v.1 < length new)));
      meant =
          tagged_variants_in-push (types_in new) vs (n, i) ∙ ap (λ a. push_own a n (placed_at new i)) same
          ∙ ap (push_own tagged_variants n) put.meant
          ∙ ap (λ ps. push_tagged_variant tagged_variants n own mark (parts_at offsets ps)) (all_at-kept first old h.kept fields.items there);
      sized =
          ap (sizes_at (types_in new)) (map-append (λ v. v.1) vs ((n, i) ∷ []))
          ∙ map-append (λ k. size_of (placed_in (types_in new) k)) (map (λ v. v.1) vs) (i ∷ [])
          ∙ ap (λ ms. ms ++ size_of (placed_at new i) ∷ []) (sizes_kept old new put.kept vs h.there ∙ h.sized)
          ∙ ap (λ p. sizes ++ size_of p ∷ []) put.meant;
      listed =
          ap (have_lists (types_in new)) (map-append (λ v. v.1) vs ((n, i) ∷ []))
          ∙ list_all-append (λ k. has_list (placed_in (types_in new) k)) (map (λ v. v.1) vs) (i ∷ [])
          ∙ both_true (lists_kept old new put.kept vs h.there ∙ h.listed) (both_true (ap has_list put.meant ∙ list) refl);
    }

-- an element of a list, and the list up to it
taken : {X : Type 0} (xs : List X) (i : ℕ) → i < length xs → (x : X) × (slice_get xs i ≡ Some x) × (take (i + 1) xs ≡ take i xs ++ x ∷ [])
taken [] i lt = absurd (omega arith)
taken (d ∷ xs) i lt = (get_or (d ∷ xs) i d, slice_get-get_or (d ∷ xs) i d lt, take_more (d ∷ xs) i d lt)

-- the tagged variants up to an index
abbrev pub tagged_variants_up_to : (whole : Layout) → Mark → (i : ℕ) → List (VariantLayout ℕ) → (numbers : List ℕ) → List (List Placed)
    → TaggedVariants
tagged_variants_up_to whole mark i layouts numbers variants =
    tagged_variants_at whole mark 0 (take i layouts) (take i numbers) (take i variants)

tagged_variants_more : (whole : Layout) (mark : Mark) (at : ℕ) (layouts : List (VariantLayout ℕ)) (numbers : List ℕ)
    (variants : List (List Placed)) (layout : VariantLayout ℕ) (n : ℕ) (fields : List Placed) →
    at < length layouts → at < length numbers → at < length variants → take (at + 1) layouts ≡ take at layouts ++ layout ∷ [] →
    take (at + 1) numbers ≡ take at numbers ++ n ∷ [] → take (at + 1) variants ≡ take at variants ++ fields ∷ [] →
    tagged_variants_up_to whole mark (at + 1) layouts numbers variants
    ≡ push_tagged_variant (tagged_variants_up_to whole mark at layouts numbers variants) n (variant_layout whole at layout) mark
    (parts_at layout.field_offsets fields)
tagged_variants_more whole mark at layouts numbers variants layout n fields in_layouts in_numbers in_variants first second third =
    let long : length (take at layouts) ≡ at = length-take-le at layouts (omega arith) in
    let as_many : length (take at layouts) ≡ length (take at numbers) =
    long ∙ sym (length-take-le at numbers (omega arith)) in
    let as_long : length (take at layouts) ≡ length (take at variants) =
    long ∙ sym (length-take-le at variants (omega arith)) in
    ap (λ ls. tagged_variants_at whole mark 0 ls (take (at + 1) numbers) (take (at + 1) variants)) first
    ∙ ap (λ ns. tagged_variants_at whole mark 0 (take at layouts ++ layout ∷ []) ns (take (at + 1) variants)) second
    ∙ ap (tagged_variants_at whole mark 0 (take at layouts ++ layout ∷ []) (take at numbers ++ n ∷ [])) third
    ∙ tagged_variants_at-push whole mark 0 (take at layouts) (take at numbers) (take at variants) layout n fields at
    as_many as_long (omega (arith, long))

module _ (first old new : List Node) (parent : Layout) (layouts : List (VariantLayout ℕ)) (numbers : List ℕ) (children : List (Vec ℕ Global)) where
  -- the node of one variant more: `own` is the layout of that variant by itself, and its node has the fields of the variant
  pub AreTaggedVariants-more : (vs : List (ℕ × ℕ)) (at n i : ℕ) (own : Layout) (mark : Mark) (fields : Vec ℕ Global) →
      at < length children →
      length layouts ≡ length children → length numbers ≡ length children → All (λ fields. All (λ child. child < length first) fields.items) children →
      Some own ≡ option_map (variant_layout parent at) (slice_get layouts at) → n ≡ get_or numbers at 0 → (c : Vec ℕ Global) → c ≡ get_or children at c → fields.items ≡ c.items →
      AreTaggedVariants first old (map (λ l. l.size) (take at layouts)) vs (tagged_variants_up_to parent mark at layouts numbers (variants_in first children)) → IsPut old new i (meaning (types_in old) own (Fields mark fields)) →
      AreTaggedVariants first new (map (λ l. l.size) (take (at + 1) layouts)) (vs ++ (n, i) ∷ []) (tagged_variants_up_to parent mark (at + 1) layouts numbers (variants_in first children))
  AreTaggedVariants-more vs at n i own mark fields lt as_many each there made number c c_is same h put =
      let variants = variants_in first children in
      let long : length variants ≡ length children = length-map children (λ fields. all_at first fields.items) in
      let layout = taken layouts at (omega arith) in
      let own_is : own ≡ variant_layout parent at layout.0 =
      let some : Some own ≡ Some (variant_layout parent at layout.0) =
      made ∙ ap (option_map (variant_layout parent at)) layout.1 in
      cc in
      let more_numbers : take (at + 1) numbers ≡ take at numbers ++ n ∷ [] =
      take_more numbers at 0 (omega arith) ∙ ap (λ k. take at numbers ++ k ∷ []) (sym number) in
      let ps = all_at first fields.items in
      let here : get_or variants at ps ≡ ps =
      get_or-map (λ fields. all_at first fields.items) children at c ps lt ∙ ap (λ k. all_at first k.items) (sym c_is) ∙ ap (all_at first) (sym same) in
      let more_variants : take (at + 1) variants ≡ take at variants ++ ps ∷ [] =
      take_more variants at ps (omega arith) ∙ ap (λ k. take at variants ++ k ∷ []) here in
      let below : All (λ child. child < length first) fields.items =
      subst (All (λ child. child < length first)) (ap (λ v. v.items) (sym c_is) ∙ sym same)
      (All-get_or (λ fields. All (λ child. child < length first) fields.items) children at c lt there) in
      let pushed = AreTaggedVariants-push first old new vs (tagged_variants_up_to parent mark at layouts numbers variants) n i (map (λ l. l.size) (take at layouts)) own mark fields h below (ap (λ l. is_listed l.fields) own_is) put in
      let before : TaggedVariants = tagged_variants_up_to parent mark at layouts numbers variants in
      let tagged_variants : push_tagged_variant before n own mark (parts_at (listed_offsets own.fields) ps)
      ≡ tagged_variants_up_to parent mark (at + 1) layouts numbers variants =
      ap (λ (l : Layout). push_tagged_variant before n l mark (parts_at (listed_offsets l.fields) ps)) own_is
      ∙ sym (tagged_variants_more parent mark at layouts numbers variants layout.0 n ps (omega arith) (omega arith) (omega arith) layout.2 more_numbers more_variants) in
      let sizes : map (λ l. l.size) (take at layouts) ++ own.size ∷ [] ≡ map (λ l. l.size) (take (at + 1) layouts) =
      ap (λ l. map (λ l. l.size) (take at layouts) ++ l.size ∷ []) own_is ∙ sym (ap (map (λ l. l.size)) layout.2 ∙ map-append (λ l. l.size) (take at layouts) (layout.0 ∷ [])) in
      subst (λ ms. AreTaggedVariants first new ms (vs ++ (n, i) ∷ []) (tagged_variants_up_to parent mark (at + 1) layouts numbers variants)) sizes
      (subst (AreTaggedVariants first new (map (λ l. l.size) (take at layouts) ++ own.size ∷ []) (vs ++ (n, i) ∷ [])) tagged_variants pushed)

inside_at : (whole : ℕ) (layouts : List (VariantLayout ℕ)) (variants : List (List Placed)) (at : ℕ) → VariantsInside whole layouts variants → at < length variants →
    (l : VariantLayout ℕ) × (slice_get layouts at ≡ Some l) × EndInside l.size l.field_offsets (map size_of (get_or variants at [])) × IsFlaggedByField l (get_or variants at [])
inside_at whole [] [] at h lt = absurd (omega arith)
inside_at whole [] (ps ∷ variants) at h lt = absurd h
inside_at whole (l ∷ layouts) [] at h lt = absurd h
inside_at whole (l ∷ layouts) (ps ∷ variants) zero h lt = (l, refl, h.1, h.3)
inside_at whole (l ∷ layouts) (ps ∷ variants) (suc at) h lt = inside_at whole layouts variants at h.2 (omega arith)

-- a variant's node keeps the laws
pub own_keeps : (first old : List Node) (sizes : List ℕ) (vs : List (ℕ × ℕ)) (tagged_variants : TaggedVariants) (parent own : Layout) (mark : Mark) (layouts : List (VariantLayout ℕ)) (children : List (Vec ℕ Global)) (at index : ℕ)
    (c fields : Vec ℕ Global) → AreTaggedVariants first old sizes vs tagged_variants → at < length children → VariantsInside parent.size layouts (variants_in first children) →
    Some own ≡ option_map (variant_layout parent index) (slice_get layouts at) → c ≡ get_or children at c → fields.items ≡ c.items → All (λ fields. All (λ child. child < length first) fields.items) children →
    All (λ fields. length fields.items ≤ 0xFFFF_FF01) children → keeps_laws (types_in old) own (Fields mark fields) ≡ true
own_keeps first old sizes vs tagged_variants parent own mark layouts children at index c fields h lt inside made c_is same there few =
    let long : length (variants_in first children) ≡ length children = length-map children (λ fields. all_at first fields.items) in
    let found = inside_at parent.size layouts (variants_in first children) at inside (omega arith) in
    let some : Some own ≡ Some (variant_layout parent index found.0) = made ∙ ap (option_map (variant_layout parent index)) found.1 in
    let is : own ≡ variant_layout parent index found.0 = cc in
    let here : get_or (variants_in first children) at [] ≡ all_at first c.items =
    get_or-map (λ fields. all_at first fields.items) children at c [] lt ∙ ap (λ k. all_at first k.items) (sym c_is) in
    let below : All (λ child. child < length first) fields.items =
    subst (All (λ child. child < length first)) (ap (λ v. v.items) (sym c_is) ∙ sym same) (All-get_or (λ fields. All (λ child. child < length first) fields.items) children at c lt there) in
    let count : length fields.items ≤ 0xFFFF_FF01 =
    omega (arith, All-get_or (λ fields. length fields.items ≤ 0xFFFF_FF01) children at c lt few, ap (λ v. length v.items) (sym c_is), ap length same) in
    let known : sizes_at (types_in old) fields.items ≡ map size_of (all_at first c.items) =
    sym (map-map size_of (placed_in (types_in old)) fields.items) ∙ ap (map size_of) (all_at-kept first old h.kept fields.items below ∙ ap (all_at first) same) in
    own_laws (types_in old) parent own index found.0 fields.items (all_at first c.items) is known (subst (λ ps. EndInside found.0.size found.0.field_offsets (map size_of ps)) here found.2) count

-- where one of the types at these places is flagged, some node is
any_flagged : (ns : List Node) (places : List ℕ) → All (λ i. i < length ns) places → list_any (λ (l : Layout). l.uninhabited) (map layout_of (all_at ns places)) ≡ true → are_inhabited ns ≡ false
any_flagged ns [] there set = absurd (cc)
any_flagged ns (i ∷ places) there set =
    by (layout_of (placed_at ns i)).uninhabited refl (any_flagged ns places (All-tail (λ i. i < length ns) i places there)) set
  where
    by : (b : Bool) → (layout_of (placed_at ns i)).uninhabited ≡ b → (list_any (λ (l : Layout). l.uninhabited) (map layout_of (all_at ns places)) ≡ true → are_inhabited ns ≡ false)
        → (b || list_any (λ (l : Layout). l.uninhabited) (map layout_of (all_at ns places))) ≡ true → are_inhabited ns ≡ false
    by true flag later e = flagged_there ns i (All-head (λ i. i < length ns) i places there) flag
    by false flag later e = later e

-- a variant's node is flagged only where some node was
pub own_flag : (first : List Node) (parent own : Layout) (layouts : List (VariantLayout ℕ)) (children : List (Vec ℕ Global)) (at index : ℕ) (c : Vec ℕ Global) → at < length children →
    VariantsInside parent.size layouts (variants_in first children) → Some own ≡ option_map (variant_layout parent index) (slice_get layouts at) → c ≡ get_or children at c →
    All (λ fields. All (λ child. child < length first) fields.items) children → own.uninhabited ≡ true → are_inhabited first ≡ false
own_flag first parent own layouts children at index c lt inside made c_is there flag =
    let long : length (variants_in first children) ≡ length children = length-map children (λ fields. all_at first fields.items) in
    let found = inside_at parent.size layouts (variants_in first children) at inside (omega arith) in
    let some : Some own ≡ Some (variant_layout parent index found.0) = made ∙ ap (option_map (variant_layout parent index)) found.1 in
    let is : own ≡ variant_layout parent index found.0 = cc in
    let here : get_or (variants_in first children) at [] ≡ all_at first c.items =
    get_or-map (λ fields. all_at first fields.items) children at c [] lt ∙ ap (λ k. all_at first k.items) (sym c_is) in
    let below : All (λ child. child < length first) c.items =
    subst (λ (v : Vec ℕ Global). All (λ child. child < length first) v.items) (sym c_is) (All-get_or (λ fields. All (λ child. child < length first) fields.items) children at c lt there) in
    any_flagged first c.items below
    (subst (λ ps. list_any (λ (l : Layout). l.uninhabited) (map layout_of ps) ≡ true) here (found.3 (sym (ap (λ (l : Layout). l.uninhabited) is) ∙ flag)))

-- the node of several variants keeps the laws
pub tagged_keeps : (one two : List Node) (t : ℕ) (tag : Placed) (variants : Vec (ℕ × ℕ) Global) (tagged_variants : TaggedVariants) (layout : Layout) (mark : Mark) (all : List (List Placed)) → t < length one →
    placed_at one t ≡ tag → AreTaggedVariants one two (map (λ l. l.size) (variants_of layout.variants)) variants.items tagged_variants → have_places layout.size layout.fields (size_of tag ∷ []) ≡ true →
    VariantsInside layout.size (variants_of layout.variants) all → keeps_laws (types_in two) layout (Tagged mark t variants) ≡ true
tagged_keeps one two t tag variants tagged_variants layout mark all lt there h places inside =
    let here : placed_in (types_in two) t ≡ tag = h.kept.same t (omega (arith, length-types_in one)) ∙ there in
    several_laws (types_in two) layout (have_places layout.size layout.fields (size_of (placed_in (types_in two) t) ∷ [])) (map (λ v. v.1) variants.items) all
    (ap (λ p. have_places layout.size layout.fields (size_of p ∷ [])) here ∙ places) h.sized h.listed inside

-- a node for several variants, behind those for the tag and for each variant
pub IsPut-tagged : (old one two new : List Node) (t i : ℕ) (tag : Placed) (variants : Vec (ℕ × ℕ) Global) (sizes : List ℕ) (tagged_variants : TaggedVariants) (layout : Layout) (mark : Mark) → IsPut old one t tag →
    AreTaggedVariants one two sizes variants.items tagged_variants → IsPut two new i (meaning (types_in two) layout (Tagged mark t variants)) →
    IsPut old new i (tagged layout mark (tag_offset layout) tag (encoding_of layout.variants) tagged_variants)
IsPut-tagged old one two new t i tag variants sizes tagged_variants layout mark first middle last =
    let here : placed_in (types_in two) t ≡ tag = middle.kept.same t (omega (arith, length-types_in one, first.last)) ∙ first.meant in
    let offset = tag_offset layout in
    let encoding = encoding_of layout.variants in
    record {
      kept = Keeps-trans (types_in old) (types_in one) (types_in new) first.kept (Keeps-trans (types_in one) (types_in two) (types_in new) middle.kept last.kept);
      well = λ h. last.well (middle.well (first.well h));
      last = last.last;
      meant =
          last.meant ∙ ap (λ p. tagged layout mark offset p encoding (tagged_variants_in (types_in two) variants.items)) here
          ∙ ap (tagged layout mark offset tag encoding) middle.meant;
    }

variants_below : (n : ℕ) (vs : List (ℕ × ℕ)) → All (λ v. v.1 < n) vs → list_all (λ v. nat_lt v.1 n) vs ≡ true
variants_below n [] h = refl
variants_below n (v ∷ vs) h = both_true (lt-ltb v.1 n (All-head (λ v. v.1 < n) v vs h)) (variants_below n vs (All-tail (λ v. v.1 < n) v vs h))

-- a node for several variants names earlier ones
pub tagged_before : (one two : List Node) (t n : ℕ) (variants : Vec (ℕ × ℕ) Global) (sizes : List ℕ) (tagged_variants : TaggedVariants) (mark : Mark) → t < length one → n ≡ length two → AreTaggedVariants one two sizes variants.items tagged_variants →
    is_node n (Tagged mark t variants) ≡ true
tagged_before one two t n variants sizes tagged_variants mark lt e h =
    let longer : length one ≤ length two = omega (arith, h.kept.longer, length-types_in one, length-types_in two) in
    both_true (lt-ltb t n (omega arith)) (variants_below n variants.items (All-weaker (λ v. v.1 < length two) (λ v. v.1 < n) (λ v lt. omega arith) variants.items h.there))

-- the fields of one variant come before a node
pub one_before : (m n : ℕ) (children : List (Vec ℕ Global)) (at : ℕ) (c : Vec ℕ Global) (fields : List ℕ) → m ≤ n → at < length children → c ≡ get_or children at c → fields ≡ c.items →
    All (λ fields. All (λ child. child < m) fields.items) children → list_all (λ child. nat_lt child n) fields ≡ true
one_before m n children at c fields le lt c_is same there =
    let below : All (λ child. child < m) fields =
    subst (All (λ child. child < m)) (ap (λ v. v.items) (sym c_is) ∙ sym same)
    (All-get_or (λ fields. All (λ child. child < m) fields.items) children at c lt there) in
    all_below n fields (All-weaker (λ child. child < m) (λ child. child < n) (λ child lt. omega arith) fields below)

-- a variant's fields come before its node
pub fields_before : (first old : List Node) (sizes : List ℕ) (vs : List (ℕ × ℕ)) (tagged_variants : TaggedVariants) (n : ℕ) (children : List (Vec ℕ Global)) (at : ℕ) (c : Vec ℕ Global) (fields : List ℕ) →
    AreTaggedVariants first old sizes vs tagged_variants → length old ≤ n → at < length children → c ≡ get_or children at c → fields ≡ c.items →
    All (λ fields. All (λ child. child < length first) fields.items) children → list_all (λ child. nat_lt child n) fields ≡ true
fields_before first old sizes vs tagged_variants n children at c fields h long lt c_is same there =
    let longer : length first ≤ length old = omega (arith, h.kept.longer, length-types_in first, length-types_in old) in
    one_before (length first) n children at c fields (omega arith) lt c_is same there

-- what is below a number is below each that is no less
pub there_within : (m n : ℕ) → m ≤ n → (children : List (Vec ℕ Global)) → All (λ fields. All (λ child. child < m) fields.items) children →
    All (λ fields. All (λ child. child < n) fields.items) children
there_within m n le children there =
    All-weaker (λ fields. All (λ child. child < m) fields.items) (λ fields. All (λ child. child < n) fields.items)
    (λ fields below. All-weaker (λ child. child < m) (λ child. child < n) (λ child lt. omega arith) fields.items below) children there
