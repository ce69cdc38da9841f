-- How types are laid out, one after another.
use Rattle.std.proofs.Common.{◌≡◌, ◌≢◌, ℕ, ◌-◌, ◌<◌, ◌≤◌, List, [], ◌∷◌, ◌++◌, Option, Some, None, Bool, true, false, length, map, arith, refl, sym, ap, ◌∙◌, subst, inl, inr, All, Result, Ok, Err}
use Rattle.std.specs.Prelude.{IfSome, nat_lt, ◌⊎◌, ◌==◌, ◌||◌, if◌then◌else◌}
use Rattle.std.proofs.lemmas.Bool.{eqb-false}
use Rattle.std.proofs.lemmas.List.{map-append}
use Rattle.std.proofs.lemmas.List.Elements.{All-nil, All-cons, All-head, All-tail, All-append, All-weaker}
use Rattle.abi_base.specs.declared.data_layout.TargetDataLayout.{TargetDataLayout}
use Rattle.abi_scalar.specs.declared.repr.ReprOptions.{ReprOptions}
use Rattle.abi_scalar.specs.declared.niche.Niche.{Niche}
use Rattle.abi_scalar.specs.Lawful.{IsLawfulLayout}
use Rattle.abi_univariant.specs.Apart.{AreApart}
use Rattle.abi_univariant.specs.List.{HasLawfulAligns}
use Rattle.abi_base.specs.declared.struct_kind.StructKind.TheVariants.{AlwaysSized, MaybeUnsized}
use Rattle.abi_univariant.specs.ListView.{list_view}
use Rattle.abi_scalar.specs.Repr.{is_abi_fixed}
use Rattle.abi_univariant.specs.Array.{array_answer, elements_layout}
use Rattle.rustc_abi.specs.declared.error.LayError.{LayError}
use Rattle.rustc_abi.specs.declared.error.LayError.TheVariants.{BadIndex, BadAlign, SizeOverflow}
use Rattle.abi_tree.specs.declared.node.Node.{Node}
use Rattle.abi_base.specs.DataLayout.{size_bound}
use Rattle.abi_scalar.specs.declared.scalar.Scalar.{Scalar}
use Rattle.abi_scalar.specs.Pair.{pair_size, second_offset}
use Rattle.std.proofs.lemmas.Bool.{lt-ltb, le-ltb, ltb-false}
use Rattle.abi_tree.specs.declared.node.Shape.TheVariants.{Pair}
use Rattle.rustc_abi.specs.ScalarFault.{scalar_fault}
use Rattle.rustc_abi.proofs.Faults.FaultLemmas.{faultless}
use Rattle.rustc_abi.proofs.Values.PairLemmas.{Fits-pair}
use Rattle.abi_tree.specs.Tree.{Tree, pair, array, struct, Trees, no_trees, more_trees, trees, Variants, no_variants, more_variants}
use Rattle.abi_tree.specs.Placed.{Placed, layout_of, size_of, niche_of, pair as placed_pair, elements, part, no_parts}
use Rattle.abi_scalar.specs.Layout.{Layout}
use Rattle.rustc_abi.specs.Error.{named, IsRefused}
use Rattle.abi_tree.specs.Fits.{Fits}
use Rattle.abi_tree.specs.Nodes.{placed_in, meaning, types_in, placed_at, root_of, Keeps}
use Rattle.abi_tree.specs.Values.{LocalsHaveValues}
use Rattle.abi_tree.specs.Faithful.{IsFaithful}
use Rattle.rustc_abi.specs.Laying.{IsListedInOrder, IsOrderedFieldsAnswer, ordered_fault, with_randomize_flag}
use Rattle.rustc_abi.specs.Laying.{IsLaying, AreLaying, IsFieldsAnswer, IsLaidList, fields_fault, has_bad_align, is_above_limit, most_fields, kind_of, placed_fields, placed_by, unless, one_scalar, two_scalars, pair_answer}
use Rattle.abi_tree.specs.Room.{has_room}
use Rattle.abi_tree.specs.Unions.{Begins, IsCommon, InUnions}
use Rattle.abi_tree.specs.Untagged.{UntaggedNamed}
use Rattle.rustc_abi.proofs.Unions.CommonLemmas.{begins_room}
use Rattle.abi_tree.specs.Well.{IsPut, all_at}
use Rattle.rustc_abi.specs.Adding.{IsAdded, EachFits, VariantsFit, AreAdded}
use Rattle.rustc_abi.proofs.Values.ElementsLemmas.{IsElementNiche, Fits-elements}
use Rattle.rustc_abi.proofs.Values.FieldsLemmas.{part_of_list, Fits-fields}
use Rattle.abi_univariant.specs.ListNiche.{IsNicheOfPart}
use Rattle.abi_univariant.specs.Part.{parts_of}
use Rattle.std.proofs.lemmas.Option.{IfSome_then}
use Rattle.abi_scalar.specs.Shape.{listed_offsets}
use Rattle.rustc_abi.proofs.Trees.ListLemmas.{chosen}
use Rattle.abi_tree.proofs.Meaning.NodesLemmas.{length-types_in, Keeps-trans}

pub IsAdded-put : (dl : TargetDataLayout) (old new : List Node) (i : ℕ) (placed : Placed) (t : Tree) → IsPut old new i placed →
    IsLaying dl t (Ok placed) → Fits dl t placed → IsAdded dl old new i t
IsAdded-put dl old new i placed t put exact fits = record {
  kept = put.kept;
  well = put.well;
  last = put.last;
  exact = subst (λ p. IsLaying dl t (Ok p)) (sym put.meant) exact;
  fits = subst (Fits dl t) (sym put.meant) fits;
}

element_niche : (count : ℕ) (element : Placed) (niche : Option Niche) → count ≢ 0 → niche ≡ niche_of element → IfSome niche (IsElementNiche count element)
element_niche count element None some e = tt
element_niche count element (Some n) some e =
    (omega arith, record { own = n; of_part = sym e; offset_is = omega arith; value_is = refl; range_is = refl })

-- the niche of an array is its first element's
niche_by : (b : Bool) (count : ℕ) (element : Placed) → (b ≡ false → count ≢ 0) → IfSome (if b then None else niche_of element) (IsElementNiche count element)
niche_by true count element some = tt
niche_by false count element some = element_niche count element (niche_of element) (some refl) refl

array_niche : (count : ℕ) (element : Placed) → IfSome (if count == 0 then None else niche_of element) (IsElementNiche count element)
array_niche count element = niche_by (count == 0) count element (λ e. eqb-false count 0 e)

-- an array's layout
pub IsAdded-elements : (dl : TargetDataLayout) (old new : List Node) (i : ℕ) (element : Placed) (count : ℕ) (layout : Layout) (t : Tree) →
    named {H = ℕ} (array_answer 0 dl (layout_of element) (Some count)) ≡ Ok layout → IsLawfulLayout dl layout →
    IsPut old new i (elements layout count element) → IsLaying dl t (Ok element) → Fits dl t element → IsAdded dl old new i (array count t)
IsAdded-elements dl old new i element count layout t answer lawful put exact fits =
    let made : layout ≡ elements_layout 0 true count (layout_of element) = chosen ℕ _ _ layout answer in
    IsAdded-put dl old new i (elements layout count element) (array count t) put
    (inr (element, exact, sym (ap (placed_by (λ l. elements l count element)) answer)))
    (Fits-elements dl t element count layout fits (ap (λ l. l.size) made)
    (subst (λ n. IfSome n (IsElementNiche count element)) (sym (ap (λ l. l.largest_niche) made)) (array_niche count element))
    (ap (λ l. l.backend_repr) made) (ap (λ l. l.uninhabited) made) lawful)

-- each type's layout is lawful
pub EachFits-lawful : (dl : TargetDataLayout) (ts : Trees) (ps : List Placed) → EachFits dl ts ps → All (λ p. IsLawfulLayout dl (layout_of p)) ps
EachFits-lawful dl no_trees [] h = All-nil (λ p. IsLawfulLayout dl (layout_of p))
EachFits-lawful dl no_trees (p ∷ ps) h = absurd h
EachFits-lawful dl (more_trees t ts) [] h = absurd h
EachFits-lawful dl (more_trees t ts) (p ∷ ps) h =
    All-cons (λ p. IsLawfulLayout dl (layout_of p)) p ps (Fits.lawful h.0) (EachFits-lawful dl ts ps h.1)

-- types that fit are lawful
pub VariantsFit-lawful : (dl : TargetDataLayout) (all : Variants) (variants : List (List Placed)) → VariantsFit dl all variants → All (All (λ p. IsLawfulLayout dl (layout_of p))) variants
VariantsFit-lawful dl no_variants [] h = All-nil (All (λ p. IsLawfulLayout dl (layout_of p)))
VariantsFit-lawful dl no_variants (ps ∷ variants) h = absurd h
VariantsFit-lawful dl (more_variants d ts others) [] h = absurd h
VariantsFit-lawful dl (more_variants d ts others) (ps ∷ variants) h =
    All-cons (All (λ p. IsLawfulLayout dl (layout_of p))) ps variants (EachFits-lawful dl ts ps h.0) (VariantsFit-lawful dl others variants h.1)

few_of : (many bad : Bool) → (if many then Some BadIndex else (if bad then Some BadAlign else None)) ≡ None → (many ≡ false) × (bad ≡ false)
few_of true bad e = absurd (cc)
few_of false true e = absurd (cc)
few_of false false e = (refl, refl)

-- a struct without a fault of its own has no more fields than can be named
pub faultless_few : (repr : ReprOptions) (ps : List Placed) → fields_fault repr ps ≡ None → length ps ≤ most_fields
faultless_few repr ps none = ltb-false most_fields (length ps) (few_of (nat_lt most_fields (length ps)) (has_bad_align repr) none).0

limited : (align : Option ℕ) → is_above_limit align ≡ false → IfSome align (λ a. a ≤ 29)
limited None h = tt
limited (Some a) h = ltb-false 29 a h

-- where neither of two tests holds, both fail
pub neither : (a b : Bool) → (a || b) ≡ false → (a ≡ false) × (b ≡ false)
neither true b h = absurd (cc)
neither false b h = (refl, h)

-- a repr without an alignment above the limit
pub lawful_unless_bad : (repr : ReprOptions) → has_bad_align repr ≡ false → HasLawfulAligns repr
lawful_unless_bad repr fine =
    let both = neither (is_above_limit repr.align) (is_above_limit repr.pack) fine in
    record { align = limited repr.align both.0; pack = limited repr.pack both.1 }

-- and no alignment above the limit
pub faultless_aligns : (repr : ReprOptions) (ps : List Placed) → fields_fault repr ps ≡ None → HasLawfulAligns repr
faultless_aligns repr ps none = lawful_unless_bad repr (few_of (nat_lt most_fields (length ps)) (has_bad_align repr) none).1

-- a list of a struct is always sized, or has a field
pub kind_cases : (always_sized : Bool) (ps : List Placed) → (kind_of always_sized ps ≡ AlwaysSized) ⊎ ((kind_of always_sized ps ≡ MaybeUnsized) × (0 < length ps))
kind_cases always_sized [] = inl refl
kind_cases true (p ∷ ps) = inl refl
kind_cases false (p ∷ ps) = inr (refl, omega arith)

-- the calculator's refusal is the struct's
pub fields_refused : (dl : TargetDataLayout) (repr : ReprOptions) (always_sized : Bool) (ps : List Placed) (e : LayError) → fields_fault repr ps ≡ None →
    IsRefused (IsLaidList dl repr (kind_of always_sized ps) (map layout_of ps)) e → IsRefused (IsFieldsAnswer dl repr always_sized ps) e
fields_refused dl repr always_sized ps e faultless (inl memory) = inl memory
fields_refused dl repr always_sized ps e faultless (inr f) = inr (rw faultless (inl (e, f, refl)))

-- a struct's refusal is the tree's
pub struct_refused : (dl : TargetDataLayout) (repr : ReprOptions) (always_sized : Bool) (ts : Trees) (ps : List Placed) (e : LayError) → AreLaying dl ts (Ok ps) →
    IsRefused (IsFieldsAnswer dl repr always_sized ps) e → IsRefused (IsLaying dl (struct repr always_sized None ts)) e
struct_refused dl repr always_sized ts ps e exact (inl memory) = inl memory
struct_refused dl repr always_sized ts ps e exact (inr f) = inr (inr (ps, exact, f))

-- where the order is handed in, the calculator's refusal is the struct's, and the struct's the tree's
pub ordered_refused : (dl : TargetDataLayout) (repr : ReprOptions) (always_sized : Bool) (order : List ℕ) (ps : List Placed) (e : LayError) → ordered_fault repr ps ≡ None →
    IsRefused (IsListedInOrder dl (with_randomize_flag repr) (kind_of always_sized ps) order (map layout_of ps)) e → IsRefused (IsOrderedFieldsAnswer dl repr always_sized order ps) e
ordered_refused dl repr always_sized order ps e faultless (inl memory) = inl memory
ordered_refused dl repr always_sized order ps e faultless (inr f) = inr (rw faultless (inl (e, f, refl)))

pub ordered_tree_refused : (dl : TargetDataLayout) (repr : ReprOptions) (always_sized : Bool) (order : List ℕ) (ts : Trees) (ps : List Placed) (e : LayError) → AreLaying dl ts (Ok ps) →
    IsRefused (IsOrderedFieldsAnswer dl repr always_sized order ps) e → IsRefused (IsLaying dl (struct repr always_sized (Some order) ts)) e
ordered_tree_refused dl repr always_sized order ts ps e exact (inl memory) = inl memory
ordered_tree_refused dl repr always_sized order ts ps e exact (inr f) = inr (inr (ps, exact, f))

-- a struct's layout
pub IsAdded-fields : (dl : TargetDataLayout) (old new : List Node) (i : ℕ) (repr : ReprOptions) (always_sized : Bool) (ps : List Placed) (layout : Layout) (ts : Trees) →
    fields_fault repr ps ≡ None → IsLaidList dl repr (kind_of always_sized ps) (map layout_of ps) (Ok layout) → IsLawfulLayout dl layout →
    IfSome layout.largest_niche (IsNicheOfPart (listed_offsets layout.fields) (map layout_of ps)) → AreApart layout.size (listed_offsets layout.fields) (map size_of ps) →
    IsPut old new i (placed_fields repr ps layout) → AreLaying dl ts (Ok ps) → EachFits dl ts ps → IsAdded dl old new i (struct repr always_sized None ts)
IsAdded-fields dl old new i repr always_sized ps layout ts faultless listed lawful niche apart put exact fits =
    let made = listed.2 in
    let offsets : listed_offsets layout.fields ≡ listed.1 = ap listed_offsets made.shape in
    let view = made.view ∙ ap (list_view dl (is_abi_fixed repr) layout.size layout.align.abi (parts_of dl (map layout_of ps))) (sym offsets) in
    let answer : IsFieldsAnswer dl repr always_sized ps (Ok (placed_fields repr ps layout)) = rw faultless (inr (layout, listed, refl)) in
    IsAdded-put dl old new i (placed_fields repr ps layout) (struct repr always_sized None ts) put (inr (ps, exact, answer))
    (Fits-fields dl repr always_sized (is_abi_fixed repr) None ts layout (listed_offsets layout.fields) ps fits apart
    (IfSome_then layout.largest_niche niche (part_of_list (listed_offsets layout.fields) ps)) view made.uninhabited (EachFits-lawful dl ts ps fits) lawful)

-- and that of a struct whose order is handed in
pub IsAdded-ordered : (dl : TargetDataLayout) (old new : List Node) (i : ℕ) (repr : ReprOptions) (always_sized : Bool) (order : List ℕ) (ps : List Placed) (layout : Layout) (ts : Trees) →
    ordered_fault repr ps ≡ None → IsListedInOrder dl (with_randomize_flag repr) (kind_of always_sized ps) order (map layout_of ps) (Ok layout) → IsLawfulLayout dl layout →
    IfSome layout.largest_niche (IsNicheOfPart (listed_offsets layout.fields) (map layout_of ps)) → AreApart layout.size (listed_offsets layout.fields) (map size_of ps) →
    IsPut old new i (placed_fields repr ps layout) → AreLaying dl ts (Ok ps) → EachFits dl ts ps → IsAdded dl old new i (struct repr always_sized (Some order) ts)
IsAdded-ordered dl old new i repr always_sized order ps layout ts faultless listed lawful niche apart put exact fits =
    let made = listed.1 in
    let fixed = is_abi_fixed (with_randomize_flag repr) in
    let offsets : listed_offsets layout.fields ≡ listed.0 = ap listed_offsets made.shape in
    let view = made.view ∙ ap (list_view dl fixed layout.size layout.align.abi (parts_of dl (map layout_of ps))) (sym offsets) in
    let answer : IsOrderedFieldsAnswer dl repr always_sized order ps (Ok (placed_fields repr ps layout)) = rw faultless (inr (layout, listed, refl)) in
    IsAdded-put dl old new i (placed_fields repr ps layout) (struct repr always_sized (Some order) ts) put (inr (ps, exact, answer))
    (Fits-fields dl repr always_sized fixed (Some order) ts layout (listed_offsets layout.fields) ps fits apart
    (IfSome_then layout.largest_niche niche (part_of_list (listed_offsets layout.fields) ps)) view made.uninhabited (EachFits-lawful dl ts ps fits) lawful)

-- a list is laid out where its first type and the others are
more_laying : (dl : TargetDataLayout) (t : Tree) (ts : Trees) (p : Placed) (ps : List Placed) → IsLaying dl t (Ok p) → AreLaying dl ts (Ok ps) → AreLaying dl (more_trees t ts) (Ok (p ∷ ps))
more_laying dl t ts p ps here later = inr (p, here, inr (ps, later, refl))

first_laying : (dl : TargetDataLayout) (t : Tree) (ts : Trees) (xs : List Placed) → AreLaying dl (more_trees t ts) (Ok xs) →
    (p : Placed) × (ps : List Placed) × IsLaying dl t (Ok p) × AreLaying dl ts (Ok ps) × (xs ≡ p ∷ ps)
first_laying dl t ts xs (inl h) = absurd (cc h.2)
first_laying dl t ts xs (inr (p, here, inl h)) = absurd (cc h.2)
first_laying dl t ts xs (inr (p, here, inr (ps, later, e))) = (p, ps, here, later, cc)

-- one type more
laying-push : (dl : TargetDataLayout) (ts : List Tree) (ps : List Placed) (t : Tree) (p : Placed) → AreLaying dl (trees ts) (Ok ps) → IsLaying dl t (Ok p) →
    AreLaying dl (trees (ts ++ t ∷ [])) (Ok (ps ++ p ∷ []))
laying-push dl [] ps t p before here =
    let none : [] ≡ ps = cc in
    subst (λ qs. AreLaying dl (more_trees t no_trees) (Ok (qs ++ p ∷ []))) none (more_laying dl t no_trees p [] here refl)
laying-push dl (s ∷ ts) ps t p before here =
    let both = first_laying dl s (trees ts) ps before in
    subst (λ qs. AreLaying dl (trees ((s ∷ ts) ++ t ∷ [])) (Ok (qs ++ p ∷ []))) (sym both.4)
    (more_laying dl s (trees (ts ++ t ∷ [])) both.0 (both.1 ++ p ∷ []) both.2 (laying-push dl ts both.1 t p both.3 here))

later_refused : (dl : TargetDataLayout) (t : Tree) (ts : Trees) (p : Placed) (e : LayError) → IsLaying dl t (Ok p) → IsRefused (AreLaying dl ts) e → IsRefused (AreLaying dl (more_trees t ts)) e
later_refused dl t ts p e here (inl memory) = inl memory
later_refused dl t ts p e here (inr f) = inr (inr (p, here, inl (e, f, refl)))

-- the first fault is the answer
pub laying-refused : (dl : TargetDataLayout) (ts : List Tree) (ps : List Placed) (t : Tree) (rest : List Tree) (e : LayError) → AreLaying dl (trees ts) (Ok ps) →
    IsRefused (IsLaying dl t) e → IsRefused (AreLaying dl (trees (ts ++ t ∷ rest))) e
laying-refused dl ts ps t rest e before (inl memory) = inl memory
laying-refused dl [] ps t rest e before (inr f) = inr (inl (e, f, refl))
laying-refused dl (s ∷ ts) ps t rest e before (inr f) =
    let both = first_laying dl s (trees ts) ps before in
    later_refused dl s (trees (ts ++ t ∷ rest)) both.0 e both.2 (laying-refused dl ts both.1 t rest e both.3 (inr f))

EachFits-push : (dl : TargetDataLayout) (ts : List Tree) (ps : List Placed) (t : Tree) (p : Placed) → EachFits dl (trees ts) ps → Fits dl t p → EachFits dl (trees (ts ++ t ∷ [])) (ps ++ p ∷ [])
EachFits-push dl [] [] t p h fits = (fits, tt)
EachFits-push dl [] (q ∷ ps) t p h fits = absurd h
EachFits-push dl (s ∷ ts) [] t p h fits = absurd h
EachFits-push dl (s ∷ ts) (q ∷ ps) t p h fits = (h.0, EachFits-push dl ts ps t p h.1 fits)

-- types that were there mean the same
pub all_at-kept : (old new : List Node) → Keeps (types_in old) (types_in new) → (children : List ℕ) → All (λ child. child < length old) children → all_at new children ≡ all_at old children
all_at-kept old new kept [] there = refl
all_at-kept old new kept (c ∷ children) there =
    let here : placed_in (types_in new) c ≡ placed_in (types_in old) c =
    kept.same c (omega (arith, length-types_in old, All-head (λ child. child < length old) c children there)) in
    let rest : all_at new children ≡ all_at old children = all_at-kept old new kept children (All-tail (λ child. child < length old) c children there) in
    cc

-- one type more
pub AreAdded-more : (dl : TargetDataLayout) (first old new : List Node) (children : List ℕ) (ts : List Tree) (i : ℕ) (t : Tree) → AreAdded dl first old children ts →
    IsAdded dl old new i t → AreAdded dl first new (children ++ i ∷ []) (ts ++ t ∷ [])
AreAdded-more dl first old new children ts i t h added =
    let same : all_at new children ≡ all_at old children = all_at-kept old new added.kept children h.there in
    let longer : length old ≤ length new = omega (arith, added.kept.longer, length-types_in old, length-types_in new) in
    let more : all_at new (children ++ i ∷ []) ≡ all_at old children ++ placed_at new i ∷ [] =
    map-append (placed_in (types_in new)) children (i ∷ []) ∙ ap (λ ps. ps ++ placed_at new i ∷ []) same in
    record {
      kept = Keeps-trans (types_in first) (types_in old) (types_in new) h.kept added.kept;
      well = λ first_well. added.well (h.well first_well);
      there =
          All-append (λ child. child < length new) children (i ∷ [])
          (All-weaker (λ child. child < length old) (λ child. child < length new) (λ child lt. omega arith) children h.there)
          (All-cons (λ child. child < length new) i [] (omega (arith, added.last)) (All-nil (λ child. child < length new)));
      exact = subst (λ ps. AreLaying dl (trees (ts ++ t ∷ [])) (Ok ps)) (sym more) (laying-push dl ts (all_at old children) t (placed_at new i) h.exact added.exact);
      fits = subst (EachFits dl (trees (ts ++ t ∷ []))) (sym more) (EachFits-push dl ts (all_at old children) t (placed_at new i) h.fits added.fits);
    }

-- the last node keeps the tree's values
pub faithful_root : (dl : TargetDataLayout) (old new : List Node) (i : ℕ) (t : Tree) (placed : Placed) → IsAdded dl old new i t → placed ≡ root_of new →
    LocalsHaveValues dl t → IsFaithful dl t placed
faithful_root dl old new i t placed added is locals =
    let root : i ≡ length new - 1 = omega (arith, added.last) in
    subst (IsFaithful dl t) (ap (placed_at new) root ∙ sym is) (added.fits.faithful locals)

-- the last node's layout is lawful
pub lawful_root : (dl : TargetDataLayout) (old new : List Node) (i : ℕ) (t : Tree) (placed : Placed) → IsAdded dl old new i t → placed ≡ root_of new →
    IsLawfulLayout dl (layout_of placed)
lawful_root dl old new i t placed added is =
    let root : i ≡ length new - 1 = omega (arith, added.last) in
    subst (λ p. IsLawfulLayout dl (layout_of p)) (ap (placed_at new) root ∙ sym is) added.fits.lawful

-- the last node is the answer to the tree
pub laid_root : (dl : TargetDataLayout) (old new : List Node) (i : ℕ) (t : Tree) (placed : Placed) → IsAdded dl old new i t → placed ≡ root_of new → IsLaying dl t (Ok placed)
laid_root dl old new i t placed added is =
    let root : i ≡ length new - 1 = omega (arith, added.last) in
    subst (λ p. IsLaying dl t (Ok p)) (ap (placed_at new) root ∙ sym is) added.exact

-- the last node's parts end inside
pub room_root : (dl : TargetDataLayout) (old new : List Node) (i : ℕ) (t : Tree) (placed : Placed) → IsAdded dl old new i t → placed ≡ root_of new → has_room placed ≡ true
room_root dl old new i t placed added is =
    let root : i ≡ length new - 1 = omega (arith, added.last) in
    subst (λ p. has_room p ≡ true) (ap (placed_at new) root ∙ sym is) added.fits.room

-- the last node's type, with what each union in it keeps
pub begins_root : (dl : TargetDataLayout) (old new : List Node) (i : ℕ) (t : Tree) (placed : Placed) → IsAdded dl old new i t → placed ≡ root_of new →
    InUnions (Begins dl.endian) placed
begins_root dl old new i t placed added is =
    let root : i ≡ length new - 1 = omega (arith, added.last) in
    subst (InUnions (Begins dl.endian)) (ap (placed_at new) root ∙ sym is) (begins_room dl.endian (placed_at new i) added.fits.room)

pub common_root : (dl : TargetDataLayout) (old new : List Node) (i : ℕ) (t : Tree) (placed : Placed) → IsAdded dl old new i t → placed ≡ root_of new →
    LocalsHaveValues dl t → InUnions (IsCommon dl.endian) placed
common_root dl old new i t placed added is locals =
    let root : i ≡ length new - 1 = omega (arith, added.last) in
    subst (InUnions (IsCommon dl.endian)) (ap (placed_at new) root ∙ sym is) (added.fits.common locals)

-- the last node's type, in which the untagged variants name themselves
pub untagged_root : (dl : TargetDataLayout) (old new : List Node) (i : ℕ) (t : Tree) (placed : Placed) → IsAdded dl old new i t → placed ≡ root_of new →
    LocalsHaveValues dl t → UntaggedNamed dl.endian placed
untagged_root dl old new i t placed added is locals =
    let root : i ≡ length new - 1 = omega (arith, added.last) in
    subst (UntaggedNamed dl.endian) (ap (placed_at new) root ∙ sym is) (added.fits.untagged locals)

-- two scalars' layout
pub IsAdded-pair : (dl : TargetDataLayout) (old one both new : List Node) (i j k : ℕ) (a b : Scalar) → scalar_fault dl a ≡ None → scalar_fault dl b ≡ None →
    pair_size dl a b < size_bound dl → IsLawfulLayout dl (layout_of (one_scalar dl a)) → IsLawfulLayout dl (layout_of (one_scalar dl b)) → IsLawfulLayout dl (layout_of (two_scalars dl a b)) →
    IsPut old one i (one_scalar dl a) → IsPut one both j (one_scalar dl b) → IsPut both new k (meaning (types_in both) (layout_of (two_scalars dl a b)) (Pair i j)) →
    IsAdded dl old new k (pair a b)
IsAdded-pair dl old one both new i j k a b fa fb below la lb lawful first second last =
    let here : placed_in (types_in both) i ≡ one_scalar dl a = second.kept.same i (omega (arith, length-types_in one, first.last)) ∙ first.meant in
    let there : placed_in (types_in both) j ≡ one_scalar dl b = second.meant in
    let same : meaning (types_in both) (layout_of (two_scalars dl a b)) (Pair i j) ≡ two_scalars dl a b =
    ap (λ p. placed_pair (layout_of (two_scalars dl a b)) (part 0 p (part (second_offset dl a b) (placed_in (types_in both) j) no_parts))) here
    ∙ ap (λ p. placed_pair (layout_of (two_scalars dl a b)) (part 0 (one_scalar dl a) (part (second_offset dl a b) p no_parts))) there in
    let put : IsPut old new k (two_scalars dl a b) = record {
      kept = Keeps-trans (types_in old) (types_in one) (types_in new) first.kept (Keeps-trans (types_in one) (types_in both) (types_in new) second.kept last.kept);
      well = λ h. last.well (second.well (first.well h));
      last = last.last;
      meant = last.meant ∙ same;
    } in
    let fits : nat_lt (pair_size dl a b) (size_bound dl) ≡ true = lt-ltb (pair_size dl a b) (size_bound dl) below in
    let answer : (r : Result Placed LayError) → unless (scalar_fault dl a) (unless (scalar_fault dl b) r) ≡ r =
    λ r. ap (λ f. unless f (unless (scalar_fault dl b) r)) fa ∙ ap (λ f. unless f r) fb in
    IsAdded-put dl old new k (two_scalars dl a b) (pair a b) put
    (sym (answer (if nat_lt (pair_size dl a b) (size_bound dl) then Ok (two_scalars dl a b) else Err SizeOverflow) ∙ ap (λ t. if t then Ok (two_scalars dl a b) else Err SizeOverflow) fits))
    (Fits-pair dl a b (faultless dl a fa) (faultless dl b fb) la lb lawful)

-- two scalars that are too large
pub pair_overflows : (dl : TargetDataLayout) (a b : Scalar) → scalar_fault dl a ≡ None → scalar_fault dl b ≡ None → size_bound dl ≤ pair_size dl a b → pair_answer dl a b ≡ Err SizeOverflow
pair_overflows dl a b fa fb above =
    let large : nat_lt (pair_size dl a b) (size_bound dl) ≡ false = le-ltb (pair_size dl a b) (size_bound dl) above in
    let answer : (r : Result Placed LayError) → unless (scalar_fault dl a) (unless (scalar_fault dl b) r) ≡ r =
    λ r. ap (λ f. unless f (unless (scalar_fault dl b) r)) fa ∙ ap (λ f. unless f r) fb in
    answer (if nat_lt (pair_size dl a b) (size_bound dl) then Ok (two_scalars dl a b) else Err SizeOverflow) ∙ ap (λ t. if t then Ok (two_scalars dl a b) else Err SizeOverflow) large

-- a node behind a type's, and behind several types'
pub IsAdded-after : (dl : TargetDataLayout) (first old new : List Node) (i j : ℕ) (t u : Tree) → IsAdded dl first old i t → IsAdded dl old new j u → IsAdded dl first new j u
IsAdded-after dl first old new i j t u before added = record {
  kept = Keeps-trans (types_in first) (types_in old) (types_in new) before.kept added.kept;
  well = λ h. added.well (before.well h);
  last = added.last;
  exact = added.exact;
  fits = added.fits;
}

pub AreAdded-after : (dl : TargetDataLayout) (first old new : List Node) (children : List ℕ) (ts : List Tree) (j : ℕ) (u : Tree) → AreAdded dl first old children ts → IsAdded dl old new j u →
    IsAdded dl first new j u
AreAdded-after dl first old new children ts j u before added = record {
  kept = Keeps-trans (types_in first) (types_in old) (types_in new) before.kept added.kept;
  well = λ h. added.well (before.well h);
  last = added.last;
  exact = added.exact;
  fits = added.fits;
}
