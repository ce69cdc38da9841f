-- What the locals of a coroutine that is laid out share: those that clash share no byte, and each has one offset.
use Rattle.std.proofs.Common.{◌≡◌, ℕ, zero, suc, ◌+◌, ◌<◌, List, [], ◌∷◌, Some, All, length, map, inl, inr, refl, sym, ap, subst, ◌∙◌, Ok}
use Rattle.std.specs.Prelude.{slice_get, option_map}
use Rattle.std.proofs.lemmas.Option.{get_or_from_slice_get, same_Some, slice_get-get_or, slice_get-map, slice_get_within}
use Rattle.abi_base.specs.declared.data_layout.TargetDataLayout.{TargetDataLayout}
use Rattle.abi_base.specs.DataLayout.{IsLawfulDataLayout}
use Rattle.abi_scalar.specs.declared.variants.VariantLayout.{VariantLayout}
use Rattle.abi_scalar.specs.Variant.{variants_of}
use Rattle.abi_univariant.specs.Placement.{source_order}
use Rattle.abi_calc.specs.Coroutine.Clash.{HasLocalAt}
use Rattle.abi_calc.specs.Coroutine.Clash as calculator
use Rattle.abi_calc.proofs.CoroutineLemmas.Deep.{coroutine_apart}
use Rattle.abi_tree.specs.Tree.{Tree, coroutine, Trees}
use Rattle.abi_tree.specs.declared.mark.Mark.{Mark}
use Rattle.abi_tree.specs.declared.mark.Mark.TheVariants.{Plain}
use Rattle.abi_tree.specs.Placed.{Placed, layout_of, parts_of_tagged_variant}
use Rattle.abi_scalar.specs.Layout.{Layout}
use Rattle.abi_tree.specs.Nodes.{parts_at, placed_in}
use Rattle.rustc_abi.specs.Clash.{AreClashingLocalsApart, DoLocalsClash, HasLocal, HaveLocalsOneOffset, IsPart}
use Rattle.rustc_abi.specs.Coroutines.{conflicts_of}
use Rattle.rustc_abi.specs.Enums.{tagged_variants_at}
use Rattle.rustc_abi.specs.Laying.{AreLaying, IsCoroutineOf, IsLaying, coroutine_fault, one_scalar}
use Rattle.rustc_abi.proofs.Faults.CoroutineFaultLemmas.{conflict_columns, conflict_rows, conflicts_within, entry_of, states_once, states_within}
use Rattle.rustc_abi.proofs.Trees.LaidLemmas.{all_whole, whole_lawful, coroutine_asked, coroutine_laid}

-- ---- parts at their places

-- a part has its offset, and is of its type
part_of : (offsets : List ℕ) (ps : List Placed) (place o : ℕ) (p : Placed) → IsPart (parts_at offsets ps) place o p → (slice_get offsets place ≡ Some o) × (slice_get ps place ≡ Some p)
part_of [] ps place o p h = absurd h
part_of (x ∷ offsets) [] place o p h = absurd h
part_of (x ∷ offsets) (q ∷ ps) zero o p h = (ap (λ y. Some y) h.0, ap (λ y. Some y) h.1)
part_of (x ∷ offsets) (q ∷ ps) (suc place) o p h = part_of offsets ps place o p h

-- a part of a tagged variant has the offset of its layout, and is of its types
tagged_variant_part : (whole : Layout) (mark : Mark) (first : ℕ) (layouts : List (VariantLayout ℕ)) (numbers : List ℕ) (all : List (List Placed)) (i place o : ℕ) (p : Placed) → IsPart (parts_of_tagged_variant (tagged_variants_at whole mark first layouts numbers all) i) place o p
    → (layout : VariantLayout ℕ) × (slice_get layouts i ≡ Some layout) × (slice_get layout.field_offsets place ≡ Some o) × (ps : List Placed) × (slice_get all i ≡ Some ps) × (slice_get ps place ≡ Some p)
tagged_variant_part whole mark first [] numbers all i place o p h = absurd h
tagged_variant_part whole mark first (l ∷ layouts) [] all i place o p h = absurd h
tagged_variant_part whole mark first (l ∷ layouts) (n ∷ numbers) [] i place o p h = absurd h
tagged_variant_part whole mark first (l ∷ layouts) (n ∷ numbers) (ps ∷ all) zero place o p h = let found = part_of l.field_offsets ps place o p h in (l, refl, found.0, ps, refl, found.1)
tagged_variant_part whole mark first (l ∷ layouts) (n ∷ numbers) (ps ∷ all) (suc i) place o p h = tagged_variant_part whole mark (first + 1) layouts numbers all i place o p h

-- what stands at a place of a list, for each item something
mapped_at : {A B : Type 0} (f : A → B) (xs : List A) (i : ℕ) (x : A) (y : B) → slice_get xs i ≡ Some x → slice_get (map f xs) i ≡ Some y → f x ≡ y
mapped_at f xs i x y here there = same_Some (f x) y (sym (slice_get-map f xs i ∙ ap (option_map f) here) ∙ there)

module _ (ps : List Placed) (states : List (List ℕ)) (layouts : List (VariantLayout ℕ)) (numbers : List ℕ) (within : All (All (λ l. l < length ps)) states) where
  local_short : (i place local : ℕ) (state : List ℕ) → slice_get states i ≡ Some state → slice_get state place ≡ Some local → local < length ps
  local_short i place local state here there =
      let whole : All (λ l. l < length ps) state = subst (All (λ l. l < length ps)) (get_or_from_slice_get states i state [] here) (within i [] (slice_get_within states i state here)) in
      subst (λ l. l < length ps) (get_or_from_slice_get state place local 0 there) (whole place 0 (slice_get_within state place local there))

  -- a local that some state has is one of the locals, where the calculator's layout of the state has it
  has_local : (whole : Layout) (mark : Mark) (local o : ℕ) (x : Placed) → HasLocal states (tagged_variants_at whole mark 0 layouts numbers (map (map (placed_in ps)) states)) local o x
      → HasLocalAt states layouts local o × (slice_get (map layout_of ps) local ≡ Some (layout_of x))
  has_local whole mark local o x (i, state, place, here, there, is) =
      let found = tagged_variant_part whole mark 0 layouts numbers (map (map (placed_in ps)) states) i place o x is in
      let own : map (placed_in ps) state ≡ found.3 = mapped_at (map (placed_in ps)) states i state found.3 here found.4 in
      let type : placed_in ps local ≡ x = mapped_at (placed_in ps) state place local x there (ap (λ qs. slice_get qs place) own ∙ found.5) in
      let short : local < length ps = local_short i place local state here there in (
        (i, state, found.0, place, here, found.1, there, found.2),
        slice_get-map layout_of ps local ∙ ap (option_map layout_of) (slice_get-get_or ps local _ short) ∙ ap (λ q. Some (layout_of q)) type,
      )

-- locals that clash do so by the relation of the conflicts
do_clash : (count : ℕ) (states : List (List ℕ)) (pairs : List (ℕ × ℕ)) (a b : ℕ) → All (λ c. (c.0 < count) × (c.1 < count)) pairs → DoLocalsClash states pairs a b → calculator.DoClash states (conflicts_of count pairs) a b
do_clash count states pairs a b within (inl held) = inl held
do_clash count states pairs a b within (inr (inl at)) = inr (inl (entry_of count pairs a b within at))
do_clash count states pairs a b within (inr (inr at)) = inr (inr (entry_of count pairs b a within at))

module _ (dl : TargetDataLayout) (law : IsLawfulDataLayout dl) where
  module _ (prefix locals : Trees) (pres ps : List Placed) (states : List (List ℕ)) (conflicts : List (ℕ × ℕ)) (before : AreLaying dl prefix (Ok pres)) (there : AreLaying dl locals (Ok ps)) (p : Placed)
      (answer : IsCoroutineOf dl pres ps states conflicts (Ok p)) where
    clash_coroutine : AreClashingLocalsApart (coroutine prefix locals states conflicts) p
    clash_coroutine =
        let found = coroutine_laid dl law pres ps states conflicts (coroutine_fault (length pres) (length ps) states conflicts) p answer in
        let asked = coroutine_asked dl law pres ps states conflicts (whole_lawful dl pres (all_whole dl law prefix pres before)) (whole_lawful dl ps (all_whole dl law locals ps there)) found.0 found.1 in
        let within = states_within (length pres) (length ps) states conflicts found.5 in
        let known = conflicts_within (length pres) (length ps) states conflicts found.5 in
        let once = states_once (length pres) (length ps) states conflicts found.5 in
        let apart = (coroutine_apart layout_of dl pres found.0 (one_scalar dl found.0) ps states (conflicts_of (length ps) conflicts) asked within (conflict_rows (length ps) conflicts) once (conflict_columns (length ps) conflicts) found.2 found.3).clash in
        subst (AreClashingLocalsApart (coroutine prefix locals states conflicts)) found.4 (λ a b o q x y differ clash here also.
        (let one = has_local ps states (variants_of found.2.variants) (source_order (length states)) within found.2 Plain a o x here in
        let other = has_local ps states (variants_of found.2.variants) (source_order (length states)) within found.2 Plain b q y also in
        apart a b o q (layout_of x) (layout_of y) differ (do_clash (length ps) states conflicts a b known clash) one.1 other.1 one.0 other.0))

    one_offset_coroutine : HaveLocalsOneOffset (coroutine prefix locals states conflicts) p
    one_offset_coroutine =
        let found = coroutine_laid dl law pres ps states conflicts (coroutine_fault (length pres) (length ps) states conflicts) p answer in
        let asked = coroutine_asked dl law pres ps states conflicts (whole_lawful dl pres (all_whole dl law prefix pres before)) (whole_lawful dl ps (all_whole dl law locals ps there)) found.0 found.1 in
        let within = states_within (length pres) (length ps) states conflicts found.5 in
        let once = states_once (length pres) (length ps) states conflicts found.5 in
        let one = (coroutine_apart layout_of dl pres found.0 (one_scalar dl found.0) ps states (conflicts_of (length ps) conflicts) asked within (conflict_rows (length ps) conflicts) once (conflict_columns (length ps) conflicts) found.2 found.3).one_offset in
        subst (HaveLocalsOneOffset (coroutine prefix locals states conflicts)) found.4 (λ local o q x y here also.
        one local o q (has_local ps states (variants_of found.2.variants) (source_order (length states)) within found.2 Plain local o x here).0
        (has_local ps states (variants_of found.2.variants) (source_order (length states)) within found.2 Plain local q y also).0)

  -- locals that clash share no byte
  pub laid_clash : (t : Tree) (p : Placed) → IsLaying dl t (Ok p) → AreClashingLocalsApart t p
  laid_clash (coroutine prefix locals states conflicts) p (inl f) = absurd (cc f.2)
  laid_clash (coroutine prefix locals states conflicts) p (inr (pres, before, inl f)) = absurd (cc f.2)
  laid_clash (coroutine prefix locals states conflicts) p (inr (pres, before, inr (ps, there, answer))) = clash_coroutine prefix locals pres ps states conflicts before there p answer
  laid_clash _ p h = tt

  -- and each lies at one offset
  pub laid_one_offset : (t : Tree) (p : Placed) → IsLaying dl t (Ok p) → HaveLocalsOneOffset t p
  laid_one_offset (coroutine prefix locals states conflicts) p (inl f) = absurd (cc f.2)
  laid_one_offset (coroutine prefix locals states conflicts) p (inr (pres, before, inl f)) = absurd (cc f.2)
  laid_one_offset (coroutine prefix locals states conflicts) p (inr (pres, before, inr (ps, there, answer))) = one_offset_coroutine prefix locals pres ps states conflicts before there p answer
  laid_one_offset _ p h = tt
