-- The places of a coroutine: prefix fields, tag and locals that the calculator lays apart fit together, inside the whole.
use Rattle.std.proofs.Common.{◌≡◌, ℕ, zero, suc, ◌+◌, ◌≤◌, ◌<◌, ◌⊎◌, ⊎_elim, inl, inr, List, [], ◌∷◌, ◌++◌, map, length, All, arith, refl, ap}
use Rattle.std.specs.Prelude.{true, ⊤}
use Rattle.std.specs.List.{range_with_len}
use Rattle.std.specs.Cmp.Derive.{both_true}
use Rattle.std.proofs.lemmas.List.Elements.{All-head, All-tail}
use Rattle.abi_base.specs.declared.data_layout.TargetDataLayout.{TargetDataLayout}
use Rattle.abi_scalar.specs.declared.variants.VariantLayout.{VariantLayout}
use Rattle.abi_scalar.specs.Variant.{variant_layout}
use Rattle.abi_univariant.specs.Apart.{AreApart, IsBeside}
use Rattle.abi_tree.specs.Tree.{Trees, no_trees, more_trees}
use Rattle.abi_tree.specs.declared.mark.Mark.TheVariants.{Plain}
use Rattle.abi_tree.specs.Placed.{Placed, TaggedVariants, nothing_tagged, tagged_variant, size_of}
use Rattle.abi_scalar.specs.Layout.{Layout}
use Rattle.abi_tree.specs.Values.{LocalsHaveValues, LocalsOfEach}
use Rattle.abi_tree.specs.Room.{tagged_variants_have_room}
use Rattle.abi_tree.specs.Fits.{Fits}
use Rattle.abi_tree.specs.Unions.{IsCommon, InUnionsOfTaggedVariants}
use Rattle.abi_tree.specs.Untagged.{UntaggedNamedOfTaggedVariants}
use Rattle.abi_tree.specs.Nodes.{parts_at, placed_in}
use Rattle.rustc_abi.specs.Enums.{tagged_variants_at}
use Rattle.rustc_abi.specs.Adding.{EachFits}
use Rattle.rustc_abi.proofs.Values.PartsLemmas.{LieBeside}
use Rattle.rustc_abi.proofs.Values.FieldsLemmas.{beside_parts, common_each, room_of, together, untagged_each}
use Rattle.rustc_abi.proofs.Coroutines.StateTaggedVariantsLemmas.{AreBeside, StateTaggedVariantsFit, picked_trees, tree_at}

-- ---- what the calculator lays apart

-- the types that the indices name
abbrev pub picked_types : List Placed → (indices : List ℕ) → List Placed
picked_types ps ks = map (placed_in ps) ks

-- states beside a tag: each has its index, counted from the first one's on, the layout that it has as a type of its own, and
-- its locals at the offsets of its layout
abbrev pub state_tagged_variants : (whole : Layout) → List (VariantLayout ℕ) → (locals : List Placed) → (from : ℕ) → List (List ℕ)
    → TaggedVariants
state_tagged_variants whole (l ∷ layouts) ps from (ks ∷ all) =
    tagged_variant from (variant_layout whole from l) Plain (parts_at l.field_offsets (picked_types ps ks))
    (state_tagged_variants whole layouts ps (from + 1) all)
state_tagged_variants whole _ ps from _ = nothing_tagged

-- they are the variants with the indices as numbers
pub state_tagged_variants_at : (whole : Layout) (layouts : List (VariantLayout ℕ)) (ps : List Placed) (from : ℕ) (all : List (List ℕ))
    → tagged_variants_at whole Plain from layouts (range_with_len from (length all)) (map (picked_types ps) all)
    ≡ state_tagged_variants whole layouts ps from all
state_tagged_variants_at whole [] ps from all = refl
state_tagged_variants_at whole (l ∷ layouts) ps from [] = refl
state_tagged_variants_at whole (l ∷ layouts) ps from (ks ∷ all) =
    ap (tagged_variant from (variant_layout whole from l) Plain (parts_at l.field_offsets (picked_types ps ks)))
    (state_tagged_variants_at whole layouts ps (from + 1) all)

-- the shared fields and the locals of each state share no byte and end inside the size
abbrev pub EachStateApart : (size : ℕ) → (offsets sizes : List ℕ) → (locals : List Placed) → List (List ℕ) → List (VariantLayout ℕ) → Type 0
EachStateApart size offsets sizes ps [] [] = ⊤
EachStateApart size offsets sizes ps (ks ∷ all) (l ∷ layouts) =
    AreApart size (offsets ++ l.field_offsets) (sizes ++ map size_of (picked_types ps ks)) × EachStateApart size offsets sizes ps all layouts
EachStateApart size offsets sizes ps _ _ = ⊥

-- prefix fields, a tag of w bytes at an offset, and locals at their offsets
module _ (o w : ℕ) (bs : List ℕ) (qs : List Placed) where
  abbrev places : List ℕ → List ℕ
  places starts = (starts ++ o ∷ []) ++ bs

  abbrev sizes : List Placed → List ℕ
  sizes pres = (map size_of pres ++ w ∷ []) ++ map size_of qs

  beside_first : (x n : ℕ) (starts : List ℕ) (pres : List Placed) → length starts ≡ length pres → IsBeside x n (places starts) (sizes pres) → IsBeside x n starts (map size_of pres)
  beside_first x n [] [] same h = tt
  beside_first x n [] (p ∷ pres) same h = absurd (omega (arith, same))
  beside_first x n (a ∷ starts) [] same h = absurd (omega (arith, same))
  beside_first x n (a ∷ starts) (p ∷ pres) same h = (h.0, beside_first x n starts pres (omega (arith, same)) h.1)

  beside_last : (x n : ℕ) (starts : List ℕ) (pres : List Placed) → length starts ≡ length pres → IsBeside x n (places starts) (sizes pres) →
      ((x + n ≤ o) ⊎ (o + w ≤ x)) × IsBeside x n bs (map size_of qs)
  beside_last x n [] [] same h = h
  beside_last x n [] (p ∷ pres) same h = absurd (omega (arith, same))
  beside_last x n (a ∷ starts) [] same h = absurd (omega (arith, same))
  beside_last x n (a ∷ starts) (p ∷ pres) same h = beside_last x n starts pres (omega (arith, same)) h.1

  -- the prefix fields lie apart
  apart_first : (size : ℕ) (starts : List ℕ) (pres : List Placed) → length starts ≡ length pres → AreApart size (places starts) (sizes pres) → AreApart size starts (map size_of pres)
  apart_first size [] [] same h = tt
  apart_first size [] (p ∷ pres) same h = absurd (omega (arith, same))
  apart_first size (a ∷ starts) [] same h = absurd (omega (arith, same))
  apart_first size (a ∷ starts) (p ∷ pres) same h =
      let rest : length starts ≡ length pres = omega (arith, same) in
      (h.0, beside_first a (size_of p) starts pres rest h.1, apart_first size starts pres rest h.2)

  -- the tag ends inside, and the locals lie apart, beside the tag
  apart_last : (size : ℕ) (starts : List ℕ) (pres : List Placed) → length starts ≡ length pres → AreApart size (places starts) (sizes pres) →
      (o + w ≤ size) × IsBeside o w bs (map size_of qs) × AreApart size bs (map size_of qs)
  apart_last size [] [] same h = h
  apart_last size [] (p ∷ pres) same h = absurd (omega (arith, same))
  apart_last size (a ∷ starts) [] same h = absurd (omega (arith, same))
  apart_last size (a ∷ starts) (p ∷ pres) same h = apart_last size starts pres (omega (arith, same)) h.2

  -- the prefix fields lie beside the tag
  beside_tag : (size : ℕ) (starts : List ℕ) (pres : List Placed) → length starts ≡ length pres → AreApart size (places starts) (sizes pres) → LieBeside o w (parts_at starts pres)
  beside_tag size [] [] same h = tt
  beside_tag size [] (p ∷ pres) same h = absurd (omega (arith, same))
  beside_tag size (a ∷ starts) [] same h = absurd (omega (arith, same))
  beside_tag size (a ∷ starts) (p ∷ pres) same h =
      let rest : length starts ≡ length pres = omega (arith, same) in
      let here = beside_last a (size_of p) starts pres rest h.1 in
      (⊎_elim (λ before. inr before) (λ after. inl after) here.0, beside_tag size starts pres rest h.2)

  -- and beside the locals
  beside_locals : (size : ℕ) (starts : List ℕ) (pres : List Placed) → length starts ≡ length pres → AreApart size (places starts) (sizes pres) → AreBeside (parts_at starts pres) (parts_at bs qs)
  beside_locals size [] [] same h = tt
  beside_locals size [] (p ∷ pres) same h = absurd (omega (arith, same))
  beside_locals size (a ∷ starts) [] same h = absurd (omega (arith, same))
  beside_locals size (a ∷ starts) (p ∷ pres) same h =
      let rest : length starts ≡ length pres = omega (arith, same) in
      let here = beside_last a (size_of p) starts pres rest h.1 in
      (beside_parts a (size_of p) bs qs here.1, beside_locals size starts pres rest h.2)

-- ---- the locals of a state

module _ (dl : TargetDataLayout) where
  -- the type at an index fits
  fit_at : (ts : Trees) (ps : List Placed) (k : ℕ) → EachFits dl ts ps → k < length ps → Fits dl (tree_at ts k) (placed_in ps k)
  fit_at no_trees [] k fits below = absurd (omega (arith, below))
  fit_at no_trees (p ∷ ps) k fits below = absurd fits
  fit_at (more_trees t ts) [] k fits below = absurd fits
  fit_at (more_trees t ts) (p ∷ ps) zero fits below = fits.0
  fit_at (more_trees t ts) (p ∷ ps) (suc k) fits below = fit_at ts ps k fits.1 (omega (arith, below))

  -- so do the types at each of these indices
  fits_picked : (ts : Trees) (ps : List Placed) → EachFits dl ts ps → (ks : List ℕ) → All (λ k. k < length ps) ks → EachFits dl (picked_trees ts ks) (picked_types ps ks)
  fits_picked ts ps fits [] known = tt
  fits_picked ts ps fits (k ∷ ks) known =
      (fit_at ts ps k fits (All-head (λ i. i < length ps) k ks known), fits_picked ts ps fits ks (All-tail (λ i. i < length ps) k ks known))

  locals_of : (ts : Trees) (k : ℕ) → LocalsOfEach dl ts → LocalsHaveValues dl (tree_at ts k)
  locals_of no_trees k locals = tt
  locals_of (more_trees t ts) zero locals = locals.0
  locals_of (more_trees t ts) (suc k) locals = locals_of ts k locals.1

  locals_picked : (ts : Trees) (ks : List ℕ) → LocalsOfEach dl ts → LocalsOfEach dl (picked_trees ts ks)
  locals_picked ts [] locals = tt
  locals_picked ts (k ∷ ks) locals = (locals_of ts k locals, locals_picked ts ks locals)

  module _ (whole : Layout) (size o w : ℕ) (starts : List ℕ) (pres : List Placed) (same : length starts ≡ length pres) (ts : Trees) (ps : List Placed) (fits : EachFits dl ts ps) where
    abbrev Apart : List (List ℕ) → List (VariantLayout ℕ) → Type 0
    Apart all layouts = EachStateApart size (starts ++ o ∷ []) (map size_of pres ++ w ∷ []) ps all layouts

    abbrev Known : List (List ℕ) → Type 0
    Known all = All (All (λ k. k < length ps)) all

    -- locals that lie apart fit together, beside the tag and the prefix fields
    pub state_tagged_variants_fit : (from : ℕ) (all : List (List ℕ)) (layouts : List (VariantLayout ℕ)) → Apart all layouts → Known all → LocalsOfEach dl ts →
        StateTaggedVariantsFit dl size o w (parts_at starts pres) ts from all (state_tagged_variants whole layouts ps from all)
    state_tagged_variants_fit from [] [] apart known locals = tt
    state_tagged_variants_fit from [] (l ∷ layouts) apart known locals = absurd apart
    state_tagged_variants_fit from (ks ∷ all) [] apart known locals = absurd apart
    state_tagged_variants_fit from (ks ∷ all) (l ∷ layouts) apart known locals =
        let qs : List Placed = picked_types ps ks in
        let last = apart_last o w l.field_offsets qs size starts pres same apart.0 in
        let own = fits_picked ts ps fits ks (All-head (All (λ k. k < length ps)) ks all known) in (
          refl,
          together dl size (picked_trees ts ks) l.field_offsets qs last.2 own (locals_picked ts ks locals),
          beside_parts o w l.field_offsets qs last.1,
          beside_locals o w l.field_offsets qs size starts pres same apart.0,
          state_tagged_variants_fit (from + 1) all layouts apart.1 (All-tail (All (λ k. k < length ps)) ks all known) locals,
        )

    -- each local of each state ends inside the size
    pub state_tagged_variants_room : (from : ℕ) (all : List (List ℕ)) (layouts : List (VariantLayout ℕ)) → Apart all layouts → Known all → tagged_variants_have_room size (state_tagged_variants whole layouts ps from all) ≡ true
    state_tagged_variants_room from [] [] apart known = refl
    state_tagged_variants_room from [] (l ∷ layouts) apart known = absurd apart
    state_tagged_variants_room from (ks ∷ all) [] apart known = absurd apart
    state_tagged_variants_room from (ks ∷ all) (l ∷ layouts) apart known =
        let qs : List Placed = picked_types ps ks in
        both_true
        (room_of dl size (picked_trees ts ks) l.field_offsets qs (apart_last o w l.field_offsets qs size starts pres same apart.0).2
        (fits_picked ts ps fits ks (All-head (All (λ k. k < length ps)) ks all known)))
        (state_tagged_variants_room (from + 1) all layouts apart.1 (All-tail (All (λ k. k < length ps)) ks all known))

    -- what each local keeps in its unions
    pub state_tagged_variants_common : (from : ℕ) (all : List (List ℕ)) (layouts : List (VariantLayout ℕ)) → Known all → LocalsOfEach dl ts →
        InUnionsOfTaggedVariants (IsCommon dl.endian) (state_tagged_variants whole layouts ps from all)
    state_tagged_variants_common from [] [] known locals = tt
    state_tagged_variants_common from [] (l ∷ layouts) known locals = tt
    state_tagged_variants_common from (ks ∷ all) [] known locals = tt
    state_tagged_variants_common from (ks ∷ all) (l ∷ layouts) known locals = (
      common_each dl (picked_trees ts ks) l.field_offsets (picked_types ps ks) (fits_picked ts ps fits ks (All-head (All (λ k. k < length ps)) ks all known)) (locals_picked ts ks locals),
      state_tagged_variants_common (from + 1) all layouts (All-tail (All (λ k. k < length ps)) ks all known) locals,
    )

    -- the untagged variants in each local name themselves
    pub state_tagged_variants_untagged : (from : ℕ) (all : List (List ℕ)) (layouts : List (VariantLayout ℕ)) → Known all → LocalsOfEach dl ts →
        UntaggedNamedOfTaggedVariants dl.endian (state_tagged_variants whole layouts ps from all)
    state_tagged_variants_untagged from [] [] known locals = tt
    state_tagged_variants_untagged from [] (l ∷ layouts) known locals = tt
    state_tagged_variants_untagged from (ks ∷ all) [] known locals = tt
    state_tagged_variants_untagged from (ks ∷ all) (l ∷ layouts) known locals = (
      untagged_each dl (picked_trees ts ks) l.field_offsets (picked_types ps ks) (fits_picked ts ps fits ks (All-head (All (λ k. k < length ps)) ks all known)) (locals_picked ts ks locals),
      state_tagged_variants_untagged (from + 1) all layouts (All-tail (All (λ k. k < length ps)) ks all known) locals,
    )

    -- where there is a state, the prefix fields lie apart, and beside the tag, which ends inside
    pub shared_apart : (all : List (List ℕ)) (layouts : List (VariantLayout ℕ)) → 0 < length all → Apart all layouts →
        AreApart size starts (map size_of pres) × LieBeside o w (parts_at starts pres) × (o + w ≤ size)
    shared_apart [] layouts some apart = absurd (omega (arith, some))
    shared_apart (ks ∷ all) [] some apart = absurd apart
    shared_apart (ks ∷ all) (l ∷ layouts) some apart =
        let qs : List Placed = picked_types ps ks in (
          apart_first o w l.field_offsets qs size starts pres same apart.0,
          beside_tag o w l.field_offsets qs size starts pres same apart.0,
          (apart_last o w l.field_offsets qs size starts pres same apart.0).0,
        )
