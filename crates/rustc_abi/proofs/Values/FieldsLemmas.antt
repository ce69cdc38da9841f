-- A struct's layout keeps its fields' values.
use Rattle.std.proofs.Common.{false, All, suc, ◌≡◌, ℕ, ◌+◌, ◌≤◌, ◌⊎◌, ⊎_elim, inl, inr, Option, Some, None, List, [], ◌∷◌, length, map, arith, refl, sym, ap, ◌∙◌}
use Rattle.std.specs.Prelude.{IfSome, true, Bool}
use Rattle.std.specs.Cmp.Derive.{both_true}
use Rattle.std.proofs.lemmas.Bool.{le-leb}
use Rattle.std.proofs.lemmas.Option.{IfSome_then}
use Rattle.abi_tree.specs.Room.{have_room}
use Rattle.abi_base.specs.declared.data_layout.TargetDataLayout.{TargetDataLayout}
use Rattle.abi_scalar.specs.declared.repr.ReprOptions.{ReprOptions}
use Rattle.abi_scalar.specs.declared.niche.Niche.{Niche}
use Rattle.abi_scalar.specs.Range.{IsIn}
use Rattle.abi_scalar.specs.Niche.{niche_size}
use Rattle.abi_scalar.specs.Lawful.{IsLawfulLayout}
use Rattle.abi_univariant.specs.Apart.{AreApart, IsBeside}
use Rattle.abi_univariant.specs.ListNiche as calc
use Rattle.abi_tree.specs.Tree.{Tree, struct, Trees, no_trees, more_trees}
use Rattle.abi_tree.specs.Bytes.{AreBytes, bytes_at, number_of}
use Rattle.abi_tree.specs.Value.{Value, list, Values, no_values, more_values}
use Rattle.abi_tree.specs.Mark.{mark_of}
use Rattle.abi_tree.specs.Placed.{Placed, Parts, no_parts, part, layout_of, size_of, niche_of, fields}
use Rattle.abi_scalar.specs.Layout.{Layout}
use Rattle.abi_tree.specs.Values.{IsValueOf, LocalsOfEach}
use Rattle.abi_tree.specs.Holding.{Holds, HoldParts}
use Rattle.abi_tree.specs.Faithful.{AgreeOn, IsFaithful, IsFlagTrue, IsTrueOf}
use Rattle.abi_tree.specs.Fits.{Fits}
use Rattle.abi_tree.specs.Unions.{IsCommon, InUnionsOf}
use Rattle.abi_tree.specs.Untagged.{UntaggedNamedOf}
use Rattle.abi_tree.specs.Nodes.{parts_at}
use Rattle.rustc_abi.specs.Adding.{EachFits}
use Rattle.std.specs.List.{list_any}
use Rattle.abi_univariant.specs.ListView.{list_view}
use Rattle.abi_univariant.specs.Part.{parts_of}
use Rattle.rustc_abi.proofs.Values.FlagLemmas.{flag-fields}
use Rattle.rustc_abi.proofs.Values.ViewLemmas.{part_true, list_view_true}
use Rattle.abi_tree.proofs.Bytes.HoldLemmas.{IsNicheAt, niche_in_part, niche_in_whole}
use Rattle.rustc_abi.proofs.Values.PartsLemmas.{LieBeside, FitTogether, LieInside, exist, only, unique, padding, within_parts}

-- the niche is some part's
abbrev pub IsPartNiche : Parts → Niche → Type 0
IsPartNiche no_parts n = ⊥
IsPartNiche (part o placed parts) n = IsNicheAt o placed n ⊎ IsPartNiche parts n

niche_at : (o : ℕ) (placed : Placed) (own : Option Niche) → niche_of placed ≡ own → (n : Niche) → calc.IsNicheAt o own n → IsNicheAt o placed n
niche_at o placed None e n h = absurd h
niche_at o placed (Some own) e n h = record { own = own; of_part = e; offset_is = h.0; value_is = h.1; range_is = h.2 }

-- the niche of one of the listed layouts is some part's
pub part_of_list : (offsets : List ℕ) (ps : List Placed) (n : Niche) → calc.IsNicheOfPart offsets (map layout_of ps) n → IsPartNiche (parts_at offsets ps) n
part_of_list [] ps n h = absurd h
part_of_list (o ∷ offsets) [] n h = absurd h
part_of_list (o ∷ offsets) (p ∷ ps) n h = ⊎_elim (λ here. inl (niche_at o p (niche_of p) refl n here)) (λ later. inr (part_of_list offsets ps n later)) h

pub part_niche : (dl : TargetDataLayout) (size : ℕ) (ts : Trees) (parts : Parts) → FitTogether dl size ts parts → (n : Niche) → IsPartNiche parts n →
    (b : List ℕ) (vs : Values) → HoldParts dl.endian parts b vs → IsIn (niche_size dl n) n.valid_range (number_of dl.endian (bytes_at b n.offset (niche_size dl n)))
part_niche dl size no_trees no_parts fit n has b vs h = absurd has
part_niche dl size no_trees (part o placed parts) fit n has b vs h = absurd fit
part_niche dl size (more_trees t ts) no_parts fit n has b vs h = absurd fit
part_niche dl size (more_trees t ts) (part o placed parts) fit n has b no_values h = absurd h
part_niche dl size (more_trees t ts) (part o placed parts) fit n has b (more_values v vs) h =
    ⊎_elim
    (λ here. niche_in_whole dl placed o n here (IsFaithful.inside fit.2) (IsFaithful.niche fit.2) b v h.0.1)
    (λ later. part_niche dl size ts parts fit.3 n later b vs h.1)
    has

pub part_niche_inside : (dl : TargetDataLayout) (size : ℕ) (ts : Trees) (parts : Parts) → FitTogether dl size ts parts → (n : Niche) → IsPartNiche parts n → n.offset + niche_size dl n ≤ size
part_niche_inside dl size no_trees no_parts fit n has = absurd has
part_niche_inside dl size no_trees (part o placed parts) fit n has = absurd fit
part_niche_inside dl size (more_trees t ts) no_parts fit n has = absurd fit
part_niche_inside dl size (more_trees t ts) (part o placed parts) fit n has =
    ⊎_elim
    (λ here. omega (arith, fit.0, niche_in_part dl placed o n here (IsFaithful.inside fit.2)))
    (part_niche_inside dl size ts parts fit.3 n)
    has

module _ (dl : TargetDataLayout) (repr : ReprOptions) (always_sized : Bool) (order : Option (List ℕ)) (ts : Trees) (layout : Layout) (parts : Parts)
    (fit : FitTogether dl layout.size ts parts) (niche : IfSome layout.largest_niche (IsPartNiche parts))
    (view : (b : List ℕ) (vs : Values) → HoldParts dl.endian parts b vs → IsTrueOf dl layout.backend_repr b)
    (flag : IsFlagTrue dl (struct repr always_sized order ts) (fields layout (mark_of false repr) parts)) where
  abbrev tree : Tree
  tree = struct repr always_sized order ts

  abbrev placed : Placed
  placed = fields layout (mark_of false repr) parts

  struct_exists : (v : Value) → IsValueOf dl tree placed v → (b : List ℕ) × AreBytes b × Holds dl.endian placed b v
  struct_exists (list vs) h = let found = exist dl layout.size ts parts fit vs h in (found.0, found.2, (found.1, found.3))
  struct_exists _ h = absurd h

  struct_only : (b : List ℕ) (v : Value) → AreBytes b → Holds dl.endian placed b v → IsValueOf dl tree placed v
  struct_only b (list vs) are h = only dl layout.size ts parts fit b vs are h.1
  struct_only b _ are h = absurd h

  struct_unique : (b : List ℕ) (v w : Value) → Holds dl.endian placed b v → Holds dl.endian placed b w → v ≡ w
  struct_unique b (list vs) (list ws) h k = ap list (unique dl layout.size ts parts fit b vs ws h.1 k.1)
  struct_unique b (list vs) _ h k = absurd k
  struct_unique b _ w h k = absurd h

  struct_niche : (n : Niche) → IsPartNiche parts n → (b : List ℕ) (v : Value) → Holds dl.endian placed b v →
      IsIn (niche_size dl n) n.valid_range (number_of dl.endian (bytes_at b n.offset (niche_size dl n)))
  struct_niche n has b (list vs) h = part_niche dl layout.size ts parts fit n has b vs h.1
  struct_niche n has b _ h = absurd h

  struct_padding : (xs ys : List ℕ) (v : Value) → length xs ≡ size_of placed → length ys ≡ size_of placed →
      AgreeOn placed xs ys → Holds dl.endian placed xs v → Holds dl.endian placed ys v
  struct_padding xs ys (list vs) ex ey agree h = (ey, padding dl layout.size ts parts fit xs ys vs (ex ∙ sym ey) agree h.1)
  struct_padding xs ys _ ex ey agree h = absurd h

  struct_view : (b : List ℕ) (v : Value) → Holds dl.endian placed b v → IsTrueOf dl layout.backend_repr b
  struct_view b (list vs) h = view b vs h.1
  struct_view b _ h = absurd h

  struct_faithful : IsFaithful dl tree placed
  struct_faithful = record {
    exists = struct_exists;
    only = struct_only;
    unique = struct_unique;
    niche = IfSome_then layout.largest_niche niche struct_niche;
    inside = IfSome_then layout.largest_niche niche (part_niche_inside dl layout.size ts parts fit);
    padding = struct_padding;
    view = struct_view;
    flag = flag;
  }

-- what lies beside the places lies beside the parts
pub beside_parts : (o n : ℕ) (offsets : List ℕ) (ps : List Placed) → IsBeside o n offsets (map size_of ps) → LieBeside o n (parts_at offsets ps)
beside_parts o n [] [] h = tt
beside_parts o n [] (p ∷ ps) h = absurd h
beside_parts o n (q ∷ offsets) [] h = absurd h
beside_parts o n (q ∷ offsets) (p ∷ ps) h = (h.0, beside_parts o n offsets ps h.1)

-- types that fit, at places apart, fit together
pub together : (dl : TargetDataLayout) (size : ℕ) (ts : Trees) (offsets : List ℕ) (ps : List Placed) → AreApart size offsets (map size_of ps) →
    EachFits dl ts ps → LocalsOfEach dl ts → FitTogether dl size ts (parts_at offsets ps)
together dl size no_trees [] [] apart fits locals = tt
together dl size no_trees (o ∷ offsets) [] apart fits locals = absurd apart
together dl size no_trees offsets (p ∷ ps) apart fits locals = absurd fits
together dl size (more_trees t ts) offsets [] apart fits locals = absurd fits
together dl size (more_trees t ts) [] (p ∷ ps) apart fits locals = absurd apart
together dl size (more_trees t ts) (o ∷ offsets) (p ∷ ps) apart fits locals = (
  apart.0,
  beside_parts o (size_of p) offsets ps apart.1,
  Fits.faithful fits.0 locals.0,
  together dl size ts offsets ps apart.2 fits.1 locals.1,
)

inside : (dl : TargetDataLayout) (size : ℕ) (ts : Trees) (offsets : List ℕ) (ps : List Placed) → AreApart size offsets (map size_of ps) →
    EachFits dl ts ps → LieInside size (parts_at offsets ps)
inside dl size no_trees [] [] apart fits = tt
inside dl size no_trees (o ∷ offsets) [] apart fits = absurd apart
inside dl size no_trees offsets (p ∷ ps) apart fits = absurd fits
inside dl size (more_trees t ts) offsets [] apart fits = absurd fits
inside dl size (more_trees t ts) [] (p ∷ ps) apart fits = absurd apart
inside dl size (more_trees t ts) (o ∷ offsets) (p ∷ ps) apart fits = (apart.0, Fits.within fits.0, inside dl size ts offsets ps apart.2 fits.1)

pub room_of : (dl : TargetDataLayout) (size : ℕ) (ts : Trees) (offsets : List ℕ) (ps : List Placed) → AreApart size offsets (map size_of ps) →
    EachFits dl ts ps → have_room size (parts_at offsets ps) ≡ true
room_of dl size no_trees [] [] apart fits = refl
room_of dl size no_trees (o ∷ offsets) [] apart fits = absurd apart
room_of dl size no_trees offsets (p ∷ ps) apart fits = absurd fits
room_of dl size (more_trees t ts) offsets [] apart fits = absurd fits
room_of dl size (more_trees t ts) [] (p ∷ ps) apart fits = absurd apart
room_of dl size (more_trees t ts) (o ∷ offsets) (p ∷ ps) apart fits =
    both_true (both_true (le-leb (o + size_of p) size apart.0) (Fits.room fits.0)) (room_of dl size ts offsets ps apart.2 fits.1)

lengths_together : (size : ℕ) (offsets : List ℕ) (ps : List Placed) → AreApart size offsets (map size_of ps) → length offsets ≡ length ps
lengths_together size [] [] apart = refl
lengths_together size (o ∷ offsets) [] apart = absurd apart
lengths_together size [] (p ∷ ps) apart = absurd apart
lengths_together size (o ∷ offsets) (p ∷ ps) apart = ap suc (lengths_together size offsets ps apart.2)

-- what each type keeps in its unions
pub common_each : (dl : TargetDataLayout) (ts : Trees) (offsets : List ℕ) (ps : List Placed) → EachFits dl ts ps → LocalsOfEach dl ts → InUnionsOf (IsCommon dl.endian) (parts_at offsets ps)
common_each dl ts [] ps fits locals = tt
common_each dl ts (o ∷ offsets) [] fits locals = tt
common_each dl no_trees (o ∷ offsets) (p ∷ ps) fits locals = absurd fits
common_each dl (more_trees t ts) (o ∷ offsets) (p ∷ ps) fits locals = (Fits.common fits.0 locals.0, common_each dl ts offsets ps fits.1 locals.1)

-- the untagged variants in each type name themselves
pub untagged_each : (dl : TargetDataLayout) (ts : Trees) (offsets : List ℕ) (ps : List Placed) → EachFits dl ts ps → LocalsOfEach dl ts → UntaggedNamedOf dl.endian (parts_at offsets ps)
untagged_each dl ts [] ps fits locals = tt
untagged_each dl ts (o ∷ offsets) [] fits locals = tt
untagged_each dl no_trees (o ∷ offsets) (p ∷ ps) fits locals = absurd fits
untagged_each dl (more_trees t ts) (o ∷ offsets) (p ∷ ps) fits locals = (Fits.untagged fits.0 locals.0, untagged_each dl ts offsets ps fits.1 locals.1)

-- a layout of fields, wherever they lie
pub Fits-fields : (dl : TargetDataLayout) (repr : ReprOptions) (always_sized fixed : Bool) (order : Option (List ℕ)) (ts : Trees) (layout : Layout) (offsets : List ℕ) (ps : List Placed) →
    EachFits dl ts ps → AreApart layout.size offsets (map size_of ps) → IfSome layout.largest_niche (IsPartNiche (parts_at offsets ps)) →
    layout.backend_repr ≡ list_view dl fixed layout.size layout.align.abi (parts_of dl (map layout_of ps)) offsets →
    layout.uninhabited ≡ list_any (λ f. f.uninhabited) (map layout_of ps) → All (λ p. IsLawfulLayout dl (layout_of p)) ps → IsLawfulLayout dl layout →
    Fits dl (struct repr always_sized order ts) (fields layout (mark_of false repr) (parts_at offsets ps))
Fits-fields dl repr always_sized fixed order ts layout offsets ps fits apart niche view flag each lawful = record {
  faithful = λ locals.
      let fit = together dl layout.size ts offsets ps apart fits locals in
      struct_faithful dl repr always_sized order ts layout (parts_at offsets ps) fit niche
      (λ b vs h. rw view (list_view_true dl b offsets ps each (part_true dl layout.size ts offsets ps fit (lengths_together layout.size offsets ps apart) b vs h) fixed layout.size layout.align.abi))
      (flag-fields dl repr always_sized order ts layout offsets ps flag apart fits locals);
  lawful = lawful;
  room = room_of dl layout.size ts offsets ps apart fits;
  within = within_parts layout.size (parts_at offsets ps) (inside dl layout.size ts offsets ps apart fits);
  common = common_each dl ts offsets ps fits;
  untagged = untagged_each dl ts offsets ps fits;
}
