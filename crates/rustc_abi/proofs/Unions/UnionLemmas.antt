-- A union's layout keeps its values, which are its data bytes.
use Rattle.std.proofs.Common.{All, ◌≡◌, ℕ, ◌+◌, ◌<◌, ◌≤◌, Option, None, Some, List, [], ◌∷◌, length, map, replicate, arith, refl, sym, ap, ◌∙◌, subst, inl, inr}
use Rattle.std.specs.Prelude.{IfSome, MatchBool, true, false}
use Rattle.std.specs.Cmp.Derive.{both_true}
use Rattle.std.proofs.lemmas.Bool.{le-leb}
use Rattle.std.proofs.lemmas.List.{length-replicate}
use Rattle.std.proofs.lemmas.List.Elements.{All-nil, All-cons, All-head, All-tail, All-contains, All-replicate}
use Rattle.abi_base.specs.declared.data_layout.TargetDataLayout.{TargetDataLayout}
use Rattle.abi_scalar.specs.declared.backend_repr.BackendRepr.{BackendRepr}
use Rattle.abi_scalar.specs.declared.backend_repr.BackendRepr.TheVariants.{Scalar as OneScalar, ScalarPair, SimdScalableVector, SimdVector, Memory}
use Rattle.abi_scalar.specs.declared.repr.ReprOptions.{ReprOptions}
use Rattle.abi_scalar.specs.Lawful.{IsLawfulLayout}
use Rattle.abi_scalar.specs.View.{union_view}
use Rattle.abi_univariant.specs.Fields.{greatest}
use Rattle.abi_univariant.specs.Union.{CountsForView, HasView, IsUnionView, union_layout}
use Rattle.abi_tree.specs.Tree.{Tree, union, Trees, no_trees, more_trees}
use Rattle.abi_tree.specs.Bytes.{AreBytes, count_picked}
use Rattle.abi_tree.specs.Value.{Value, number, two, list, variant, state, bytes}
use Rattle.abi_tree.specs.declared.mark.Mark.{Mark}
use Rattle.abi_tree.specs.Mark.{mark_of}
use Rattle.abi_tree.specs.Placed.{Placed, Parts, part, layout_of, size_of, union as placed_union}
use Rattle.abi_scalar.specs.Layout.{Layout}
use Rattle.abi_tree.specs.Places.{is_data_place, is_place_of_part}
use Rattle.abi_tree.specs.Values.{IsValueOf, LocalsOfEach, VectorsHaveValues}
use Rattle.abi_tree.specs.Unions.{IsCommon, EachPart}
use Rattle.abi_tree.specs.Holding.{Holds}
use Rattle.abi_tree.specs.Faithful.{AgreeOn, IsFaithful, IsTrueOf}
use Rattle.abi_tree.specs.Fits.{Fits}
use Rattle.abi_tree.specs.Room.{have_room}
use Rattle.abi_tree.specs.Nodes.{parts_at_0}
use Rattle.rustc_abi.specs.Adding.{EachFits}
use Rattle.abi_tree.proofs.Bytes.PickedLemmas.{AreBytes-picked, length-picked, picked-same, spread, length-spread, AreBytes-spread, picked-spread}
use Rattle.abi_tree.proofs.Places.RoomLemmas.{within_room}
use Rattle.rustc_abi.proofs.Values.PartsLemmas.{place_here, place_later}
use Rattle.rustc_abi.proofs.Values.FieldsLemmas.{common_each, untagged_each}
use Rattle.rustc_abi.proofs.Unions.CommonLemmas.{common_field}

IfSome-none : {X : Type 0} (P : X → Type 0) (o : Option X) → o ≡ None → IfSome o P
IfSome-none P None e = tt
IfSome-none P (Some x) e = absurd (cc)

module _ (dl : TargetDataLayout) (repr : ReprOptions) (ts : Trees) (layout : Layout) (parts : Parts) where
  abbrev tree : Tree
  tree = union repr ts

  abbrev placed : Placed
  placed = placed_union layout (mark_of false repr) parts

  union_exists : (v : Value) → IsValueOf dl tree placed v → (b : List ℕ) × AreBytes b × Holds dl.endian placed b v
  union_exists (bytes content) h = (
    spread (is_data_place placed) 0 layout.size content,
    AreBytes-spread (is_data_place placed) 0 layout.size content h.0,
    (length-spread (is_data_place placed) 0 layout.size content, sym (picked-spread (is_data_place placed) 0 layout.size content h.1)),
  )
  union_exists (list vs) h = absurd h
  union_exists (number n) h = absurd h
  union_exists (two n m) h = absurd h
  union_exists (variant i vs) h = absurd h
  union_exists (state i ps vs) h = absurd h

  union_only : (b : List ℕ) (v : Value) → AreBytes b → Holds dl.endian placed b v → IsValueOf dl tree placed v
  union_only b (bytes content) are h = (
    subst AreBytes (sym h.1) (AreBytes-picked (is_data_place placed) 0 b are),
    ap length h.1 ∙ length-picked (is_data_place placed) 0 b ∙ ap (count_picked (is_data_place placed) 0) h.0,
  )
  union_only b (list vs) are h = absurd h
  union_only b (number n) are h = absurd h
  union_only b (two n m) are h = absurd h
  union_only b (variant i vs) are h = absurd h
  union_only b (state i ps vs) are h = absurd h

  union_unique : (b : List ℕ) (v w : Value) → Holds dl.endian placed b v → Holds dl.endian placed b w → v ≡ w
  union_unique b (bytes content) (bytes other) h k = ap bytes (h.1 ∙ sym k.1)
  union_unique b (bytes content) _ h k = absurd k
  union_unique b (list vs) w h k = absurd h
  union_unique b (number n) w h k = absurd h
  union_unique b (two n m) w h k = absurd h
  union_unique b (variant i vs) w h k = absurd h
  union_unique b (state i ps vs) w h k = absurd h

  union_padding : (xs ys : List ℕ) (v : Value) → length xs ≡ size_of placed → length ys ≡ size_of placed →
      AgreeOn placed xs ys → Holds dl.endian placed xs v → Holds dl.endian placed ys v
  union_padding xs ys (bytes content) ex ey agree h = (
    ey,
    h.1
        ∙ picked-same (is_data_place placed) 0 xs ys (ex ∙ sym ey)
        (λ j place. let at : 0 + j ≡ j = omega arith in agree j (subst (λ i. is_data_place placed i ≡ true) at place)),
  )
  union_padding xs ys (list vs) ex ey agree h = absurd h
  union_padding xs ys (number n) ex ey agree h = absurd h
  union_padding xs ys (two n m) ex ey agree h = absurd h
  union_padding xs ys (variant i vs) ex ey agree h = absurd h
  union_padding xs ys (state i ps vs) ex ey agree h = absurd h

  -- every union has a value
  some_value : (v : Value) × IsValueOf dl tree placed v
  some_value =
      let n = count_picked (is_data_place placed) 0 layout.size in
      (bytes (replicate n 0), (All-replicate (λ b. b < 256) n 0 (omega arith), length-replicate n 0))

  union_faithful : layout.largest_niche ≡ None → layout.uninhabited ≡ false → ((b : List ℕ) → IsTrueOf dl layout.backend_repr b) → IsFaithful dl tree placed
  union_faithful none inhabited view = record {
    exists = union_exists;
    only = union_only;
    unique = union_unique;
    niche = IfSome-none _ layout.largest_niche none;
    inside = IfSome-none _ layout.largest_niche none;
    padding = union_padding;
    view = λ b v h. view b;
    flag =
        subst (λ f. MatchBool f ((v : Value) → IsValueOf dl tree placed v → ⊥) (VectorsHaveValues dl tree → (v : Value) × IsValueOf dl tree placed v)) (sym inhabited)
        (λ _. some_value);
  }

-- a view that holds any numbers is true of any bytes
any_true : (dl : TargetDataLayout) (view : BackendRepr) (b : List ℕ) → IsTrueOf dl (union_view view) b
any_true dl (OneScalar s) b = tt
any_true dl (ScalarPair s t offset) b = (tt, tt)
any_true dl (SimdScalableVector s count vectors) b = tt
any_true dl (SimdVector s count) b = tt
any_true dl (Memory sized) b = tt

union_view_true : (dl : TargetDataLayout) (repr : ReprOptions) (ls : List Layout) (view : BackendRepr) → IsUnionView dl repr ls view → (b : List ℕ) → IsTrueOf dl view b
union_view_true dl repr ls view (inl keeps) b =
    let common = keeps.common.1 in
    let l : Layout = common.some.0 in
    let has = All-contains (λ l. CountsForView l → HasView view keeps.common.0 l) ls l common.all common.some.1 common.some.2 in
    subst (λ view. IsTrueOf dl view b) has.0 (any_true dl l.backend_repr b)
union_view_true dl repr ls view (inr memory) b = subst (λ view. IsTrueOf dl view b) (sym memory.0) tt

-- no size is above the greatest
pub below_greatest : (ps : List Placed) (top : ℕ) → greatest (map (λ l. l.size) (map layout_of ps)) ≤ top → All (λ p. size_of p ≤ top) ps
below_greatest [] top le = All-nil (λ p. size_of p ≤ top)
below_greatest (p ∷ ps) top le = All-cons (λ p. size_of p ≤ top) p ps (omega arith) (below_greatest ps top (omega arith))

room_together : (dl : TargetDataLayout) (size : ℕ) (ts : Trees) (ps : List Placed) → EachFits dl ts ps → All (λ p. size_of p ≤ size) ps → have_room size (parts_at_0 ps) ≡ true
room_together dl size no_trees [] fits below = refl
room_together dl size no_trees (p ∷ ps) fits below = absurd fits
room_together dl size (more_trees t ts) [] fits below = absurd fits
room_together dl size (more_trees t ts) (p ∷ ps) fits below =
    let here : 0 + size_of p ≤ size = omega (arith, All-head (λ p. size_of p ≤ size) p ps below) in
    both_true (both_true (le-leb (0 + size_of p) size here) (Fits.room fits.0)) (room_together dl size ts ps fits.1 (All-tail (λ p. size_of p ≤ size) p ps below))

-- byte lists that hold one value of the union hold the same values of each field
each_common : (dl : TargetDataLayout) (layout : Layout) (mark : Mark) (all : Parts) (ts : Trees) (ps : List Placed) →
    ((j : ℕ) → is_place_of_part (parts_at_0 ps) j ≡ true → is_place_of_part all j ≡ true) → EachFits dl ts ps → LocalsOfEach dl ts →
    EachPart (λ field. IsCommon dl.endian field (placed_union layout mark all)) (parts_at_0 ps)
each_common dl layout mark all ts [] place fits locals = tt
each_common dl layout mark all no_trees (p ∷ ps) place fits locals = absurd fits
each_common dl layout mark all (more_trees t ts) (p ∷ ps) place fits locals = (
  common_field dl layout mark all p
      (λ j there. place j (let at : 0 + j ≡ j = omega arith in subst (λ i. is_place_of_part (part 0 p (parts_at_0 ps)) i ≡ true) at (place_here dl 0 p (parts_at_0 ps) j there)))
      (IsFaithful.padding (Fits.faithful fits.0 locals.0)),
  each_common dl layout mark all ts ps (λ j there. place j (place_later dl 0 p (parts_at_0 ps) j there)) fits.1 locals.1,
)

-- a union's layout
pub Fits-union : (dl : TargetDataLayout) (repr : ReprOptions) (ts : Trees) (layout : Layout) (ps : List Placed) → EachFits dl ts ps →
    IsUnionView dl repr (map layout_of ps) layout.backend_repr → layout ≡ union_layout 0 dl repr (map layout_of ps) layout.backend_repr → IsLawfulLayout dl layout →
    Fits dl (union repr ts) (placed_union layout (mark_of false repr) (parts_at_0 ps))
Fits-union dl repr ts layout ps fits view made lawful =
    let size : greatest (map (λ l. l.size) (map layout_of ps)) ≤ layout.size = omega (arith, ap (λ l. l.size) made) in
    let room = room_together dl layout.size ts ps fits (below_greatest ps layout.size size) in
    record {
      faithful = λ locals. union_faithful dl repr ts layout (parts_at_0 ps) (ap (λ l. l.largest_niche) made) (ap (λ l. l.uninhabited) made) (union_view_true dl repr (map layout_of ps) layout.backend_repr view);
      lawful = lawful;
      room = room;
      within = λ k place. within_room (placed_union layout (mark_of false repr) (parts_at_0 ps)) k room place;
      common = λ locals. (each_common dl layout (mark_of false repr) (parts_at_0 ps) ts ps (λ j place. place) fits locals, common_each dl ts (map (λ p. 0) ps) ps fits locals);
      untagged = untagged_each dl ts (map (λ p. 0) ps) ps fits;
    }
