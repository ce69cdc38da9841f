-- A vector's layout keeps its lanes' values, as the array of the lanes does.
use Rattle.std.proofs.Common.{◌≡◌, ℕ, ◌+◌, ◌<◌, ◌≤◌, List, length, replicate, get_or, Bool, false, arith, refl, sym, ap, ◌∙◌, subst, Option, None, Some}
use Rattle.std.specs.Prelude.{IfSome, MatchBool}
use Rattle.std.specs.Cmp.Derive.{both_true}
use Rattle.std.proofs.lemmas.Bool.{le-leb}
use Rattle.std.proofs.lemmas.List.{length-replicate}
use Rattle.std.proofs.lemmas.List.Elements.{All-replicate}
use Rattle.std.proofs.lemmas.Option.{IfSome_then}
use Rattle.abi_base.specs.declared.data_layout.TargetDataLayout.{TargetDataLayout}
use Rattle.abi_scalar.specs.declared.niche.Niche.{Niche}
use Rattle.abi_scalar.specs.Range.{IsIn}
use Rattle.abi_scalar.specs.Niche.{niche_size}
use Rattle.abi_scalar.specs.Lawful.{IsLawfulLayout}
use Rattle.abi_tree.specs.Tree.{Tree, array, vector}
use Rattle.abi_tree.specs.Bytes.{AreBytes, bytes_at, number_of}
use Rattle.abi_tree.specs.Value.{Value, list}
use Rattle.abi_tree.specs.Placed.{Placed, size_of, niche_of, elements, vector as placed_vector}
use Rattle.abi_scalar.specs.Layout.{Layout}
use Rattle.abi_tree.specs.Values.{IsValueOf, HasValue, VectorsHaveValues}
use Rattle.abi_tree.specs.Holding.{Holds}
use Rattle.abi_tree.specs.Faithful.{AgreeOn, IsFaithful, IsTrueOf}
use Rattle.abi_tree.specs.Fits.{Fits}
use Rattle.abi_tree.proofs.Bytes.BytesLemmas.{put, length-put, bytes_at-put, AreBytes-put, AreBytes-bytes_at}
use Rattle.abi_tree.proofs.Bytes.HoldLemmas.{length-Holds, length-bytes_at, AgreeOn-bytes_at, IsNicheAt, niche_in_part, niche_in_whole}
use Rattle.rustc_abi.proofs.Values.FlagLemmas.{alike}
use Rattle.rustc_abi.proofs.Values.AnywhereLemmas.{value_anywhere}

module _ (dl : TargetDataLayout) (t : Tree) (count : ℕ) (packed : Bool) (own : Layout) (element : Placed) (faithful : IsFaithful dl (array count t) (elements own count element))
    (layout : Layout) (inside : own.size ≤ layout.size) where
  abbrev tree : Tree
  tree = vector count packed t

  abbrev lanes : Placed
  lanes = elements own count element

  abbrev placed : Placed
  placed = placed_vector layout lanes

  vector_exists : (v : Value) → IsValueOf dl tree placed v → (b : List ℕ) × AreBytes b × Holds dl.endian placed b v
  vector_exists (list vs) h =
      let found = faithful.exists (list vs) h in
      let long : length found.0 ≡ own.size = length-Holds dl.endian lanes found.0 (list vs) found.2 in
      let blank = replicate layout.size 0 in
      let size : length blank ≡ layout.size = length-replicate layout.size 0 in
      let fits : 0 + length found.0 ≤ length blank = omega (arith, long, size, inside) in
      let whole : length (put blank 0 found.0) ≡ layout.size = length-put blank found.0 0 fits ∙ size in
      let here : bytes_at (put blank 0 found.0) 0 own.size ≡ found.0 =
      ap (bytes_at (put blank 0 found.0) 0) (sym long) ∙ bytes_at-put blank found.0 0 fits in (
        put blank 0 found.0,
        AreBytes-put blank found.0 0 (All-replicate (λ b. b < 256) layout.size 0 (omega arith)) found.1,
        (whole, (omega (arith, whole, inside), subst (λ b. Holds dl.endian lanes b (list vs)) (sym here) found.2)),
      )
  vector_exists _ h = absurd h

  vector_only : (b : List ℕ) (v : Value) → AreBytes b → Holds dl.endian placed b v → IsValueOf dl tree placed v
  vector_only b (list vs) are h = faithful.only (bytes_at b 0 own.size) (list vs) (AreBytes-bytes_at b 0 own.size are) h.1.1
  vector_only b _ are h = absurd h

  vector_unique : (b : List ℕ) (v w : Value) → Holds dl.endian placed b v → Holds dl.endian placed b w → v ≡ w
  vector_unique b (list vs) (list ws) h k = faithful.unique (bytes_at b 0 own.size) (list vs) (list ws) h.1.1 k.1.1
  vector_unique b (list vs) _ h k = absurd k
  vector_unique b _ w h k = absurd h

  vector_niche : (n : Niche) → IsNicheAt 0 lanes n → (b : List ℕ) (v : Value) → Holds dl.endian placed b v →
      IsIn (niche_size dl n) n.valid_range (number_of dl.endian (bytes_at b n.offset (niche_size dl n)))
  vector_niche n has b (list vs) h = niche_in_whole dl lanes 0 n has faithful.inside faithful.niche b (list vs) h.1.1
  vector_niche n has b _ h = absurd h

  vector_inside : (n : Niche) → IsNicheAt 0 lanes n → n.offset + niche_size dl n ≤ size_of placed
  vector_inside n has = omega (arith, niche_in_part dl lanes 0 n has faithful.inside, inside)

  vector_padding : (xs ys : List ℕ) (v : Value) → length xs ≡ size_of placed → length ys ≡ size_of placed →
      AgreeOn placed xs ys → Holds dl.endian placed xs v → Holds dl.endian placed ys v
  vector_padding xs ys (list vs) ex ey agree h =
      let in_xs : length (bytes_at xs 0 own.size) ≡ own.size = length-Holds dl.endian lanes _ (list vs) h.1.1 in
      let in_ys : length (bytes_at ys 0 own.size) ≡ own.size = omega (arith, length-bytes_at xs 0 own.size, length-bytes_at ys 0 own.size) in
      let there : AgreeOn lanes (bytes_at xs 0 own.size) (bytes_at ys 0 own.size) =
      AgreeOn-bytes_at lanes xs ys 0 own.size (ex ∙ sym ey) (λ j place. let at : j ≡ 0 + j = omega arith in subst (λ i. get_or xs i 0 ≡ get_or ys i 0) at (agree j place)) in
      (ey, (omega (arith, h.1.0), faithful.padding _ _ (list vs) in_xs in_ys there h.1.1))
  vector_padding xs ys _ ex ey agree h = absurd h

  -- a vector of an element with values has a value
  some_lanes : HasValue dl t → (v : Value) × IsValueOf dl tree placed v
  some_lanes has =
      let one = value_anywhere dl t has.0 element has.1 has.2 in
      let all = alike (IsValueOf dl t element) one.0 one.1 count in
      (list all.0, (all.1, all.2))

  vector_faithful : IfSome layout.largest_niche (IsNicheAt 0 lanes) → layout.uninhabited ≡ false → ((b : List ℕ) → IsTrueOf dl layout.backend_repr b) → IsFaithful dl tree placed
  vector_faithful niche inhabited view = record {
    exists = vector_exists;
    only = vector_only;
    unique = vector_unique;
    niche = IfSome_then layout.largest_niche niche vector_niche;
    inside = IfSome_then layout.largest_niche niche vector_inside;
    padding = vector_padding;
    view = λ b v h. view b;
    flag =
        subst (λ f. MatchBool f ((v : Value) → IsValueOf dl tree placed v → ⊥) (VectorsHaveValues dl tree → (v : Value) × IsValueOf dl tree placed v)) (sym inhabited)
        (λ vectors. some_lanes vectors.1);
  }

same_niche : (lanes : Placed) (niche : Option Niche) → niche ≡ niche_of lanes → IfSome niche (IsNicheAt 0 lanes)
same_niche lanes None e = tt
same_niche lanes (Some n) e = record { own = n; of_part = sym e; offset_is = omega arith; value_is = refl; range_is = refl }

-- a vector's layout
pub Fits-vector : (dl : TargetDataLayout) (t : Tree) (count : ℕ) (packed : Bool) (own : Layout) (element : Placed) (layout : Layout) → Fits dl (array count t) (elements own count element) →
    own.size ≤ layout.size → layout.largest_niche ≡ own.largest_niche → layout.uninhabited ≡ false → ((b : List ℕ) → IsTrueOf dl layout.backend_repr b) → IsLawfulLayout dl layout →
    Fits dl (vector count packed t) (placed_vector layout (elements own count element))
Fits-vector dl t count packed own element layout fits inside niche inhabited view lawful = record {
  faithful = λ locals. vector_faithful dl t count packed own element (fits.faithful locals) layout inside (same_niche (elements own count element) layout.largest_niche niche) inhabited view;
  lawful = lawful;
  room = both_true (le-leb own.size layout.size inside) fits.room;
  within = λ k place. omega (arith, fits.within k place, inside);
  common = fits.common;
  untagged = fits.untagged;
}
