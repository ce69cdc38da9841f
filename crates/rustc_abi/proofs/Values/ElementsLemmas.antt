-- An array's layout keeps its elements' values.
use Rattle.std.proofs.Common.{◌≡◌, ℕ, ◌+◌, ◌*◌, ◌/◌, ◌%◌, ◌<◌, ◌≤◌, List, length, replicate, drop, take, arith, refl, sym, ap, ◌∙◌, subst, le_refl}
use Rattle.std.specs.Prelude.{IfSome, true, ◌==◌, ◌&&◌, not}
use Rattle.std.proofs.lemmas.List.{length-replicate}
use Rattle.std.proofs.lemmas.List.Elements.{All-replicate}
use Rattle.std.proofs.lemmas.Option.{IfSome_then}
use Rattle.std.proofs.lemmas.Nat.{mul-le, div-mul-add, mod-mul-add}
use Rattle.std.proofs.lemmas.Bool.{lt-ltb, eq-eqb}
use Rattle.std.specs.Cmp.Derive.{both_true}
use Rattle.abi_base.specs.declared.data_layout.TargetDataLayout.{TargetDataLayout}
use Rattle.abi_scalar.specs.declared.niche.Niche.{Niche}
use Rattle.abi_scalar.specs.Range.{IsIn}
use Rattle.abi_scalar.specs.Niche.{niche_size}
use Rattle.abi_scalar.specs.Lawful.{IsLawfulLayout}
use Rattle.abi_tree.specs.Tree.{Tree, array}
use Rattle.abi_tree.specs.Bytes.{AreBytes, bytes_at, number_of}
use Rattle.abi_tree.specs.Value.{Value, list, Values, no_values, more_values, value_count, Each}
use Rattle.abi_tree.specs.Placed.{Placed, layout_of, size_of, elements}
use Rattle.abi_scalar.specs.Layout.{Layout}
use Rattle.abi_tree.specs.Places.{is_data_place}
use Rattle.abi_tree.specs.Values.{IsValueOf}
use Rattle.abi_tree.specs.Holding.{Holds, HoldEach}
use Rattle.abi_tree.specs.Faithful.{AgreeOn, IsFaithful}
use Rattle.abi_tree.specs.Fits.{Fits}
use Rattle.abi_scalar.specs.declared.backend_repr.BackendRepr.TheVariants.{Memory}
use Rattle.abi_tree.proofs.Places.RoomLemmas.{within_elements}
use Rattle.rustc_abi.proofs.Values.FlagLemmas.{flag-elements}
use Rattle.abi_tree.proofs.Bytes.BytesLemmas.{put, length-put, bytes_at-put, drop-put_after, AreBytes-put, AreBytes-bytes_at}
use Rattle.abi_tree.proofs.Bytes.HoldLemmas.{length-Holds, length-bytes_at, drop_later, AgreeOn-bytes_at, IsNicheAt, niche_in_part, niche_in_whole}

-- the niche, if there is one, is the first element's
abbrev pub IsElementNiche : (count : ℕ) → Placed → Niche → Type 0
IsElementNiche count element n = (0 < count) × IsNicheAt 0 element n

module _ (dl : TargetDataLayout) (t : Tree) (element : Placed) (faithful : IsFaithful dl t element)
    (within : (k : ℕ) → is_data_place element k ≡ true → k < size_of element) where
  abbrev n : ℕ
  n = size_of element

  -- elements from the start on see nothing of what lies before it
  HoldEach-later : (start : ℕ) (xs ys : List ℕ) (vs : Values) → length xs ≡ length ys → drop start xs ≡ drop start ys →
      HoldEach (Holds dl.endian element) n start xs vs → HoldEach (Holds dl.endian element) n start ys vs
  HoldEach-later start xs ys no_values long same h = tt
  HoldEach-later start xs ys (more_values v vs) long same h = (
    (omega (arith, h.0.0), subst (λ b. Holds dl.endian element b v) (ap (take n) same) h.0.1),
    HoldEach-later (start + n) xs ys vs long (drop_later xs ys start (start + n) (omega arith) same) h.1,
  )

  exist : (start total : ℕ) (vs : Values) → Each (IsValueOf dl t element) vs → start + value_count vs * n ≤ total →
      (b : List ℕ) × (length b ≡ total) × AreBytes b × HoldEach (Holds dl.endian element) n start b vs
  exist start total no_values h le =
      (replicate total 0, length-replicate total 0, All-replicate (λ b. b < 256) total 0 (omega arith), tt)
  exist start total (more_values v vs) h le =
      let first = faithful.exists v h.0 in
      let size : length first.0 ≡ n = length-Holds dl.endian element first.0 v first.2 in
      let rest = exist (start + n) total vs h.1 (omega arith) in
      let fits : start + length first.0 ≤ length rest.0 = omega arith in
      let long = length-put rest.0 first.0 start fits in
      let here : bytes_at (put rest.0 start first.0) start n ≡ first.0 =
      ap (bytes_at (put rest.0 start first.0) start) (sym size) ∙ bytes_at-put rest.0 first.0 start fits in (
        put rest.0 start first.0,
        long ∙ rest.1,
        AreBytes-put rest.0 first.0 start rest.2 first.1,
        (
          (omega arith, subst (λ b. Holds dl.endian element b v) (sym here) first.2),
          HoldEach-later (start + n) rest.0 (put rest.0 start first.0) vs (sym long) (sym (drop-put_after rest.0 first.0 start fits (start + n) (omega arith))) rest.3,
        ),
      )

  only : (start : ℕ) (b : List ℕ) (vs : Values) → AreBytes b → HoldEach (Holds dl.endian element) n start b vs → Each (IsValueOf dl t element) vs
  only start b no_values are h = tt
  only start b (more_values v vs) are h = (faithful.only _ v (AreBytes-bytes_at b start n are) h.0.1, only (start + n) b vs are h.1)

  unique : (start : ℕ) (b : List ℕ) (vs ws : Values) → value_count vs ≡ value_count ws →
      HoldEach (Holds dl.endian element) n start b vs → HoldEach (Holds dl.endian element) n start b ws → vs ≡ ws
  unique start b no_values no_values same h k = refl
  unique start b no_values (more_values w ws) same h k = absurd (omega arith)
  unique start b (more_values v vs) no_values same h k = absurd (omega arith)
  unique start b (more_values v vs) (more_values w ws) same h k =
      let first : v ≡ w = faithful.unique _ v w h.0.1 k.0.1 in
      let rest : vs ≡ ws = unique (start + n) b vs ws (omega arith) h.1 k.1 in
      cc

  -- place j of element i is one of the array
  place_of_element : (layout : Layout) (count i j : ℕ) → i < count → is_data_place element j ≡ true →
      is_data_place (elements layout count element) (i * n + j) ≡ true
  place_of_element layout count i j lt place =
      let inside : j < n = within j place in
      let which : (i * n + j) / n ≡ i = div-mul-add i n j inside in
      let where_in : (i * n + j) % n ≡ j = mod-mul-add i n j inside in
      both_true (lt-ltb ((i * n + j) / n) count (omega (arith, which))) (ap (is_data_place element) where_in ∙ place)

  padding : (layout : Layout) (count i : ℕ) (start : ℕ) (xs ys : List ℕ) (vs : Values) → start ≡ i * n → i + value_count vs ≤ count → length xs ≡ length ys →
      AgreeOn (elements layout count element) xs ys →
      HoldEach (Holds dl.endian element) n start xs vs → HoldEach (Holds dl.endian element) n start ys vs
  padding layout count i start xs ys no_values at le same agree h = tt
  padding layout count i start xs ys (more_values v vs) at le same agree h =
      let in_xs : length (bytes_at xs start n) ≡ n = length-Holds dl.endian element _ v h.0.1 in
      let in_ys : length (bytes_at ys start n) ≡ n = omega (arith, length-bytes_at xs start n, length-bytes_at ys start n) in (
        (
          omega (arith, h.0.0),
          faithful.padding _ _ v in_xs in_ys
              (AgreeOn-bytes_at element xs ys start n same
              (λ j place. agree (start + j) (subst (λ s. is_data_place (elements layout count element) (s + j) ≡ true) (sym at) (place_of_element layout count i j (omega arith) place)))) h.0.1,
        ),
        padding layout count (i + 1) (start + n) xs ys vs (omega arith) (omega arith) same agree h.1,
      )

module _ (dl : TargetDataLayout) (t : Tree) (element : Placed) (faithful : IsFaithful dl t element)
    (within : (k : ℕ) → is_data_place element k ≡ true → k < size_of element) (count : ℕ) (layout : Layout)
    (size : layout.size ≡ size_of element * count) (niche : IfSome layout.largest_niche (IsElementNiche count element))
    (view : layout.backend_repr ≡ Memory true) (flag : layout.uninhabited ≡ ((layout_of element).uninhabited && not (count == 0))) where
  abbrev placed : Placed
  placed = elements layout count element

  array_exists : (v : Value) → IsValueOf dl (array count t) placed v → (b : List ℕ) × AreBytes b × Holds dl.endian placed b v
  array_exists (list vs) h =
      let le : 0 + value_count vs * size_of element ≤ layout.size = omega (arith, ap (λ c. c * size_of element) h.0) in
      let found = exist dl t element faithful within 0 layout.size vs h.1 le in
      (found.0, found.2, (found.1, h.0, found.3))
  array_exists _ h = absurd h

  array_only : (b : List ℕ) (v : Value) → AreBytes b → Holds dl.endian placed b v → IsValueOf dl (array count t) placed v
  array_only b (list vs) are h = (h.1, only dl t element faithful within 0 b vs are h.2)
  array_only b _ are h = absurd h

  array_unique : (b : List ℕ) (v w : Value) → Holds dl.endian placed b v → Holds dl.endian placed b w → v ≡ w
  array_unique b (list vs) (list ws) h k = ap list (unique dl t element faithful within 0 b vs ws (h.1 ∙ sym k.1) h.2 k.2)
  array_unique b (list vs) _ h k = absurd k
  array_unique b _ w h k = absurd h

  array_niche : (n : Niche) → IsElementNiche count element n → (b : List ℕ) (v : Value) → Holds dl.endian placed b v →
      IsIn (niche_size dl n) n.valid_range (number_of dl.endian (bytes_at b n.offset (niche_size dl n)))
  array_niche n has b (list no_values) h = absurd (omega (arith, h.1, has.0))
  array_niche n has b (list (more_values v vs)) h = niche_in_whole dl element 0 n has.1 faithful.inside faithful.niche b v h.2.0.1
  array_niche n has b _ h = absurd h

  array_inside : (n : Niche) → IsElementNiche count element n → n.offset + niche_size dl n ≤ size_of placed
  array_inside n has =
      let in_first = niche_in_part dl element 0 n has.1 faithful.inside in
      let le = mul-le (size_of element) 1 (size_of element) count (le_refl (size_of element)) has.0 in
      omega arith

  array_padding : (xs ys : List ℕ) (v : Value) → length xs ≡ size_of placed → length ys ≡ size_of placed →
      AgreeOn placed xs ys → Holds dl.endian placed xs v → Holds dl.endian placed ys v
  array_padding xs ys (list vs) ex ey agree h =
      (ey, h.1, padding dl t element faithful within layout count 0 0 xs ys vs (omega arith) (omega (arith, h.1)) (ex ∙ sym ey) agree h.2)
  array_padding xs ys _ ex ey agree h = absurd h

  array_faithful : IsFaithful dl (array count t) placed
  array_faithful = record {
    exists = array_exists;
    only = array_only;
    unique = array_unique;
    niche = IfSome_then layout.largest_niche niche array_niche;
    inside = IfSome_then layout.largest_niche niche array_inside;
    padding = array_padding;
    view = λ b v h. rw view tt;
    flag = flag-elements dl t element count layout flag faithful.flag;
  }

-- a layout of elements
pub Fits-elements : (dl : TargetDataLayout) (t : Tree) (element : Placed) (count : ℕ) (layout : Layout) → Fits dl t element →
    layout.size ≡ size_of element * count → IfSome layout.largest_niche (IsElementNiche count element) → layout.backend_repr ≡ Memory true →
    layout.uninhabited ≡ ((layout_of element).uninhabited && not (count == 0)) → IsLawfulLayout dl layout → Fits dl (array count t) (elements layout count element)
Fits-elements dl t element count layout fits size niche view flag lawful = record {
  faithful = λ locals. array_faithful dl t element (fits.faithful locals) fits.within count layout size niche view flag;
  lawful = lawful;
  room = both_true (eq-eqb layout.size (size_of element * count) size) fits.room;
  within = within_elements layout count element size fits.within;
  common = fits.common;
  untagged = fits.untagged;
}
