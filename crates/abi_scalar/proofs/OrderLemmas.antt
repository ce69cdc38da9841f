-- Fields as they follow one another in memory.
use Rattle.std.proofs.Common.{◌≡◌, ℕ, suc, ◌+◌, ◌-◌, ◌*◌, ◌<◌, ◌≤◌, List, [], ◌∷◌, length, map, arith, refl, ◌∙◌}
use Rattle.std.specs.Prelude.{slice_index_or}
use Rattle.std.specs.List.{AllPairs, range_with_len}
use Rattle.std.proofs.lemmas.List.{get_or-map, length-map}
use Rattle.std.proofs.lemmas.List.FromFn.{get_or-range_with_len, length-range_with_len}
use Rattle.std.proofs.Math.Nat.{mul-le-mul_left}
use Rattle.abi_scalar.specs.declared.fields_shape.FieldsShape.{FieldsShape}
use Rattle.abi_scalar.specs.declared.fields_shape.FieldsShape.TheVariants.{Primitive, Union, Array, Arbitrary}
use Rattle.abi_scalar.specs.Shape.{field_offset}
use Rattle.abi_scalar.specs.Order.{indices_by_offset, place_count, HasPlaceForEach, HasOrder, IsAscending, NeverStepsBack}

-- the first of the places from `next` to before `end`
pub places_begin : (next end : ℕ) → next < end → range_with_len next (end - next) ≡ next ∷ range_with_len (next + 1) (end - (next + 1))
places_begin next end h =
    let more : end - next ≡ suc (end - (next + 1)) = omega arith in
    rw more

-- no places are left
pub places_end : (next end : ℕ) → end ≤ next → range_with_len next (end - next) ≡ []
places_end next end h =
    let none : end - next ≡ 0 = omega arith in
    rw none

pub range_length : (next count : ℕ) → length (range_with_len next count) ≡ count
range_length next count = length-range_with_len next count

-- there are as many places as the shape counts
pub places_many : {F : Type 0} (number : F → ℕ) (shape : FieldsShape F) → HasPlaceForEach shape → length (indices_by_offset number shape) ≡ place_count shape
places_many number Primitive h = refl
places_many number (Union count) h = length-range_with_len 0 count
places_many number (Array stride count) h = length-range_with_len 0 count
places_many number (Arbitrary offsets order) h = length-map order number ∙ h

-- a relation of the listed items is one of their places
pairs_of : {F : Type 0} (number : F → ℕ) (R : ℕ → ℕ → Type 0) (order : List F) → AllPairs (λ a b. R (number a) (number b)) order → AllPairs R (map number order)
pairs_of number R [] h i j d before below = absurd (omega arith)
pairs_of number R (x ∷ xs) h i j d before below =
    let short : j < length (x ∷ xs) = omega (arith, length-map (x ∷ xs) number) in
    let earlier : i < length (x ∷ xs) = omega arith in
    rw (get_or-map number (x ∷ xs) i x d earlier, get_or-map number (x ∷ xs) j x d short) (h i j x before short)

-- places that are counted up
counted : (R : ℕ → ℕ → Type 0) (count : ℕ) → ((i j : ℕ) → i < j → R i j) → AllPairs R (range_with_len 0 count)
counted R count h i j d before below =
    let short : j < count = omega (arith, length-range_with_len 0 count) in
    let earlier : i < count = omega arith in
    let first : slice_index_or (range_with_len 0 count) i d ≡ i = get_or-range_with_len 0 count i d earlier ∙ omega arith in
    let second : slice_index_or (range_with_len 0 count) j d ≡ j = get_or-range_with_len 0 count j d short ∙ omega arith in
    rw (first, second) (h i j before)

pub places_ascend : {F : Type 0} (number : F → ℕ) (shape : FieldsShape F) → IsAscending number shape → NeverStepsBack shape (indices_by_offset number shape)
places_ascend number Primitive h = λ i j d before below. absurd (omega arith)
places_ascend number (Union count) h = counted (λ i j. 0 ≤ 0) count (λ i j before. omega arith)
places_ascend number (Array stride count) h =
    counted (λ i j. stride * i ≤ stride * j) count (λ i j before. mul-le-mul_left stride (omega arith))
places_ascend number (Arbitrary offsets order) h = pairs_of number (λ i j. field_offset (Arbitrary offsets order) i ≤ field_offset (Arbitrary offsets order) j) order h

-- two fields, the first at the front, are in order
pub pair_order : {F : Type 0} (number : F → ℕ) (first second : F) (offset : ℕ) → number first ≡ 0 → number second ≡ 1
    → HasOrder number (Arbitrary (0 ∷ offset ∷ []) (first ∷ second ∷ []))
pair_order number first second offset front next = (
  refl,
  λ i j d before below.
      let last : j ≡ 1 = omega arith in
      let earlier : i ≡ 0 = omega arith in
      rw (last, earlier, front, next) (omega arith),
)
