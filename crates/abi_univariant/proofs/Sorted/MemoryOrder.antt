-- The memory order of a list: a place for each field, and never a step back.
use Rattle.std.proofs.Common.{◌≡◌, ℕ, zero, suc, ◌+◌, ◌<◌, ◌≤◌, List, [], ◌∷◌, Option, length, map, get_or, refl, sym, ap, ◌∙◌, arith}
use Rattle.std.specs.Prelude.{slice_get, unwrap_or, IsPermutation}
use Rattle.std.proofs.lemmas.List.{get_or-map, length-map}
use Rattle.std.proofs.lemmas.List.FromFn.{length-range_with_len}
use Rattle.std.proofs.lemmas.List.Sorted.{length_permutation}
use Rattle.abi_scalar.specs.declared.fields_shape.FieldsShape.TheVariants.{Arbitrary}
use Rattle.abi_scalar.specs.Order.{HasPlaceForEach, IsAscending}
use Rattle.abi_univariant.specs.declared.part.Part.{Part}
use Rattle.abi_univariant.specs.Placement.{source_order}
use Rattle.abi_univariant.proofs.Sorted.Sorting.{within_order}
use Rattle.abi_univariant.proofs.Placed.SourceLemmas.{Lies, ordered}

-- the offset of a listed field is the list's at its index
offset_in : (offsets : List ℕ) (i : ℕ) → unwrap_or (slice_get offsets i) 0 ≡ get_or offsets i 0
offset_in [] i = refl
offset_in (o ∷ os) zero = refl
offset_in (o ∷ os) (suc i) = offset_in os i

pub places_listed : {F : Type 0} (at : ℕ → F) (n : ℕ) (order offsets : List ℕ) → length offsets ≡ n → IsPermutation (source_order n) order → HasPlaceForEach (Arbitrary offsets (map at order))
places_listed at n order offsets count p = length-map order at ∙ length_permutation (source_order n) order p ∙ length-range_with_len 0 n ∙ sym count

module _ {F : Type 0} (at : ℕ → F) (number : F → ℕ) (most : ℕ) (law : (i : ℕ) → i ≤ most → number (at i) ≡ i) where
  -- the number of the field at a place of memory order
  named_at : (order : List ℕ) (k : ℕ) (d : F) → k < length order → get_or order k 0 ≤ most → number (get_or (map at order) k d) ≡ get_or order k 0
  named_at order k d short within = ap number (get_or-map at order k 0 d short) ∙ law (get_or order k 0) within

  pub ascending_listed : (from : ℕ) (pack : Option ℕ) (parts : List Part) (order offsets : List ℕ) → length parts ≤ most + 1 → Lies pack from parts order offsets
      → IsAscending number (Arbitrary offsets (map at order))
  ascending_listed from pack parts order offsets small l i j d low high =
      let short : j < length order = omega (arith, length-map order at) in
      let one : get_or order i 0 < length parts = within_order (length parts) order l.permutes i 0 (omega arith) in
      let other : get_or order j 0 < length parts = within_order (length parts) order l.permutes j 0 short in
      let up = ordered pack from parts order offsets i j (get_or order i 0) (get_or order j 0) l low short refl refl in
      rw (named_at order i d (omega arith) (omega arith), named_at order j d short (omega arith), offset_in offsets (get_or order i 0), offset_in offsets (get_or order j 0)) (omega (arith, up))
