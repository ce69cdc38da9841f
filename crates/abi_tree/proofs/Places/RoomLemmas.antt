-- Data places lie inside their type where its parts do.
use Rattle.std.proofs.Common.{◌≡◌, ℕ, zero, suc, ◌+◌, ◌-◌, ◌*◌, ◌/◌, ◌%◌, ◌<◌, ◌≤◌, ⊎_elim, List, [], ◌∷◌, Bool, true, length, get_or, arith, ap, ◌∙◌, All}
use Rattle.std.specs.Prelude.{◌==◌, ◌&&◌, ◌||◌, nat_le, nat_lt}
use Rattle.std.proofs.lemmas.Bool.{ltb-true, leb-true, eqb-true, and_parts, or_cases}
use Rattle.std.proofs.lemmas.List.Elements.{All-nil, All-cons}
use Rattle.std.proofs.lemmas.Nat.{mul-add-lt}
use Rattle.std.proofs.Math.Bool.{or-true}
use Rattle.abi_tree.specs.Placed.{Placed, scalar, pair, never, elements, vector, fields, union, single, tagged, states, Parts, no_parts, part, TaggedVariants, nothing_tagged, tagged_variant, size_of, nothing}
use Rattle.abi_scalar.specs.Layout.{Layout}
use Rattle.abi_tree.specs.Places.{is_data_place, is_place_of_part, is_place_of_tagged_variant}
use Rattle.abi_tree.specs.Room.{has_room, have_room, tagged_variants_have_room}
use Rattle.abi_tree.specs.Nodes.{parts_at}
use Rattle.abi_index.specs.RangeSet.{AreMaximalRuns, is_in_run, is_in_ranges}
use Rattle.abi_tree.proofs.Places.MaximalLemmas.{in_first}

-- a place of what lies at an offset, and ends inside the size
at_offset : (offset n size k : ℕ) (p : ℕ → Bool) → offset + n ≤ size → ((j : ℕ) → p j ≡ true → j < n) → (nat_le offset k && p (k - offset)) ≡ true → k < size
at_offset offset n size k p fits within place =
    let both = and_parts (nat_le offset k) (p (k - offset)) place in
    let past : offset ≤ k = leb-true offset k both.0 in
    omega (arith, past, fits, within (k - offset) both.1)

-- an array's data places lie inside it
pub within_elements : (layout : Layout) (count : ℕ) (element : Placed) → layout.size ≡ size_of element * count →
    ((k : ℕ) → is_data_place element k ≡ true → k < size_of element) →
    (k : ℕ) → is_data_place (elements layout count element) k ≡ true → k < layout.size
within_elements layout count element size within k place =
    let n : ℕ = size_of element in
    let both = and_parts (nat_lt (k / n) count) (is_data_place element (k % n)) place in
    let which : k / n < count = ltb-true (k / n) count both.0 in
    let inside : k % n < n = within (k % n) both.1 in
    let positive : 0 < n = omega arith in
    let split : k ≡ k / n * n + k % n = omega arith in
    omega (arith, split, mul-add-lt (k / n) n (k % n) count which inside, size)

mutual
  pub within_room : (placed : Placed) (k : ℕ) → has_room placed ≡ true → is_data_place placed k ≡ true → k < size_of placed
  within_room (scalar layout s) k room place = ltb-true k layout.size place
  within_room (pair layout parts) k room place = within_have layout.size parts k room place
  within_room (never layout mark) k room place = ltb-true k layout.size place
  within_room (elements layout count element) k room place =
      let both = and_parts (layout.size == size_of element * count) (has_room element) room in
      within_elements layout count element (eqb-true layout.size (size_of element * count) both.0) (λ j. within_room element j both.1) k place
  within_room (vector layout lanes) k room place =
      let both = and_parts (nat_le (size_of lanes) layout.size) (has_room lanes) room in
      omega (arith, leb-true (size_of lanes) layout.size both.0, within_room lanes k both.1 place)
  within_room (fields layout mark parts) k room place = within_have layout.size parts k room place
  within_room (union layout mark parts) k room place = within_have layout.size parts k room place
  within_room (single layout mark index parts) k room place = within_have layout.size parts k room place
  within_room (tagged layout mark offset tag encoding tagged_variants) k room place =
      let both = and_parts (nat_le (offset + size_of tag) layout.size && has_room tag) (tagged_variants_have_room layout.size tagged_variants) room in
      let of_tag = and_parts (nat_le (offset + size_of tag) layout.size) (has_room tag) both.0 in
      ⊎_elim
      (at_offset offset (size_of tag) layout.size k (is_data_place tag) (leb-true (offset + size_of tag) layout.size of_tag.0) (λ j. within_room tag j of_tag.1))
      (within_tagged_variants layout.size tagged_variants k both.1)
      (or_cases (nat_le offset k && is_data_place tag (k - offset)) (is_place_of_tagged_variant tagged_variants k) place)
  within_room (states layout prefix offset tag tagged_variants) k room place =
      let first = and_parts (have_room layout.size prefix) ((nat_le (offset + size_of tag) layout.size && has_room tag) && tagged_variants_have_room layout.size tagged_variants) room in
      let both = and_parts (nat_le (offset + size_of tag) layout.size && has_room tag) (tagged_variants_have_room layout.size tagged_variants) first.1 in
      let of_tag = and_parts (nat_le (offset + size_of tag) layout.size) (has_room tag) both.0 in
      ⊎_elim
      (within_have layout.size prefix k first.0)
      (λ later.
      ⊎_elim
      (at_offset offset (size_of tag) layout.size k (is_data_place tag) (leb-true (offset + size_of tag) layout.size of_tag.0) (λ j. within_room tag j of_tag.1))
      (within_tagged_variants layout.size tagged_variants k both.1)
      (or_cases (nat_le offset k && is_data_place tag (k - offset)) (is_place_of_tagged_variant tagged_variants k) later))
      (or_cases (is_place_of_part prefix k) ((nat_le offset k && is_data_place tag (k - offset)) || is_place_of_tagged_variant tagged_variants k) place)

  pub within_have : (size : ℕ) (parts : Parts) (k : ℕ) → have_room size parts ≡ true → is_place_of_part parts k ≡ true → k < size
  within_have size no_parts k room place = absurd (cc)
  within_have size (part offset placed parts) k room place =
      let both = and_parts (nat_le (offset + size_of placed) size && has_room placed) (have_room size parts) room in
      let here = and_parts (nat_le (offset + size_of placed) size) (has_room placed) both.0 in
      ⊎_elim
      (at_offset offset (size_of placed) size k (is_data_place placed) (leb-true (offset + size_of placed) size here.0) (λ j. within_room placed j here.1))
      (within_have size parts k both.1)
      (or_cases (nat_le offset k && is_data_place placed (k - offset)) (is_place_of_part parts k) place)

  within_tagged_variants : (size : ℕ) (tagged_variants : TaggedVariants) (k : ℕ) → tagged_variants_have_room size tagged_variants ≡ true → is_place_of_tagged_variant tagged_variants k ≡ true → k < size
  within_tagged_variants size nothing_tagged k room place = absurd (cc)
  within_tagged_variants size (tagged_variant number layout mark parts tagged_variants) k room place =
      let both = and_parts (have_room size parts) (tagged_variants_have_room size tagged_variants) room in
      ⊎_elim (within_have size parts k both.0) (within_tagged_variants size tagged_variants k both.1) (or_cases (is_place_of_part parts k) (is_place_of_tagged_variant tagged_variants k) place)

-- a part ends inside, and its own parts do
pub room_at : (size : ℕ) (offsets : List ℕ) (ps : List Placed) (n : ℕ) → have_room size (parts_at offsets ps) ≡ true → n < length offsets → n < length ps →
    (get_or offsets n 0 + size_of (get_or ps n nothing) ≤ size) × (has_room (get_or ps n nothing) ≡ true)
room_at size [] ps n room lt below = absurd (omega arith)
room_at size (o ∷ offsets) [] n room lt below = absurd (omega arith)
room_at size (o ∷ offsets) (p ∷ ps) zero room lt below =
    let both = and_parts (nat_le (o + size_of p) size && has_room p) (have_room size (parts_at offsets ps)) room in
    let here = and_parts (nat_le (o + size_of p) size) (has_room p) both.0 in
    (leb-true (o + size_of p) size here.0, here.1)
room_at size (o ∷ offsets) (p ∷ ps) (suc n) room lt below =
    let both = and_parts (nat_le (o + size_of p) size && has_room p) (have_room size (parts_at offsets ps)) room in
    room_at size offsets ps n both.1 (omega arith) (omega arith)

-- runs of bytes below the size alone end inside it
pub ends_inside : (low size : ℕ) (runs : List (ℕ × ℕ)) → AreMaximalRuns low runs → ((k : ℕ) → is_in_ranges runs k ≡ true → k < size) → All (λ run. run.0 + run.1 ≤ size) runs
ends_inside low size [] maximal inside = All-nil (λ run. run.0 + run.1 ≤ size)
ends_inside low size (run ∷ runs) maximal inside =
    let last : ℕ = run.0 + run.1 - 1 in
    let in_it : is_in_ranges (run ∷ runs) last ≡ true = in_first run.0 run.1 runs last (omega (arith, maximal.1)) (omega (arith, maximal.1)) in
    All-cons (λ run. run.0 + run.1 ≤ size) run runs (omega (arith, inside last in_it, maximal.1))
    (ends_inside (run.0 + run.1 + 1) size runs maximal.3 (λ k h. inside k (ap (λ b. is_in_run k run || b) h ∙ or-true (is_in_run k run))))
