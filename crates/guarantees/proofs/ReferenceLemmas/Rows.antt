-- Fields one after another in memory, from the clause on the order in which they lie.
use Rattle.std.proofs.Common.{◌≡◌, ℕ, zero, suc, ◌+◌, ◌^◌, ◌<◌, Bool, true, false, List, [], ◌∷◌, Option, length, map, get_or, refl, sym, ap, ◌∙◌, subst, arith}
use Rattle.std.specs.Prelude.{All, IsPermutation, MatchBool, slice_index, ⊤}
use Rattle.std.specs.Int.{◌∣◌, next_multiple_of}
use Rattle.std.proofs.lemmas.List.{ext_get_or}
use Rattle.std.proofs.lemmas.List.Elements.{All-cons, All-nil}
use Rattle.std.proofs.lemmas.List.FromFn.{length-map-range_with_len, get_or-map-range_with_len}
use Rattle.std.proofs.lemmas.List.Sorted.{All-permutation, IsPermutation-map, IsPermutation-refl, IsPermutation-sym}
use Rattle.abi_base.specs.declared.data_layout.TargetDataLayout.{TargetDataLayout}
use Rattle.abi_base.specs.declared.struct_kind.StructKind.{StructKind}
use Rattle.abi_scalar.specs.declared.repr.ReprOptions.{ReprOptions}
use Rattle.abi_univariant.specs.declared.fields_repr.FieldsRepr.{FieldsRepr}
use Rattle.abi_univariant.specs.declared.part.Part.{Part}
use Rattle.abi_univariant.specs.Least.{IsPlacedBy}
use Rattle.abi_univariant.specs.Part.{part_of, parts_of}
use Rattle.abi_univariant.specs.Placement.{IsAllowed, KeepsTail, cut, end_from, in_order, fields_repr, no_part, offsets_from, place_of, source_order, start_of}
use Rattle.abi_tree.specs.Placed.{Parts, no_parts, part, layout_of}
use Rattle.rustc_abi.specs.Lists.{offsets_of, types_of}
use Rattle.abi_univariant.proofs.Offsets.Rounding.{rounded_to}

-- each lies at the first place behind the one before it that fits
abbrev pub InARow : Option ℕ → (from : ℕ) → List (ℕ × Part) → Type 0
InARow pack from [] = ⊤
InARow pack from ((offset, field) ∷ more) = (offset ≡ place_of pack from field) × InARow pack (offset + field.size) more

-- where the last of them ends
abbrev pub row_end : (from : ℕ) → List (ℕ × Part) → ℕ
row_end from [] = from
row_end from ((offset, field) ∷ more) = row_end (offset + field.size) more

allowed_cases : (b : Bool) (n : ℕ) (P : Type 0) (order : List ℕ) → MatchBool b (IsPermutation (source_order n) order × P) (order ≡ source_order n)
    → IsPermutation (source_order n) order
allowed_cases true n P order h = h.0
allowed_cases false n P order is = subst (λ o. IsPermutation (source_order n) o) (sym is) (IsPermutation-refl (source_order n))

-- an allowed order has each index once
pub permutes : (repr : FieldsRepr) (n : ℕ) (order : List ℕ) → IsAllowed repr n order → IsPermutation (source_order n) order
permutes repr n order h = allowed_cases repr.reorderable n (KeepsTail repr.kind n order) order h

module _ (dl : TargetDataLayout) where
  -- what a list asks of each part, and the place where that lies
  abbrev pub with_places : Parts → List (ℕ × Part)
  with_places no_parts = []
  with_places (part offset placed parts) = (offset, part_of dl (layout_of placed)) ∷ with_places parts

  abbrev pub asked : Parts → List Part
  asked parts = parts_of dl (types_of parts)

  -- those of the part with this index
  abbrev pub at_index : Parts → ℕ → ℕ × Part
  at_index parts i = (get_or (offsets_of parts) i 0, get_or (asked parts) i no_part)

  pub read_at : (parts : Parts) (i : ℕ) → i < length (with_places parts) → get_or (with_places parts) i (0, no_part) ≡ at_index parts i
  read_at no_parts i lt = absurd (omega arith)
  read_at (part offset placed parts) zero lt = refl
  read_at (part offset placed parts) (suc i) lt = read_at parts i (omega arith)

  pub count_of : (parts : Parts) → length (with_places parts) ≡ length (types_of parts)
  count_of no_parts = refl
  count_of (part offset placed parts) = ap suc (count_of parts)

  pub in_source_order : (parts : Parts) → map (at_index parts) (source_order (length (types_of parts))) ≡ with_places parts
  in_source_order parts =
      let n : ℕ = length (types_of parts) in
      let many : length (map (at_index parts) (source_order n)) ≡ n = length-map-range_with_len (at_index parts) 0 n in
      let own : length (with_places parts) ≡ n = count_of parts in
      ext_get_or (0, no_part) (map (at_index parts) (source_order n)) (with_places parts) (many ∙ sym own)
      (λ i lt. get_or-map-range_with_len (at_index parts) 0 n i i (0, no_part) (omega (arith, many)) (omega arith)
      ∙ sym (read_at parts i (omega (arith, many, own))))

  abbrev rest_of : List ℕ → List ℕ
  rest_of [] = []
  rest_of (x ∷ xs) = xs

  in_a_row : (parts : Parts) (pack : Option ℕ) (from : ℕ) (order : List ℕ)
      → map (slice_index (offsets_of parts)) order ≡ offsets_from pack from (in_order (asked parts) order)
      → InARow pack from (map (at_index parts) order) × (row_end from (map (at_index parts) order) ≡ end_from pack from (in_order (asked parts) order))
  in_a_row parts pack from [] e = (tt, refl)
  in_a_row parts pack from (i ∷ order) e =
      let field : Part = get_or (asked parts) i no_part in
      let own : ℕ = get_or (offsets_of parts) i 0 in
      let at : own ≡ place_of pack from field = ap (λ xs. get_or xs 0 0) e in
      let later : map (slice_index (offsets_of parts)) order ≡ offsets_from pack (place_of pack from field + field.size) (in_order (asked parts) order) = ap rest_of e in
      let more = in_a_row parts pack (own + field.size) order
      (later ∙ ap (λ n. offsets_from pack (n + field.size) (in_order (asked parts) order)) (sym at)) in
      ((at, more.0), more.1 ∙ ap (λ n. end_from pack (n + field.size) (in_order (asked parts) order)) at)

  -- Parts that lie so in some order, behind so many bytes, and the size of the whole, rounded up to its alignment.
  pub record LieInARow (pack : Option ℕ) (from : ℕ) (parts : Parts) (size align : ℕ) : Type 0 where
    pub ordered : List (ℕ × Part)
    pub permuted : IsPermutation (with_places parts) ordered
    pub row : InARow pack from ordered
    pub extent : size ≡ next_multiple_of (row_end from ordered) (2 ^ align)

  pub row_of : (repr : ReprOptions) (kind : StructKind) (from : ℕ) (parts : Parts) (order : List ℕ) (size align : ℕ) → start_of repr.pack kind ≡ from
      → IsPlacedBy dl repr kind (types_of parts) order (offsets_of parts) size align → LieInARow repr.pack from parts size align
  row_of repr kind from parts order size align start h =
      let row = in_a_row parts repr.pack from order
      (h.places ∙ ap (λ first. offsets_from repr.pack first (in_order (asked parts) order)) start) in
      record {
        ordered = map (at_index parts) order;
        permuted = subst (λ xs. IsPermutation xs (map (at_index parts) order)) (in_source_order parts)
            (IsPermutation-map (at_index parts) (source_order (length (types_of parts))) order
            (permutes (fields_repr dl repr kind) (length (types_of parts)) order h.allowed));
        row = row.0;
        extent = h.extent
            ∙ ap (λ a. next_multiple_of (end_from repr.pack (start_of repr.pack kind) (in_order (asked parts) order)) (2 ^ a)) (sym h.alignment)
            ∙ ap (λ first. next_multiple_of (end_from repr.pack first (in_order (asked parts) order)) (2 ^ align)) start
            ∙ ap (λ n. next_multiple_of n (2 ^ align)) (sym row.1);
      }

  -- ---- what a row tells of each

  -- it lies at a multiple of its alignment
  abbrev pub IsFitting : Option ℕ → ℕ × Part → Type 0
  IsFitting pack x = 2 ^ cut pack x.1.align ∣ x.0

  row_fits : (pack : Option ℕ) (from : ℕ) (row : List (ℕ × Part)) → InARow pack from row → All (IsFitting pack) row
  row_fits pack from [] h = All-nil (IsFitting pack)
  row_fits pack from ((offset, field) ∷ more) h =
      All-cons (IsFitting pack) (offset, field) more
      (subst (λ o. 2 ^ cut pack field.align ∣ o) (sym h.0) (rounded_to from (cut pack field.align)).multiple)
      (row_fits pack (offset + field.size) more h.1)

  pub each_fits : (pack : Option ℕ) (from : ℕ) (parts : Parts) (size align : ℕ) → LieInARow pack from parts size align
      → All (IsFitting pack) (with_places parts)
  each_fits pack from parts size align h =
      All-permutation (IsFitting pack) h.ordered (with_places parts) (IsPermutation-sym (with_places parts) h.ordered h.permuted)
      (row_fits pack from h.ordered h.row)
