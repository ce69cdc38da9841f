-- Each transparent struct that was laid out is as large and as aligned as its one field that counts.
use Rattle.std.proofs.Common.{◌≡◌, ℕ, zero, suc, ◌+◌, ◌*◌, ◌^◌, ◌<◌, ◌≤◌, Bool, true, false, List, [], ◌∷◌, Option, None, Some, cond, length, map, refl, sym, ap, ap₂, ◌∙◌, subst, arith, inl, inr, Ok}
use Rattle.std.specs.Prelude.{◌==◌, ◌&&◌, ◌||◌, ◌⊎◌, All, IfSome, count_by, is_some, max, not, unwrap_or, if◌then◌else◌}
use Rattle.std.specs.Int.{◌∣◌, next_multiple_of}
use Rattle.std.proofs.lemmas.Bool.{and_parts, eqb-true, ne_eqb}
use Rattle.std.proofs.lemmas.List.Elements.{All-cons, All-head, All-nil, All-tail}
use Rattle.std.proofs.lemmas.List.Sorted.{All-permutation, IsPermutation-sym, sum_by-IsPermutation}
use Rattle.std.proofs.lemmas.List.Sums.{sum_by-cons}
use Rattle.std.proofs.lemmas.Nat.{pow-add, pow_pos}
use Rattle.std.proofs.lemmas.Nat.Gcd.{dvd-zero}
use Rattle.abi_base.specs.declared.data_layout.TargetDataLayout.{TargetDataLayout}
use Rattle.abi_base.specs.declared.integer.IntegerType.{IntegerType}
use Rattle.abi_base.specs.declared.niche_optimizations.NicheOptimizations.TheVariants.{Enabled}
use Rattle.abi_base.specs.declared.struct_kind.StructKind.{StructKind}
use Rattle.abi_base.specs.declared.struct_kind.StructKind.TheVariants.{AlwaysSized}
use Rattle.abi_base.specs.DataLayout.{IsLawfulDataLayout}
use Rattle.abi_scalar.specs.declared.repr.ReprOptions.{ReprOptions}
use Rattle.abi_scalar.specs.declared.variants.Variants.{Variants as LayoutVariants}
use Rattle.abi_scalar.specs.declared.variants.Variants.TheVariants.{Empty, Multiple, Single}
use Rattle.abi_scalar.specs.declared.niche.Niche.{Niche}
use Rattle.abi_scalar.specs.Lawful.{IsLawfulLayout, IsLawfulNiche}
use Rattle.abi_scalar.specs.Niche.{niche_size}
use Rattle.abi_scalar.specs.Repr.{is_abi_fixed, is_c, is_simd}
use Rattle.abi_scalar.specs.Shape.{listed_offsets}
use Rattle.abi_scalar.specs.Simple.{never_layout}
use Rattle.abi_univariant.specs.declared.part.Part.{Part}
use Rattle.abi_univariant.specs.List.{IsUnivariantAnswer}
use Rattle.abi_univariant.specs.ListView.{any_unsized, list_view}
use Rattle.abi_univariant.specs.Part.{part_of, parts_of as asked_of}
use Rattle.abi_univariant.specs.ListNiche.{greatest_niche}
use Rattle.abi_univariant.specs.Placement.{in_order, offsets_from, own_align, prefix_align, start_of}
use Rattle.abi_calc.specs.declared.enums.strategy.EnumStrategy.{EnumStrategy}
use Rattle.abi_calc.specs.declared.enums.strategy.EnumStrategy.TheVariants.{NoValue, OneList, Several}
use Rattle.abi_calc.specs.Enums.Answer.{IsTypeAnswer}
use Rattle.abi_calc.specs.Enums.EnumStrategy.{is_free, is_present, strategy_among, strategy_of, variant_at}
use Rattle.abi_tree.specs.Mark.{mark_of}
use Rattle.abi_tree.specs.Nodes.{parts_at}
use Rattle.abi_tree.specs.Placed.{Placed, Parts, no_parts, part, layout_of, niche_of, parts_in, size_of, never as nowhere}
use Rattle.abi_scalar.specs.Layout.{Layout}
use Rattle.abi_tree.specs.Tree.{Tree, Trees, no_trees, more_trees, Variants, no_variants, more_variants, struct, enum, coroutine}
use Rattle.rustc_abi.specs.Enums.{IsEnumed, IsTagIntegerAnswer as IsAsking, discriminants_of, layouts_of, numbered_from}
use Rattle.rustc_abi.specs.Everywhere.{OfEach, Within}
use Rattle.rustc_abi.specs.Laying.{AreLaying, IsLaying, VariantsLaying, enum_fault, placed_enum, placed_fields, placed_variants, with_randomize_flag}
use Rattle.rustc_abi.specs.Least.{fields_of}
use Rattle.rustc_abi.specs.Lists.{offsets_of}
use Rattle.rustc_abi.specs.Orders.{LiesAsAsked}
use Rattle.guarantees.specs.Reference.Words.{Extent, HasPartForEach, align_in_bytes, extent_of, most_aligned}
use Rattle.guarantees.specs.Reference.Transparent.{HasNicheOf, IsOnlyField, IsAsLargeAs, IsLaidAs, IsPlainTransparent, IsSeenAsField, IsTransparent, is_one_zst, others}
use Rattle.guarantees.proofs.ReferenceLemmas.AlignFree.{list_count}
use Rattle.guarantees.proofs.ReferenceLemmas.Answers.{laid_by}
use Rattle.guarantees.proofs.ReferenceLemmas.Lists.{align_same, aligned_some, extents_for, part_for_each}
use Rattle.guarantees.proofs.ReferenceLemmas.Niches.{HasNicheIn, HasNone, counts, niche_of_none, niche_of_one, no_room as no_room_for, run_niche}
use Rattle.guarantees.proofs.ReferenceLemmas.Over.{IsStruct, byte_align, least_align, struct_laid, struct_parts}
use Rattle.abi_univariant.proofs.Offsets.Rounding.{round_multiple}
use Rattle.guarantees.proofs.ReferenceLemmas.Rows.{LieInARow, asked, row_end, row_of, with_places}
use Rattle.guarantees.proofs.ReferenceLemmas.SeenAs.{IsSettled, seen_as_none, seen_as_one}
use Rattle.guarantees.proofs.ReferenceLemmas.Rust.{struct_row}
use Rattle.guarantees.proofs.ReferenceLemmas.Variants.{inj-answer, offsets_of-parts_at}
use Rattle.guarantees.proofs.ReferenceLemmas.ZeroOut.{some_bytes}
use Rattle.guarantees.proofs.ReferenceLemmas.PlainViews.{each_plain}
use Rattle.guarantees.proofs.ReferenceLemmas.Views.{IsSeenStruct, all_sized, plain_sized, struct_seen}
use Rattle.guarantees.proofs.ReferenceLemmas.OneField.{is_bulky, counted, no_room, one_room, IsFirst, at_first, same_exponent, passed_by}

-- ---- in the words of the chapter

-- an alignment of one byte, by its exponent
one_by : (n : ℕ) → (2 ^ n == 1) ≡ (n == 0)
one_by zero = refl
one_by (suc n) =
    let some : 0 < 2 ^ n = pow_pos n in
    let twice : 2 ^ (1 + n) ≡ 2 * 2 ^ n = pow-add 2 1 n in
    let same : suc n ≡ 1 + n = omega arith in
    let many : 2 ^ suc n ≡ 2 * 2 ^ n = ap (λ k. 2 ^ k) same ∙ twice in
    ne_eqb (2 ^ suc n) 1 (λ e. absurd (omega arith)) ∙ sym (ne_eqb (suc n) 0 (λ e. absurd (omega arith)))

module _ (dl : TargetDataLayout) where
  abbrev asked_at : ℕ → Placed → ℕ × Part
  asked_at offset placed = (offset, part_of dl (layout_of placed))

  bulky_is : (offset : ℕ) (p : Placed) → is_bulky (asked_at offset p) ≡ not (is_one_zst p)
  bulky_is offset p = ap (λ b. not ((size_of p == 0) && b)) (sym (one_by (layout_of p).align.abi))

  count_others : (parts : Parts) → count_by is_bulky (with_places dl parts) ≡ length (others parts)
  count_others no_parts = refl
  count_others (part offset placed parts) =
      counted (asked_at offset placed) (with_places dl parts)
      ∙ ap₂ (λ (m n : ℕ). m + n) (ap (λ b. cond b 1 0) (bulky_is offset placed)) (count_others parts) ∙ by (is_one_zst placed)
    where
      by : (b : Bool) → cond (not b) 1 0 + length (others parts) ≡ length (if b then others parts else placed ∷ others parts)
      by true = omega arith
      by false = omega arith

  -- what each of these has, each part that counts has
  each_other : (size : ℕ) (parts : Parts) → All (λ p. size_of p ≡ size) (others parts) → All (λ x. is_bulky x ≡ true → x.1.size ≡ size) (with_places dl parts)
  each_other size no_parts h = All-nil (λ x. is_bulky x ≡ true → x.1.size ≡ size)
  each_other size (part offset placed parts) h = by (is_one_zst placed) refl (λ all. each_other size parts all) h
    where
      by : (b : Bool) → is_one_zst placed ≡ b
          → (All (λ p. size_of p ≡ size) (others parts) → All (λ x. is_bulky x ≡ true → x.1.size ≡ size) (with_places dl parts)) → All (λ p. size_of p ≡ size) (if b then others parts else placed ∷ others parts)
          → All (λ x. is_bulky x ≡ true → x.1.size ≡ size) (with_places dl (part offset placed parts))
      by true is later all =
          All-cons (λ x. is_bulky x ≡ true → x.1.size ≡ size) (asked_at offset placed) (with_places dl parts)
          (λ counts. absurd (let no : false ≡ true = sym (bulky_is offset placed ∙ ap not is) ∙ counts in cc)) (later all)
      by false is later all =
          All-cons (λ x. is_bulky x ≡ true → x.1.size ≡ size) (asked_at offset placed) (with_places dl parts)
          (λ counts. All-head (λ p. size_of p ≡ size) placed (others parts) all)
          (later (All-tail (λ p. size_of p ≡ size) placed (others parts) all))

  most_others : (parts : Parts) → most_aligned (map extent_of (fields_of parts)) ≡ most_aligned (map extent_of (others parts))
  most_others no_parts = refl
  most_others (part offset placed parts) = ap (max (align_in_bytes placed)) (most_others parts) ∙ by (is_one_zst placed) refl
    where
      by : (b : Bool) → is_one_zst placed ≡ b
          → max (align_in_bytes placed) (most_aligned (map extent_of (others parts))) ≡ most_aligned (map extent_of (if b then others parts else placed ∷ others parts))
      by true is =
          let both = and_parts (size_of placed == 0) (align_in_bytes placed == 1) is in
          let one : align_in_bytes placed ≡ 1 = eqb-true (align_in_bytes placed) 1 both.1 in
          let some : 1 ≤ most_aligned (map extent_of (others parts)) = aligned_some (map extent_of (others parts)) in
          omega arith
      by false is = refl

  -- ---- the struct

  -- the size is a multiple of the alignment
  abbrev Fits : Placed → Type 0
  Fits p = 2 ^ (layout_of p).align.abi ∣ size_of p

  -- so it is of each field that counts
  all_fit : (ts : Trees) (parts : Parts) → HasPartForEach ts parts → OfEach dl (λ t p. IsLawfulLayout dl (layout_of p)) ts parts → All Fits (others parts)
  all_fit no_trees no_parts each h = All-nil Fits
  all_fit no_trees (part offset placed parts) each h = absurd each
  all_fit (more_trees t ts) no_parts each h = absurd each
  all_fit (more_trees t ts) (part offset placed parts) each h = by (is_one_zst placed) (all_fit ts parts each h.1)
    where
      by : (b : Bool) → All Fits (others parts) → All Fits (if b then others parts else placed ∷ others parts)
      by true rest = rest
      by false rest = All-cons Fits placed (others parts) h.0.0.multiple rest

  row_count : (parts : Parts) (size align : ℕ) (row : LieInARow dl None 0 parts size align) → count_by is_bulky row.ordered ≡ length (others parts)
  row_count parts size align row =
      sum_by-IsPermutation (λ y. cond (is_bulky y) 1 0) (with_places dl parts) row.ordered row.permuted ∙ count_others parts

  -- what a row of these fields comes to
  as_large : (parts : Parts) (size align : ℕ) (list : List Placed) → others parts ≡ list → All Fits list
      → 2 ^ align ≡ max 1 (most_aligned (map extent_of (fields_of parts))) → LieInARow dl None 0 parts size align
      → (whole : Placed) → extent_of whole ≡ (let e : Extent = record { size = size; align = 2 ^ align } in e) → IsAsLargeAs list whole
  as_large parts size align [] is fit high row whole own =
      let none : count_by is_bulky row.ordered ≡ 0 = row_count parts size align row ∙ ap length is in
      let end : row_end 0 row.ordered ≡ 0 = no_room 0 row.ordered none row.row in
      let empty : size ≡ 0 = row.extent ∙ ap (λ n. next_multiple_of n (2 ^ align)) end ∙ round_multiple 0 align (dvd-zero (2 ^ align)) in
      let one : 2 ^ align ≡ 1 = high ∙ ap (max 1) (most_others parts ∙ ap (λ ps. most_aligned (map extent_of ps)) is) in
      own ∙ ap₂ (λ (n a : ℕ). let e : Extent = record { size = n; align = a } in e) empty one
  as_large parts size align (field ∷ []) is fit high row whole own =
      let one : count_by is_bulky row.ordered ≡ 1 = row_count parts size align row ∙ ap length is in
      let P : ℕ × Part → Type 0 = λ x. is_bulky x ≡ true → x.1.size ≡ size_of field in
      let sizes : All (λ p. size_of p ≡ size_of field) (others parts) =
      subst (All (λ p. size_of p ≡ size_of field)) (sym is) (All-cons (λ p. size_of p ≡ size_of field) field [] refl (All-nil (λ p. size_of p ≡ size_of field))) in
      let each : All P row.ordered = All-permutation P (with_places dl parts) row.ordered row.permuted (each_other (size_of field) parts sizes) in
      let end : row_end 0 row.ordered ≡ size_of field = one_room (size_of field) row.ordered each one row.row in
      let some : 0 < align_in_bytes field = pow_pos (layout_of field).align.abi in
      let alone : max 1 (max (align_in_bytes field) 1) ≡ align_in_bytes field = omega arith in
      let same : 2 ^ align ≡ align_in_bytes field = high ∙ ap (max 1) (most_others parts ∙ ap (λ ps. most_aligned (map extent_of ps)) is) ∙ alone in
      let large : size ≡ size_of field =
      row.extent ∙ ap₂ next_multiple_of end same ∙ round_multiple (size_of field) (layout_of field).align.abi (All-head Fits field [] fit) in
      own ∙ ap₂ (λ (n a : ℕ). let e : Extent = record { size = n; align = a } in e) large same
  as_large parts size align (f ∷ g ∷ more) is fit high row whole own = tt

  fields_of-parts_at : (os : List ℕ) (ps : List Placed) → length os ≡ length ps → fields_of (parts_at os ps) ≡ ps
  fields_of-parts_at [] [] e = refl
  fields_of-parts_at [] (p ∷ ps) e = absurd (omega arith)
  fields_of-parts_at (o ∷ os) [] e = absurd (omega arith)
  fields_of-parts_at (o ∷ os) (p ∷ ps) e = ap (λ (qs : List Placed). p ∷ qs) (fields_of-parts_at os ps (omega arith))

  -- what a row of these fields is seen as
  all_settled : (ts : Trees) (os : List ℕ) (ps : List Placed) → length os ≡ length ps → AreLaying dl ts (Ok ps) → OfEach dl (λ t p. IsLawfulLayout dl (layout_of p)) ts (parts_at os ps)
      → All (IsSettled dl) ps
  all_settled ts os ps e are h =
      λ k d lt. (each_plain dl ts os ps e are h k d lt, all_lawful ts os ps e h are k d lt)
    where
      all_lawful : (ts : Trees) (os : List ℕ) (ps : List Placed) → length os ≡ length ps → OfEach dl (λ t p. IsLawfulLayout dl (layout_of p)) ts (parts_at os ps) → AreLaying dl ts (Ok ps)
          → All (λ p. IsLawfulLayout dl (layout_of p)) ps
      all_lawful no_trees os [] e h are = All-nil (λ p. IsLawfulLayout dl (layout_of p))
      all_lawful no_trees os (p ∷ ps) e h are = absurd (cc are)
      all_lawful (more_trees t ts) os ps e h (inl f) = absurd (cc f.2)
      all_lawful (more_trees t ts) os ps e h (inr (q, here, inl f)) = absurd (cc f.2)
      all_lawful (more_trees t ts) os [] e h (inr (q, here, inr (rest, later, is))) = absurd (cc)
      all_lawful (more_trees t ts) [] (p ∷ ps) e h (inr (q, here, inr (rest, later, is))) = absurd (omega (arith, e))
      all_lawful (more_trees t ts) (o ∷ os) (p ∷ ps) e h (inr (q, here, inr (rest, later, is))) =
          let more : rest ≡ ps = cc in
          All-cons (λ p. IsLawfulLayout dl (layout_of p)) p ps h.0.0
          (all_lawful ts os ps (omega (arith, e)) h.1 (subst (λ xs. AreLaying dl ts (Ok xs)) more later))

  others_settled : (parts : Parts) → All (IsSettled dl) (fields_of parts) → All (IsSettled dl) (others parts)
  others_settled no_parts h = All-nil (IsSettled dl)
  others_settled (part offset p parts) h = by (is_one_zst p) (others_settled parts (All-tail (IsSettled dl) p (fields_of parts) h))
    where
      by : (b : Bool) → All (IsSettled dl) (others parts) → All (IsSettled dl) (if b then others parts else p ∷ others parts)
      by true rest = rest
      by false rest = All-cons (IsSettled dl) p (others parts) (All-head (IsSettled dl) p (fields_of parts) h) rest

  fields_sized : (ps : List Placed) → All (IsSettled dl) ps → any_unsized (asked_of dl (map layout_of ps)) ≡ false
  fields_sized ps h = all_sized dl ps (λ k d lt. plain_sized _ _ (h k d lt).0)

  as_seen : (parts : Parts) (size align : ℕ) (list : List Placed) → others parts ≡ list → All (IsSettled dl) (fields_of parts) → LieInARow dl None 0 parts size align
      → (whole : Placed) → IsAsLargeAs list whole → size_of whole ≡ size → (layout_of whole).align.abi ≡ align
      → (layout_of whole).backend_repr ≡ list_view dl false size align (asked dl parts) (offsets_of parts) → IsSeenAsField list whole
  as_seen parts size align [] is settled row whole large s a view =
      view ∙ seen_as_none dl parts (fields_sized (fields_of parts) settled) size align (sym s ∙ ap (λ (e : Extent). e.size) large)
  as_seen parts size align (field ∷ []) is settled row whole large s a view =
      let first : All IsFirst row.ordered = at_first row.ordered (row_count parts size align row ∙ ap length is) row.row in
      let zeros : All IsFirst (with_places dl parts) =
      All-permutation IsFirst row.ordered (with_places dl parts) (IsPermutation-sym (with_places dl parts) row.ordered row.permuted) first in
      let own : IsSettled dl field = All-head (IsSettled dl) field [] (subst (All (IsSettled dl)) is (others_settled parts settled)) in
      let exponent : align ≡ (layout_of field).align.abi = sym a ∙ same_exponent (layout_of whole).align.abi (layout_of field).align.abi (ap (λ (e : Extent). e.align) large) in
      view ∙ seen_as_one dl parts settled (fields_sized (fields_of parts) settled) field is own zeros size align (sym s ∙ ap (λ (e : Extent). e.size) large) exponent
  as_seen parts size align (f ∷ g ∷ more) is settled row whole large s a view = tt

  -- ---- its niche

  -- a type without bytes has none
  no_niche_by : (o : Option Niche) (size : ℕ) → IfSome o (IsLawfulNiche dl size) → size ≡ 0 → o ≡ None
  no_niche_by None size h none = refl
  no_niche_by (Some n) size h none =
      absurd (let some : 1 ≤ niche_size dl n = some_bytes dl n.value h.pointer in omega (arith, some, h.inside, none))

  have_none : (ps : List Placed) → All (IsSettled dl) ps → All HasNone (asked_of dl (map layout_of ps))
  have_none [] h = All-nil HasNone
  have_none (p ∷ ps) h =
      All-cons HasNone (part_of dl (layout_of p)) (asked_of dl (map layout_of ps))
      (λ e. no_niche_by (layout_of p).largest_niche (size_of p) (All-head (IsSettled dl) p ps h).1.niche (no_room_for (part_of dl (layout_of p)) e).0)
      (have_none ps (All-tail (IsSettled dl) p ps h))

  counts_is : (p : Placed) → counts (part_of dl (layout_of p)) ≡ not (is_one_zst p)
  counts_is p = ap (λ b. not ((size_of p == 0) && b)) (sym (one_by (layout_of p).align.abi))

  count_asked : (parts : Parts) → count_by counts (asked dl parts) ≡ length (others parts)
  count_asked no_parts = refl
  count_asked (part offset placed parts) =
      sum_by-cons (λ q. cond (counts q) 1 0) (part_of dl (layout_of placed)) (asked dl parts)
      ∙ ap₂ (λ (m n : ℕ). m + n) (ap (λ b. cond b 1 0) (counts_is placed)) (count_asked parts) ∙ by (is_one_zst placed)
    where
      by : (b : Bool) → cond (not b) 1 0 + length (others parts) ≡ length (if b then others parts else placed ∷ others parts)
      by true = omega arith
      by false = omega arith

  each_niche : (niche : Option Niche) (parts : Parts) → All (λ p. niche_of p ≡ niche) (others parts) → All (λ q. counts q ≡ true → q.largest_niche ≡ niche) (asked dl parts)
  each_niche niche no_parts h = All-nil (λ q. counts q ≡ true → q.largest_niche ≡ niche)
  each_niche niche (part offset placed parts) h = by (is_one_zst placed) refl (λ all. each_niche niche parts all) h
    where
      by : (b : Bool) → is_one_zst placed ≡ b
          → (All (λ p. niche_of p ≡ niche) (others parts) → All (λ q. counts q ≡ true → q.largest_niche ≡ niche) (asked dl parts))
          → All (λ p. niche_of p ≡ niche) (if b then others parts else placed ∷ others parts)
          → All (λ q. counts q ≡ true → q.largest_niche ≡ niche) (asked dl (part offset placed parts))
      by true is later all =
          All-cons (λ q. counts q ≡ true → q.largest_niche ≡ niche) (part_of dl (layout_of placed)) (asked dl parts)
          (λ own. absurd (let no : false ≡ true = sym (counts_is placed ∙ ap not is) ∙ own in cc)) (later all)
      by false is later all =
          All-cons (λ q. counts q ≡ true → q.largest_niche ≡ niche) (part_of dl (layout_of placed)) (asked dl parts)
          (λ own. All-head (λ p. niche_of p ≡ niche) placed (others parts) all)
          (later (All-tail (λ p. niche_of p ≡ niche) placed (others parts) all))

  as_niche : (by : ReprOptions) (kind : StructKind) (parts : Parts) (list : List Placed) → by.pack ≡ None → start_of None kind ≡ 0 → others parts ≡ list
      → All (IsSettled dl) (fields_of parts) → (whole : Placed) → HasNicheIn dl by kind (asked dl parts) (niche_of whole) → HasNicheOf list whole
  as_niche by kind parts [] loose start is settled whole h =
      h.is ∙ ap (λ pack. greatest_niche h.bias dl (offsets_from pack (start_of pack kind) (in_order (asked dl parts) h.order)) (in_order (asked dl parts) h.order)) loose
      ∙ ap (λ n. greatest_niche h.bias dl (offsets_from None n (in_order (asked dl parts) h.order)) (in_order (asked dl parts) h.order)) start
      ∙ niche_of_none dl h.bias (asked dl parts) h.order h.permutes (count_asked parts ∙ ap length is) (have_none (fields_of parts) settled)
  as_niche by kind parts (field ∷ []) loose start is settled whole h =
      h.is ∙ ap (λ pack. greatest_niche h.bias dl (offsets_from pack (start_of pack kind) (in_order (asked dl parts) h.order)) (in_order (asked dl parts) h.order)) loose
      ∙ ap (λ n. greatest_niche h.bias dl (offsets_from None n (in_order (asked dl parts) h.order)) (in_order (asked dl parts) h.order)) start
      ∙ niche_of_one dl h.bias (asked dl parts) h.order h.permutes (niche_of field) (count_asked parts ∙ ap length is) (have_none (fields_of parts) settled)
      (each_niche (niche_of field) parts
      (subst (All (λ p. niche_of p ≡ niche_of field)) (sym is) (All-cons (λ p. niche_of p ≡ niche_of field) field [] refl (All-nil (λ p. niche_of p ≡ niche_of field)))))
  as_niche by kind parts (f ∷ g ∷ more) loose start is settled whole h = tt

  pack_alike : (repr by : ReprOptions) → (by ≡ repr) ⊎ (by ≡ with_randomize_flag repr) → by.pack ≡ repr.pack
  pack_alike repr by (inl e) = ap (λ (r : ReprOptions). r.pack) e
  pack_alike repr by (inr e) = ap (λ (r : ReprOptions). r.pack) e

  struct_niche : (repr : ReprOptions) (always_sized : Bool) (order : Option (List ℕ)) (all : Trees) (p : Placed) → (s : IsSeenStruct dl repr all p)
      → Within dl (λ t p. IsLawfulLayout dl (layout_of p)) (struct repr always_sized order all) (placed_fields repr s.fields s.layout)
      → repr.pack ≡ None → HasNicheOf (others (parts_in (placed_fields repr s.fields s.layout))) (placed_fields repr s.fields s.layout)
  struct_niche repr always_sized order all p s inside loose =
      let os : List ℕ = listed_offsets s.layout.fields in
      let parts : Parts = parts_at os s.fields in
      let here : fields_of parts ≡ s.fields = fields_of-parts_at os s.fields s.count in
      let settled : All (IsSettled dl) (fields_of parts) = subst (All (IsSettled dl)) (sym here) (all_settled all os s.fields s.count s.are inside) in
      as_niche s.by s.kind parts (others parts) (pack_alike repr s.by s.alike ∙ loose) s.starts refl settled (placed_fields repr s.fields s.layout)
      (subst (λ ps. HasNicheIn dl s.by s.kind (asked_of dl (map layout_of ps)) s.layout.largest_niche) (sym here) s.niche)

  struct_seen_as : (repr : ReprOptions) (always_sized : Bool) (order : Option (List ℕ)) (all : Trees) (p : Placed) → (s : IsSeenStruct dl repr all p)
      → LiesAsAsked dl (struct repr always_sized order all) (placed_fields repr s.fields s.layout)
      → Within dl (λ t p. IsLawfulLayout dl (layout_of p)) (struct repr always_sized order all) (placed_fields repr s.fields s.layout)
      → repr.pack ≡ None → is_c repr ≡ false → is_simd repr ≡ false
      → IsAsLargeAs (others (parts_in (placed_fields repr s.fields s.layout))) (placed_fields repr s.fields s.layout)
      → IsSeenAsField (others (parts_in (placed_fields repr s.fields s.layout))) (placed_fields repr s.fields s.layout)
  struct_seen_as repr always_sized order all p s lies inside loose c v large =
      let os : List ℕ = listed_offsets s.layout.fields in
      let parts : Parts = parts_at os s.fields in
      let here : fields_of parts ≡ s.fields = fields_of-parts_at os s.fields s.count in
      let settled : All (IsSettled dl) (fields_of parts) = subst (All (IsSettled dl)) (sym here) (all_settled all os s.fields s.count s.are inside) in
      let view : s.layout.backend_repr ≡ list_view dl false s.layout.size s.layout.align.abi (asked dl parts) (offsets_of parts) =
      s.view ∙ ap₂ (λ f ps. list_view dl f s.layout.size s.layout.align.abi (asked_of dl (map layout_of ps)) s.offsets) (passed_by repr s.by s.alike c v) (sym here)
      ∙ ap (list_view dl false s.layout.size s.layout.align.abi (asked dl parts)) (sym s.at ∙ sym (offsets_of-parts_at os s.fields s.count)) in
      as_seen parts s.layout.size s.layout.align.abi (others parts) refl settled
      (subst (λ pack. LieInARow dl pack 0 parts s.layout.size s.layout.align.abi) loose
      (struct_row dl repr always_sized order all s.layout (mark_of false repr) parts lies))
      (placed_fields repr s.fields s.layout) large refl refl view

  struct_as_large : dl.aggregate_align ≡ 0 → (repr : ReprOptions) (always_sized : Bool) (order : Option (List ℕ)) (all : Trees) (p : Placed)
      → (s : IsStruct dl repr all p) → LiesAsAsked dl (struct repr always_sized order all) (placed_fields repr s.fields s.layout)
      → Within dl (λ t p. IsLawfulLayout dl (layout_of p)) (struct repr always_sized order all) (placed_fields repr s.fields s.layout)
      → IsPlainTransparent repr → IsAsLargeAs (others (parts_in (placed_fields repr s.fields s.layout))) (placed_fields repr s.fields s.layout)
  struct_as_large byte repr always_sized order all p s asked inside = λ plain.
      let parts : Parts = parts_at (listed_offsets s.layout.fields) s.fields in
      let least : least_align dl repr ≡ 0 =
      ap₂ (λ (pack raised : Option ℕ). max (if is_some pack then dl.i8_align else dl.aggregate_align) (unwrap_or raised 0)) plain.2 plain.1 ∙ omega (arith, byte) in
      let high : 2 ^ s.layout.align.abi ≡ max 1 (most_aligned (map extent_of (fields_of parts))) =
      ap align_in_bytes s.is ∙ s.align
      ∙ ap₂ (λ (a : ℕ) (pack : Option ℕ). max (2 ^ a) (most_aligned (extents_for pack s.fields))) least plain.2
      ∙ ap (λ ps. max 1 (most_aligned (map extent_of ps))) (sym (fields_of-parts_at (listed_offsets s.layout.fields) s.fields s.count)) in
      as_large parts s.layout.size s.layout.align.abi (others parts) refl (all_fit all parts (struct_parts dl repr all p s) inside) high
      (subst (λ pack. LieInARow dl pack 0 parts s.layout.size s.layout.align.abi) plain.2
      (struct_row dl repr always_sized order all s.layout (mark_of false repr) parts asked))
      (placed_fields repr s.fields s.layout) refl

  -- ---- enums of one variant

  abbrev IsAnswerOn : ReprOptions → List ℕ → EnumStrategy → List (List Placed) → Layout → Type 0
  IsAnswerOn repr numbers strategy variants layout =
      IsTypeAnswer layout_of (λ i. i) (λ i. i) (λ i. i) (λ i. i) dl repr variants true true Enabled (IsAsking dl repr) (λ items. items ≡ numbered_from 0 numbers) strategy (Ok layout)

  lone_path : (repr : ReprOptions) (v : List Placed) → is_free repr ≡ true
      → (strategy_of true repr (layouts_of (v ∷ [])) ≡ NoValue) ⊎ (strategy_of true repr (layouts_of (v ∷ [])) ≡ OneList 0)
  lone_path repr v free = by (is_present repr (variant_at (layouts_of (v ∷ [])) 0))
    where
      by : (b : Bool) → (strategy_among (is_free repr) (if b then 0 ∷ [] else []) ≡ NoValue) ⊎ (strategy_among (is_free repr) (if b then 0 ∷ [] else []) ≡ OneList 0)
      by true = inr (ap (λ f. strategy_among f (0 ∷ [])) free)
      by false = inl (ap (λ f. strategy_among f []) free)

  -- it has no value, or is that variant's list
  abbrev IsLone : ReprOptions → List Placed → Layout → Type 0
  IsLone repr v layout =
      (layout ≡ never_layout dl)
      ⊎ ((layout.variants ≡ Single 0) × (length (listed_offsets layout.fields) ≡ length v)
      × (layout.backend_repr ≡ list_view dl (is_abi_fixed repr) layout.size layout.align.abi (asked_of dl (map layout_of v)) (listed_offsets layout.fields))
      × HasNicheIn dl repr AlwaysSized (asked_of dl (map layout_of v)) layout.largest_niche)

  lone_answer : (repr : ReprOptions) (numbers : List ℕ) (strategy : EnumStrategy) (v : List Placed) (layout : Layout) → (strategy ≡ NoValue) ⊎ (strategy ≡ OneList 0)
      → IsAnswerOn repr numbers strategy (v ∷ []) layout → IsLone repr v layout
  lone_answer repr numbers NoValue v layout at e = inl (inj-answer layout (never_layout dl) e)
  lone_answer repr numbers (OneList zero) v layout at e =
      inr (subst (λ (l : Layout). (l.variants ≡ Single 0) × (length (listed_offsets l.fields) ≡ length v)
      × (l.backend_repr ≡ list_view dl (is_abi_fixed repr) l.size l.align.abi (asked_of dl (map layout_of v)) (listed_offsets l.fields))
      × HasNicheIn dl repr AlwaysSized (asked_of dl (map layout_of v)) l.largest_niche) (sym e.2)
      (refl, list_count dl repr AlwaysSized v e.0 e.1, lone_view e.0 e.1, lone_niche e.0 e.1))
    where
      lone_niche : (l : Layout) → IsUnivariantAnswer layout_of (λ i. i) 0 dl repr AlwaysSized v (Ok l) → HasNicheIn dl repr AlwaysSized (asked_of dl (map layout_of v)) l.largest_niche
      lone_niche l (order, offsets, h) =
          run_niche dl repr AlwaysSized (asked_of dl (map layout_of v)) h.named.0 order offsets l.size l.align.abi l.largest_niche tt h.named.1 h.named.3

      lone_view : (l : Layout) → IsUnivariantAnswer layout_of (λ i. i) 0 dl repr AlwaysSized v (Ok l)
          → l.backend_repr ≡ list_view dl (is_abi_fixed repr) l.size l.align.abi (asked_of dl (map layout_of v)) (listed_offsets l.fields)
      lone_view l (order, offsets, h) =
          h.view ∙ ap (list_view dl (is_abi_fixed repr) l.size l.align.abi (asked_of dl (map layout_of v))) (sym (ap listed_offsets h.shape))
  lone_answer repr numbers (OneList (suc i)) v layout (inl none) e = absurd (cc none)
  lone_answer repr numbers (OneList (suc i)) v layout (inr other) e = absurd (cc other)
  lone_answer repr numbers Several v layout (inl none) e = absurd (cc none)
  lone_answer repr numbers Several v layout (inr other) e = absurd (cc other)

  module _ (byte : dl.aggregate_align ≡ 0) (law : IsLawfulDataLayout dl) (repr : ReprOptions) (d : ℕ) (ts : Trees) where
    abbrev lone : Variants
    lone = more_variants d ts no_variants

    abbrev numbers : List ℕ
    numbers = discriminants_of lone

    free_alone : IsOnlyField repr → is_free repr ≡ true
    free_alone alone = ap₂ (λ (b : Bool) (o : Option IntegerType). not (b || is_some o)) alone.0 alone.1

    one_as_large : (v : List Placed) (layout : Layout) → AreLaying dl ts (Ok v) → length (listed_offsets layout.fields) ≡ length v
        → LiesAsAsked dl (enum repr lone) (placed_variants dl repr numbers (v ∷ []) layout (Single 0))
        → Within dl (λ t p. IsLawfulLayout dl (layout_of p)) (enum repr lone) (placed_variants dl repr numbers (v ∷ []) layout (Single 0))
        → IsPlainTransparent repr → IsAsLargeAs (others (parts_at (listed_offsets layout.fields) v)) (placed_variants dl repr numbers (v ∷ []) layout (Single 0))
    one_as_large v layout are count asked inside plain =
        let parts : Parts = parts_at (listed_offsets layout.fields) v in
        let begin : ℕ = max (max (own_align dl repr) (unwrap_or repr.align 0)) (prefix_align repr.pack AlwaysSized) in
        let least : begin ≡ 0 =
        ap₂ (λ (pack raised : Option ℕ). max (max (if is_some pack then dl.i8_align else dl.aggregate_align) (unwrap_or raised 0)) 0) plain.2 plain.1 ∙ omega (arith, byte) in
        let high : 2 ^ layout.align.abi ≡ max 1 (most_aligned (map extent_of (fields_of parts))) =
        ap (λ a. 2 ^ a) asked.1.alignment ∙ align_same dl repr.pack begin (fields_of parts)
        ∙ ap₂ (λ (a : ℕ) (pack : Option ℕ). max (2 ^ a) (most_aligned (extents_for pack (fields_of parts)))) least plain.2 in
        as_large parts layout.size layout.align.abi (others parts) refl
        (all_fit ts parts (part_for_each dl ts (listed_offsets layout.fields) v count are) inside.0) high
        (subst (λ pack. LieInARow dl pack 0 parts layout.size layout.align.abi) plain.2
        (row_of dl repr AlwaysSized 0 parts asked.0 layout.size layout.align.abi refl asked.1))
        (placed_variants dl repr numbers (v ∷ []) layout (Single 0)) refl

    one_seen_as : (v : List Placed) (layout : Layout) → AreLaying dl ts (Ok v) → length (listed_offsets layout.fields) ≡ length v
        → layout.backend_repr ≡ list_view dl (is_abi_fixed repr) layout.size layout.align.abi (asked_of dl (map layout_of v)) (listed_offsets layout.fields)
        → LiesAsAsked dl (enum repr lone) (placed_variants dl repr numbers (v ∷ []) layout (Single 0))
        → Within dl (λ t p. IsLawfulLayout dl (layout_of p)) (enum repr lone) (placed_variants dl repr numbers (v ∷ []) layout (Single 0))
        → repr.pack ≡ None → is_c repr ≡ false → is_simd repr ≡ false
        → IsAsLargeAs (others (parts_at (listed_offsets layout.fields) v)) (placed_variants dl repr numbers (v ∷ []) layout (Single 0))
        → IsSeenAsField (others (parts_at (listed_offsets layout.fields) v)) (placed_variants dl repr numbers (v ∷ []) layout (Single 0))
    one_seen_as v layout are count seen lies inside loose c simd large =
        let os : List ℕ = listed_offsets layout.fields in
        let parts : Parts = parts_at os v in
        let here : fields_of parts ≡ v = fields_of-parts_at os v count in
        let settled : All (IsSettled dl) (fields_of parts) = subst (All (IsSettled dl)) (sym here) (all_settled ts os v count are inside.0) in
        let view : layout.backend_repr ≡ list_view dl false layout.size layout.align.abi (asked dl parts) (offsets_of parts) =
        seen ∙ ap₂ (λ f ps. list_view dl f layout.size layout.align.abi (asked_of dl (map layout_of ps)) os) (passed_by repr repr (inl refl) c simd) (sym here)
        ∙ ap (list_view dl false layout.size layout.align.abi (asked dl parts)) (sym (offsets_of-parts_at os v count)) in
        as_seen parts layout.size layout.align.abi (others parts) refl settled
        (subst (λ pack. LieInARow dl pack 0 parts layout.size layout.align.abi) loose
        (row_of dl repr AlwaysSized 0 parts lies.0 layout.size layout.align.abi refl lies.1))
        (placed_variants dl repr numbers (v ∷ []) layout (Single 0)) large refl refl view

    one_niche_as : (v : List Placed) (layout : Layout) → AreLaying dl ts (Ok v) → length (listed_offsets layout.fields) ≡ length v
        → HasNicheIn dl repr AlwaysSized (asked_of dl (map layout_of v)) layout.largest_niche
        → Within dl (λ t p. IsLawfulLayout dl (layout_of p)) (enum repr lone) (placed_variants dl repr numbers (v ∷ []) layout (Single 0))
        → repr.pack ≡ None → HasNicheOf (others (parts_at (listed_offsets layout.fields) v)) (placed_variants dl repr numbers (v ∷ []) layout (Single 0))
    one_niche_as v layout are count niche inside loose =
        let os : List ℕ = listed_offsets layout.fields in
        let parts : Parts = parts_at os v in
        let here : fields_of parts ≡ v = fields_of-parts_at os v count in
        let settled : All (IsSettled dl) (fields_of parts) = subst (All (IsSettled dl)) (sym here) (all_settled ts os v count are inside.0) in
        as_niche repr AlwaysSized parts (others parts) loose refl refl settled (placed_variants dl repr numbers (v ∷ []) layout (Single 0))
        (subst (λ ps. HasNicheIn dl repr AlwaysSized (asked_of dl (map layout_of ps)) layout.largest_niche) (sym here) niche)

    abbrev Holds : Placed → Type 0
    Holds q = LiesAsAsked dl (enum repr lone) q → Within dl (λ t p. IsLawfulLayout dl (layout_of p)) (enum repr lone) q → IsTransparent (enum repr lone) q

    given : (v : List Placed) (layout : Layout) (vs : LayoutVariants ℕ ℕ) → layout.variants ≡ vs → AreLaying dl ts (Ok v) → (IsOnlyField repr → IsLone repr v layout)
        → Holds (placed_variants dl repr numbers (v ∷ []) layout vs)
    given v layout Empty e are lies asked inside = λ plain alone. by (lies alone)
      where
        by : IsLone repr v layout → IsLaidAs repr [] (nowhere layout (mark_of true repr))
        by (inl is) = (
          ap (λ (l : Layout). let x : Extent = record { size = l.size; align = 2 ^ l.align.abi } in x) is
              ∙ ap (λ a. let x : Extent = record { size = 0; align = 2 ^ a } in x) (byte_align dl law),
          ap (λ (l : Layout). l.largest_niche) is,
          λ c v. ap (λ (l : Layout). l.backend_repr) is,
        )
        by (inr is) = absurd (let bad : Empty ≡ Single 0 = sym e ∙ is.0 in cc)
    given v layout (Single zero) e are lies lies_so inside = λ plain alone. by plain (lies alone)
      where
        by : IsPlainTransparent repr → IsLone repr v layout
            → IsLaidAs repr (others (parts_at (listed_offsets layout.fields) v)) (placed_variants dl repr numbers (v ∷ []) layout (Single 0))
        by plain (inl is) = absurd (let bad : Empty ≡ Single 0 = sym (ap (λ (l : Layout). l.variants) is) ∙ e in cc)
        by plain (inr is) =
            let large = one_as_large v layout are is.1 lies_so inside plain in
            (large, one_niche_as v layout are is.1 is.3 inside plain.2, λ c simd. one_seen_as v layout are is.1 is.2 lies_so inside plain.2 c simd large)
    given v layout (Single (suc i)) e are lies asked inside = λ plain alone. absurd (by (lies alone))
      where
        by : IsLone repr v layout → ⊥
        by (inl is) = absurd (let bad : Empty ≡ Single (suc i) = sym (ap (λ (l : Layout). l.variants) is) ∙ e in cc)
        by (inr is) = absurd (let bad : Single (suc i) ≡ Single 0 = sym e ∙ is.0 in cc)
    given v layout (Multiple tag encoding field layouts) e are lies asked inside = λ plain alone. by (lies alone)
      where
        by : IsLone repr v layout → ⊥
        by (inl is) = absurd (let bad : Empty ≡ Multiple tag encoding field layouts = sym (ap (λ (l : Layout). l.variants) is) ∙ e in cc)
        by (inr is) = absurd (let bad : Multiple tag encoding field layouts ≡ Single 0 = sym e ∙ is.0 in cc)

    lone_laid : (variants : List (List Placed)) (layout : Layout) → VariantsLaying dl lone (Ok variants) → IsEnumed dl repr numbers variants (Ok layout)
        → Holds (placed_enum dl repr numbers variants layout)
    lone_laid variants layout (inl f) h = absurd (cc f.2)
    lone_laid variants layout (inr (ps, here, inl f)) h = absurd (cc f.2)
    lone_laid variants layout (inr (ps, here, inr (rest, last, is))) h =
        let same : variants ≡ ps ∷ [] = cc in
        let answer : IsEnumed dl repr numbers (ps ∷ []) (Ok layout) = subst (λ vs. IsEnumed dl repr numbers vs (Ok layout)) same h in
        subst (λ vs. Holds (placed_enum dl repr numbers vs layout)) (sym same)
        (given ps layout layout.variants refl here (λ alone.
        lone_answer repr numbers (strategy_of true repr (layouts_of (ps ∷ []))) ps layout (lone_path repr ps (free_alone alone)) answer))

    lone_transparent : (p : Placed) → IsLaying dl (enum repr lone) (Ok p) → Holds p
    lone_transparent p (inl f) = absurd (cc f.2)
    lone_transparent p (inr (variants, there, answer)) =
        let found = laid_by (enum_fault dl repr numbers variants) (IsEnumed dl repr numbers variants) (placed_enum dl repr numbers variants) p answer in
        subst Holds found.2 (lone_laid variants found.0 there found.1)

  pub known_transparent : dl.aggregate_align ≡ 0 → IsLawfulDataLayout dl → (t : Tree) (p : Placed) → IsLaying dl t (Ok p) → LiesAsAsked dl t p
      → Within dl (λ t p. IsLawfulLayout dl (layout_of p)) t p → IsTransparent t p
  known_transparent byte law (struct repr always_sized order all) p h asked inside =
      let s = struct_laid dl repr always_sized order all p h in
      let ss = struct_seen dl repr always_sized order all p h in
      let t : Tree = struct repr always_sized order all in
      let large : IsPlainTransparent repr → IsAsLargeAs (others (parts_in p)) p =
      subst (λ q. LiesAsAsked dl t q → Within dl (λ t p. IsLawfulLayout dl (layout_of p)) t q → IsPlainTransparent repr → IsAsLargeAs (others (parts_in q)) q) s.is
      (λ own inner. struct_as_large byte repr always_sized order all p s own inner) asked inside in
      subst (λ q. LiesAsAsked dl t q → Within dl (λ t p. IsLawfulLayout dl (layout_of p)) t q → (IsPlainTransparent repr → IsAsLargeAs (others (parts_in q)) q) → IsTransparent t q) ss.is
      (λ own inner has. λ plain. (has plain, struct_niche repr always_sized order all p ss inner plain.2, λ c v. struct_seen_as repr always_sized order all p ss own inner plain.2 c v (has plain))) asked inside large
  known_transparent byte law (enum repr (more_variants d ts no_variants)) p h asked inside = lone_transparent byte law repr d ts p h asked inside
  known_transparent byte law (enum repr (more_variants d ts (more_variants e us rest))) p h asked inside = tt
  known_transparent byte law (coroutine prefix locals each conflicts) p h asked inside = tt
  known_transparent byte law _ p h asked inside = tt
