-- A list of sized fields of which one has bytes is seen as that field is.
use Rattle.std.proofs.Common.{◌≡◌, ℕ, ◌+◌, ◌<◌, ◌≤◌, Bool, true, false, cond, List, [], ◌∷◌, get_or, length, map, refl, sym, ap, ap₂, ◌∙◌, subst, arith, ⊎_elim}
use Rattle.std.specs.Prelude.{◌==◌, ◌&&◌, All, count_by, not, if◌then◌else◌}
use Rattle.std.proofs.lemmas.Bool.{and_parts, cases_lt, eq-eqb, eqb-false, eqb-true, ne_eqb}
use Rattle.std.proofs.lemmas.List.{length-map}
use Rattle.std.proofs.lemmas.List.Elements.{All-cons, All-filter, All-head, All-nil, All-tail, filter_passes}
use Rattle.std.proofs.lemmas.List.FromFn.{get_or-range_with_len, length-range_with_len}
use Rattle.std.proofs.lemmas.List.Sums.{length-filter, sum_by-cons}
use Rattle.abi_base.specs.declared.data_layout.TargetDataLayout.{TargetDataLayout}
use Rattle.abi_scalar.specs.declared.backend_repr.BackendRepr.{BackendRepr}
use Rattle.abi_scalar.specs.declared.backend_repr.BackendRepr.TheVariants.{Scalar as OneScalar, ScalarPair, SimdScalableVector, SimdVector, Memory}
use Rattle.abi_scalar.specs.Lawful.{IsLawfulLayout, IsLawfulView}
use Rattle.abi_scalar.specs.Scalar.{primitive_of, scalar_size}
use Rattle.abi_univariant.specs.declared.part.Part.{Part}
use Rattle.abi_univariant.specs.ListView.{any_unsized, bulky_parts, bulky_view, is_bulky as is_seen_bulky, kept_view, list_view, one_view, part_at}
use Rattle.abi_univariant.specs.Part.{is_empty_view, part_of}
use Rattle.abi_univariant.specs.Placement.{no_part, source_order}
use Rattle.abi_tree.specs.Placed.{Placed, Parts, no_parts, part, layout_of, size_of}
use Rattle.rustc_abi.specs.Least.{fields_of}
use Rattle.rustc_abi.specs.Lists.{offsets_of, types_of}
use Rattle.guarantees.specs.Reference.Words.{align_in_bytes}
use Rattle.guarantees.specs.Reference.Transparent.{is_one_zst, others}
use Rattle.guarantees.proofs.ReferenceLemmas.Rows.{asked, at_index, count_of, in_source_order, read_at, with_places}
use Rattle.guarantees.proofs.ReferenceLemmas.Views.{IsPlain}
use Rattle.guarantees.proofs.ReferenceLemmas.ZeroOut.{some_bytes}

-- ---- views

-- what is no unsized and no scalable view is kept
kept_is : (view : BackendRepr) (size : ℕ) → IsPlain view size → kept_view false view ≡ view
kept_is (SimdScalableVector element count vectors) size h = absurd h
kept_is (Memory true) size h = refl
kept_is (Memory false) size h = absurd (cc)
kept_is _ size h = refl

module _ (dl : TargetDataLayout) where
  -- lawful, and plainly seen
  abbrev pub IsSettled : Placed → Type 0
  IsSettled p = IsPlain (layout_of p).backend_repr (size_of p) × IsLawfulLayout dl (layout_of p)

  -- without bytes it is bytes in memory
  empty_by : (view : BackendRepr) (size : ℕ) → IsPlain view size → IsLawfulView dl size view → size ≡ 0 → view ≡ Memory true
  empty_by (OneScalar s) size h law none = absurd (let some : 1 ≤ scalar_size dl s = some_bytes dl (primitive_of s) law.0.pointer in omega (arith, some, law.1, none))
  empty_by (ScalarPair a b offset) size h law none =
      absurd (let some : 1 ≤ scalar_size dl b = some_bytes dl (primitive_of b) law.1.pointer in omega (arith, some, law.3, none))
  empty_by (SimdVector element count) size h law none = absurd (omega (arith, h, none))
  empty_by (SimdScalableVector element count vectors) size h law none = absurd h
  empty_by (Memory sized) size h law none = ap Memory h

  pub empty_memory : (p : Placed) → IsSettled p → size_of p ≡ 0 → (layout_of p).backend_repr ≡ Memory true
  empty_memory p h none = empty_by (layout_of p).backend_repr (size_of p) h.0 h.1.view none

  abbrev is_bulk : ℕ × Part → Bool
  is_bulk x = is_seen_bulky x.1

  -- a part counts for the view where it has bytes
  bulk_by : (view : BackendRepr) (size : ℕ) → (size == 0) ≡ false → not (is_empty_view view size) ≡ true
  bulk_by (Memory true) size e = ap not e
  bulk_by (Memory false) size e = refl
  bulk_by _ size e = refl

  bulk : (p : Placed) → 0 < size_of p → is_seen_bulky (part_of dl (layout_of p)) ≡ true
  bulk p some = bulk_by (layout_of p).backend_repr (size_of p) (ne_eqb (size_of p) 0 (λ e. absurd (omega (arith, e, some))))

  no_bulk : (p : Placed) → IsSettled p → size_of p ≡ 0 → is_seen_bulky (part_of dl (layout_of p)) ≡ false
  no_bulk p h none = ap₂ (λ v n. not (is_empty_view v n)) (empty_memory p h none) none

  -- ---- which parts count

  counted : (x : ℕ × Part) (row : List (ℕ × Part)) → count_by is_bulk (x ∷ row) ≡ cond (is_bulk x) 1 0 + count_by is_bulk row
  counted x row = sum_by-cons (λ y. cond (is_bulk y) 1 0) x row

  at_of : ℕ → Placed → ℕ × Part
  at_of offset p = (offset, part_of dl (layout_of p))

  -- those that aren't of size 0 and alignment 1, where each of them has bytes
  count_bulk : (parts : Parts) → All IsSettled (fields_of parts) → All (λ p. 0 < size_of p) (others parts) → count_by is_bulk (with_places dl parts) ≡ length (others parts)
  count_bulk no_parts h some = refl
  count_bulk (part offset p parts) h some = by (is_one_zst p) refl some (λ rest. count_bulk parts (All-tail IsSettled p (fields_of parts) h) rest)
    where
      by : (b : Bool) → is_one_zst p ≡ b → All (λ q. 0 < size_of q) (if b then others parts else p ∷ others parts)
          → (All (λ q. 0 < size_of q) (others parts) → count_by is_bulk (with_places dl parts) ≡ length (others parts))
          → count_by is_bulk (with_places dl (part offset p parts)) ≡ length (if b then others parts else p ∷ others parts)
      by true is all later =
          let both = and_parts (size_of p == 0) (align_in_bytes p == 1) is in
          let none : cond {A = ℕ} (is_bulk (offset, part_of dl (layout_of p))) 1 0 ≡ 0 =
          ap (λ (c : Bool). cond {A = ℕ} c 1 0) (no_bulk p (All-head IsSettled p (fields_of parts) h) (eqb-true (size_of p) 0 both.0)) in
          counted (offset, part_of dl (layout_of p)) (with_places dl parts) ∙ omega (arith, none, later all)
      by false is all later =
          let one : cond {A = ℕ} (is_bulk (offset, part_of dl (layout_of p))) 1 0 ≡ 1 =
          ap (λ (c : Bool). cond {A = ℕ} c 1 0) (bulk p (All-head (λ q. 0 < size_of q) p (others parts) all)) in
          counted (offset, part_of dl (layout_of p)) (with_places dl parts)
          ∙ omega (arith, one, later (All-tail (λ q. 0 < size_of q) p (others parts) all))

  -- what holds of each of them holds of each part that counts
  each_bulk : (P : Part → Type 0) (parts : Parts) → All IsSettled (fields_of parts) → All (λ p. P (part_of dl (layout_of p))) (others parts)
      → All (λ x. is_bulk x ≡ true → P x.1) (with_places dl parts)
  each_bulk P no_parts h all = All-nil (λ x. is_bulk x ≡ true → P x.1)
  each_bulk P (part offset p parts) h all = by (is_one_zst p) refl all (λ rest. each_bulk P parts (All-tail IsSettled p (fields_of parts) h) rest)
    where
      by : (b : Bool) → is_one_zst p ≡ b → All (λ q. P (part_of dl (layout_of q))) (if b then others parts else p ∷ others parts)
          → (All (λ q. P (part_of dl (layout_of q))) (others parts) → All (λ x. is_bulk x ≡ true → P x.1) (with_places dl parts))
          → All (λ x. is_bulk x ≡ true → P x.1) (with_places dl (part offset p parts))
      by true is all later =
          let both = and_parts (size_of p == 0) (align_in_bytes p == 1) is in
          All-cons (λ x. is_bulk x ≡ true → P x.1) (offset, part_of dl (layout_of p)) (with_places dl parts)
          (λ counts. absurd (let no : false ≡ true = sym (no_bulk p (All-head IsSettled p (fields_of parts) h) (eqb-true (size_of p) 0 both.0)) ∙ counts in cc)) (later all)
      by false is all later =
          All-cons (λ x. is_bulk x ≡ true → P x.1) (offset, part_of dl (layout_of p)) (with_places dl parts)
          (λ counts. All-head (λ q. P (part_of dl (layout_of q))) p (others parts) all)
          (later (All-tail (λ q. P (part_of dl (layout_of q))) p (others parts) all))

  -- ---- the one that counts

  count_map : (f : ℕ → ℕ × Part) (is : List ℕ) → count_by is_bulk (map f is) ≡ count_by (λ i. is_bulk (f i)) is
  count_map f [] = refl
  count_map f (i ∷ is) =
      counted (f i) (map f is) ∙ ap (λ n. cond (is_bulk (f i)) 1 0 + n) (count_map f is) ∙ sym (sum_by-cons (λ j. cond (is_bulk (f j)) 1 0) i is)

  bulk_count : (parts : Parts) → length (bulky_parts (asked dl parts)) ≡ count_by is_bulk (with_places dl parts)
  bulk_count parts =
      let n : ℕ = length (asked dl parts) in
      let same : n ≡ length (types_of parts) = length-map (types_of parts) (λ l. part_of dl l) in
      length-filter (λ i. is_seen_bulky (part_at (asked dl parts) i)) (source_order n)
      ∙ ap (λ m. count_by (λ i. is_seen_bulky (part_at (asked dl parts) i)) (source_order m)) same
      ∙ sym (count_map (at_index dl parts) (source_order (length (types_of parts))))
      ∙ ap (count_by is_bulk) (in_source_order dl parts)

  both_true : (a b c : Bool) → a ≡ true → b ≡ true → c ≡ true → (a && b && c) ≡ true
  both_true true true true e f g = refl
  both_true true true false e f g = absurd (cc)
  both_true true false c e f g = absurd (cc)
  both_true false b c e f g = absurd (cc)

  taken : (b : Bool) (v w : BackendRepr) → b ≡ true → (if b then v else w) ≡ v
  taken true v w e = refl
  taken false v w e = absurd (cc)

  -- the view by a part that fills the whole
  filled : (size align offset : ℕ) (x : Part) → offset ≡ 0 → align ≡ x.align → size ≡ x.size → one_view false size align offset x ≡ kept_view false x.view
  filled size align offset x o a s =
      taken ((offset == 0) && (align == x.align) && (size == x.size)) (kept_view false x.view) (Memory true)
      (both_true (offset == 0) (align == x.align) (size == x.size) (eq-eqb offset 0 o) (eq-eqb align x.align a) (eq-eqb size x.size s))

  -- a part with bytes isn't of size 0 and alignment 1
  counts_by : (size align : ℕ) → 0 < size → not ((size == 0) && (align == 0)) ≡ true
  counts_by size align some = ap (λ b. not (b && (align == 0))) (ne_eqb size 0 (λ e. absurd (omega (arith, e, some))))

  in_source : (n : ℕ) → All (λ i. i < n) (source_order n)
  in_source n = λ k d lt.
      let long : length (source_order n) ≡ n = length-range_with_len 0 n in
      let is : get_or (source_order n) k d ≡ 0 + k = get_or-range_with_len 0 n k d (omega (arith, lt, long)) in
      omega (arith, lt, long, is)

  module _ (parts : Parts) (settled : All IsSettled (fields_of parts)) (field : Placed) (one : others parts ≡ field ∷ []) (some : 0 < size_of field)
      (first : All (λ x. not ((x.1.size == 0) && (x.1.align == 0)) ≡ true → x.0 ≡ 0) (with_places dl parts)) where
    -- the part at an index that counts is the field, which lies at 0
    there : (i : ℕ) → i < length (with_places dl parts) → is_seen_bulky (part_at (asked dl parts) i) ≡ true
        → (get_or (offsets_of parts) i 0 ≡ 0) × (part_at (asked dl parts) i ≡ part_of dl (layout_of field))
    there i lt counts =
        let Q : Part → Type 0 = λ x. x ≡ part_of dl (layout_of field) in
        let all : All (λ p. Q (part_of dl (layout_of p))) (others parts) =
        subst (All (λ p. Q (part_of dl (layout_of p)))) (sym one) (All-cons (λ p. Q (part_of dl (layout_of p))) field [] refl (All-nil (λ p. Q (part_of dl (layout_of p))))) in
        let read = read_at dl parts i lt in
        let is : part_at (asked dl parts) i ≡ part_of dl (layout_of field) =
        subst (λ x. is_bulk x ≡ true → Q x.1) read (each_bulk Q parts settled all i (0, no_part) lt) counts in
        let at : get_or (offsets_of parts) i 0 ≡ 0 =
        subst (λ x. not ((x.1.size == 0) && (x.1.align == 0)) ≡ true → x.0 ≡ 0) read (first i (0, no_part) lt)
        (ap (λ (x : Part). not ((x.size == 0) && (x.align == 0))) is ∙ counts_by (size_of field) (layout_of field).align.abi some) in
        (at, is)

    seen_by : (size align : ℕ) → size ≡ size_of field → align ≡ (layout_of field).align.abi → IsSettled field → (bulky : List ℕ) → length bulky ≡ 1
        → All (λ i. is_seen_bulky (part_at (asked dl parts) i) ≡ true) bulky → All (λ i. i < length (with_places dl parts)) bulky
        → bulky_view dl false size align (asked dl parts) (offsets_of parts) bulky ≡ (layout_of field).backend_repr
    seen_by size align s a own [] long tests inside = absurd (omega (arith, long))
    seen_by size align s a own (i ∷ j ∷ more) long tests inside = absurd (omega (arith, long))
    seen_by size align s a own (i ∷ []) long tests inside =
        let found = there i (All-head (λ k. k < length (with_places dl parts)) i [] inside)
        (All-head (λ k. is_seen_bulky (part_at (asked dl parts) k) ≡ true) i [] tests) in
        ap₂ (λ o x. one_view false size align o x) found.0 found.1
        ∙ filled size align 0 (part_of dl (layout_of field)) refl a s ∙ kept_is (layout_of field).backend_repr (size_of field) own.0

    pub seen_bulk : (size align : ℕ) → size ≡ size_of field → align ≡ (layout_of field).align.abi → IsSettled field
        → bulky_view dl false size align (asked dl parts) (offsets_of parts) (bulky_parts (asked dl parts)) ≡ (layout_of field).backend_repr
    seen_bulk size align s a own =
        let test : ℕ → Bool = λ i. is_seen_bulky (part_at (asked dl parts) i) in
        let n : ℕ = length (asked dl parts) in
        let many : n ≡ length (with_places dl parts) = length-map (types_of parts) (λ l. part_of dl l) ∙ sym (count_of dl parts) in
        let bytes : All (λ p. 0 < size_of p) (others parts) =
        subst (All (λ p. 0 < size_of p)) (sym one) (All-cons (λ p. 0 < size_of p) field [] some (All-nil (λ p. 0 < size_of p))) in
        let long : length (bulky_parts (asked dl parts)) ≡ 1 = bulk_count parts ∙ count_bulk parts settled bytes ∙ ap length one in
        seen_by size align s a own (bulky_parts (asked dl parts)) long (filter_passes test (source_order n))
        (subst (λ m. All (λ i. i < m) (bulky_parts (asked dl parts))) many (All-filter test (λ i. i < n) (source_order n) (in_source n)))

  -- ---- the list

  view_by : (b : Bool) (size align : ℕ) (ps : List Part) (os : List ℕ) (view : BackendRepr) → (b ≡ true → Memory true ≡ view)
      → (b ≡ false → bulky_view dl false size align ps os (bulky_parts ps) ≡ view) → (if b then Memory true else bulky_view dl false size align ps os (bulky_parts ps)) ≡ view
  view_by true size align ps os view e f = e refl
  view_by false size align ps os view e f = f refl

  sized_by : (u : Bool) (v w : BackendRepr) → u ≡ false → (if u then v else w) ≡ w
  sized_by true v w e = absurd (cc)
  sized_by false v w e = refl

  -- a list around one field is seen as that
  pub seen_as_one : (parts : Parts) → All IsSettled (fields_of parts) → any_unsized (asked dl parts) ≡ false → (field : Placed) → others parts ≡ field ∷ [] → IsSettled field
      → All (λ x. not ((x.1.size == 0) && (x.1.align == 0)) ≡ true → x.0 ≡ 0) (with_places dl parts) → (size align : ℕ) → size ≡ size_of field → align ≡ (layout_of field).align.abi
      → list_view dl false size align (asked dl parts) (offsets_of parts) ≡ (layout_of field).backend_repr
  seen_as_one parts settled none field one own first size align s a =
      sized_by (any_unsized (asked dl parts)) (Memory false) _ none
      ∙ view_by (size == 0) size align (asked dl parts) (offsets_of parts) (layout_of field).backend_repr
      (λ e. sym (empty_memory field own (sym s ∙ eqb-true size 0 e)))
      (λ e. seen_bulk parts settled field one (some_by size (size_of field) s e) first size align s a own)
    where
      some_by : (m n : ℕ) → m ≡ n → (m == 0) ≡ false → 0 < n
      some_by m n same e = ⊎_elim (λ (lt : 0 < n). lt) (λ (le : n ≤ 0). absurd (eqb-false m 0 e (omega (arith, le, same)))) (cases_lt 0 n)

  -- and one without bytes as bytes in memory
  pub seen_as_none : (parts : Parts) → any_unsized (asked dl parts) ≡ false → (size align : ℕ) → size ≡ 0
      → list_view dl false size align (asked dl parts) (offsets_of parts) ≡ Memory true
  seen_as_none parts none size align s =
      sized_by (any_unsized (asked dl parts)) (Memory false) _ none
      ∙ taken (size == 0) (Memory true) _ (eq-eqb size 0 s)
