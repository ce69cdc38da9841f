-- Where the fields of an enum's variants lie: at multiples of their alignments, and in memory order never back.
use Rattle.std.proofs.Common.{◌≡◌, ℕ, ◌+◌, ◌^◌, ◌==◌, ◌<◌, ◌≤◌, ◌∙◌, ⊎_elim, Bool, true, false, List, [], ◌∷◌, ap, ap₂, arith, get_or, inl, inr, length, map, max, refl, subst, suc, sym, zero}
use Rattle.std.specs.Prelude.{◌⊎◌, All, Err, IfOk, MatchBool, None, Ok, Result, slice_get, unwrap_or, if◌then◌else◌}
use Rattle.std.specs.Int.{◌∣◌, next_multiple_of}
use Rattle.std.proofs.Math.Nat.{dvd-add}
use Rattle.std.proofs.Math.Pow.{pow-lt}
use Rattle.std.proofs.lemmas.Bool.{cases_lt, eq-eqb, eqb-true}
use Rattle.std.proofs.lemmas.List.{get_or-map, length-map}
use Rattle.std.proofs.lemmas.List.Elements.{All-cons, All-head, All-map, All-nil, All-tail}
use Rattle.std.proofs.lemmas.Nat.Gcd.{dvd-zero, dvd_trans}
use Rattle.abi_base.specs.declared.data_layout.TargetDataLayout.{TargetDataLayout}
use Rattle.abi_base.specs.declared.integer.Integer.{Integer}
use Rattle.abi_base.specs.declared.integer.Integer.TheVariants.{I8, I16, I32, I64, I128}
use Rattle.abi_base.specs.declared.struct_kind.StructKind.{StructKind}
use Rattle.abi_base.specs.Integer.{integer_size}
use Rattle.abi_scalar.specs.declared.fields_shape.FieldsShape.TheVariants.{Arbitrary}
use Rattle.abi_scalar.specs.declared.layout_data.LayoutData.{LayoutData}
use Rattle.abi_scalar.specs.declared.repr.ReprOptions.{ReprOptions}
use Rattle.abi_scalar.specs.declared.variants.VariantLayout.{VariantLayout}
use Rattle.abi_scalar.specs.Order.{HasOrder, HasPlaceForEach, IsAscending}
use Rattle.abi_scalar.specs.Shape.{listed_offsets, listed_order}
use Rattle.abi_scalar.specs.Variant.{IsOrderedVariant, variant_of}
use Rattle.abi_univariant.specs.declared.part.Part.{Part}
use Rattle.abi_univariant.specs.Apart.{AreAligned}
use Rattle.abi_univariant.specs.List.{IsUnivariantAnswer}
use Rattle.abi_univariant.specs.Part.{parts_of}
use Rattle.abi_univariant.specs.Placement.{IsNonEmptyIfUnsized, IsSized, cut, fields_repr, prefix_align}
use Rattle.abi_univariant.proofs.Promised.LeastLemmas.{ascends, niche_by_bias, has_places, lies_aligned, lies_in_order}
use Rattle.abi_univariant.proofs.Sorted.Least.{allowed_permutes}
use Rattle.abi_univariant.proofs.Offsets.Rounding.{pow_dvd, rounded_to}
use Rattle.abi_univariant.proofs.Sorted.Sorting.{within_order}
use Rattle.abi_univariant.proofs.Sorted.Tight.{greatest_above}
use Rattle.abi_calc.specs.Enums.Growth.{moved_offset}
use Rattle.abi_calc.specs.Enums.Lists.{AreListLayouts}
use Rattle.abi_calc.specs.Enums.Made.{AreBehindTag, AreBesideNiche, AreVariantsAligned, IsBesideNiche, IsMovedBy}
use Rattle.abi_calc.proofs.EnumLemmas.Places.{AreClear, AreClearAmong}
use Rattle.abi_calc.proofs.EnumLemmas.Sizes.{tail_of_sized}

-- what holds anyway holds of an answer
pub if_any : {A E : Type 0} (Q : Type 0) (r : Result A E) → Q → IfOk r (λ x. Q)
if_any Q (Ok x) q = q
if_any Q (Err e) q = tt

-- ---- multiples

-- the exponent of an integer's size
abbrev exponent : Integer → ℕ
exponent I8 = 0
exponent I16 = 1
exponent I32 = 2
exponent I64 = 3
exponent I128 = 4

exponent_of : (i : Integer) → integer_size i ≡ 2 ^ exponent i
exponent_of I8 = refl
exponent_of I16 = refl
exponent_of I32 = refl
exponent_of I64 = refl
exponent_of I128 = refl

-- a larger integer's size is a multiple
pub size_divides : (i j : Integer) → integer_size i ≤ integer_size j → integer_size i ∣ integer_size j
size_divides i j le =
    ⊎_elim (λ (less : exponent j < exponent i). let far : 2 ^ exponent j < 2 ^ exponent i = pow-lt less in absurd (omega (arith, far, exponent_of i, exponent_of j, le)))
    (λ (more : exponent i ≤ exponent j). subst (λ m. m ∣ integer_size j) (sym (exponent_of i)) (subst (λ n. 2 ^ exponent i ∣ n) (sym (exponent_of j)) (pow_dvd (exponent i) (exponent j) more)))
    (cases_lt (exponent j) (exponent i))

-- fields that moved from the old tag's end to the new one's
pub aligned_moved : (old new : ℕ) → old ∣ new → (os aligns : List ℕ) → AreAligned os aligns → AreAligned (map (moved_offset old new) os) aligns
aligned_moved old new d [] [] h = tt
aligned_moved old new d [] (a ∷ aligns) h = absurd h
aligned_moved old new d (o ∷ os) [] h = absurd h
aligned_moved old new d (o ∷ os) (a ∷ aligns) h = (here (o == old) refl, aligned_moved old new d os aligns h.1)
  where
    here : (b : Bool) → (o == old) ≡ b → 2 ^ a ∣ (if b then new else o)
    here true e = dvd_trans (2 ^ a) (subst (λ n. 2 ^ a ∣ n) (eqb-true o old e) h.0) d
    here false e = h.0

-- fields that moved on by a multiple
pub aligned_on : (by : ℕ) (os aligns : List ℕ) → All (λ a. 2 ^ a ∣ by) aligns → AreAligned os aligns → AreAligned (map (λ o. by + o) os) aligns
aligned_on by [] [] all h = tt
aligned_on by [] (a ∷ aligns) all h = absurd h
aligned_on by (o ∷ os) [] all h = absurd h
aligned_on by (o ∷ os) (a ∷ aligns) all h = (dvd-add (2 ^ a) (All-head (λ a. 2 ^ a ∣ by) a aligns all) h.0, aligned_on by os aligns (All-tail (λ a. 2 ^ a ∣ by) a aligns all) h.1)

-- ---- memory order

-- the offset of a listed field is the list's at its index
offset_in : (offsets : List ℕ) (i : ℕ) → unwrap_or (slice_get offsets i) 0 ≡ get_or offsets i 0
offset_in [] i = refl
offset_in (o ∷ os) zero = refl
offset_in (o ∷ os) (suc i) = offset_in os i

-- A list whose memory order names its fields, each once, and never steps back.
pub record IsOrderedList {F V : Type 0} (number : F → ℕ) (list : LayoutData F V) : Type 0 where
  pub places : length (listed_order list.fields) ≡ length (listed_offsets list.fields)
  pub within : All (λ a. number a < length (listed_offsets list.fields)) (listed_order list.fields)
  pub ascending : IsAscending number (Arbitrary (listed_offsets list.fields) (listed_order list.fields))

-- what keeps the order of the offsets keeps that of the fields
pub ascending_by : {F : Type 0} (number : F → ℕ) (f : ℕ → ℕ) (offsets : List ℕ) (order : List F) → All (λ a. number a < length offsets) order
    → ((i j : ℕ) → i < length offsets → j < length offsets → get_or offsets i 0 ≤ get_or offsets j 0 → f (get_or offsets i 0) ≤ f (get_or offsets j 0))
    → IsAscending number (Arbitrary offsets order) → IsAscending number (Arbitrary (map f offsets) order)
ascending_by number f offsets order within keeps h i j d low short =
    let first : number (get_or order i d) < length offsets = within i d (omega (arith, low, short)) in
    let second : number (get_or order j d) < length offsets = within j d short in
    let before : get_or offsets (number (get_or order i d)) 0 ≤ get_or offsets (number (get_or order j d)) 0
    = rw (offset_in offsets (number (get_or order i d)), offset_in offsets (number (get_or order j d))) at (h i j d low short) in
    rw (offset_in (map f offsets) (number (get_or order i d)), offset_in (map f offsets) (number (get_or order j d)), get_or-map f offsets (number (get_or order i d)) 0 0 first, get_or-map f offsets (number (get_or order j d)) 0 0 second)
    (keeps (number (get_or order i d)) (number (get_or order j d)) first second before)

pub ordered_by : {F V : Type 0} (number : F → ℕ) (f : ℕ → ℕ) (list : LayoutData F V) (v : VariantLayout F) → IsOrderedList number list → v.field_offsets ≡ map f (listed_offsets list.fields)
    → v.fields_in_memory_order ≡ listed_order list.fields
    → ((i j : ℕ) → i < length (listed_offsets list.fields) → j < length (listed_offsets list.fields) → get_or (listed_offsets list.fields) i 0 ≤ get_or (listed_offsets list.fields) j 0
    → f (get_or (listed_offsets list.fields) i 0) ≤ f (get_or (listed_offsets list.fields) j 0))
    → IsOrderedVariant number v
ordered_by number f list v h offsets order keeps = (
  ap length order ∙ h.places ∙ sym (length-map (listed_offsets list.fields) f) ∙ sym (ap length offsets),
  subst (λ os. IsAscending number (Arbitrary os v.fields_in_memory_order)) (sym offsets)
      (subst (λ xs. IsAscending number (Arbitrary (map f (listed_offsets list.fields)) xs)) (sym order) (ascending_by number f (listed_offsets list.fields) (listed_order list.fields) h.within keeps h.ascending)),
)

-- one field is in order
pub one_field : {F : Type 0} (number : F → ℕ) (offset : ℕ) (field : F) → HasOrder number (Arbitrary (offset ∷ []) (field ∷ []))
one_field number offset field = (refl, λ i j d low short. absurd (omega (arith, low, short)))

-- ---- the lists

module _ {F V H : Type 0} (layout_of : H → LayoutData F V) (at : ℕ → F) (first : V) (dl : TargetDataLayout) (repr : ReprOptions) (kind : StructKind) where
  uncut : repr.pack ≡ None → (hs : List H) → map (λ h. cut repr.pack (layout_of h).align.abi) hs ≡ map (λ f. f.align.abi) (map layout_of hs)
  uncut e [] = refl
  uncut e (h ∷ hs) = ap₂ (λ a aligns. a ∷ aligns) (ap (λ p. cut p (layout_of h).align.abi) e) (uncut e hs)

  pub list_aligned : (hs : List H) (list : LayoutData F V) → repr.pack ≡ None → IsNonEmptyIfUnsized kind (length hs) → IsUnivariantAnswer layout_of at first dl repr kind hs (Ok list)
      → AreAligned (listed_offsets list.fields) (map (λ f. f.align.abi) (map layout_of hs))
  list_aligned hs list e tail (order, offsets, r) = subst (AreAligned (listed_offsets list.fields)) (uncut e hs) (lies_aligned layout_of at first dl repr kind hs order offsets list tail r)

  pub list_ordered : (number : F → ℕ) (most : ℕ) → ((i : ℕ) → i ≤ most → number (at i) ≡ i) → (hs : List H) (list : LayoutData F V) → length hs ≤ most + 1 → IsNonEmptyIfUnsized kind (length hs)
      → IsUnivariantAnswer layout_of at first dl repr kind hs (Ok list) → IsOrderedList number list
  list_ordered number most law hs list small tail (order, offsets, r) =
      let lies = lies_in_order layout_of at first dl repr kind hs order offsets list tail r in
      let many : length (map layout_of hs) ≡ length hs = length-map hs layout_of in
      let named : map at lies.0 ≡ listed_order list.fields = sym (ap listed_order lies.1) in
      let below : All (λ i. i < length (map layout_of hs)) lies.0
      = within_order (length (map layout_of hs)) lies.0 (allowed_permutes (fields_repr dl repr kind) (length (map layout_of hs)) lies.0 lies.2.allowed) in
      let each : All (λ i. number (at i) < length (listed_offsets list.fields)) lies.0
      = λ k d short. omega (arith, below k d short, law (get_or lies.0 k d) (omega (arith, below k d short, many, small)), lies.2.count) in
      record {
        places = subst (λ xs. length xs ≡ length (listed_offsets list.fields)) named (subst (λ shape. HasPlaceForEach shape) lies.1 (has_places layout_of at first dl repr kind hs order offsets list tail r));
        within = subst (All (λ a. number a < length (listed_offsets list.fields))) named (All-map (λ a. number a < length (listed_offsets list.fields)) at lies.0 each);
        ascending = subst (λ xs. IsAscending number (Arbitrary (listed_offsets list.fields) xs)) named
            (subst (λ shape. IsAscending number shape) lies.1 (ascends layout_of at first dl repr kind hs number most law small order offsets list tail r));
      }

-- ---- behind a tag

-- an offset that a tag leaves: the old tag's end, or one behind the new tag
abbrev pub IsLeft : (old new offset : ℕ) → Type 0
IsLeft old new offset = (offset ≡ old) ⊎ (new ≤ offset)

-- fields there keep their order where the tag grows
keeps_moved : (old new o p : ℕ) → old ≤ new → IsLeft old new o → IsLeft old new p → o ≤ p → moved_offset old new o ≤ moved_offset old new p
keeps_moved old new o p le a b up = by (o == old) (p == old) refl refl
  where
    by : (x y : Bool) → (o == old) ≡ x → (p == old) ≡ y → (if x then new else o) ≤ (if y then new else p)
    by true true e f = omega arith
    by true false e f = ⊎_elim (λ (same : p ≡ old). let yes : (p == old) ≡ true = eq-eqb p old same in absurd (cc)) (λ (far : new ≤ p). far) b
    by false true e f = ⊎_elim (λ (same : o ≡ old). let yes : (o == old) ≡ true = eq-eqb o old same in absurd (cc)) (λ (far : new ≤ o). let one : p ≡ old = eqb-true p old f in omega (arith, far, one, up, le)) a
    by false false e f = up

-- what is left is left at each place
left_at : (old new : ℕ) (os ms : List ℕ) → AreClear old new os ms → All (IsLeft old new) os
left_at old new [] [] h = All-nil (IsLeft old new)
left_at old new [] (m ∷ ms) h = absurd h
left_at old new (o ∷ os) [] h = absurd h
left_at old new (o ∷ os) (m ∷ ms) h = All-cons (IsLeft old new) o os (⊎_elim (λ (one : (o ≡ old) × (m ≡ 0)). inl one.0) (λ (far : new ≤ o). inr far) h.0) (left_at old new os ms h.1)

-- each variant's list is left so
abbrev pub AreLeft : {F V : Type 0} → (old new : ℕ) → (lists : List (LayoutData F V)) → Type 0
AreLeft old new lists = All (λ list. All (IsLeft old new) (listed_offsets list.fields)) lists

pub left_clear : {F V H : Type 0} (layout_of : H → LayoutData F V) (old new : ℕ) (variants : List (List H)) (lists : List (LayoutData F V)) → AreClearAmong layout_of old new variants lists → AreLeft old new lists
left_clear layout_of old new [] [] h = All-nil (λ list. All (IsLeft old new) (listed_offsets list.fields))
left_clear layout_of old new [] (l ∷ ls) h = absurd h
left_clear layout_of old new (v ∷ vs) [] h = absurd h
left_clear layout_of old new (v ∷ vs) (l ∷ ls) h =
    All-cons (λ list. All (IsLeft old new) (listed_offsets list.fields)) l ls (left_at old new (listed_offsets l.fields) (map (λ f. (layout_of f).size) v) h.0) (left_clear layout_of old new vs ls h.1)

-- ---- the variants

module _ {F V H : Type 0} (layout_of : H → LayoutData F V) (at : ℕ → F) (number : F → ℕ) (first : V) (dl : TargetDataLayout) (repr : ReprOptions) (kind : StructKind) (unpacked : repr.pack ≡ None) (sized : IsSized kind) where
  -- behind a tag
  pub behind_aligned : (old new whole : ℕ) → old ∣ new → (variants : List (List H)) (lists : List (LayoutData F V)) (layouts : List (VariantLayout F)) → AreListLayouts layout_of at first dl repr kind variants lists
      → AreBehindTag old new whole lists layouts → AreVariantsAligned (map (map layout_of) variants) layouts
  behind_aligned old new whole d [] [] [] h b = tt
  behind_aligned old new whole d [] [] (x ∷ xs) h b = absurd b
  behind_aligned old new whole d [] (l ∷ ls) xs h b = absurd h
  behind_aligned old new whole d (v ∷ vs) [] xs h b = absurd h
  behind_aligned old new whole d (v ∷ vs) (l ∷ ls) [] h b = absurd b
  behind_aligned old new whole d (v ∷ vs) (l ∷ ls) (x ∷ xs) h b = (
    subst (λ os. AreAligned os (map (λ f. f.align.abi) (map layout_of v))) (sym b.0.offsets)
        (aligned_moved old new d (listed_offsets l.fields) (map (λ f. f.align.abi) (map layout_of v)) (list_aligned layout_of at first dl repr kind v l unpacked (tail_of_sized kind (length v) sized) h.0)),
    behind_aligned old new whole d vs ls xs h.1 b.1,
  )

  -- a field's alignment is no greater than its list's
  below_list : (v : List H) (l : LayoutData F V) → IsUnivariantAnswer layout_of at first dl repr kind v (Ok l) → All (λ a. a ≤ l.align.abi) (map (λ f. f.align.abi) (map layout_of v))
  below_list v l (order, offsets, r) =
      let b = niche_by_bias layout_of at first dl repr kind v order offsets l r in
      let all = greatest_above (λ (p : Part). cut repr.pack p.align) (max (fields_repr dl repr kind).align (prefix_align repr.pack kind)) (parts_of dl (map layout_of v)) in
      subst (All (λ a. a ≤ l.align.abi)) (uncut_parts v) (All-map (λ a. a ≤ l.align.abi) (λ (p : Part). cut repr.pack p.align) (parts_of dl (map layout_of v)) (λ k d short. omega (arith, all k d short, b.placed.alignment)))
    where
      uncut_parts : (hs : List H) → map (λ (p : Part). cut repr.pack p.align) (parts_of dl (map layout_of hs)) ≡ map (λ f. f.align.abi) (map layout_of hs)
      uncut_parts [] = refl
      uncut_parts (h ∷ hs) = ap₂ (λ a aligns. a ∷ aligns) (ap (λ p. cut p (layout_of h).align.abi) unpacked) (uncut_parts hs)

  -- beside a niche
  beside_one : (v : List H) (l : LayoutData F V) (x : VariantLayout F) (place width whole : ℕ) (b : Bool) → IsUnivariantAnswer layout_of at first dl repr kind v (Ok l)
      → MatchBool b (x ≡ variant_of l) (IsBesideNiche place width whole l x) → AreAligned x.field_offsets (map (λ f. f.align.abi) (map layout_of v))
  beside_one v l x place width whole true h b =
      subst (λ (w : VariantLayout F). AreAligned w.field_offsets (map (λ f. f.align.abi) (map layout_of v))) (sym b) (list_aligned layout_of at first dl repr kind v l unpacked (tail_of_sized kind (length v) sized) h)
  beside_one v l x place width whole false h (inl b) =
      subst (λ os. AreAligned os (map (λ f. f.align.abi) (map layout_of v))) (sym b.1.offsets)
      (aligned_on 0 (listed_offsets l.fields) (map (λ f. f.align.abi) (map layout_of v)) (λ k d short. dvd-zero _) (list_aligned layout_of at first dl repr kind v l unpacked (tail_of_sized kind (length v) sized) h))
  beside_one v l x place width whole false h (inr b) =
      let below = below_list v l h in
      subst (λ os. AreAligned os (map (λ f. f.align.abi) (map layout_of v))) (sym b.1.offsets)
      (aligned_on (next_multiple_of (place + width) (2 ^ l.align.abi)) (listed_offsets l.fields) (map (λ f. f.align.abi) (map layout_of v))
      (λ k d short. dvd_trans _ (pow_dvd _ l.align.abi (below k d short)) (rounded_to (place + width) l.align.abi).multiple)
      (list_aligned layout_of at first dl repr kind v l unpacked (tail_of_sized kind (length v) sized) h))

  pub beside_aligned : (place width whole untagged from : ℕ) (variants : List (List H)) (lists : List (LayoutData F V)) (layouts : List (VariantLayout F)) → AreListLayouts layout_of at first dl repr kind variants lists
      → AreBesideNiche place width whole untagged from lists layouts → AreVariantsAligned (map (map layout_of) variants) layouts
  beside_aligned place width whole untagged from [] [] [] h b = tt
  beside_aligned place width whole untagged from [] [] (x ∷ xs) h b = absurd b
  beside_aligned place width whole untagged from [] (l ∷ ls) xs h b = absurd h
  beside_aligned place width whole untagged from (v ∷ vs) [] xs h b = absurd h
  beside_aligned place width whole untagged from (v ∷ vs) (l ∷ ls) [] h b = absurd b
  beside_aligned place width whole untagged from (v ∷ vs) (l ∷ ls) (x ∷ xs) h b =
      (beside_one v l x place width whole (from == untagged) h.0 b.0, beside_aligned place width whole untagged (from + 1) vs ls xs h.1 b.1)

  -- ---- memory order

  module _ (most : ℕ) (law : (i : ℕ) → i ≤ most → number (at i) ≡ i) where
    in_order : (v : List H) (l : LayoutData F V) → length v ≤ most + 1 → IsUnivariantAnswer layout_of at first dl repr kind v (Ok l) → IsOrderedList number l
    in_order v l small h = list_ordered layout_of at first dl repr kind number most law v l small (tail_of_sized kind (length v) sized) h

    pub behind_ordered : (old new whole : ℕ) → old ≤ new → (variants : List (List H)) (lists : List (LayoutData F V)) (layouts : List (VariantLayout F)) → All (λ fields. length fields ≤ most + 1) variants
        → AreLeft old new lists → AreListLayouts layout_of at first dl repr kind variants lists → AreBehindTag old new whole lists layouts → All (IsOrderedVariant number) layouts
    behind_ordered old new whole le [] [] [] few left h b = All-nil (IsOrderedVariant number)
    behind_ordered old new whole le [] [] (x ∷ xs) few left h b = absurd b
    behind_ordered old new whole le [] (l ∷ ls) xs few left h b = absurd h
    behind_ordered old new whole le (v ∷ vs) [] xs few left h b = absurd h
    behind_ordered old new whole le (v ∷ vs) (l ∷ ls) [] few left h b = absurd b
    behind_ordered old new whole le (v ∷ vs) (l ∷ ls) (x ∷ xs) few left h b =
        let own : All (IsLeft old new) (listed_offsets l.fields) = All-head (λ list. All (IsLeft old new) (listed_offsets list.fields)) l ls left in
        All-cons (IsOrderedVariant number) x xs
        (ordered_by number (moved_offset old new) l x (in_order v l (All-head (λ fields. length fields ≤ most + 1) v vs few) h.0) b.0.offsets b.0.order
        (λ i j low high up. keeps_moved old new (get_or (listed_offsets l.fields) i 0) (get_or (listed_offsets l.fields) j 0) le (own i 0 low) (own j 0 high) up))
        (behind_ordered old new whole le vs ls xs (All-tail (λ fields. length fields ≤ most + 1) v vs few) (All-tail (λ list. All (IsLeft old new) (listed_offsets list.fields)) l ls left) h.1 b.1)

    moved_order : (by : ℕ) (l : LayoutData F V) (x : VariantLayout F) → IsOrderedList number l → IsMovedBy by l x → IsOrderedVariant number x
    moved_order by l x own b = ordered_by number (λ o. by + o) l x own b.offsets b.order (λ i j low high up. omega (arith, up))

    one_order : (l : LayoutData F V) (x : VariantLayout F) (place width whole : ℕ) (b : Bool) → IsOrderedList number l → MatchBool b (x ≡ variant_of l) (IsBesideNiche place width whole l x) → IsOrderedVariant number x
    one_order l x place width whole true own b = subst (IsOrderedVariant number) (sym b) (own.places, own.ascending)
    one_order l x place width whole false own (inl b) = moved_order 0 l x own b.1
    one_order l x place width whole false own (inr b) = moved_order (next_multiple_of (place + width) (2 ^ l.align.abi)) l x own b.1

    pub beside_ordered : (place width whole untagged from : ℕ) (variants : List (List H)) (lists : List (LayoutData F V)) (layouts : List (VariantLayout F)) → All (λ fields. length fields ≤ most + 1) variants
        → AreListLayouts layout_of at first dl repr kind variants lists → AreBesideNiche place width whole untagged from lists layouts → All (IsOrderedVariant number) layouts
    beside_ordered place width whole untagged from [] [] [] few h b = All-nil (IsOrderedVariant number)
    beside_ordered place width whole untagged from [] [] (x ∷ xs) few h b = absurd b
    beside_ordered place width whole untagged from [] (l ∷ ls) xs few h b = absurd h
    beside_ordered place width whole untagged from (v ∷ vs) [] xs few h b = absurd h
    beside_ordered place width whole untagged from (v ∷ vs) (l ∷ ls) [] few h b = absurd b
    beside_ordered place width whole untagged from (v ∷ vs) (l ∷ ls) (x ∷ xs) few h b =
        All-cons (IsOrderedVariant number) x xs (one_order l x place width whole (from == untagged) (in_order v l (All-head (λ fields. length fields ≤ most + 1) v vs few) h.0) b.0)
        (beside_ordered place width whole untagged (from + 1) vs ls xs (All-tail (λ fields. length fields ≤ most + 1) v vs few) h.1 b.1)
