-- Each data place of a type is covered by the value that is chosen for it, where its parts' are.
use Rattle.std.proofs.Common.{◌≡◌, ℕ, zero, suc, ◌+◌, ◌-◌, ◌*◌, ◌/◌, ◌%◌, ◌<◌, ◌≤◌, Bool, true, false, Some, None, arith, refl, sym, ap, ◌∙◌, subst, ⊎_elim}
use Rattle.std.specs.Prelude.{◌&&◌, ◌||◌, ◌==◌, not, nat_le, nat_lt, if◌then◌else◌, ⊤}
use Rattle.std.proofs.Math.Nat.{add-mod_right, mod-eq_of_lt}
use Rattle.std.proofs.lemmas.Bool.{and_parts, cases_Bool, cases_lt, eq-eqb, eqb-true, false_from_ne_true, le-leb, leb-true, lt-ltb, ltb-true, or_cases, or_left, or_right, or_parts, true≢false}
use Rattle.std.specs.Cmp.Derive.{both_true}
use Rattle.abi_scalar.specs.declared.scalar.Scalar.{Scalar}
use Rattle.abi_scalar.specs.declared.variants.TagEncoding.{TagEncoding}
use Rattle.abi_scalar.specs.declared.variants.TagEncoding.TheVariants.{Direct, Niche}
use Rattle.abi_tree.specs.declared.mark.Mark.{Mark}
use Rattle.abi_tree.specs.Placed.{Placed, scalar, pair, never, elements, vector, fields, union, single, tagged, states, Parts, no_parts, part, TaggedVariants, nothing_tagged, tagged_variant, size_of}
use Rattle.abi_scalar.specs.Layout.{Layout}
use Rattle.abi_tree.specs.Places.{is_data_place, is_place_of_tagged_variant, is_place_of_part}
use Rattle.abi_tree.specs.Room.{tagged_variants_have_room, has_room, have_room}
use Rattle.abi_tree.specs.Covering.{are_covered, each_covered, is_tagged_variant_covered, is_byte_at, is_covered, is_tagged}
use Rattle.abi_tree.specs.Deciding.{tagged_variant_for, tagged_variant_values, covering_value, covering_values, each_value, first_tagged, first_with, place_in}
use Rattle.abi_tree.proofs.Places.RoomLemmas.{within_room}

-- the chosen value covers each data place
abbrev pub Covers : Placed → Type 0
Covers p = has_room p ≡ true → (k : ℕ) → is_data_place p k ≡ true → is_covered p (covering_value p (Some k)) k ≡ true

-- that of each part does
abbrev pub PartsCover : Parts → Type 0
PartsCover no_parts = ⊤
PartsCover (part offset p parts) = Covers p × PartsCover parts

abbrev pub TaggedVariantsCover : TaggedVariants → Type 0
TaggedVariantsCover nothing_tagged = ⊤
TaggedVariantsCover (tagged_variant code layout mark parts tagged_variants) = PartsCover parts × TaggedVariantsCover tagged_variants

-- a place of what lies at an offset, and is as large as n bytes
at_byte : (offset n k : ℕ) → offset ≤ k → k - offset < n → is_byte_at offset n k ≡ true
at_byte offset n k from lt = both_true (le-leb offset k from) (lt-ltb (k - offset) n lt)

-- a part that has the place covers it
part_here : (o : ℕ) (p : Placed) (k : ℕ) → Covers p → has_room p ≡ true → (nat_le o k && is_data_place p (k - o)) ≡ true →
    (is_byte_at o (size_of p) k && is_covered p (covering_value p (place_in (Some k) o (size_of p))) (k - o)) ≡ true
part_here o p k covers room place =
    let both = and_parts (nat_le o k) (is_data_place p (k - o)) place in
    let there : is_byte_at o (size_of p) k ≡ true = at_byte o (size_of p) k (leb-true o k both.0) (within_room p (k - o) room both.1) in
    let chosen : place_in (Some k) o (size_of p) ≡ Some (k - o) = ap (λ b. if b then Some (k - o) else None) there in
    both_true there (subst (λ x. is_covered p (covering_value p x) (k - o) ≡ true) (sym chosen) (covers room (k - o) both.1))

parts_covered : (size : ℕ) (parts : Parts) (k : ℕ) → PartsCover parts → have_room size parts ≡ true → is_place_of_part parts k ≡ true → are_covered parts (covering_values parts (Some k)) k ≡ true
parts_covered size no_parts k covers room place = absurd (true≢false (sym place))
parts_covered size (part o p parts) k covers room place =
    let both = and_parts (nat_le (o + size_of p) size && has_room p) (have_room size parts) room in
    let own = and_parts (nat_le (o + size_of p) size) (has_room p) both.0 in
    let first = is_byte_at o (size_of p) k && is_covered p (covering_value p (place_in (Some k) o (size_of p))) (k - o) in
    let rest = are_covered parts (covering_values parts (Some k)) k in
    ⊎_elim
    (λ here. or_left first rest (part_here o p k covers.0 own.1 here))
    (λ later. or_right first rest (parts_covered size parts k covers.1 both.1 later))
    (or_cases (nat_le o k && is_data_place p (k - o)) (is_place_of_part parts k) place)

-- the first tagged variant that has the place covers it
tagged_variants_covered : (size : ℕ) (tagged_variants : TaggedVariants) (k from otherwise : ℕ) → TaggedVariantsCover tagged_variants → tagged_variants_have_room size tagged_variants ≡ true → is_place_of_tagged_variant tagged_variants k ≡ true →
    (j : ℕ) × (first_with tagged_variants k from otherwise ≡ from + j) × (is_tagged_variant_covered tagged_variants j (tagged_variant_values tagged_variants j (Some k)) k ≡ true)
tagged_variants_covered size nothing_tagged k from otherwise covers room place = absurd (true≢false (sym place))
tagged_variants_covered size (tagged_variant code layout mark parts tagged_variants) k from otherwise covers room place =
    let both = and_parts (have_room size parts) (tagged_variants_have_room size tagged_variants) room in
    ⊎_elim
    (λ here.
    let this : from ≡ from + 0 = omega arith in
    (0, ap (λ b. if b then from else first_with tagged_variants k (from + 1) otherwise) here ∙ this, parts_covered size parts k covers.0 both.0 here))
    (λ none.
    let rest = tagged_variants_covered size tagged_variants k (from + 1) otherwise covers.1 both.1 (later none) in
    let next : from + 1 + rest.0 ≡ from + suc rest.0 = omega arith in
    (suc rest.0, ap (λ b. if b then from else first_with tagged_variants k (from + 1) otherwise) none ∙ rest.1 ∙ next, rest.2))
    (cases_Bool (is_place_of_part parts k))
  where
    later : is_place_of_part parts k ≡ false → is_place_of_tagged_variant tagged_variants k ≡ true
    later none = ⊎_elim (λ here. absurd (true≢false (sym here ∙ none))) (λ e. e) (or_cases (is_place_of_part parts k) (is_place_of_tagged_variant tagged_variants k) place)

-- where none has it, another index is answered
none_with : (tagged_variants : TaggedVariants) (k from otherwise : ℕ) → is_place_of_tagged_variant tagged_variants k ≡ false → first_with tagged_variants k from otherwise ≡ otherwise
none_with nothing_tagged k from otherwise none = refl
none_with (tagged_variant code layout mark parts tagged_variants) k from otherwise none =
    let each = or_parts (is_place_of_part parts k) (is_place_of_tagged_variant tagged_variants k) none in
    ap (λ b. if b then from else first_with tagged_variants k (from + 1) otherwise) each.0 ∙ none_with tagged_variants k (from + 1) otherwise each.1

-- the first variant that is told has a number of its own
told_first : (encoding : TagEncoding ℕ) → is_tagged encoding (first_tagged encoding) ≡ true
told_first Direct = refl
told_first (Niche untagged span start) = by (untagged == 0) refl
  where
    by : (b : Bool) → (untagged == 0) ≡ b → not ((if b then 1 else 0) == untagged) ≡ true
    by true e = let zero_is : untagged ≡ 0 = eqb-true untagged 0 e in ap (λ u. not (1 == u)) zero_is
    by false e = ap not (false_from_ne_true (0 == untagged) (λ same. true≢false (sym (eq-eqb untagged 0 (sym (eqb-true 0 untagged same))) ∙ e)))

-- a place of the tag, or of a tagged variant
beside_covered : (size offset : ℕ) (tag : Placed) (encoding : TagEncoding ℕ) (tagged_variants : TaggedVariants) (k : ℕ) → has_room tag ≡ true → TaggedVariantsCover tagged_variants → tagged_variants_have_room size tagged_variants ≡ true →
    ((nat_le offset k && is_data_place tag (k - offset)) || is_place_of_tagged_variant tagged_variants k) ≡ true →
    ((is_tagged encoding (tagged_variant_for encoding tagged_variants (Some k)) && is_byte_at offset (size_of tag) k)
    || is_tagged_variant_covered tagged_variants (tagged_variant_for encoding tagged_variants (Some k)) (tagged_variant_values tagged_variants (tagged_variant_for encoding tagged_variants (Some k)) (Some k)) k) ≡ true
beside_covered size offset tag encoding tagged_variants k of_tag covers room place =
    let tag_layout : ℕ = first_tagged encoding in
    let i : ℕ = tagged_variant_for encoding tagged_variants (Some k) in
    let at_tag = is_tagged encoding i && is_byte_at offset (size_of tag) k in
    let in_tagged_variant = is_tagged_variant_covered tagged_variants i (tagged_variant_values tagged_variants i (Some k)) k in
    ⊎_elim
    (λ here.
    let found = tagged_variants_covered size tagged_variants k 0 tag_layout covers room here in
    let same : found.0 ≡ i = sym (found.1 ∙ omega arith) in
    or_right at_tag in_tagged_variant (subst (λ j. is_tagged_variant_covered tagged_variants j (tagged_variant_values tagged_variants j (Some k)) k ≡ true) same found.2))
    (λ none.
    let same : i ≡ tag_layout = none_with tagged_variants k 0 tag_layout none in
    let tag_has : (nat_le offset k && is_data_place tag (k - offset)) ≡ true = ⊎_elim (λ e. e) (λ e. absurd (true≢false (sym e ∙ none))) (or_cases (nat_le offset k && is_data_place tag (k - offset)) (is_place_of_tagged_variant tagged_variants k) place) in
    let both = and_parts (nat_le offset k) (is_data_place tag (k - offset)) tag_has in
    or_left at_tag in_tagged_variant
    (both_true (ap (is_tagged encoding) same ∙ told_first encoding) (at_byte offset (size_of tag) k (leb-true offset k both.0) (within_room tag (k - offset) of_tag both.1))))
    (cases_Bool (is_place_of_tagged_variant tagged_variants k))

-- elements from an offset on
each_one : (p : Placed) (k offset count : ℕ) → ((j : ℕ) → is_data_place p j ≡ true → is_covered p (covering_value p (Some j)) j ≡ true) → offset ≤ k →
    k - offset < size_of p * count → is_data_place p ((k - offset) % size_of p) ≡ true →
    each_covered (is_covered p) (size_of p) offset (each_value (covering_value p) (size_of p) offset count (Some k)) k ≡ true
each_one p k offset zero covers from lt place = absurd (omega (arith, lt))
each_one p k offset (suc count) covers from lt place =
    let n : ℕ = size_of p in
    let first = is_byte_at offset n k && is_covered p (covering_value p (place_in (Some k) offset n)) (k - offset) in
    let rest = each_covered (is_covered p) n (offset + n) (each_value (covering_value p) n (offset + n) count (Some k)) k in
    ⊎_elim
    (λ (here : k - offset < n).
    let same : (k - offset) % n ≡ k - offset = mod-eq_of_lt here in
    let there : is_byte_at offset n k ≡ true = at_byte offset n k from here in
    let chosen : place_in (Some k) offset n ≡ Some (k - offset) = ap (λ b. if b then Some (k - offset) else None) there in
    or_left first rest
    (both_true there
    (subst (λ x. is_covered p (covering_value p x) (k - offset) ≡ true) (sym chosen) (covers (k - offset) (subst (λ j. is_data_place p j ≡ true) same place)))))
    (λ (behind : n ≤ k - offset).
    let back : k - (offset + n) ≡ k - offset - n = omega arith in
    let whole : k - offset ≡ (k - offset - n) + n = omega (arith, behind) in
    let less : k - (offset + n) < n * count = omega (arith, lt, behind, back) in
    let same : (k - offset) % n ≡ (k - (offset + n)) % n = ap (λ j. j % n) whole ∙ add-mod_right (k - offset - n) n ∙ ap (λ j. j % n) (sym back) in
    or_right first rest (each_one p k (offset + n) count covers (omega (arith, from, behind)) less (subst (λ j. is_data_place p j ≡ true) same place)))
    (cases_lt (k - offset) n)

-- ---- each kind of type

pub covers_scalar : (layout : Layout) (s : Scalar) → Covers (scalar layout s)
covers_scalar layout s room k place = place

pub covers_never : (layout : Layout) (mark : Mark) → layout.size ≡ 0 → Covers (never layout mark)
covers_never layout mark none room k place = absurd (omega (arith, none, ltb-true k layout.size place))

pub covers_pair : (layout : Layout) (o u : ℕ) (l m : Layout) (s t : Scalar) → Covers (pair layout (part o (scalar l s) (part u (scalar m t) no_parts)))
covers_pair layout o u l m s t room k place =
    parts_covered layout.size (part o (scalar l s) (part u (scalar m t) no_parts)) k (covers_scalar l s, (covers_scalar m t, tt)) room place

pub covers_elements : (layout : Layout) (count : ℕ) (p : Placed) → Covers p → Covers (elements layout count p)
covers_elements layout count p covers room k place =
    let n : ℕ = size_of p in
    let both = and_parts (layout.size == n * count) (has_room p) room in
    let at = and_parts (nat_lt (k / n) count) (is_data_place p (k % n)) place in
    let inside : k < layout.size = within_room (elements layout count p) k room place in
    let size : layout.size ≡ n * count = eqb-true layout.size (n * count) both.0 in
    let start : k - 0 ≡ k = omega arith in
    each_one p k 0 count (covers both.1) (omega arith) (omega (arith, inside, size)) (subst (λ j. is_data_place p (j % n) ≡ true) (sym start) at.1)

pub covers_vector : (layout own : Layout) (count : ℕ) (p : Placed) → Covers (elements own count p) → Covers (vector layout (elements own count p))
covers_vector layout own count p covers room k place =
    let both = and_parts (nat_le own.size layout.size) (has_room (elements own count p)) room in
    both_true (at_byte 0 own.size k (omega arith) (let start : k - 0 ≡ k = omega arith in omega (arith, start, within_room (elements own count p) k both.1 place))) (covers both.1 k place)

pub covers_fields : (layout : Layout) (mark : Mark) (parts : Parts) → PartsCover parts → Covers (fields layout mark parts)
covers_fields layout mark parts covers room k place = parts_covered layout.size parts k covers room place

pub covers_union : (layout : Layout) (mark : Mark) (parts : Parts) → Covers (union layout mark parts)
covers_union layout mark parts room k place = place

pub covers_single : (layout : Layout) (mark : Mark) (index : ℕ) (parts : Parts) → PartsCover parts → Covers (single layout mark index parts)
covers_single layout mark index parts covers room k place = parts_covered layout.size parts k covers room place

pub covers_tagged : (layout : Layout) (mark : Mark) (offset : ℕ) (tag : Placed) (encoding : TagEncoding ℕ) (tagged_variants : TaggedVariants) → TaggedVariantsCover tagged_variants → Covers (tagged layout mark offset tag encoding tagged_variants)
covers_tagged layout mark offset tag encoding tagged_variants covers room k place =
    let both = and_parts (nat_le (offset + size_of tag) layout.size && has_room tag) (tagged_variants_have_room layout.size tagged_variants) room in
    let of_tag = and_parts (nat_le (offset + size_of tag) layout.size) (has_room tag) both.0 in
    beside_covered layout.size offset tag encoding tagged_variants k of_tag.1 covers both.1 place

pub covers_states : (layout : Layout) (prefix : Parts) (offset : ℕ) (tag : Placed) (tagged_variants : TaggedVariants) → PartsCover prefix → TaggedVariantsCover tagged_variants → Covers (states layout prefix offset tag tagged_variants)
covers_states layout prefix offset tag tagged_variants first covers room k place =
    let front = and_parts (have_room layout.size prefix) ((nat_le (offset + size_of tag) layout.size && has_room tag) && tagged_variants_have_room layout.size tagged_variants) room in
    let both = and_parts (nat_le (offset + size_of tag) layout.size && has_room tag) (tagged_variants_have_room layout.size tagged_variants) front.1 in
    let of_tag = and_parts (nat_le (offset + size_of tag) layout.size) (has_room tag) both.0 in
    let i : ℕ = tagged_variant_for Direct tagged_variants (Some k) in
    let shared = are_covered prefix (covering_values prefix (Some k)) k in
    let own = is_byte_at offset (size_of tag) k || is_tagged_variant_covered tagged_variants i (tagged_variant_values tagged_variants i (Some k)) k in
    ⊎_elim
    (λ here. or_left shared own (parts_covered layout.size prefix k first front.0 here))
    (λ beside. or_right shared own (beside_covered layout.size offset tag Direct tagged_variants k of_tag.1 covers both.1 beside))
    (or_cases (is_place_of_part prefix k) ((nat_le offset k && is_data_place tag (k - offset)) || is_place_of_tagged_variant tagged_variants k) place)
