-- How the bytes of a value that covers a place are put from those of its parts.
use Rattle.std.proofs.Common.{◌≡◌, ℕ, zero, suc, ◌+◌, ◌-◌, ◌*◌, ◌<◌, ◌≤◌, List, [], ◌∷◌, Bool, true, false, Option, length, get_or, drop, min, arith, refl, sym, ap, ◌∙◌, subst, ⊎_elim}
use Rattle.std.specs.Prelude.{◌&&◌, ◌||◌, ◌==◌, ◌≢◌, nat_le, nat_lt, replicate, if◌then◌else◌}
use Rattle.std.proofs.lemmas.Bool.{and_parts, and_right, cases_Bool, cases_lt, le-leb, leb-true, lt-ltb, ltb-true, le-ltb, or_cases, true≢false}
use Rattle.std.specs.Cmp.Derive.{both_true}
use Rattle.std.proofs.lemmas.List.{drop_more, drop_all, get_or_past}
use Rattle.abi_base.specs.declared.endian.Endian.{Endian}
use Rattle.abi_scalar.specs.declared.scalar.Scalar.{Scalar}
use Rattle.abi_scalar.specs.declared.variants.TagEncoding.{TagEncoding}
use Rattle.abi_scalar.specs.declared.variants.TagEncoding.TheVariants.{Direct}
use Rattle.abi_index.specs.RangeSet.{is_in_ranges, is_in_run}
use Rattle.abi_tree.specs.Value.{Value, number, two, Values, no_values, more_values}
use Rattle.abi_tree.specs.Bytes.{AreBytes, bytes_at, picked_bytes, count_picked}
use Rattle.abi_tree.specs.Placed.{Placed, scalar, pair, fields, states, Parts, no_parts, part, TaggedVariants, size_of, nothing}
use Rattle.abi_scalar.specs.Layout.{Layout}
use Rattle.abi_tree.specs.Places.{is_data_place, is_place_of_part}
use Rattle.abi_tree.specs.Nodes.{tagged_variants_in, own_fields, parts_at, placed_in}
use Rattle.abi_tree.specs.Laws.{has_list}
use Rattle.abi_tree.specs.Room.{has_room, have_room}
use Rattle.abi_tree.specs.Holding.{HoldEach, HoldParts, Holds}
use Rattle.abi_tree.specs.Covering.{are_covered, each_covered, is_tagged_variant_covered, is_byte_at, is_covered, is_tagged}
use Rattle.abi_tree.specs.Deciding.{tagged_variant_for, tagged_variant_values, covering_value, covering_values, each_value, first_with, place_in, two_of}
use Rattle.abi_tree.specs.Reading.{IsNamedIn}
use Rattle.abi_tree.specs.Writing.{IsPutOver}
use Rattle.abi_tree.specs.Putting.{PutsCovering, PutsCoveringTaggedVariant, PutsTag}
use Rattle.abi_tree.proofs.Bytes.BytesLemmas.{AreBytes-bytes_at}
use Rattle.abi_tree.proofs.Bytes.HoldLemmas.{bytes_at-bytes_at, length-bytes_at}
use Rattle.abi_tree.proofs.Bytes.PutOverLemmas.{put_both, put_like, put_none, put_one, put_part}
use Rattle.abi_tree.proofs.Bytes.PutPlacesLemmas.{before_all_left, before_more, before_skip, picked-at}
use Rattle.abi_tree.proofs.Found.ReadLemmas.{from_tagged_variant, parts_end, parts_from}
use Rattle.abi_tree.proofs.Written.WriteLemmas.{IsWritten, tagged_variant_covers, put_slice, written_all, written_more, written_none}
use Rattle.abi_tree.proofs.Written.WrittenLemmas.{zeros_at}

-- of no bytes none is put
pub put_bare : (p : ℕ → Bool) (at : ℕ) (b old : List ℕ) → length b ≡ 0 → IsPutOver p at b old old
put_bare p at b old none = record {
  long = refl;
  here = λ k lt place. absurd (omega (arith, lt, none));
  other = λ k beside. refl;
}

-- ---- two numbers

some_two : (vs : Values) → (n m : ℕ) × (two_of vs ≡ two n m)
some_two no_values = (0, 0, refl)
some_two (more_values (number n) no_values) = (0, 0, refl)
some_two (more_values (number n) (more_values (number m) vs)) = (n, m, refl)
some_two _ = (0, 0, refl)

-- what holds a number is a scalar
holds_number : (order : Endian) (p : Placed) (b : List ℕ) (n : ℕ) → Holds order p b (number n) → (layout : Layout) × (s : Scalar) × (p ≡ scalar layout s)
holds_number order (scalar layout s) b n h = (layout, s, refl)
holds_number order _ b n h = absurd h

module _ (order : Endian) (layout : Layout) (place : Option ℕ) (at : ℕ) (b old new : List ℕ) where
  abbrev PairPut : Parts → Type 0
  PairPut parts = (HoldParts order parts b (covering_values parts place) → IsPutOver (are_covered parts (covering_values parts place)) at b old new)
      → Holds order (pair layout parts) b (two_of (covering_values parts place)) → IsPutOver (is_covered (pair layout parts) (two_of (covering_values parts place))) at b old new

  two_scalars : (o u : ℕ) (l m : Layout) (s t : Scalar) (parts : Parts) → PairPut (part o (scalar l s) (part u (scalar m t) parts))
  two_scalars o u l m s t no_parts put held = put held.1
  two_scalars o u l m s t (part w p parts) put held = absurd held.1.1.1

  -- the two parts of a pair are numbers, where bytes hold two
  pub pair_put : (parts : Parts) → PairPut parts
  pair_put no_parts put held = absurd held.1
  pair_put (part o p no_parts) put held =
      let some = some_two (covering_values (part o p no_parts) place) in
      let two_held : Holds order (pair layout (part o p no_parts)) b (two some.0 some.1) = subst (Holds order (pair layout (part o p no_parts)) b) some.2 held in
      absurd two_held.1.1
  pair_put (part o p (part u q parts)) put held =
      let whole : Parts = part o p (part u q parts) in
      let some = some_two (covering_values whole place) in
      let two_held : Holds order (pair layout whole) b (two some.0 some.1) = subst (Holds order (pair layout whole) b) some.2 held in
      let first = holds_number order p (bytes_at b o (size_of p)) some.0 two_held.1.0.1 in
      let second = holds_number order q (bytes_at b u (size_of q)) some.1 two_held.1.1.0.1 in
      subst (λ x. PairPut (part o x (part u q parts))) (sym first.2)
      (subst (λ y. PairPut (part o (scalar first.0 first.1) (part u y parts))) (sym second.2)
      (two_scalars o u first.0 second.0 first.1 second.1 parts)) put held

-- ---- elements

module _ (order : Endian) (p : Placed) (place : Option ℕ) (count at : ℕ) (b old : List ℕ) where
  abbrev elements_from : (offset left : ℕ) → Values
  elements_from offset left = each_value (covering_value p) (size_of p) offset left place

  abbrev ElementsLeft : (offset left : ℕ) → List ℕ → Type 0
  ElementsLeft offset left now =
      IsWritten (each_covered (is_covered p) (size_of p) 0 (elements_from 0 count)) (each_covered (is_covered p) (size_of p) offset (elements_from offset left))
      (HoldEach (Holds order p) (size_of p) offset b (elements_from offset left)) at b old now

  -- the first i elements were put
  abbrev pub ElementsPut : (i : ℕ) → List ℕ → Type 0
  ElementsPut i now = ElementsLeft (i * size_of p) (count - i) now

  pub elements_first : HoldEach (Holds order p) (size_of p) 0 b (elements_from 0 count) → ElementsPut 0 old
  elements_first h =
      let start : 0 ≡ 0 * size_of p = omega arith in
      let all : count ≡ count - 0 = omega arith in
      subst (λ o. ElementsLeft o (count - 0) old) start (subst (λ n. ElementsLeft 0 n old) all
      (written_none (each_covered (is_covered p) (size_of p) 0 (elements_from 0 count)) (HoldEach (Holds order p) (size_of p) 0 b (elements_from 0 count)) at b old h))

  one_next : (o left : ℕ) (now new : List ℕ) → ElementsLeft o (suc left) now →
      IsPutOver (λ k. is_byte_at o (size_of p) k && is_covered p (covering_value p (place_in place o (size_of p))) (k - o)) at b now new → ElementsLeft (o + size_of p) left new
  one_next o left now new h put =
      let v : Value = covering_value p (place_in place o (size_of p)) in
      written_more (each_covered (is_covered p) (size_of p) 0 (elements_from 0 count)) (λ k. is_byte_at o (size_of p) k && is_covered p v (k - o))
      (each_covered (is_covered p) (size_of p) (o + size_of p) (elements_from (o + size_of p) left))
      (HoldEach (Holds order p) (size_of p) o b (elements_from o (suc left))) (HoldEach (Holds order p) (size_of p) (o + size_of p) b (elements_from (o + size_of p) left)) at b old now new h put h.held.1

  one_more : (o left : ℕ) (now new : List ℕ) → AreBytes b → ElementsLeft o (suc left) now → PutsCovering order (at + o) now new (place_in place o (size_of p)) p → ElementsLeft (o + size_of p) left new
  one_more o left now new all h put =
      one_next o left now new h (put_slice order p (covering_value p (place_in place o (size_of p))) at o b now new all h.held.0 put)

  -- one more, whose bytes were put in whatever way
  pub elements_next : (i : ℕ) (now new : List ℕ) → i < count → ElementsPut i now →
      IsPutOver (λ k. is_byte_at (i * size_of p) (size_of p) k && is_covered p (covering_value p (place_in place (i * size_of p) (size_of p))) (k - i * size_of p)) at b now new → ElementsPut (i + 1) new
  elements_next i now new lt h put =
      let left : count - i ≡ suc (count - (i + 1)) = omega (arith, lt) in
      let next : i * size_of p + size_of p ≡ (i + 1) * size_of p = omega arith in
      let rest : ElementsLeft (i * size_of p) (suc (count - (i + 1))) now = subst (λ n. ElementsLeft (i * size_of p) n now) left h in
      subst (λ o. ElementsLeft o (count - (i + 1)) new) next (one_next (i * size_of p) (count - (i + 1)) now new rest put)

  pub elements_more : (i : ℕ) (now new : List ℕ) → i < count → AreBytes b → ElementsPut i now → PutsCovering order (at + i * size_of p) now new (place_in place (i * size_of p) (size_of p)) p → ElementsPut (i + 1) new
  elements_more i now new lt all h put =
      let left : count - i ≡ suc (count - (i + 1)) = omega (arith, lt) in
      let next : i * size_of p + size_of p ≡ (i + 1) * size_of p = omega arith in
      subst (λ o. ElementsLeft o (count - (i + 1)) new) next
      (one_more (i * size_of p) (count - (i + 1)) now new all (subst (λ n. ElementsLeft (i * size_of p) n now) left h) put)

  pub elements_end : (i : ℕ) (now : List ℕ) → count ≤ i → ElementsPut i now → IsPutOver (each_covered (is_covered p) (size_of p) 0 (elements_from 0 count)) at b old now
  elements_end i now end h =
      let none : count - i ≡ 0 = omega (arith, end) in
      written_all (each_covered (is_covered p) (size_of p) 0 (elements_from 0 count)) (each_covered (is_covered p) (size_of p) (i * size_of p) (elements_from (i * size_of p) (count - i)))
      (HoldEach (Holds order p) (size_of p) (i * size_of p) b (elements_from (i * size_of p) (count - i))) at b old now h
      (λ k. ap (λ n. each_covered (is_covered p) (size_of p) (i * size_of p) (elements_from (i * size_of p) n) k) none)

-- ---- fields

module _ (order : Endian) (os : List ℕ) (ps : List Placed) (place : Option ℕ) (at : ℕ) (b old : List ℕ) where
  abbrev FieldsLeft : Parts → List ℕ → Type 0
  FieldsLeft parts now =
      IsWritten (are_covered (parts_at os ps) (covering_values (parts_at os ps) place)) (are_covered parts (covering_values parts place))
      (HoldParts order parts b (covering_values parts place)) at b old now

  -- the first i fields were put
  abbrev pub FieldsPut : (i : ℕ) → List ℕ → Type 0
  FieldsPut i now = FieldsLeft (parts_at (drop i os) (drop i ps)) now

  pub fields_first : HoldParts order (parts_at os ps) b (covering_values (parts_at os ps) place) → FieldsPut 0 old
  fields_first h = written_none (are_covered (parts_at os ps) (covering_values (parts_at os ps) place)) (HoldParts order (parts_at os ps) b (covering_values (parts_at os ps) place)) at b old h

  one_field : (o : ℕ) (p : Placed) (parts : Parts) (now new : List ℕ) → AreBytes b → FieldsLeft (part o p parts) now → PutsCovering order (at + o) now new (place_in place o (size_of p)) p → FieldsLeft parts new
  one_field o p parts now new all h put =
      let v : Value = covering_value p (place_in place o (size_of p)) in
      written_more (are_covered (parts_at os ps) (covering_values (parts_at os ps) place)) (λ k. is_byte_at o (size_of p) k && is_covered p v (k - o)) (are_covered parts (covering_values parts place))
      (HoldParts order (part o p parts) b (covering_values (part o p parts) place)) (HoldParts order parts b (covering_values parts place)) at b old now new h
      (put_slice order p v at o b now new all h.held.0 put) h.held.1

  pub fields_more : (i : ℕ) (now new : List ℕ) → i < length os → i < length ps → AreBytes b → FieldsPut i now →
      PutsCovering order (at + get_or os i 0) now new (place_in place (get_or os i 0) (size_of (get_or ps i nothing))) (get_or ps i nothing) → FieldsPut (i + 1) new
  fields_more i now new lt below all h put =
      one_field (get_or os i 0) (get_or ps i nothing) (parts_at (drop (i + 1) os) (drop (i + 1) ps)) now new all (subst (λ parts. FieldsLeft parts now) (parts_from os ps i lt below) h) put

  pub fields_end : (i : ℕ) (now : List ℕ) → min (length os) (length ps) ≤ i → FieldsPut i now → IsPutOver (are_covered (parts_at os ps) (covering_values (parts_at os ps) place)) at b old now
  fields_end i now end h =
      written_all (are_covered (parts_at os ps) (covering_values (parts_at os ps) place)) (are_covered (parts_at (drop i os) (drop i ps)) (covering_values (parts_at (drop i os) (drop i ps)) place))
      (HoldParts order (parts_at (drop i os) (drop i ps)) b (covering_values (parts_at (drop i os) (drop i ps)) place)) at b old now h
      (λ k. ap (λ parts. are_covered parts (covering_values parts place) k) (parts_end os ps i end))

-- ---- a variant, which has a node of its own

-- its fields in bytes of the whole are in as many bytes as it is large
own_bytes : (order : Endian) (parts : Parts) (n : ℕ) (b : List ℕ) (vs : Values) → n ≤ length b → have_room n parts ≡ true → HoldParts order parts b vs → HoldParts order parts (bytes_at b 0 n) vs
own_bytes order no_parts n b no_values le room h = tt
own_bytes order no_parts n b (more_values v vs) le room h = absurd h
own_bytes order (part o p parts) n b no_values le room h = absurd h
own_bytes order (part o p parts) n b (more_values v vs) le room h =
    let both = and_parts (nat_le (o + size_of p) n && has_room p) (have_room n parts) room in
    let fits : o + size_of p ≤ n = leb-true (o + size_of p) n (and_parts (nat_le (o + size_of p) n) (has_room p) both.0).0 in
    let start : 0 + o ≡ o = omega arith in
    let same : bytes_at b o (size_of p) ≡ bytes_at (bytes_at b 0 n) o (size_of p) = ap (λ i. bytes_at b i (size_of p)) (sym start) ∙ sym (bytes_at-bytes_at b 0 n o (size_of p) fits) in
    ((omega (arith, fits, le, length-bytes_at b 0 n), subst (λ slice. Holds order p slice v) same h.0.1), own_bytes order parts n b vs le both.1 h.1)

-- what they cover lies below its size
own_below : (n : ℕ) (parts : Parts) (vs : Values) (k : ℕ) → have_room n parts ≡ true → are_covered parts vs k ≡ true → k < n
own_below n no_parts vs k room c = absurd (true≢false (sym c))
own_below n (part o p parts) no_values k room c = absurd (true≢false (sym c))
own_below n (part o p parts) (more_values v vs) k room c =
    let both = and_parts (nat_le (o + size_of p) n && has_room p) (have_room n parts) room in
    let fits : o + size_of p ≤ n = leb-true (o + size_of p) n (and_parts (nat_le (o + size_of p) n) (has_room p) both.0).0 in
    ⊎_elim
    (λ here.
    let at = and_parts (is_byte_at o (size_of p) k) (is_covered p v (k - o)) here in
    let ends = and_parts (nat_le o k) (nat_lt (k - o) (size_of p)) at.0 in
    let from : o ≤ k = leb-true o k ends.0 in
    let lt : k - o < size_of p = ltb-true (k - o) (size_of p) ends.1 in
    omega (arith, from, lt, fits))
    (λ later. own_below n parts vs k both.1 later)
    (or_cases (is_byte_at o (size_of p) k && is_covered p v (k - o)) (are_covered parts vs k) c)

own_like : (n : ℕ) (parts : Parts) (vs : Values) → have_room n parts ≡ true → (k : ℕ) → (is_byte_at 0 n k && are_covered parts vs (k - 0)) ≡ are_covered parts vs k
own_like n parts vs room k =
    let same : k - 0 ≡ k = omega arith in
    ap (λ j. is_byte_at 0 n k && are_covered parts vs j) same
    ∙ ⊎_elim
    (λ (c : are_covered parts vs k ≡ true).
    let lt : k < n = own_below n parts vs k room c in
    both_true (both_true (le-leb 0 k (omega arith)) (lt-ltb (k - 0) n (omega (arith, lt)))) c ∙ sym c)
    (λ (c : are_covered parts vs k ≡ false). and_right (is_byte_at 0 n k) (are_covered parts vs k) c ∙ sym c)
    (cases_Bool (are_covered parts vs k))

-- as the whole of its own node, and as the fields of a tagged variant
pub variant_put : (order : Endian) (p : Placed) (place : Option ℕ) (at : ℕ) (old new : List ℕ) → has_list p ≡ true → has_room p ≡ true → PutsCovering order at old new place p →
    (b : List ℕ) → AreBytes b → size_of p ≤ length b → HoldParts order (own_fields p) b (covering_values (own_fields p) place) →
    IsPutOver (are_covered (own_fields p) (covering_values (own_fields p) place)) at b old new
variant_put order (fields layout mark parts) place at old new listed room put b all le held =
    let n : ℕ = layout.size in
    let vs : Values = covering_values parts place in
    let start : at ≡ at + 0 = omega arith in
    let long : length (bytes_at b 0 n) ≡ n = omega (arith, length-bytes_at b 0 n, le) in
    let own = put (bytes_at b 0 n) (AreBytes-bytes_at b 0 n all) (long, own_bytes order parts n b vs le room held) in
    put_like (λ k. is_byte_at 0 n k && are_covered parts vs (k - 0)) (are_covered parts vs) at b old new (own_like n parts vs room)
    (put_part (are_covered parts vs) at 0 n b old new (omega (arith, le)) (subst (λ a. IsPutOver (are_covered parts vs) a (bytes_at b 0 n) old new) start own))
variant_put order _ place at old new listed room put b all le held = absurd (cc)

-- the tagged variant with an index has the values of its variant's fields
pub tagged_variant_values_own : (done : List Placed) (vs : List (ℕ × ℕ)) (i : ℕ) (d : ℕ × ℕ) (place : Option ℕ) → i < length vs →
    tagged_variant_values (tagged_variants_in done vs) i place ≡ covering_values (own_fields (placed_in done (get_or vs i d).1)) place
tagged_variant_values_own done [] i d place lt = absurd (omega arith)
tagged_variant_values_own done (v ∷ vs) zero d place lt = refl
tagged_variant_values_own done (v ∷ vs) (suc i) d place lt = tagged_variant_values_own done vs i d place (omega arith)

module _ (order : Endian) (done : List Placed) (place : Option ℕ) (at : ℕ) (old mid new : List ℕ) (encoding : TagEncoding ℕ) (offset : ℕ) (tag : Placed) (vs : List (ℕ × ℕ)) (i : ℕ) (lt : i < length vs) where
  abbrev own_node : Placed
  own_node = placed_in done (get_or vs i (0, 0)).1

  abbrev ThisCovered : (b : List ℕ) → (j : ℕ) → Type 0
  ThisCovered b j = IsNamedIn order b encoding offset tag (tagged_variants_in done vs) j (tagged_variant_values (tagged_variants_in done vs) j place) →
      IsPutOver (λ k. (is_tagged encoding j && is_byte_at offset (size_of tag) k) || is_tagged_variant_covered (tagged_variants_in done vs) j (tagged_variant_values (tagged_variants_in done vs) j place) k) at b old new

  -- the tag, and then the variant's own node
  pub tagged_variant_put : i ≡ tagged_variant_for encoding (tagged_variants_in done vs) place → has_list own_node ≡ true → has_room own_node ≡ true → PutsTag order at old mid encoding offset (size_of tag) vs i → PutsCovering order at mid new place own_node →
      PutsCoveringTaggedVariant order at old new place encoding offset tag done vs
  tagged_variant_put is listed room front own = λ b all sizes. subst (ThisCovered b) is (this b all (sizes i (0, 0) lt))
    where
      this : (b : List ℕ) → AreBytes b → size_of own_node ≤ length b → ThisCovered b i
      this b all le held =
          let ws : Values = tagged_variant_values (tagged_variants_in done vs) i place in
          let same : ws ≡ covering_values (own_fields own_node) place = tagged_variant_values_own done vs i (0, 0) place lt in
          let parts = from_tagged_variant order done b vs i (0, 0) ws held.2 in
          let over = variant_put order own_node place at mid new listed room own b all le (subst (HoldParts order (own_fields own_node) b) same parts.1) in
          put_both (λ k. is_tagged encoding i && is_byte_at offset (size_of tag) k) (λ k. is_tagged_variant_covered (tagged_variants_in done vs) i ws k) at b old mid new (front b done all held.0 held.1)
          (put_like (are_covered (own_fields own_node) ws) (λ k. is_tagged_variant_covered (tagged_variants_in done vs) i ws k) at b mid new (λ k. tagged_variant_covers done vs i (0, 0) ws k lt)
          (subst (λ us. IsPutOver (are_covered (own_fields own_node) us) at b mid new) (sym same) over))

-- prefix fields, and then a state
pub states_put : (order : Endian) (layout : Layout) (place : Option ℕ) (at : ℕ) (b old mid new : List ℕ) (prefix : Parts) (offset : ℕ) (tag : Placed) (tagged_variants : TaggedVariants) →
    (HoldParts order prefix b (covering_values prefix place) → IsPutOver (are_covered prefix (covering_values prefix place)) at b old mid) →
    (IsNamedIn order b Direct offset tag tagged_variants (tagged_variant_for Direct tagged_variants place) (tagged_variant_values tagged_variants (tagged_variant_for Direct tagged_variants place) place) →
    IsPutOver (λ k. (is_tagged Direct (tagged_variant_for Direct tagged_variants place) && is_byte_at offset (size_of tag) k)
    || is_tagged_variant_covered tagged_variants (tagged_variant_for Direct tagged_variants place) (tagged_variant_values tagged_variants (tagged_variant_for Direct tagged_variants place) place) k) at b mid new) →
    Holds order (states layout prefix offset tag tagged_variants) b (covering_value (states layout prefix offset tag tagged_variants) place) →
    IsPutOver (is_covered (states layout prefix offset tag tagged_variants) (covering_value (states layout prefix offset tag tagged_variants) place)) at b old new
states_put order layout place at b old mid new prefix offset tag tagged_variants front put held =
    let i : ℕ = tagged_variant_for Direct tagged_variants place in
    put_both (are_covered prefix (covering_values prefix place)) (λ k. is_byte_at offset (size_of tag) k || is_tagged_variant_covered tagged_variants i (tagged_variant_values tagged_variants i place) k) at b old mid new
    (front held.1) (put (held.2, held.3, held.4))

-- ---- which variant

module _ (done : List Placed) (vs : List (ℕ × ℕ)) (k otherwise i : ℕ) (d : ℕ × ℕ) (lt : i < length vs) where
  abbrev has_it : Bool
  has_it = is_place_of_part (own_fields (placed_in done (get_or vs i d).1)) k

  with_next : first_with (tagged_variants_in done (drop i vs)) k i otherwise ≡ (if has_it then i else first_with (tagged_variants_in done (drop (i + 1) vs)) k (i + 1) otherwise)
  with_next = ap (λ ws. first_with (tagged_variants_in done ws) k i otherwise) (drop_more vs i d lt)

  pub with_this : has_it ≡ true → first_with (tagged_variants_in done (drop i vs)) k i otherwise ≡ i
  with_this has = with_next ∙ ap (λ b. if b then i else first_with (tagged_variants_in done (drop (i + 1) vs)) k (i + 1) otherwise) has

  pub with_later : has_it ≡ false → first_with (tagged_variants_in done (drop i vs)) k i otherwise ≡ first_with (tagged_variants_in done (drop (i + 1) vs)) k (i + 1) otherwise
  with_later none = with_next ∙ ap (λ b. if b then i else first_with (tagged_variants_in done (drop (i + 1) vs)) k (i + 1) otherwise) none

pub with_none : (done : List Placed) (vs : List (ℕ × ℕ)) (k otherwise i : ℕ) → length vs ≤ i → first_with (tagged_variants_in done (drop i vs)) k i otherwise ≡ otherwise
with_none done vs k otherwise i end = ap (λ ws. first_with (tagged_variants_in done ws) k i otherwise) (drop_all i vs end)

-- ---- zeros

-- zeros before place k were put wherever the test picks one
abbrev pub ZerosBefore : (p : ℕ → Bool) (at size : ℕ) (old now : List ℕ) (k : ℕ) → Type 0
ZerosBefore p at size old now k =
    (b : List ℕ) → length b ≡ size → ((j : ℕ) → p j ≡ true → get_or b j 0 ≡ 0) → IsPutOver (λ j. p j && nat_lt j k) at b old now

module _ (p : ℕ → Bool) (at size : ℕ) (old : List ℕ) where
  pub zeros_first : ZerosBefore p at size old old 0
  zeros_first = λ b long zeros. put_like (λ k. false) (λ k. p k && nat_lt k 0) at b old old (λ k. sym (and_right (p k) (nat_lt k 0) (le-ltb k 0 (omega arith)))) (put_none at b old)

  pub zeros_skip : (now : List ℕ) (from start : ℕ) → from ≤ start → ((i : ℕ) → from ≤ i → i < start → p i ≡ false) → ZerosBefore p at size old now from → ZerosBefore p at size old now start
  zeros_skip now from start le none before = λ b long zeros. put_like (λ j. p j && nat_lt j from) (λ j. p j && nat_lt j start) at b old now (before_skip p from start le none) (before b long zeros)

  pub zeros_more : (now : List ℕ) (k : ℕ) → p k ≡ true → k < size → ZerosBefore p at size old now k → (new : List ℕ) → length new ≡ length now → get_or new (at + k) 0 ≡ 0 →
      ((j : ℕ) → j ≢ at + k → get_or new j 0 ≡ get_or now j 0) → ZerosBefore p at size old new (k + 1)
  zeros_more now k place inside before new long_now here other = λ b long zeros.
      put_like (λ j. (p j && nat_lt j k) || (j == k)) (λ j. p j && nat_lt j (k + 1)) at b old new (before_more p k place)
      (put_one (λ j. p j && nat_lt j k) at k b old now new (omega (arith, long, inside)) (before b long zeros) long_now (here ∙ sym (zeros k place)) other)

  pub zeros_all : (now : List ℕ) (from : ℕ) → ((i : ℕ) → from ≤ i → p i ≡ false) → ZerosBefore p at size old now from →
      (b : List ℕ) → length b ≡ size → ((j : ℕ) → p j ≡ true → get_or b j 0 ≡ 0) → IsPutOver p at b old now
  zeros_all now from none before = λ b long zeros. put_like (λ j. p j && nat_lt j from) p at b old now (before_all_left p from none) (before b long zeros)

-- bytes whose picked ones are zeros have one at each place
pub zeros_there : (p : ℕ → Bool) (b : List ℕ) (n : ℕ) → replicate n 0 ≡ picked_bytes p 0 b → (k : ℕ) → p k ≡ true → get_or b k 0 ≡ 0
zeros_there p b n is k place =
    let start : 0 + k ≡ k = omega arith in
    ⊎_elim
    (λ (lt : k < length b).
    sym (picked-at p 0 k b (subst (λ i. p i ≡ true) (sym start) place) lt) ∙ ap (λ xs. get_or xs (count_picked p 0 k) 0) (sym is) ∙ zeros_at n (count_picked p 0 k))
    (λ (le : length b ≤ k). get_or_past b k 0 le)
    (cases_lt k (length b))

pub union_put : (order : Endian) (layout : Layout) (at : ℕ) (b old new : List ℕ) (u : Placed) (content : List ℕ) (n : ℕ) → content ≡ replicate n 0 →
    (length b ≡ layout.size → ((k : ℕ) → is_data_place u k ≡ true → get_or b k 0 ≡ 0) → IsPutOver (is_data_place u) at b old new) →
    length b ≡ layout.size → content ≡ picked_bytes (is_data_place u) 0 b → IsPutOver (is_data_place u) at b old new
union_put order layout at b old new u content n zeros put long is = put long (zeros_there (is_data_place u) b n (sym zeros ∙ is))

-- ---- a byte in runs, one run after another

module _ (runs : List (ℕ × ℕ)) (i : ℕ) (d : ℕ × ℕ) (k : ℕ) (lt : i < length runs) where
  run_here : is_in_ranges (drop i runs) k ≡ (is_in_run k (get_or runs i d) || is_in_ranges (drop (i + 1) runs) k)
  run_here = ap (λ rs. is_in_ranges rs k) (drop_more runs i d lt)

  pub in_this_run : is_in_run k (get_or runs i d) ≡ true → is_in_ranges (drop i runs) k ≡ true
  in_this_run here = run_here ∙ ap (λ b. b || is_in_ranges (drop (i + 1) runs) k) here

  pub past_this_run : is_in_run k (get_or runs i d) ≡ false → is_in_ranges (drop i runs) k ≡ is_in_ranges (drop (i + 1) runs) k
  past_this_run none = run_here ∙ ap (λ b. b || is_in_ranges (drop (i + 1) runs) k) none
