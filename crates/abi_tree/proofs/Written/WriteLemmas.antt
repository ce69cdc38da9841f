-- How a value's bytes are put from those of its parts.
use Rattle.std.proofs.Common.{◌≡◌, ℕ, zero, suc, ◌+◌, ◌-◌, ◌*◌, ◌<◌, ◌≤◌, List, [], ◌∷◌, Bool, true, false, length, get_or, drop, min, arith, refl, sym, ap, ◌∙◌, subst, ⊎_elim}
use Rattle.std.specs.Prelude.{◌&&◌, ◌||◌, Result, nat_le, nat_lt}
use Rattle.std.specs.Result.{OnOk}
use Rattle.std.proofs.Math.Bool.{or-false}
use Rattle.std.proofs.lemmas.Bool.{and_parts, cases_lt, leb-true}
use Rattle.std.proofs.lemmas.List.{drop_more, drop_all}
use Rattle.abi_base.specs.declared.endian.Endian.{Endian}
use Rattle.abi_scalar.specs.declared.scalar.Scalar.{Scalar}
use Rattle.abi_scalar.specs.declared.variants.TagEncoding.{TagEncoding}
use Rattle.abi_scalar.specs.declared.variants.TagEncoding.TheVariants.{Direct}
use Rattle.abi_tree.specs.declared.mark.Mark.{Mark}
use Rattle.abi_tree.specs.declared.value.Value.{Value as Kept, Num as NumKept}
use Rattle.abi_tree.specs.Value.{Value, number, two, list, variant, state, bytes, Values, no_values, more_values, value_count, value_of, values_of}
use Rattle.abi_tree.specs.Bytes.{AreBytes, bytes_at, number_of, picked_bytes}
use Rattle.abi_tree.specs.Placed.{Placed, scalar, pair, never, elements, vector, fields, union, single, tagged, states, Parts, no_parts, part, TaggedVariants, nothing, size_of}
use Rattle.abi_scalar.specs.Layout.{Layout}
use Rattle.abi_tree.specs.Places.{is_data_place}
use Rattle.abi_tree.specs.Nodes.{tagged_variants_in, own_fields, parts_at, placed_at, placed_in}
use Rattle.abi_tree.specs.declared.node.Node.{Node}
use Rattle.abi_tree.specs.Room.{has_room}
use Rattle.abi_tree.specs.Holding.{HoldEach, HoldParts, Holds, IsAt}
use Rattle.abi_tree.specs.Reading.{IsNamedIn}
use Rattle.abi_tree.specs.Covering.{are_covered, each_covered, is_tagged_variant_covered, is_byte_at, is_covered, is_tagged}
use Rattle.abi_tree.specs.Writing.{IsPutOver}
use Rattle.abi_tree.specs.Putting.{PutsTaggedVariant, PutsParts}
use Rattle.abi_tree.proofs.Bytes.BytesLemmas.{AreBytes-bytes_at}
use Rattle.abi_tree.proofs.Places.DataPlacesLemmas.{or_shift}
use Rattle.abi_tree.proofs.Bytes.PutOverLemmas.{put_both, put_like, put_none, put_part}
use Rattle.abi_tree.proofs.Found.ReadLemmas.{parts_end, parts_from}
use Rattle.abi_tree.proofs.Found.ValueLemmas.{value_of-Num}

-- ---- lists of values, one after another

-- Of all bytes that are covered some are put; what covers the rest is held.
pub record IsWritten (all rest : ℕ → Bool) (Held : Type 0) (at : ℕ) (b old now : List ℕ) : Type 0 where
  pub picks : ℕ → Bool
  pub whole : (k : ℕ) → (picks k || rest k) ≡ all k
  pub put : IsPutOver picks at b old now
  pub held : Held

pub written_none : (all : ℕ → Bool) (Held : Type 0) (at : ℕ) (b old : List ℕ) → Held → IsWritten all all Held at b old old
written_none all Held at b old h = record { picks = λ k. false; whole = λ k. refl; put = put_none at b old; held = h }

-- nothing is left
pub written_all : (all rest : ℕ → Bool) (Held : Type 0) (at : ℕ) (b old now : List ℕ) → IsWritten all rest Held at b old now → ((k : ℕ) → rest k ≡ false) → IsPutOver all at b old now
written_all all rest Held at b old now h none =
    put_like h.picks all at b old now (λ k. sym (or-false (h.picks k)) ∙ ap (λ t. h.picks k || t) (sym (none k)) ∙ h.whole k) h.put

-- one more
pub written_more : (all here rest : ℕ → Bool) (Held Later : Type 0) (at : ℕ) (b old now new : List ℕ) → IsWritten all (λ k. here k || rest k) Held at b old now →
    IsPutOver here at b now new → Later → IsWritten all rest Later at b old new
written_more all here rest Held Later at b old now new h put later = record {
  picks = λ k. h.picks k || here k;
  whole = λ k. sym (or_shift (h.picks k) (here k) (rest k)) ∙ h.whole k;
  put = put_both h.picks here at b old now new h.put put;
  held = later;
}

-- the bytes of a part put at its offset are bytes of the whole
pub put_slice : (order : Endian) (p : Placed) (v : Value) (at offset : ℕ) (b now new : List ℕ) → AreBytes b → IsAt offset (size_of p) (λ slice. Holds order p slice v) b →
    ((c : List ℕ) → AreBytes c → Holds order p c v → IsPutOver (is_covered p v) (at + offset) c now new) →
    IsPutOver (λ k. is_byte_at offset (size_of p) k && is_covered p v (k - offset)) at b now new
put_slice order p v at offset b now new all held child =
    put_part (is_covered p v) at offset (size_of p) b now new held.0 (child (bytes_at b offset (size_of p)) (AreBytes-bytes_at b offset (size_of p) all) held.1)

values_from : (ks : List Kept) (i : ℕ) (d : Kept) → i < length ks → values_of (drop i ks) ≡ more_values (value_of (get_or ks i d)) (values_of (drop (i + 1) ks))
values_from ks i d lt = ap values_of (drop_more ks i d lt)

-- ---- fields

module _ (order : Endian) (os : List ℕ) (ps : List Placed) (ks : List Kept) (at : ℕ) (b old : List ℕ) where
  abbrev WrittenParts : Parts → Values → List ℕ → Type 0
  WrittenParts parts vs now = IsWritten (are_covered (parts_at os ps) (values_of ks)) (are_covered parts vs) (HoldParts order parts b vs) at b old now

  -- the first i fields were put
  abbrev pub AreWritten : (i : ℕ) → List ℕ → Type 0
  AreWritten i now = WrittenParts (parts_at (drop i os) (drop i ps)) (values_of (drop i ks)) now

  one_part : (o : ℕ) (p : Placed) (parts : Parts) (v : Value) (vs : Values) (now new : List ℕ) → AreBytes b → WrittenParts (part o p parts) (more_values v vs) now →
      ((c : List ℕ) → AreBytes c → Holds order p c v → IsPutOver (is_covered p v) (at + o) c now new) → WrittenParts parts vs new
  one_part o p parts v vs now new all h child =
      written_more (are_covered (parts_at os ps) (values_of ks)) (λ k. is_byte_at o (size_of p) k && is_covered p v (k - o)) (are_covered parts vs)
      (HoldParts order (part o p parts) b (more_values v vs)) (HoldParts order parts b vs) at b old now new h (put_slice order p v at o b now new all h.held.0 child) h.held.1

  pub parts_more : (i : ℕ) (d : Kept) (now new : List ℕ) → i < length os → i < length ps → i < length ks → AreBytes b → AreWritten i now →
      ((c : List ℕ) → AreBytes c → Holds order (get_or ps i nothing) c (value_of (get_or ks i d)) →
      IsPutOver (is_covered (get_or ps i nothing) (value_of (get_or ks i d))) (at + get_or os i 0) c now new) →
      AreWritten (i + 1) new
  parts_more i d now new lt below there all h child =
      one_part (get_or os i 0) (get_or ps i nothing) (parts_at (drop (i + 1) os) (drop (i + 1) ps)) (value_of (get_or ks i d)) (values_of (drop (i + 1) ks)) now new all
      (subst (λ vs. WrittenParts (part (get_or os i 0) (get_or ps i nothing) (parts_at (drop (i + 1) os) (drop (i + 1) ps))) vs now) (values_from ks i d there)
      (subst (λ parts. WrittenParts parts (values_of (drop i ks)) now) (parts_from os ps i lt below) h))
      child

  none_left : (parts : Parts) (k : ℕ) → are_covered parts no_values k ≡ false
  none_left no_parts k = refl
  none_left (part o p parts) k = refl

  parts_done : (i : ℕ) → min (min (length os) (length ps)) (length ks) ≤ i → (k : ℕ) → are_covered (parts_at (drop i os) (drop i ps)) (values_of (drop i ks)) k ≡ false
  parts_done i end k =
      ⊎_elim
      (λ (short : length ks < min (length os) (length ps)).
      ap (λ xs. are_covered (parts_at (drop i os) (drop i ps)) (values_of xs) k) (drop_all i ks (omega arith)) ∙ none_left (parts_at (drop i os) (drop i ps)) k)
      (λ (short : min (length os) (length ps) ≤ length ks). ap (λ parts. are_covered parts (values_of (drop i ks)) k) (parts_end os ps i (omega arith)))
      (cases_lt (length ks) (min (length os) (length ps)))

  pub parts_all : (i : ℕ) (now : List ℕ) → min (min (length os) (length ps)) (length ks) ≤ i → AreWritten i now → IsPutOver (are_covered (parts_at os ps) (values_of ks)) at b old now
  parts_all i now end h =
      written_all (are_covered (parts_at os ps) (values_of ks)) (are_covered (parts_at (drop i os) (drop i ps)) (values_of (drop i ks)))
      (HoldParts order (parts_at (drop i os) (drop i ps)) b (values_of (drop i ks))) at b old now h (parts_done i end)

-- ---- elements

count_kept : (ks : List Kept) → value_count (values_of ks) ≡ length ks
count_kept [] = refl
count_kept (k ∷ ks) = omega (arith, count_kept ks)

module _ (order : Endian) (p : Placed) (ks : List Kept) (at : ℕ) (b old : List ℕ) where
  abbrev covers_from : ℕ → Values → ℕ → Bool
  covers_from o vs = each_covered (is_covered p) (size_of p) o vs

  abbrev WrittenFrom : ℕ → Values → List ℕ → Type 0
  WrittenFrom o vs now = IsWritten (covers_from 0 (values_of ks)) (covers_from o vs) (HoldEach (Holds order p) (size_of p) o b vs) at b old now

  -- the first i elements were put
  abbrev pub WrittenElements : (i : ℕ) → List ℕ → Type 0
  WrittenElements i now = WrittenFrom (i * size_of p) (values_of (drop i ks)) now

  pub elements_begin : HoldEach (Holds order p) (size_of p) 0 b (values_of ks) → WrittenElements 0 old
  elements_begin h =
      let start : 0 ≡ 0 * size_of p = omega arith in
      subst (λ o. WrittenFrom o (values_of ks) old) start (written_none (covers_from 0 (values_of ks)) (HoldEach (Holds order p) (size_of p) 0 b (values_of ks)) at b old h)

  one_element : (o : ℕ) (v : Value) (vs : Values) (now new : List ℕ) → AreBytes b → WrittenFrom o (more_values v vs) now →
      ((c : List ℕ) → AreBytes c → Holds order p c v → IsPutOver (is_covered p v) (at + o) c now new) → WrittenFrom (o + size_of p) vs new
  one_element o v vs now new all h child =
      written_more (covers_from 0 (values_of ks)) (λ k. is_byte_at o (size_of p) k && is_covered p v (k - o)) (covers_from (o + size_of p) vs)
      (HoldEach (Holds order p) (size_of p) o b (more_values v vs)) (HoldEach (Holds order p) (size_of p) (o + size_of p) b vs) at b old now new h
      (put_slice order p v at o b now new all h.held.0 child) h.held.1

  pub elements_next : (i : ℕ) (d : Kept) (now new : List ℕ) → i < length ks → AreBytes b → WrittenElements i now →
      ((c : List ℕ) → AreBytes c → Holds order p c (value_of (get_or ks i d)) → IsPutOver (is_covered p (value_of (get_or ks i d))) (at + i * size_of p) c now new) →
      WrittenElements (i + 1) new
  elements_next i d now new lt all h child =
      let next : i * size_of p + size_of p ≡ (i + 1) * size_of p = omega arith in
      subst (λ o. WrittenFrom o (values_of (drop (i + 1) ks)) new) next
      (one_element (i * size_of p) (value_of (get_or ks i d)) (values_of (drop (i + 1) ks)) now new all
      (subst (λ vs. WrittenFrom (i * size_of p) vs now) (values_from ks i d lt) h) child)

  pub elements_done : (i count : ℕ) (now : List ℕ) → value_count (values_of ks) ≡ count → min (length ks) count ≤ i → WrittenElements i now → IsPutOver (covers_from 0 (values_of ks)) at b old now
  elements_done i count now many end h =
      written_all (covers_from 0 (values_of ks)) (covers_from (i * size_of p) (values_of (drop i ks))) (HoldEach (Holds order p) (size_of p) (i * size_of p) b (values_of (drop i ks))) at b old now h
      (λ k. ap (λ xs. covers_from (i * size_of p) (values_of xs) k) (drop_all i ks (omega (arith, many, end, count_kept ks))))

-- ---- a value of each kind, from what was put of it

module _ (order : Endian) (layout : Layout) (at : ℕ) (b old new : List ℕ) where
  -- the value is put over the type's bytes
  abbrev pub Put : Placed → Value → Type 0
  Put p v = IsPutOver (is_covered p v) at b old new

  pub put_scalar : (s : Scalar) (v : Value) (n : ℕ) → ((m : ℕ) → v ≡ number m → n ≡ m) → (length b ≡ layout.size → n ≡ number_of order b → IsPutOver (λ k. nat_lt k layout.size) at b old new) →
      Holds order (scalar layout s) b v → Put (scalar layout s) v
  put_scalar s (number m) n is h held = h held.0 (is m refl ∙ held.1)
  put_scalar s v n is h held = absurd held

  pub put_never : (mark : Mark) (v : Value) → Holds order (never layout mark) b v → Put (never layout mark) v
  put_never mark v held = absurd held

  pub put_pair : (parts : Parts) (v : Value) (n m : ℕ) → ((x y : ℕ) → v ≡ two x y → (n ≡ x) × (m ≡ y)) →
      (HoldParts order parts b (values_of (NumKept n ∷ NumKept m ∷ [])) → IsPutOver (are_covered parts (values_of (NumKept n ∷ NumKept m ∷ []))) at b old new) →
      Holds order (pair layout parts) b v → Put (pair layout parts) v
  put_pair parts (two x y) n m is h held =
      let e = is x y refl in
      let same : values_of (NumKept n ∷ NumKept m ∷ []) ≡ more_values (number x) (more_values (number y) no_values) =
      ap (λ u. more_values u (values_of (NumKept m ∷ []))) (value_of-Num n ∙ ap number e.0)
      ∙ ap (λ u. more_values (number x) (more_values u no_values)) (value_of-Num m ∙ ap number e.1) in
      subst (λ vs. IsPutOver (are_covered parts vs) at b old new) same (h (subst (HoldParts order parts b) (sym same) held.1))
  put_pair parts v n m is h held = absurd held

  pub put_elements : (count : ℕ) (element : Placed) (v : Value) (us : Values) → ((vs : Values) → v ≡ list vs → us ≡ vs) →
      (value_count us ≡ count → HoldEach (Holds order element) (size_of element) 0 b us → IsPutOver (each_covered (is_covered element) (size_of element) 0 us) at b old new) →
      Holds order (elements layout count element) b v → Put (elements layout count element) v
  put_elements count element (list vs) us is h held =
      let e : us ≡ vs = is vs refl in
      subst (λ xs. IsPutOver (each_covered (is_covered element) (size_of element) 0 xs) at b old new) e
      (h (ap value_count e ∙ held.1) (subst (HoldEach (Holds order element) (size_of element) 0 b) (sym e) held.2))
  put_elements count element v us is h held = absurd held

  pub put_fields : (mark : Mark) (parts : Parts) (v : Value) (us : Values) → ((vs : Values) → v ≡ list vs → us ≡ vs) →
      (HoldParts order parts b us → IsPutOver (are_covered parts us) at b old new) → Holds order (fields layout mark parts) b v → Put (fields layout mark parts) v
  put_fields mark parts (list vs) us is h held =
      let e : us ≡ vs = is vs refl in
      subst (λ xs. IsPutOver (are_covered parts xs) at b old new) e (h (subst (HoldParts order parts b) (sym e) held.1))
  put_fields mark parts v us is h held = absurd held

  pub put_union : (mark : Mark) (parts : Parts) (v : Value) (content : List ℕ) → ((xs : List ℕ) → v ≡ bytes xs → content ≡ xs) →
      (length b ≡ layout.size → content ≡ picked_bytes (is_data_place (union layout mark parts)) 0 b → IsPutOver (is_data_place (union layout mark parts)) at b old new) →
      Holds order (union layout mark parts) b v → Put (union layout mark parts) v
  put_union mark parts (bytes xs) content is h held = h held.0 (is xs refl ∙ held.1)
  put_union mark parts v content is h held = absurd held

  pub put_vector : (lanes : Placed) (v : Value) → (IsAt 0 (size_of lanes) (λ slice. Holds order lanes slice v) b → IsPutOver (λ k. is_byte_at 0 (size_of lanes) k && is_covered lanes v (k - 0)) at b old new) →
      Holds order (vector layout lanes) b v → Put (vector layout lanes) v
  put_vector lanes (list vs) h held =
      put_like (λ k. is_byte_at 0 (size_of lanes) k && is_covered lanes (list vs) (k - 0)) (is_covered (vector layout lanes) (list vs)) at b old new
      (λ k. let same : k - 0 ≡ k = omega arith in ap (λ n. is_byte_at 0 (size_of lanes) k && is_covered lanes (list vs) n) same) (h held.1)
  put_vector lanes v h held = absurd held

  pub put_single : (mark : Mark) (index : ℕ) (parts : Parts) (v : Value) (i : ℕ) (us : Values) → ((j : ℕ) (vs : Values) → v ≡ variant j vs → (i ≡ j) × (us ≡ vs)) →
      (HoldParts order parts b us → IsPutOver (are_covered parts us) at b old new) → Holds order (single layout mark index parts) b v → Put (single layout mark index parts) v
  put_single mark index parts (variant j vs) i us is h held =
      let e = is j vs refl in
      subst (λ xs. IsPutOver (are_covered parts xs) at b old new) e.1 (h (subst (HoldParts order parts b) (sym e.1) held.2))
  put_single mark index parts v i us is h held = absurd held

  -- a tag and the fields of a tagged variant
  abbrev pub covers_tagged_variant : TagEncoding ℕ → (offset : ℕ) → (tag : Placed) → TaggedVariants → ℕ → Values → ℕ → Bool
  covers_tagged_variant encoding offset tag tagged_variants i vs k = (is_tagged encoding i && is_byte_at offset (size_of tag) k) || is_tagged_variant_covered tagged_variants i vs k

  pub put_tagged : (mark : Mark) (offset : ℕ) (tag : Placed) (encoding : TagEncoding ℕ) (tagged_variants : TaggedVariants) (v : Value) (i : ℕ) (us : Values) →
      ((j : ℕ) (vs : Values) → v ≡ variant j vs → (i ≡ j) × (us ≡ vs)) →
      (IsNamedIn order b encoding offset tag tagged_variants i us → IsPutOver (covers_tagged_variant encoding offset tag tagged_variants i us) at b old new) →
      Holds order (tagged layout mark offset tag encoding tagged_variants) b v → Put (tagged layout mark offset tag encoding tagged_variants) v
  put_tagged mark offset tag encoding tagged_variants (variant j vs) i us is h held =
      let e = is j vs refl in
      subst (λ x. IsPutOver (covers_tagged_variant encoding offset tag tagged_variants x vs) at b old new) e.0
      (subst (λ xs. IsPutOver (covers_tagged_variant encoding offset tag tagged_variants i xs) at b old new) e.1
      (h (subst (λ xs. IsNamedIn order b encoding offset tag tagged_variants i xs) (sym e.1) (subst (λ x. IsNamedIn order b encoding offset tag tagged_variants x vs) (sym e.0) (held.1, held.2, held.3)))))
  put_tagged mark offset tag encoding tagged_variants v i us is h held = absurd held

-- prefix fields, then a tag and a state's own
pub put_states : (order : Endian) (layout : Layout) (at : ℕ) (b old mid new : List ℕ) (prefix : Parts) (offset : ℕ) (tag : Placed) (tagged_variants : TaggedVariants) (v : Value) (i : ℕ) (ps us : Values) →
    ((j : ℕ) (qs vs : Values) → v ≡ state j qs vs → (i ≡ j) × (ps ≡ qs) × (us ≡ vs)) →
    (HoldParts order prefix b ps → IsPutOver (are_covered prefix ps) at b old mid) →
    (IsNamedIn order b Direct offset tag tagged_variants i us → IsPutOver (covers_tagged_variant order layout at b old new Direct offset tag tagged_variants i us) at b mid new) →
    Holds order (states layout prefix offset tag tagged_variants) b v → IsPutOver (is_covered (states layout prefix offset tag tagged_variants) v) at b old new
put_states order layout at b old mid new prefix offset tag tagged_variants (state j qs vs) i ps us is front_put tagged_variant_put held =
    let e = is j qs vs refl in
    let front : IsPutOver (are_covered prefix qs) at b old mid = subst (λ xs. IsPutOver (are_covered prefix xs) at b old mid) e.1 (front_put (subst (HoldParts order prefix b) (sym e.1) held.1)) in
    let named : IsNamedIn order b Direct offset tag tagged_variants i us =
    subst (λ xs. IsNamedIn order b Direct offset tag tagged_variants i xs) (sym e.2) (subst (λ x. IsNamedIn order b Direct offset tag tagged_variants x vs) (sym e.0) (held.2, held.3, held.4)) in
    let behind : IsPutOver (λ k. is_byte_at offset (size_of tag) k || is_tagged_variant_covered tagged_variants j vs k) at b mid new =
    subst (λ x. IsPutOver (λ k. is_byte_at offset (size_of tag) k || is_tagged_variant_covered tagged_variants x vs k) at b mid new) e.0
    (subst (λ xs. IsPutOver (λ k. is_byte_at offset (size_of tag) k || is_tagged_variant_covered tagged_variants i xs k) at b mid new) e.2 (tagged_variant_put named)) in
    put_both (are_covered prefix qs) (λ k. is_byte_at offset (size_of tag) k || is_tagged_variant_covered tagged_variants j vs k) at b old mid new front behind
put_states order layout at b old mid new prefix offset tag tagged_variants v i ps us is front_put tagged_variant_put held = absurd held

-- ---- the tagged variant with an index

pub tagged_variant_covers : (done : List Placed) (vs : List (ℕ × ℕ)) (i : ℕ) (d : ℕ × ℕ) (ws : Values) (k : ℕ) → i < length vs →
    are_covered (own_fields (placed_in done (get_or vs i d).1)) ws k ≡ is_tagged_variant_covered (tagged_variants_in done vs) i ws k
tagged_variant_covers done [] i d ws k lt = absurd (omega arith)
tagged_variant_covers done (v ∷ vs) zero d ws k lt = refl
tagged_variant_covers done (v ∷ vs) (suc i) d ws k lt = tagged_variant_covers done vs i d ws k (omega arith)

-- ---- what calls promise

-- where bytes hold the value, it is put over them
abbrev pub PartsPut : Endian → (at : ℕ) → (old new : List ℕ) → Parts → Values → {T E : Type 0} → Result T E → Type 0
PartsPut order at old new parts vs result = OnOk result (PutsParts order at old new parts vs)

abbrev pub TaggedVariantPut : Endian → (at : ℕ) → (old new : List ℕ) → TagEncoding ℕ → (offset : ℕ) → (tag : Placed) → TaggedVariants → (index : ℕ) → Values → {T E : Type 0} → Result T E → Type 0
TaggedVariantPut order at old new encoding offset tag tagged_variants i vs result = OnOk result (PutsTaggedVariant order at old new encoding offset tag tagged_variants i vs)

-- a vector's lanes end inside it
pub vector_room : (ns : List Node) (i lanes : ℕ) (layout : Layout) → placed_at ns i ≡ vector layout (placed_at ns lanes) → has_room (placed_at ns i) ≡ true → size_of (placed_at ns lanes) ≤ layout.size
vector_room ns i lanes layout is room =
    let both = and_parts (nat_le (size_of (placed_at ns lanes)) layout.size) (has_room (placed_at ns lanes)) (ap has_room (sym is) ∙ room) in
    leb-true (size_of (placed_at ns lanes)) layout.size both.0
