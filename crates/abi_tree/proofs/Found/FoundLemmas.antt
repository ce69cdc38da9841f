-- What bytes of each kind of type hold, and how the value is found from what its parts hold.
use Rattle.std.proofs.Common.{◌≡◌, ◌≢◌, ℕ, ◌+◌, ◌<◌, ◌≤◌, List, [], ◌∷◌, Vec, Option, Some, None, length, inl, inr, get_or, arith, true, refl, sym, ap, ◌∙◌, subst, ◌⊎◌}
use Rattle.std.specs.Prelude.{◌&&◌, MatchOption, nat_le}
use Rattle.std.proofs.lemmas.Bool.{and_parts, leb-true}
use Rattle.abi_scalar.specs.Shape.{listed_offsets}
use Rattle.abi_tree.specs.Room.{tagged_variants_have_room, has_room, have_room}
use Rattle.std.specs.declared.alloc.Global.{Global}
use Rattle.abi_base.specs.declared.endian.Endian.{Endian}
use Rattle.abi_scalar.specs.declared.scalar.Scalar.{Scalar}
use Rattle.abi_scalar.specs.declared.variants.TagEncoding.{TagEncoding}
use Rattle.abi_scalar.specs.declared.variants.TagEncoding.TheVariants.{Direct}
use Rattle.abi_tree.specs.declared.mark.Mark.{Mark}
use Rattle.abi_tree.specs.declared.node.Node.{Node}
use Rattle.abi_tree.specs.declared.value.Value.{Value as Kept, Pair as PairKept, Union as UnionKept}
use Rattle.abi_tree.specs.Value.{Value, number, two, list, variant, state, Values, value_count, value_of}
use Rattle.abi_tree.specs.Bytes.{bytes_at, number_of, picked_bytes}
use Rattle.abi_tree.specs.Placed.{Placed, nothing, scalar, pair, never, elements, vector, fields, union, single, tagged, states, Parts, no_parts, part, TaggedVariants, size_of}
use Rattle.abi_scalar.specs.Layout.{Layout}
use Rattle.abi_tree.specs.Places.{is_data_place}
use Rattle.abi_tree.specs.Tag.{Names}
use Rattle.abi_tree.specs.Nodes.{tagged_variants_in, meaning, parts_at, placed_at, state_tag_offset, states_in, types_in}
use Rattle.abi_tree.specs.declared.node.Shape.{Shape}
use Rattle.abi_tree.specs.declared.node.Shape.TheVariants.{Scalar as OneScalar}
use Rattle.abi_scalar.specs.Scalar.{IsNumberOf}
use Rattle.abi_tree.specs.Holding.{HoldTaggedVariant, HoldEach, HoldParts, Holds, IsAt, tag_at}
use Rattle.abi_tree.specs.Reading.{Finds, FindsEach, FindsNamed, FindsNumber, HoldsTwo, IsList, IsNamedIn}
use Rattle.abi_tree.specs.Well.{all_at}
use Rattle.abi_tree.proofs.Found.NamedLemmas.{child_is}
use Rattle.abi_tree.proofs.Bytes.HoldLemmas.{length-Holds}
use Rattle.abi_tree.proofs.Meaning.NodesLemmas.{layout_of-placed_at}
use Rattle.abi_tree.proofs.Found.ValueLemmas.{value_of-Pair, value_of-Union}

-- how large a node's type is
pub node_size : (ns : List Node) (i : ℕ) (n : Node) → i < length ns → n ≡ get_or ns i n → size_of (placed_at ns i) ≡ n.layout.size
node_size ns i n lt at = ap (λ l. l.size) (layout_of-placed_at ns i n lt) ∙ ap (λ (m : Node). m.layout.size) (sym at)

-- what holds of the same values is found alike
pub finds_like : (P Q : Value → Type 0) (found : Option Kept) → ((v : Value) → P v → Q v) → ((v : Value) → Q v → P v) → Finds P found → Finds Q found
finds_like P Q None to from h = λ v q. h v (from v q)
finds_like P Q (Some k) to from h = to (value_of k) h

-- bytes of another length hold nothing
pub none_of_length : (order : Endian) (placed : Placed) (b : List ℕ) → length b ≢ size_of placed → (v : Value) → Holds order placed b v → ⊥
none_of_length order placed b other v h = other (length-Holds order placed b v h)

module _ (order : Endian) (layout : Layout) (b : List ℕ) where
  pub from_scalar : (s : Scalar) (v : Value) → Holds order (scalar layout s) b v → (n : ℕ) × Holds order (scalar layout s) b (number n)
  from_scalar s (number n) h = (n, h)
  from_scalar s v h = absurd h

  pub from_pair : (parts : Parts) (v : Value) → Holds order (pair layout parts) b v → HoldsTwo order parts b v
  from_pair parts (two n m) h = h.1
  from_pair parts v h = h

  pub to_pair : (parts : Parts) → length b ≡ layout.size → (v : Value) → HoldsTwo order parts b v → Holds order (pair layout parts) b v
  to_pair parts long (two n m) h = (long, h)
  to_pair parts long v h = h

  pub from_never : (mark : Mark) (v : Value) → Holds order (never layout mark) b v → ⊥
  from_never mark v h = h

  pub from_elements : (count : ℕ) (element : Placed) (v : Value) → Holds order (elements layout count element) b v →
      (vs : Values) × ((value_count vs ≡ count) × HoldEach (Holds order element) (size_of element) 0 b vs)
  from_elements count element (list vs) h = (vs, (h.1, h.2))
  from_elements count element v h = absurd h

  pub from_fields : (mark : Mark) (parts : Parts) (v : Value) → Holds order (fields layout mark parts) b v → (vs : Values) × HoldParts order parts b vs
  from_fields mark parts (list vs) h = (vs, h.1)
  from_fields mark parts v h = absurd h

  pub from_single : (mark : Mark) (index : ℕ) (parts : Parts) (v : Value) → Holds order (single layout mark index parts) b v → (vs : Values) × HoldParts order parts b vs
  from_single mark index parts (variant i vs) h = (vs, h.2)
  from_single mark index parts v h = absurd h

  pub from_tagged : (mark : Mark) (offset : ℕ) (tag : Placed) (encoding : TagEncoding ℕ) (tagged_variants : TaggedVariants) (v : Value) → Holds order (tagged layout mark offset tag encoding tagged_variants) b v →
      (i : ℕ) × (vs : Values) × ((offset + size_of tag ≤ length b) × Names encoding (size_of tag) tagged_variants (tag_at order b offset (size_of tag)) i × HoldTaggedVariant order tagged_variants i b vs)
  from_tagged mark offset tag encoding tagged_variants (variant i vs) h = (i, vs, (h.1, h.2, h.3))
  from_tagged mark offset tag encoding tagged_variants v h = absurd h

  pub from_states : (prefix : Parts) (offset : ℕ) (tag : Placed) (tagged_variants : TaggedVariants) (v : Value) → Holds order (states layout prefix offset tag tagged_variants) b v →
      (ps : Values) × HoldParts order prefix b ps
      × (i : ℕ) × (vs : Values) × ((offset + size_of tag ≤ length b) × Names Direct (size_of tag) tagged_variants (tag_at order b offset (size_of tag)) i × HoldTaggedVariant order tagged_variants i b vs)
  from_states prefix offset tag tagged_variants (state i ps vs) h = (ps, h.1, i, vs, (h.2, h.3, h.4))
  from_states prefix offset tag tagged_variants v h = absurd h

  -- a vector holds what its lanes hold, where that is a list
  to_vector : (lanes : Placed) → length b ≡ layout.size → (v : Value) → IsList v → IsAt 0 (size_of lanes) (λ slice. Holds order lanes slice v) b → Holds order (vector layout lanes) b v
  to_vector lanes long (list vs) is h = (long, h)
  to_vector lanes long v is h = absurd is

  from_vector : (lanes : Placed) (v : Value) → Holds order (vector layout lanes) b v → IsList v × IsAt 0 (size_of lanes) (λ slice. Holds order lanes slice v) b
  from_vector lanes (list vs) h = (tt, h.1)
  from_vector lanes v h = absurd h

-- the same bytes hold a list and nothing else, or no list
list_alone : (order : Endian) (placed : Placed) (b : List ℕ) (v : Value) (vs : Values) → Holds order placed b v → Holds order placed b (list vs) → IsList v
list_alone order (scalar layout s) b v vs h k = absurd k
list_alone order (pair layout parts) b v vs h k = absurd k
list_alone order (never layout mark) b v vs h k = absurd k
list_alone order (elements layout count element) b (list us) vs h k = tt
list_alone order (elements layout count element) b v vs h k = absurd h
list_alone order (vector layout lanes) b (list us) vs h k = tt
list_alone order (vector layout lanes) b v vs h k = absurd h
list_alone order (fields layout mark parts) b (list us) vs h k = tt
list_alone order (fields layout mark parts) b v vs h k = absurd h
list_alone order (union layout mark parts) b v vs h k = absurd k
list_alone order (single layout mark index parts) b v vs h k = absurd k
list_alone order (tagged layout mark offset tag encoding tagged_variants) b v vs h k = absurd k
list_alone order (states layout prefix offset tag tagged_variants) b v vs h k = absurd k

-- where the lanes hold a value and the vector holds one, the lanes' is a list
list_of : (order : Endian) (layout : Layout) (lanes : Placed) (b : List ℕ) (u v : Value) → IsAt 0 (size_of lanes) (λ slice. Holds order lanes slice u) b →
    Holds order (vector layout lanes) b v → IsList u
list_of order layout lanes b u (list vs) at holds = list_alone order lanes (bytes_at b 0 (size_of lanes)) u vs at.1 holds.1.1
list_of order layout lanes b u v at holds = absurd holds

-- a union holds its data bytes
pub to_union : (order : Endian) (layout : Layout) (mark : Mark) (parts : Parts) (b : List ℕ) (content : Vec ℕ Global) → length b ≡ layout.size →
    content.items ≡ picked_bytes (is_data_place (union layout mark parts)) 0 b → Holds order (union layout mark parts) b (value_of (UnionKept content))
to_union order layout mark parts b content long is = subst (Holds order (union layout mark parts) b) (sym (value_of-Union content)) (long, is)

-- a vector's value is that of its lanes, where that is a list
pub found_vector : (order : Endian) (layout : Layout) (lanes : Placed) (b : List ℕ) (found result : Option Kept) → length b ≡ layout.size →
    MatchOption found (result ≡ None) (λ v. ((result ≡ Some v) × IsList (value_of v)) ⊎ ((result ≡ None) × (IsList (value_of v) → ⊥))) →
    Finds (λ v. IsAt 0 (size_of lanes) (λ slice. Holds order lanes slice v) b) found → Finds (Holds order (vector layout lanes) b) result
found_vector order layout lanes b None result long is h =
    subst (Finds (Holds order (vector layout lanes) b)) (sym is) (λ v holds. h v (from_vector order layout b lanes v holds).1)
found_vector order layout lanes b (Some k) result long (inl is) h =
    subst (Finds (Holds order (vector layout lanes) b)) (sym is.0) (to_vector order layout b lanes long (value_of k) is.1 h)
found_vector order layout lanes b (Some k) result long (inr is) h =
    subst (Finds (Holds order (vector layout lanes) b)) (sym is.0) (λ v holds. is.1 (list_of order layout lanes b (value_of k) v h holds))

-- the number of a scalar
pub found_scalar : (order : Endian) (layout : Layout) (s : Scalar) (b : List ℕ) (found : Option ℕ) → length b ≡ layout.size →
    MatchOption found ((n : ℕ) → n ≡ number_of order b → IsNumberOf (length b) s n → ⊥) (λ n. (n ≡ number_of order b) × IsNumberOf (length b) s n) →
    FindsNumber (λ n. Holds order (scalar layout s) b (number n)) found
found_scalar order layout s b None long h = λ n holds. h n holds.1 (subst (λ w. IsNumberOf w s n) (sym long) holds.2)
found_scalar order layout s b (Some n) long h = (long, h.0, subst (λ w. IsNumberOf w s n) long h.1)

-- no other kind of node holds a number
pub no_number : (order : Endian) (done : List Placed) (layout : Layout) (shape : Shape) → ((s : Scalar) → shape ≡ OneScalar s → ⊥) → (b : List ℕ) (n : ℕ) →
    Holds order (meaning done layout shape) b (number n) → ⊥
no_number order done layout (OneScalar s) other b n h = other s refl
no_number order done layout shape other b n h = absurd h

-- ---- a part at an offset

module _ (order : Endian) (placed : Placed) (offset size : ℕ) (b slice : List ℕ) (same : size ≡ size_of placed) (le : offset + size ≤ length b) (is : slice ≡ bytes_at b offset size) where
  into_place : (v : Value) → Holds order placed slice v → IsAt offset (size_of placed) (λ s. Holds order placed s v) b
  into_place v h = (subst (λ n. offset + n ≤ length b) same le, subst (λ n. Holds order placed (bytes_at b offset n) v) same (subst (λ s. Holds order placed s v) is h))

  out_of_place : (v : Value) → IsAt offset (size_of placed) (λ s. Holds order placed s v) b → Holds order placed slice v
  out_of_place v at = subst (λ s. Holds order placed s v) (sym is) (subst (λ n. Holds order placed (bytes_at b offset n) v) (sym same) at.1)

  pub found_at : (found : Option Kept) → Finds (Holds order placed slice) found → Finds (λ v. IsAt offset (size_of placed) (λ s. Holds order placed s v) b) found
  found_at found = finds_like (Holds order placed slice) (λ v. IsAt offset (size_of placed) (λ s. Holds order placed s v) b) found into_place out_of_place

  pub number_at : (found : Option ℕ) → FindsNumber (λ n. Holds order placed slice (number n)) found → FindsNumber (λ n. IsAt offset (size_of placed) (λ s. Holds order placed s (number n)) b) found
  number_at None h = λ n at. h n (out_of_place (number n) at)
  number_at (Some n) h = into_place (number n) h

-- ---- two numbers

-- no offset for one of them
pub no_pair : (order : Endian) (offsets : List ℕ) (p q : Placed) (b : List ℕ) → length offsets < 2 → (v : Value) → HoldsTwo order (parts_at offsets (p ∷ q ∷ [])) b v → ⊥
no_pair order [] p q b lt (two n m) h = h
no_pair order (o ∷ []) p q b lt (two n m) h = h.1
no_pair order (o ∷ u ∷ offsets) p q b lt v h = absurd (omega arith)
no_pair order [] p q b lt v h = absurd h
no_pair order (o ∷ []) p q b lt v h = absurd h

-- the number that lies at the offset
abbrev pub NumberAt : Endian → (offset : ℕ) → Placed → List ℕ → ℕ → Type 0
NumberAt order offset p b n = IsAt offset (size_of p) (λ s. Holds order p s (number n)) b

pub to_two : (order : Endian) (offsets : List ℕ) (p q : Placed) (b : List ℕ) (n m : ℕ) → 2 ≤ length offsets → NumberAt order (get_or offsets 0 0) p b n → NumberAt order (get_or offsets 1 0) q b m →
    HoldsTwo order (parts_at offsets (p ∷ q ∷ [])) b (value_of (PairKept n m))
to_two order [] p q b n m many one other = absurd (omega arith)
to_two order (o ∷ []) p q b n m many one other = absurd (omega arith)
to_two order (o ∷ u ∷ []) p q b n m many one other = subst (HoldsTwo order (part o p (part u q no_parts)) b) (sym (value_of-Pair n m)) (one, (other, tt))
to_two order (o ∷ u ∷ w ∷ offsets) p q b n m many one other = subst (HoldsTwo order (part o p (part u q no_parts)) b) (sym (value_of-Pair n m)) (one, (other, tt))

-- a value of two numbers has one at each of the first two offsets
pub from_two : (order : Endian) (offsets : List ℕ) (p q : Placed) (b : List ℕ) (v : Value) → 2 ≤ length offsets → HoldsTwo order (parts_at offsets (p ∷ q ∷ [])) b v →
    (n : ℕ) × (m : ℕ) × NumberAt order (get_or offsets 0 0) p b n × NumberAt order (get_or offsets 1 0) q b m
from_two order [] p q b v many h = absurd (omega arith)
from_two order (o ∷ []) p q b v many h = absurd (omega arith)
from_two order (o ∷ u ∷ []) p q b (two n m) many h = (n, m, h.0, h.1.0)
from_two order (o ∷ u ∷ []) p q b v many h = absurd h
from_two order (o ∷ u ∷ w ∷ offsets) p q b (two n m) many h = (n, m, h.0, h.1.0)
from_two order (o ∷ u ∷ w ∷ offsets) p q b v many h = absurd h

-- ---- a field, and a variant

-- the i-th field, found at its offset
pub part_found : (order : Endian) (ns : List Node) (os children : List ℕ) (b : List ℕ) (i offset : ℕ) (found : Option Kept) → i < length children → offset ≡ get_or os i 0 →
    Finds (λ v. IsAt offset (size_of (placed_at ns (get_or children i 0))) (λ s. Holds order (placed_at ns (get_or children i 0)) s v) b) found →
    Finds (λ v. IsAt (get_or os i 0) (size_of (get_or (all_at ns children) i nothing)) (λ s. Holds order (get_or (all_at ns children) i nothing) s v) b) found
part_found order ns os children b i offset found lt is h =
    subst (λ p. Finds (λ v. IsAt (get_or os i 0) (size_of p) (λ s. Holds order p s v) b) found) (sym (child_is ns children i lt))
    (subst (λ o. Finds (λ v. IsAt o (size_of (placed_at ns (get_or children i 0))) (λ s. Holds order (placed_at ns (get_or children i 0)) s v) b) found) is h)

with_place : (order : Endian) (b : List ℕ) (encoding : TagEncoding ℕ) (offset : ℕ) (tag : Placed) (tagged_variants : TaggedVariants) (found : Option (ℕ × Vec Kept Global)) → offset + size_of tag ≤ length b →
    FindsNamed (λ i vs. Names encoding (size_of tag) tagged_variants (tag_at order b offset (size_of tag)) i × HoldTaggedVariant order tagged_variants i b vs) found → FindsNamed (IsNamedIn order b encoding offset tag tagged_variants) found
with_place order b encoding offset tag tagged_variants None inside h = λ i vs at. h i vs (at.1, at.2)
with_place order b encoding offset tag tagged_variants (Some named) inside h = (inside, h.0, h.1)

-- so it is found, where the tag's number is found by itself
pub named_found : (order : Endian) (b slice : List ℕ) (encoding : TagEncoding ℕ) (offset width : ℕ) (tag : Placed) (tagged_variants : TaggedVariants) (n : ℕ) (found : Option (ℕ × Vec Kept Global)) →
    width ≡ size_of tag → offset + width ≤ length b → slice ≡ bytes_at b offset width → n ≡ number_of order slice →
    FindsNamed (λ i vs. Names encoding width tagged_variants n i × HoldTaggedVariant order tagged_variants i b vs) found → FindsNamed (IsNamedIn order b encoding offset tag tagged_variants) found
named_found order b slice encoding offset width tag tagged_variants n found same le is value h =
    let number : n ≡ tag_at order b offset (size_of tag) = value ∙ ap (number_of order) is ∙ ap (λ w. number_of order (bytes_at b offset w)) same in
    let inside : offset + size_of tag ≤ length b = subst (λ w. offset + w ≤ length b) same le in
    let there : FindsNamed (λ i vs. Names encoding (size_of tag) tagged_variants (tag_at order b offset (size_of tag)) i × HoldTaggedVariant order tagged_variants i b vs) found =
    subst (λ k. FindsNamed (λ i vs. Names encoding (size_of tag) tagged_variants k i × HoldTaggedVariant order tagged_variants i b vs) found) number
    (subst (λ w. FindsNamed (λ i vs. Names encoding w tagged_variants n i × HoldTaggedVariant order tagged_variants i b vs) found) same h) in
    with_place order b encoding offset tag tagged_variants found inside there

-- where the answer is no list of values, no values are held
pub finds_none : (P : Values → Type 0) (found : Option (Vec Kept Global)) → ((x : Vec Kept Global) → found ≡ Some x → ⊥) → FindsEach P found → (vs : Values) → P vs → ⊥
finds_none P None other h = h
finds_none P (Some x) other h = absurd (other x refl)

-- ---- the parts of a coroutine end inside it

pub states_rooms : (ns : List Node) (layout : Layout) (prefix : List ℕ) (tag : ℕ) (all : List (ℕ × ℕ)) → has_room (states_in (types_in ns) layout prefix tag all) ≡ true →
    (have_room layout.size (parts_at (listed_offsets layout.fields) (all_at ns prefix)) ≡ true) × (tagged_variants_have_room layout.size (tagged_variants_in (types_in ns) all) ≡ true)
    × (state_tag_offset layout (length prefix) + size_of (placed_at ns tag) ≤ layout.size) × (has_room (placed_at ns tag) ≡ true)
states_rooms ns layout prefix tag all room =
    let end = state_tag_offset layout (length prefix) + size_of (placed_at ns tag) in
    let tagged_variants = tagged_variants_have_room layout.size (tagged_variants_in (types_in ns) all) in
    let both = and_parts (have_room layout.size (parts_at (listed_offsets layout.fields) (all_at ns prefix))) ((nat_le end layout.size && has_room (placed_at ns tag)) && tagged_variants) room in
    let beside = and_parts (nat_le end layout.size && has_room (placed_at ns tag)) tagged_variants both.1 in
    let of_tag = and_parts (nat_le end layout.size) (has_room (placed_at ns tag)) beside.0 in
    (both.0, beside.1, leb-true end layout.size of_tag.0, of_tag.1)
