-- How a value is found from those of its parts.
use Rattle.std.proofs.Common.{◌≡◌, ℕ, zero, suc, ◌+◌, ◌*◌, ◌<◌, ◌≤◌, List, [], ◌∷◌, ◌++◌, Vec, Option, Some, None, length, get_or, drop, min, arith, ⊎_elim, refl, sym, ap, ◌∙◌, subst}
use Rattle.std.specs.Prelude.{MatchOption}
use Rattle.std.specs.declared.alloc.Global.{Global}
use Rattle.std.proofs.lemmas.Bool.{cases_lt}
use Rattle.std.proofs.lemmas.List.{drop_more, drop_all}
use Rattle.abi_base.specs.declared.endian.Endian.{Endian}
use Rattle.abi_tree.specs.declared.value.Value.{Value as Kept, Num as NumKept, List as ListKept, Variant as VariantKept}
use Rattle.abi_tree.specs.Value.{Value, number, list, variant, Values, no_values, more_values, value_count, value_of, values_of}
use Rattle.abi_tree.specs.Placed.{Placed, Parts, no_parts, part, nothing, size_of}
use Rattle.abi_tree.specs.Nodes.{tagged_variants_in, own_fields, parts_at, placed_in}
use Rattle.abi_tree.specs.Holding.{HoldTaggedVariant, HoldEach, HoldParts, Holds, IsAt}
use Rattle.abi_tree.specs.Reading.{Finds, FindsEach, FindsNamed, FindsNumber}
use Rattle.abi_tree.proofs.Found.ValueLemmas.{value_of-Num, value_of-List, value_of-Variant, joined, joined-none, joined-push}

-- ---- a value from what it consists of

module _ (Q : Value → Type 0) where
  pub finds_number : (P : ℕ → Type 0) (found : Option ℕ) (result : Option Kept) → MatchOption found (result ≡ None) (λ n. result ≡ Some (NumKept n)) → FindsNumber P found →
      ((n : ℕ) → P n → Q (number n)) → ((v : Value) → Q v → (n : ℕ) × P n) → Finds Q result
  finds_number P None result is without to from = subst (Finds Q) (sym is) (λ v q. let h = from v q in without h.0 h.1)
  finds_number P (Some n) result is p to from = subst (Finds Q) (sym is) (subst Q (sym (value_of-Num n)) (to n p))

  pub finds_list : (P : Values → Type 0) (found : Option (Vec Kept Global)) (result : Option Kept) → MatchOption found (result ≡ None) (λ vs. result ≡ Some (ListKept vs)) → FindsEach P found →
      ((vs : Values) → P vs → Q (list vs)) → ((v : Value) → Q v → (vs : Values) × P vs) → Finds Q result
  finds_list P None result is without to from = subst (Finds Q) (sym is) (λ v q. let h = from v q in without h.0 h.1)
  finds_list P (Some vs) result is p to from = subst (Finds Q) (sym is) (subst Q (sym (value_of-List vs)) (to (values_of vs.items) p))

  pub finds_variant : (P : Values → Type 0) (i : ℕ) (found : Option (Vec Kept Global)) (result : Option Kept) → MatchOption found (result ≡ None) (λ vs. result ≡ Some (VariantKept i vs)) →
      FindsEach P found → ((vs : Values) → P vs → Q (variant i vs)) → ((v : Value) → Q v → (vs : Values) × P vs) → Finds Q result
  finds_variant P i None result is without to from = subst (Finds Q) (sym is) (λ v q. let h = from v q in without h.0 h.1)
  finds_variant P i (Some vs) result is p to from = subst (Finds Q) (sym is) (subst Q (sym (value_of-Variant i vs)) (to (values_of vs.items) p))

  pub finds_named : (P : ℕ → Values → Type 0) (found : Option (ℕ × Vec Kept Global)) (result : Option Kept) → MatchOption found (result ≡ None) (λ named. result ≡ Some (VariantKept named.0 named.1)) →
      FindsNamed P found → ((i : ℕ) (vs : Values) → P i vs → Q (variant i vs)) → ((v : Value) → Q v → (i : ℕ) × (vs : Values) × P i vs) → Finds Q result
  finds_named P None result is without to from = subst (Finds Q) (sym is) (λ v q. let h = from v q in without h.0 h.1 h.2)
  finds_named P (Some named) result is p to from =
      subst (Finds Q) (sym is) (subst Q (sym (value_of-Variant named.0 named.1)) (to named.0 (values_of named.1.items) p))

-- ---- lists of values, one after another

-- the first values are those of the list: where the rest is held so is the whole, and where the whole is, some rest is
pub record IsRead (P Q : Values → Type 0) (ks : List Kept) : Type 0 where
  pub held : (ws : Values) → Q ws → P (joined (values_of ks) ws)
  pub left : (vs : Values) → P vs → (ws : Values) × Q ws

pub read_none : (P : Values → Type 0) → IsRead P P []
read_none P = record { held = λ ws q. q; left = λ vs p. (vs, p) }

module _ (P Q R : Values → Type 0) (V : Value → Type 0) (more : (v : Value) (ws : Values) → V v → R ws → Q (more_values v ws)) (less : (ws : Values) → Q ws → (v : Value) × (us : Values) × V v × R us)
    (ks : List Kept) (h : IsRead P Q ks) where
  read_more : (k : Kept) (new : List Kept) → new ≡ ks ++ k ∷ [] → V (value_of k) → IsRead P R new
  read_more k new e v = record {
    held = λ ws r. subst P (ap (λ xs. joined (values_of xs) ws) (sym e)) (subst P (sym (joined-push ks k ws)) (h.held (more_values (value_of k) ws) (more (value_of k) ws v r)));
    left = λ vs p. let one = h.left vs p in let two = less one.0 one.1 in (two.1, two.3);
  }

  read_stops : ((v : Value) → V v → ⊥) → (vs : Values) → P vs → ⊥
  read_stops without vs p = let one = h.left vs p in let two = less one.0 one.1 in without two.0 two.2

-- at the end of all
read_all : (P Q : Values → Type 0) (ks : List Kept) → IsRead P Q ks → Q no_values → P (values_of ks)
read_all P Q ks h q = subst P (joined-none (values_of ks)) (h.held no_values q)

-- the fields from the i-th on
pub parts_from : (os : List ℕ) (ps : List Placed) (i : ℕ) → i < length os → i < length ps →
    parts_at (drop i os) (drop i ps) ≡ part (get_or os i 0) (get_or ps i nothing) (parts_at (drop (i + 1) os) (drop (i + 1) ps))
parts_from os ps i lt below =
    ap (λ xs. parts_at xs (drop i ps)) (drop_more os i 0 lt) ∙ ap (parts_at (get_or os i 0 ∷ drop (i + 1) os)) (drop_more ps i nothing below)

no_types : (os : List ℕ) → parts_at os [] ≡ no_parts
no_types [] = refl
no_types (o ∷ os) = refl

pub parts_end : (os : List ℕ) (ps : List Placed) (i : ℕ) → min (length os) (length ps) ≤ i → parts_at (drop i os) (drop i ps) ≡ no_parts
parts_end os ps i le =
    ⊎_elim
    (λ (short : length ps < length os). ap (parts_at (drop i os)) (drop_all i ps (omega arith)) ∙ no_types (drop i os))
    (λ (short : length os ≤ length ps). ap (λ xs. parts_at xs (drop i ps)) (drop_all i os (omega arith)))
    (cases_lt (length ps) (length os))

module _ (order : Endian) (os : List ℕ) (ps : List Placed) (b : List ℕ) where
  -- the first i fields were read
  abbrev pub AreRead : (i : ℕ) → List Kept → Type 0
  AreRead i ks = IsRead (HoldParts order (parts_at os ps) b) (HoldParts order (parts_at (drop i os) (drop i ps)) b) ks

  split_part : (o : ℕ) (p : Placed) (rest : Parts) (ws : Values) → HoldParts order (part o p rest) b ws →
      (v : Value) × (us : Values) × IsAt o (size_of p) (λ slice. Holds order p slice v) b × HoldParts order rest b us
  split_part o p rest no_values h = absurd h
  split_part o p rest (more_values v us) h = (v, us, h.0, h.1)

  module _ (i : ℕ) (lt : i < length os) (below : i < length ps) (ks : List Kept) (h : AreRead i ks) where
    abbrev Here : Value → Type 0
    Here v = IsAt (get_or os i 0) (size_of (get_or ps i nothing)) (λ slice. Holds order (get_or ps i nothing) slice v) b

    abbrev Rest : ℕ → Values → Type 0
    Rest j ws = HoldParts order (parts_at (drop j os) (drop j ps)) b ws

    part_more : (v : Value) (ws : Values) → Here v → Rest (i + 1) ws → Rest i (more_values v ws)
    part_more v ws at rest = subst (λ parts. HoldParts order parts b (more_values v ws)) (sym (parts_from os ps i lt below)) (at, rest)

    part_less : (ws : Values) → Rest i ws → (v : Value) × (us : Values) × Here v × Rest (i + 1) us
    part_less ws rest =
        split_part (get_or os i 0) (get_or ps i nothing) (parts_at (drop (i + 1) os) (drop (i + 1) ps)) ws
        (subst (λ parts. HoldParts order parts b ws) (parts_from os ps i lt below) rest)

    pub fields_more : (k : Kept) (new : List Kept) → new ≡ ks ++ k ∷ [] → Here (value_of k) → AreRead (i + 1) new
    fields_more k new e at = read_more (HoldParts order (parts_at os ps) b) (Rest i) (Rest (i + 1)) Here part_more part_less ks h k new e at

    pub fields_stop : ((v : Value) → Here v → ⊥) → (vs : Values) → HoldParts order (parts_at os ps) b vs → ⊥
    fields_stop without = read_stops (HoldParts order (parts_at os ps) b) (Rest i) (Rest (i + 1)) Here part_more part_less ks h without

  pub fields_all : (i : ℕ) (ks : List Kept) → min (length os) (length ps) ≤ i → AreRead i ks → HoldParts order (parts_at os ps) b (values_of ks)
  fields_all i ks end h =
      read_all (HoldParts order (parts_at os ps) b) (HoldParts order (parts_at (drop i os) (drop i ps)) b) ks h
      (subst (λ parts. HoldParts order parts b no_values) (sym (parts_end os ps i end)) tt)

module _ (P : List ℕ → Value → Type 0) (n : ℕ) (b : List ℕ) (count : ℕ) where
  -- so many elements
  abbrev pub HoldAll : Values → Type 0
  HoldAll vs = (value_count vs ≡ count) × HoldEach P n 0 b vs

  -- the elements from the i-th on
  abbrev pub HoldFrom : (i : ℕ) → Values → Type 0
  HoldFrom i ws = (value_count ws + i ≡ count) × HoldEach P n (i * n) b ws

  pub elements_none : IsRead HoldAll (HoldFrom 0) []
  elements_none =
      let start : 0 * n ≡ 0 = omega arith in
      record {
        held = λ ws q. (omega (arith, q.0), subst (λ o. HoldEach P n o b ws) start q.1);
        left = λ vs p. (vs, (omega (arith, p.0), subst (λ o. HoldEach P n o b vs) (sym start) p.1));
      }

  module _ (i : ℕ) (lt : i < count) (ks : List Kept) (h : IsRead HoldAll (HoldFrom i) ks) where
    abbrev One : Value → Type 0
    One v = IsAt (i * n) n (λ slice. P slice v) b

    element_more : (v : Value) (ws : Values) → One v → HoldFrom (i + 1) ws → HoldFrom i (more_values v ws)
    element_more v ws at rest =
        let next : (i + 1) * n ≡ i * n + n = omega arith in
        (omega (arith, rest.0), (at, subst (λ o. HoldEach P n o b ws) next rest.1))

    element_less : (ws : Values) → HoldFrom i ws → (v : Value) × (us : Values) × One v × HoldFrom (i + 1) us
    element_less no_values rest = absurd (omega (arith, rest.0))
    element_less (more_values v us) rest =
        let next : i * n + n ≡ (i + 1) * n = omega arith in
        (v, us, rest.1.0, (omega (arith, rest.0), subst (λ o. HoldEach P n o b us) next rest.1.1))

    pub elements_more : (k : Kept) (new : List Kept) → new ≡ ks ++ k ∷ [] → One (value_of k) → IsRead HoldAll (HoldFrom (i + 1)) new
    elements_more k new e at = read_more HoldAll (HoldFrom i) (HoldFrom (i + 1)) One element_more element_less ks h k new e at

    pub elements_stop : ((v : Value) → One v → ⊥) → (vs : Values) → HoldAll vs → ⊥
    elements_stop without = read_stops HoldAll (HoldFrom i) (HoldFrom (i + 1)) One element_more element_less ks h without

  pub elements_all : (i : ℕ) (ks : List Kept) → i ≡ count → IsRead HoldAll (HoldFrom i) ks → HoldAll (values_of ks)
  elements_all i ks end h = read_all HoldAll (HoldFrom i) ks h (omega (arith, end), tt)

-- ---- the tagged variant with an index

module _ (order : Endian) (done : List Placed) (b : List ℕ) where
  pub to_tagged_variant : (vs : List (ℕ × ℕ)) (i : ℕ) (d : ℕ × ℕ) (ws : Values) → i < length vs → HoldParts order (own_fields (placed_in done (get_or vs i d).1)) b ws → HoldTaggedVariant order (tagged_variants_in done vs) i b ws
  to_tagged_variant [] i d ws lt h = absurd (omega arith)
  to_tagged_variant (v ∷ vs) zero d ws lt h = h
  to_tagged_variant (v ∷ vs) (suc i) d ws lt h = to_tagged_variant vs i d ws (omega arith) h

  pub from_tagged_variant : (vs : List (ℕ × ℕ)) (i : ℕ) (d : ℕ × ℕ) (ws : Values) → HoldTaggedVariant order (tagged_variants_in done vs) i b ws → (i < length vs) × HoldParts order (own_fields (placed_in done (get_or vs i d).1)) b ws
  from_tagged_variant [] i d ws h = absurd h
  from_tagged_variant (v ∷ vs) zero d ws h = (omega arith, h)
  from_tagged_variant (v ∷ vs) (suc i) d ws h = let rest = from_tagged_variant vs i d ws h in (omega (arith, rest.0), rest.1)
