-- Laws of the cells that hold a type.
use Rattle.std.proofs.Common.{◌≡◌, ◌↔◌, ℕ, zero, suc, ◌+◌, ◌<◌, ◌≤◌, List, length, map, arith, refl, sym, ap, ◌∙◌, subst}
use Rattle.automata.specs.Cell.{Cell}
use Rattle.abi_base.specs.declared.endian.Endian.{Endian}
use Rattle.abi_scalar.specs.declared.scalar.Scalar.{Scalar}
use Rattle.abi_scalar.specs.declared.scalar.Scalar.TheVariants.{Initialized, Union}
use Rattle.abi_scalar.specs.declared.variants.TagEncoding.{TagEncoding}
use Rattle.abi_scalar.specs.declared.variants.TagEncoding.TheVariants.{Direct}
use Rattle.abi_scalar.specs.Range.{numbers_of, IsIn}
use Rattle.abi_scalar.specs.Scalar.{IsNumberOf}
use Rattle.abi_tree.specs.Bytes.{AreBytes, bytes_at, number_of, picked_bytes}
use Rattle.abi_tree.specs.Places.{is_data_place}
use Rattle.abi_tree.specs.Tag.{Names}
use Rattle.abi_tree.specs.Placed.{Placed, scalar, pair, never, elements, vector, fields, union, single, tagged, states, Parts, no_parts, part, TaggedVariants, nothing_tagged, tagged_variant, size_of}
use Rattle.abi_tree.specs.Value.{Value, number, two, list, variant, state, bytes, Values, no_values, more_values, value_count}
use Rattle.abi_tree.specs.Holding.{Holds, HoldParts, HoldTaggedVariant, HoldEach, tag_at}
use Rattle.abi_tree.proofs.Bytes.BytesLemmas.{AreBytes-bytes_at}
use Rattle.abi_bytes.specs.Holding.{cells_at, AreAt, AreEach, IsNumber, AreTwoNumbers, IsList, MakeNumber, HoldScalar, HoldTag, HoldCells, HoldCellsOfParts, HoldCellsOfVariant}
use Rattle.abi_bytes.specs.Filling.{Fills}
use Rattle.abi_bytes.specs.GoesInto.{Stored, HoldStored, GoesInto, IsFromBytes, IsIntoBytes, BytesHoldValues, SetCellsTakeNothing, AreManyBytes}
use Rattle.abi_bytes.proofs.CellsLemmas.{some, length-map_some, cells_at-bytes, map_some-apart, AreCells-bytes, bytes_of, AreSet-bytes, number_small, length-Fills, Fills-at, Fills-bytes}

-- ---- a set cell in place of nothing takes nothing away

module _ (order : Endian) where
  MakeNumber-filled : (P : ℕ → Type 0) (w u : List Cell) → Fills w u → MakeNumber order P w → MakeNumber order P u
  MakeNumber-filled P w u fills h = (h.0, Fills-bytes h.0 u (subst (λ x. Fills x u) h.1 fills), h.2)

  AreAt-filled : (P : List Cell → Type 0) (offset n : ℕ) (w u : List Cell) → Fills w u → ((w u : List Cell) → Fills w u → P w → P u) → AreAt offset n P w → AreAt offset n P u
  AreAt-filled P offset n w u fills keeps h = (omega (arith, h.0, length-Fills w u fills), keeps (cells_at w offset n) (cells_at u offset n) (Fills-at w u offset n fills) h.1)

  AreEach-filled : (P : List Cell → Type 0) (count n offset : ℕ) (w u : List Cell) → Fills w u → ((w u : List Cell) → Fills w u → P w → P u) → AreEach P count n offset w → AreEach P count n offset u
  AreEach-filled P zero n offset w u fills keeps h = tt
  AreEach-filled P (suc count) n offset w u fills keeps h = (AreAt-filled P offset n w u fills keeps h.0, AreEach-filled P count n (offset + n) w u fills keeps h.1)

  HoldScalar-filled : (width : ℕ) (s : Scalar) (w u : List Cell) → Fills w u → HoldScalar order width s w → HoldScalar order width s u
  HoldScalar-filled width (Initialized value range) w u fills h = MakeNumber-filled (IsIn width range) w u fills h
  HoldScalar-filled width (Union value) w u fills h = tt

  HoldTag-filled : (encoding : TagEncoding ℕ) (offset n : ℕ) (vs : TaggedVariants) (i : ℕ) (w u : List Cell) → Fills w u → HoldTag order encoding offset n vs i w → HoldTag order encoding offset n vs i u
  HoldTag-filled encoding offset n vs i w u fills h =
      AreAt-filled (MakeNumber order (λ tag. Names encoding n vs tag i)) offset n w u fills (MakeNumber-filled (λ tag. Names encoding n vs tag i)) h

  mutual
    pub HoldCells-filled : (p : Placed) (w u : List Cell) → Fills w u → HoldCells order p w → HoldCells order p u
    HoldCells-filled (scalar layout s) w u fills h = (length-Fills w u fills ∙ h.0, HoldScalar-filled layout.size s w u fills h.1)
    HoldCells-filled (pair layout parts) w u fills h = (length-Fills w u fills ∙ h.0, h.1, parts-filled parts w u fills h.2)
    HoldCells-filled (never layout mark) w u fills h = h
    HoldCells-filled (elements layout count element) w u fills h =
        (length-Fills w u fills ∙ h.0, AreEach-filled (HoldCells order element) count (size_of element) 0 w u fills (HoldCells-filled element) h.1)
    HoldCells-filled (vector layout lanes) w u fills h =
        (length-Fills w u fills ∙ h.0, h.1, AreAt-filled (HoldCells order lanes) 0 (size_of lanes) w u fills (HoldCells-filled lanes) h.2)
    HoldCells-filled (fields layout mark parts) w u fills h = (length-Fills w u fills ∙ h.0, parts-filled parts w u fills h.1)
    HoldCells-filled (union layout mark parts) w u fills h = length-Fills w u fills ∙ h
    HoldCells-filled (single layout mark index parts) w u fills h = (length-Fills w u fills ∙ h.0, parts-filled parts w u fills h.1)
    HoldCells-filled (tagged layout mark offset tag encoding vs) w u fills h =
        (length-Fills w u fills ∙ h.0, h.1, HoldTag-filled encoding offset (size_of tag) vs h.1 w u fills h.2, variant-filled vs h.1 w u fills h.3)
    HoldCells-filled (states layout prefix offset tag vs) w u fills h = (
      length-Fills w u fills ∙ h.0,
      parts-filled prefix w u fills h.1,
      h.2,
      HoldTag-filled Direct offset (size_of tag) vs h.2 w u fills h.3,
      variant-filled vs h.2 w u fills h.4,
    )

    parts-filled : (ps : Parts) (w u : List Cell) → Fills w u → HoldCellsOfParts order ps w → HoldCellsOfParts order ps u
    parts-filled no_parts w u fills h = tt
    parts-filled (part offset p ps) w u fills h = (AreAt-filled (HoldCells order p) offset (size_of p) w u fills (HoldCells-filled p) h.0, parts-filled ps w u fills h.1)

    variant-filled : (vs : TaggedVariants) (i : ℕ) (w u : List Cell) → Fills w u → HoldCellsOfVariant order vs i w → HoldCellsOfVariant order vs i u
    variant-filled nothing_tagged i w u fills h = h
    variant-filled (tagged_variant code layout mark parts vs) zero w u fills h = parts-filled parts w u fills h
    variant-filled (tagged_variant code layout mark parts vs) (suc i) w u fills h = variant-filled vs i w u fills h

  -- ---- cells that are bytes, and values

  -- bytes at a place hold the same as the cells there
  at_bytes : (P : List Cell → Type 0) (b : List ℕ) (offset n : ℕ) → AreAt offset n P (map some b) → (offset + n ≤ length b) × P (map some (bytes_at b offset n))
  at_bytes P b offset n h = (omega (arith, h.0, length-map_some b), subst P (cells_at-bytes b offset n) h.1)

  bytes_there : (P : List Cell → Type 0) (b : List ℕ) (offset n : ℕ) → offset + n ≤ length b → P (map some (bytes_at b offset n)) → AreAt offset n P (map some b)
  bytes_there P b offset n le h = (omega (arith, le, length-map_some b), subst P (sym (cells_at-bytes b offset n)) h)

  number_made : (P : ℕ → Type 0) (b : List ℕ) → MakeNumber order P (map some b) → P (number_of order b)
  number_made P b h = subst (λ x. P (number_of order x)) (sym (map_some-apart b h.0 h.1)) h.2

  scalar_value : (width : ℕ) (s : Scalar) (b : List ℕ) → AreBytes b → length b ≡ width → HoldScalar order width s (map some b) → IsNumberOf width s (number_of order b)
  scalar_value width (Initialized value range) b all long h = number_made (IsIn width range) b h
  scalar_value width (Union value) b all long h = subst (λ n. number_of order b < numbers_of n) long (number_small order b all)

  value_scalar : (width : ℕ) (s : Scalar) (b : List ℕ) → IsNumberOf width s (number_of order b) → HoldScalar order width s (map some b)
  value_scalar width (Initialized value range) b h = (b, refl, h)
  value_scalar width (Union value) b h = tt

  -- values that the bytes hold, one after another
  each_value : (P : List Cell → Type 0) (Q : List ℕ → Value → Type 0) (count n offset : ℕ) (b : List ℕ) →
      ((d : List ℕ) → AreBytes d → P (map some d) → (v : Value) × Q d v) → AreBytes b → AreEach P count n offset (map some b) →
      (vs : Values) × (value_count vs ≡ count) × HoldEach Q n offset b vs
  each_value P Q zero n offset b from all h = (no_values, refl, tt)
  each_value P Q (suc count) n offset b from all h =
      let at = at_bytes P b offset n h.0 in
      let v = from (bytes_at b offset n) (AreBytes-bytes_at b offset n all) at.1 in
      let rest = each_value P Q count n (offset + n) b from all h.1 in
      (more_values v.0 rest.0, omega (arith, rest.1), ((at.0, v.1), rest.2))

  value_each : (P : List Cell → Type 0) (Q : List ℕ → Value → Type 0) (count n offset : ℕ) (b : List ℕ) (vs : Values) →
      ((d : List ℕ) (v : Value) → Q d v → P (map some d)) → value_count vs ≡ count → HoldEach Q n offset b vs → AreEach P count n offset (map some b)
  value_each P Q zero n offset b vs to long h = tt
  value_each P Q (suc count) n offset b no_values to long h = absurd (omega (arith, long))
  value_each P Q (suc count) n offset b (more_values v vs) to long h =
      (bytes_there P b offset n h.0.0 (to (bytes_at b offset n) v h.0.1), value_each P Q count n (offset + n) b vs to (omega (arith, long)) h.1)

  tag_named : (encoding : TagEncoding ℕ) (offset n : ℕ) (vs : TaggedVariants) (i : ℕ) (b : List ℕ) → HoldTag order encoding offset n vs i (map some b) →
      (offset + n ≤ length b) × Names encoding n vs (tag_at order b offset n) i
  tag_named encoding offset n vs i b h =
      let at = at_bytes (MakeNumber order (λ tag. Names encoding n vs tag i)) b offset n h in
      (at.0, number_made (λ tag. Names encoding n vs tag i) (bytes_at b offset n) at.1)

  named_tag : (encoding : TagEncoding ℕ) (offset n : ℕ) (vs : TaggedVariants) (i : ℕ) (b : List ℕ) → offset + n ≤ length b → Names encoding n vs (tag_at order b offset n) i →
      HoldTag order encoding offset n vs i (map some b)
  named_tag encoding offset n vs i b le h = bytes_there (MakeNumber order (λ tag. Names encoding n vs tag i)) b offset n le (bytes_at b offset n, refl, h)

  -- the value of a type whose values are lists, or of a number, is one
  list_of : (p : Placed) (b : List ℕ) (v : Value) → IsList p → Holds order p b v → (vs : Values) × Holds order p b (list vs)
  list_of (elements layout count element) b (list vs) is h = (vs, h)
  list_of (vector layout lanes) b (list vs) is h = (vs, h)
  list_of (fields layout mark parts) b (list vs) is h = (vs, h)
  list_of (elements layout count element) b _ is h = absurd h
  list_of (vector layout lanes) b _ is h = absurd h
  list_of (fields layout mark parts) b _ is h = absurd h
  list_of _ b v is h = absurd is

  is_list : (p : Placed) (b : List ℕ) (vs : Values) → Holds order p b (list vs) → IsList p
  is_list (elements layout count element) b vs h = tt
  is_list (vector layout lanes) b vs h = tt
  is_list (fields layout mark parts) b vs h = tt
  is_list _ b vs h = absurd h

  number_in : (p : Placed) (b : List ℕ) (v : Value) → IsNumber p → Holds order p b v → (n : ℕ) × Holds order p b (number n)
  number_in (scalar layout s) b (number n) is h = (n, h)
  number_in (scalar layout s) b _ is h = absurd h
  number_in _ b v is h = absurd is

  is_number : (p : Placed) (b : List ℕ) (n : ℕ) → Holds order p b (number n) → IsNumber p
  is_number (scalar layout s) b n h = tt
  is_number _ b n h = absurd h

  two_values : (parts : Parts) (b : List ℕ) (vs : Values) → AreTwoNumbers parts → HoldParts order parts b vs →
      (n m : ℕ) × HoldParts order parts b (more_values (number n) (more_values (number m) no_values))
  two_values (part o p (part q r no_parts)) b (more_values v (more_values u no_values)) is h =
      let first = number_in p (bytes_at b o (size_of p)) v is.0 h.0.1 in
      let second = number_in r (bytes_at b q (size_of r)) u is.1 h.1.0.1 in
      (first.0, second.0, ((h.0.0, first.1), ((h.1.0.0, second.1), tt)))
  two_values (part o p (part q r no_parts)) b no_values is h = absurd h
  two_values (part o p (part q r no_parts)) b (more_values v no_values) is h = absurd h.1
  two_values (part o p (part q r no_parts)) b (more_values v (more_values u (more_values x vs))) is h = absurd h.1.1
  two_values _ b vs is h = absurd is

  two_numbers : (parts : Parts) (b : List ℕ) (n m : ℕ) → HoldParts order parts b (more_values (number n) (more_values (number m) no_values)) → AreTwoNumbers parts
  two_numbers (part o p (part q r no_parts)) b n m h = (is_number p (bytes_at b o (size_of p)) n h.0.1, is_number r (bytes_at b q (size_of r)) m h.1.0.1)
  two_numbers no_parts b n m h = absurd h
  two_numbers (part o p no_parts) b n m h = absurd h.1
  two_numbers (part o p (part q r (part s t ps))) b n m h = absurd h.1.1

  long_bytes : (b : List ℕ) (n : ℕ) → length (map some b) ≡ n → length b ≡ n
  long_bytes b n e = sym (length-map_some b) ∙ e

  mutual
    -- cells that are bytes and hold a type: a value that the bytes hold
    pub cells_value : (p : Placed) (b : List ℕ) → AreBytes b → HoldCells order p (map some b) → (v : Value) × Holds order p b v
    cells_value (scalar layout s) b all h =
        let long = long_bytes b layout.size h.0 in (number (number_of order b), (long, refl, scalar_value layout.size s b all long h.1))
    cells_value (pair layout parts) b all h =
        let vs = parts_values parts b all h.2 in
        let t = two_values parts b vs.0 h.1 vs.1 in
        (two t.0 t.1, (long_bytes b layout.size h.0, t.2))
    cells_value (never layout mark) b all h = absurd h
    cells_value (elements layout count element) b all h =
        let vs = each_value (HoldCells order element) (Holds order element) count (size_of element) 0 b (cells_value element) all h.1 in
        (list vs.0, (long_bytes b layout.size h.0, vs.1, vs.2))
    cells_value (vector layout lanes) b all h =
        let at = at_bytes (HoldCells order lanes) b 0 (size_of lanes) h.2 in
        let v = cells_value lanes (bytes_at b 0 (size_of lanes)) (AreBytes-bytes_at b 0 (size_of lanes) all) at.1 in
        let l = list_of lanes (bytes_at b 0 (size_of lanes)) v.0 h.1 v.1 in
        (list l.0, (long_bytes b layout.size h.0, (at.0, l.1)))
    cells_value (fields layout mark parts) b all h = let vs = parts_values parts b all h.1 in (list vs.0, (long_bytes b layout.size h.0, vs.1))
    cells_value (union layout mark parts) b all h = (bytes (picked_bytes (is_data_place (union layout mark parts)) 0 b), (long_bytes b layout.size h, refl))
    cells_value (single layout mark index parts) b all h =
        let vs = parts_values parts b all h.1 in (variant index vs.0, (long_bytes b layout.size h.0, refl, vs.1))
    cells_value (tagged layout mark offset tag encoding tvs) b all h =
        let named = tag_named encoding offset (size_of tag) tvs h.1 b h.2 in
        let vs = variant_values tvs h.1 b all h.3 in
        (variant h.1 vs.0, (long_bytes b layout.size h.0, named.0, named.1, vs.1))
    cells_value (states layout prefix offset tag tvs) b all h =
        let ps = parts_values prefix b all h.1 in
        let named = tag_named Direct offset (size_of tag) tvs h.2 b h.3 in
        let vs = variant_values tvs h.2 b all h.4 in
        (state h.2 ps.0 vs.0, (long_bytes b layout.size h.0, ps.1, named.0, named.1, vs.1))

    parts_values : (ps : Parts) (b : List ℕ) → AreBytes b → HoldCellsOfParts order ps (map some b) → (vs : Values) × HoldParts order ps b vs
    parts_values no_parts b all h = (no_values, tt)
    parts_values (part offset p ps) b all h =
        let at = at_bytes (HoldCells order p) b offset (size_of p) h.0 in
        let v = cells_value p (bytes_at b offset (size_of p)) (AreBytes-bytes_at b offset (size_of p) all) at.1 in
        let rest = parts_values ps b all h.1 in
        (more_values v.0 rest.0, ((at.0, v.1), rest.1))

    variant_values : (tvs : TaggedVariants) (i : ℕ) (b : List ℕ) → AreBytes b → HoldCellsOfVariant order tvs i (map some b) → (vs : Values) × HoldTaggedVariant order tvs i b vs
    variant_values nothing_tagged i b all h = absurd h
    variant_values (tagged_variant code layout mark parts tvs) zero b all h = parts_values parts b all h
    variant_values (tagged_variant code layout mark parts tvs) (suc i) b all h = variant_values tvs i b all h

  mutual
    -- bytes that hold a value hold the type as cells
    pub value_cells : (p : Placed) (b : List ℕ) (v : Value) → Holds order p b v → HoldCells order p (map some b)
    value_cells (scalar layout s) b (number n) h = (length-map_some b ∙ h.0, value_scalar layout.size s b (subst (IsNumberOf layout.size s) h.1 h.2))
    value_cells (pair layout parts) b (two n m) h =
        (length-map_some b ∙ h.0, two_numbers parts b n m h.1, values_parts parts b (more_values (number n) (more_values (number m) no_values)) h.1)
    value_cells (elements layout count element) b (list vs) h =
        (length-map_some b ∙ h.0, value_each (HoldCells order element) (Holds order element) count (size_of element) 0 b vs (value_cells element) h.1 h.2)
    value_cells (vector layout lanes) b (list vs) h = (
      length-map_some b ∙ h.0,
      is_list lanes (bytes_at b 0 (size_of lanes)) vs h.1.1,
      bytes_there (HoldCells order lanes) b 0 (size_of lanes) h.1.0 (value_cells lanes (bytes_at b 0 (size_of lanes)) (list vs) h.1.1),
    )
    value_cells (fields layout mark parts) b (list vs) h = (length-map_some b ∙ h.0, values_parts parts b vs h.1)
    value_cells (union layout mark parts) b (bytes content) h = length-map_some b ∙ h.0
    value_cells (single layout mark index parts) b (variant i vs) h = (length-map_some b ∙ h.0, values_parts parts b vs h.2)
    value_cells (tagged layout mark offset tag encoding tvs) b (variant i vs) h =
        (length-map_some b ∙ h.0, i, named_tag encoding offset (size_of tag) tvs i b h.1 h.2, values_variant tvs i b vs h.3)
    value_cells (states layout prefix offset tag tvs) b (state i ps vs) h = (
      length-map_some b ∙ h.0,
      values_parts prefix b ps h.1,
      i,
      named_tag Direct offset (size_of tag) tvs i b h.2 h.3,
      values_variant tvs i b vs h.4,
    )
    value_cells (scalar layout s) b _ h = absurd h
    value_cells (pair layout parts) b _ h = absurd h
    value_cells (never layout mark) b _ h = absurd h
    value_cells (elements layout count element) b _ h = absurd h
    value_cells (vector layout lanes) b _ h = absurd h
    value_cells (fields layout mark parts) b _ h = absurd h
    value_cells (union layout mark parts) b _ h = absurd h
    value_cells (single layout mark index parts) b _ h = absurd h
    value_cells (tagged layout mark offset tag encoding tvs) b _ h = absurd h
    value_cells (states layout prefix offset tag tvs) b _ h = absurd h

    values_parts : (ps : Parts) (b : List ℕ) (vs : Values) → HoldParts order ps b vs → HoldCellsOfParts order ps (map some b)
    values_parts no_parts b vs h = tt
    values_parts (part offset p ps) b (more_values v vs) h =
        (bytes_there (HoldCells order p) b offset (size_of p) h.0.0 (value_cells p (bytes_at b offset (size_of p)) v h.0.1), values_parts ps b vs h.1)
    values_parts (part offset p ps) b no_values h = absurd h

    values_variant : (tvs : TaggedVariants) (i : ℕ) (b : List ℕ) (vs : Values) → HoldTaggedVariant order tvs i b vs → HoldCellsOfVariant order tvs i (map some b)
    values_variant nothing_tagged i b vs h = absurd h
    values_variant (tagged_variant code layout mark parts tvs) zero b vs h = values_parts parts b vs h
    values_variant (tagged_variant code layout mark parts tvs) (suc i) b vs h = values_variant tvs i b vs h

-- ---- the laws

pub bytes_hold_values : (a : Stored) → BytesHoldValues a
bytes_hold_values a b all = (λ h. cells_value a.order a.placed b all h, λ h. value_cells a.order a.placed b h.0 h.1)

pub set_cells_take_nothing : (a : Stored) → SetCellsTakeNothing a
set_cells_take_nothing a w u all fills h = HoldCells-filled a.order a.placed w u fills h

pub GoesInto-self : (a : Stored) → GoesInto a a
GoesInto-self a = record { size = refl; cells = λ w all h. h }

pub GoesInto-through : (a b c : Stored) → GoesInto a b → GoesInto b c → GoesInto a c
GoesInto-through a b c h k = record { size = h.size ∙ k.size; cells = λ w all x. k.cells w all (h.cells w all x) }

-- cells that hold a type are as many as it is large
pub length-HoldCells : (order : Endian) (p : Placed) (w : List Cell) → HoldCells order p w → length w ≡ size_of p
length-HoldCells order (scalar layout s) w h = h.0
length-HoldCells order (pair layout parts) w h = h.0
length-HoldCells order (never layout mark) w h = absurd h
length-HoldCells order (elements layout count element) w h = h.0
length-HoldCells order (vector layout lanes) w h = h.0
length-HoldCells order (fields layout mark parts) w h = h.0
length-HoldCells order (union layout mark parts) w h = h
length-HoldCells order (single layout mark index parts) w h = h.0
length-HoldCells order (tagged layout mark offset tag encoding tvs) w h = h.0
length-HoldCells order (states layout prefix offset tag tvs) w h = h.0

-- a type is from bytes where as many bytes go into it
pub from_many : (n : ℕ) (bytes_type a : Stored) → AreManyBytes n bytes_type → size_of a.placed ≡ n → (IsFromBytes a ↔ GoesInto bytes_type a)
from_many n bytes_type a many long = (
  λ h. record {
    size = many.size ∙ sym long;
    cells = λ w all held.
        let set = (many.holds w all).0 held in
        let b = bytes_of w all set.1 in
        subst (HoldStored a) (sym b.1) ((bytes_hold_values a b.0 b.2).1 (h b.0 b.2 (sym (length-map_some b.0) ∙ ap length (sym b.1) ∙ set.0 ∙ sym long)));
  },
  λ g b all len. (bytes_hold_values a b all).0 (g.cells (map some b) (AreCells-bytes b all)
      ((many.holds (map some b) (AreCells-bytes b all)).1 (length-map_some b ∙ len ∙ long, AreSet-bytes b))),
)

-- a type is into bytes where it goes into as many
pub into_many : (n : ℕ) (bytes_type a : Stored) → AreManyBytes n bytes_type → size_of a.placed ≡ n → (IsIntoBytes a ↔ GoesInto a bytes_type)
into_many n bytes_type a many long = (
  λ h. record {
    size = long ∙ sym many.size;
    cells = λ w all held. (many.holds w all).1 (length-HoldCells a.order a.placed w held ∙ long, h w all held);
  },
  λ g w all held. ((many.holds w all).0 (g.cells w all held)).1,
)

-- a type that is from bytes takes each type of its size that is into bytes
pub into_from : (a b : Stored) → size_of a.placed ≡ size_of b.placed → IsIntoBytes a → IsFromBytes b → GoesInto a b
into_from a b long into from = record {
  size = long;
  cells = λ w all held.
      let d = bytes_of w all (into w all held) in
      subst (HoldStored b) (sym d.1) ((bytes_hold_values b d.0 d.2).1 (from d.0 d.2
      (sym (length-map_some d.0) ∙ ap length (sym d.1) ∙ length-HoldCells a.order a.placed w held ∙ long)));
}
