-- Why cells don't hold a type: parts at their places among the cells of the whole.
use Rattle.std.proofs.Common.{Some, None, ◌≡◌, ◌⊎◌, ℕ, zero, suc, ◌+◌, ◌-◌, ◌*◌, ◌<◌, ◌≤◌, List, [], ◌∷◌, All, length, map, min, take, drop, get_or, arith, refl, sym, ap, ◌∙◌, subst, inr, ⊎_elim, length-take, length-drop}
use Rattle.std.specs.Prelude.{IfSome, Option, is_some, true}
use Rattle.std.proofs.lemmas.Bool.{cases_lt, false≢true}
use Rattle.std.proofs.Math.Nat.{mul-le-mul_left, suc-mul}
use Rattle.std.proofs.lemmas.List.{drop-drop, drop-take, get_or-drop, get_or-take, get_or_default, take-take}
use Rattle.std.proofs.lemmas.Option.{get_or_from_slice_get}
use Rattle.automata.specs.Cell.{Cell}
use Rattle.abi_base.specs.declared.endian.Endian.{Endian}
use Rattle.abi_base.specs.declared.primitive.Primitive.{Primitive}
use Rattle.abi_scalar.specs.Range.{IsIn}
use Rattle.abi_scalar.specs.declared.scalar.Scalar.{Scalar}
use Rattle.abi_scalar.specs.declared.scalar.Scalar.TheVariants.{Initialized}
use Rattle.abi_scalar.specs.declared.wrapping_range.WrappingRange.{WrappingRange}
use Rattle.abi_scalar.specs.declared.variants.TagEncoding.{TagEncoding}
use Rattle.abi_tree.specs.Bytes.{number_of}
use Rattle.abi_tree.specs.Nodes.{parts_at, placed_at}
use Rattle.abi_tree.specs.Placed.{Placed, TaggedVariants, size_of}
use Rattle.abi_tree.specs.Room.{has_room, have_room}
use Rattle.abi_tree.specs.Tag.{Names}
use Rattle.abi_tree.specs.Well.{all_at}
use Rattle.abi_tree.specs.declared.node.Node.{Node}
use Rattle.abi_tree.proofs.Places.DataPlacesLemmas.{field_at}
use Rattle.abi_bytes.specs.Answers.{byte_in}
use Rattle.abi_bytes.specs.Filling.{AreSet}
use Rattle.abi_bytes.specs.GoesInto.{Stored}
use Rattle.abi_bytes.specs.Formulas.{HoldAt, HoldBetween}
use Rattle.abi_bytes.specs.Holding.{AreAt, AreEach, HoldCells, HoldCellsOfParts, HoldScalar, HoldTag, MakeNumber, cells_at}
use Rattle.abi_bytes.specs.NotHeld.{IsFirstUnset, IsHeldAt, IsWhyNotHeld, IsWhyNumber, IsWrong, IsWrongField, MakeAt, number_in}
use Rattle.abi_bytes.specs.declared.not_held.Why.TheVariants.{OutOfRange, Unset}
use Rattle.abi_bytes.specs.WrongParts.{Judges, JudgesParts, JudgesType, field_step, fields_in}
use Rattle.abi_bytes.specs.declared.cell_walk.CellWalk.{CellWalk}
use Rattle.abi_bytes.specs.declared.wrong_parts.PartsAt.{PartsAt}
use Rattle.abi_bytes.specs.declared.not_held.NotHeld.{NotHeld}
use Rattle.abi_bytes.specs.declared.not_held.PartStep.{PartStep}
use Rattle.abi_bytes.specs.declared.not_held.WrongPart.{WrongPart}
use Rattle.abi_bytes.proofs.CellsLemmas.{some}
use Rattle.abi_bytes.proofs.PartLemmas.{parts_by_index}

-- ---- cells of cells

pub length-at : (w : List Cell) (at n : ℕ) → at + n ≤ length w → length (cells_at w at n) ≡ n
length-at w at n le = omega (arith, length-take n (drop at w), length-drop at w)

pub at-at : (w : List Cell) (at n o m : ℕ) → o + m ≤ n → cells_at (cells_at w at n) o m ≡ cells_at w (at + o) m
at-at w at n o m le =
    let split : n ≡ o + (n - o) = omega arith in
    let less : m ≤ n - o = omega arith in
    ap (λ k. take m (drop o (take k (drop at w)))) split
    ∙ ap (take m) (drop-take o (n - o) (drop at w))
    ∙ take-take m (n - o) (drop o (drop at w)) less
    ∙ ap (take m) (drop-drop o at w)

-- what is at a place of the whole is at an offset of a part
pub into_part : (w : List Cell) (at n o m : ℕ) (Q : List Cell → Type 0) → at + n ≤ length w → o + m ≤ n → Q (cells_at w (at + o) m) → AreAt o m Q (cells_at w at n)
into_part w at n o m Q fits inside h = (omega (arith, length-at w at n fits, inside), subst Q (sym (at-at w at n o m inside)) h)

pub out_of_part : (w : List Cell) (at n o m : ℕ) (Q : List Cell → Type 0) → o + m ≤ n → AreAt o m Q (cells_at w at n) → Q (cells_at w (at + o) m)
out_of_part w at n o m Q inside h = subst Q (at-at w at n o m inside) h.1

-- ---- numbers

map-byte_in : (b : List ℕ) → map byte_in (map some b) ≡ b
map-byte_in [] = refl
map-byte_in (x ∷ b) = ap (λ w. x ∷ w) (map-byte_in b)

abbrev is_set : Cell → ℕ
is_set (Some b) = 1
is_set None = 0

unset : (b : ℕ) → None ≡ some b → ⊥
unset b e = let never : 0 ≡ 1 = ap is_set e in omega (arith, never)

set_bytes : (w : List Cell) → AreSet w → w ≡ map some (map byte_in w)
set_bytes [] set = refl
set_bytes (None ∷ w) set = absurd (unset set.0.0 set.0.1)
set_bytes (Some b ∷ w) set = ap (λ v. some b ∷ v) (set_bytes w set.1)

pub made_number : (order : Endian) (P : ℕ → Type 0) (w : List Cell) → AreSet w → P (number_in order w) → MakeNumber order P w
made_number order P w set p = (map byte_in w, set_bytes w set, p)

pub number_made : (order : Endian) (P : ℕ → Type 0) (w : List Cell) → MakeNumber order P w → P (number_in order w)
number_made order P w h = subst (λ bytes. P (number_of order bytes)) (sym (ap (map byte_in) h.1 ∙ map-byte_in h.0)) h.2

unset_bytes : (b : List ℕ) (k : ℕ) → get_or (map some b) k (some 0) ≡ None → ⊥
unset_bytes [] k e = unset 0 (sym e)
unset_bytes (x ∷ b) zero e = unset x (sym e)
unset_bytes (x ∷ b) (suc k) e = unset_bytes b k e

-- a cell that isn't set makes no number
pub unset_number : (order : Endian) (P : ℕ → Type 0) (w : List Cell) (at n k : ℕ) → IsFirstUnset w at n k → MakeNumber order P (cells_at w at n) → ⊥
unset_number order P w at n k first h =
    unset_bytes h.0 k
    (
    ap (λ u. get_or u k (some 0)) (sym h.1)
    ∙ get_or-take n (drop at w) k (some 0) first.below
    ∙ get_or-drop at w k (some 0)
    ∙ get_or_from_slice_get w (at + k) None (some 0) first.unset
    )

-- one more cell is set
set_more : (u : List Cell) (i : ℕ) (d : Cell) → i < length u → AreSet (take i u) → is_some (get_or u i d) ≡ true → AreSet (take (suc i) u)
set_more [] i d lt set is = absurd (omega arith)
set_more (None ∷ u) zero d lt set is = absurd (false≢true is)
set_more (Some b ∷ u) zero d lt set is = ((b, refl), tt)
set_more (c ∷ u) (suc i) d lt set is = (set.0, set_more u i d (omega (arith, lt)) set.1 is)

pub AreSet-more : (w : List Cell) (at n i : ℕ) (d : Cell) → at + n ≤ length w → i < n → AreSet (cells_at w at i) → is_some (get_or w (at + i) d) ≡ true → AreSet (cells_at w at (i + 1))
AreSet-more w at n i d le lt set is =
    let next : i + 1 ≡ suc i = omega arith in
    subst (λ k. AreSet (cells_at w at k)) (sym next)
    (set_more (drop at w) i d (omega (arith, length-drop at w)) set (ap is_some (get_or-drop at w i d) ∙ is))

-- ---- a scalar

module _ (order : Endian) (s : Scalar) (value : Primitive) (range : WrappingRange) (w : List Cell) (at n : ℕ) (is : s ≡ Initialized value range) where
  abbrev IsHeld : Scalar → Type 0
  IsHeld x = HoldScalar order n x (cells_at w at n)

  pub scalar_held : (number : ℕ) → MakeAt order w at n number → IsIn n range number → IsHeld s
  scalar_held number made within =
      subst IsHeld (sym is) (made_number order (IsIn n range) (cells_at w at n) made.0 (subst (IsIn n range) made.1 within))

  pub scalar_outside : (number : ℕ) → MakeAt order w at n number → (IsIn n range number → ⊥) → IsHeld s → ⊥
  scalar_outside number made outside h =
      outside (subst (IsIn n range) (sym made.1) (number_made order (IsIn n range) (cells_at w at n) (subst IsHeld is h)))

  pub scalar_unset : (k : ℕ) → IsFirstUnset w at n k → IsHeld s → ⊥
  scalar_unset k first h = unset_number order (IsIn n range) w at n k first (subst IsHeld is h)

  pub why_outside : (number : ℕ) (of : Scalar) → of ≡ s → MakeAt order w at n number → (IsIn n range number → ⊥) → IsWhyNumber order w s at n (OutOfRange number of)
  why_outside number of same made outside = subst (λ x. IsWhyNumber order w x at n (OutOfRange number of)) (sym is) (same ∙ is, made, outside)

  pub why_unset : (k : ℕ) → IsFirstUnset w at n k → IsWhyNumber order w s at n (Unset k)
  why_unset k first = subst (λ x. IsWhyNumber order w x at n (Unset k)) (sym is) first

-- ---- elements, by their index

module _ (Q : List Cell → Type 0) (n : ℕ) (u : List Cell) where
  each_from : (count o : ℕ) → ((k : ℕ) → k < count → AreAt (o + k * n) n Q u) → AreEach Q count n o u
  each_from zero o h = tt
  each_from (suc count) o h =
      let first : o + 0 * n ≡ o = omega arith in (
        subst (λ x. AreAt x n Q u) first (h 0 (omega arith)),
        each_from count (o + n) (λ k lt.
            let next : o + suc k * n ≡ o + n + k * n = omega (arith, suc-mul k n) in
            subst (λ x. AreAt x n Q u) next (h (suc k) (omega (arith, lt)))),
      )

  each_at : (count o k : ℕ) → k < count → AreEach Q count n o u → AreAt (o + k * n) n Q u
  each_at zero o k lt h = absurd (omega arith)
  each_at (suc count) o zero lt h = let first : o ≡ o + 0 * n = omega arith in subst (λ x. AreAt x n Q u) first h.0
  each_at (suc count) o (suc k) lt h =
      let next : o + n + k * n ≡ o + suc k * n = omega (arith, suc-mul k n) in
      subst (λ x. AreAt x n Q u) next (each_at count (o + n) k (omega (arith, lt)) h.1)

pub ends_before : (n k count : ℕ) → k < count → k * n + n ≤ n * count
ends_before n k count lt =
    let le : suc k ≤ count = omega arith in
    omega (arith, mul-le-mul_left n le)

module _ (Q : List Cell → Type 0) (w : List Cell) (at n count i : ℕ) where
  pub elements_held : at + n * count ≤ length w → ((k : ℕ) → k < i → Q (cells_at w (at + k * n) n)) →
      ((k : ℕ) → k < count → (k < i) ⊎ ((n ≡ 0) × (0 < i))) → AreEach Q count n 0 (cells_at w at (n * count))
  elements_held fits held some_before =
      each_from Q n (cells_at w at (n * count)) count 0
      (λ k lt.
      let zero_first : k * n ≡ 0 + k * n = omega arith in
      subst (λ o. AreAt o n Q (cells_at w at (n * count))) zero_first
      (into_part w at (n * count) (k * n) n Q fits (ends_before n k count lt)
      (⊎_elim
      (λ below. held k below)
      (λ none.
      let same : at + 0 * n ≡ at + k * n = (let nothing_there : k * n ≡ k * 0 = ap (λ m. k * m) none.0 in omega (arith, nothing_there)) in
      subst (λ x. Q (cells_at w x n)) same (held 0 none.1))
      (some_before k lt))))

  pub element_wrong : i < count → (Q (cells_at w (at + i * n) n) → ⊥) → AreEach Q count n 0 (cells_at w at (n * count)) → ⊥
  element_wrong lt unheld h =
      let zero_first : 0 + i * n ≡ i * n = omega arith in
      unheld
      (out_of_part w at (n * count) (i * n) n Q (ends_before n i count lt)
      (subst (λ o. AreAt o n Q (cells_at w at (n * count))) zero_first (each_at Q n (cells_at w at (n * count)) count 0 i lt h)))

-- ---- what is judged

pub judged_like : (P R : Type 0) (Q S : List PartStep → WrongPart → Type 0) (found : Option NotHeld) → (P → R) → (R → P) →
    ((way : List PartStep) (wrong : WrongPart) → Q way wrong → S way wrong) → Judges P Q found → Judges R S found
judged_like P R Q S None to from say h = to h
judged_like P R Q S (Some f) to from say h = (λ r. h.0 (from r), say f.way.items f.part h.1)

pub type_none : (walk : CellWalk) (p : Placed) (at : ℕ) (found : Option NotHeld) → ((f : NotHeld) → found ≡ Some f → ⊥) → JudgesType walk p at found → HoldCells walk.order p (cells_at walk.cells.now at (size_of p))
type_none walk p at None other h = h
type_none walk p at (Some f) other h = absurd (other f refl)

-- what is judged at an offset, under other names
pub found_at : (walk : CellWalk) (p : Placed) (at o u : ℕ) (found new : Option NotHeld) → o ≡ u → found ≡ new → JudgesType walk p (at + o) found → JudgesType walk p (at + u) new
found_at walk p at o u found new e is h = subst (JudgesType walk p (at + u)) is (subst (λ x. JudgesType walk p (at + x) found) e h)

-- what is judged of the whole
pub why_found : (a : Stored) (w : List Cell) (order : Endian) (p : Placed) (P : Type 0) (found : Option NotHeld) → order ≡ a.order → p ≡ a.placed → Judges P (IsWrong order w p 0) found → IfSome found (IsWhyNotHeld a w)
why_found a w order p P None e is h = tt
why_found a w order p P (Some f) e is h =
    inr (subst (λ o. IsWrong o w a.placed 0 f.way.items f.part) e (subst (λ x. IsWrong order w x 0 f.way.items f.part) is h.1))

-- ---- a field, by its index

-- the i-th field is there, comes before the node, and ends inside the whole
pub field_here : (ns : List Node) (os cs : List ℕ) (count i r d size node : ℕ) → count ≡ min (length os) (length cs) → i < count → r ≡ get_or os i d → All (λ child. child < node) cs → have_room size (parts_at os (all_at ns cs)) ≡ true →
    (i < length os) × (i < length cs) × (r ≡ get_or os i 0) × (get_or cs i 0 < node) × (get_or os i 0 + size_of (placed_at ns (get_or cs i 0)) ≤ size) × (has_room (placed_at ns (get_or cs i 0)) ≡ true)
field_here ns os cs count i r d size node many lt is before room =
    let there : i < length os = omega arith in
    let below : i < length cs = omega arith in
    let at = field_at ns os cs i there below size node before room in
    (there, below, is ∙ get_or_default os i d 0 there, at.0, at.1, at.2)

pub wrong_field : (order : Endian) (w : List Cell) (ns : List Node) (os cs : List ℕ) (at i : ℕ) (way : List PartStep) (wrong : WrongPart) → i < length os → i < length cs →
    ((k : ℕ) → k < i → IsHeldAt order w (placed_at ns (get_or cs k 0)) (at + get_or os k 0)) → IsWrong order w (placed_at ns (get_or cs i 0)) (at + get_or os i 0) way wrong → IsWrongField order w (parts_at os (all_at ns cs)) at i way wrong
wrong_field order w ns [] cs at i way wrong lt below before h = absurd (omega arith)
wrong_field order w ns (o ∷ os) [] at i way wrong lt below before h = absurd (omega arith)
wrong_field order w ns (o ∷ os) (c ∷ cs) at zero way wrong lt below before h = h
wrong_field order w ns (o ∷ os) (c ∷ cs) at (suc i) way wrong lt below before h =
    (before 0 (omega arith), wrong_field order w ns os cs at i way wrong (omega (arith, lt)) (omega (arith, below)) (λ k less. before (suc k) (omega (arith, less))) h)

pub field_unheld : (order : Endian) (w : List Cell) (ns : List Node) (os cs : List ℕ) (at size i : ℕ) → i < length os → i < length cs →
    get_or os i 0 + size_of (placed_at ns (get_or cs i 0)) ≤ size →
    (HoldCells order (placed_at ns (get_or cs i 0)) (cells_at w (at + get_or os i 0) (size_of (placed_at ns (get_or cs i 0)))) → ⊥) →
    HoldCellsOfParts order (parts_at os (all_at ns cs)) (cells_at w at size) → ⊥
field_unheld order w ns os cs at size i lt below inside unheld h =
    unheld
    (out_of_part w at size (get_or os i 0) (size_of (placed_at ns (get_or cs i 0))) (HoldCells order (placed_at ns (get_or cs i 0))) inside
    ((parts_by_index order ns os cs (cells_at w at size)).1 h i (omega arith) (omega (arith, lt, below))))

module _ (walk : CellWalk) (parts : PartsAt) (i : ℕ) (inside : get_or parts.offsets.now i 0 + size_of (placed_at walk.nodes.now (get_or parts.children.now i 0)) ≤ parts.size) where
  abbrev field_type : Placed
  field_type = placed_at walk.nodes.now (get_or parts.children.now i 0)

  abbrev field_place : ℕ
  field_place = parts.at + get_or parts.offsets.now i 0

  abbrev HeldBefore : ℕ → Type 0
  HeldBefore k = HoldBetween walk.order walk.nodes.now parts.offsets.now parts.children.now 0 k (cells_at walk.cells.now parts.at parts.size)

  -- the i-th field isn't held, and neither are they all
  pub fields_wrong : (f g : NotHeld) (step : PartStep) → i < length parts.offsets.now → i < length parts.children.now → step ≡ field_step parts.variant i → g.way.items ≡ step ∷ f.way.items → g.part ≡ f.part →
      parts.at + parts.size ≤ length walk.cells.now → HeldBefore i → JudgesType walk field_type field_place (Some f) → JudgesParts walk parts (Some g)
  fields_wrong f g step lt below named way part fits before h = (
    field_unheld walk.order walk.cells.now walk.nodes.now parts.offsets.now parts.children.now parts.at parts.size i lt below inside h.0,
    (
      i,
      f.way.items,
      way ∙ ap (λ s. s ∷ f.way.items) named,
      subst (IsWrongField walk.order walk.cells.now (fields_in walk parts) parts.at i f.way.items) (sym part)
          (wrong_field walk.order walk.cells.now walk.nodes.now parts.offsets.now parts.children.now parts.at i f.way.items f.part lt below
          (λ k less.
          let at = before k (omega arith) less in
          out_of_part walk.cells.now parts.at parts.size (get_or parts.offsets.now k 0) (size_of (placed_at walk.nodes.now (get_or parts.children.now k 0))) (HoldCells walk.order (placed_at walk.nodes.now (get_or parts.children.now k 0)))
          (omega (arith, at.0, length-at walk.cells.now parts.at parts.size fits)) at) h.1),
    ),
  )

  -- it is, as those before it are
  pub fields_more : parts.at + parts.size ≤ length walk.cells.now → HeldBefore i → HoldCells walk.order field_type (cells_at walk.cells.now field_place (size_of field_type)) → HeldBefore (i + 1)
  fields_more fits before held k from below =
      let here : HoldAt walk.order walk.nodes.now (get_or parts.offsets.now i 0) (get_or parts.children.now i 0) (cells_at walk.cells.now parts.at parts.size) =
      into_part walk.cells.now parts.at parts.size (get_or parts.offsets.now i 0) (size_of field_type) (HoldCells walk.order field_type) fits inside held in
      ⊎_elim (λ lt. before k from lt)
      (λ past.
      let same : i ≡ k = omega (arith, past, below) in
      subst (λ j. HoldAt walk.order walk.nodes.now (get_or parts.offsets.now j 0) (get_or parts.children.now j 0) (cells_at walk.cells.now parts.at parts.size)) same here) (cases_lt k i)

-- ---- a tag

module _ (order : Endian) (encoding : TagEncoding ℕ) (variants : TaggedVariants) (w : List Cell) (at size offset n number i : ℕ) (inside : offset + n ≤ size) (made : MakeAt order w (at + offset) n number) where
  abbrev IsNamed : ℕ → Type 0
  IsNamed m = Names encoding n variants m i

  pub tag_held : at + size ≤ length w → Names encoding n variants number i → HoldTag order encoding offset n variants i (cells_at w at size)
  tag_held fits names =
      into_part w at size offset n (MakeNumber order IsNamed) fits inside (made_number order IsNamed (cells_at w (at + offset) n) made.0 (subst IsNamed made.1 names))

  pub tag_named : HoldTag order encoding offset n variants i (cells_at w at size) → Names encoding n variants number i
  tag_named h = subst IsNamed (sym made.1) (number_made order IsNamed (cells_at w (at + offset) n) (out_of_part w at size offset n (MakeNumber order IsNamed) inside h))

pub tag_unset : (order : Endian) (encoding : TagEncoding ℕ) (variants : TaggedVariants) (w : List Cell) (at size offset n k i : ℕ) → offset + n ≤ size → IsFirstUnset w (at + offset) n k →
    HoldTag order encoding offset n variants i (cells_at w at size) → ⊥
tag_unset order encoding variants w at size offset n k i inside first h =
    unset_number order (λ m. Names encoding n variants m i) w (at + offset) n k first (out_of_part w at size offset n (MakeNumber order (λ m. Names encoding n variants m i)) inside h)
