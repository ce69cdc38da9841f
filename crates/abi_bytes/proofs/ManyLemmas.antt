-- Arrays of bytes, and types of one field.
use Rattle.std.proofs.Common.{Some, None, ◌≡◌, ◌↔◌, ℕ, zero, suc, ◌+◌, ◌<◌, ◌≤◌, List, [], ◌∷◌, get_or, length, map, take, drop, arith, refl, sym, ap, ◌∙◌, subst}
use Rattle.std.proofs.lemmas.List.{drop_more, take_all}
use Rattle.automata.specs.Cell.{Cell, IsCell, AreCells}
use Rattle.abi_base.specs.declared.endian.Endian.{Endian}
use Rattle.abi_base.specs.declared.endian.Endian.TheVariants.{Little, Big}
use Rattle.abi_base.specs.declared.primitive.Primitive.{Primitive}
use Rattle.abi_scalar.specs.declared.wrapping_range.WrappingRange.{WrappingRange}
use Rattle.abi_scalar.specs.declared.scalar.Scalar.TheVariants.{Initialized}
use Rattle.abi_scalar.specs.Range.{IsIn, IsFull}
use Rattle.abi_scalar.specs.Layout.{Layout}
use Rattle.abi_tree.specs.declared.mark.Mark.{Mark}
use Rattle.abi_tree.specs.Bytes.{number_of}
use Rattle.abi_tree.specs.Placed.{Placed, scalar, elements, fields, no_parts, part, size_of}
use Rattle.abi_bytes.specs.Holding.{AreEach, MakeNumber, HoldCells}
use Rattle.abi_bytes.specs.Filling.{AreSet}
use Rattle.abi_bytes.specs.GoesInto.{Stored, GoesInto, AreManyBytes, IsArrayOfBytes, IsWrapper}
use Rattle.abi_bytes.proofs.CellsLemmas.{some, head_of}
use Rattle.abi_bytes.proofs.LawLemmas.{length-HoldCells}

-- ---- bytes

number_one : (order : Endian) (b : ℕ) → number_of order (b ∷ []) ≡ b
number_one Little b = omega arith
number_one Big b = omega arith

abbrev IsByte : Cell → Type 0
IsByte c = (b : ℕ) × (c ≡ Some b)

cell_there : (w : List Cell) (i : ℕ) (d : Cell) → AreCells w → i < length w → IsCell (get_or w i d)
cell_there w i d all lt = all i d lt

module _ (order : Endian) (range : WrappingRange) (full : IsFull 1 range) where
  abbrev P : List Cell → Type 0
  P v = (length v ≡ 1) × MakeNumber order (IsIn 1 range) v

  byte_of : (c : Cell) (bytes : List ℕ) → (c ∷ []) ≡ map some bytes → IsByte c
  byte_of c [] e = absurd (omega (arith, ap length e))
  byte_of c (b ∷ bytes) e = (b, ap head_of e)

  to_byte : (c : Cell) → P (c ∷ []) → IsByte c
  to_byte c h = byte_of c h.1.0 h.1.1

  from_byte : (c : Cell) → IsCell c → IsByte c → P (c ∷ [])
  from_byte c is h =
      let b : ℕ = h.0 in
      let small : b < 256 = subst IsCell h.1 is in
      (refl, (b ∷ [], ap (λ x. x ∷ []) h.1, subst (IsIn 1 range) (sym (number_one order b)) (full b (omega arith))))

  one_more : (w : List Cell) (o n : ℕ) → o < length w → take (suc n) (drop o w) ≡ get_or w o None ∷ take n (drop (o + 1) w)
  one_more w o n lt = ap (take (suc n)) (drop_more w o None lt)

  each_set : (n o : ℕ) (w : List Cell) → o ≤ length w → AreEach P n 1 o w → (o + n ≤ length w) × AreSet (take n (drop o w))
  each_set zero o w le h = (omega arith, tt)
  each_set (suc n) o w le h =
      let lt : o < length w = omega (arith, h.0.0) in
      let c : Cell = get_or w o None in
      let rest = each_set n (o + 1) w (omega arith) h.1 in
      let here = to_byte c (subst P (one_more w o 0 lt) h.0.1) in
      (omega (arith, rest.0), subst AreSet (sym (one_more w o n lt)) (here, rest.1))

  set_each : (n o : ℕ) (w : List Cell) → AreCells w → o + n ≤ length w → AreSet (take n (drop o w)) → AreEach P n 1 o w
  set_each zero o w all le h = tt
  set_each (suc n) o w all le h =
      let lt : o < length w = omega arith in
      let c : Cell = get_or w o None in
      let set : AreSet (c ∷ take n (drop (o + 1) w)) = subst AreSet (one_more w o n lt) h in
      ((omega arith, subst P (sym (one_more w o 0 lt)) (from_byte c (cell_there w o None all lt) set.0)), set_each n (o + 1) w all (omega arith) set.1)

-- an array of numbers of one byte, each of which may be any, is that many bytes
pub many_bytes : (order : Endian) (layout one : Layout) (value : Primitive) (range : WrappingRange) (n : ℕ) → layout.size ≡ n → one.size ≡ 1 → IsFull 1 range →
    AreManyBytes n (record { order = order; placed = elements layout n (scalar one (Initialized value range)) })
many_bytes order layout one value range n long small full = record {
  size = long;
  holds = λ w all. (
    λ h.
        let e = subst (λ k. AreEach (λ v. (length v ≡ k) × MakeNumber order (IsIn k range) v) n k 0 w) small h.1 in
        let set = each_set order range full n 0 w (omega arith) e in
        (h.0 ∙ long, subst AreSet (take_all n w (omega (arith, h.0, long))) set.1),
    λ h. (
      h.0 ∙ sym long,
      subst (λ k. AreEach (λ v. (length v ≡ k) × MakeNumber order (IsIn k range) v) n k 0 w) (sym small)
          (set_each order range full n 0 w all (omega (arith, h.0)) (subst AreSet (sym (take_all n w (omega (arith, h.0)))) h.1)),
    ),
  );
}

-- ---- one field

-- a type of one field, at its start and as large, is held by the cells of the field
pub one_field : (order : Endian) (layout : Layout) (mark : Mark) (p : Placed) → layout.size ≡ size_of p → (w : List Cell) →
    (HoldCells order (fields layout mark (part 0 p no_parts)) w ↔ HoldCells order p w)
one_field order layout mark p long w = (
  λ h. subst (HoldCells order p) (take_all (size_of p) w (omega (arith, h.0, long))) h.1.0.1,
  λ h.
      let len = length-HoldCells order p w h in
      (len ∙ sym long, ((omega (arith, len), subst (HoldCells order p) (sym (take_all (size_of p) w (omega (arith, len)))) h), tt)),
)

pub transparent_goes : (order : Endian) (layout : Layout) (mark : Mark) (p : Placed) → layout.size ≡ size_of p →
    GoesInto (record { order = order; placed = fields layout mark (part 0 p no_parts) }) (record { order = order; placed = p })
transparent_goes order layout mark p long = record { size = long; cells = λ w all h. (one_field order layout mark p long w).0 h }

pub goes_transparent : (order : Endian) (layout : Layout) (mark : Mark) (p : Placed) → layout.size ≡ size_of p →
    GoesInto (record { order = order; placed = p }) (record { order = order; placed = fields layout mark (part 0 p no_parts) })
goes_transparent order layout mark p long = record { size = sym long; cells = λ w all h. (one_field order layout mark p long w).1 h }

-- ---- the laws of these

pub array_of_bytes : (n : ℕ) (a : Stored) → IsArrayOfBytes n a → AreManyBytes n a
array_of_bytes n a is =
    subst (λ p. AreManyBytes n (record { order = a.order; placed = p })) (sym is.is) (many_bytes a.order is.layout is.of_one is.value is.range n is.long is.short is.full)

pub unwrapped : (a b : Stored) → IsWrapper a b → GoesInto a b
unwrapped a b is =
    subst (λ p. GoesInto (record { order = a.order; placed = p }) b) (sym is.is)
    (subst (λ o. GoesInto (record { order = o; placed = fields is.layout is.mark (part 0 b.placed no_parts) }) b) (sym is.order) (transparent_goes b.order is.layout is.mark b.placed is.long))

pub wrapped : (a b : Stored) → IsWrapper a b → GoesInto b a
wrapped a b is =
    subst (λ p. GoesInto b (record { order = a.order; placed = p })) (sym is.is)
    (subst (λ o. GoesInto b (record { order = o; placed = fields is.layout is.mark (part 0 b.placed no_parts) })) (sym is.order) (goes_transparent b.order is.layout is.mark b.placed is.long))
