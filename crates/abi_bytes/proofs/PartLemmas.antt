-- Formulas for parts.
use Rattle.std.proofs.Common.{◌≡◌, ◌↔◌, ℕ, zero, suc, ◌+◌, ◌<◌, ◌≤◌, List, [], ◌∷◌, length, get_or, min, arith, subst, ⊎_elim}
use Rattle.std.proofs.lemmas.Bool.{cases_lt}
use Rattle.automata.specs.Cell.{Cell}
use Rattle.automata.specs.Formula.{Formula, any, never, both, gap}
use Rattle.automata.specs.Formulas.{Keeps, IsMade}
use Rattle.automata.specs.Nodes.{formula_in}
use Rattle.automata.proofs.NodesLemmas.{Keeps-there}
use Rattle.abi_base.specs.declared.endian.Endian.{Endian}
use Rattle.abi_tree.specs.Nodes.{parts_at, placed_at}
use Rattle.abi_tree.specs.Placed.{size_of}
use Rattle.abi_tree.specs.Well.{all_at}
use Rattle.abi_tree.specs.declared.node.Node.{Node}
use Rattle.abi_bytes.specs.Holding.{AreAt, HoldCells, HoldCellsOfParts}
use Rattle.abi_bytes.specs.Formulas.{AreMade, HoldAt, HoldBetween, IsFormula, ReadsFirst}
use Rattle.abi_bytes.proofs.FirstLemmas.{made_any, made_both, made_gap, made_like, made_never, reads_kept}

-- what was made stays made
pub AreMade-kept : (fs gs : List Formula) (order : Endian) (ns : List Node) (made : List ℕ) → Keeps fs gs → AreMade fs order ns made → AreMade gs order ns made
AreMade-kept fs gs order ns made kept h k d lt = let is = h k d lt in record {
  there = Keeps-there fs gs kept (get_or made k d) is.there;
  reads = reads_kept fs gs (get_or made k d) (size_of (placed_at ns k)) (HoldCells order (placed_at ns k)) kept is.there is.reads;
}

pub piece_made : (s0 s1 : List Formula) (f s k n o : ℕ) (Q : List Cell → Type 0) → ReadsFirst (formula_in s0 f) s Q →
    (o + s ≤ n → IsMade s0 s1 (gap o (formula_in s0 f)) k) → (n < o + s → IsMade s0 s1 never k) → IsFormula s0 s1 n (AreAt o s Q) k
piece_made s0 s1 f s k n o Q reads inside outside =
    ⊎_elim
    (λ out. made_never s0 s1 n k (AreAt o s Q) (λ u all len h. omega (arith, h.0, len, out)) (outside out))
    (λ room. made_gap s0 s1 f s k n o Q reads room (inside room))
    (cases_lt n (o + s))

-- no parts
pub between_none : (order : Endian) (ns : List Node) (os cs : List ℕ) (start end : ℕ) (s0 s1 : List Formula) (n k : ℕ) → end ≤ start → IsMade s0 s1 any k → IsFormula s0 s1 n (HoldBetween order ns os cs start end) k
between_none order ns os cs start end s0 s1 n k le made = made_any s0 s1 n k (HoldBetween order ns os cs start end) (λ u all len j from below. absurd (omega (arith, from, below, le))) made

-- one part
pub between_one : (order : Endian) (ns : List Node) (os cs : List ℕ) (start end : ℕ) (s0 s1 : List Formula) (n k : ℕ) → end ≡ start + 1 →
    IsFormula s0 s1 n (HoldAt order ns (get_or os start 0) (get_or cs start 0)) k → IsFormula s0 s1 n (HoldBetween order ns os cs start end) k
between_one order ns os cs start end s0 s1 n k one is =
    made_like s0 s1 n k (HoldAt order ns (get_or os start 0) (get_or cs start 0)) (HoldBetween order ns os cs start end)
    (λ u all len. (
      λ h j from below.
          let here : start ≡ j = omega (arith, from, below, one) in
          subst (λ i. HoldAt order ns (get_or os i 0) (get_or cs i 0) u) here h,
      λ h. h start (omega arith) (omega (arith, one)),
    ))
    is

-- two halves
pub between_halves : (order : Endian) (ns : List Node) (os cs : List ℕ) (start middle end : ℕ) (s0 s1 s2 s3 : List Formula) (n f g k : ℕ) → start ≤ middle → middle ≤ end →
    IsFormula s0 s1 n (HoldBetween order ns os cs start middle) f → IsFormula s1 s2 n (HoldBetween order ns os cs middle end) g →
    IsMade s2 s3 (both (formula_in s2 f) (formula_in s2 g)) k → IsFormula s0 s3 n (HoldBetween order ns os cs start end) k
between_halves order ns os cs start middle end s0 s1 s2 s3 n f g k low high one two made =
    made_like s0 s3 n k (λ u. HoldBetween order ns os cs start middle u × HoldBetween order ns os cs middle end u) (HoldBetween order ns os cs start end)
    (λ u all len. (
      λ h j from below. ⊎_elim (λ lt. h.0 j from lt) (λ le. h.1 j le below) (cases_lt j middle),
      λ h. (λ j from below. h j from (omega (arith, below, high)), λ j from below. h j (omega (arith, from, low)) below),
    ))
    (made_both s0 s1 s2 s3 f g k n (HoldBetween order ns os cs start middle) (HoldBetween order ns os cs middle end) one two made)

module _ (order : Endian) (ns : List Node) (o c : ℕ) (os cs : List ℕ) (w : List Cell) where
  held_at : (k : ℕ) → k < min (suc (length os)) (suc (length cs)) → HoldAt order ns o c w → HoldBetween order ns os cs 0 (min (length os) (length cs)) w →
      HoldAt order ns (get_or (o ∷ os) k 0) (get_or (c ∷ cs) k 0) w
  held_at zero lt here rest = here
  held_at (suc k) lt here rest = rest k (omega arith) (omega (arith, lt))

pub parts_by_index : (order : Endian) (ns : List Node) (os cs : List ℕ) (w : List Cell) →
    (HoldBetween order ns os cs 0 (min (length os) (length cs)) w ↔ HoldCellsOfParts order (parts_at os (all_at ns cs)) w)
parts_by_index order ns [] cs w = (λ h. tt, λ h k from below. absurd (omega (arith, below)))
parts_by_index order ns (o ∷ os) [] w = (λ h. tt, λ h k from below. absurd (omega (arith, below)))
parts_by_index order ns (o ∷ os) (c ∷ cs) w =
    let rest = parts_by_index order ns os cs w in (
      λ h. (h 0 (omega arith) (omega arith), rest.0 (λ k from below. h (suc k) (omega arith) (omega (arith, below)))),
      λ h k from below. held_at order ns o c os cs w k below h.0 (rest.1 h.1),
    )

pub parts_made : (order : Endian) (ns : List Node) (os cs : List ℕ) (s0 s1 : List Formula) (n k count : ℕ) → count ≡ min (length os) (length cs) →
    IsFormula s0 s1 n (HoldBetween order ns os cs 0 count) k → IsFormula s0 s1 n (HoldCellsOfParts order (parts_at os (all_at ns cs))) k
parts_made order ns os cs s0 s1 n k count many is =
    made_like s0 s1 n k (HoldBetween order ns os cs 0 (min (length os) (length cs))) (HoldCellsOfParts order (parts_at os (all_at ns cs)))
    (λ u all len. parts_by_index order ns os cs u)
    (subst (λ m. IsFormula s0 s1 n (HoldBetween order ns os cs 0 m) k) many is)

-- a part whose size stands under another name
pub part_made : (s0 s1 : List Formula) (f s z k n o : ℕ) (Q : List Cell → Type 0) → z ≡ s → ReadsFirst (formula_in s0 f) s Q →
    (o + z ≤ n → IsMade s0 s1 (gap o (formula_in s0 f)) k) → (n < o + z → IsMade s0 s1 never k) → IsFormula s0 s1 n (AreAt o s Q) k
part_made s0 s1 f s z k n o Q same reads inside outside =
    piece_made s0 s1 f s k n o Q reads (λ le. inside (omega (arith, le, same))) (λ lt. outside (omega (arith, lt, same)))
