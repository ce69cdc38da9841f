-- Formulas for numbers of a range.
use Rattle.std.proofs.Common.{◌≡◌, ◌⊎◌, ℕ, ◌*◌, ◌/◌, ◌^◌, ◌<◌, ◌≤◌, List, length, arith, sym, subst, inl, inr, ⊎_elim}
use Rattle.std.proofs.Math.Nat.{div-eq_of_lt}
use Rattle.automata.specs.Formula.{Formula, both, either}
use Rattle.automata.specs.Formulas.{IsMade, Keeps}
use Rattle.automata.specs.Nodes.{formula_in}
use Rattle.automata.specs.Number.{IsAbove, IsBelow, IsBig, IsLittle, ReadsLittle}
use Rattle.automata.specs.declared.numbers.Bound.{Bound}
use Rattle.abi_base.specs.declared.endian.Endian.{Endian}
use Rattle.abi_base.specs.declared.endian.Endian.TheVariants.{Little, Big}
use Rattle.abi_scalar.specs.Range.{IsBetween, numbers_of}
use Rattle.abi_bytes.specs.Holding.{MakeNumber}
use Rattle.abi_bytes.specs.Formulas.{IsFormula}
use Rattle.abi_bytes.proofs.FirstLemmas.{big_made, little_made, made_both, made_either, made_like, number_both, number_either, number_like}

little : (old new : List Formula) (n i : ℕ) (P : ℕ → Type 0) (order : Endian) → order ≡ Little → Keeps old new → i < length new → ReadsLittle (formula_in new i) n P
    → IsFormula old new n (MakeNumber order P) i
little old new n i P order is kept there reads =
    subst (λ o. IsFormula old new n (MakeNumber o P) i) (sym is) (record { kept = kept; there = there; reads = little_made (formula_in new i) n P reads })

pub up_to_little : (old new : List Formula) (n t : ℕ) (b : Bound) (order : Endian) → order ≡ Little → IsBelow old new n t b → IsFormula old new n (MakeNumber order (λ m. m ≤ t)) b.loose
up_to_little old new n t b order is made = little old new n b.loose (λ m. m ≤ t) order is made.kept made.loose_there made.loose

pub from_little : (old new : List Formula) (n t : ℕ) (b : Bound) (order : Endian) → order ≡ Little → IsAbove old new n t b → IsFormula old new n (MakeNumber order (λ m. t ≤ m)) b.loose
from_little old new n t b order is made = little old new n b.loose (λ m. t ≤ m) order is made.kept made.loose_there made.loose

pub from_big : (old new : List Formula) (n t i : ℕ) (P : ℕ → Type 0) (order : Endian) → order ≡ Big → t < numbers_of n → IsBig old new n P (t / 2 ^ (8 * n)) i → IsFormula old new n (MakeNumber order P) i
from_big old new n t i P order is fits made =
    subst (λ o. IsFormula old new n (MakeNumber o P) i) (sym is) (record {
      kept = made.kept;
      there = made.there;
      reads = big_made (formula_in new i) n (t / 2 ^ (8 * n)) P (div-eq_of_lt fits) made.reads;
    })

pub number_little : (old new : List Formula) (n i : ℕ) (P : ℕ → Type 0) (order : Endian) → order ≡ Little → IsLittle old new n P i → IsFormula old new n (MakeNumber order P) i
number_little old new n i P order is made =
    subst (λ o. IsFormula old new n (MakeNumber o P) i) (sym is) (record { kept = made.kept; there = made.there; reads = little_made (formula_in new i) n P made.reads })

pub single_range : (old new : List Formula) (n start end i : ℕ) (order : Endian) → start ≡ end → IsFormula old new n (MakeNumber order (λ m. m ≡ start)) i → IsFormula old new n (MakeNumber order (IsBetween start end)) i
single_range old new n start end i order e made =
    made_like old new n i (MakeNumber order (λ m. m ≡ start)) (MakeNumber order (IsBetween start end))
    (λ u all len. number_like order n (λ m. m ≡ start) (IsBetween start end)
    (λ m fits. (
      λ x. inl (omega (arith, e), omega (arith, x), omega (arith, x, e)),
      λ x. ⊎_elim (λ y. omega (arith, y.1, y.2, e)) (λ y. ⊎_elim (λ z. omega (arith, z.0, e)) (λ z. omega (arith, z.0, e)) y) x,
    ))
    u all len)
    made

module _ (s0 s1 s2 s3 : List Formula) (l h k n start end : ℕ) (order : Endian) (low : IsFormula s0 s1 n (MakeNumber order (λ m. start ≤ m)) l) (high : IsFormula s1 s2 n (MakeNumber order (λ m. m ≤ end)) h) where
  pub straight_range : start ≤ end → IsMade s2 s3 (both (formula_in s2 l) (formula_in s2 h)) k → IsFormula s0 s3 n (MakeNumber order (IsBetween start end)) k
  straight_range le made =
      made_like s0 s3 n k (λ u. MakeNumber order (λ m. start ≤ m) u × MakeNumber order (λ m. m ≤ end) u) (MakeNumber order (IsBetween start end))
      (λ u all len. (
        λ x. (number_like order n (λ m. (start ≤ m) × (m ≤ end)) (IsBetween start end)
            (λ m lt. (λ y. inl (le, y.0, y.1), λ y. ⊎_elim (λ z. (z.1, z.2)) (λ z. ⊎_elim (λ v. omega (arith, v.0, le)) (λ v. omega (arith, v.0, le)) z) y)) u all len).0
            ((number_both order (λ m. start ≤ m) (λ m. m ≤ end) u).0 x),
        λ x. (number_both order (λ m. start ≤ m) (λ m. m ≤ end) u).1
            ((number_like order n (λ m. (start ≤ m) × (m ≤ end)) (IsBetween start end)
            (λ m lt. (λ y. inl (le, y.0, y.1), λ y. ⊎_elim (λ z. (z.1, z.2)) (λ z. ⊎_elim (λ v. omega (arith, v.0, le)) (λ v. omega (arith, v.0, le)) z) y)) u all len).1 x),
      ))
      (made_both s0 s1 s2 s3 l h k n (MakeNumber order (λ m. start ≤ m)) (MakeNumber order (λ m. m ≤ end)) low high made)

  pub round_range : end < start → IsMade s2 s3 (either (formula_in s2 l) (formula_in s2 h)) k → IsFormula s0 s3 n (MakeNumber order (IsBetween start end)) k
  round_range lt made =
      made_like s0 s3 n k (λ u. MakeNumber order (λ m. start ≤ m) u ⊎ MakeNumber order (λ m. m ≤ end) u) (MakeNumber order (IsBetween start end))
      (λ u all len. (
        λ x. (number_like order n (λ m. (start ≤ m) ⊎ (m ≤ end)) (IsBetween start end)
            (λ m fits. (λ y. ⊎_elim (λ z. inr (inl (lt, z))) (λ z. inr (inr (lt, z))) y, λ y. ⊎_elim (λ z. absurd (omega (arith, z.0, lt))) (λ z. ⊎_elim (λ v. inl v.1) (λ v. inr v.1) z) y)) u all len).0
            ((number_either order (λ m. start ≤ m) (λ m. m ≤ end) u).0 x),
        λ x. (number_either order (λ m. start ≤ m) (λ m. m ≤ end) u).1
            ((number_like order n (λ m. (start ≤ m) ⊎ (m ≤ end)) (IsBetween start end)
            (λ m fits. (λ y. ⊎_elim (λ z. inr (inl (lt, z))) (λ z. inr (inr (lt, z))) y, λ y. ⊎_elim (λ z. absurd (omega (arith, z.0, lt))) (λ z. ⊎_elim (λ v. inl v.1) (λ v. inr v.1) z) y)) u all len).1 x),
      ))
      (made_either s0 s1 s2 s3 l h k n (MakeNumber order (λ m. start ≤ m)) (MakeNumber order (λ m. m ≤ end)) low high made)
