-- What decides: the bytes of a value that covers a place, and these with another one there.
use Rattle.std.proofs.Common.{◌≡◌, ℕ, zero, suc, ◌<◌, List, true, length, get_or, set, Some, arith, sym, ap, ◌∙◌, subst, ⊎_elim}
use Rattle.std.specs.Prelude.{◌≢◌}
use Rattle.std.proofs.lemmas.Bool.{cases_eq}
use Rattle.std.proofs.lemmas.List.{get_or-set_same, get_or-set_other, length-set}
use Rattle.abi_base.specs.declared.endian.Endian.{Endian}
use Rattle.abi_base.specs.declared.data_layout.TargetDataLayout.{TargetDataLayout}
use Rattle.abi_tree.specs.declared.laid.Laid.{Laid}
use Rattle.abi_tree.specs.Tree.{Tree}
use Rattle.abi_tree.specs.Value.{Value}
use Rattle.abi_tree.specs.Bytes.{AreBytes}
use Rattle.abi_tree.specs.Placed.{Placed, size_of}
use Rattle.abi_tree.specs.Places.{is_data_place}
use Rattle.abi_tree.specs.Holding.{Holds}
use Rattle.abi_tree.specs.Laid.{endian_of, placed_of}
use Rattle.abi_tree.specs.Covering.{is_covered}
use Rattle.abi_tree.specs.Deciding.{Decide, DifferAt, KeepsPlaces, covering_value}
use Rattle.abi_tree.specs.Putting.{PutsCovering}
use Rattle.abi_tree.proofs.Deciding.AgreeLemmas.{covered_decides}
use Rattle.abi_tree.proofs.Bytes.HoldLemmas.{length-Holds}
use Rattle.abi_tree.proofs.Written.WrittenLemmas.{value_held}

-- bytes that hold a value which covers the place, and others with another byte there
pub decide_at : (order : Endian) (p : Placed) (v : Value) (k : ℕ) (a b : List ℕ) → AreBytes a → AreBytes b → Holds order p a v → is_covered p v k ≡ true → DifferAt k a b → Decide order p k a b
decide_at order p v k a b of_a of_b held covered differ = (v, held, differ, covered_decides order p v k covered a b of_a of_b held differ.here)

-- what was put of the value that is chosen for a data place holds it
pub put_decides : (dl : TargetDataLayout) (tree : Tree) (laid : Laid) → KeepsPlaces dl tree laid → (k : ℕ) → is_data_place (placed_of laid) k ≡ true → (old a b : List ℕ) → length a ≡ size_of (placed_of laid) →
    AreBytes a → AreBytes b → PutsCovering (endian_of laid) 0 old a (Some k) (placed_of laid) → DifferAt k a b → Decide (endian_of laid) (placed_of laid) k a b
put_decides dl tree laid keeps k place old a b long of_a of_b put differ =
    let v : Value = covering_value (placed_of laid) (Some k) in
    decide_at (endian_of laid) (placed_of laid) v k a b of_a of_b (value_held dl tree laid keeps.values v old a long (keeps.value k place) put) (keeps.covers k place) differ

-- ---- each data place decides, where some value covers it and is held

-- a number that isn't this one
abbrev other_byte : ℕ → ℕ
other_byte zero = 1
other_byte (suc n) = 0

other_differs : (n : ℕ) → n ≢ other_byte n
other_differs zero e = let clash : 0 ≡ 1 = e in absurd (omega (arith, clash))
other_differs (suc n) e = let clash : suc n ≡ 0 = e in absurd (omega (arith, clash))

other_small : (n : ℕ) → other_byte n < 256
other_small zero = let small : 1 < 256 = omega arith in small
other_small (suc n) = let small : 0 < 256 = omega arith in small

-- the same bytes with another one at a place
changed : (k : ℕ) (b : List ℕ) → k < length b → AreBytes b → (w : List ℕ) × AreBytes w × DifferAt k b w
changed k b lt all =
    let x : ℕ = other_byte (get_or b k 0) in
    let w : List ℕ = set b k x in
    let here : (d : ℕ) → get_or w k d ≡ x = λ d. get_or-set_same b k x d lt in (
      w,
      λ i d short.
          ⊎_elim
          (λ (same : i ≡ k). subst (λ n. n < 256) (sym (ap (λ j. get_or w j d) same ∙ here d)) (other_small (get_or b k 0)))
          (λ (other : i ≢ k). subst (λ n. n < 256) (sym (get_or-set_other b k i x d other)) (all i d (omega (arith, short, length-set b k x))))
          (cases_eq i k),
      record {
        long = length-set b k x;
        here = λ same. other_differs (get_or b k 0) (same ∙ here 0);
        elsewhere = λ j other. get_or-set_other b k j x 0 other;
      },
    )

pub each_decides : (order : Endian) (p : Placed) (k : ℕ) (v : Value) (b : List ℕ) → AreBytes b → Holds order p b v → is_covered p v k ≡ true → k < size_of p →
    (a w : List ℕ) × AreBytes a × AreBytes w × Decide order p k a w
each_decides order p k v b all held covered lt =
    let next = changed k b (omega (arith, lt, length-Holds order p b v held)) all in
    (b, next.0, all, next.1, decide_at order p v k b next.0 all next.1 held covered next.2)
