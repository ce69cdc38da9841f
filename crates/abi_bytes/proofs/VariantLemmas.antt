-- Formulas for variants beside a tag.
use Rattle.std.proofs.Common.{◌≡◌, ◌↔◌, ℕ, zero, suc, ◌+◌, ◌<◌, ◌≤◌, List, [], ◌∷◌, ◌⊎◌, length, get_or, arith, subst, inl, inr, ⊎_elim}
use Rattle.std.proofs.lemmas.Bool.{cases_lt}
use Rattle.automata.specs.Cell.{Cell}
use Rattle.automata.specs.Formula.{Formula, never, both, either}
use Rattle.automata.specs.Formulas.{IsMade}
use Rattle.automata.specs.Nodes.{formula_in}
use Rattle.abi_base.specs.declared.endian.Endian.{Endian}
use Rattle.abi_scalar.specs.declared.variants.TagEncoding.{TagEncoding}
use Rattle.abi_tree.specs.Nodes.{own_fields, placed_in, tagged_variants_in}
use Rattle.abi_tree.specs.Placed.{Placed, TaggedVariants}
use Rattle.abi_bytes.specs.Holding.{HoldCellsOfParts, HoldCellsOfVariant, HoldTag}
use Rattle.abi_bytes.specs.Formulas.{HoldSomeVariant, HoldVariant, IsFormula}
use Rattle.abi_bytes.proofs.FirstLemmas.{made_both, made_either, made_like, made_never}

-- the parts of a variant are those of its node
pub variant_at : (order : Endian) (done : List Placed) (vs : List (ℕ × ℕ)) (i : ℕ) (d : ℕ × ℕ) (w : List Cell) → i < length vs →
    (HoldCellsOfParts order (own_fields (placed_in done (get_or vs i d).1)) w ↔ HoldCellsOfVariant order (tagged_variants_in done vs) i w)
variant_at order done [] i d w lt = absurd (omega arith)
variant_at order done (v ∷ vs) zero d w lt = (λ h. h, λ h. h)
variant_at order done (v ∷ vs) (suc i) d w lt = variant_at order done vs i d w (omega arith)

pub variant_there : (order : Endian) (done : List Placed) (vs : List (ℕ × ℕ)) (i : ℕ) (w : List Cell) → HoldCellsOfVariant order (tagged_variants_in done vs) i w → i < length vs
variant_there order done [] i w h = absurd h
variant_there order done (v ∷ vs) zero w h = omega arith
variant_there order done (v ∷ vs) (suc i) w h = omega (arith, variant_there order done vs i w h)

module _ (order : Endian) (encoding : TagEncoding ℕ) (offset n whole : ℕ) where
  pub variant_made : (done : List Placed) (vs : List (ℕ × ℕ)) (d : ℕ × ℕ) (s0 s1 s2 s3 : List Formula) (i f g k : ℕ) → i < length vs →
      IsFormula s0 s1 whole (HoldTag order encoding offset n (tagged_variants_in done vs) i) f →
      IsFormula s1 s2 whole (HoldCellsOfParts order (own_fields (placed_in done (get_or vs i d).1))) g →
      IsMade s2 s3 (both (formula_in s2 f) (formula_in s2 g)) k → IsFormula s0 s3 whole (HoldVariant order encoding offset n (tagged_variants_in done vs) i) k
  variant_made done vs d s0 s1 s2 s3 i f g k lt one two made =
      let P : List Cell → Type 0 = HoldTag order encoding offset n (tagged_variants_in done vs) i in
      let Q : List Cell → Type 0 = HoldCellsOfParts order (own_fields (placed_in done (get_or vs i d).1)) in
      made_like s0 s3 whole k (λ u. P u × Q u) (HoldVariant order encoding offset n (tagged_variants_in done vs) i)
      (λ u all len. (λ h. (h.0, (variant_at order done vs i d u lt).0 h.1), λ h. (h.0, (variant_at order done vs i d u lt).1 h.1)))
      (made_both s0 s1 s2 s3 f g k whole P Q one two made)

  module _ (tvs : TaggedVariants) where
    pub variants_none : (start end : ℕ) (s0 s1 : List Formula) (k : ℕ) → end ≤ start → IsMade s0 s1 never k → IsFormula s0 s1 whole (HoldSomeVariant order encoding offset n tvs start end) k
    variants_none start end s0 s1 k le made =
        made_never s0 s1 whole k (HoldSomeVariant order encoding offset n tvs start end) (λ u all len h. omega (arith, h.1, h.2, le)) made

    pub variants_one : (start end : ℕ) (s0 s1 : List Formula) (k : ℕ) → end ≡ start + 1 → IsFormula s0 s1 whole (HoldVariant order encoding offset n tvs start) k →
        IsFormula s0 s1 whole (HoldSomeVariant order encoding offset n tvs start end) k
    variants_one start end s0 s1 k one is =
        made_like s0 s1 whole k (HoldVariant order encoding offset n tvs start) (HoldSomeVariant order encoding offset n tvs start end)
        (λ u all len. (
          λ h. (start, omega arith, omega (arith, one), h),
          λ h.
              let here : h.0 ≡ start = omega (arith, h.1, h.2, one) in
              subst (λ i. HoldVariant order encoding offset n tvs i u) here h.3,
        )) is

    pub variants_halves : (start middle end : ℕ) (s0 s1 s2 s3 : List Formula) (f g k : ℕ) → start ≤ middle → middle ≤ end →
        IsFormula s0 s1 whole (HoldSomeVariant order encoding offset n tvs start middle) f → IsFormula s1 s2 whole (HoldSomeVariant order encoding offset n tvs middle end) g →
        IsMade s2 s3 (either (formula_in s2 f) (formula_in s2 g)) k → IsFormula s0 s3 whole (HoldSomeVariant order encoding offset n tvs start end) k
    variants_halves start middle end s0 s1 s2 s3 f g k low high one two made =
        let P : List Cell → Type 0 = HoldSomeVariant order encoding offset n tvs start middle in
        let Q : List Cell → Type 0 = HoldSomeVariant order encoding offset n tvs middle end in
        made_like s0 s3 whole k (λ u. P u ⊎ Q u) (HoldSomeVariant order encoding offset n tvs start end)
        (λ u all len. (
          λ h. ⊎_elim (λ x. (x.0, x.1, omega (arith, x.2, high), x.3)) (λ x. (x.0, omega (arith, x.1, low), x.2, x.3)) h,
          λ h. ⊎_elim (λ lt. inl (h.0, h.1, lt, h.3)) (λ le. inr (h.0, le, h.2, h.3)) (cases_lt h.0 middle),
        ))
        (made_either s0 s1 s2 s3 f g k whole P Q one two made)
