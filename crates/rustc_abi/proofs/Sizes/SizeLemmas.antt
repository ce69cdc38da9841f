-- The sizes of types that are no list of fields: each is the one that its rule says.
use Rattle.std.proofs.Common.{◌≡◌, ℕ, ◌*◌, ◌^◌, Bool, true, false, List, map, ap, sym, ◌∙◌, subst, arith, refl}
use Rattle.std.proofs.Common.{Ok, Err}
use Rattle.std.specs.Prelude.{nat_lt, if◌then◌else◌}
use Rattle.std.specs.Int.{next_multiple_of}
use Rattle.std.proofs.lemmas.List.{length-map}
use Rattle.abi_base.specs.declared.data_layout.TargetDataLayout.{TargetDataLayout}
use Rattle.abi_base.specs.DataLayout.{IsLawfulDataLayout, size_bound}
use Rattle.abi_scalar.specs.declared.repr.ReprOptions.{ReprOptions}
use Rattle.abi_scalar.specs.declared.scalar.Scalar.{Scalar}
use Rattle.abi_scalar.specs.Pair.{pair_size}
use Rattle.abi_scalar.specs.Simple.{never_layout, unit_layout}
use Rattle.abi_univariant.specs.Array.{elements_layout}
use Rattle.abi_univariant.specs.Simd.{lanes_align, lanes_answer, simd_align, simd_answer, simd_view, vector_layout}
use Rattle.abi_univariant.specs.Simd.{vector_size}
use Rattle.abi_univariant.specs.Union.{union_size}
use Rattle.abi_univariant.proofs.UnionsVectors.VectorLemmas.{lanes_are}
use Rattle.abi_tree.specs.Tree.{Tree, scalar, pair, never, unit, array, vector, union, Trees}
use Rattle.abi_tree.specs.declared.mark.Mark.TheVariants.{Never, Unit}
use Rattle.abi_tree.specs.Placed.{Placed, layout_of, size_of, elements, fields, no_parts, never as placed_never}
use Rattle.abi_scalar.specs.Layout.{Layout}
use Rattle.abi_tree.specs.Placed.{vector as placed_vector}
use Rattle.rustc_abi.specs.declared.error.LayError.TheVariants.{SizeOverflow}
use Rattle.rustc_abi.specs.Error.{named}
use Rattle.rustc_abi.specs.ScalarFault.{scalar_fault}
use Rattle.rustc_abi.specs.Laying.{IsLaying, IsUnited, elements_answer, lanes_of, one_scalar, pair_answer, placed_by}
use Rattle.rustc_abi.specs.Laying.{placed_together, scalar_answer, two_scalars, unless, vector_answer}
use Rattle.rustc_abi.specs.Least.{IsLeast}
use Rattle.rustc_abi.proofs.Unions.CalcLemmas.{after_ok, chosen_ok, named-ok, united_layout}
use Rattle.rustc_abi.proofs.Sizes.EnumSizeLemmas.{fields_back}
use Rattle.rustc_abi.proofs.Trees.LaidLemmas.{fitted, no_fault, placed_back}
use Rattle.abi_scalar.specs.declared.error.LayoutCalculatorError.TheVariants as calculator

-- elements that are laid out
pub elements_there : (b : Bool) (count : ℕ) (layout : Layout) (q p : Placed)
    → Ok p ≡ placed_by (λ l. elements l count q) (named {H = ℕ} (if b then Ok layout else Err calculator.SizeOverflow))
    → elements layout count q ≡ p
elements_there true count layout q p e = cc
elements_there false count layout q p e = absurd (cc)

module _ (dl : TargetDataLayout) (law : IsLawfulDataLayout dl) where
  pub sized_scalar : (s : Scalar) (p : Placed) → Ok p ≡ scalar_answer dl s → IsLeast dl (scalar s) p
  sized_scalar s p e =
      let one = no_fault dl law (scalar_fault dl s) (Ok (one_scalar dl s)) p e in
      let there : Ok p ≡ Ok (one_scalar dl s) = one.1 in
      let same : one_scalar dl s ≡ p = cc in
      subst (IsLeast dl (scalar s)) same refl

  pub sized_pair : (a b : Scalar) (p : Placed) → Ok p ≡ pair_answer dl a b → IsLeast dl (pair a b) p
  sized_pair a b p e =
      let one = no_fault dl law (scalar_fault dl a) (unless (scalar_fault dl b)
      (if nat_lt (pair_size dl a b) (size_bound dl) then Ok (two_scalars dl a b) else Err SizeOverflow)) p e in
      let two = no_fault dl law (scalar_fault dl b) (if nat_lt (pair_size dl a b) (size_bound dl) then Ok
      (two_scalars dl a b) else Err SizeOverflow) p one.1 in
      let fits = fitted dl law (nat_lt (pair_size dl a b) (size_bound dl)) (two_scalars dl a b) p SizeOverflow two.1 in
      subst (IsLeast dl (pair a b)) (sym fits.1) refl

  pub sized_never : (p : Placed) → IsLaying dl never (Ok p) → IsLeast dl never p
  sized_never p e = let same : placed_never (never_layout dl) Never ≡ p = cc in subst (IsLeast dl never) same refl

  pub sized_unit : (p : Placed) → IsLaying dl unit (Ok p) → IsLeast dl unit p
  sized_unit p e = let same : fields (unit_layout 0 dl true) Unit no_parts ≡ p = cc in subst (IsLeast dl unit) same refl

  pub sized_elements : (count : ℕ) (element : Tree) (q p : Placed) → Ok p ≡ elements_answer dl count q
      → IsLeast dl (array count element) p
  sized_elements count element q p e =
      subst (IsLeast dl (array count element)) (elements_there (nat_lt (size_of q * count) (size_bound dl)) count
      (elements_layout 0 true count (layout_of q)) q p e) refl

  -- a vector's bytes are rounded up to its alignment
  lanes_sized : (element layout : Layout) (count : ℕ) (packed : Bool) → simd_answer {H =
      Layout} (λ l. l) 0 0 dl element count packed ≡ Ok layout → layout.size ≡ vector_size dl element count packed
  lanes_sized element layout count packed e =
      let whole = after_ok (lanes_answer {H = Layout} (λ l. l) (size_bound dl) element count) _ layout e in
      let lanes = whole.0 in
      let are = lanes_are {H = Layout} (λ l. l) (size_bound dl) element count lanes (sym whole.1) in
      let made = vector_layout 0 0 element (simd_view packed lanes) lanes.size
      (simd_align dl packed lanes) lanes.count in
      let last = chosen_ok (nat_lt made.size (size_bound dl)) made layout calculator.SizeOverflow whole.2 in
      let bytes : lanes.size ≡ element.size * count = are.size ∙ ap (λ n. element.size * n) are.count_is in
      ap (λ (l : Layout). l.size) (sym last.1)
      ∙ ap (λ n. next_multiple_of n (2 ^ lanes_align dl packed lanes.count n)) bytes
      ∙ ap (λ k. next_multiple_of (element.size * count) (2 ^ lanes_align dl packed k (element.size * count)))
      are.count_is

  pub sized_vector : (lanes : ℕ) (packed : Bool) (element : Tree) (q p : Placed)
      → Ok p ≡ vector_answer dl lanes packed q → IsLeast dl (vector lanes packed element) p
  sized_vector lanes packed element q p e =
      let found = placed_back dl law (λ layout. placed_vector layout (lanes_of lanes q))
      (named (simd_answer {H = Layout} (λ l. l) 0 0 dl (layout_of q) lanes packed)) p e in
      subst (IsLeast dl (vector lanes packed element)) found.2
      (lanes_sized (layout_of q) found.0 lanes packed (named-ok _ found.0 found.1))

  pub sized_union : (repr : ReprOptions) (all : Trees) (ps : List Placed) (layout : Layout)
      → IsUnited dl repr (map layout_of ps) (Ok layout) → IsLeast dl (union repr all) (placed_together repr ps layout)
  sized_union repr all ps layout united =
      let made = united_layout dl repr (map layout_of ps) layout united in
      let size : layout.size ≡ union_size dl repr (map layout_of ps) = ap (λ l. l.size) made.1 in
      subst (λ qs. layout.size ≡ union_size dl repr (map layout_of qs))
      (sym (fields_back (map (λ q. 0) ps) ps (omega (arith, length-map {B = ℕ} ps (λ q. 0))))) size
