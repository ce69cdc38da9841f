-- Each array that was laid out is one as the Reference has it.
use Rattle.std.proofs.Common.{◌≡◌, ℕ, ◌*◌, Bool, true, false, Ok, Err, refl, subst, inl, inr, arith}
use Rattle.std.specs.Prelude.{if◌then◌else◌, nat_lt}
use Rattle.abi_base.specs.declared.data_layout.TargetDataLayout.{TargetDataLayout}
use Rattle.abi_base.specs.DataLayout.{size_bound}
use Rattle.abi_scalar.specs.declared.error.LayoutCalculatorError.TheVariants as calculator
use Rattle.abi_univariant.specs.Array.{elements_layout}
use Rattle.abi_tree.specs.Tree.{Tree, array}
use Rattle.abi_tree.specs.Placed.{Placed, elements, layout_of, size_of}
use Rattle.abi_scalar.specs.Layout.{Layout}
use Rattle.rustc_abi.specs.Error.{named}
use Rattle.rustc_abi.specs.Laying.{IsLaying, placed_by}
use Rattle.guarantees.specs.Reference.Arrays.{IsArray}

pub elements_there : (b : Bool) (count : ℕ) (layout : Layout) (q p : Placed)
    → Ok p ≡ placed_by (λ l. elements l count q) (named {H = ℕ} (if b then Ok layout else Err calculator.SizeOverflow))
    → elements layout count q ≡ p
elements_there true count layout q p e = cc
elements_there false count layout q p e = absurd (cc)

commutes : (m n : ℕ) → m * n ≡ n * m
commutes m n = omega arith

elements_documented : (count : ℕ) (element : Tree) (q : Placed)
    → IsArray (array count element) (elements (elements_layout 0 true count (layout_of q)) count q)
elements_documented count element q = (
  refl,
  refl,
  record {
    size = refl;
    align = refl;
    offsets = λ n lt. commutes (size_of q) n;
  },
)

pub laid_array : (dl : TargetDataLayout) (t : Tree) (p : Placed) → IsLaying dl t (Ok p) → IsArray t p
laid_array dl (array count element) p (inl f) = absurd (cc f.2)
laid_array dl (array count element) p (inr (q, there, e)) =
    subst (IsArray (array count element))
    (elements_there (nat_lt (size_of q * count) (size_bound dl)) count (elements_layout 0 true count (layout_of q)) q p e)
    (elements_documented count element q)
laid_array dl _ p h = tt
